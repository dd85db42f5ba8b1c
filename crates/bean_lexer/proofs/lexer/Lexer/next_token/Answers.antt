use Rattle.std.proofs.Common.{◌≡◌, nat_eq, false, ◌+◌, ◌<◌, length, take, arith, sym, ap, subst}
use Rattle.std.proofs.Common.{◌∙◌, refl, IsUtf8}
use Rattle.std.proofs.lemmas.Bool.Decides.{nat_tests}
use Rattle.std.specs.List.{count_by}
use Rattle.std.specs.Str.{IsCharBoundary}
use Rattle.std.proofs.lemmas.Str.{IsCharBoundary-start}
use Rattle.bean_lexer.specs.Gap.{is_line_feed, gap_len, behind_gap, place_of}
use Rattle.bean_lexer.specs.NoKeys.{NoKeys}
use Rattle.bean_lexer.specs.Tokens.{IsToken}
use Rattle.bean_lexer.proofs.BoundaryFacts.{gap_boundary}
use Rattle.bean_lexer.proofs.NoKeysFacts.{no_keys_behind}
use Rattle.bean_lexer.proofs.TokensFacts.{IsAt, Parts, Feeds, is_behind, token_to_come}
use Rattle.bean_lexer.proofs.lexer.Lexer.next_token.Goals as goal

pub split_at-requires : goal.split_at-requires
split_at-requires c =
    let rest = c.args.self.now.rest.now in
    let seen = c.as_bytes.ensures.value in
    let utf8 = subst IsUtf8 seen c.as_bytes.ensures.utf8 in
    let gap : c.gap_at-gap.result.len ≡ 0 + gap_len c.at-spot.result rest = let l =
    c.gap_at-gap.ensures.len in let s = ap (gap_len c.at-spot.result) seen in omega arith in
    subst (IsCharBoundary rest) (sym gap)
    (gap_boundary rest rest 0 c.at-spot.result refl (omega arith) utf8
    (λ _. IsCharBoundary-start rest utf8))

pub invariant_of-self : goal.invariant_of-self
invariant_of-self c =
    let lexer = c.args.self.now in
    let seen = c.as_bytes.ensures.value in
    let same = c.as_bytes-2.ensures.value in
    let gap = c.gap_at-gap.ensures in
    let inside = gap.inside in
    let same_length = ap length seen in
    let token_inside = c.split_at-2.ensures.back_len in
    let at : IsAt lexer.text.now lexer.rest.now lexer.line =
    record { inside = lexer.inside; is_rest = lexer.is_rest; is_line = lexer.is_line } in
    let parts :
    Parts lexer.rest.now c.gap_at-gap.result.len c.split_at.result.1.now
    c.split_at-2.result.0.now c.token_at-found.result.len c.split_at-2.result.1.now = record {
      gap_inside = omega arith;
      behind_is = c.split_at.ensures.back;
      inside = omega arith;
      token_is = c.split_at-2.ensures.front;
      after_is = c.split_at-2.ensures.back;
    } in
    let count :
    Feeds lexer.rest.now c.split_at-2.result.0.now c.gap_at-gap.result.len
    c.gap_at-gap.result.line_feeds c.token_at-found.result.line_feeds = record {
      of_gap = gap.line_feeds
          ∙ ap (λ l. count_by is_line_feed (take c.gap_at-gap.result.len l)) seen;
      of_token = c.token_at-found.ensures.feeds
          ∙ ap (λ l. count_by is_line_feed (take c.token_at-found.result.len l)) same
          ∙ ap (count_by is_line_feed) (sym c.split_at-2.ensures.front);
    } in
    let next =
    is_behind lexer.text.now lexer.rest.now lexer.line _ _ _ c.split_at.result.1.now
    c.split_at-2.result.0.now _ c.split_at-2.result.1.now at parts count in
    record {
      inside = next.inside;
      is_rest = next.is_rest;
      is_line = next.is_line;
      no_keys = subst (λ l. NoKeys l c.token_at-found.new.keyless) (sym parts.after_is)
          (no_keys_behind c.split_at.result.1.now c.token_at-found.result.len _
          (subst (λ l. NoKeys l c.token_at-found.new.keyless) same c.token_at-found.ensures.no_keys));
    }

pub returns-clause-tokens : goal.returns-clause-tokens
returns-clause-tokens c =
    let lexer = c.args.self.now in
    let seen = c.as_bytes.ensures.value in
    let same = c.as_bytes-2.ensures.value in
    let gap = c.gap_at-gap.ensures in
    let inside = gap.inside in
    let same_length = ap length seen in
    let token_inside = c.split_at-2.ensures.back_len in
    let at : IsAt lexer.text.now lexer.rest.now lexer.line =
    record { inside = lexer.inside; is_rest = lexer.is_rest; is_line = lexer.is_line } in
    let parts :
    Parts lexer.rest.now c.gap_at-gap.result.len c.split_at.result.1.now
    c.split_at-2.result.0.now c.token_at-found.result.len c.split_at-2.result.1.now = record {
      gap_inside = omega arith;
      behind_is = c.split_at.ensures.back;
      inside = omega arith;
      token_is = c.split_at-2.ensures.front;
      after_is = c.split_at-2.ensures.back;
    } in
    let count :
    Feeds lexer.rest.now c.split_at-2.result.0.now c.gap_at-gap.result.len
    c.gap_at-gap.result.line_feeds c.token_at-found.result.line_feeds = record {
      of_gap = gap.line_feeds
          ∙ ap (λ l. count_by is_line_feed (take c.gap_at-gap.result.len l)) seen;
      of_token = c.token_at-found.ensures.feeds
          ∙ ap (λ l. count_by is_line_feed (take c.token_at-found.result.len l)) same
          ∙ ap (count_by is_line_feed) (sym c.split_at-2.ensures.front);
    } in
    let some : 0 < length c.split_at.result.1.now = let e :
    nat_eq (length c.split_at.result.1.now) 0 ≡ false =
    sym c.is_empty.ensures ∙ c.if-is_empty.false in grind (arith, nat_tests) in
    rw c.new.ensures
    (token_to_come lexer.text.now lexer.rest.now lexer.line _ _ _ _
    c.split_at.result.1.now _ _ _ _ c.split_at-2.result.1.now at parts count
    (gap.len ∙ ap (gap_len _) seen ∙ ap (λ s. gap_len s lexer.rest.now) c.at-spot.ensures)
    refl
    some (subst (λ l. IsToken l c.token_at-found.result.kind c.token_at-found.result.len) same
    c.token_at-found.ensures.token)
    (gap.place ∙ ap (λ l. place_of (behind_gap c.at-spot.result l)) seen
    ∙ ap (λ s. place_of (behind_gap s lexer.rest.now)) c.at-spot.ensures))
