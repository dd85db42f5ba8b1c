use Rattle.std.proofs.Common.{arith, sym, ap, ◌∙◌, refl, subst}
use Rattle.std.specs.List.{count_by}
use Rattle.bean_lexer.specs.Gap.{is_line_feed}
use Rattle.bean_lexer.specs.NoKeys.{NoKeys}
use Rattle.bean_lexer.proofs.NoKeysFacts.{no_keys_behind}
use Rattle.bean_lexer.proofs.TokensFacts.{IsAt, Parts, Feeds, is_behind, token_to_come}
use Rattle.expected_tokens.proofs.taking.take.Goals as goal

pub invariant_of-lexer : goal.invariant_of-lexer
invariant_of-lexer c =
    let lexer = c.args.lexer.now in
    let gap = c.requires.gap in
    let inside = gap.inside in
    let token_inside = c.split_at.ensures.back_len in
    let at : IsAt lexer.text.now lexer.rest.now lexer.line =
    record { inside = lexer.inside; is_rest = lexer.is_rest; is_line = lexer.is_line } in
    let parts :
    Parts lexer.rest.now c.args.gap.len c.args.behind.now c.split_at.result.0.now
    c.args.found.len c.split_at.result.1.now = record {
      gap_inside = inside;
      behind_is = c.requires.behind;
      inside = omega arith;
      token_is = c.split_at.ensures.front;
      after_is = c.split_at.ensures.back;
    } in
    let count :
    Feeds lexer.rest.now c.split_at.result.0.now c.args.gap.len c.args.gap.line_feeds
    c.args.found.line_feeds = record {
      of_gap = gap.feeds;
      of_token = c.requires.found.feeds ∙ ap (count_by is_line_feed) (sym c.split_at.ensures.front);
    } in
    let next =
    is_behind lexer.text.now lexer.rest.now lexer.line _ _ _ c.args.behind.now
    c.split_at.result.0.now _ c.split_at.result.1.now at parts count in
    record {
      inside = next.inside;
      is_rest = next.is_rest;
      is_line = next.is_line;
      no_keys = subst (λ l. NoKeys l c.args.keyless) (sym parts.after_is)
          (no_keys_behind c.args.behind.now c.args.found.len c.args.keyless c.requires.no_keys);
    }

pub returns-clause-tokens : goal.returns-clause-tokens
returns-clause-tokens c =
    let lexer = c.args.lexer.now in
    let gap = c.requires.gap in
    let inside = gap.inside in
    let token_inside = c.split_at.ensures.back_len in
    let at : IsAt lexer.text.now lexer.rest.now lexer.line =
    record { inside = lexer.inside; is_rest = lexer.is_rest; is_line = lexer.is_line } in
    let parts :
    Parts lexer.rest.now c.args.gap.len c.args.behind.now c.split_at.result.0.now
    c.args.found.len c.split_at.result.1.now = record {
      gap_inside = inside;
      behind_is = c.requires.behind;
      inside = omega arith;
      token_is = c.split_at.ensures.front;
      after_is = c.split_at.ensures.back;
    } in
    let count :
    Feeds lexer.rest.now c.split_at.result.0.now c.args.gap.len c.args.gap.line_feeds
    c.args.found.line_feeds = record {
      of_gap = gap.feeds;
      of_token = c.requires.found.feeds ∙ ap (count_by is_line_feed) (sym c.split_at.ensures.front);
    } in
    rw c.new.ensures
    (token_to_come lexer.text.now lexer.rest.now lexer.line _ _ _ _ c.args.behind.now _ _ _ _
    c.split_at.result.1.now at parts count gap.gap refl c.requires.some c.requires.found.token
    gap.place)
