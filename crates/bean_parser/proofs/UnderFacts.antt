-- Lines that are taken under the first one of a transaction.
use Rattle.std.proofs.Common.{◌≡◌, ◌<◌, ◌≤◌, true, false, Bool, List, [], ◌∷◌, ◌++◌, map, refl, sym, ◌∙◌}
use Rattle.std.proofs.Common.{ap, subst, append_assoc, arith, Option, Some, None}
use Rattle.std.specs.Prelude.{MatchOption, IfSome, if◌then◌else◌}
use Rattle.std.specs.List.{find}
use Rattle.std.specs.Option.{option_map}
use Rattle.std.proofs.lemmas.List.{append-nil, map-append}
use Rattle.theory.specs.Cut.{cut_before}
use Rattle.bean_lexer.specs.ToCome.{ToCome, EndsLines}
use Rattle.bean_lexer.specs.declared.kind.Place.TheVariants.{Indented}
use Rattle.bean_lexer.specs.declared.lexer.Lexer.{Lexer}
use Rattle.bean_lexer.specs.declared.token.Token.{Token}
use Rattle.bean_postings.specs.declared.posting.Posting.{Posting}
use Rattle.bean_parser.specs.Block.{Line, lines, line_of, begins_block, begins_block_at}
use Rattle.bean_parser.specs.Block.{begins_line, begins_line_at, fault_line, is_fault_token}
use Rattle.bean_parser.specs.Plain.{IsPostingBehind, TakesUnder, TakesToken, TakesPostings}
use Rattle.bean_parser.specs.Taking.{NoneOf, Starts, TakesInside, left_of}
use Rattle.bean_parser.specs.Under.{AreLines, IsLine, said_posting}
use Rattle.bean_parser.specs.declared.under.LineKind.{LineKind}
use Rattle.bean_parser.proofs.TakingFacts.{cut_off, cut_append, none_of_both, no_block_begins}

-- Lines, and others behind them.

are_both : (ls ms : List Line) (ks js : List LineKind) → AreLines true ls ks → AreLines true ms js
    → AreLines true (ls ++ ms) (ks ++ js)
are_both [] ms ks js are more = subst (λ x. AreLines true ms (x ++ js)) (sym are) more
are_both (l ∷ ls) ms [] js are more = absurd are
are_both (l ∷ ls) ms (k ∷ ks) js are more = (are.0, are_both ls ms ks js are.1 more)

lines_both : (under more : List Token) → Starts begins_line more
    → lines (under ++ more) ≡ lines under ++ lines more
lines_both under more starts =
    ap (map line_of) (cut_append begins_line under more starts)
    ∙ map-append line_of (cut_before begins_line under) (cut_before begins_line more)

starts_both : (begins : Token → Bool) (xs ys : List Token) → Starts begins xs → Starts begins ys
    → Starts begins (xs ++ ys)
starts_both begins [] ys starts more = more
starts_both begins (x ∷ xs) ys starts more = starts

one_line : (x : Token) (others : List Token) → NoneOf begins_line others
    → lines (x ∷ others) ≡ line_of (x ∷ others) ∷ []
one_line x others none =
    ap lines (ap (λ ts. x ∷ ts) (sym (append-nil others)))
    ∙ ap (map line_of) (cut_off begins_line x others [] none tt)

-- Lines that are taken.

pub none_taken : (lexer : Lexer) → TakesUnder lexer lexer []
none_taken lexer = record {
  under = [];
  said = refl;
  starts = tt;
  none_begins = tt;
  no_fault = tt;
  to_come = λ ts h. h;
  no_longer = omega arith;
}

pub both_taken : (before mid after : Lexer) (ks js : List LineKind) → TakesUnder before mid ks
    → TakesUnder mid after js → TakesUnder before after (ks ++ js)
both_taken before mid after ks js taken more =
    let fewer = taken.no_longer in
    let still_fewer = more.no_longer in
    record {
      under = taken.under ++ more.under;
      said =
          subst (λ ls. AreLines true ls (ks ++ js))
          (sym (lines_both taken.under more.under more.starts))
          (are_both (lines taken.under) (lines more.under) ks js taken.said more.said);
      starts = starts_both begins_line taken.under more.under taken.starts more.starts;
      none_begins =
          none_of_both begins_block taken.under more.under taken.none_begins more.none_begins;
      no_fault = none_of_both is_fault_token taken.under more.under taken.no_fault more.no_fault;
      to_come = λ ts h. subst (ToCome before) (sym (append_assoc taken.under more.under ts))
          (taken.to_come (more.under ++ ts) (more.to_come ts h));
      no_longer = omega (arith, fewer, still_fewer);
    }

-- one line, from its first token and the others
pub line_taken :
    (before mid after : Lexer) (first : Token) (others : List Token) (k : LineKind)
    → TakesToken first before mid → first.place ≡ Indented → NoneOf begins_line others
    → NoneOf is_fault_token (first ∷ others)
    → ((ts : List Token) → ToCome after ts → ToCome mid (others ++ ts))
    → left_of after ≤ left_of mid → IsLine true (line_of (first ∷ others)) k
    → TakesUnder before after (k ∷ [])
line_taken before mid after first others k next place inside no_fault to_come fewer is =
    let shorter = next.shorter in
    record {
      under = first ∷ others;
      said = subst (λ ls. AreLines true ls (k ∷ [])) (sym (one_line first others inside)) (is, refl);
      starts = ap begins_line_at place;
      none_begins = (ap begins_block_at place, no_block_begins others inside);
      no_fault = no_fault;
      to_come = λ ts h. next.to_come (others ++ ts) (to_come ts h);
      no_longer = omega (arith, shorter, fewer);
    }

-- Lines of tokens without a fault.

none_from_by : (t : Token) (ts : List Token) (b : Bool) → is_fault_token t ≡ b
    → fault_line (t ∷ ts) ≡ None → (is_fault_token t ≡ false) × (fault_line ts ≡ None)
none_from_by t ts true e none =
    absurd (let some = ap (λ b. option_map (λ t. t.line) (if b then Some t else find is_fault_token ts)) e in cc)
none_from_by t ts false e none =
    (e, sym (ap (λ b. option_map (λ t. t.line) (if b then Some t else find is_fault_token ts)) e) ∙ none)

pub none_from : (ts : List Token) → fault_line ts ≡ None → NoneOf is_fault_token ts
none_from [] none = tt
none_from (t ∷ ts) none =
    let both = none_from_by t ts (is_fault_token t) refl none in (both.0, none_from ts both.1)

pub other_taken :
    (before mid after : Lexer) (first : Token) (one line : List Token) (k : LineKind)
    → TakesToken first before mid → first.place ≡ Indented → one ≡ first ∷ []
    → TakesInside mid one after line → fault_line line ≡ None → IsLine true (line_of line) k
    → TakesUnder before after (k ∷ [])
other_taken before mid after first one line k next place alone taken no_fault is =
    let whole : line ≡ first ∷ taken.others = taken.put ∙ ap (λ xs. xs ++ taken.others) alone in
    line_taken before mid after first taken.others k next place taken.inside
    (subst (NoneOf is_fault_token) whole (none_from line no_fault)) taken.to_come taken.no_longer
    (subst (λ l. IsLine true (line_of l) k) whole is)

-- Postings.

pub posting_next :
    (before mid after : Lexer) (first : Token) (next : Option Posting)
    → ((ts : List Token) → ToCome mid ts → ToCome before (first ∷ ts)) → first.place ≡ Indented
    → left_of mid < left_of before → IfSome next (IsPostingBehind first mid after)
    → IfSome next (λ _. left_of after ≤ left_of mid)
    → IfSome next (λ p. TakesUnder before after (said_posting p ∷ []))
posting_next before mid after first None to_come place shorter behind fewer = tt
posting_next before mid after first (Some p) to_come place shorter behind fewer =
    line_taken before mid after first behind.others (said_posting p) (record {
      to_come = to_come;
      shorter = shorter;
    }) place behind.inside behind.no_fault behind.to_come fewer (refl, behind.said)

pub posting_more : (before mid after : Lexer) (ps : List Posting) (p : Posting)
    → TakesUnder before mid (map said_posting ps) → TakesUnder mid after (said_posting p ∷ [])
    → TakesUnder before after (map said_posting (ps ++ p ∷ []))
posting_more before mid after ps p taken next =
    subst (TakesUnder before after) (sym (map-append said_posting ps (p ∷ [])))
    (both_taken before mid after (map said_posting ps) (said_posting p ∷ []) taken next)

pub postings_end : (before mid after : Lexer) (ps : List Posting) (next : Option Token)
    → TakesUnder before mid (map said_posting ps)
    → MatchOption next (EndsLines mid × (after ≡ mid))
    (λ t. (ts : List Token) → ToCome after ts → ToCome mid (t ∷ ts))
    → IfSome next (λ _. left_of after < left_of mid) → TakesPostings next ps before after
postings_end before mid after ps None taken ends shorter =
    subst (λ l. TakesPostings None ps before l) (sym ends.1) (taken, ends.0)
postings_end before mid after ps (Some t) taken next shorter =
    (mid, taken, record { to_come = next; shorter = shorter })
