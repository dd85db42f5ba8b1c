-- What begins with no quote and no line feed, and in ASCII, has no line feed.
use Rattle.std.proofs.Common.{◌≡◌, ℕ, zero, suc, ◌+◌, ◌<◌, true, false}
use Rattle.std.proofs.Common.{List, [], ◌∷◌, length, get_or, take, arith, sym, ap, ◌∙◌, refl, ⊎_elim}
use Rattle.std.proofs.Common.{cond}
use Rattle.std.proofs.lemmas.Bool.Decides.{nat_tests}
use Rattle.std.specs.List.{count_by}
use Rattle.bean_lexer.specs.TokenForm.{is_text}
use Rattle.bean_lexer.specs.KindForm.{is_of}
use Rattle.bean_lexer.specs.Gap.{is_line_feed}
use Rattle.bean_lexer.specs.Lookahead.{begins_on_line}
use Rattle.bean_lexer.specs.Tokens.{IsToken}
use Rattle.bean_lexer.specs.declared.kind.Kind.{Kind}
use Rattle.bean_lexer.specs.declared.kind.Kind.TheVariants as kinds
use Rattle.bean_lexer.proofs.LineFeedFacts.{no_feeds, spans_none}
use Rattle.bean_lexer.proofs.WordFacts.{ascii_reach}

text_first : (b : ℕ) (bs : List ℕ) → is_text (b ∷ bs) ≡ true → b ≡ 34
text_first b bs h = grind (arith, nat_tests)

no_text : (bs : List ℕ) (n : ℕ) → begins_on_line (get_or bs 0 0) ≡ true
    → is_text (take n bs) ≡ true → ⊥
no_text bs zero first h = absurd (cc)
no_text [] (suc n) first h = absurd (cc)
no_text (b ∷ bs) (suc n) first h = let q = text_first b (take n bs) h in
    absurd (grind (arith, nat_tests))

is_no_text : (bs : List ℕ) (kind : Kind) (n : ℕ) → begins_on_line (get_or bs 0 0) ≡ true
    → is_of kind (take n bs) ≡ true → kind ≡ kinds.Text → ⊥
is_no_text bs kind n first h is =
    no_text bs n first (sym (ap (λ k. is_of k (take n bs)) is) ∙ h)

is_no_fault : (bs : List ℕ) (kind : Kind) (n : ℕ) → is_of kind (take n bs) ≡ true
    → kind ≡ kinds.Fault → ⊥
is_no_fault bs kind n h is = let e = ap (λ k. is_of k (take n bs)) is in absurd (cc)

pub first_alone : (bs : List ℕ) → is_line_feed (get_or bs 0 0) ≡ false
    → count_by is_line_feed (take 1 bs) ≡ 0
first_alone [] h = refl
first_alone (b ∷ bs) h = ap (λ t. 0 + cond t 1 0) h

fault_alone : (bs : List ℕ) (n : ℕ) → n ≡ 1 → is_line_feed (get_or bs 0 0) ≡ false
    → count_by is_line_feed (take n bs) ≡ 0
fault_alone bs n one h = ap (λ k. count_by is_line_feed (take k bs)) one ∙ first_alone bs h

pub none_by_first : (bs : List ℕ) (kind : Kind) (n : ℕ) → 0 < length bs
    → begins_on_line (get_or bs 0 0) ≡ true → IsToken bs kind n
    → count_by is_line_feed (take n bs) ≡ 0
none_by_first bs kind n some first token =
    ⊎_elim (λ longest.
    no_feeds kind (take n bs) (spans_none kind (is_no_text bs kind n first longest.of_kind)
    (is_no_fault bs kind n longest.of_kind)) longest.of_kind)
    (λ fault.
    let one = ascii_reach bs some (grind (arith, nat_tests)) (grind (arith, nat_tests)) in
    fault_alone bs n (fault.reach ∙ sym one) (grind (arith, nat_tests))) token
