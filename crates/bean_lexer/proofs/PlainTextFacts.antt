-- A text in one line, without an escape.
use Rattle.std.proofs.Common.{◌≡◌, ℕ, suc, ◌+◌, ◌<◌, Bool, true, false, cond, List, [], ◌∷◌}
use Rattle.std.proofs.Common.{length, get_or, take, drop, arith, sym, ap, ◌∙◌, refl}
use Rattle.std.proofs.lemmas.Bool.Decides.{nat_tests}
use Rattle.std.proofs.lemmas.List.{get_or-drop}
use Rattle.std.specs.List.{count_by, prefix_len}
use Rattle.theory.proofs.LongestFrontFacts.{all_front}
use Rattle.bean_lexer.specs.TokenForm.{is_plain}
use Rattle.bean_lexer.specs.Gap.{is_line_feed}
use Rattle.bean_lexer.specs.Lookahead.{is_in_plain_text}
use Rattle.bean_lexer.specs.Tokens.{IsLongestToken}
use Rattle.bean_lexer.specs.declared.kind.Kind.TheVariants as kinds
use Rattle.bean_lexer.proofs.LineFeedFacts.{none_in}
use Rattle.bean_lexer.proofs.OneLineFacts.{first_alone}
use Rattle.bean_lexer.proofs.TextFacts.{text_starts, text_goes_on, closes, text_token}
use Rattle.bean_lexer.proofs.TokensFacts.{feeds_add}

plain_in : (b : ℕ) → is_in_plain_text b ≡ true → is_plain b ≡ true
plain_in b h = grind (arith, nat_tests)

plain_out : (b : ℕ) → is_in_plain_text b ≡ true → is_line_feed b ≡ false
plain_out b h = grind (arith, nat_tests)

-- a run of the narrower class that stops at what is not in the wider is a run of the wider
wider_by : (p q : ℕ → Bool) (b : ℕ) (bs : List ℕ) (t : Bool) → p b ≡ t
    → ((c : ℕ) → p c ≡ true → q c ≡ true)
    → (q (get_or bs (prefix_len p bs) 0) ≡ false → prefix_len p bs ≡ prefix_len q bs)
    → q (get_or (b ∷ bs) (cond t (1 + prefix_len p bs) 0) 0) ≡ false
    → cond t (1 + prefix_len p bs) 0 ≡ cond (q b) (1 + prefix_len q bs) 0
wider_by p q b bs true e within rest h =
    let s : 1 + prefix_len p bs ≡ suc (prefix_len p bs) = omega arith in
    let r = rest (sym (ap (λ j. q (get_or (b ∷ bs) j 0)) s) ∙ h) in
    ap (λ n. 1 + n) r ∙ sym (ap (λ u. cond u (1 + prefix_len q bs) 0) (within b e))
wider_by p q b bs false e within rest h = sym (ap (λ u. cond u (1 + prefix_len q bs) 0) h)

wider : (p q : ℕ → Bool) (bs : List ℕ) → ((c : ℕ) → p c ≡ true → q c ≡ true)
    → q (get_or bs (prefix_len p bs) 0) ≡ false → prefix_len p bs ≡ prefix_len q bs
wider p q [] within h = refl
wider p q (b ∷ bs) within h = wider_by p q b bs (p b) refl within (wider p q bs within) h

plain_end : (bs : List ℕ) (e : ℕ) → e ≡ 1 + prefix_len is_in_plain_text (drop 1 bs)
    → get_or bs e 0 ≡ 34 → e ≡ 1 + prefix_len is_plain (drop 1 bs)
plain_end bs e is quote =
    let k = prefix_len is_in_plain_text (drop 1 bs) in
    let there : get_or (drop 1 bs) k 0 ≡ 34 =
    get_or-drop 1 bs k 0 ∙ sym (ap (λ j. get_or bs j 0) is) ∙ quote in
    is ∙ ap (λ n. 1 + n) (wider is_in_plain_text is_plain (drop 1 bs) plain_in (ap is_plain there))

pub plain_token : (bs : List ℕ) (e : ℕ) → 0 < length bs → get_or bs 0 0 ≡ 34
    → e ≡ 1 + prefix_len is_in_plain_text (drop 1 bs) → e < length bs → get_or bs e 0 ≡ 34
    → IsLongestToken bs kinds.Text (e + 1)
plain_token bs e some first is low quote =
    let reads = text_goes_on bs 1 e true (plain_end bs e is quote) (text_starts bs some first) in
    let closed = closes bs e true low quote reads in
    text_token bs (e + 1) some first (omega arith) closed.0 (sym closed.1)

pub plain_feeds : (bs : List ℕ) (e : ℕ) → get_or bs 0 0 ≡ 34
    → e ≡ 1 + prefix_len is_in_plain_text (drop 1 bs) → get_or bs e 0 ≡ 34
    → 0 ≡ count_by is_line_feed (take (e + 1) bs)
plain_feeds bs e first is quote =
    let k = prefix_len is_in_plain_text (drop 1 bs) in
    let one = first_alone bs (ap is_line_feed first) in
    let inner =
    none_in is_in_plain_text plain_out (take k (drop 1 bs)) (all_front is_in_plain_text (drop 1 bs)).of_form in
    let s : e + 0 ≡ e = omega arith in
    let there : get_or (drop e bs) 0 0 ≡ 34 =
    get_or-drop e bs 0 0 ∙ ap (λ j. get_or bs j 0) s ∙ quote in
    let last = first_alone (drop e bs) (ap is_line_feed there) in
    let upto = ap (λ j. count_by is_line_feed (take j bs)) is ∙ feeds_add bs 1 k in
    let whole = feeds_add bs e 1 in
    omega arith
