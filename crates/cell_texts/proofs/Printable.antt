-- Texts of printable ASCII characters: they stay as they are, and are as wide as they are long.
use Rattle.std.proofs.Common.{◌≡◌, ℕ, true, false, cond, List, [], ◌∷◌, ◌++◌}
use Rattle.std.proofs.Common.{Bool, length, chars, encode_utf8, refl, sym, ap, ◌∙◌, arith}
use Rattle.std.specs.Char.{is_control}
use Rattle.std.specs.List.{flat_map, list_all}
use Rattle.std.proofs.lemmas.Bool.{and_parts}
use Rattle.std.proofs.lemmas.Bool.Decides.{nat_tests}
use Rattle.std.proofs.lemmas.Str.{chars-IsAscii, encode_ascii}
use Rattle.number_texts.proofs.PrintableFacts.{bounds, is_ascii, is_printable}
use Rattle.unicode_width.specs.Width.{str_width}
use Rattle.unicode_width.proofs.Rules.{str_width-printable}
use Rattle.cell_texts.specs.Width.{text_width}
use Rattle.cell_texts.specs.CellText.{clean_text, shown_character, truth_text}

chars_of : (bs : List ℕ) → list_all is_printable bs ≡ true → chars bs ≡ bs
chars_of bs h = chars-IsAscii bs (is_ascii bs h)

no_control : (b : ℕ) → is_printable b ≡ true → is_control b ≡ false
no_control b h = grind (arith, nat_tests)

kept : (b : ℕ) → is_printable b ≡ true → encode_utf8 (shown_character b) ≡ b ∷ []
kept b h =
    let low = bounds b h in
    ap (λ t. encode_utf8 (cond t 32 b)) (no_control b h) ∙ encode_ascii b (omega arith)

all_kept : (bs : List ℕ) → list_all is_printable bs ≡ true
    → flat_map (λ c. encode_utf8 (shown_character c)) bs ≡ bs
all_kept [] h = refl
all_kept (b ∷ bs) h = λ k. kept b (and_parts _ _ h).0 k ++ all_kept bs (and_parts _ _ h).1 k

pub clean_printable : (bs : List ℕ) → list_all is_printable bs ≡ true → clean_text bs ≡ bs
clean_printable bs h =
    ap (flat_map (λ c. encode_utf8 (shown_character c))) (chars_of bs h) ∙ all_kept bs h

pub width_printable : (bs : List ℕ) → list_all is_printable bs ≡ true → text_width bs ≡ length bs
width_printable bs h = ap (str_width false) (chars_of bs h) ∙ str_width-printable false bs h

pub clean_width_printable : (bs : List ℕ) → list_all is_printable bs ≡ true
    → text_width (clean_text bs) ≡ length bs
clean_width_printable bs h = ap text_width (clean_printable bs h) ∙ width_printable bs h

pub truth_is_wide : (b : Bool) → length (truth_text b) ≡ text_width (truth_text b)
truth_is_wide true = sym (width_printable (truth_text true) refl)
truth_is_wide false = sym (width_printable (truth_text false) refl)
