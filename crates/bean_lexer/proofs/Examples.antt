-- The definitions on worked values.
use Rattle.std.proofs.Common.{◌≡◌, [], ◌∷◌, ◌++◌, true, false, codes, refl}
use Rattle.bean_lexer.specs.TokenForm.{is_text, is_tag, is_link, is_key}
use Rattle.bean_lexer.specs.KindForm.{is_of}
use Rattle.bean_lexer.specs.Gap.{gap_len, gap_from, behind_gap, place_of}
use Rattle.bean_lexer.specs.Between.{is_between, last_line}
use Rattle.bean_lexer.specs.Tokens.{fault_len, line_at}
use Rattle.bean_lexer.specs.declared.kind.Kind.TheVariants as kinds
use Rattle.bean_lexer.specs.declared.kind.Keyword.TheVariants as words
use Rattle.bean_lexer.specs.declared.kind.Place.TheVariants as places
use Rattle.bean_lexer.specs.declared.gaps.Spot.TheVariants as spots

text_with_escapes : is_text (34 ∷ 92 ∷ 34 ∷ 92 ∷ 92 ∷ 92 ∷ 110 ∷ 92 ∷ 116 ∷ 10 ∷ 34 ∷ []) ≡ true
text_with_escapes = refl

text_with_bad_escape : is_text (34 ∷ 97 ∷ 92 ∷ 113 ∷ 34 ∷ []) ≡ false
text_with_bad_escape = refl

unclosed_text : is_text (34 ∷ 97 ∷ []) ≡ false
unclosed_text = refl

empty_text : is_text (34 ∷ 34 ∷ []) ≡ true
empty_text = refl

two_texts : is_text (34 ∷ 34 ∷ 34 ∷ 34 ∷ []) ≡ false
two_texts = refl

-- a fault up to its closing quote, up to the end, or of one character
closed_fault : fault_len (34 ∷ 97 ∷ 92 ∷ 113 ∷ 34 ∷ 32 ∷ 120 ∷ []) ≡ 5
closed_fault = refl

open_fault : fault_len (34 ∷ 97 ∷ 92 ∷ 34 ∷ 32 ∷ 120 ∷ []) ≡ 6
open_fault = refl

one_wide_character : fault_len (195 ∷ 137 ∷ 195 ∷ 137 ∷ []) ≡ 2
one_wide_character = refl

one_narrow_character : fault_len (codes "%%") ≡ 1
one_narrow_character = refl

tag : is_tag (codes "#a-b_c/d.9") ≡ true
tag = refl

hash_alone : is_tag (codes "#") ≡ false
hash_alone = refl

link : is_link (codes "^x") ≡ true
link = refl

key : is_key (codes "a-B_9:") ≡ true
key = refl

capital_key : is_key (codes "Aa:") ≡ false
capital_key = refl

key_without_colon : is_key (codes "ab") ≡ false
key_without_colon = refl

truth_value : is_of (kinds.Keyword words.True) (codes "TRUE") ≡ true
truth_value = refl

no_currency : is_of kinds.Currency (codes "TRUE") ≡ false
no_currency = refl

longer_currency : is_of kinds.Currency (codes "TRUEX") ≡ true
longer_currency = refl

slashed_day : is_of kinds.Day (codes "2014/13/99") ≡ true
slashed_day = refl

mixed_day : is_of kinds.Day (codes "2014/01-02") ≡ false
mixed_day = refl

number_with_point : is_of kinds.Number (codes "1,000.") ≡ true
number_with_point = refl

number_with_commas : is_of kinds.Number (codes "1,,000") ≡ false
number_with_commas = refl

two_words : is_of (kinds.Keyword words.Open) (codes "opening") ≡ false
two_words = refl

-- a comment, a skipped line, and two spaces
gap_length : gap_len spots.Behind (codes " ; x" ++ 10 ∷ codes "* y" ++ 10 ∷ codes "  z") ≡ 11
gap_length = refl

gap_end :
    place_of (behind_gap spots.Behind (codes " ; x" ++ 10 ∷ codes "* y" ++ 10 ∷ codes "  z"))
    ≡ places.Indented
gap_end = refl

-- a star that is not in the first column ends a gap
no_skipped_line : gap_len spots.LineStart (codes " * y") ≡ 1
no_skipped_line = refl

skipped_at_start : gap_len spots.LineStart (codes "# y" ++ 13 ∷ 10 ∷ codes "z") ≡ 5
skipped_at_start = refl

column_one :
    place_of (behind_gap spots.LineStart (codes "# y" ++ 13 ∷ 10 ∷ codes "z")) ≡ places.ColumnOne
column_one = refl

behind_a_token : place_of (behind_gap spots.Behind (codes "  z")) ≡ places.Inside
behind_a_token = refl

third_line : line_at (10 ∷ 10 ∷ codes "z") 2 ≡ 3
third_line = refl

-- a semicolon's comment and white space stand between, and so does the line feed behind them
gap_of_a_comment : gap_from (codes "a ; b" ++ 10 ∷ codes " c") 1 ≡ 6
gap_of_a_comment = refl

last_of_two_lines : last_line (codes "a" ++ 10 ∷ codes "bc") ≡ codes "bc"
last_of_two_lines = refl

in_the_comment : is_between false (codes " ; ") 98 ≡ true
in_the_comment = refl

behind_the_comment : is_between false (codes " ; b" ++ 10 ∷ codes " ") 99 ≡ false
behind_the_comment = refl

-- a star begins a skipped line in the first column alone
skipped_at_the_start : is_between true [] 42 ≡ true
skipped_at_the_start = refl

no_line_behind_a_token : is_between false [] 42 ≡ false
no_line_behind_a_token = refl

skipped_on_a_new_line : is_between false (10 ∷ codes "* a") 98 ≡ true
skipped_on_a_new_line = refl

not_skipped_indented : is_between false (10 ∷ codes " ") 42 ≡ false
not_skipped_indented = refl
