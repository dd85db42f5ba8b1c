-- What stands between tokens, told in the language's words: each byte by the bytes of its gap that
-- stand before it.
use Rattle.std.specs.Prelude.{◌≡◌, ℕ, ◌<◌, ◌≤◌, ◌==◌, ◌&&◌, ◌||◌, Bool, true, false, List, [], ◌∷◌}
use Rattle.std.specs.Prelude.{◌++◌, length, take, drop, slice_index, if◌then◌else◌}
use Rattle.std.specs.List.{list_any}
use Rattle.bean_base.specs.Character.{semicolon}
use Rattle.bean_lexer.specs.Gap.{is_line_feed, is_white, begins_skipped, gap_from}

abbrev pub is_semicolon : ℕ → Bool
is_semicolon b = b == semicolon

-- the bytes behind the last line feed
abbrev pub last_line : List ℕ → List ℕ
last_line [] = []
last_line (b ∷ bs) = if list_any is_line_feed (b ∷ bs) then last_line bs else b ∷ bs

-- behind a semicolon of its line, or that semicolon
abbrev pub is_in_comment : List ℕ → ℕ → Bool
is_in_comment before b = list_any is_semicolon (last_line before ++ b ∷ [])

-- Whether its line begins in the gap: at a text's start, or behind a line feed. Else a token of the
-- line stands before the gap.
abbrev pub line_begins : Bool → List ℕ → Bool
line_begins at_start before = at_start || list_any is_line_feed before

abbrev pub first_is_skipped : List ℕ → Bool
first_is_skipped [] = false
first_is_skipped (b ∷ bs) = begins_skipped b

-- in a line that begins with * : or # in the first column
abbrev pub is_in_skipped : Bool → List ℕ → ℕ → Bool
is_in_skipped at_start before b =
    line_begins at_start before && first_is_skipped (last_line before ++ b ∷ [])

-- white space, a line feed, or a byte of a comment or of a skipped line
abbrev pub is_between : Bool → List ℕ → ℕ → Bool
is_between at_start before b =
    is_white b || is_line_feed b || is_in_comment before b || is_in_skipped at_start before b

-- the first n bytes stand between tokens, and the next, if there is one, doesn't
pub record IsGap (at_start : Bool) (bs : List ℕ) (n : ℕ) : Type 0 where
  pub inside : n ≤ length bs
  pub between : (k : ℕ) → k < n → is_between at_start (take k bs) (slice_index bs k) ≡ true
  pub ends : n < length bs → is_between at_start (take n bs) (slice_index bs n) ≡ false

-- so is the gap at each place of a text where one begins
abbrev pub HasGaps : List ℕ → Type 0
HasGaps text = (at : ℕ) → at ≤ length text → IsGap (at == 0) (drop at text) (gap_from text at)
