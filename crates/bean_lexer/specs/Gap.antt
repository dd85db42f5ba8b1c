-- What stands between tokens: white space, line feeds, comments and skipped lines.
use Rattle.std.specs.Prelude.{ℕ, zero, suc, ◌+◌, ◌==◌, ◌&&◌, ◌||◌, Bool, true, false, List, [], ◌∷◌}
use Rattle.std.specs.Prelude.{not, drop, Option, Some, None, if◌then◌else◌}
use Rattle.std.specs.Option.{option_map_or}
use Rattle.bean_base.specs.Character.{tab, line_feed, carriage_return, space, hash, star, colon}
use Rattle.bean_base.specs.Character.{semicolon}
use Rattle.bean_lexer.specs.declared.kind.Place.{Place}
use Rattle.bean_lexer.specs.declared.kind.Place.TheVariants as place
use Rattle.bean_lexer.specs.declared.gaps.Spot.{Spot}
use Rattle.bean_lexer.specs.declared.gaps.Spot.TheVariants as spot

abbrev pub is_space : ℕ → Bool
is_space b = b == space

-- space, tab and carriage return
abbrev pub is_white : ℕ → Bool
is_white b = (b == space) || (b == tab) || (b == carriage_return)

abbrev pub is_line_feed : ℕ → Bool
is_line_feed b = b == line_feed

-- a line whose first character is * : or # is skipped
abbrev pub begins_skipped : ℕ → Bool
begins_skipped b = (b == star) || (b == colon) || (b == hash)

abbrev pub behind_white : Spot → Spot
behind_white spot.LineStart = spot.Indent
behind_white spot.Indent = spot.Indent
behind_white spot.Behind = spot.Behind
behind_white spot.Comment = spot.Comment

abbrev pub is_line_start : Spot → Bool
is_line_start spot.LineStart = true
is_line_start spot.Indent = false
is_line_start spot.Behind = false
is_line_start spot.Comment = false

abbrev pub is_comment : Spot → Bool
is_comment spot.LineStart = false
is_comment spot.Indent = false
is_comment spot.Behind = false
is_comment spot.Comment = true

-- where one is behind one more byte of a gap; none where a token begins at that byte
abbrev pub gap_step : Spot → ℕ → Option Spot
gap_step at b =
    if is_line_feed b then Some spot.LineStart
    else if is_white b then Some (behind_white at)
    else if is_comment at || (b == semicolon) || (is_line_start at && begins_skipped b) then
    Some spot.Comment
    else None

-- a byte that a gap goes on with only in a comment or a skipped line
abbrev pub begins_token : ℕ → Bool
begins_token b = not (is_line_feed b) && not (is_white b) && not (b == semicolon)

-- how long the gap at the front is
abbrev pub gap_len : Spot → List ℕ → ℕ
gap_len at [] = 0
gap_len at (b ∷ bs) = option_map_or (λ next. 1 + gap_len next bs) (gap_step at b) 0

-- and where one is behind it
abbrev pub behind_gap : Spot → List ℕ → Spot
behind_gap at [] = at
behind_gap at (b ∷ bs) = option_map_or (λ next. behind_gap next bs) (gap_step at b) at

-- the place of a token that begins there
abbrev pub place_of : Spot → Place
place_of spot.LineStart = place.ColumnOne
place_of spot.Indent = place.Indented
place_of spot.Behind = place.Inside
place_of spot.Comment = place.Inside

-- where one is at a place at which a gap begins: at the text's start, or behind a token
abbrev pub spot_at : ℕ → Spot
spot_at zero = spot.LineStart
spot_at (suc at) = spot.Behind

-- how long the gap at a place of a text is
abbrev pub gap_from : List ℕ → ℕ → ℕ
gap_from text at = gap_len (spot_at at) (drop at text)

-- and the place of a token behind it
abbrev pub place_behind : List ℕ → ℕ → Place
place_behind text at = place_of (behind_gap (spot_at at) (drop at text))
