-- What is taken of a query's text: what stands between two places, and whole numbers.
use Rattle.std.specs.Prelude.{ℕ, ℤ, pos, negsuc, Bool, ◌==◌, ◌&&◌, ◌||◌, nat_le, nat_lt, List, []}
use Rattle.std.specs.Prelude.{length, slice_index, slice_range, Option, Some, None, if◌then◌else◌}
use Rattle.bql_lexer.specs.declared.kind.Kind.{Kind}
use Rattle.bql_lexer.specs.declared.kind.Kind.TheVariants as kind
use Rattle.bql_lexer.specs.declared.token.Token.{Token}
use Rattle.bql_tree.specs.Number.{number}
use Rattle.bql_tree.specs.declared.tree.Leaf as leaves
use Rattle.bql_tree.specs.declared.tree.Leaf.TheVariants as leaf

-- the place is a character's, or the text's end
abbrev pub is_cut : List ℕ → ℕ → Bool
is_cut bs at =
    if nat_lt at (length bs)
    then nat_lt (slice_index bs at) 128 || nat_le 192 (slice_index bs at)
    else (at == length bs)

-- what stands between two places of a text
abbrev pub piece : List ℕ → ℕ → ℕ → List ℕ
piece bs start end =
    if nat_le start end && is_cut bs start && is_cut bs end then slice_range bs start end else []

abbrev pub small : ℤ → Option ℕ
small (pos n) = if nat_le n 4294967295 then Some n else None
small (negsuc n) = None

abbrev pub whole_in : leaves.Leaf → Option ℕ
whole_in (leaf.Number d) = if d.places == 0 then small d.count else None
whole_in l = None

abbrev pub whole_of : Kind → List ℕ → Option ℕ
whole_of kind.Number bs = whole_in (number bs)
whole_of k bs = None

-- a whole number of at most 4294967295
abbrev pub whole : Token → Option ℕ
whole t = whole_of t.kind t.text
