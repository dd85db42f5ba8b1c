-- Accounts by number.
use Rattle.std.specs.Prelude.{◌≡◌, ℕ, suc, ◌==◌, ◌&&◌, ◌<◌, ◌≤◌, ◌++◌, Bool, List, [], ◌∷◌, length}
use Rattle.std.specs.Prelude.{Option, Some, get_or, position, reverse}
use Rattle.std.specs.List.{slice_split}
use Rattle.std.specs.Option.{option_and_then, option_map}
use Rattle.std.specs.Str.{bytes_eq}
use Rattle.indexmap.specs.IndexMap.{IndexMap, get}
use Rattle.bean_base.specs.Character.{colon}
use Rattle.bean_pad.specs.declared.tree.Below.{Below}

-- what stands between the colons of a name
abbrev pub parts : List ℕ → List (List ℕ)
parts name = slice_split (λ b. b == colon) name

-- the components of a name, the last one first
abbrev pub components : List ℕ → List (List ℕ)
components name = reverse (parts name)

abbrev pub same_below : Below → Below → Bool
same_below a b = (a.above == b.above) && bytes_eq a.component b.component

-- the number of the account of a component below that of a number: 1 of the first
abbrev pub number_below : List Below → ℕ → List ℕ → Option ℕ
number_below nodes above component =
    option_map suc
    (position (same_below (record { above = above; component = component })) nodes)

-- the number of the account of these components, the last one first; 0 of none
abbrev pub number_by : List Below → List (List ℕ) → Option ℕ
number_by nodes [] = Some 0
number_by nodes (c ∷ cs) = option_and_then (λ n. number_below nodes n c) (number_by nodes cs)

-- the number of an account
abbrev pub number_of : List Below → List ℕ → Option ℕ
number_of nodes name = number_by nodes (components name)

-- each account stands behind the one above it
abbrev pub AreAbove : List Below → Type 0
AreAbove nodes = (i : ℕ) (none : Below) → i < length nodes → (get_or nodes i none).above ≤ i

-- numbers stay
abbrev pub Grows : List Below → List Below → Type 0
Grows old new = (more : List Below) × (new ≡ old ++ more)

-- and the numbers that are known are those of their accounts
pub record IsKept {S : Type 0} (nodes : List Below) (known : IndexMap (List ℕ) ℕ S) : Type 0 where
  pub above : AreAbove nodes
  pub are_known : (name : List ℕ) (n : ℕ) → get bytes_eq known name ≡ Some n → number_of nodes name ≡ Some n
