-- The components of an account's name.
use Rattle.std.specs.Prelude.{ℕ, ◌+◌, ◌-◌, nat_le, List, [], ◌∷◌, if◌then◌else◌, length, take}
use Rattle.std.specs.Prelude.{slice_index_or, Option, Some, None}
use Rattle.std.specs.List.{before_first, join_with_byte, slice_split}
use Rattle.bean_base.specs.Character.{colon}
use Rattle.bean_base.specs.Name.{is_colon}
use Rattle.bean_base.specs.Root.{root_of}
use Rattle.bean_base.specs.declared.roots.Root.{Root}
use Rattle.bean_base.specs.declared.roots.Root.TheVariants.{Assets, Liabilities, Equity, Income}
use Rattle.bean_base.specs.declared.roots.Root.TheVariants.{Expenses}

-- what stands between its colons: a name without a colon is one component
abbrev pub components : List ℕ → List (List ℕ)
components name = slice_split is_colon name

-- the first n components
abbrev pub root_part : ℕ → List ℕ → List ℕ
root_part n name = join_with_byte colon (take n (components name))

-- all components but the last
abbrev pub parent_part : List ℕ → List ℕ
parent_part name = let parts = components name in
    join_with_byte colon (take (length parts - 1) parts)

-- the last component
abbrev pub leaf_part : List ℕ → List ℕ
leaf_part name = let parts = components name in slice_index_or parts (length parts - 1) []

-- the place of the colon behind the first n components, or the end of a name that has no more
abbrev pub end_after : ℕ → List ℕ → ℕ
end_after n [] = 0
end_after n (b ∷ bs) =
    if is_colon b then (if nat_le n 1 then 0 else 1 + end_after (n - 1) bs) else 1 + end_after n bs

-- the place of a root in the order in which reports show them, 5 for what is none
abbrev pub rank_of : Option Root → ℕ
rank_of (Some Assets) = 0
rank_of (Some Liabilities) = 1
rank_of (Some Equity) = 2
rank_of (Some Income) = 3
rank_of (Some Expenses) = 4
rank_of None = 5

-- the rank of the first component
abbrev pub root_rank : List ℕ → ℕ
root_rank name = rank_of (root_of (before_first is_colon name))
