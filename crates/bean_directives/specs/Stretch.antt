-- The items of a list that may lie in a block with others.
use Rattle.std.specs.Prelude.{◌+◌, ◌≤◌, List, [], length, slice_range}
use Rattle.bean_directives.specs.declared.stretch.Items.{Items}
use Rattle.bean_directives.specs.declared.stretch.Items.TheVariants.{Empty, Own, Within, Far}

abbrev pub items_in : {T : Type 0} → Items T → List T
items_in Empty = []
items_in (Own items) = items
items_in (Within count first block) = slice_range block.value.items first (first + count)
items_in (Far part) = slice_range part.block.value.items part.first part.end

-- what is said to lie in a block does
abbrev pub IsInBlock : {T : Type 0} → Items T → Type 0
IsInBlock Empty = Unit {0}
IsInBlock (Own items) = Unit {0}
IsInBlock (Within count first block) = first + count ≤ length block.value.items
IsInBlock (Far part) =
    (part.first ≤ part.end) × (part.end ≤ length part.block.value.items)
