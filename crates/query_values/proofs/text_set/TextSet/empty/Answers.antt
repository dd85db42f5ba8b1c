use Rattle.std.proofs.Common.{[], subst, sym}
use Rattle.std.specs.Cmp.Lexicographic.{slice_cmp}
use Rattle.std.specs.List.Sorted.{IsStrictlySortedBy}
use Rattle.std.specs.Ordering.{nat_cmp}
use Rattle.query_values.proofs.text_set.TextSet.empty.Goals as goal

none_in_order : IsStrictlySortedBy (slice_cmp nat_cmp) []
unfolding IsStrictlySortedBy
none_in_order = tt

pub invariant_of-result : goal.invariant_of-result
invariant_of-result c =
    subst (IsStrictlySortedBy (slice_cmp nat_cmp)) (sym c.new.ensures.items) none_in_order
