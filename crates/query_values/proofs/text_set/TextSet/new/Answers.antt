use Rattle.std.proofs.Common.{◌≡◌, ◌<◌, ℕ, List, [], ◌∷◌, arith, length, refl, subst, sym, ◌∙◌}
use Rattle.std.specs.Cmp.Lexicographic.{slice_cmp, texts_ties, nat_list_cmp_total}
use Rattle.std.specs.List.Sorted.{IsStrictlySortedBy}
use Rattle.std.specs.Ordering.{nat_cmp}
use Rattle.std.specs.Str.{bytes_eq}
use Rattle.std.proofs.lemmas.List.Filters.{dedup_is}
use Rattle.std.proofs.lemmas.List.Kept.{IsStrictlySortedBy-dedup}
use Rattle.theory.proofs.OnceFacts.{dedup_is_once}
use Rattle.std.proofs.lemmas.Map.Lookups.{exact_bytes}
use Rattle.query_values.specs.TextSet.{set_of}
use Rattle.query_values.proofs.text_set.TextSet.new.Goals as goal

-- fewer than two texts are in order as they are
few_in_order : (ts : List (List ℕ)) → length ts < 2 → IsStrictlySortedBy (slice_cmp nat_cmp) ts
unfolding IsStrictlySortedBy
few_in_order [] h = tt
few_in_order (t ∷ []) h = (tt, tt)
few_in_order (t ∷ u ∷ ts) h = absurd (omega (arith, h))

few_are_set : (ts : List (List ℕ)) → length ts < 2 → ts ≡ set_of ts
few_are_set [] h = refl
few_are_set (t ∷ []) h = refl
few_are_set (t ∷ u ∷ ts) h = absurd (omega (arith, h))

pub invariant_of-result : goal.invariant_of-result
invariant_of-result c = few_in_order c.args.texts.items (omega (arith, c.if-len-lt2, c.len))

pub returns-then-len-lt2 : goal.returns-then-len-lt2
returns-then-len-lt2 c = few_are_set c.args.texts.items (omega (arith, c.if-len-lt2, c.len))

pub invariant_of-result-2 : goal.invariant_of-result-2
invariant_of-result-2 c =
    let sorted = c.sort_unstable.new.self.items in
    subst (IsStrictlySortedBy (slice_cmp nat_cmp))
    (sym (dedup_is bytes_eq sorted c.dedup.new.self.items c.dedup.ensures.filtered))
    (IsStrictlySortedBy-dedup nat_list_cmp_total texts_ties sorted c.sort_unstable.ensures.sorted)

pub returns : goal.returns
returns c =
    let sorted = c.sort_unstable.new.self.items in
    dedup_is bytes_eq sorted c.dedup.new.self.items c.dedup.ensures.filtered
    ∙ dedup_is_once (slice_cmp nat_cmp) nat_list_cmp_total exact_bytes bytes_eq texts_ties
    c.args.texts.items sorted c.sort_unstable.ensures.permutation c.sort_unstable.ensures.sorted
