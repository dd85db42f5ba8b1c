use Rattle.std.proofs.Common.{◌≡◌, ℕ, List, [], ◌∷◌, ap, subst, sym, ◌∙◌}
use Rattle.std.specs.Cmp.Lexicographic.{slice_cmp, nat_list_cmp_total}
use Rattle.std.specs.List.Sorted.{IsStrictlySortedBy}
use Rattle.std.specs.Ordering.{nat_cmp}
use Rattle.std.specs.declared.cmp.Ordering.{Ordering}
use Rattle.std.specs.declared.cmp.Ordering.TheVariants.{Less, Equal, Greater}
use Rattle.std.proofs.lemmas.Map.Lookups.{exact_bytes}
use Rattle.theory.proofs.OnceFacts.{sorted_once}
use Rattle.theory.specs.Once.{placed}
use Rattle.query_values.specs.TextSet.{set_of}
use Rattle.query_values.proofs.text_set.TextSet.of_two.Goals as goal

-- what a set of two is, by how these compare
two_are : (a b : List ℕ) (o : Ordering) → o ≡ slice_cmp nat_cmp a b
    → placed o a b [] (a ∷ []) ≡ set_of (a ∷ b ∷ [])
two_are a b o is = ap (λ o. placed o a b [] (a ∷ [])) is

-- a set is in order
in_order : (a b : List ℕ) (ts : List (List ℕ)) → ts ≡ set_of (a ∷ b ∷ [])
    → IsStrictlySortedBy (slice_cmp nat_cmp) ts
in_order a b ts is =
    subst (IsStrictlySortedBy (slice_cmp nat_cmp)) (sym is)
    (sorted_once (slice_cmp nat_cmp) nat_list_cmp_total exact_bytes (a ∷ b ∷ []))

pub invariant_of-result : goal.invariant_of-result
invariant_of-result c =
    let a = c.args.first in
    let b = c.args.second in
    in_order a b _
    (c.in_ok-from_array-in-Less.ensures.items ∙ two_are a b Less (sym c.in-Less.is ∙ c.cmp.ensures))

pub invariant_of-result-in-Equal : goal.invariant_of-result-in-Equal
invariant_of-result-in-Equal c =
    let a = c.args.first in
    let b = c.args.second in
    in_order a b _
    (c.in_ok-from_array-in-Equal.ensures.items
    ∙ two_are a b Equal (sym c.in-Equal.is ∙ c.cmp.ensures))

pub invariant_of-result-in-Greater : goal.invariant_of-result-in-Greater
invariant_of-result-in-Greater c =
    let a = c.args.first in
    let b = c.args.second in
    in_order a b _
    (c.in_ok-from_array-in-Greater.ensures.items
    ∙ two_are a b Greater (sym c.in-Greater.is ∙ c.cmp.ensures))
