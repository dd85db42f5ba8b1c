-- There is one list of final rows.
use Rattle.std.proofs.Common.{◌≡◌, List, map, Bool, true, false, refl, sym, ap, ◌∙◌}
use Rattle.std.specs.Cmp.{IsStrictWeakOrder}
use Rattle.std.specs.Cmp.Lexicographic.{slice_cmp, lists_total}
use Rattle.std.proofs.lemmas.List.Sorted.{ranks_by, IsStrictWeakOrder-flip}
use Rattle.theory.proofs.ArrangedFacts.{is_arranged}
use Rattle.theory.proofs.ArrangementFacts.{one_by_key, one_against_key}
use Rattle.theory.specs.Arrangement.{IsArrangement, arranged_by}
use Rattle.query_values.proofs.OrderFacts.{values_total}
use Rattle.query_values.specs.Order.{order_of}
use Rattle.query_values.specs.declared.value.Value.{Value}
use Rattle.query_rows.specs.FinalRows.{Ranked, Finish, ranks_of, shown_of, in_direction}
use Rattle.query_rows.specs.FinalRows.{comes_before, once_if, limited, IsFinal}

one_order : (descending : Bool) (xs ys zs : List Ranked)
    → IsArrangement (in_direction descending) xs ys
    → IsArrangement (in_direction descending) xs zs → ys ≡ zs
one_order false = one_by_key ranks_of (slice_cmp order_of) (lists_total values_total)
one_order true = one_against_key ranks_of (slice_cmp order_of) (lists_total values_total)

pub are_one : (f : Finish) (rows : List Ranked) (a b : List (List Value)) → IsFinal f rows a
    → IsFinal f rows b → a ≡ b
are_one f rows a b p q =
    p.is
    ∙ ap (λ arranged. limited f.limit (once_if f.is_distinct (map shown_of arranged)))
    (one_order f.is_descending rows p.arranged q.arranged p.in_order q.in_order)
    ∙ sym q.is

-- the rows arranged by putting one after the other at its place
abbrev pub final_of : Finish → List Ranked → List (List Value)
final_of f rows =
    limited f.limit (once_if f.is_distinct (map shown_of (arranged_by (comes_before f) rows)))

ranked : (descending : Bool) → IsStrictWeakOrder (in_direction descending)
ranked false = ranks_by (lists_total values_total) ranks_of
ranked true =
    IsStrictWeakOrder-flip (in_direction false) (ranks_by (lists_total values_total) ranks_of)

pub is_final : (f : Finish) (rows : List Ranked) → IsFinal f rows (final_of f rows)
is_final f rows = record {
  arranged = arranged_by (comes_before f) rows;
  in_order = is_arranged (comes_before f) (ranked f.is_descending) rows;
  is = refl;
}

pub are_there : (f : Finish) (rows : List Ranked)
    → (final : List (List Value)) × IsFinal f rows final
are_there f rows = (final_of f rows, is_final f rows)
