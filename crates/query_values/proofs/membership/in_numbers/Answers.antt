use Rattle.std.proofs.Common.{◌≡◌, true, IsTrue, map, sym, ap, subst, ◌∙◌, rules}
use Rattle.std.specs.Int.{w128}
use Rattle.std.specs.Int.RustNames.{FitsSigned}
use Rattle.std.specs.List.{list_all, list_any}
use Rattle.std.specs.Ordering.{int_eq}
use Rattle.std.proofs.lemmas.Int.{to_z-of_z}
use Rattle.query_values.specs.Choice.{number_choice}
use Rattle.query_values.specs.Operand.{are_alike}
use Rattle.query_values.specs.declared.value.Value.TheVariants.{Number}
use Rattle.query_values.specs.Operation.{is_among}
use Rattle.query_values.proofs.MembershipFacts.{among_numbers, no_number}
use Rattle.query_values.proofs.membership.in_numbers.Goals as goal

pub returns-in-Number : goal.returns-in-Number
returns-in-Number c =
    let places = c.args.places in
    let n = c.in-Number.count in
    let alike : list_all (are_alike (Number c.in-Number.places n))
    (map (number_choice places) c.args.counts.now) ≡ true =
    subst (λ x. IsTrue (list_all (are_alike x) (map (number_choice places) c.args.counts.now)))
    c.in-Number.is c.requires in
    let fits : FitsSigned w128 n = search rules in
    c.has_count.ensures ∙ ap (λ m. list_any (int_eq m) c.args.counts.now) (to_z-of_z w128 n fits)
    ∙ among_numbers c.in-Number.places places n c.args.counts.now alike
    ∙ ap (is_among (map (number_choice places) c.args.counts.now)) (sym c.in-Number.is)

pub returns-in_default : goal.returns-in_default
returns-in_default c =
    no_number c.args.x.now c.args.places c.args.counts.now c.in_default.not-Number
