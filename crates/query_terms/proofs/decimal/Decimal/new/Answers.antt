use Rattle.std.proofs.Common.{◌≡◌, ◌∙◌, ap, sym, arith, to_z, of_z}
use Rattle.std.specs.Int.{w128}
use Rattle.std.proofs.lemmas.Int.{ints}
use Rattle.query_terms.specs.WideCount.{is_wide}
use Rattle.query_terms.specs.Wide.{decimal_of}
use Rattle.query_terms.proofs.WideFacts.{found, missing}
use Rattle.query_terms.proofs.decimal.Decimal.new.Goals as goal

pub returns-then-is_wide : goal.returns-then-is_wide
returns-then-is_wide c =
    let count : to_z w128 (of_z w128 c.args.count) ≡ c.args.count = omega (arith, ints) in
    found _ ∙ ap (decimal_of c.args.places) count

pub returns-else-is_wide : goal.returns-else-is_wide
returns-else-is_wide c =
    let count : to_z w128 (of_z w128 c.args.count) ≡ c.args.count = omega (arith, ints) in
    missing c.args.places c.args.count
    (ap (is_wide c.args.places) (sym count) ∙ sym c.is_wide.ensures ∙ c.if-is_wide.false)
