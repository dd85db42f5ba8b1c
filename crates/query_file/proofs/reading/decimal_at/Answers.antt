use Rattle.std.proofs.Common.{◌≡◌, Some, ◌∙◌, ap, sym, arith, to_z, of_z, rules}
use Rattle.std.specs.Int.{w128}
use Rattle.std.proofs.lemmas.Int.{ints}
use Rattle.query_terms.specs.Wide.{decimal_of}
use Rattle.query_code.specs.QueryFile.{decimal}
use Rattle.query_file.proofs.reading.decimal_at.Goals as goal

pub returns-in-Some : goal.returns-in-Some
unfolding decimal
returns-in-Some c =
    let count : to_z w128 (of_z w128 c.in_ok-count.count) ≡ c.in_ok-count.count =
    omega (arith, ints) in
    let made : decimal_of c.in_ok-places.places c.in_ok-count.count ≡ Some c.in-Some.number =
    ap (decimal_of c.in_ok-places.places) (sym count) ∙ sym c.new.ensures ∙ c.in-Some.is in
    search rules
