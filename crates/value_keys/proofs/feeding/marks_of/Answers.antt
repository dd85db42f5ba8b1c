use Rattle.std.proofs.Common.{◌<◌, ◌+◌, ◌%◌, ◌^◌, [], refl, ◌∙◌, rules}
use Rattle.std.specs.Int.{w128}
use Rattle.std.specs.Int.RustNames.{FitsSigned}
use Rattle.std.proofs.lemmas.Int.{to_z-of_z}
use Rattle.value_hashes.specs.Fed.{mark_of, marks_beside}
use Rattle.value_keys.proofs.MarkFacts.{at_first, at_last, one_more}
use Rattle.value_keys.proofs.feeding.marks_of.Goals as goal

pub loop-key-init : goal.loop-key-init
loop-key-init c =
    let bag = c.args.bag.now in
    at_first bag.places bag.held c.positions-rest.result c.positions-rest.ensures.inventory
    c.positions-rest.ensures.positions

pub loop-key-preserved : goal.loop-key-preserved
loop-key-preserved c =
    let bag = c.args.bag.now in
    let key = c.in-Some.key.now in
    let count = c.in-Some.count in
    let fits : FitsSigned w128 count = search rules in
    let own =
    c.mark_of-marks.ensures
    ∙ (λ i. mark_of (c.places-places.ensures i) key (to_z-of_z w128 count fits i)) in
    let sum = c.loop-key.marks + c.mark_of-marks.result in
    one_more bag.places c.loop-key.marks c.mark_of-marks.result (sum % 2 ^ 64)
    (marks_beside bag.places [] bag.held % 2 ^ 64) c.loop-key.rest c.next_held.new.self key count
    c.in-Some.ensures.some own refl c.loop-key.invariant

pub returns : goal.returns
returns c =
    let bag = c.args.bag.now in
    let small : c.loop-key.marks < 2 ^ 64 = search rules in
    at_last bag.places c.loop-key.marks (marks_beside bag.places [] bag.held % 2 ^ 64)
    c.loop-key.rest c.in_default.ensures.none small c.loop-key.invariant
