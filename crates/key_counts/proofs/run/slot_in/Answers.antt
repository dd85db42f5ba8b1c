use Rattle.std.proofs.Common.{◌≡◌, ◌∙◌, ap, Some, length, refl, to_z, of_z, arith}
use Rattle.std.specs.Int.{w128}
use Rattle.std.proofs.lemmas.Int.{ints}
use Rattle.std.proofs.lemmas.Option.{slice_get_read}
use Rattle.key_counts.proofs.run.slot_in.Goals as goal

pub returns : goal.returns
returns g c =
    let e = c.index-slots-place.result in
    let count : e.1 ≡ to_z w128 (of_z w128 e.1) = omega (arith, ints) in
    slice_get_read c.args.slots.now (length c.args.slots.now) c.args.place e refl c.requires
    c.index-slots-place.is
    ∙ ap (λ n. Some (e.0, n)) count
