use Rattle.std.proofs.Common.{◌≡◌, ◌<◌, ◌^◌, ℤ, true, cond, None, Some, ap, ◌∙◌, sym, arith, to_z}
use Rattle.std.proofs.Common.{of_z}
use Rattle.std.specs.Int.{w128}
use Rattle.std.specs.Int.RustNames.{unsigned_abs}
use Rattle.std.proofs.lemmas.Int.{ints}
use Rattle.bean_pad.specs.Note.{note_of, noted_of}
use Rattle.bean_pad.specs.Tolerance.{is_out, tolerance_of}
use Rattle.bean_pad.proofs.padder.noted_of.Goals as goal

fits : (n : ℤ) → unsigned_abs n < 2 ^ 127 → to_z w128 (of_z w128 n) ≡ n
fits n h = omega (arith, ints)

within : (n : ℤ) → unsigned_abs n < 10 ^ 20 → unsigned_abs n < 2 ^ 127
within n h = omega (arith, ints)

pub returns-then-is_out-clause-is : goal.returns-then-is_out-clause-is
returns-then-is_out-clause-is c =
    let d = c.args.difference in
    let b = c.args.balance.now in
    let difference : to_z w128 (of_z w128 d) ≡ d = fits d c.requires in
    let tolerance : to_z w128 (of_z w128 c.tolerance_of.result) ≡ tolerance_of b =
    fits c.tolerance_of.result (within c.tolerance_of.result c.tolerance_of.ensures.small)
    ∙ c.tolerance_of.ensures.is in
    let out : is_out d (tolerance_of b) ≡ true =
    sym (λ i. is_out (difference i) (tolerance i)) ∙ sym c.is_out.ensures ∙ c.if-is_out.true in
    (λ i. Some (c.in_ok-pad.pad, (c.note_of.ensures ∙ ap (λ d. note_of d b c.args.is_at_cost) difference) i))
    ∙ (λ i. cond (sym out i) (Some (c.in_ok-pad.pad, note_of d b c.args.is_at_cost)) None)
    ∙ ap (λ pad. noted_of pad d b c.args.is_at_cost) (sym c.in_ok-pad.was)
