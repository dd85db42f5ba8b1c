use Rattle.std.proofs.Common.{◌≡◌, ◌≤◌, ◌<◌, ◌+◌, ◌^◌, ℕ, IsTrue, nat_lt, arith}
use Rattle.std.proofs.Math.Nat.{pow-le-pow_right}
use Rattle.std.proofs.lemmas.Bool.Decides.{nat_tests}
use Rattle.number_texts.proofs.PowerFacts.{looked_up}
use Rattle.cell_texts.proofs.widening.is_short.Goals as goal

-- below a power of ten that is looked up
below : (n unit few many : ℕ) → unit ≡ 10 ^ few → few ≤ many → IsTrue (nat_lt n unit) → n < 10 ^ many
below n unit few many is fits low =
    let power : 10 ^ few ≤ 10 ^ many = pow-le-pow_right {n = 10} (omega arith) fits in
    let under : n < unit = grind (arith, nat_tests, low) in omega (arith, is, power, under)

pub returns-then-number-eq0 : goal.returns-then-number-eq0
returns-then-number-eq0 c = λ low.
    let few = c.min.result + 4 in
    let bound : few ≤ c.args.width + 4 = omega (arith, c.min.ensures) in
    let unit =
    looked_up c.power_of_ten.result few (omega (arith, c.min.ensures)) c.power_of_ten.ensures in
    (c.if-number-eq0.true, below c.args.number _ few (c.args.width + 4) unit bound low)
