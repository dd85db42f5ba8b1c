use Rattle.std.proofs.Common.{◌≡◌, ℕ, ℤ, ◌+ℤ◌, ◌+◌, ◌*◌, ◌^◌, ◌<◌, ◌≤◌, ◌&&◌, Bool, true, false}
use Rattle.std.proofs.Common.{List, ◌∷◌, cond, arith, ap, ◌∙◌, to_z, of_z}
use Rattle.std.specs.Int.{w128}
use Rattle.std.specs.Int.RustNames.{unsigned_abs}
use Rattle.std.specs.Str.{bytes_eq}
use Rattle.std.proofs.lemmas.Int.{ints}
use Rattle.std.specs.List.{filter}
use Rattle.bean_pad.specs.Held.{Units, is_of, is_within, total}
use Rattle.bean_pad.specs.Standing.{units}
use Rattle.bean_pad.specs.Sums.{sum_at}
use Rattle.bean_pad.proofs.sums.Sums.add.Goals as goal

far : (n : ℕ) (x : ℤ) → n < 2 ^ 42 → unsigned_abs x ≤ n * 10 ^ 20 → unsigned_abs x < 2 ^ 126
far n x few small = omega arith

same : (x : ℤ) → unsigned_abs x < 10 ^ 20 → to_z w128 (of_z w128 x) ≡ x
same x small = omega (arith, ints)

near : (x : ℤ) → unsigned_abs x < 10 ^ 20 → unsigned_abs (to_z w128 (of_z w128 x)) < 2 ^ 126
near x small = omega (arith, ints)

short : (x : ℤ) → unsigned_abs x < 10 ^ 20 → unsigned_abs (to_z w128 (of_z w128 x)) < 10 ^ 20
short x small = omega (arith, ints)

-- one more may be counted
more : (b : Bool) (n : ℕ) (x y z : ℤ) → unsigned_abs x ≤ n * 10 ^ 20 → unsigned_abs y < 10 ^ 20
    → z ≡ cond b (x +ℤ y) x → unsigned_abs z ≤ (n + 1) * 10 ^ 20
more true n x y z small new is = omega (arith, ints)
more false n x y z small new is = omega (arith, ints)

pub add_up-requires-clause-held : goal.add_up-requires-clause-held
add_up-requires-clause-held c = λ a k.
    far c.args.self.now.additions (sum_at c.args.self.now a k) c.requires.few (c.requires.small a k)

pub add_up-requires-clause-small : goal.add_up-requires-clause-small
add_up-requires-clause-small c = near c.args.count c.requires.count

-- what units that are added make of a sum of those that count
more_held : (b : Bool) (u : Units) (us : List Units) (x n : ℤ) → x ≡ total us → n ≡ u.count
    → cond b (x +ℤ n) x ≡ total (cond b (u ∷ us) us)
more_held true u us x n e f = λ i. e i +ℤ f i
more_held false u us x n e f = e

pub returns-clause-holds : goal.returns-clause-holds
returns-clause-holds c = λ us h. record {
  sums = λ a k.
      let old = sum_at c.args.self.now a k in
      let n = to_z w128 (of_z w128 c.args.count) in
      c.in_ok-add_up.ensures a k
      ∙ ap (λ t. cond (is_within a t && bytes_eq c.args.currency.now k) (old +ℤ n) old)
      c.text.ensures.text
      ∙ more_held (is_within a c.args.account.now && bytes_eq c.args.currency.now k)
      (units c.args.account.now c.args.currency.now c.args.count) (filter (is_of a k) us) old n
      (h.sums a k) (same c.args.count c.requires.count);
}

pub returns-clause-small : goal.returns-clause-small
returns-clause-small c = λ a k.
    more (is_within a c.text.result.now && bytes_eq c.args.currency.now k)
    c.args.self.now.additions (sum_at c.args.self.now a k) (to_z w128 (of_z w128 c.args.count)) _
    (c.requires.small a k) (short c.args.count c.requires.count) (c.in_ok-add_up.ensures a k)
