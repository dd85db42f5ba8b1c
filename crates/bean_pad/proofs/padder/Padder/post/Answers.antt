use Rattle.std.proofs.Common.{◌≡◌, ℕ, suc, ℤ, ◌+◌, ◌*◌, ◌^◌, ◌<◌, ◌≤◌, ◌∷◌, arith, subst, ◌∙◌, to_z}
use Rattle.std.proofs.Common.{of_z}
use Rattle.std.specs.Int.{w128}
use Rattle.std.specs.Int.RustNames.{unsigned_abs}
use Rattle.std.proofs.lemmas.Int.{ints}
use Rattle.bean_pad.specs.Held.{written}
use Rattle.bean_pad.specs.Standing.{units}
use Rattle.bean_pad.specs.Sums.{Holds, padded_at}
use Rattle.bean_pad.proofs.padder.Padder.post.Goals as goal

same : (x : ℤ) → unsigned_abs x < 10 ^ 20 → to_z w128 (of_z w128 x) ≡ x
same x small = omega (arith, ints)

wider : (s : ℕ) (x : ℤ) → unsigned_abs x ≤ s * 10 ^ 20 → unsigned_abs x ≤ (s + 1) * 10 ^ 20
wider s x small = omega arith

one_step : {s n : ℕ} → s ≡ n → s + 1 ≡ suc n
one_step e = omega arith

one_addition : {a b s : ℕ} → a ≤ s → b ≡ a + 1 → b ≤ s + 1
one_addition h e = omega arith

later : {n s : ℕ} → n ≤ s → n ≤ s + 1
later h = omega arith

pub returns-clause-follows : goal.returns-clause-follows
returns-clause-follows c = λ past h. record {
  sums = subst
      (λ d. Holds (units c.args.account.now c.args.units.now.currency d ∷ written past)
      c.add.new.self)
      (same c.scaled.result c.scaled.ensures.bound ∙ c.scaled.ensures.value)
      (c.in_ok-add.ensures.holds (written past) h.sums);
  paddings = h.paddings;
  before = h.before;
  numbers = h.numbers;
  pads = h.pads;
  count = h.count;
  trail = h.trail;
  steps = one_step h.steps;
}

pub returns-clause-bounded : goal.returns-clause-bounded
returns-clause-bounded c =
    let b = c.requires.bounded in
    let old = c.args.self.now in record {
      additions = one_addition b.additions c.in_ok-add.ensures.additions;
      sums = c.in_ok-add.ensures.small;
      paddings = λ a k. wider old.steps (padded_at old.balanced a k) (b.paddings a k);
      numbers = b.numbers;
      notes = later b.notes;
      trail = b.trail;
      passed = later b.passed;
    }
