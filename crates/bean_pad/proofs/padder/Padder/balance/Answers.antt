use Rattle.std.proofs.Common.{◌≡◌, ℕ, ℤ, ◌+ℤ◌, ◌+◌, ◌*◌, ◌^◌, ◌<◌, ◌≤◌, ◌&&◌, Bool, true, false}
use Rattle.std.proofs.Common.{cond, List, [], ◌∷◌, ◌++◌, length, refl, ap, sym, subst, ◌∙◌, arith}
use Rattle.std.proofs.Common.{rules, to_z, of_z}
use Rattle.std.specs.Int.{w128}
use Rattle.std.specs.Int.RustNames.{unsigned_abs}
use Rattle.std.specs.Str.{bytes_eq}
use Rattle.std.proofs.lemmas.Int.{ints}
use Rattle.std.proofs.lemmas.List.{reverse-append}
use Rattle.std.proofs.lemmas.Slice.Eq.{bytes_eq-Decides}
use Rattle.bean_pad.specs.Note.{IsBelow, count_in, noted, padded, with_noted}
use Rattle.bean_pad.specs.Sums.{number_at, padded_at}
use Rattle.bean_pad.specs.Trail.{AreNear, check_of, notes_in, trail_of}
use Rattle.bean_pad.specs.declared.check.Passed.TheVariants as passed
use Rattle.bean_pad.proofs.BoundFacts.{grown, near_push, notes_noted}
use Rattle.bean_pad.proofs.padder.Padder.balance.Goals as goal

-- what is kept under one account and currency, by a function that says what is kept under each
chosen : (a b : Bool) (f : List ℕ → List ℕ → ℤ) (x y v w : List ℕ) (n sum old : ℤ)
    → (a ≡ true → x ≡ v) → (b ≡ true → y ≡ w)
    → sum ≡ f x y +ℤ n → old ≡ f v w → cond (a && b) sum old ≡ cond (a && b) (f v w +ℤ n) (f v w)
chosen true true f x y v w n sum old p q s e =
    s ∙ ap (λ x. f x y +ℤ n) (p refl) ∙ ap (λ y. f v y +ℤ n) (q refl)
chosen true false f x y v w n sum old p q s e = e
chosen false b f x y v w n sum old p q s e = e

small : (s : ℕ) (x n : ℤ) → s < 2 ^ 40 → unsigned_abs x ≤ s * 10 ^ 20 → unsigned_abs n < 10 ^ 20
    → unsigned_abs (to_z w128 (of_z w128 (to_z w128 (of_z w128 x) +ℤ to_z w128 (of_z w128 n))))
    ≤ (s + 1) * 10 ^ 20
small s x n few a b = omega (arith, ints)

exact : (s : ℕ) (x n : ℤ) → s < 2 ^ 40 → unsigned_abs x ≤ s * 10 ^ 20 → unsigned_abs n < 10 ^ 20
    → to_z w128 (of_z w128 (to_z w128 (of_z w128 x) +ℤ to_z w128 (of_z w128 n))) ≡ x +ℤ n
exact s x n few a b = omega (arith, ints)

pub returns-clause-follows : goal.returns-clause-follows
returns-clause-follows c = λ past h.
    let b = c.args.balance.now in
    let cost = c.args.is_at_cost in
    let old = c.args.self.now in
    let noted_is = c.noted-noted.ensures.is past h in
    let count = c.count_in.ensures.is ∙ ap count_in noted_is in
    let seen = c.get-seen.ensures.padded in
    let bound =
    subst (λ n. unsigned_abs n
    ≤ old.steps * 10 ^ 20) (sym seen) (c.requires.bounded.paddings b.account b.currency) in
    let sum =
    exact old.steps c.get-seen.result.padded c.count_in.result c.requires.few bound
    c.count_in.ensures.small ∙ (λ i. (seen ∙ h.paddings b.account b.currency) i +ℤ count i) in
    let len : c.len.result ≡ length old.pads.items = search rules in record {
      sums = h.sums;
      paddings = λ a k.
          c.in_ok-set.ensures.padded a k
          ∙ chosen (bytes_eq b.account a) (bytes_eq b.currency k) (padded past) b.account b.currency
          a k (count_in (noted past b cost)) _ _
          (bytes_eq-Decides b.account a).0 (bytes_eq-Decides b.currency k).0 sum (h.paddings a k);
      before = λ a k.
          c.in_ok-set.ensures.pads a k
          ∙ (λ i. cond (bytes_eq b.account a && bytes_eq b.currency k) ((len ∙ h.count) i)
          (h.before a k i));
      numbers = h.numbers;
      pads = c.in_ok-keep.ensures.noted ∙ (λ i. with_noted (noted_is i) (h.pads i));
      count = c.in_ok-keep.ensures.length ∙ h.count;
      trail =
          c.in_ok-push.ensures.items
          ∙ (λ i. h.trail i ++ passed.Balance (c.check-check.ensures.is past h i) ∷ [])
          ∙ sym (reverse-append (passed.Balance (check_of past b c.args.place) ∷ []) (trail_of past));
      steps = let e = h.steps in omega (arith, e);
    }

pub returns-clause-bounded : goal.returns-clause-bounded
returns-clause-bounded c =
    let b = c.args.balance.now in
    let old = c.args.self.now in
    let seen = c.get-seen.ensures.padded in
    let bound =
    subst (λ n. unsigned_abs n
    ≤ old.steps * 10 ^ 20) (sym seen) (c.requires.bounded.paddings b.account b.currency) in
    let trail : length c.push.new.self.items ≡ length old.trail.items + 1 = search rules in record {
      additions = let h = c.requires.bounded.additions in omega arith;
      sums = c.requires.bounded.sums;
      paddings = λ a k.
          grown (bytes_eq b.account a && bytes_eq b.currency k) old.steps
          (padded_at old.balanced a k) _ _
          (c.in_ok-set.ensures.padded a k) (c.requires.bounded.paddings a k)
          (small old.steps c.get-seen.result.padded c.count_in.result c.requires.few bound
          c.count_in.ensures.small);
      numbers =
          λ a. subst (λ n. IsBelow n (number_at old.latest a)) (sym c.in_ok-keep.ensures.length)
          (c.requires.bounded.numbers a);
      notes =
          let one = notes_noted old.pads.items c.noted-noted.result in
          let is = ap notes_in c.in_ok-keep.ensures.noted in
          let h = c.requires.bounded.notes in omega (arith, one, is);
      trail = subst AreNear (sym c.in_ok-push.ensures.items)
          (near_push _ _ c.requires.bounded.trail c.check-check.ensures.near);
      passed = let h = c.requires.bounded.passed in omega (arith, trail);
    }
