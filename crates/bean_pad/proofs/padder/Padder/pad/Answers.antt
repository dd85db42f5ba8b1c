use Rattle.std.proofs.Common.{◌≡◌, ℕ, suc, ◌+◌, [], ◌∷◌, ◌++◌, length, arith, ap, ◌∙◌, sym, subst}
use Rattle.std.proofs.Common.{cond, Some, rules, length-append}
use Rattle.std.specs.Str.{bytes_eq}
use Rattle.bean_pad.specs.Sums.{number_at}
use Rattle.std.proofs.lemmas.List.{reverse-append}
use Rattle.bean_pad.specs.Trail.{AreNear, notes_in, trail_of}
use Rattle.bean_pad.specs.declared.check.Passed.TheVariants as passed
use Rattle.bean_pad.proofs.BoundFacts.{below_set, near_push, notes_push}
use Rattle.bean_pad.proofs.padder.Padder.pad.Goals as goal

one_step : {s n : ℕ} → s ≡ n → s + 1 ≡ suc n
one_step e = omega arith

one_behind : {a b n : ℕ} → a ≡ b + 1 → b ≡ n → a ≡ suc n
one_behind e f = omega arith

pub returns-clause-bounded : goal.returns-clause-bounded
returns-clause-bounded c =
    let old = c.args.self.now in
    let len : c.len.result ≡ length old.pads.items = search rules in
    let more : length c.push.new.self.items ≡ length old.pads.items + 1 = search rules in
    let trail : length c.push-2.new.self.items ≡ length old.trail.items + 1 = search rules in
    let notes : notes_in c.push.new.self.items ≡ notes_in old.pads.items =
    ap notes_in c.in_ok-push.ensures.items ∙ notes_push _ _ c.new.ensures.notes in record {
      additions = let h = c.requires.bounded.additions in omega arith;
      sums = c.requires.bounded.sums;
      paddings = λ a k. let h = c.requires.bounded.paddings a k in omega arith;
      numbers = λ a.
          below_set (bytes_eq c.args.pad.account a) (number_at old.latest a) _
          (length old.pads.items) _
          (c.in_ok-set.ensures a
          ∙ ap (λ n. cond (bytes_eq c.args.pad.account a) (Some n) (number_at old.latest a))
          len)
          more (c.requires.bounded.numbers a);
      notes = let h = c.requires.bounded.notes in omega (arith, notes);
      trail = subst AreNear (sym c.in_ok-push-2.ensures.items)
          (near_push _ _ c.requires.bounded.trail tt);
      passed = let h = c.requires.bounded.passed in omega (arith, trail);
    }

pub returns-clause-follows : goal.returns-clause-follows
returns-clause-follows c = λ past h.
    let old = c.args.self.now in
    let len : c.len.result ≡ length old.pads.items = search rules in
    let more : length c.push.new.self.items ≡ length old.pads.items + 1 =
    ap length c.in_ok-push.ensures.items ∙ length-append old.pads.items (c.new.result ∷ []) in
    record {
      sums = h.sums;
      paddings = h.paddings;
      before = h.before;
      numbers = λ a.
          c.in_ok-set.ensures a
          ∙ (λ i. cond (bytes_eq c.args.pad.account a) (Some ((len ∙ h.count) i)) (h.numbers a i));
      pads =
          c.in_ok-push.ensures.items
          ∙ (λ i. h.pads i ++ record {
            pad = c.new.ensures.pad i;
            day = c.new.ensures.day i;
            place = c.new.ensures.place i;
            notes = c.new.ensures.notes i;
          } ∷ []);
      count = one_behind more h.count;
      trail =
          c.in_ok-push-2.ensures.items
          ∙ (λ i. h.trail i ++ passed.Pad ∷ [])
          ∙ sym (reverse-append (passed.Pad ∷ []) (trail_of past));
      steps = one_step h.steps;
    }
