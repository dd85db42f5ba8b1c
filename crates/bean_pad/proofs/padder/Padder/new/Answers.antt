use Rattle.std.proofs.Common.{◌≤◌, length, arith, ap, sym, subst}
use Rattle.std.specs.Int.RustNames.{unsigned_abs}
use Rattle.bean_pad.specs.Note.{IsBelow}
use Rattle.bean_pad.specs.Trail.{AreNear, notes_in}
use Rattle.bean_pad.proofs.padder.Padder.new.Goals as goal

pub returns-clause-bounded : goal.returns-clause-bounded
returns-clause-bounded c = record {
  additions = let none = c.new.ensures.additions in omega (arith, none);
  sums = c.new.ensures.small;
  paddings =
      λ a k. subst (λ n. unsigned_abs n ≤ 0) (sym (c.new-2.ensures.padded a k)) (omega arith);
  numbers = λ a. subst (IsBelow (length c.new-4.result.items)) (sym (c.new-3.ensures a)) tt;
  notes = let none = ap notes_in c.new-4.ensures.items in omega (arith, none);
  trail = subst AreNear (sym c.new-5.ensures.items) tt;
  passed = let none = ap length c.new-5.ensures.items in omega (arith, none);
}
