use Rattle.std.proofs.Common.{◌≡◌, ℕ, ◌≤◌, length}
use Rattle.bean_transactions.specs.Filled.{AreFrom, at_line}
use Rattle.bean_transactions.specs.Tried as spec
use Rattle.bean_transactions.proofs.completed.completed.Given as goal

-- those of the lines so far, and what is filled in at the others
abbrev pub invariant-loop-line : goal.invariant-loop-line
invariant-loop-line l = record {
  number : l.number ≡ length l.yielded;
  posted : l.posted.items ≡ spec.completed l.fills l.yielded;
  from : AreFrom l.number l.left;
  are : (k : ℕ) → l.number ≤ k → at_line k l.left ≡ at_line k l.fills;
}
