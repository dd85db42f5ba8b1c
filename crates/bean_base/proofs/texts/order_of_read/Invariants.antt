use Rattle.std.proofs.Common.{◌≡◌, length}
use Rattle.std.specs.Cmp.Lexicographic.{slice_cmp}
use Rattle.std.specs.Ordering.{nat_cmp}
use Rattle.bean_base.specs.Text.{read_text}
use Rattle.bean_base.proofs.texts.order_of_read.Given as goal

abbrev pub invariant-loop-x : goal.invariant-loop-x
invariant-loop-x l =
    slice_cmp nat_cmp (read_text l.left.written.now) (read_text l.right.written.now)
    ≡ slice_cmp nat_cmp (read_text l.initial.left.written.now)
    (read_text l.initial.right.written.now)

abbrev pub decreases-loop-x : goal.decreases-loop-x
decreases-loop-x l = length l.left.written.now
