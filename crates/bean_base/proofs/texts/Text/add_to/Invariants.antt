use Rattle.std.proofs.Common.{◌≡◌, ◌++◌, length}
use Rattle.std.specs.String.{string_bytes}
use Rattle.bean_base.specs.Text.{read_text}
use Rattle.bean_base.proofs.texts.Text.add_to.Given as goal

abbrev pub invariant-loop-before : goal.invariant-loop-before
invariant-loop-before l =
    string_bytes l.out ++ read_text l.unadded.written.now ≡ string_bytes l.initial.out ++ l.self

abbrev pub decreases-loop-before : goal.decreases-loop-before
decreases-loop-before l = length l.unadded.written.now
