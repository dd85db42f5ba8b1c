use Rattle.std.proofs.Common.{◌≡◌, length, take, drop}
use Rattle.query_rows.specs.Shape.{joined}
use Rattle.verify_programs.specs.Joining.{joined_list, joined_stack}
use Rattle.verify_programs.proofs.JoinFacts.{prepend}
use Rattle.verify_programs.proofs.state.join_stacks.Given as goal

abbrev pub invariant-loop-place : goal.invariant-loop-place
invariant-loop-place l = record {
  even : length l.stack.items ≡ length l.other;
  rest : joined_stack l.fn.stack.items l.other
      ≡ prepend (take l.place l.stack.items)
      (joined_list joined (drop l.place l.stack.items) (drop l.place l.other));
}
