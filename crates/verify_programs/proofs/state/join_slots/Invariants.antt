use Rattle.std.proofs.Common.{◌≡◌, length, take, drop, Some}
use Rattle.verify_programs.specs.Joining.{joined_list, joined_slot, joined_slots}
use Rattle.verify_programs.proofs.JoinFacts.{prepend}
use Rattle.verify_programs.proofs.state.join_slots.Given as goal

abbrev pub invariant-loop-place : goal.invariant-loop-place
invariant-loop-place l = record {
  even : length l.slots.items ≡ length l.other;
  rest : joined_slots l.fn.slots.items l.other
      ≡ prepend (take l.place l.slots.items)
      (joined_list (λ x y. Some (joined_slot x y)) (drop l.place l.slots.items)
      (drop l.place l.other));
}
