use Rattle.query_sections.proofs.StepFacts.{push_room, unary_room, binary_room, slot_room}
use Rattle.query_sections.proofs.StepFacts.{store_there, test_there, push_is, unary_is, binary_is}
use Rattle.query_sections.proofs.StepFacts.{slot_is, store_is, jump_is, test_is}
use Rattle.query_sections.specs.Reading.{acts_of}
use Rattle.query_sections.specs.Standing.{state_in}
use Rattle.query_sections.proofs.running.execute.Goals as goal

pub push-requires : goal.push-requires
push-requires c =
    push_room c.args.frame.now.stack.room (acts_of c.args.pool.now c.args.loads.now)
    c.args.instruction (state_in c.args.frame.now) c.requires.room c.in-Push.op c.in-Push.is

pub unary-requires-clause-room : goal.unary-requires-clause-room
unary-requires-clause-room c =
    unary_room c.args.frame.now.stack.room (acts_of c.args.pool.now c.args.loads.now)
    c.args.instruction (state_in c.args.frame.now) c.requires.room c.in-Unary.op c.in-Unary.is

pub binary-requires : goal.binary-requires
binary-requires c =
    binary_room c.args.frame.now.stack.room (acts_of c.args.pool.now c.args.loads.now)
    c.args.instruction (state_in c.args.frame.now) c.requires.room c.in-Binary.op c.in-Binary.is

pub load_slot-requires : goal.load_slot-requires
load_slot-requires c =
    slot_room c.args.frame.now.stack.room (acts_of c.args.pool.now c.args.loads.now)
    c.args.instruction (state_in c.args.frame.now) c.requires.room c.in-LoadSlot.slot
    c.in-LoadSlot.is

pub store_slot-requires : goal.store_slot-requires
store_slot-requires c =
    store_there c.args.frame.now.stack.room (acts_of c.args.pool.now c.args.loads.now)
    c.args.instruction (state_in c.args.frame.now) c.requires.room c.in-StoreSlot.slot
    c.in-StoreSlot.is

pub pop_test-goes_on-requires : goal.pop_test-goes_on-requires
pop_test-goes_on-requires c =
    test_there c.args.frame.now.stack.room (acts_of c.args.pool.now c.args.loads.now)
    c.args.instruction (state_in c.args.frame.now) c.requires.room c.in-JumpIfFalse.to
    c.in-JumpIfFalse.is

pub returns-in_ok-push-in-Push-clause-state : goal.returns-in_ok-push-in-Push-clause-state
returns-in_ok-push-in-Push-clause-state c =
    push_is (acts_of c.args.pool.now c.args.loads.now) c.args.instruction
    (state_in c.args.frame.now) c.in-Push.op c.push.new.stack.values c.in-Push.is
    c.in_ok-push-in-Push.ensures.values

pub returns-in_ok-unary-in-Unary-clause-state : goal.returns-in_ok-unary-in-Unary-clause-state
returns-in_ok-unary-in-Unary-clause-state c =
    unary_is (acts_of c.args.pool.now c.args.loads.now) c.args.instruction
    (state_in c.args.frame.now) c.in-Unary.op c.unary.new.stack.values c.in-Unary.is
    c.in_ok-unary-in-Unary.ensures.values

pub returns-in-Binary-clause-state : goal.returns-in-Binary-clause-state
returns-in-Binary-clause-state c =
    binary_is (acts_of c.args.pool.now c.args.loads.now) c.args.instruction
    (state_in c.args.frame.now) c.in-Binary.op c.binary.new.stack.values c.in-Binary.is
    c.binary.ensures.values

pub returns-in_ok-load_slot-in-LoadSlot-clause-state : goal.returns-in_ok-load_slot-in-LoadSlot-clause-state
returns-in_ok-load_slot-in-LoadSlot-clause-state c =
    slot_is (acts_of c.args.pool.now c.args.loads.now) c.args.instruction
    (state_in c.args.frame.now) c.in-LoadSlot.slot c.load_slot.new.frame.stack.values
    c.load_slot.new.frame.slots c.in-LoadSlot.is c.in_ok-load_slot-in-LoadSlot.ensures.values
    c.load_slot.ensures.slots

pub returns-in-StoreSlot-clause-state : goal.returns-in-StoreSlot-clause-state
returns-in-StoreSlot-clause-state c =
    store_is (acts_of c.args.pool.now c.args.loads.now) c.args.instruction
    (state_in c.args.frame.now) c.in-StoreSlot.slot (state_in c.store_slot.new.frame)
    c.in-StoreSlot.is c.store_slot.ensures.state

pub returns-in-Jump-clause-state : goal.returns-in-Jump-clause-state
returns-in-Jump-clause-state c =
    jump_is (acts_of c.args.pool.now c.args.loads.now) c.args.instruction
    (state_in c.args.frame.now) c.in-Jump.to c.in-Jump.is

pub returns-in-JumpIfFalse-clause-state : goal.returns-in-JumpIfFalse-clause-state
returns-in-JumpIfFalse-clause-state c =
    test_is (acts_of c.args.pool.now c.args.loads.now) c.args.instruction
    (state_in c.args.frame.now) c.in-JumpIfFalse.to
    (record { stack = c.pop_test-goes_on.new.stack.values; slots = c.args.frame.now.slots })
    c.in-JumpIfFalse.is c.pop_test-goes_on.ensures.values
