-- A program that has an answer over some rows has the same in the second version: it loads no column
-- there that its schema doesn't have, which would be a fault.
use Rattle.std.proofs.Common.{◌≡◌, ◌⊎◌, ℕ, zero, suc, Bool, true, false, List, length}
use Rattle.std.proofs.Common.{Option, Some, None, refl, sym, ap, ◌∙◌, cond, inl, inr}
use Rattle.std.specs.Prelude.{slice_get, option_and_then}
use Rattle.limits.specs.declared.bounds.Version.{Version}
use Rattle.limits.specs.declared.bounds.Version.TheVariants.{Second}
use Rattle.query_terms.proofs.NumberFacts.{second_has_all}
use Rattle.query_terms.specs.Column.{if_in, is_in, numbered, numbered_in}
use Rattle.query_terms.specs.declared.column.Column.{Column}
use Rattle.query_code.specs.Upgrade.{upgraded}
use Rattle.query_code.specs.declared.instruction.Instruction.{Instruction}
use Rattle.query_code.specs.declared.instruction.Instruction.TheVariants.{Push, Unary, Binary}
use Rattle.query_code.specs.declared.instruction.Instruction.TheVariants.{LoadSlot, StoreSlot, Jump}
use Rattle.query_code.specs.declared.instruction.Instruction.TheVariants.{JumpIfFalse}
use Rattle.query_code.specs.declared.instruction.Push as pushes
use Rattle.query_code.specs.declared.instruction.Push.TheVariants as push
use Rattle.query_code.specs.declared.program.Constant.{Constant}
use Rattle.query_code.specs.declared.program.Parts.{Parts}
use Rattle.query_rows.specs.Row.{Row}
use Rattle.query_values.specs.Held.{checked}
use Rattle.query_values.specs.declared.value.Value.{Value}
use Rattle.plain_machine.proofs.AnswerFacts.{no_fault}
use Rattle.plain_machine.proofs.UpgradeFacts.{begin_filter_alike, columns_alike, in_filter_alike}
use Rattle.plain_machine.proofs.UpgradeFacts.{in_last_alike, in_row_alike, of_second}
use Rattle.plain_machine.specs.Answer.{Answer, Answers}
use Rattle.plain_machine.specs.Gathering.{Keeping, all_inputs}
use Rattle.plain_machine.specs.Loading.{Loads, cell_in, loaded, value_acts}
use Rattle.plain_machine.specs.PlainMachine.{Stand, InFilter, InRow, InLast, Done, Fault}
use Rattle.plain_machine.specs.PlainMachine.{in_filter, in_row, in_last}
use Rattle.plain_machine.specs.PlainMachine.{step, stand_after}
use Rattle.plain_machine.specs.PlainMachine.{nothing_kept, filter_loads, row_loads, last_loads}
use Rattle.plain_machine.specs.SectionRun.{State, Stopped, stepped}
use Rattle.plain_machine.specs.SectionRun.{effect, leads_on, moved, next_place, with_slots, with_top}
use Rattle.plain_machine.specs.WholeRun.{is_going}

-- ---- what is loaded: the same, or nothing

some_or_none : (known : Bool) (c : Column)
    → (cond known (Some c) None ≡ Some c) ⊎ (cond known (Some c) None ≡ None)
some_or_none true c = inl refl
some_or_none false c = inr refl

column_or_none : (v : Version) (o : Option Column)
    → (option_and_then (if_in Second) o ≡ option_and_then (if_in v) o)
    ⊎ (option_and_then (if_in v) o ≡ None)
column_or_none v None = inl refl
column_or_none v (Some c) =
    elim (some_or_none (is_in v c) c) [
      | inl e ↦ inl (ap (λ known. cond known (Some c) None) (second_has_all c) ∙ sym e)
      | inr e ↦ inr e
    ]

module _ (pool : List Constant) (l : Loads) where
  loaded_or_none : (op : pushes.Push)
      → (loaded pool (of_second l) op ≡ loaded pool l op) ⊎ (loaded pool l op ≡ None)
  loaded_or_none push.True = inl refl
  loaded_or_none push.False = inl refl
  loaded_or_none (push.Const i) = inl refl
  loaded_or_none (push.LoadColumn n) =
      elim (column_or_none l.schema (numbered n)) [
        | inl e ↦ inl
            (columns_alike l (numbered_in Second n) ∙ ap (option_and_then (cell_in l)) e)
        | inr e ↦ inr (ap (option_and_then (cell_in l)) e)
      ]
  loaded_or_none (push.LoadKey k) = inl refl
  loaded_or_none (push.LoadAggregate a) = inl refl
  loaded_or_none (push.Meta i) = inl refl
  loaded_or_none (push.EntryMeta i) = inl refl
  loaded_or_none (push.AnyMeta i) = inl refl

  -- ---- what an instruction does: the same, or it stops

  abbrev pushed : State Value → Option Value → Option (State Value)
  pushed s x = with_slots s.slots (with_top (option_and_then (checked true) x) s.stack)

  effect_or_none : (i : Instruction) (s : State Value)
      → (effect (value_acts pool (of_second l)) i s ≡ effect (value_acts pool l) i s)
      ⊎ (effect (value_acts pool l) i s ≡ None)
  effect_or_none (Push op) s =
      elim (loaded_or_none op) [
        | inl e ↦ inl (ap (pushed s) e)
        | inr e ↦ inr (ap (pushed s) e)
      ]
  effect_or_none (Unary op) s = inl refl
  effect_or_none (Binary op) s = inl refl
  effect_or_none (LoadSlot k) s = inl refl
  effect_or_none (StoreSlot k) s = inl refl
  effect_or_none (Jump to) s = inl refl
  effect_or_none (JumpIfFalse to) s = inl refl

  stops : (leads : Bool) → cond leads Stopped Stopped ≡ Stopped
  stops true = refl
  stops false = refl

  stepped_or_stopped : (len : ℕ) (o : Option Instruction) (q : ℕ) (s : State Value)
      → (stepped len (value_acts pool (of_second l)) o q s
      ≡ stepped len (value_acts pool l) o q s)
      ⊎ (stepped len (value_acts pool l) o q s ≡ Stopped)
  stepped_or_stopped len None q s = inl refl
  stepped_or_stopped len (Some i) q s =
      elim (effect_or_none i s) [
        | inl e ↦ inl
            (ap (λ x. cond (leads_on len q i) (moved (next_place i q s.stack) x) Stopped) e)
        | inr e ↦ inr
            (ap (λ x. cond (leads_on len q i) (moved (next_place i q s.stack) x) Stopped) e
            ∙ stops (leads_on len q i))
      ]

-- ---- a step is the same, or a fault

module _ {X : Type 0} (keep : Keeping X) (p : Parts) where
  step_or_fault : (s : Stand X)
      → (step keep (upgraded p) s ≡ step keep p s) ⊎ (step keep p s ≡ Fault)
  step_or_fault (InFilter r rest k q s) =
      elim
      (stepped_or_stopped p.code.pool (filter_loads p.bounds.schema r) (length p.code.filter)
      (slice_get p.code.filter q) q s) [
        | inl e ↦ inl (in_filter_alike keep p r rest k _ ∙ ap (in_filter keep p r rest k) e)
        | inr e ↦ inr (ap (in_filter keep p r rest k) e)
      ]
  step_or_fault (InRow r rest k q s) =
      elim
      (stepped_or_stopped p.code.pool (row_loads p.bounds.schema p.mode k.running r)
      (length p.code.row) (slice_get p.code.row q) q s) [
        | inl e ↦ inl (in_row_alike keep p r rest k _ ∙ ap (in_row keep p r rest k) e)
        | inr e ↦ inr (ap (in_row keep p r rest k) e)
      ]
  step_or_fault (InLast g gs rows q s) =
      elim
      (stepped_or_stopped p.code.pool (last_loads p.bounds.schema g.0 (keep.values g.1))
      (length p.code.last) (slice_get p.code.last q) q s) [
        | inl e ↦ inl (in_last_alike keep p g gs rows _ ∙ ap (in_last keep p g gs rows) e)
        | inr e ↦ inr (ap (in_last keep p g gs rows) e)
      ]
  step_or_fault (Done rows) = inl refl
  step_or_fault Fault = inl refl

-- ---- so it has the same answer

module _ (p : Parts) (rows : List Row) (a : Answer) (is : Answers p rows a) where
  stands_alike : (n : ℕ) → stand_after (upgraded p) rows n ≡ stand_after p rows n
  stands_alike zero = begin_filter_alike p rows nothing_kept
  stands_alike (suc n) =
      ap (step (all_inputs p.code.aggregates) (upgraded p)) (stands_alike n)
      ∙ elim (step_or_fault (all_inputs p.code.aggregates) p (stand_after p rows n)) [
        | inl e ↦ e
        | inr e ↦ absurd (no_fault p rows a is (suc n) e)
      ]

  pub upgrade_answers : Answers (upgraded p) rows a
  upgrade_answers = record {
    done = stands_alike a.steps ∙ is.done;
    going = λ k less. ap is_going (stands_alike k) ∙ is.going k less;
    comes_out = is.comes_out;
  }
