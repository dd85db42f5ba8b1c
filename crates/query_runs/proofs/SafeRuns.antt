-- A run that keeps what is gathered so far, and the running inventory where it is read, is as safe as
-- the plain machine, which keeps all inputs.
use Rattle.std.proofs.Common.{◌≡◌, ◌≢◌, ℕ, ◌≤◌, List, [], length, refl, sym, ap, subst, ◌∙◌, arith}
use Rattle.plain_machine.proofs.ReadingFacts.{readers_alike, row_steps_alike}
use Rattle.plain_machine.specs.Alike.{stand_as}
use Rattle.plain_machine.specs.Answer.{NeverFaults}
use Rattle.plain_machine.specs.Depth.{outcome_of, values_in}
use Rattle.plain_machine.specs.Gathering.{Group, aggregates_over, all_inputs}
use Rattle.plain_machine.specs.PlainMachine.{Stand, InFilter, InRow, InLast, Done, Fault, begin_filter}
use Rattle.plain_machine.specs.PlainMachine.{stand_after}
use Rattle.plain_machine.specs.Reading.{reads_running, stand_read}
use Rattle.plain_machine.specs.Safety.{RunsSafely}
use Rattle.plain_machine.specs.SectionRun.{Standing}
use Rattle.plain_machine.specs.WholeRun.{is_going}
use Rattle.query_code.specs.declared.program.Parts.{Parts}
use Rattle.query_rows.specs.Row.{Row}
use Rattle.query_values.specs.Aggregate.{aggregate_of}
use Rattle.query_values.specs.declared.operation.Aggregate.TheVariants.{SumInventory}
use Rattle.query_values.specs.declared.value.Value.{Value}
use Rattle.query_runs.proofs.Readiness.{begins_ready}
use Rattle.query_runs.specs.Stands.{Gathered, keeps, run_after}
use Rattle.query_runs.specs.Turns.{IsSafe}

module _ (p : Parts) where
  abbrev Inputs : Type 0
  Inputs = List (List Value)

  abbrev as_gathered : Stand Inputs → Stand Gathered
  as_gathered s = stand_read (reads_running p) (stand_as (aggregates_over p.code.aggregates) s)

  fault_alike : (s : Stand Inputs) → as_gathered s ≡ Fault → s ≡ Fault
  fault_alike (InFilter r rest k q s) e = absurd cc
  fault_alike (InRow r rest k q s) e = absurd cc
  fault_alike (InLast g rest rows q s) e = absurd cc
  fault_alike (Done rows) e = absurd cc
  fault_alike Fault e = refl

  ended_alike : (s : Stand Inputs) (rows : List (List Value)) → as_gathered s ≡ Done rows
      → s ≡ Done rows
  ended_alike (InFilter r rest k q s) rows e = absurd cc
  ended_alike (InRow r rest k q s) rows e = absurd cc
  ended_alike (InLast g rest out q s) rows e = absurd cc
  ended_alike (Done out) rows e = let same : out ≡ rows = cc in ap Done same
  ended_alike Fault rows e = absurd cc

  goes_alike : (s : Stand Inputs) → is_going s ≡ is_going (as_gathered s)
  goes_alike (InFilter r rest k q s) = refl
  goes_alike (InRow r rest k q s) = refl
  goes_alike (InLast g rest rows q s) = refl
  goes_alike (Done rows) = refl
  goes_alike Fault = refl

  outcome_alike : (s : Stand Inputs) → outcome_of (all_inputs p.code.aggregates) p s
      ≡ outcome_of (keeps p) p (as_gathered s)
  outcome_alike (InFilter r rest k q s) = refl
  outcome_alike (InRow r rest k q s) =
      row_steps_alike p (reads_running p) refl k.running r (Standing q s)
  outcome_alike (InLast g rest rows q s) = refl
  outcome_alike (Done rows) = refl
  outcome_alike Fault = refl

  module _ (rows : List Row) where
    pub is_safe : (depth : ℕ) → RunsSafely p rows depth → IsSafe p (run_after p rows 0) depth
    is_safe depth safe = record {
      ready = begins_ready p rows;
      never_faults = λ n fault. safe.never_faults n
          (fault_alike (stand_after p rows n) (readers_alike p rows safe.never_faults n ∙ fault));
      stays_within = λ n.
          subst (λ o. length (values_in o) ≤ depth)
          (outcome_alike (stand_after p rows n)
          ∙ ap (outcome_of (keeps p) p) (readers_alike p rows safe.never_faults n))
          (safe.stays_within n);
    }

    pub with_more_room : (depth room : ℕ) → depth ≤ room → IsSafe p (run_after p rows 0) depth
        → IsSafe p (run_after p rows 0) room
    with_more_room depth room more safe = record {
      ready = safe.ready;
      never_faults = safe.never_faults;
      stays_within = λ n. let few = safe.stays_within n in omega (arith, few, more);
    }

    pub goes_as_plain : NeverFaults p rows → (n : ℕ)
        → is_going (stand_after p rows n) ≡ is_going (run_after p rows n)
    goes_as_plain never n =
        goes_alike (stand_after p rows n) ∙ ap is_going (readers_alike p rows never n)

    pub ends_as_plain : NeverFaults p rows → (n : ℕ) (out : List (List Value))
        → run_after p rows n ≡ Done out → stand_after p rows n ≡ Done out
    ends_as_plain never n out e =
        ended_alike (stand_after p rows n) out (readers_alike p rows never n ∙ e)

    pub begins_safely : (depth : ℕ) → IsSafe p (run_after p rows 0) depth → (running : Value)
        (groups : List (Group Gathered)) (out : List (List Value))
        → running ≡ aggregate_of (SumInventory 8) [] → groups ≡ [] → out ≡ []
        → begin_filter p rows (record { running = running; groups = groups; rows = out }) ≢ Fault
    begins_safely depth safe running groups out at_first none nothing fault =
        safe.never_faults 0
        (ap (λ r. begin_filter p rows (record { running = r; groups = []; rows = [] })) (sym at_first)
        ∙ ap (λ g. begin_filter p rows (record { running = running; groups = g; rows = [] })) (sym none)
        ∙ ap (λ o. begin_filter p rows (record { running = running; groups = groups; rows = o }))
        (sym nothing) ∙ fault)
