-- Turns of a run add up.
use Rattle.std.proofs.Common.{◌≡◌, ℕ, zero, suc, ◌+◌, ◌-◌, ◌<◌, ◌≤◌, List, [], ◌∷◌, length, min, sum}
use Rattle.std.proofs.Common.{true, false, refl, sym, ap, subst, ◌∙◌, arith, inl, inr, true≢false}
use Rattle.std.proofs.lemmas.Bool.{cases_lt}
use Rattle.std.proofs.lemmas.List.Sums.{sum_by-cons}
use Rattle.plain_machine.proofs.AnswerFacts.{has_answer, one_answer}
use Rattle.plain_machine.proofs.ReachFacts.{add_steps}
use Rattle.plain_machine.specs.Answer as plain
use Rattle.plain_machine.specs.Answer.{Answers, NeverFaults}
use Rattle.plain_machine.specs.Gathering.{all_inputs}
use Rattle.plain_machine.specs.PlainMachine.{Done, begin, stand_after, step, steps}
use Rattle.plain_machine.specs.WholeRun.{budget, is_going}
use Rattle.query_code.specs.declared.program.Parts.{Parts}
use Rattle.query_machine.proofs.Bounds.{budget_of_groups}
use Rattle.query_machine.specs.Run.{At, Ended, Failed, Place}
use Rattle.query_machine.specs.Turns.{AreTurned, HasEnded, HasMade, Moves, RunsEnd, StandsAfter}
use Rattle.query_machine.specs.Turns.{StepsAreCounted, TurnsAddUp}
use Rattle.query_rows.specs.Row.{Row}
use Rattle.query_values.specs.declared.value.Value.{Value}

module _ (p : Parts) (ledger : List Row) where
  -- ---- turns

  moved : (given k : ℕ) (old new : Place) → StandsAfter p ledger given old
      → Moves p ledger k old new → StandsAfter p ledger (given + k) new
  moved given k (At s) new stands moves =
      subst (λ n. StandsAfter p ledger (n + k) new) stands.0 moves
  moved given k (Ended answer) new stands moves =
      subst (StandsAfter p ledger (given + k)) (sym moves)
      (stands.0, let le = stands.1 in omega (arith, le))
  moved given k Failed new stands moves =
      subst (StandsAfter p ledger (given + k)) (sym moves) tt

  pub add_up : (ks : List ℕ) (given : ℕ) (old new : Place) → StandsAfter p ledger given old
      → AreTurned p ledger ks old new → StandsAfter p ledger (given + sum ks) new
  add_up [] given old new stands same =
      subst (λ n. StandsAfter p ledger n new) (none given)
      (subst (StandsAfter p ledger given) (sym same) stands)
    where
      none : (n : ℕ) → n ≡ n + 0
      none n = omega arith
  add_up (k ∷ ks) given old new stands (mid, moves, rest) =
      subst (λ n. StandsAfter p ledger n new)
      (joined given k (sum ks) ∙ ap (λ n. given + n) (sym (sum_by-cons (λ x. x) k ks)))
      (add_up ks (given + k) mid new (moved given k old mid stands moves) rest)
    where
      joined : (a b c : ℕ) → (a + b) + c ≡ a + (b + c)
      joined a b c = omega arith

  -- ---- the end

  stays : (n : ℕ) (rows : List (List Value))
      → steps (all_inputs p.code.aggregates) p n (Done rows) ≡ Done rows
  stays zero rows = refl
  stays (suc n) rows = ap (step (all_inputs p.code.aggregates) p) (stays n rows)

  module _ (a : plain.Answer) (is : Answers p ledger a) where
    behind : (n : ℕ) → a.steps ≤ n → is_going (stand_after p ledger n) ≡ false
    behind n le =
        ap is_going (ap (stand_after p ledger) split
        ∙ add_steps (all_inputs p.code.aggregates) p (n - a.steps) a.steps (begin p ledger)
        ∙ ap (steps (all_inputs p.code.aggregates) p (n - a.steps)) is.done
        ∙ stays (n - a.steps) a.rows)
      where
        split : n ≡ (n - a.steps) + a.steps
        split = omega arith

    pub before : (n : ℕ) → is_going (stand_after p ledger n) ≡ true → n < a.steps
    before n goes =
        elim (cases_lt n a.steps) [
          | inl less ↦ less
          | inr le ↦ absurd (true≢false (sym goes ∙ behind n le))
        ]

    pub counted : (given : ℕ) (place : Place) → StandsAfter p ledger given place
        → HasMade (min given a.steps) place
    counted given (At s) stands =
        let less = before given stands.1 in
        let same = stands.0 in
        omega (arith, less, same)
    counted given (Ended answer) stands =
        let run = stands.0 in
        let made : answer.steps ≡ a.steps =
        run.steps ∙ ap (λ (b : plain.Answer). b.steps) (one_answer p ledger run.plain a run.answers is) in
        let le = stands.1 in
        omega (arith, made, le)
    counted given Failed stands = tt

  pub ended : NeverFaults p ledger → (given : ℕ) → budget p (length ledger) (length ledger) ≤ given
      → (place : Place) → StandsAfter p ledger given place → HasEnded place
  ended never given enough (At s) stands =
      let a = has_answer p ledger never in
      let less = before a.0 a.1 given stands.1 in
      let few = budget_of_groups p ledger a.0 a.1 in
      omega (arith, less, few, enough)
  ended never given enough (Ended answer) stands = tt
  ended never given enough Failed stands = tt

pub turns_add : TurnsAddUp
turns_add p ledger k ks new (mid, moves, rest) =
    subst (λ n. StandsAfter p ledger n new) (none k (sum ks) ∙ sym (sum_by-cons (λ x. x) k ks))
    (add_up p ledger ks (0 + k) mid new moves rest)
  where
    none : (n m : ℕ) → (0 + n) + m ≡ n + m
    none n m = omega arith

pub steps_counted : StepsAreCounted
steps_counted p ledger given place a is stands = counted p ledger a is given place stands

pub runs_end : RunsEnd
runs_end p ledger given place never enough stands = ended p ledger never given enough place stands
