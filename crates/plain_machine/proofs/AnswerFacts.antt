-- A run has one answer, and where it never faults it has one.
use Rattle.std.proofs.Common.{◌≡◌, ℕ, ◌+◌, ◌-◌, ◌<◌, ◌≤◌, List, length, map, zero, suc, Option, Some, None, true}
use Rattle.std.proofs.Common.{false, refl, sym, ap, ◌∙◌, subst, ⊎_elim, arith, true≢false}
use Rattle.std.proofs.lemmas.Bool.{cases_lt}
use Rattle.query_values.specs.declared.value.Value.{Value}
use Rattle.query_code.specs.declared.program.Parts.{Parts}
use Rattle.query_rows.proofs.FinalRowsFacts.{are_one, are_there}
use Rattle.query_rows.specs.Row.{Row}
use Rattle.plain_machine.specs.Answer.{Answer, Answers, NeverFaults, IsWithinBudget}
use Rattle.plain_machine.specs.Finishing.{ComesOut, finish_of, ranked}
use Rattle.plain_machine.specs.Gathering.{Keeping, all_inputs}
use Rattle.plain_machine.specs.PlainMachine.{Stand, Done, Fault, step, steps, begin, stand_after}
use Rattle.plain_machine.specs.WholeRun.{answer, stand_of, budget, is_going}
use Rattle.plain_machine.proofs.CountFacts.{is_reached}
use Rattle.plain_machine.proofs.ReachFacts.{add_steps}
use Rattle.plain_machine.proofs.RunFacts.{comes_to_answer}

abbrev Stands : Type 0
Stands = Stand (List (List Value))

-- it ends there, and not before
pub record EndsAt (p : Parts) (ledger : List Row) (n : ℕ) (t : Stands) : Type 0 where
  pub comes : stand_after p ledger n ≡ t
  pub ended : is_going t ≡ false
  pub going : (k : ℕ) → k < n → is_going (stand_after p ledger k) ≡ true

not_before : (p : Parts) (ledger : List Row) (m n : ℕ) (t u : Stands) → EndsAt p ledger m t
    → EndsAt p ledger n u → m < n → ⊥
not_before p ledger m n t u a b less =
    true≢false (sym (b.going m less) ∙ ap is_going a.comes ∙ a.ended)

same_end : (p : Parts) (ledger : List Row) (m n : ℕ) (t u : Stands) → EndsAt p ledger m t
    → EndsAt p ledger n u → m ≡ n
same_end p ledger m n t u a b =
    ⊎_elim (λ less. absurd (not_before p ledger m n t u a b less))
    (λ le. ⊎_elim (λ less. absurd (not_before p ledger n m u t b a less))
    (λ ge. omega (arith, le, ge)) (cases_lt n m)) (cases_lt m n)

same_stand : (p : Parts) (ledger : List Row) (m n : ℕ) (t u : Stands) → EndsAt p ledger m t
    → EndsAt p ledger n u → t ≡ u
same_stand p ledger m n t u a b =
    sym a.comes ∙ ap (stand_after p ledger) (same_end p ledger m n t u a b) ∙ b.comes

ends : (p : Parts) (ledger : List Row) (a : Answer) → Answers p ledger a
    → EndsAt p ledger a.steps (Done a.rows)
ends p ledger a is = record { comes = is.done; ended = refl; going = is.going }

-- ---- where the sections come to

abbrev sections : Parts → List Row → Option (List (List Value))
sections p ledger = answer (all_inputs p.code.aggregates) p ledger

isnt_going : (o : Option (List (List Value))) → is_going {X = List (List Value)} (stand_of o) ≡ false
isnt_going None = refl
isnt_going (Some rows) = refl

abbrev pub section_steps : Parts → List Row → ℕ
section_steps p ledger = (comes_to_answer (all_inputs p.code.aggregates) p ledger).count

sections_end : (p : Parts) (ledger : List Row)
    → EndsAt p ledger (section_steps p ledger) (stand_of (sections p ledger))
sections_end p ledger =
    let r = comes_to_answer (all_inputs p.code.aggregates) p ledger in
    record { comes = r.comes; ended = isnt_going (sections p ledger); going = r.going }

rows_in : (o : Option (List (List Value))) (rows : List (List Value))
    → stand_of {X = List (List Value)} o ≡ Done rows → o ≡ Some rows
rows_in None rows e = cc
rows_in (Some xs) rows e = let same : xs ≡ rows = cc in ap Some same

pub of_sections : (p : Parts) (ledger : List Row) (a : Answer) → Answers p ledger a
    → sections p ledger ≡ Some a.rows
of_sections p ledger a is =
    rows_in (sections p ledger) a.rows
    (same_stand p ledger (section_steps p ledger) a.steps (stand_of (sections p ledger))
    (Done a.rows) (sections_end p ledger) (ends p ledger a is))

-- ---- one answer

pub one_answer : (p : Parts) (ledger : List Row) (a b : Answer) → Answers p ledger a
    → Answers p ledger b → a ≡ b
one_answer p ledger a b x y =
    λ i. record { steps = same_steps i; rows = same_rows i; final = same_final i }
  where
    same_steps : a.steps ≡ b.steps
    same_steps =
        same_end p ledger a.steps b.steps (Done a.rows) (Done b.rows) (ends p ledger a x)
        (ends p ledger b y)

    done_rows : (s t : Stands) → s ≡ t → (r q : List (List Value)) → s ≡ Done r → t ≡ Done q → r ≡ q
    done_rows s t e r q f g = cc

    same_rows : a.rows ≡ b.rows
    same_rows =
        done_rows (Done a.rows) (Done b.rows)
        (same_stand p ledger a.steps b.steps (Done a.rows) (Done b.rows) (ends p ledger a x)
        (ends p ledger b y)) a.rows b.rows refl refl

    same_final : a.final ≡ b.final
    same_final =
        are_one (finish_of p.output) (map (ranked p.output) b.rows) a.final b.final
        (subst (λ r. ComesOut p.output r a.final) same_rows x.comes_out) y.comes_out

-- ---- there is one

answered : (p : Parts) (ledger : List Row) (rows : List (List Value))
    → stand_of {X = List (List Value)} (sections p ledger) ≡ Done rows
    → (a : Answer) × Answers p ledger a
answered p ledger rows e =
    let end = sections_end p ledger in
    let out = are_there (finish_of p.output) (map (ranked p.output) rows) in (
      record { steps = section_steps p ledger; rows = rows; final = out.0 },
      record { done = end.comes ∙ e; going = end.going; comes_out = out.1 },
    )

pub has_answer : (p : Parts) (ledger : List Row) → NeverFaults p ledger
    → (a : Answer) × Answers p ledger a
has_answer p ledger never = by (sections p ledger) refl
  where
    by : (o : Option (List (List Value))) → sections p ledger ≡ o
        → (a : Answer) × Answers p ledger a
    by None e =
        absurd (never (section_steps p ledger)
        ((sections_end p ledger).comes ∙ ap stand_of e))
    by (Some rows) e = answered p ledger rows (ap stand_of e)

-- ---- no fault with an answer

stays : (p : Parts) (n : ℕ) (rows : List (List Value))
    → steps (all_inputs p.code.aggregates) p n (Done rows) ≡ Done rows
stays p zero rows = refl
stays p (suc n) rows = ap (step (all_inputs p.code.aggregates) p) (stays p n rows)

ends_apart : (t : Stands) (rows : List (List Value)) → t ≡ Done rows → t ≡ Fault → ⊥
ends_apart t rows e f = cc

pub no_fault : (p : Parts) (ledger : List Row) (a : Answer) → Answers p ledger a
    → NeverFaults p ledger
no_fault p ledger a is n fault = ⊎_elim before behind (cases_lt n a.steps)
  where
    keep : Keeping (List (List Value))
    keep = all_inputs p.code.aggregates

    before : n < a.steps → ⊥
    before less = true≢false (sym (is.going n less) ∙ ap is_going fault)

    behind : a.steps ≤ n → ⊥
    behind more =
        let split : n ≡ (n - a.steps) + a.steps = omega (arith, more) in
        let there : stand_after p ledger n ≡ Done a.rows =
        ap (stand_after p ledger) split ∙ add_steps keep p (n - a.steps) a.steps (begin p ledger)
        ∙ ap (steps keep p (n - a.steps)) is.done ∙ stays p (n - a.steps) a.rows in
        ends_apart (stand_after p ledger n) a.rows there fault

-- ---- the budget

pub within_budget : (p : Parts) (ledger : List Row) (a : Answer) → Answers p ledger a
    → IsWithinBudget p ledger a
within_budget p ledger a is =
    let r = is_reached (all_inputs p.code.aggregates) p ledger a.rows (of_sections p ledger a is) in
    let reach = r.reaches in
    let end : EndsAt p ledger reach.count (Done a.rows) =
    record { comes = reach.comes; ended = refl; going = reach.going } in
    let same = same_end p ledger a.steps reach.count (Done a.rows) (Done a.rows)
    (ends p ledger a is) end in
    record {
      groups_few = r.few;
      steps_few = subst (λ n. n ≤ budget p (length ledger) (length a.rows)) (sym same) reach.within;
    }
