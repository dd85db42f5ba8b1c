-- How many rows an answer has.
use Rattle.std.proofs.Common.{◌≡◌, ℕ, suc, ◌+◌, ◌*◌, ◌≤◌, List, [], ◌∷◌, ◌++◌, length, take, drop}
use Rattle.std.proofs.Common.{reverse, Option, Some, None, Bool, true, false, cond, refl, ap, subst}
use Rattle.std.proofs.Common.{arith}
use Rattle.std.specs.Prelude.{nat_eq, option_map, option_and_then}
use Rattle.std.proofs.Math.Nat.{mul-le-mul_right}
use Rattle.query_values.specs.declared.value.Value.{Value}
use Rattle.query_code.specs.QueryFile.{is_grouped}
use Rattle.query_code.specs.declared.program.Parts.{Parts}
use Rattle.plain_machine.specs.Finishing.{are_orderable}
use Rattle.query_rows.specs.Same.{same_values}
use Rattle.plain_machine.specs.Gathering.{Keeping, Group, inputs_of, cons_if, group_if, put}
use Rattle.plain_machine.specs.PlainMachine.{Kept, Done, one_truth, row_of}
use Rattle.plain_machine.specs.PlainMachine.{with_running, with_groups, with_row, grouped_with}
use Rattle.plain_machine.specs.PlainMachine.{kept_with, nothing_kept, begin}
use Rattle.query_rows.specs.Row.{Row}
use Rattle.plain_machine.specs.WholeRun.{filter_left, row_left, row_run, row_taken, behind_row}
use Rattle.plain_machine.specs.WholeRun.{behind_rows, group_row, group_rows, orderable, rows_of}
use Rattle.plain_machine.specs.WholeRun.{answer, stand_of, group_count, budget, Reaches, IsReached}
use Rattle.plain_machine.proofs.ReachFacts.{reach_less}
use Rattle.plain_machine.proofs.RunFacts.{comes_to_answer}

one_longer : {A : Type 0} (xs : List A) (x : A) → length (xs ++ x ∷ []) ≡ suc (length xs)
one_longer [] x = refl
one_longer (y ∷ xs) x = ap suc (one_longer xs x)

-- rows, and groups that will each give one
abbrev size : {X : Type 0} → Kept X → ℕ
size k = length k.groups + length k.rows

abbrev AtMost : {X : Type 0} → ℕ → Option (Kept X) → Type 0
AtMost n None = Unit {0}
AtMost n (Some k) = size k ≤ n

abbrev Few : {A : Type 0} → ℕ → Option (List A) → Type 0
Few n None = Unit {0}
Few n (Some xs) = length xs ≤ n

module _ {X : Type 0} (keep : Keeping X) (p : Parts) where
  put_few : (groups : List (Group X)) (keys inputs : List Value)
      → Few (suc (length groups)) (put keep groups keys inputs)
  put_few [] keys inputs = by (keep.add keep.start inputs)
    where
      by : (o : Option X) → Few 1 (group_if keys o [])
      by None = tt
      by (Some x) = omega arith
  put_few (g ∷ groups) keys inputs = by (same_values keys g.0) (put_few groups keys inputs)
    where
      here : (o : Option X) → Few (suc (suc (length groups))) (group_if g.0 o groups)
      here None = tt
      here (Some x) = omega arith

      on : (o : Option (List (Group X))) → Few (suc (length groups)) o
          → Few (suc (suc (length groups))) (cons_if (Some g) o)
      on None h = tt
      on (Some xs) h = omega (arith, h)

      by : (b : Bool) → Few (suc (length groups)) (put keep groups keys inputs)
          → Few (suc (suc (length groups)))
          (cond b (group_if g.0 (keep.add g.1 inputs) groups)
          (cons_if (Some g) (put keep groups keys inputs)))
      by true h = here (keep.add g.1 inputs)
      by false h = on (put keep groups keys inputs) h

  kept_few : (k : Kept X) (stack : List Value) → AtMost (suc (size k)) (kept_with keep p k stack)
  kept_few k stack = by (is_grouped p.mode)
    where
      values : List Value
      values = reverse stack

      grown : (o : Option (List (Group X))) → Few (suc (length k.groups)) o
          → AtMost (suc (size k)) (option_map (with_groups k) o)
      grown None h = tt
      grown (Some groups) h = omega (arith, h)

      row : (o : Option (List Value)) → AtMost (suc (size k)) (option_map (with_row k) o)
      row None = tt
      row (Some x) = let e = one_longer k.rows x in omega (arith, e)

      grouped : (b : Bool)
          → AtMost (suc (size k))
          (cond b (option_map (with_groups k)
          (put keep k.groups (take p.code.keys values) (drop p.code.keys values))) None)
      grouped true =
          grown (put keep k.groups (take p.code.keys values) (drop p.code.keys values))
          (put_few k.groups (take p.code.keys values) (drop p.code.keys values))
      grouped false = tt

      by : (b : Bool)
          → AtMost (suc (size k))
          (cond b (grouped_with keep p k values) (option_map (with_row k) (row_of p.output stack)))
      by true = grouped (nat_eq (length values) (p.code.keys + inputs_of p.code.aggregates))
      by false = row (row_of p.output stack)

  row_few : (r : Row) (k : Kept X) → AtMost (suc (size k)) (behind_row keep p r k)
  row_few r k = by (option_and_then one_truth (filter_left p r))
    where
      kept_by : (h : Kept X) (o : Option (List Value))
          → AtMost (suc (size h)) (option_and_then (kept_with keep p h) o)
      kept_by h None = tt
      kept_by h (Some stack) = kept_few h stack

      taken : (o : Option Value)
          → AtMost (suc (size k))
          (option_and_then (row_run keep p r) (option_map (with_running k) o))
      taken None = tt
      taken (Some running) = kept_by (with_running k running) (row_left p running r)

      by : (o : Option Bool) → AtMost (suc (size k)) (option_and_then (row_taken keep p r k) o)
      by None = tt
      by (Some true) = taken (keep.running_on k.running r)
      by (Some false) = omega arith

  rows_few : (rows : List Row) (k : Kept X)
      → AtMost (size k + length rows) (behind_rows keep p rows k)
  rows_few [] k = omega arith
  rows_few (r ∷ rest) k = by (behind_row keep p r k) (row_few r k) (λ h. rows_few rest h)
    where
      wider : (n m : ℕ) (o : Option (Kept X)) → n ≤ m → AtMost n o → AtMost m o
      wider n m None le h = tt
      wider n m (Some x) le h = omega (arith, le, h)

      by : (o : Option (Kept X)) → AtMost (suc (size k)) o
          → ((h : Kept X) → AtMost (size h + length rest) (behind_rows keep p rest h))
          → AtMost (size k + length (r ∷ rest)) (option_and_then (behind_rows keep p rest) o)
      by None few rec = tt
      by (Some h) few rec =
          wider (size h + length rest) (size k + suc (length rest)) (behind_rows keep p rest h)
          (omega (arith, few)) (rec h)

  one_each : (groups : List (Group X)) (rows out : List (List Value))
      → group_rows keep p groups rows ≡ Some out → length out ≡ length groups + length rows
  one_each [] rows out e = let same : rows ≡ out = cc in let n = ap length same in omega (arith, n)
  one_each (g ∷ rest) rows out e =
      by (group_row keep p g) e (λ row f. one_each rest (rows ++ row ∷ []) out f)
    where
      by : (o : Option (List Value))
          → option_and_then (λ row. group_rows keep p rest (rows ++ row ∷ [])) o ≡ Some out
          → ((row : List Value) → group_rows keep p rest (rows ++ row ∷ []) ≡ Some out
          → length out ≡ length rest + length (rows ++ row ∷ []))
          → length out ≡ suc (length rest) + length rows
      by None f rec = cc
      by (Some row) f rec = let n = rec row f in let m = one_longer rows row in omega (arith, n, m)

  ordered : (o : Option (List (List Value))) (out : List (List Value))
      → option_and_then (orderable p) o ≡ Some out → o ≡ Some out
  ordered None out e = e
  ordered (Some rows) out e = by (are_orderable p.output.order rows) e
    where
      by : (b : Bool) → cond b (Some rows) None ≡ Some out → Some rows ≡ Some out
      by true f = f
      by false f = cc

  few_rows : (ledger : List Row) (rows : List (List Value)) → answer keep p ledger ≡ Some rows
      → (group_count (behind_rows keep p ledger nothing_kept) ≤ length rows)
      × (length rows ≤ length ledger)
  few_rows ledger rows e =
      by (behind_rows keep p ledger nothing_kept) e (rows_few ledger nothing_kept)
    where
      by : (o : Option (Kept X)) → option_and_then (rows_of keep p) o ≡ Some rows
          → AtMost (0 + length ledger) o
          → (group_count o ≤ length rows) × (length rows ≤ length ledger)
      by None f few = cc
      by (Some k) f few = let n =
          one_each k.groups k.rows rows (ordered (group_rows keep p k.groups k.rows) rows f) in
          (omega (arith, n), omega (arith, n, few))

  pub is_reached : (ledger : List Row) (rows : List (List Value)) → answer keep p ledger ≡ Some rows
      → IsReached keep p ledger rows
  is_reached ledger rows e =
      let o = behind_rows keep p ledger nothing_kept in
      let counts = few_rows ledger rows e in
      let more : group_count o * length p.code.last ≤ length rows * length p.code.last =
      mul-le-mul_right (length p.code.last) counts.0 in
      let within :
      budget p (length ledger) (group_count o) ≤ budget p (length ledger) (length rows) =
      omega (arith, more) in
      record {
        few = counts.1;
        reaches =
            reach_less keep p (budget p (length ledger) (group_count o))
            (budget p (length ledger) (length rows)) (begin p ledger) (Done rows) within
            (subst (λ t. Reaches keep p (budget p (length ledger) (group_count o)) (begin p ledger)
            t) (ap stand_of e) (comes_to_answer keep p ledger));
      }
