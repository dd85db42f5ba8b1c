-- The steps come to what the sections leave.
use Rattle.std.proofs.Common.{◌≡◌, ℕ, suc, ◌+◌, ◌*◌, ◌≤◌, List, [], ◌∷◌, ◌++◌, length, Option, Some}
use Rattle.std.proofs.Common.{None, Bool, true, false, cond, refl, sym, ap, subst, arith}
use Rattle.std.specs.Prelude.{nat_eq, option_map, option_and_then}
use Rattle.query_values.specs.declared.value.Value.{Value}
use Rattle.query_code.specs.declared.program.Parts.{Parts}
use Rattle.plain_machine.specs.Finishing.{are_orderable}
use Rattle.plain_machine.specs.Gathering.{Keeping, Group}
use Rattle.plain_machine.specs.PlainMachine.{Kept, Stand, InFilter, InRow, InLast, Done, Fault}
use Rattle.plain_machine.specs.PlainMachine.{one_truth, row_of, kept_with}
use Rattle.plain_machine.specs.PlainMachine.{with_running, nothing_kept, ended, begin_last}
use Rattle.plain_machine.specs.PlainMachine.{begin_filter, begin, go_on, end_row, begin_row, judged}
use Rattle.plain_machine.specs.PlainMachine.{end_filter, go_on_last, end_last, in_filter, in_row}
use Rattle.plain_machine.specs.PlainMachine.{in_last, filter_acts, row_acts, last_acts, step}
use Rattle.query_rows.specs.Row.{Row}
use Rattle.plain_machine.specs.SectionRun.{Acts, State, start, Outcome}
use Rattle.plain_machine.specs.WholeRun.{filter_left, row_left, last_left, row_run, row_taken}
use Rattle.plain_machine.specs.WholeRun.{behind_row, behind_rows, group_row, group_rows, orderable}
use Rattle.plain_machine.specs.WholeRun.{rows_of, answer, stand_of, group_count, budget, is_going}
use Rattle.plain_machine.specs.WholeRun.{Reaches}
use Rattle.plain_machine.proofs.ReachFacts.{reach_here, reach_on, reach_less, section_ends}
use Rattle.plain_machine.proofs.SectionFacts.{above_zero, less_apart, same_number, empty_leaves}

module _ {X : Type 0} (keep : Keeping X) (p : Parts) where
  -- ---- the row section

  abbrev end_row_if : List Row → Kept X → Option (List Value) → Stand X
  end_row_if rest k None = Fault
  end_row_if rest k (Some stack) = end_row keep p rest k stack

  end_row_if_is : (rest : List Row) (k : Kept X) (o : Option (List Value))
      → end_row_if rest k o ≡ go_on p rest (option_and_then (kept_with keep p k) o)
  end_row_if_is rest k None = refl
  end_row_if_is rest k (Some stack) = refl

  row_runs : (r : Row) (rest : List Row) (k : Kept X)
      → Reaches keep p (length p.code.row) (begin_row keep p r rest (Some k))
      (go_on p rest (row_run keep p r k))
  row_runs r rest k =
      subst (λ t. Reaches keep p len (begin_row keep p r rest (Some k)) t)
      (end_row_if_is rest k left) (by (nat_eq len 0) refl)
    where
      len : ℕ
      len = length p.code.row

      left : Option (List Value)
      left = row_left p k.running r

      acts : Acts Value
      acts = row_acts p k.running r

      lift : Outcome → Stand X
      lift = in_row keep p r rest k

      at : Bool → ℕ → State Value → Stand X
      at b q s = cond b (end_row keep p rest k s.stack) (InRow r rest k q s)

      by : (b : Bool) → nat_eq len 0 ≡ b
          → Reaches keep p len (cond b (end_row keep p rest k []) (InRow r rest k 0 start))
          (end_row_if rest k left)
      by true e =
          reach_here keep p len (end_row keep p rest k []) (end_row_if rest k left)
          (ap (end_row_if rest k) (sym (empty_leaves p.code.row acts e)))
      by false e =
          subst (λ t. Reaches keep p len t (end_row_if rest k left))
          (ap (λ b. at b 0 start) (less_apart 0 len (above_zero len e)))
          (section_ends keep p p.code.row acts lift
          (λ q s less. ap (λ b. step keep p (at b q s)) (less_apart q len less))
          (λ q s less. ap (λ b. is_going (at b q s)) (less_apart q len less))
          (end_row_if rest k) refl (λ s. ap (λ b. at b len s) (same_number len)))

  taken_runs : (r : Row) (rest : List Row) (o : Option (Kept X))
      → Reaches keep p (length p.code.row) (begin_row keep p r rest o)
      (go_on p rest (option_and_then (row_run keep p r) o))
  taken_runs r rest None = reach_here keep p (length p.code.row) Fault Fault refl
  taken_runs r rest (Some k) = row_runs r rest k

  judged_runs : (r : Row) (rest : List Row) (k : Kept X) (o : Option Bool)
      → Reaches keep p (length p.code.row) (judged keep p r rest k o)
      (go_on p rest (option_and_then (row_taken keep p r k) o))
  judged_runs r rest k None = reach_here keep p (length p.code.row) Fault Fault refl
  judged_runs r rest k (Some true) =
      taken_runs r rest (option_map (with_running k) (keep.running_on k.running r))
  judged_runs r rest k (Some false) =
      reach_here keep p (length p.code.row) (begin_filter p rest k) (begin_filter p rest k) refl

  -- ---- the filter

  abbrev judged_if : Row → List Row → Kept X → Option (List Value) → Stand X
  judged_if r rest k o = judged keep p r rest k (option_and_then one_truth o)

  filter_runs : (r : Row) (rest : List Row) (k : Kept X)
      → Reaches keep p (length p.code.filter) (begin_filter p (r ∷ rest) k)
      (judged_if r rest k (filter_left p r))
  filter_runs r rest k = by (nat_eq len 0) refl
    where
      len : ℕ
      len = length p.code.filter

      left : Option (List Value)
      left = filter_left p r

      acts : Acts Value
      acts = filter_acts p r

      lift : Outcome → Stand X
      lift = in_filter keep p r rest k

      at : Bool → ℕ → State Value → Stand X
      at b q s = cond b (end_filter keep p r rest k s.stack) (InFilter r rest k q s)

      by : (b : Bool) → nat_eq len 0 ≡ b
          → Reaches keep p len (cond b Fault (InFilter r rest k 0 start)) (judged_if r rest k left)
      by true e =
          reach_here keep p len Fault (judged_if r rest k left)
          (ap (judged_if r rest k) (sym (empty_leaves p.code.filter acts e)))
      by false e =
          subst (λ t. Reaches keep p len t (judged_if r rest k left))
          (ap (λ b. at b 0 start) (less_apart 0 len (above_zero len e)))
          (section_ends keep p p.code.filter acts lift
          (λ q s less. ap (λ b. step keep p (at b q s)) (less_apart q len less))
          (λ q s less. ap (λ b. is_going (at b q s)) (less_apart q len less))
          (judged_if r rest k) refl (λ s. ap (λ b. at b len s) (same_number len)))

  -- ---- the rows

  abbrev for_row : ℕ
  for_row = length p.code.filter + length p.code.row

  row_comes : (r : Row) (rest : List Row) (k : Kept X)
      → Reaches keep p for_row (begin_filter p (r ∷ rest) k) (go_on p rest (behind_row keep p r k))
  row_comes r rest k =
      let o = option_and_then one_truth (filter_left p r) in
      reach_on keep p (length p.code.filter) (length p.code.row) (begin_filter p (r ∷ rest) k)
      (judged keep p r rest k o) (go_on p rest (option_and_then (row_taken keep p r k) o))
      (filter_runs r rest k) (judged_runs r rest k o)

  abbrev to_last : Option (Kept X) → Stand X
  to_last None = Fault
  to_last (Some k) = begin_last p k.groups k.rows

  rows_come : (rows : List Row) (k : Kept X)
      → Reaches keep p (length rows * for_row) (begin_filter p rows k)
      (to_last (behind_rows keep p rows k))
  rows_come [] k =
      reach_here keep p (0 * for_row) (begin_last p k.groups k.rows) (begin_last p k.groups k.rows)
      refl
  rows_come (r ∷ rest) k =
      let one = for_row in
      let le : one + length rest * one ≤ suc (length rest) * one = omega arith in
      reach_less keep p (one + length rest * one) (suc (length rest) * one)
      (begin_filter p (r ∷ rest) k) (to_last (behind_rows keep p (r ∷ rest) k)) le
      (reach_on keep p one (length rest * one) (begin_filter p (r ∷ rest) k)
      (go_on p rest (behind_row keep p r k)) (to_last (behind_rows keep p (r ∷ rest) k))
      (row_comes r rest k) (next (behind_row keep p r k) (λ h. rows_come rest h)))
    where
      next : (o : Option (Kept X))
          → ((h : Kept X)
          → Reaches keep p (length rest * for_row) (begin_filter p rest h)
          (to_last (behind_rows keep p rest h)))
          → Reaches keep p (length rest * for_row) (go_on p rest o)
          (to_last (option_and_then (behind_rows keep p rest) o))
      next None on = reach_here keep p (length rest * for_row) Fault Fault refl
      next (Some h) on = on h

  -- ---- the groups

  abbrev end_last_if : List (Group X) → List (List Value) → Option (List Value) → Stand X
  end_last_if rest rows None = Fault
  end_last_if rest rows (Some stack) = end_last p rest rows stack

  end_last_if_is : (rest : List (Group X)) (rows : List (List Value)) (o : Option (List Value))
      → end_last_if rest rows o ≡ go_on_last p rest rows (option_and_then (row_of p.output) o)
  end_last_if_is rest rows None = refl
  end_last_if_is rest rows (Some stack) = refl

  group_comes : (g : Group X) (rest : List (Group X)) (rows : List (List Value))
      → Reaches keep p (length p.code.last) (begin_last p (g ∷ rest) rows)
      (go_on_last p rest rows (group_row keep p g))
  group_comes g rest rows = by (nat_eq len 0) refl
    where
      len : ℕ
      len = length p.code.last

      left : Option (List Value)
      left = last_left keep p g

      acts : Acts Value
      acts = last_acts keep p g

      lift : Outcome → Stand X
      lift = in_last keep p g rest rows

      at : Bool → ℕ → State Value → Stand X
      at b q s = cond b (end_last p rest rows s.stack) (InLast g rest rows q s)

      by : (b : Bool) → nat_eq len 0 ≡ b
          → Reaches keep p len (cond b Fault (InLast g rest rows 0 start))
          (go_on_last p rest rows (cond b None (option_and_then (row_of p.output) left)))
      by true e = reach_here keep p len Fault Fault refl
      by false e =
          subst (λ t. Reaches keep p len (InLast g rest rows 0 start) t)
          (end_last_if_is rest rows left)
          (subst (λ t. Reaches keep p len t (end_last_if rest rows left))
          (ap (λ b. at b 0 start) (less_apart 0 len (above_zero len e)))
          (section_ends keep p p.code.last acts lift
          (λ q s less. ap (λ b. step keep p (at b q s)) (less_apart q len less))
          (λ q s less. ap (λ b. is_going (at b q s)) (less_apart q len less))
          (end_last_if rest rows) refl (λ s. ap (λ b. at b len s) (same_number len))))

  abbrev ended_if : Option (List (List Value)) → Stand X
  ended_if None = Fault
  ended_if (Some rows) = ended p rows

  groups_come : (groups : List (Group X)) (rows : List (List Value))
      → Reaches keep p (length groups * length p.code.last) (begin_last p groups rows)
      (ended_if (group_rows keep p groups rows))
  groups_come [] rows =
      reach_here keep p (0 * length p.code.last) (ended p rows) (ended p rows) refl
  groups_come (g ∷ rest) rows =
      let one = length p.code.last in
      let le : one + length rest * one ≤ suc (length rest) * one = omega arith in
      reach_less keep p (one + length rest * one) (suc (length rest) * one)
      (begin_last p (g ∷ rest) rows) (ended_if (group_rows keep p (g ∷ rest) rows)) le
      (reach_on keep p one (length rest * one) (begin_last p (g ∷ rest) rows)
      (go_on_last p rest rows (group_row keep p g))
      (ended_if (group_rows keep p (g ∷ rest) rows)) (group_comes g rest rows)
      (next (group_row keep p g) (λ more. groups_come rest more)))
    where
      next : (o : Option (List Value))
          → ((more : List (List Value))
          → Reaches keep p (length rest * length p.code.last) (begin_last p rest more)
          (ended_if (group_rows keep p rest more)))
          → Reaches keep p (length rest * length p.code.last) (go_on_last p rest rows o)
          (ended_if (option_and_then (λ row. group_rows keep p rest (rows ++ row ∷ [])) o))
      next None on = reach_here keep p (length rest * length p.code.last) Fault Fault refl
      next (Some row) on = on (rows ++ row ∷ [])

  -- ---- the whole

  ended_is : (o : Option (List (List Value)))
      → ended_if o ≡ stand_of (option_and_then (orderable p) o)
  ended_is None = refl
  ended_is (Some rows) = by (are_orderable p.output.order rows)
    where
      by : (b : Bool) → cond b (Done rows) Fault ≡ stand_of {X = X} (cond b (Some rows) None)
      by true = refl
      by false = refl

  all_groups_come : (k : Kept X)
      → Reaches keep p (length k.groups * length p.code.last) (begin_last p k.groups k.rows)
      (stand_of (rows_of keep p k))
  all_groups_come k =
      subst (λ t. Reaches keep p (length k.groups * length p.code.last)
      (begin_last p k.groups k.rows) t) (ended_is (group_rows keep p k.groups k.rows))
      (groups_come k.groups k.rows)

  pub comes_to_answer : (rows : List Row)
      → Reaches keep p (budget p (length rows) (group_count (behind_rows keep p rows nothing_kept)))
      (begin p rows) (stand_of (answer keep p rows))
  comes_to_answer rows =
      let o = behind_rows keep p rows nothing_kept in
      reach_on keep p (length rows * for_row) (group_count o * length p.code.last) (begin p rows)
      (to_last o) (stand_of (answer keep p rows)) (rows_come rows nothing_kept) (next o)
    where
      next : (o : Option (Kept X))
          → Reaches keep p (group_count o * length p.code.last) (to_last o)
          (stand_of (option_and_then (rows_of keep p) o))
      next None = reach_here keep p (0 * length p.code.last) Fault Fault refl
      next (Some k) = all_groups_come k
