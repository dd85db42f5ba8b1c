-- What a program's sections make of rows, if it is known what each of them leaves.
use Rattle.std.proofs.Common.{◌≡◌, ◌⊎◌, ◌+◌, ◌==◌, Bool, true, false, cond, List, [], ◌∷◌, ◌++◌}
use Rattle.std.proofs.Common.{length, map, take, drop, reverse, Option, Some, None, refl, sym, ap, ◌∙◌}
use Rattle.std.proofs.Common.{⊎_elim, inl, inr, append_assoc, append-nil}
use Rattle.std.proofs.Math.Seq.{drop-append_seam, take-append_seam}
use Rattle.std.specs.Prelude.{filter, option_and_then, option_map}
use Rattle.std.specs.List.{AllByRecursion}
use Rattle.bql_meaning.specs.Answer.{and_of, balanced}
use Rattle.bql_meaning.specs.Reading.{Reading}
use Rattle.bql_compiler.proofs.StepFacts.{of_checked}
use Rattle.plain_machine.specs.Finishing.{are_orderable}
use Rattle.plain_machine.specs.Gathering.{Group, Keeping, inputs_of, put, running_with}
use Rattle.plain_machine.specs.Grouping.{Member, put_all}
use Rattle.plain_machine.specs.PlainMachine.{Kept, grouped_with, kept_with, nothing_kept, one_truth}
use Rattle.plain_machine.specs.PlainMachine.{row_of, width_of, with_groups, with_row}
use Rattle.plain_machine.specs.PlainMachine.{with_running}
use Rattle.plain_machine.specs.WholeRun.{answer, behind_row, behind_rows, filter_left, group_row}
use Rattle.plain_machine.specs.WholeRun.{group_rows, last_left, orderable, row_left, row_run, row_taken}
use Rattle.plain_machine.specs.WholeRun.{rows_of}
use Rattle.query_code.specs.QueryFile.{is_grouped}
use Rattle.query_code.specs.declared.program.Mode.TheVariants.{Plain, Grouped}
use Rattle.query_code.specs.declared.program.Output.{Output}
use Rattle.query_code.specs.declared.program.Parts.{Parts}
use Rattle.query_terms.specs.declared.column.Column.TheVariants.{Position}
use Rattle.query_rows.specs.Row.{Row}
use Rattle.query_values.proofs.AggregateFacts.{gathered_more}
use Rattle.query_values.specs.Aggregate.{aggregate_of, may_take, with_more}
use Rattle.query_values.specs.declared.operation.Aggregate.TheVariants.{SumInventory}
use Rattle.query_values.specs.declared.value.Value.{Value}
use Rattle.bql_compiler.proofs.CarriedListFacts.{no_value, some_is}

-- the filter says which rows pass
abbrev pub Judges : Parts → (Row → Bool) → Type 0
Judges p passes = (r : Row) (t : Bool) → option_and_then one_truth (filter_left p r) ≡ Some t
    → passes r ≡ t

-- the row section leaves these values
abbrev pub Shows : Parts → (Reading → List Value) → Type 0
Shows p f = (running : Value) (r : Row) (stack : List Value) → row_left p running r ≡ Some stack
    → reverse stack ≡ f (record { row = r; balance = running })

-- the running inventory behind some positions
abbrev pub total : List Value → Value
total positions = aggregate_of (SumInventory 8) positions

-- a row, if there is one, is the values that stand on the stack
row_is : (o : Output) (stack row : List Value) → row_of o stack ≡ Some row → reverse stack ≡ row
row_is o stack row e = by (length stack == width_of o) e
  where
    by : (fits : Bool) → cond fits (Some (reverse stack)) None ≡ Some row → reverse stack ≡ row
    by true e = some_is (reverse stack) row e
    by false e = absurd (no_value row e)

module _ {X : Type 0} (keep : Keeping X)
    (sums : (v : Value) (r : Row) → keep.running_on v r ≡ running_with v r) (p : Parts)
    (passes : Row → Bool) (judges : Judges p passes) (f : Reading → List Value)
    (shows : Shows p f) where
  -- ---- one row

  abbrev reading : List Value → Row → Reading
  reading before r = record { row = r; balance = total (and_of before r) }

  -- it passed, and the row section left its values
  record Passed (r : Row) (before : List Value) (k k' : Kept X) : Type 0 where
    on : passes r ≡ true
    stack : List Value
    values : reverse stack ≡ f (reading before r)
    kept : kept_with keep p (with_running k (total (and_of before r))) stack ≡ Some k'

  abbrev Behind : Row → List Value → Kept X → Kept X → Type 0
  Behind r before k k' = ((passes r ≡ false) × (k ≡ k')) ⊎ Passed r before k k'

  behind : (r : Row) (before : List Value) (k k' : Kept X) → k.running ≡ total before
      → behind_row keep p r k ≡ Some k' → Behind r before k k'
  behind r before k k' running e = by (option_and_then one_truth (filter_left p r)) refl e
    where
      shown : (t : Value) → total (and_of before r) ≡ t → (o : Option (List Value))
          → row_left p t r ≡ o
          → option_and_then (kept_with keep p (with_running k t)) o ≡ Some k'
          → passes r ≡ true → Passed r before k k'
      shown t is None eo e on = absurd (no_value k' e)
      shown t is (Some stack) eo e on = record {
        on = on;
        stack = stack;
        values = shows t r stack eo ∙ ap (λ z. f (record { row = r; balance = z })) (sym is);
        kept = ap (λ z. kept_with keep p (with_running k z) stack) is ∙ e;
      }

      summed : (t : Value) → keep.running_on k.running r ≡ Some t → total (and_of before r) ≡ t
      summed t e =
          gathered_more (SumInventory 8) before (r.cell Position)
          ∙ ap (λ z. with_more (SumInventory 8) z (r.cell Position)) (sym running)
          ∙ (of_checked (may_take (SumInventory 8) k.running (r.cell Position))
          (with_more (SumInventory 8) k.running (r.cell Position)) t (sym (sums k.running r) ∙ e)).1

      counted : (o : Option Value) → keep.running_on k.running r ≡ o
          → option_and_then (row_run keep p r) (option_map (with_running k) o) ≡ Some k'
          → passes r ≡ true → Passed r before k k'
      counted None eo e on = absurd (no_value k' e)
      counted (Some t) eo e on = shown t (summed t eo) (row_left p t r) refl e on

      by : (o : Option Bool) → option_and_then one_truth (filter_left p r) ≡ o
          → option_and_then (row_taken keep p r k) o ≡ Some k' → Behind r before k k'
      by None eo e = absurd (no_value k' e)
      by (Some false) eo e = inl (judges r false eo, some_is k k' e)
      by (Some true) eo e = inr (counted (keep.running_on k.running r) refl e (judges r true eo))

  -- ---- rows that aren't grouped

  with_one : (k k' : Kept X) (stack : List Value) → p.mode ≡ Plain
      → kept_with keep p k stack ≡ Some k' → with_row k (reverse stack) ≡ k'
  with_one k k' stack mode e =
      by (row_of p.output stack) refl
      (sym (ap (λ m. cond (is_grouped m) (grouped_with keep p k (reverse stack))
      (option_map (with_row k) (row_of p.output stack))) mode) ∙ e)
    where
      by : (o : Option (List Value)) → row_of p.output stack ≡ o
          → option_map (with_row k) o ≡ Some k' → with_row k (reverse stack) ≡ k'
      by None eo e = absurd (no_value k' e)
      by (Some row) eo e =
          ap (with_row k) (row_is p.output stack row eo) ∙ some_is (with_row k row) k' e

  abbrev pub passing_from : List Value → List Row → List Reading
  passing_from before ledger = balanced before (filter passes ledger)

  -- the rows that pass behind one that doesn't, and from one that does
  passed_by : (r : Row) (rest : List Row) (before : List Value) → passes r ≡ false
      → passing_from before (r ∷ rest) ≡ passing_from before rest
  passed_by r rest before e =
      ap (λ b. balanced before (cond b (r ∷ filter passes rest) (filter passes rest))) e

  passed_on : (r : Row) (rest : List Row) (before : List Value) → passes r ≡ true
      → passing_from before (r ∷ rest)
      ≡ reading before r ∷ passing_from (and_of before r) rest
  passed_on r rest before e =
      ap (λ b. balanced before (cond b (r ∷ filter passes rest) (filter passes rest))) e

  abbrev pub PlainRows : List Row → List Value → Kept X → Kept X → Type 0
  PlainRows ledger before k k' =
      (k'.rows ≡ k.rows ++ map f (passing_from before ledger)) × (k'.groups ≡ k.groups)

  pub plain_rows : p.mode ≡ Plain → (ledger : List Row) (before : List Value) (k k' : Kept X)
      → k.running ≡ total before → behind_rows keep p ledger k ≡ Some k'
      → PlainRows ledger before k k'
  plain_rows mode [] before k k' running e =
      let same : k ≡ k' = some_is k k' e in
      (ap (λ z. z.rows) (sym same) ∙ sym (append-nil k.rows), ap (λ z. z.groups) (sym same))
  plain_rows mode (r ∷ rest) before k k' running e =
      by (λ b k1 is e. plain_rows mode rest b k1 k' is e) (behind_row keep p r k) refl e
    where
      -- of the other rows
      More : Type 0
      More = (b : List Value) (k1 : Kept X) → k1.running ≡ total b
          → behind_rows keep p rest k1 ≡ Some k' → PlainRows rest b k1 k'

      off : More → (k1 : Kept X) → passes r ≡ false → k ≡ k1 → behind_rows keep p rest k1 ≡ Some k'
          → PlainRows (r ∷ rest) before k k'
      off others k1 out same e =
          let h = others before k1 (ap (λ z. z.running) (sym same) ∙ running) e in (
            h.0 ∙ (λ i. (sym same i).rows ++ map f (sym (passed_by r rest before out) i)),
            h.1 ∙ ap (λ z. z.groups) (sym same),
          )

      on : More → (k1 : Kept X) → Passed r before k k1 → behind_rows keep p rest k1 ≡ Some k'
          → PlainRows (r ∷ rest) before k k'
      on others k1 h e =
          let t = total (and_of before r) in
          let same : with_row (with_running k t) (reverse h.stack) ≡ k1 =
          with_one (with_running k t) k1 h.stack mode h.kept in
          let more = others (and_of before r) k1 (ap (λ z. z.running) (sym same)) e in (
            more.0
                ∙ ap (λ z. z.rows ++ map f (passing_from (and_of before r) rest)) (sym same)
                ∙ append_assoc k.rows (reverse h.stack ∷ []) (map f (passing_from (and_of before r) rest))
                ∙ ap (λ v. k.rows ++ v ∷ map f (passing_from (and_of before r) rest)) h.values
                ∙ ap (λ l. k.rows ++ map f l) (sym (passed_on r rest before h.on)),
            more.1 ∙ ap (λ z. z.groups) (sym same),
          )

      by : More → (o : Option (Kept X)) → behind_row keep p r k ≡ o
          → option_and_then (behind_rows keep p rest) o ≡ Some k' → PlainRows (r ∷ rest) before k k'
      by others None eo e = absurd (no_value k' e)
      by others (Some k1) eo e =
          ⊎_elim (λ h. off others k1 h.0 h.1 e) (λ h. on others k1 h e)
          (behind r before k k1 running eo)

  -- ---- rows that are grouped

  module _ (keys inputs : Reading → List Value) (split : (x : Reading) → f x ≡ keys x ++ inputs x)
      (long : (x : Reading) → length (keys x) ≡ p.code.keys) where
    abbrev pub member : Reading → Member
    member x = (keys x, inputs x)

    -- the groups with one member more
    record OneMore (x : Reading) (k k' : Kept X) : Type 0 where
      groups : List (Group X)
      puts : put keep k.groups (keys x) (inputs x) ≡ Some groups
      is : with_groups k groups ≡ k'

    with_member : (x : Reading) (k k' : Kept X) (stack : List Value) → p.mode ≡ Grouped
        → reverse stack ≡ f x → kept_with keep p k stack ≡ Some k' → OneMore x k k'
    with_member x k k' stack mode values e =
        by (length (reverse stack) == p.code.keys + inputs_of p.code.aggregates)
        (sym (ap (λ m. cond (is_grouped m) (grouped_with keep p k (reverse stack))
        (option_map (with_row k) (row_of p.output stack))) mode) ∙ e)
      where
        all : reverse stack ≡ keys x ++ inputs x
        all = values ∙ split x

        front : take p.code.keys (reverse stack) ≡ keys x
        front =
            (λ i. take (sym (long x) i) (all i)) ∙ take-append_seam (keys x) (inputs x)

        behind_them : drop p.code.keys (reverse stack) ≡ inputs x
        behind_them =
            (λ i. drop (sym (long x) i) (all i)) ∙ drop-append_seam (keys x) (inputs x)

        found : (o : Option (List (Group X))) → put keep k.groups (keys x) (inputs x) ≡ o
            → option_map (with_groups k) o ≡ Some k' → OneMore x k k'
        found None eo e = absurd (no_value k' e)
        found (Some gs) eo e =
            record { groups = gs; puts = eo; is = some_is (with_groups k gs) k' e }

        by : (fits : Bool)
            → cond fits (option_map (with_groups k)
            (put keep k.groups (take p.code.keys (reverse stack)) (drop p.code.keys (reverse stack)))) None
            ≡ Some k' → OneMore x k k'
        by false e = absurd (no_value k' e)
        by true e =
            found (put keep k.groups (keys x) (inputs x)) refl
            ((λ i. option_map (with_groups k) (put keep k.groups (sym front i) (sym behind_them i))) ∙ e)

    abbrev pub GroupedRows : List Row → List Value → Kept X → Kept X → Type 0
    GroupedRows ledger before k k' =
        (put_all keep k.groups (map member (passing_from before ledger)) ≡ Some k'.groups)
        × (k'.rows ≡ k.rows)

    pub grouped_rows : p.mode ≡ Grouped → (ledger : List Row) (before : List Value) (k k' : Kept X)
        → k.running ≡ total before → behind_rows keep p ledger k ≡ Some k'
        → GroupedRows ledger before k k'
    grouped_rows mode [] before k k' running e =
        let same : k ≡ k' = some_is k k' e in
        (ap (λ z. Some z.groups) same, ap (λ z. z.rows) (sym same))
    grouped_rows mode (r ∷ rest) before k k' running e =
        by (λ b k1 is e. grouped_rows mode rest b k1 k' is e) (behind_row keep p r k) refl e
      where
        -- of the other rows
        More : Type 0
        More = (b : List Value) (k1 : Kept X) → k1.running ≡ total b
            → behind_rows keep p rest k1 ≡ Some k' → GroupedRows rest b k1 k'

        off : More → (k1 : Kept X) → passes r ≡ false → k ≡ k1
            → behind_rows keep p rest k1 ≡ Some k' → GroupedRows (r ∷ rest) before k k'
        off others k1 out same e =
            let h = others before k1 (ap (λ z. z.running) (sym same) ∙ running) e in (
              (λ i. put_all keep (same i).groups (map member (passed_by r rest before out i))) ∙ h.0,
              h.1 ∙ ap (λ z. z.rows) (sym same),
            )

        on : More → (k1 : Kept X) → Passed r before k k1 → behind_rows keep p rest k1 ≡ Some k'
            → GroupedRows (r ∷ rest) before k k'
        on others k1 h e =
            let t = total (and_of before r) in
            let x = reading before r in
            let one = with_member x (with_running k t) k1 h.stack mode h.values h.kept in
            let more = others (and_of before r) k1 (ap (λ z. z.running) (sym one.is)) e in (
              ap (λ l. put_all keep k.groups (map member l)) (passed_on r rest before h.on)
                  ∙ ap (option_and_then
                  (λ gs. put_all keep gs (map member (passing_from (and_of before r) rest)))) one.puts
                  ∙ ap (λ z. put_all keep z.groups (map member (passing_from (and_of before r) rest)))
                  one.is
                  ∙ more.0,
              more.1 ∙ ap (λ z. z.rows) (sym one.is),
            )

        by : More → (o : Option (Kept X)) → behind_row keep p r k ≡ o
            → option_and_then (behind_rows keep p rest) o ≡ Some k'
            → GroupedRows (r ∷ rest) before k k'
        by others None eo e = absurd (no_value k' e)
        by others (Some k1) eo e =
            ⊎_elim (λ h. off others k1 h.0 h.1 e) (λ h. on others k1 h e)
            (behind r before k k1 running eo)

-- ---- the rows of groups

module _ {X : Type 0} (keep : Keeping X) (p : Parts) (h : Group X → List Value) where
  -- what a group's row is, if it has one
  abbrev pub Gives : Group X → Type 0
  Gives g = (stack : List Value) → last_left keep p g ≡ Some stack → reverse stack ≡ h g

  one_row : (g : Group X) → Gives g → (row : List Value) → group_row keep p g ≡ Some row → h g ≡ row
  one_row g gives row e = by (length p.code.last == 0) e
    where
      left : (o : Option (List Value)) → last_left keep p g ≡ o
          → option_and_then (row_of p.output) o ≡ Some row → h g ≡ row
      left None eo e = absurd (no_value row e)
      left (Some stack) eo e = sym (gives stack eo) ∙ row_is p.output stack row e

      by : (none : Bool)
          → cond none None (option_and_then (row_of p.output) (last_left keep p g)) ≡ Some row
          → h g ≡ row
      by true e = absurd (no_value row e)
      by false e = left (last_left keep p g) refl e

  pub all_rows : (gs : List (Group X)) (rows out : List (List Value)) → AllByRecursion Gives gs
      → group_rows keep p gs rows ≡ Some out → out ≡ rows ++ map h gs
  all_rows [] rows out all e = sym (some_is rows out e) ∙ sym (append-nil rows)
  all_rows (g ∷ gs) rows out all e =
      by (λ xs e. all_rows gs xs out all.1 e) (group_row keep p g) refl e
    where
      by : ((xs : List (List Value)) → group_rows keep p gs xs ≡ Some out → out ≡ xs ++ map h gs)
          → (o : Option (List Value)) → group_row keep p g ≡ o
          → option_and_then (λ row. group_rows keep p gs (rows ++ row ∷ [])) o ≡ Some out
          → out ≡ rows ++ map h (g ∷ gs)
      by others None eo e = absurd (no_value out e)
      by others (Some row) eo e =
          others (rows ++ row ∷ []) e
          ∙ append_assoc rows (row ∷ []) (map h gs)
          ∙ ap (λ v. rows ++ v ∷ map h gs) (sym (one_row g all.0 row eo))

-- ---- answers

-- what is kept behind the rows, of which the answer is made
pub record IsOfKept {X : Type 0} (keep : Keeping X) (p : Parts) (ledger : List Row)
    (rows : List (List Value)) : Type 0 where
  pub kept : Kept X
  pub behind : behind_rows keep p ledger nothing_kept ≡ Some kept
  pub gives : group_rows keep p kept.groups kept.rows ≡ Some rows

pub of_kept : {X : Type 0} (keep : Keeping X) (p : Parts) (ledger : List Row)
    (rows : List (List Value)) → answer keep p ledger ≡ Some rows → IsOfKept keep p ledger rows
of_kept {X} keep p ledger rows e = by (behind_rows keep p ledger nothing_kept) refl e
  where
    ordered : (xs : List (List Value)) → orderable p xs ≡ Some rows → xs ≡ rows
    ordered xs e = by (are_orderable p.output.order xs) e
      where
        by : (fits : Bool) → cond fits (Some xs) None ≡ Some rows → xs ≡ rows
        by true e = some_is xs rows e
        by false e = absurd (no_value rows e)

    made : (k : Kept X) → behind_rows keep p ledger nothing_kept ≡ Some k
        → (o : Option (List (List Value))) → group_rows keep p k.groups k.rows ≡ o
        → option_and_then (orderable p) o ≡ Some rows → IsOfKept keep p ledger rows
    made k ek None eo e = absurd (no_value rows e)
    made k ek (Some xs) eo e =
        record { kept = k; behind = ek; gives = eo ∙ ap Some (ordered xs e) }

    by : (o : Option (Kept X)) → behind_rows keep p ledger nothing_kept ≡ o
        → option_and_then (rows_of keep p) o ≡ Some rows → IsOfKept keep p ledger rows
    by None eo e = absurd (no_value rows e)
    by (Some k) eo e = made k eo (group_rows keep p k.groups k.rows) refl e
