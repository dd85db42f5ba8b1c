-- What a run does at a section's end is what the plain machine does.
use Rattle.std.proofs.Common.{◌≡◌, ◌≢◌, ℕ, ◌+◌, ◌<◌, ◌≤◌, List, [], ◌∷◌, ◌++◌, length}
use Rattle.std.proofs.Common.{take, drop, reverse, Bool, true, false, cond, Option, Some, None, refl}
use Rattle.std.proofs.Common.{sym, ap, subst, ◌∙◌, arith}
use Rattle.std.proofs.lemmas.Bool.{eq-eqb, eqb-true}
use Rattle.std.specs.Prelude.{slice_get, option_map, option_and_then, ◌==◌}
use Rattle.plain_machine.specs.Gathering.{Group, inputs_of, put}
use Rattle.plain_machine.specs.PlainMachine.{Kept, InRow, Fault}
use Rattle.plain_machine.specs.PlainMachine.{begin_filter, begin_last, begin_row, end_filter, end_row}
use Rattle.plain_machine.specs.PlainMachine.{go_on, go_on_last, grouped_with}
use Rattle.plain_machine.specs.PlainMachine.{kept_with, row_of, width_of}
use Rattle.plain_machine.specs.PlainMachine.{with_groups, with_row, with_running}
use Rattle.plain_machine.specs.SectionRun.{start}
use Rattle.query_code.specs.declared.program.Output.{Output}
use Rattle.query_code.specs.declared.program.Parts.{Parts}
use Rattle.query_rows.specs.Row.{Row}
use Rattle.query_values.specs.Operation.{is_true}
use Rattle.query_values.specs.declared.value.Value.{Value}
use Rattle.query_values.specs.declared.value.Value.TheVariants.{Null, Truth, Number, Text, Day, Set}
use Rattle.query_values.specs.declared.value.Value.TheVariants.{Amount, Position, Inventory}
use Rattle.query_runs.specs.Ends.{filter_ends, last_ends, passing, row_begins, row_ends}
use Rattle.query_runs.specs.Stands.{Gathered, keeps}
use Rattle.query_runs.proofs.Starts.{Front, front}

-- ---- rows

pub row_there : (o : Output) (stack row : List Value) → row_of o stack ≡ Some row
    → row ≡ reverse stack
row_there o stack row is = by (length stack == width_of o) is
  where
    by : (b : Bool) → cond b (Some (reverse stack)) None ≡ Some row → row ≡ reverse stack
    by true e = cc
    by false e = absurd cc

pub row_is : (o : Output) (stack : List Value) → row_of o stack ≢ None
    → row_of o stack ≡ Some (reverse stack)
row_is o stack there = by (length stack == width_of o) there
  where
    by : (b : Bool) → cond b (Some (reverse stack)) None ≢ None
        → cond b (Some (reverse stack)) None ≡ Some (reverse stack)
    by true there = refl
    by false there = absurd (there refl)

mapped_there : {A B : Type 0} (f : A → B) (o : Option A) → option_map f o ≢ None → o ≢ None
mapped_there f None there e = there refl
mapped_there f (Some x) there e = absurd cc

-- ---- the end of the row section

module _ (p : Parts) (rows : List Row) (j : ℕ) (k : Kept Gathered) (stack : List Value)
    (within : j < length rows) where
  row_end : row_ends p (drop j rows) k stack
      ≡ go_on p (drop (j + 1) rows) (kept_with (keeps p) p k stack)
  row_end = ap (λ l. row_ends p l k stack) (front rows j within).is

  pub kept_there : row_ends p (drop j rows) k stack ≢ Fault → kept_with (keeps p) p k stack ≢ None
  kept_there fine none = fine (row_end ∙ ap (go_on p (drop (j + 1) rows)) none)

  pub row_goes_on : (h : Kept Gathered) → kept_with (keeps p) p k stack ≡ Some h
      → row_ends p (drop j rows) k stack ≡ begin_filter p (drop (j + 1) rows) h
  row_goes_on h is = row_end ∙ ap (go_on p (drop (j + 1) rows)) is

  pub row_next : (h : Kept Gathered) (i n : ℕ) (g : Kept Gathered)
      → kept_with (keeps p) p k stack ≡ Some h → i ≡ j → n ≡ i + 1 → g ≡ h
      → row_ends p (drop j rows) k stack ≡ begin_filter p (drop n rows) g
  row_next h i n g is at next same =
      row_goes_on h is
      ∙ ap (λ m. begin_filter p (drop m rows) h) (sym (next ∙ ap (λ m. m + 1) at))
      ∙ ap (begin_filter p (drop n rows)) (sym same)

-- ---- the beginning of the row section

module _ (p : Parts) (rows : List Row) (j : ℕ) (k : Kept Gathered) (within : j < length rows) where
  pub row_through : length p.code.row ≡ 0
      → row_begins p (drop j rows) k ≡ row_ends p (drop j rows) k []
  row_through empty =
      let f = front rows j within in
      ap (λ l. row_begins p l k) f.is
      ∙ ap (λ b. cond b (end_row (keeps p) p (drop (j + 1) rows) k [])
      (InRow f.head (drop (j + 1) rows) k 0 start)) (eq-eqb (length p.code.row) 0 empty)
      ∙ ap (λ l. row_ends p l k []) (sym f.is)

-- ---- the end of the filter

module _ (p : Parts) (r : Row) (rest : List Row) (k : Kept Gathered) where
  one_left : (stack : List Value) → end_filter (keeps p) p r rest k stack ≢ Fault → stack ≢ []
  one_left [] fine e = fine refl
  one_left (x ∷ xs) fine e = absurd cc

  stays : (stack left : List Value) (x : Value) → stack ≡ x ∷ left → is_true x ≡ false
      → end_filter (keeps p) p r rest k stack ≢ Fault
      → end_filter (keeps p) p r rest k stack ≡ begin_filter p rest k
  stays [] left x is no_truth fine = absurd (fine refl)
  stays (Null ∷ []) left x is no_truth fine = refl
  stays (Null ∷ y ∷ ys) left x is no_truth fine = absurd (fine refl)
  stays (Truth false ∷ []) left x is no_truth fine = refl
  stays (Truth true ∷ []) left x is no_truth fine =
      let e : Truth true ≡ x = cc in absurd (true_is_false (ap is_true e ∙ no_truth))
    where
      true_is_false : true ≡ false → ⊥
      true_is_false e = absurd cc
  stays (Truth b ∷ y ∷ ys) left x is no_truth fine = absurd (fine refl)
  stays (Number q n ∷ ys) left x is no_truth fine = absurd (fine refl)
  stays (Text t ∷ ys) left x is no_truth fine = absurd (fine refl)
  stays (Day d ∷ ys) left x is no_truth fine = absurd (fine refl)
  stays (Set ts ∷ ys) left x is no_truth fine = absurd (fine refl)
  stays (Amount q c n ∷ ys) left x is no_truth fine = absurd (fine refl)
  stays (Position c n ∷ ys) left x is no_truth fine = absurd (fine refl)
  stays (Inventory b ∷ ys) left x is no_truth fine = absurd (fine refl)

  passes : (stack left : List Value) (x : Value) → stack ≡ x ∷ left → is_true x ≡ true
      → end_filter (keeps p) p r rest k stack ≢ Fault
      → end_filter (keeps p) p r rest k stack
      ≡ begin_row (keeps p) p r rest (option_map (with_running k) ((keeps p).running_on k.running r))
  passes [] left x is truth fine = absurd (fine refl)
  passes (Null ∷ []) left x is truth fine =
      let e : Null ≡ x = cc in absurd (false_is_true (ap is_true e ∙ truth))
    where
      false_is_true : false ≡ true → ⊥
      false_is_true e = absurd cc
  passes (Null ∷ y ∷ ys) left x is truth fine = absurd (fine refl)
  passes (Truth true ∷ []) left x is truth fine = refl
  passes (Truth false ∷ []) left x is truth fine =
      let e : Truth false ≡ x = cc in absurd (false_is_true (ap is_true e ∙ truth))
    where
      false_is_true : false ≡ true → ⊥
      false_is_true e = absurd cc
  passes (Truth b ∷ y ∷ ys) left x is truth fine = absurd (fine refl)
  passes (Number q n ∷ ys) left x is truth fine = absurd (fine refl)
  passes (Text t ∷ ys) left x is truth fine = absurd (fine refl)
  passes (Day d ∷ ys) left x is truth fine = absurd (fine refl)
  passes (Set ts ∷ ys) left x is truth fine = absurd (fine refl)
  passes (Amount q c n ∷ ys) left x is truth fine = absurd (fine refl)
  passes (Position c n ∷ ys) left x is truth fine = absurd (fine refl)
  passes (Inventory b ∷ ys) left x is truth fine = absurd (fine refl)

module _ (p : Parts) (rows : List Row) (j : ℕ) (k : Kept Gathered) (stack : List Value)
    (within : j < length rows) (fine : filter_ends p (drop j rows) k stack ≢ Fault) where
  f : Front rows j
  f = front rows j within

  fine_here : end_filter (keeps p) p f.head (drop (j + 1) rows) k stack ≢ Fault
  fine_here = subst (λ l. filter_ends p l k stack ≢ Fault) f.is fine

  pub value_left : stack ≢ []
  value_left = one_left p f.head (drop (j + 1) rows) k stack fine_here

  pub filter_stays : (left : List Value) (x : Value) → stack ≡ x ∷ left → is_true x ≡ false
      → filter_ends p (drop j rows) k stack ≡ begin_filter p (drop (j + 1) rows) k
  filter_stays left x is no_truth =
      ap (λ l. filter_ends p l k stack) f.is
      ∙ stays p f.head (drop (j + 1) rows) k stack left x is no_truth fine_here

  begun : (left : List Value) (x : Value) → stack ≡ x ∷ left → is_true x ≡ true
      → filter_ends p (drop j rows) k stack
      ≡ begin_row (keeps p) p f.head (drop (j + 1) rows)
      (option_map (with_running k) ((keeps p).running_on k.running f.head))
  begun left x is truth =
      ap (λ l. filter_ends p l k stack) f.is
      ∙ passes p f.head (drop (j + 1) rows) k stack left x is truth fine_here

  pub filter_next : (left : List Value) (x : Value) (n : ℕ) (g : Kept Gathered)
      → stack ≡ x ∷ left → is_true x ≡ false → n ≡ j + 1 → g ≡ k
      → filter_ends p (drop j rows) k stack ≡ begin_filter p (drop n rows) g
  filter_next left x n g is no_truth at same =
      filter_stays left x is no_truth
      ∙ ap (λ m. begin_filter p (drop m rows) k) (sym at)
      ∙ ap (begin_filter p (drop n rows)) (sym same)

  pub filter_passes : (left : List Value) (x : Value) (n : ℕ) (g : Kept Gathered)
      → stack ≡ x ∷ left → is_true x ≡ true → n ≡ j → g ≡ k
      → filter_ends p (drop j rows) k stack ≡ passing p (drop n rows) g
  filter_passes left x n g is truth at same =
      begun left x is truth
      ∙ ap (λ l. passing p l k) (sym f.is)
      ∙ ap (λ m. passing p (drop m rows) k) (sym at)
      ∙ ap (passing p (drop n rows)) (sym same)

-- ---- a posting that passes

module _ (p : Parts) (rows : List Row) (j : ℕ) (k : Kept Gathered) (within : j < length rows) where
  here : Front rows j
  here = front rows j within

  passing_is : (o : Option Value)
      → option_and_then ((keeps p).running_on k.running) (slice_get rows j) ≡ o
      → passing p (drop j rows) k
      ≡ begin_row (keeps p) p here.head (drop (j + 1) rows) (option_map (with_running k) o)
  passing_is o is =
      ap (λ l. passing p l k) here.is
      ∙ ap (λ o. begin_row (keeps p) p here.head (drop (j + 1) rows)
      (option_map (with_running k) o))
      (ap (option_and_then ((keeps p).running_on k.running)) (sym here.at) ∙ is)

  pub running_there : passing p (drop j rows) k ≢ Fault
      → option_and_then ((keeps p).running_on k.running) (slice_get rows j) ≢ None
  running_there fine none = fine (passing_is None none)

  pub passes_on : (total : Value) (n : ℕ) (g : Kept Gathered)
      → option_and_then ((keeps p).running_on k.running) (slice_get rows j) ≡ Some total
      → n ≡ j → g ≡ with_running k total
      → passing p (drop j rows) k ≡ row_begins p (drop n rows) g
  passes_on total n g taken at same =
      passing_is (Some total) taken
      ∙ ap (λ l. row_begins p l (with_running k total)) (sym here.is)
      ∙ ap (λ m. row_begins p (drop m rows) (with_running k total)) (sym at)
      ∙ ap (row_begins p (drop n rows)) (sym same)

-- ---- the end of the last section

module _ (p : Parts) (groups : List (Group Gathered)) (j : ℕ) (rows : List (List Value))
    (stack : List Value) (within : j < length groups)
    (fine : last_ends p (drop j groups) rows stack ≢ Fault) where
  last_end : last_ends p (drop j groups) rows stack
      ≡ go_on_last p (drop (j + 1) groups) rows (row_of p.output stack)
  last_end = ap (λ l. last_ends p l rows stack) (front groups j within).is

  pub last_goes_on : last_ends p (drop j groups) rows stack
      ≡ begin_last p (drop (j + 1) groups) (rows ++ reverse stack ∷ [])
  last_goes_on =
      last_end
      ∙ ap (go_on_last p (drop (j + 1) groups) rows)
      (row_is p.output stack
      (λ none. fine (last_end ∙ ap (go_on_last p (drop (j + 1) groups) rows) none)))

pub last_next : (p : Parts) (k h : Kept Gathered) (j n : ℕ) (stack : List Value)
    → j < length k.groups → last_ends p (drop j k.groups) k.rows stack ≢ Fault
    → h ≡ with_row k (reverse stack) → n ≡ j
    → last_ends p (drop j k.groups) k.rows stack ≡ begin_last p (drop (n + 1) h.groups) h.rows
last_next p k h j n stack within fine is at =
    last_goes_on p k.groups j k.rows stack within fine
    ∙ ap (λ (g : Kept Gathered). begin_last p (drop (j + 1) g.groups) g.rows) (sym is)
    ∙ ap (λ m. begin_last p (drop (m + 1) h.groups) h.rows) (sym at)

-- ---- the stack of a row section, as keys and inputs above them

module _ (p : Parts) (k : Kept Gathered) (stack keys inputs : List Value)
    (fine : grouped_with (keeps p) p k (reverse stack) ≢ None)
    (keys_are : keys ≡ take p.code.keys (reverse stack))
    (inputs_are : inputs ≡ drop p.code.keys (reverse stack)) where
  put_of : Option (Kept Gathered)
  put_of = option_map (with_groups k) (put (keeps p) k.groups keys inputs)

  grouped_is : grouped_with (keeps p) p k (reverse stack) ≡ put_of
  unfolding put_of
  grouped_is =
      by (length (reverse stack) == p.code.keys + inputs_of p.code.aggregates) fine
      ∙ ap (λ ks. option_map (with_groups k) (put (keeps p) k.groups ks
      (drop p.code.keys (reverse stack)))) (sym keys_are)
      ∙ ap (λ is. option_map (with_groups k) (put (keeps p) k.groups keys is)) (sym inputs_are)
    where
      by : (b : Bool)
          → cond b (option_map (with_groups k) (put (keeps p) k.groups
          (take p.code.keys (reverse stack)) (drop p.code.keys (reverse stack)))) None ≢ None
          → cond b (option_map (with_groups k) (put (keeps p) k.groups
          (take p.code.keys (reverse stack)) (drop p.code.keys (reverse stack)))) None
          ≡ option_map (with_groups k) (put (keeps p) k.groups
          (take p.code.keys (reverse stack)) (drop p.code.keys (reverse stack)))
      by true there = refl
      by false there = absurd (there refl)

  pub put_there : put (keeps p) k.groups keys inputs ≢ None
  unfolding put_of
  put_there none = fine (grouped_is ∙ ap (option_map (with_groups k)) none)

  pub gathered_is : (groups : List (Group Gathered))
      → put (keeps p) k.groups keys inputs ≡ Some groups
      → grouped_with (keeps p) p k (reverse stack) ≡ Some (with_groups k groups)
  unfolding put_of
  gathered_is groups is = grouped_is ∙ ap (option_map (with_groups k)) is

-- as many values as keys and inputs together
pub keys_few : (p : Parts) (k : Kept Gathered) (stack : List Value)
    → grouped_with (keeps p) p k (reverse stack) ≢ None → p.code.keys ≤ length (reverse stack)
keys_few p k stack fine =
    by (length (reverse stack) == p.code.keys + inputs_of p.code.aggregates) refl fine
  where
    by : (b : Bool) → (length (reverse stack) == p.code.keys + inputs_of p.code.aggregates) ≡ b
        → cond b (option_map (with_groups k) (put (keeps p) k.groups
        (take p.code.keys (reverse stack)) (drop p.code.keys (reverse stack)))) None ≢ None
        → p.code.keys ≤ length (reverse stack)
    by true e there =
        omega (
          arith,
          eqb-true (length (reverse stack)) (p.code.keys + inputs_of p.code.aggregates) e,
        )
    by false e there = absurd (there refl)
