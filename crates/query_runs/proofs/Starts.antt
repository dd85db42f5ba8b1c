-- What begins a section is what the plain machine begins.
use Rattle.std.proofs.Common.{◌≡◌, ◌≢◌, ℕ, zero, suc, ◌+◌, ◌<◌, ◌≤◌, List, [], ◌∷◌, length, drop}
use Rattle.std.proofs.Common.{Bool, true, false, cond, Some, refl, sym, ap, subst, ◌∙◌, arith}
use Rattle.std.proofs.Common.{add-one}
use Rattle.std.specs.Prelude.{nat_eq, slice_get}
use Rattle.std.proofs.lemmas.List.{length-map}
use Rattle.plain_machine.specs.Gathering.{Group}
use Rattle.plain_machine.specs.PlainMachine.{Kept, Stand, InFilter, InLast, Done, Fault}
use Rattle.plain_machine.specs.PlainMachine.{begin_filter, begin_last}
use Rattle.plain_machine.specs.Finishing.{are_orderable}
use Rattle.plain_machine.specs.SectionRun.{Outcome, Standing, Stopped, State, begun, start}
use Rattle.posting_table.specs.Ledger.{Ledger}
use Rattle.posting_table.specs.Rows.{row_of, rows_of}
use Rattle.query_code.specs.declared.program.Parts.{Parts}
use Rattle.query_rows.specs.Row.{Row}
use Rattle.query_runs.specs.Stands.{Gathered, in_filter_at, in_last_at, kept_in}
use Rattle.query_runs.specs.declared.run.Run.{Run}
use Rattle.query_sections.specs.Standing.{standing, state_in}
use Rattle.query_sections.specs.declared.frame.Frame.{Frame}
use Rattle.query_values.specs.declared.value.Value.{Value}

-- ---- what is left of a list

pub record Front {A : Type 0} (xs : List A) (j : ℕ) : Type 0 where
  pub head : A
  pub at : slice_get xs j ≡ Some head
  pub is : drop j xs ≡ head ∷ drop (j + 1) xs

pub front : {A : Type 0} (xs : List A) (j : ℕ) → j < length xs → Front xs j
front [] j h = absurd (omega arith)
front (x ∷ xs) zero h = record { head = x; at = refl; is = refl }
front (x ∷ xs) (suc j) h =
    let f = front xs j (omega arith) in
    record {
      head = f.head;
      at = f.at;
      is = f.is ∙ ap (λ n. f.head ∷ drop n xs) (add-one j)
          ∙ sym (ap (λ n. f.head ∷ drop n (x ∷ xs)) (add-one (suc j)));
    }

pub nothing_left : {A : Type 0} (xs : List A) (j : ℕ) → length xs ≤ j → drop j xs ≡ []
nothing_left [] zero h = refl
nothing_left [] (suc j) h = refl
nothing_left (x ∷ xs) zero h = absurd (omega arith)
nothing_left (x ∷ xs) (suc j) h = nothing_left xs j (omega arith)

-- ---- postings

pub posting_there : (l : Ledger) (j : ℕ) → j < length (rows_of l) → j < length l.rows
posting_there l j lt = let long = length-map l.rows row_of in omega (arith, lt, long)

-- ---- a frame before the first instruction

place_in : Outcome → ℕ
place_in Stopped = 0
place_in (Standing p s) = p

state_of : Outcome → State Value
state_of Stopped = start
state_of (Standing p s) = s

pub place_begun : (f : Frame) → standing f ≡ begun → f.place ≡ 0
unfolding place_in
place_begun f is = ap place_in is

pub state_begun : (f : Frame) → standing f ≡ begun → state_in f ≡ start
unfolding state_of
state_begun f is = ap state_of is

-- ---- groups

module _ (p : Parts) (groups : List (Group Gathered)) (rows : List (List Value)) where
  group_at : (left : List (Group Gathered)) (g : Group Gathered) (rest : List (Group Gathered))
      → left ≡ g ∷ rest → begin_last p left rows ≢ Fault
      → InLast g rest rows 0 start ≡ begin_last p left rows
  group_at left g rest is fine =
      by (nat_eq (length p.code.last) 0) (subst (λ l. begin_last p l rows ≢ Fault) is fine)
      ∙ ap (λ l. begin_last p l rows) (sym is)
    where
      by : (b : Bool) → cond b Fault (InLast g rest rows 0 start) ≢ Fault
          → InLast g rest rows 0 start ≡ cond b Fault (InLast g rest rows 0 start)
      by true fine = absurd (fine refl)
      by false fine = refl

  pub group_starts : (j : ℕ) (r : Run) → j < length groups
      → begin_last p (drop j groups) rows ≢ Fault → r.groups ≡ groups → r.group ≡ j
      → r.rows ≡ rows → standing r.frame ≡ begun
      → in_last_at (drop r.group r.groups) r ≡ begin_last p (drop j groups) rows
  group_starts j r within fine same at out begins =
      let f = front groups j within in
      ap (λ l. in_last_at l r)
      (ap (λ n. drop n r.groups) at ∙ ap (drop j) same ∙ f.is)
      ∙ ap (λ o. InLast f.head (drop (j + 1) groups) o r.frame.place (state_in r.frame)) out
      ∙ ap (λ q. InLast f.head (drop (j + 1) groups) rows q (state_in r.frame))
      (place_begun r.frame begins)
      ∙ ap (λ s. InLast f.head (drop (j + 1) groups) rows 0 s) (state_begun r.frame begins)
      ∙ group_at (drop j groups) f.head (drop (j + 1) groups) f.is fine

  pub none_starts : (j : ℕ) → length groups ≤ j → begin_last p (drop j groups) rows ≢ Fault
      → Done rows ≡ begin_last p (drop j groups) rows
  none_starts j past fine =
      let left = nothing_left groups j past in
      by (are_orderable p.output.order rows)
      (subst (λ l. begin_last p l rows ≢ Fault) left fine)
      ∙ ap (λ l. begin_last p l rows) (sym left)
    where
      by : (b : Bool) → ◌≢◌ {A = Stand Gathered} (cond b (Done rows) Fault) Fault
          → ◌≡◌ {A = Stand Gathered} (Done rows) (cond b (Done rows) Fault)
      by true fine = refl
      by false fine = absurd (fine refl)

-- ---- postings

module _ (p : Parts) (rows : List Row) (k : Kept Gathered) where
  row_at : (left : List Row) (x : Row) (rest : List Row) → left ≡ x ∷ rest
      → begin_filter p left k ≢ Fault → InFilter x rest k 0 start ≡ begin_filter p left k
  row_at left x rest is fine =
      by (nat_eq (length p.code.filter) 0) (subst (λ l. begin_filter p l k ≢ Fault) is fine)
      ∙ ap (λ l. begin_filter p l k) (sym is)
    where
      by : (b : Bool) → cond b Fault (InFilter x rest k 0 start) ≢ Fault
          → InFilter x rest k 0 start ≡ cond b Fault (InFilter x rest k 0 start)
      by true fine = absurd (fine refl)
      by false fine = refl

  pub row_starts : (j : ℕ) (r : Run) → j < length rows → begin_filter p (drop j rows) k ≢ Fault
      → kept_in r ≡ k → r.row ≡ j → standing r.frame ≡ begun
      → in_filter_at (drop r.row rows) r ≡ begin_filter p (drop j rows) k
  row_starts j r within fine same at begins =
      let f = front rows j within in
      ap (λ l. in_filter_at l r) (ap (λ n. drop n rows) at ∙ f.is)
      ∙ ap (λ h. InFilter f.head (drop (j + 1) rows) h r.frame.place (state_in r.frame)) same
      ∙ ap (λ q. InFilter f.head (drop (j + 1) rows) k q (state_in r.frame))
      (place_begun r.frame begins)
      ∙ ap (λ s. InFilter f.head (drop (j + 1) rows) k 0 s) (state_begun r.frame begins)
      ∙ row_at (drop j rows) f.head (drop (j + 1) rows) f.is fine

  pub groups_start : (j : ℕ) → length rows ≤ j
      → begin_filter p (drop j rows) k ≡ begin_last p k.groups k.rows
  groups_start j past = ap (λ l. begin_filter p l k) (nothing_left rows j past)
