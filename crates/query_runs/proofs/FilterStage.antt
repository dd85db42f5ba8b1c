-- Where a run stands in the filter, and where it stands when the filter went on.
use Rattle.std.proofs.Common.{◌≡◌, ◌≢◌, ℕ, zero, suc, ◌+◌, ◌<◌, List, [], ◌∷◌, length, drop, cond}
use Rattle.std.proofs.Common.{Bool, true, false, Option, Some, None, refl, sym, ap, subst, ◌∙◌, arith}
use Rattle.std.proofs.Common.{inl, inr}
use Rattle.std.proofs.lemmas.Bool.{cases_lt, eq-eqb, ne_eqb}
use Rattle.std.specs.Prelude.{nat_lt, slice_get}
use Rattle.limits.specs.declared.counts.TheConstants.{MOST_VALUES}
use Rattle.plain_machine.specs.PlainMachine.{judged, step, steps}
use Rattle.plain_machine.specs.PlainMachine.{Fault, InFilter, Kept, Stand}
use Rattle.plain_machine.specs.PlainMachine.{end_filter, filter_acts}
use Rattle.plain_machine.specs.PlainMachine.{in_filter}
use Rattle.plain_machine.specs.SectionRun.{Acts, Outcome, Standing, State, after_steps, moved}
use Rattle.plain_machine.specs.SectionRun.{one_step, with_slots}
use Rattle.plain_machine.specs.Loading.{value_acts}
use Rattle.plain_machine.specs.SectionRun.{Stopped}
use Rattle.query_code.specs.declared.instruction.Instruction.{Instruction}
use Rattle.query_code.specs.declared.program.Constant.{Constant}
use Rattle.query_code.specs.declared.program.Parts.{Parts}
use Rattle.query_rows.specs.Row.{Row}
use Rattle.query_sections.specs.Room.{AreInside, GoesSafely}
use Rattle.query_sections.specs.Standing.{standing, state_in}
use Rattle.query_sections.specs.declared.frame.Frame.{Frame}
use Rattle.query_values.specs.declared.value.Value.{Value}
use Rattle.query_values.specs.declared.value.Value.TheVariants.{Truth}
use Rattle.query_runs.specs.Ends.{filter_ends, passing}
use Rattle.query_runs.specs.Stands.{Gathered, in_filter_at, keeps, kept_in, stand_of}
use Rattle.query_runs.specs.Stands.{by_stage}
use Rattle.query_runs.proofs.Turning.{AreGoing, goes_further, safe_further}
use Rattle.plain_machine.specs.WholeRun.{is_going}
use Rattle.query_runs.specs.Turns.{FilterWent, GoesOn, IsSafe, is_ready, true_load}
use Rattle.query_runs.specs.declared.run.Run.{Run}
use Rattle.query_runs.specs.declared.run.Stage.TheVariants as stage
use Rattle.query_runs.proofs.Readiness.{stays_ready}
use Rattle.query_runs.proofs.Sections.{IsSection, goes_safely, going, reached}
use Rattle.query_runs.proofs.Starts.{front, nothing_left}

below : (q n : ℕ) → q < n → q ≢ n
below q n lt e = absurd (omega arith)

-- ---- the filter

filter_section : (p : Parts) (r : Row) (rest : List Row) (k : Kept Gathered)
    → IsSection p p.code.filter (filter_acts p r) (in_filter (keeps p) p r rest k)
    (InFilter r rest k)
filter_section p r rest k = record {
  stops = refl;
  inside = λ q s lt.
      ap (λ b. cond b (end_filter (keeps p) p r rest k s.stack) (InFilter r rest k q s))
      (ne_eqb q (length p.code.filter) (below q (length p.code.filter) lt));
  steps = λ q s. refl;
  shows = λ q s. refl;
  goes = λ q s. refl;
}

-- the posting at which it stands, and that an instruction is there
pub record InFilterAt (p : Parts) (rows : List Row) (run : Run) (before : ℕ) : Type 0 where
  pub head : Row
  pub at : slice_get rows run.row ≡ Some head
  pub is : drop run.row rows ≡ head ∷ drop (run.row + 1) rows
  pub there : run.row < length rows
  pub within : run.frame.place < length p.code.filter
  pub here : steps (keeps p) p before (stand_of rows run)
      ≡ in_filter (keeps p) p head (drop (run.row + 1) rows) (kept_in run) (standing run.frame)

pub in_filter_there : (p : Parts) (rows : List Row) (run : Run) (before room : ℕ)
    → run.stage ≡ stage.Filter → stand_of rows run ≡ steps (keeps p) p before (stand_of rows run)
    → IsSafe p (stand_of rows run) room → InFilterAt p rows run before
in_filter_there p rows run before room stage_is stands safe =
    elim (cases_lt run.row (length rows)) [
      | inl there ↦
          let f = front rows run.row there in
          let is : steps (keeps p) p before (stand_of rows run)
          ≡ InFilter f.head (drop (run.row + 1) rows) (kept_in run) run.frame.place
          (state_in run.frame) =
          sym here ∙ ap (λ l. in_filter_at l run) f.is in
          let within : run.frame.place < length p.code.filter =
          subst (is_ready p) is (stays_ready p (stand_of rows run) safe.ready before) in
          record {
            head = f.head;
            at = f.at;
            is = f.is;
            there = there;
            within = within;
            here = is ∙ sym ((filter_section p f.head (drop (run.row + 1) rows) (kept_in run)).inside
                run.frame.place (state_in run.frame) within);
          }
      | inr past ↦ absurd (safe.never_faults before
          (sym here ∙ ap (λ l. in_filter_at l run) (nothing_left rows run.row past)))
    ]
  where
    here : in_filter_at (drop run.row rows) run ≡ steps (keeps p) p before (stand_of rows run)
    here = ap (λ s. by_stage s rows run) (sym stage_is) ∙ stands

-- what instructions do at a posting where the running inventory may not be read
abbrev pub posting_acts : Parts → List Constant → Option Row → Acts Value
posting_acts p pool r = value_acts pool (record {
  schema = p.bounds.schema;
  row = r;
  balance = None;
  keys = [];
  aggregates = [];
})

module _ (p : Parts) (rows : List Row) (run : Run) (before room : ℕ)
    (f : InFilterAt p rows run before) (code : List Instruction) (pool : List Constant)
    (code_is : code ≡ p.code.filter) (pool_is : pool ≡ p.code.pool) (posting : Option Row)
    (posting_is : posting ≡ slice_get rows run.row) (safe : IsSafe p (stand_of rows run) room) where
  abbrev m : Acts Value
  m = posting_acts p pool posting

  acts : m ≡ filter_acts p f.head
  acts = ap (posting_acts p pool) (posting_is ∙ f.at) ∙ ap (λ l. posting_acts p l (Some f.head)) pool_is

  in_section : IsSection p code m
      (in_filter (keeps p) p f.head (drop (run.row + 1) rows) (kept_in run))
      (InFilter f.head (drop (run.row + 1) rows) (kept_in run))
  in_section =
      subst (λ c. IsSection p c m
      (in_filter (keeps p) p f.head (drop (run.row + 1) rows) (kept_in run))
      (InFilter f.head (drop (run.row + 1) rows) (kept_in run))) (sym code_is)
      (subst (λ a. IsSection p p.code.filter a
      (in_filter (keeps p) p f.head (drop (run.row + 1) rows) (kept_in run))
      (InFilter f.head (drop (run.row + 1) rows) (kept_in run))) (sym acts)
      (filter_section p f.head (drop (run.row + 1) rows) (kept_in run)))

  pub filter_inside : run.frame.place < length code
  filter_inside = subst (λ c. run.frame.place < length c) (sym code_is) f.within

  pub filter_safely : GoesSafely room code m (standing run.frame)
  filter_safely =
      goes_safely p (stand_of rows run) code m
      (in_filter (keeps p) p f.head (drop (run.row + 1) rows) (kept_in run))
      (InFilter f.head (drop (run.row + 1) rows) (kept_in run)) in_section before
      (standing run.frame) f.here room safe filter_inside

  module _ (made : ℕ) (are : AreInside code m made (standing run.frame)) (frame : Frame)
      (stands : standing frame ≡ after_steps code m made (standing run.frame)) where
    went : steps (keeps p) p (before + made) (stand_of rows run)
        ≡ in_filter (keeps p) p f.head (drop (run.row + 1) rows) (kept_in run) (standing frame)
    went =
        reached p (stand_of rows run) code m
        (in_filter (keeps p) p f.head (drop (run.row + 1) rows) (kept_in run))
        (InFilter f.head (drop (run.row + 1) rows) (kept_in run)) in_section before
        (standing run.frame) f.here made are
        ∙ ap (in_filter (keeps p) p f.head (drop (run.row + 1) rows) (kept_in run)) (sym stands)

    pub filter_going : AreGoing p (stand_of rows run) before made
    filter_going =
        going p (stand_of rows run) code m
        (in_filter (keeps p) p f.head (drop (run.row + 1) rows) (kept_in run))
        (InFilter f.head (drop (run.row + 1) rows) (kept_in run)) in_section before
        (standing run.frame) f.here made are

    pub some_made : (most : ℕ) → 0 < most → (made < most → frame.place ≡ length code) → 0 < made
    some_made most more ends =
        elim (cases_lt 0 made) [
          | inl lt ↦ lt
          | inr none ↦ absurd (none_made made (omega arith) stands (ends (omega arith)))
        ]
      where
        place_of : Outcome → ℕ
        place_of (Standing q s) = q
        place_of Stopped = 0

        none_made : (n : ℕ) → n ≡ 0
            → standing frame ≡ after_steps code m n (standing run.frame)
            → frame.place ≡ length code → ⊥
        none_made zero e same end =
            let at : frame.place ≡ run.frame.place = ap place_of same in
            let inside = filter_inside in
            omega (arith, at, end, inside)
        none_made (suc n) e same end = absurd (omega arith)

    pub filter_ended : frame.place ≡ length code
        → steps (keeps p) p (before + made) (stand_of rows run)
        ≡ filter_ends p (drop run.row rows) (kept_in run) frame.stack.values
    filter_ended end =
        went
        ∙ ap (λ b. cond b
        (end_filter (keeps p) p f.head (drop (run.row + 1) rows) (kept_in run) frame.stack.values)
        (InFilter f.head (drop (run.row + 1) rows) (kept_in run) frame.place (state_in frame)))
        (eq-eqb frame.place (length p.code.filter) (end ∙ ap length code_is))
        ∙ ap (λ l. filter_ends p l (kept_in run) frame.stack.values) (sym f.is)

    pub filter_goes : frame.place ≢ length code
        → steps (keeps p) p (before + made) (stand_of rows run) ≡ InFilter f.head (drop (run.row + 1) rows) (kept_in run)
        frame.place (state_in frame)
    filter_goes inside =
        went
        ∙ ap (λ b. cond b
        (end_filter (keeps p) p f.head (drop (run.row + 1) rows) (kept_in run) frame.stack.values)
        (InFilter f.head (drop (run.row + 1) rows) (kept_in run) frame.place (state_in frame)))
        (ne_eqb frame.place (length p.code.filter) (λ e. inside (e ∙ sym (ap length code_is))))

    pub filter_at_next : (next : Run) → frame.place ≢ length code → next.row ≡ run.row
        → kept_in next ≡ kept_in run → next.frame ≡ frame → next.stage ≡ stage.Filter
        → stand_of rows next ≡ steps (keeps p) p (before + made) (stand_of rows run)
    filter_at_next next inside row kept frame_is stage_is =
        ap (λ s. by_stage s rows next) stage_is
        ∙ ap (λ j. in_filter_at (drop j rows) next) row
        ∙ ap (λ l. in_filter_at l next) f.is
        ∙ ap (λ k. InFilter f.head (drop (run.row + 1) rows) k next.frame.place
        (state_in next.frame)) kept
        ∙ ap (λ g. InFilter f.head (drop (run.row + 1) rows) (kept_in run) g.place (state_in g))
        frame_is
        ∙ sym (filter_goes inside)

    pub filter_went : (next : Run) → before ≡ 0 → next.row ≡ run.row → kept_in next ≡ kept_in run
        → next.frame ≡ frame → next.stage ≡ stage.Filter
        → FilterWent p rows made (stand_of rows run) next
    filter_went next first row kept frame_is stage_is = record {
      ended = λ end.
          ap (λ j. filter_ends p (drop j rows) (kept_in next) next.frame.stack.values) row
          ∙ ap (λ k. filter_ends p (drop run.row rows) k next.frame.stack.values) kept
          ∙ ap (λ (g : Frame). filter_ends p (drop run.row rows) (kept_in run) g.stack.values) frame_is
          ∙ sym (filter_ended (ap (λ (g : Frame). g.place) (sym frame_is) ∙ end
          ∙ sym (ap length code_is)))
          ∙ counted made;
      stands = λ inside.
          filter_at_next next
          (λ end. inside (ap (λ (g : Frame). g.place) frame_is ∙ end ∙ ap length code_is)) row
          kept frame_is stage_is
          ∙ counted made;
      going = λ k lt. ap is_going (sym (counted k)) ∙ filter_going.each k lt;
    }
      where
        none : (k : ℕ) → before + k ≡ k
        none k = omega (arith, first)

        counted : (k : ℕ) → steps (keeps p) p (before + k) (stand_of rows run)
            ≡ steps (keeps p) p k (stand_of rows run)
        counted k = ap (λ n. steps (keeps p) p n (stand_of rows run)) (none k)

-- the filter went on at one posting behind other steps
module _ (p : Parts) (rows : List Row) (m n : ℕ) (s t : Stand Gathered) (new : Run)
    (first : GoesOn p m s t) (went : FilterWent p rows n t new) where
  pub before_end : new.frame.place ≢ length p.code.filter → GoesOn p (m + n) s (stand_of rows new)
  before_end inside =
      goes_further p m n (m + n) s t (stand_of rows new) refl first
      (record { comes = went.stands inside; going = went.going })

  pub at_end : (u : Stand Gathered) → new.frame.place ≡ length p.code.filter
      → u ≡ filter_ends p (drop new.row rows) (kept_in new) new.frame.stack.values
      → GoesOn p (m + n) s u
  at_end u end same =
      goes_further p m n (m + n) s t u refl first
      (record { comes = same ∙ went.ended end; going = went.going })

  pub end_fine : (room : ℕ) → IsSafe p s room → new.frame.place ≡ length p.code.filter
      → filter_ends p (drop new.row rows) (kept_in new) new.frame.stack.values ≢ Fault
  end_fine room safe end fault =
      (safe_further p room m s t safe first.comes).never_faults n (sym (went.ended end) ∙ fault)

-- ---- a filter that is TRUE alone

module _ (p : Parts) (r : Row) (rest : List Row) (k : Kept Gathered) (s : State Value)
    (is : p.code.filter ≡ true_load ∷ []) where
  -- TRUE on top of what is there, where it has room
  abbrev true_on_top : Bool → Outcome
  true_on_top b = moved 1 (with_slots s.slots (cond b (Some (Truth true ∷ s.stack)) None))

  true_pushed : step (keeps p) p (InFilter r rest k 0 s)
      ≡ in_filter (keeps p) p r rest k (true_on_top (nat_lt (length s.stack) MOST_VALUES))
  true_pushed =
      ap (λ c. in_filter (keeps p) p r rest k (one_step c (filter_acts p r) (Standing 0 s))) is

  true_alone : (xs : List Value) → end_filter (keeps p) p r rest k (Truth true ∷ xs) ≢ Fault
      → end_filter (keeps p) p r rest k (Truth true ∷ xs) ≡ judged (keeps p) p r rest k (Some true)
  true_alone [] fine = refl
  true_alone (x ∷ xs) fine = absurd (fine refl)

  true_ends : (b : Bool) → in_filter (keeps p) p r rest k (true_on_top b) ≢ Fault
      → in_filter (keeps p) p r rest k (true_on_top b) ≡ judged (keeps p) p r rest k (Some true)
  true_ends false fine = absurd (fine refl)
  true_ends true fine = at_its_end ∙ true_alone s.stack (λ e. fine (at_its_end ∙ e))
    where
      at_its_end : in_filter (keeps p) p r rest k (true_on_top true)
          ≡ end_filter (keeps p) p r rest k (Truth true ∷ s.stack)
      at_its_end =
          ap (λ b. cond b (end_filter (keeps p) p r rest k (Truth true ∷ s.stack))
          (InFilter r rest k 1 (record { stack = Truth true ∷ s.stack; slots = s.slots })))
          (eq-eqb 1 (length p.code.filter) (sym (ap length is)))

  true_passes : step (keeps p) p (InFilter r rest k 0 s) ≢ Fault
      → step (keeps p) p (InFilter r rest k 0 s) ≡ judged (keeps p) p r rest k (Some true)
  true_passes fine =
      true_pushed
      ∙ true_ends (nat_lt (length s.stack) MOST_VALUES) (λ e. fine (true_pushed ∙ e))

-- one step leads past the filter
module _ (p : Parts) (rows : List Row) (run : Run) (room : ℕ) (f : InFilterAt p rows run 0)
    (stage_is : run.stage ≡ stage.Filter) (is : p.code.filter ≡ true_load ∷ [])
    (first : run.frame.place ≡ 0) (safe : IsSafe p (stand_of rows run) room) where
  abbrev at_first : Stand Gathered
  at_first = InFilter f.head (drop (run.row + 1) rows) (kept_in run) 0 (state_in run.frame)

  stands_first : stand_of rows run ≡ at_first
  stands_first =
      ap (λ s. by_stage s rows run) stage_is ∙ ap (λ l. in_filter_at l run) f.is
      ∙ ap (λ q. InFilter f.head (drop (run.row + 1) rows) (kept_in run) q (state_in run.frame))
      first

  pub passes_at_once : passing p (drop run.row rows) (kept_in run)
      ≡ steps (keeps p) p 1 (stand_of rows run)
  passes_at_once =
      ap (λ l. passing p l (kept_in run)) f.is
      ∙ sym (true_passes p f.head (drop (run.row + 1) rows) (kept_in run) (state_in run.frame) is
      (λ e. safe.never_faults 1 (ap (step (keeps p) p) stands_first ∙ e)))
      ∙ sym (ap (step (keeps p) p) stands_first)

  pub passing_fine : passing p (drop run.row rows) (kept_in run) ≢ Fault
  passing_fine fault = safe.never_faults 1 (sym passes_at_once ∙ fault)

  pub goes_at_once : (u : Stand Gathered) → u ≡ passing p (drop run.row rows) (kept_in run)
      → GoesOn p 1 (stand_of rows run) u
  goes_at_once u same = record { comes = same ∙ passes_at_once; going = there }
    where
      there : (k : ℕ) → k < 1 → is_going (steps (keeps p) p k (stand_of rows run)) ≡ true
      there zero lt = ap is_going stands_first
      there (suc k) lt = absurd (omega arith)
