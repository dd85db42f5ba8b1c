-- Where a run stands in the row section, and where it stands when that went on.
use Rattle.std.proofs.Common.{◌≡◌, ◌≢◌, ℕ, zero, suc, ◌+◌, ◌<◌, List, [], ◌∷◌, length, drop, cond}
use Rattle.std.proofs.Common.{Option, Some, refl, sym, ap, subst, ◌∙◌, arith}
use Rattle.std.proofs.Common.{inl, inr}
use Rattle.std.proofs.lemmas.Bool.{cases_lt, eq-eqb, ne_eqb}
use Rattle.std.specs.Prelude.{slice_get}
use Rattle.plain_machine.specs.PlainMachine.{steps}
use Rattle.plain_machine.specs.PlainMachine.{Kept, InRow}
use Rattle.plain_machine.specs.PlainMachine.{balance_in, end_row}
use Rattle.plain_machine.specs.PlainMachine.{in_row, row_acts}
use Rattle.plain_machine.specs.SectionRun.{Acts, Outcome, Standing, after_steps}
use Rattle.plain_machine.specs.Loading.{value_acts}
use Rattle.plain_machine.specs.SectionRun.{Stopped}
use Rattle.query_code.specs.declared.instruction.Instruction.{Instruction}
use Rattle.query_code.specs.declared.program.Constant.{Constant}
use Rattle.query_code.specs.declared.program.Parts.{Parts}
use Rattle.query_rows.specs.Row.{Row}
use Rattle.query_sections.specs.Room.{AreInside, GoesSafely}
use Rattle.query_sections.specs.Standing.{standing, state_in}
use Rattle.query_sections.specs.declared.frame.Frame.{Frame}
use Rattle.query_values.specs.declared.value.Value.{Value}
use Rattle.query_runs.specs.Ends.{row_ends}
use Rattle.query_runs.specs.Stands.{Gathered, in_row_at, keeps, kept_in, stand_of}
use Rattle.query_runs.specs.Stands.{by_stage}
use Rattle.query_runs.proofs.Turning.{AreGoing}
use Rattle.query_runs.specs.Turns.{IsSafe, is_ready}
use Rattle.query_runs.specs.declared.run.Run.{Run}
use Rattle.query_runs.specs.declared.run.Stage.TheVariants as stage
use Rattle.query_runs.proofs.Readiness.{stays_ready}
use Rattle.query_runs.proofs.Sections.{IsSection, goes_safely, going, reached}
use Rattle.query_runs.proofs.Starts.{front, nothing_left}

below : (q n : ℕ) → q < n → q ≢ n
below q n lt e = absurd (omega arith)

-- ---- the row section

row_section : (p : Parts) (r : Row) (rest : List Row) (k : Kept Gathered)
    → IsSection p p.code.row (row_acts p k.running r) (in_row (keeps p) p r rest k)
    (InRow r rest k)
row_section p r rest k = record {
  stops = refl;
  inside = λ q s lt.
      ap (λ b. cond b (end_row (keeps p) p rest k s.stack) (InRow r rest k q s))
      (ne_eqb q (length p.code.row) (below q (length p.code.row) lt));
  steps = λ q s. refl;
  shows = λ q s. refl;
  goes = λ q s. refl;
}

-- the posting at which it stands, and that an instruction is there
pub record InRowAt (p : Parts) (rows : List Row) (run : Run) (before : ℕ) : Type 0 where
  pub head : Row
  pub at : slice_get rows run.row ≡ Some head
  pub is : drop run.row rows ≡ head ∷ drop (run.row + 1) rows
  pub there : run.row < length rows
  pub within : run.frame.place < length p.code.row
  pub here : steps (keeps p) p before (stand_of rows run)
      ≡ in_row (keeps p) p head (drop (run.row + 1) rows) (kept_in run) (standing run.frame)

pub in_row_there : (p : Parts) (rows : List Row) (run : Run) (before room : ℕ)
    → run.stage ≡ stage.Row → stand_of rows run ≡ steps (keeps p) p before (stand_of rows run)
    → IsSafe p (stand_of rows run) room → InRowAt p rows run before
in_row_there p rows run before room stage_is stands safe =
    elim (cases_lt run.row (length rows)) [
      | inl there ↦
          let f = front rows run.row there in
          let is : steps (keeps p) p before (stand_of rows run)
          ≡ InRow f.head (drop (run.row + 1) rows) (kept_in run) run.frame.place
          (state_in run.frame) =
          sym here ∙ ap (λ l. in_row_at l run) f.is in
          let within : run.frame.place < length p.code.row =
          subst (is_ready p) is (stays_ready p (stand_of rows run) safe.ready before) in
          record {
            head = f.head;
            at = f.at;
            is = f.is;
            there = there;
            within = within;
            here = is ∙ sym ((row_section p f.head (drop (run.row + 1) rows) (kept_in run)).inside
                run.frame.place (state_in run.frame) within);
          }
      | inr past ↦ absurd (safe.never_faults before
          (sym here ∙ ap (λ l. in_row_at l run) (nothing_left rows run.row past)))
    ]
  where
    here : in_row_at (drop run.row rows) run ≡ steps (keeps p) p before (stand_of rows run)
    here = ap (λ s. by_stage s rows run) (sym stage_is) ∙ stands

-- what instructions do at a posting that passes
abbrev pub passing_acts : Parts → List Constant → Option Value → Option Row → Acts Value
passing_acts p pool balance r = value_acts pool (record {
  schema = p.bounds.schema;
  row = r;
  balance = balance;
  keys = [];
  aggregates = [];
})

module _ (p : Parts) (rows : List Row) (run : Run) (before room : ℕ)
    (f : InRowAt p rows run before) (code : List Instruction) (pool : List Constant)
    (code_is : code ≡ p.code.row) (pool_is : pool ≡ p.code.pool) (balance : Option Value)
    (balance_is : balance ≡ balance_in p.mode run.running) (posting : Option Row)
    (posting_is : posting ≡ slice_get rows run.row) (safe : IsSafe p (stand_of rows run) room) where
  abbrev m : Acts Value
  m = passing_acts p pool balance posting

  acts : m ≡ row_acts p run.running f.head
  acts =
      ap (passing_acts p pool balance) (posting_is ∙ f.at)
      ∙ ap (λ l. passing_acts p l balance (Some f.head)) pool_is
      ∙ ap (λ b. passing_acts p p.code.pool b (Some f.head)) balance_is

  in_section : IsSection p code m
      (in_row (keeps p) p f.head (drop (run.row + 1) rows) (kept_in run))
      (InRow f.head (drop (run.row + 1) rows) (kept_in run))
  in_section =
      subst (λ c. IsSection p c m
      (in_row (keeps p) p f.head (drop (run.row + 1) rows) (kept_in run))
      (InRow f.head (drop (run.row + 1) rows) (kept_in run))) (sym code_is)
      (subst (λ a. IsSection p p.code.row a
      (in_row (keeps p) p f.head (drop (run.row + 1) rows) (kept_in run))
      (InRow f.head (drop (run.row + 1) rows) (kept_in run))) (sym acts)
      (row_section p f.head (drop (run.row + 1) rows) (kept_in run)))

  pub row_inside : run.frame.place < length code
  row_inside = subst (λ c. run.frame.place < length c) (sym code_is) f.within

  pub row_safely : GoesSafely room code m (standing run.frame)
  row_safely =
      goes_safely p (stand_of rows run) code m
      (in_row (keeps p) p f.head (drop (run.row + 1) rows) (kept_in run))
      (InRow f.head (drop (run.row + 1) rows) (kept_in run)) in_section before
      (standing run.frame) f.here room safe row_inside

  module _ (made : ℕ) (are : AreInside code m made (standing run.frame)) (frame : Frame)
      (stands : standing frame ≡ after_steps code m made (standing run.frame)) where
    went : steps (keeps p) p (before + made) (stand_of rows run)
        ≡ in_row (keeps p) p f.head (drop (run.row + 1) rows) (kept_in run) (standing frame)
    went =
        reached p (stand_of rows run) code m
        (in_row (keeps p) p f.head (drop (run.row + 1) rows) (kept_in run))
        (InRow f.head (drop (run.row + 1) rows) (kept_in run)) in_section before
        (standing run.frame) f.here made are
        ∙ ap (in_row (keeps p) p f.head (drop (run.row + 1) rows) (kept_in run)) (sym stands)

    pub row_going : AreGoing p (stand_of rows run) before made
    row_going =
        going p (stand_of rows run) code m
        (in_row (keeps p) p f.head (drop (run.row + 1) rows) (kept_in run))
        (InRow f.head (drop (run.row + 1) rows) (kept_in run)) in_section before
        (standing run.frame) f.here made are

    pub row_made : (most : ℕ) → 0 < most → (made < most → frame.place ≡ length code) → 0 < made
    row_made most more ends =
        elim (cases_lt 0 made) [
          | inl lt ↦ lt
          | inr none ↦ absurd (none_made made (omega arith) stands (ends (omega arith)))
        ]
      where
        place_of : Outcome → ℕ
        place_of (Standing q s) = q
        place_of Stopped = 0

        none_made : (n : ℕ) → n ≡ 0
            → standing frame ≡ after_steps code m n (standing run.frame)
            → frame.place ≡ length code → ⊥
        none_made zero e same end =
            let at : frame.place ≡ run.frame.place = ap place_of same in
            let inside = row_inside in
            omega (arith, at, end, inside)
        none_made (suc n) e same end = absurd (omega arith)

    pub row_ended : frame.place ≡ length code
        → steps (keeps p) p (before + made) (stand_of rows run)
        ≡ row_ends p (drop run.row rows) (kept_in run) frame.stack.values
    row_ended end =
        went
        ∙ ap (λ b. cond b
        (end_row (keeps p) p (drop (run.row + 1) rows) (kept_in run) frame.stack.values)
        (InRow f.head (drop (run.row + 1) rows) (kept_in run) frame.place (state_in frame)))
        (eq-eqb frame.place (length p.code.row) (end ∙ ap length code_is))
        ∙ ap (λ l. row_ends p l (kept_in run) frame.stack.values) (sym f.is)

    pub row_goes : frame.place ≢ length code
        → steps (keeps p) p (before + made) (stand_of rows run) ≡ InRow f.head (drop (run.row + 1) rows) (kept_in run)
        frame.place (state_in frame)
    row_goes inside =
        went
        ∙ ap (λ b. cond b
        (end_row (keeps p) p (drop (run.row + 1) rows) (kept_in run) frame.stack.values)
        (InRow f.head (drop (run.row + 1) rows) (kept_in run) frame.place (state_in frame)))
        (ne_eqb frame.place (length p.code.row) (λ e. inside (e ∙ sym (ap length code_is))))

    pub row_at_next : (next : Run) → frame.place ≢ length code → next.row ≡ run.row
        → kept_in next ≡ kept_in run → next.frame ≡ frame → next.stage ≡ stage.Row
        → stand_of rows next ≡ steps (keeps p) p (before + made) (stand_of rows run)
    row_at_next next inside row kept frame_is stage_is =
        ap (λ s. by_stage s rows next) stage_is
        ∙ ap (λ j. in_row_at (drop j rows) next) row
        ∙ ap (λ l. in_row_at l next) f.is
        ∙ ap (λ k. InRow f.head (drop (run.row + 1) rows) k next.frame.place
        (state_in next.frame)) kept
        ∙ ap (λ g. InRow f.head (drop (run.row + 1) rows) (kept_in run) g.place (state_in g))
        frame_is
        ∙ sym (row_goes inside)
