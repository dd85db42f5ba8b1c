-- Where a run stands in the last section, and where it stands when that went on.
use Rattle.std.proofs.Common.{◌≡◌, ◌≢◌, ℕ, zero, suc, ◌+◌, ◌<◌, List, ◌∷◌, length, drop, cond}
use Rattle.std.proofs.Common.{Option, Some, None, refl, sym, ap, subst, ◌∙◌, arith}
use Rattle.std.proofs.Common.{inl, inr}
use Rattle.std.proofs.lemmas.Bool.{cases_lt, eq-eqb, ne_eqb}
use Rattle.std.specs.Prelude.{slice_get}
use Rattle.plain_machine.specs.PlainMachine.{steps}
use Rattle.plain_machine.specs.PlainMachine.{InLast}
use Rattle.plain_machine.specs.PlainMachine.{end_last}
use Rattle.plain_machine.specs.PlainMachine.{in_last, last_acts}
use Rattle.plain_machine.specs.Gathering.{Group}
use Rattle.plain_machine.specs.SectionRun.{Acts, Outcome, Standing, after_steps}
use Rattle.plain_machine.specs.Loading.{value_acts}
use Rattle.plain_machine.specs.SectionRun.{Stopped}
use Rattle.query_code.specs.declared.instruction.Instruction.{Instruction}
use Rattle.query_code.specs.declared.program.Constant.{Constant}
use Rattle.query_code.specs.declared.program.Parts.{Parts}
use Rattle.query_rows.specs.Row.{Row}
use Rattle.query_sections.specs.Room.{AreInside, GoesSafely}
use Rattle.query_sections.specs.Standing.{standing, state_in}
use Rattle.query_sections.specs.declared.frame.Frame.{Frame}
use Rattle.query_values.specs.declared.value.Value.{Value}
use Rattle.query_runs.specs.Ends.{last_ends}
use Rattle.query_runs.specs.Stands.{Gathered, in_last_at, keeps, stand_of}
use Rattle.query_runs.specs.Stands.{by_stage}
use Rattle.query_runs.proofs.Turning.{AreGoing}
use Rattle.query_runs.specs.Turns.{IsSafe, is_ready}
use Rattle.query_runs.specs.declared.run.Run.{Run}
use Rattle.query_runs.specs.declared.run.Stage.TheVariants as stage
use Rattle.query_runs.proofs.Readiness.{stays_ready}
use Rattle.query_runs.proofs.Sections.{IsSection, goes_safely, going, reached}
use Rattle.query_runs.proofs.Starts.{front, nothing_left}

below : (q n : ℕ) → q < n → q ≢ n
below q n lt e = absurd (omega arith)

-- ---- the last section

last_section : (p : Parts) (g : Group Gathered) (rest : List (Group Gathered))
    (out : List (List Value))
    → IsSection p p.code.last (last_acts (keeps p) p g) (in_last (keeps p) p g rest out)
    (InLast g rest out)
last_section p g rest out = record {
  stops = refl;
  inside = λ q s lt.
      ap (λ b. cond b (end_last p rest out s.stack) (InLast g rest out q s))
      (ne_eqb q (length p.code.last) (below q (length p.code.last) lt));
  steps = λ q s. refl;
  shows = λ q s. refl;
  goes = λ q s. refl;
}

-- the group at which it stands, and that an instruction is there
pub record InLastAt (p : Parts) (rows : List Row) (run : Run) (before : ℕ) : Type 0 where
  pub head : Group Gathered
  pub at : slice_get run.groups run.group ≡ Some head
  pub is : drop run.group run.groups ≡ head ∷ drop (run.group + 1) run.groups
  pub there : run.group < length run.groups
  pub within : run.frame.place < length p.code.last
  pub here : steps (keeps p) p before (stand_of rows run)
      ≡ in_last (keeps p) p head (drop (run.group + 1) run.groups) run.rows
      (standing run.frame)

pub in_last_there : (p : Parts) (rows : List Row) (run : Run) (before room : ℕ)
    → run.stage ≡ stage.Last → stand_of rows run ≡ steps (keeps p) p before (stand_of rows run)
    → IsSafe p (stand_of rows run) room → InLastAt p rows run before
in_last_there p rows run before room stage_is stands safe =
    elim (cases_lt run.group (length run.groups)) [
      | inl there ↦
          let f = front run.groups run.group there in
          let is : steps (keeps p) p before (stand_of rows run)
          ≡ InLast f.head (drop (run.group + 1) run.groups) run.rows run.frame.place
          (state_in run.frame) =
          sym here ∙ ap (λ l. in_last_at l run) f.is in
          let within : run.frame.place < length p.code.last =
          subst (is_ready p) is (stays_ready p (stand_of rows run) safe.ready before) in
          record {
            head = f.head;
            at = f.at;
            is = f.is;
            there = there;
            within = within;
            here = is ∙ sym ((last_section p f.head (drop (run.group + 1) run.groups)
                run.rows).inside run.frame.place (state_in run.frame) within);
          }
      | inr past ↦ absurd (safe.never_faults before
          (sym here ∙ ap (λ l. in_last_at l run) (nothing_left run.groups run.group past)))
    ]
  where
    here : in_last_at (drop run.group run.groups) run ≡ steps (keeps p) p before (stand_of rows run)
    here = ap (λ s. by_stage s rows run) (sym stage_is) ∙ stands

-- keys and totals that were read one after the other are those of one group
pub group_of : (groups : List (Group Gathered)) (j : ℕ) (k t m u : List Value)
    → ◌≡◌ {A = Option (List Value × List Value)} (Some (k, t)) (slice_get groups j)
    → ◌≡◌ {A = Option (List Value × List Value)} (Some (m, u)) (slice_get groups j)
    → ◌≡◌ {A = Option (List Value × List Value)} (Some (k, u)) (slice_get groups j)
group_of groups j k t m u at is =
    let same : (k, t) ≡ (m, u) = pair_is (k, t) (m, u) (at ∙ sym is) in
    ap (λ x. Some (x, u)) (ap (λ (g : List Value × List Value). g.0) same) ∙ is
  where
    pair_is : (a b : List Value × List Value)
        → ◌≡◌ {A = Option (List Value × List Value)} (Some a) (Some b) → a ≡ b
    pair_is a b e = cc

-- what instructions do at a group
abbrev pub group_acts : Parts → List Constant → List Value → List Value → Acts Value
group_acts p pool keys totals = value_acts pool (record {
  schema = p.bounds.schema;
  row = None;
  balance = None;
  keys = keys;
  aggregates = totals;
})

module _ (p : Parts) (rows : List Row) (run : Run) (before room : ℕ)
    (f : InLastAt p rows run before) (code : List Instruction) (pool : List Constant)
    (code_is : code ≡ p.code.last) (pool_is : pool ≡ p.code.pool) (keys totals : List Value)
    (group_is : ◌≡◌ {A = Option (List Value × List Value)} (Some (keys, totals))
    (slice_get run.groups run.group)) (safe : IsSafe p (stand_of rows run) room) where
  abbrev m : Acts Value
  m = group_acts p pool keys totals

  pair_is : (a b : List Value × List Value)
      → ◌≡◌ {A = Option (List Value × List Value)} (Some a) (Some b) → a ≡ b
  pair_is a b e = cc

  acts : m ≡ last_acts (keeps p) p f.head
  acts =
      ap (λ l. group_acts p l keys totals) pool_is
      ∙ ap (λ (g : List Value × List Value). group_acts p p.code.pool g.0 g.1)
      (pair_is (keys, totals) f.head (group_is ∙ f.at))

  in_section : IsSection p code m
      (in_last (keeps p) p f.head (drop (run.group + 1) run.groups) run.rows)
      (InLast f.head (drop (run.group + 1) run.groups) run.rows)
  in_section =
      subst (λ c. IsSection p c m
      (in_last (keeps p) p f.head (drop (run.group + 1) run.groups) run.rows)
      (InLast f.head (drop (run.group + 1) run.groups) run.rows)) (sym code_is)
      (subst (λ a. IsSection p p.code.last a
      (in_last (keeps p) p f.head (drop (run.group + 1) run.groups) run.rows)
      (InLast f.head (drop (run.group + 1) run.groups) run.rows)) (sym acts)
      (last_section p f.head (drop (run.group + 1) run.groups) run.rows))

  pub last_inside : run.frame.place < length code
  last_inside = subst (λ c. run.frame.place < length c) (sym code_is) f.within

  pub last_safely : GoesSafely room code m (standing run.frame)
  last_safely =
      goes_safely p (stand_of rows run) code m
      (in_last (keeps p) p f.head (drop (run.group + 1) run.groups) run.rows)
      (InLast f.head (drop (run.group + 1) run.groups) run.rows) in_section before
      (standing run.frame) f.here room safe last_inside

  module _ (made : ℕ) (are : AreInside code m made (standing run.frame)) (frame : Frame)
      (stands : standing frame ≡ after_steps code m made (standing run.frame)) where
    went : steps (keeps p) p (before + made) (stand_of rows run)
        ≡ in_last (keeps p) p f.head (drop (run.group + 1) run.groups) run.rows
        (standing frame)
    went =
        reached p (stand_of rows run) code m
        (in_last (keeps p) p f.head (drop (run.group + 1) run.groups) run.rows)
        (InLast f.head (drop (run.group + 1) run.groups) run.rows) in_section before
        (standing run.frame) f.here made are
        ∙ ap (in_last (keeps p) p f.head (drop (run.group + 1) run.groups) run.rows) (sym stands)

    pub last_going : AreGoing p (stand_of rows run) before made
    last_going =
        going p (stand_of rows run) code m
        (in_last (keeps p) p f.head (drop (run.group + 1) run.groups) run.rows)
        (InLast f.head (drop (run.group + 1) run.groups) run.rows) in_section before
        (standing run.frame) f.here made are

    pub last_made : (most : ℕ) → 0 < most → (made < most → frame.place ≡ length code) → 0 < made
    last_made most more ends =
        elim (cases_lt 0 made) [
          | inl lt ↦ lt
          | inr none ↦ absurd (none_made made (omega arith) stands (ends (omega arith)))
        ]
      where
        place_of : Outcome → ℕ
        place_of (Standing q s) = q
        place_of Stopped = 0

        none_made : (n : ℕ) → n ≡ 0
            → standing frame ≡ after_steps code m n (standing run.frame)
            → frame.place ≡ length code → ⊥
        none_made zero e same end =
            let at : frame.place ≡ run.frame.place = ap place_of same in
            let inside = last_inside in
            omega (arith, at, end, inside)
        none_made (suc n) e same end = absurd (omega arith)

    pub last_ended : frame.place ≡ length code
        → steps (keeps p) p (before + made) (stand_of rows run)
        ≡ last_ends p (drop run.group run.groups) run.rows frame.stack.values
    last_ended end =
        went
        ∙ ap (λ b. cond b
        (end_last p (drop (run.group + 1) run.groups) run.rows frame.stack.values)
        (InLast f.head (drop (run.group + 1) run.groups) run.rows frame.place (state_in frame)))
        (eq-eqb frame.place (length p.code.last) (end ∙ ap length code_is))
        ∙ ap (λ l. last_ends p l run.rows frame.stack.values) (sym f.is)

    pub last_goes : frame.place ≢ length code
        → steps (keeps p) p (before + made) (stand_of rows run) ≡ InLast f.head (drop (run.group + 1) run.groups) run.rows
        frame.place (state_in frame)
    last_goes inside =
        went
        ∙ ap (λ b. cond b
        (end_last p (drop (run.group + 1) run.groups) run.rows frame.stack.values)
        (InLast f.head (drop (run.group + 1) run.groups) run.rows frame.place (state_in frame)))
        (ne_eqb frame.place (length p.code.last) (λ e. inside (e ∙ sym (ap length code_is))))

    pub last_at_next : (next : Run) → frame.place ≢ length code → next.group ≡ run.group
        → next.groups ≡ run.groups → next.rows ≡ run.rows → next.frame ≡ frame
        → next.stage ≡ stage.Last → stand_of rows next ≡ steps (keeps p) p (before + made) (stand_of rows run)
    last_at_next next inside group groups out frame_is stage_is =
        ap (λ s. by_stage s rows next) stage_is
        ∙ ap (λ j. in_last_at (drop j next.groups) next) group
        ∙ ap (λ l. in_last_at (drop run.group l) next) groups
        ∙ ap (λ l. in_last_at l next) f.is
        ∙ ap (λ o. InLast f.head (drop (run.group + 1) run.groups) o next.frame.place
        (state_in next.frame)) out
        ∙ ap (λ g. InLast f.head (drop (run.group + 1) run.groups) run.rows g.place
        (state_in g)) frame_is
        ∙ sym (last_goes inside)
