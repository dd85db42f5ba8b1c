-- What is known beforehand of a run: that it meets no fault, and how many steps it makes at most.
use Rattle.std.proofs.Common.{◌≡◌, ℕ, ◌+◌, ◌*◌, ◌<◌, ◌≤◌, ◌^◌, List, length, true, sym, ap}
use Rattle.std.proofs.Common.{◌∙◌, arith, inl, inr, map, subst, true≢false}
use Rattle.std.proofs.Math.Logic.{∥∥₁_elim}
use Rattle.std.proofs.Math.Bridge.{le_prop}
use Rattle.std.proofs.Math.Nat.{mul-le-mul_right}
use Rattle.std.proofs.lemmas.Bool.{and_parts, cases_lt, leb-true}
use Rattle.std.specs.Prelude.{All, nat_le}
use Rattle.std.specs.List.{list_all}
use Rattle.limits.specs.declared.bounds.Bounds.{Bounds}
use Rattle.limits.specs.declared.bounds.Version.{Version}
use Rattle.limits.specs.declared.bounds.Version.TheVariants.{First, Second}
use Rattle.query_rows.specs.Fits.{fits, row_fits}
use Rattle.query_rows.specs.Row.{Row}
use Rattle.query_rows.specs.Shaped.{IsShaped}
use Rattle.query_code.specs.QueryFile.{file}
use Rattle.query_code.specs.declared.program.Parts.{Parts}
use Rattle.plain_machine.proofs.AnswerFacts.{has_answer, within_budget}
use Rattle.plain_machine.specs.Answer as plain
use Rattle.plain_machine.specs.Answer.{Answers, NeverFaults, groups}
use Rattle.plain_machine.specs.WholeRun.{budget, is_going}
use Rattle.well_shaped.proofs.SafetyFacts.{safely_where_it_fits}
use Rattle.limits.specs.Version.{most_postings}
use Rattle.query_rows.specs.ColumnShape.{AreBounds}
use Rattle.query_runs.proofs.SafeRuns.{goes_as_plain, is_safe, with_more_room}
use Rattle.query_runs.specs.Stands.{run_after, stand_of}
use Rattle.query_runs.specs.Turns.{IsSafe}
use Rattle.query_runs.specs.declared.run.Run.{Run}
use Rattle.query_machine.proofs.Trimming.{not_trimmed}
use Rattle.query_machine.specs.Progress.{IsUnderWay}
use Rattle.query_machine.specs.Trimmed.{IsTrimmed}
use Rattle.plain_machine.specs.Pool.{pattern_in}
use Rattle.verified_program.specs.declared.checked.Checked.{Checked}
use Rattle.verified_program.proofs.SectionLengths.{AreShort, are_short, small}
use Rattle.well_shaped.specs.Program.{IsDepth}

-- ---- no more steps than the budget

module _ (p : Parts) (rows : List Row) where
  -- a group of its own for each posting is the most
  pub budget_of_groups : (a : plain.Answer) → Answers p rows a
      → a.steps ≤ budget p (length rows) (length rows)
  budget_of_groups a is =
      let within = within_budget p rows a is in
      let less : groups a * length p.code.last ≤ length rows * length p.code.last =
      mul-le-mul_right (length p.code.last) within.groups_few in
      let few = within.steps_few in
      omega (arith, few, less)

  pub not_past : NeverFaults p rows → (a : plain.Answer) → Answers p rows a → (n : ℕ)
      → ((k : ℕ) → k < n → is_going (run_after p rows k) ≡ true) → n ≤ a.steps
  not_past never a is n going =
      elim (cases_lt a.steps n) [
        | inl past ↦ absurd (true≢false
            (sym (going a.steps past) ∙ sym (goes_as_plain p rows never a.steps) ∙ ap is_going is.done))
        | inr le ↦ le
      ]

  pub few_steps : NeverFaults p rows → (n : ℕ)
      → ((k : ℕ) → k < n → is_going (run_after p rows k) ≡ true)
      → n ≤ budget p (length rows) (length rows)
  few_steps never n going =
      let a = has_answer p rows never in
      let le = not_past never a.0 a.1 n going in
      let few = budget_of_groups a.0 a.1 in
      omega (arith, le, few)

-- ---- where the ledger fits

pub few_that_fit : (b : Bounds) (rows : List Row) → fits b rows ≡ true → length rows ≤ b.postings
few_that_fit b rows e =
    leb-true (length rows) b.postings
    (and_parts (nat_le (length rows) b.postings) (list_all (row_fits b) rows) e).0

module _ (p : Parts) (depth : ℕ) (rows : List Row) (has : ∥ file.fits p ∥₁)
    (is : ∥ IsDepth p depth ∥₁) (fit : fits p.bounds rows ≡ true) where
  few_postings : AreBounds p.bounds → length rows < 2 ^ 32
  few_postings b = by p.bounds.schema b.postings
    where
      few : length rows ≤ p.bounds.postings
      few = few_that_fit p.bounds rows fit

      by : (v : Version) → p.bounds.postings ≤ most_postings v → length rows < 2 ^ 32
      by First most = omega (arith, few, most)
      by Second most = omega (arith, few, most)

  pub brief : budget p (length rows) (length rows) < 2 ^ 64
  brief =
      ∥∥₁_elim is le_prop
      (λ d. under (length rows) (length p.code.filter) (length p.code.row) (length p.code.last)
      (few_postings d.shaped.bounds) short.filter short.row short.last)
    where
      short : AreShort p.code
      short = are_short p has

      under : (n f r l : ℕ) → n < 2 ^ 32 → f < 2 ^ 16 → r < 2 ^ 16 → l < 2 ^ 16
          → n * (f + r) + n * l < 2 ^ 64
      under n f r l few a b c =
          let x = small n f r few a b in
          let y = small n l 0 few c (omega arith) in
          omega (arith, x, y)

  pub safe_where_it_fits : All (IsShaped p.bounds) rows → IsSafe p (run_after p rows 0) depth
  safe_where_it_fits shaped = is_safe p rows depth (safely_where_it_fits p depth rows has is fit shaped)

  pub never_where_it_fits : All (IsShaped p.bounds) rows → NeverFaults p rows
  never_where_it_fits shaped = (safely_where_it_fits p depth rows has is fit shaped).never_faults

-- ---- how a run begins

module _ (c : Checked) (rows : List Row) (fit : fits c.program.parts.bounds rows ≡ true)
    (shaped : All (IsShaped c.program.parts.bounds) rows) (depth : ℕ) (is : depth ≡ c.depth) where
  pub starts_safely : IsSafe c.program.parts (run_after c.program.parts rows 0) depth
  starts_safely =
      subst (IsSafe c.program.parts (run_after c.program.parts rows 0)) (sym is)
      (safe_where_it_fits c.program.parts c.depth rows c.program.has_file c.is_well_shaped fit shaped)

  pub starts_without_fault : NeverFaults c.program.parts rows
  starts_without_fault =
      never_where_it_fits c.program.parts c.depth rows c.program.has_file c.is_well_shaped fit shaped

  pub starts_under_way : (run : Run) → stand_of rows run ≡ run_after c.program.parts rows 0
      → run.finders ≡ map pattern_in c.program.parts.code.pool → depth ≤ run.frame.stack.room
      → IsUnderWay c.program.parts rows (record { run = run; steps = 0; dropped = 0 })
  starts_under_way run stands built room = record {
    safe = with_more_room c.program.parts rows depth run.frame.stack.room room starts_safely;
    never = starts_without_fault;
    built = built;
    brief = brief c.program.parts c.depth rows c.program.has_file c.is_well_shaped fit;
    stands = subst (λ s. IsTrimmed c.program.parts 0 s (run_after c.program.parts rows 0)) (sym stands)
        (not_trimmed c.program.parts (run_after c.program.parts rows 0));
    going = λ k lt. absurd (omega arith);
  }
