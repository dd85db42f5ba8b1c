-- A well shaped program has a file, where its lists and texts are no longer than a file tells.
use Rattle.std.proofs.Common.{◌≡◌, ℕ, zero, suc, ◌+◌, ◌≤◌, ◌<◌, true, false, List, []}
use Rattle.std.proofs.Common.{◌∷◌, length, refl, sym, ap, ◌∙◌, subst, arith}
use Rattle.std.proofs.lemmas.Bool.{and_parts}
use Rattle.std.proofs.lemmas.List.{length-reverse}
use Rattle.std.specs.Prelude.{IsTrue, slice_get, ◌==◌, ◌||◌}
use Rattle.std.specs.List.{list_all}
use Rattle.limits.specs.declared.counts.TheConstants.{MOST_VALUES}
use Rattle.plain_machine.specs.SectionRun.{Acts}
use Rattle.query_code.specs.ByteForm.{AllFit, byte}
use Rattle.query_code.specs.InstructionForm.{instruction, some_byte, word}
use Rattle.query_code.specs.QueryFile as form
use Rattle.query_code.specs.TextForm.{text}
use Rattle.query_code.specs.declared.instruction.Instruction.{Instruction}
use Rattle.query_code.specs.declared.program.Code.{Code}
use Rattle.query_code.specs.declared.program.Mode.{Mode}
use Rattle.query_code.specs.declared.program.Mode.TheVariants.{Plain, Grouped}
use Rattle.query_code.specs.declared.program.Output.{Output}
use Rattle.query_code.specs.declared.program.Parts.{Parts}
use Rattle.query_rows.specs.declared.shape.Shape.{Shape}
use Rattle.well_shaped.proofs.DepthFacts.{few_values}
use Rattle.well_shaped.specs.Ends.{AreRow, has_order}
use Rattle.well_shaped.specs.Places.{Leaves}
use Rattle.well_shaped.specs.Program.{AreGrouped, EndsWell, IsWellShaped}
use Rattle.well_shaped.specs.Sections.{filter_loads, last_acts, last_loads, row_acts, row_loads}
use Rattle.well_shaped.specs.Files.{HasGroupsIf, HasNoGroups, IsShortCode}
use Rattle.well_shaped.specs.Files.{IsShortOutput, WellShapedHaveFiles}
use Rattle.well_shaped.proofs.FileFieldFacts.{bounds_fit, byte_fits, counted_fits, flag_fits}
use Rattle.well_shaped.proofs.FileFieldFacts.{limit_fits, mode_fits, place_fits, some_fits}
use Rattle.well_shaped.proofs.FileFieldFacts.{version_fits, word_fits}
use Rattle.well_shaped.proofs.FileGroupFacts.{are_written}
use Rattle.well_shaped.proofs.FileSectionFacts.{section_fits}

-- ---- columns

-- what is left has stood on a stack
few_left : (m : Acts Shape) (code : List Instruction) (values : List Shape) → Leaves m code values
    → length values ≤ MOST_VALUES
few_left m code values h =
    let few = few_values m code h.at h.given (length code) (omega arith) in
    let e = sym (ap length h.left) ∙ length-reverse (h.at (length code)).stack in
    omega (arith, few, e)

-- what has an order is there
there : (values : List Shape) (i : ℕ) → has_order (slice_get values i) ≡ true → i < length values
there [] i e = absurd cc
there (s ∷ values) zero e = omega arith
there (s ∷ values) (suc i) e = let less = there values i e in omega (arith, less)

order_fits : (most : ℕ) (values : List Shape) (order : List ℕ) → length values ≡ most
    → most ≤ MOST_VALUES
    → list_all (λ column. has_order (slice_get values column)) order ≡ true
    → AllFit (form.place_below most) order
order_fits most values [] e few h = tt
order_fits most values (i ∷ order) e few h =
    let k = and_parts (has_order (slice_get values i))
    (list_all (λ column. has_order (slice_get values column)) order) h in
    let less = there values i k.0 in (
      place_fits most i (omega (arith, less, e)) (omega (arith, less, e, few)),
      order_fits most values order e few k.1,
    )

output_fits : (o : Output) (values : List Shape) → AreRow o values
    → length values ≤ MOST_VALUES → IsShortOutput o → form.output.fits o
unfolding form.output form.columns
output_fits o values row few short =
    let most = length o.targets + o.hidden in (
      (
        flag_fits o.is_distinct,
        (
          flag_fits o.is_descending,
          (
            limit_fits o.limit short.limit,
            (
              counted_fits some_byte text o.targets
                  (some_fits (length o.targets) short.some short.few) short.names,
              (
                omega (arith, short.some, row.as_many, few),
                counted_fits byte (form.place_below most) o.order
                    (byte_fits (length o.order) short.order)
                    (order_fits most values o.order row.as_many
                    (omega (arith, row.as_many, few)) row.ordered),
              ),
            ),
          ),
        ),
      ),
      refl,
    )

-- ---- code

abbrev HasForm : Mode → Code → Type 0
HasForm m c = (form.code m).fits c

only_none : (n : ℕ) → n ≡ 0 → IsTrue (false || (n == 0))
only_none n e = ap (λ n. n == 0) e

module _ (p : Parts) (w : IsWellShaped p) (short : IsShortCode p.code) where
  filter_fits : AllFit instruction p.code.filter
  filter_fits =
      section_fits p.code.pool (filter_loads p.bounds) p.code.filter w.filter.at w.filter.given
      short.entries (omega arith) (omega arith) short.filter

  row_fits : AllFit instruction p.code.row
  row_fits =
      section_fits p.code.pool (row_loads p.mode p.bounds) p.code.row w.row.at w.row.given
      short.entries (omega arith) (omega arith) short.row

  plain_form : HasNoGroups p.code → HasForm Plain p.code
  unfolding form.code form.section
  plain_form none = (
    (
      (byte_fits p.code.keys short.keys, only_none p.code.keys none.keys),
      (
        counted_fits (form.only Plain byte) form.aggregate p.code.aggregates (
          byte_fits (length p.code.aggregates) short.aggregates,
          only_none (length p.code.aggregates) (ap length none.aggregates),
        ) (subst (AllFit form.aggregate) (sym none.aggregates) tt),
        (
          counted_fits word form.constant p.code.pool
              (word_fits (length p.code.pool) short.entries) short.pool,
          (
            counted_fits word instruction p.code.filter
                (word_fits (length p.code.filter) short.filter.short) filter_fits,
            (
              counted_fits word instruction p.code.row
                  (word_fits (length p.code.row) short.row.short) row_fits,
              counted_fits (form.only Plain word) instruction p.code.last (
                word_fits (length p.code.last) short.last.short,
                only_none (length p.code.last) (ap length none.last),
              ) (subst (AllFit instruction) (sym none.last) tt),
            ),
          ),
        ),
      ),
    ),
    refl,
  )

  grouped_form : AreGrouped p w.values → HasForm Grouped p.code
  unfolding form.code form.section
  grouped_form g =
      let written = are_written p.bounds.postings p.code.aggregates g.handed.inputs g.totals
      g.handed.gather in (
        (
          (byte_fits p.code.keys short.keys, refl),
          (
            counted_fits (form.only Grouped byte) form.aggregate p.code.aggregates
                (byte_fits (length p.code.aggregates) short.aggregates, refl) written.fit,
            (
              counted_fits word form.constant p.code.pool
                  (word_fits (length p.code.pool) short.entries) short.pool,
              (
                counted_fits word instruction p.code.filter
                    (word_fits (length p.code.filter) short.filter.short) filter_fits,
                (
                  counted_fits word instruction p.code.row
                      (word_fits (length p.code.row) short.row.short) row_fits,
                  counted_fits (form.only Grouped word) instruction p.code.last
                      (word_fits (length p.code.last) short.last.short, refl)
                      (section_fits p.code.pool (last_loads g.keys g.totals) p.code.last g.last.at
                      g.last.given short.entries
                      (omega (arith, g.handed.as_many, short.keys))
                      (omega (arith, written.as_many, short.aggregates)) short.last),
                ),
              ),
            ),
          ),
        ),
        refl,
      )

-- ---- programs

-- the row that comes out, and the code
record OfMode (p : Parts) (mode : Mode) : Type 0 where
  values : List Shape
  row : AreRow p.output values
  few : length values ≤ MOST_VALUES
  code : HasForm mode p.code

of_mode : (p : Parts) (w : IsWellShaped p) → IsShortCode p.code → (mode : Mode)
    → EndsWell mode p w.values → HasGroupsIf mode p.code → OfMode p mode
of_mode p w short Plain ends groups = record {
  values = w.values;
  row = ends;
  few = few_left (row_acts p) p.code.row w.values w.row;
  code = plain_form p w short groups;
}
of_mode p w short Grouped ends groups = record {
  values = ends.row;
  row = ends.is_row;
  few = few_left (last_acts p ends.keys ends.totals) p.code.last ends.row ends.last;
  code = grouped_form p w short ends;
}

pub have_files : WellShapedHaveFiles
unfolding form.file form.versioned form.parts
have_files p w short =
    let m = of_mode p w short.code p.mode w.ends short.groups in (
      (
        (refl, refl),
        (
          (
            version_fits p.bounds.schema,
            (
              (
                bounds_fit p.bounds w.bounds,
                (
                  mode_fits p.mode,
                  (output_fits p.output m.values m.row m.few short.output, m.code),
                ),
              ),
              refl,
            ),
          ),
          refl,
        ),
      ),
      refl,
    )
