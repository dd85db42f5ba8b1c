-- What a well shaped program loads are columns of its schema.
use Rattle.std.proofs.Common.{◌≡◌, ℕ, suc, Bool, true, false, cond, List, [], ◌∷◌, Option, Some}
use Rattle.std.proofs.Common.{None, length, refl, sym, ap, subst, arith}
use Rattle.std.specs.Prelude.{option_and_then, slice_get, ◌==◌}
use Rattle.std.specs.List.{AllByRecursion}
use Rattle.std.proofs.lemmas.Bool.{eqb-true}
use Rattle.limits.specs.declared.bounds.Bounds.{Bounds}
use Rattle.limits.specs.declared.bounds.Version.{Version}
use Rattle.query_terms.specs.Column.{if_in, is_in, numbered, numbered_in}
use Rattle.query_rows.specs.ColumnShape.{column_shape}
use Rattle.query_terms.specs.declared.column.Column.{Column}
use Rattle.query_terms.specs.declared.column.Column.TheVariants as column
use Rattle.query_code.specs.QueryFile.{code, file, parts, versioned}
use Rattle.query_code.specs.declared.instruction.Instruction.{Instruction}
use Rattle.query_code.specs.declared.instruction.Instruction.TheVariants as instruction
use Rattle.query_code.specs.declared.instruction.Push.TheVariants as push
use Rattle.query_code.specs.declared.program.Code.{Code}
use Rattle.query_code.specs.declared.program.Constant.{Constant}
use Rattle.query_code.specs.declared.program.Mode.{Mode}
use Rattle.query_code.specs.declared.program.Mode.TheVariants.{Plain, Grouped}
use Rattle.query_code.specs.declared.program.Parts.{Parts}
use Rattle.query_rows.specs.Shape.{fitting}
use Rattle.query_rows.specs.declared.shape.Shape.{Shape}
use Rattle.plain_machine.specs.SectionRun.{State, effect, with_slots, with_top}
use Rattle.plain_machine.specs.Upgrade.{KnowsColumn, NamesItsColumns}
use Rattle.well_shaped.specs.Places.{Leaves}
use Rattle.well_shaped.specs.Program.{EndsWell, IsWellShaped}
use Rattle.well_shaped.specs.Sections.{Loads, column_at, filter_loads, given, last_loads}
use Rattle.well_shaped.specs.Sections.{row_loads, shape_acts, shape_by, shape_of}

-- whatever is loaded of postings is told by bounds of this schema
abbrev AreOf : Version → Option Bounds → Type 0
AreOf v None = Unit {0}
AreOf v (Some b) = b.schema ≡ v

in_schema : (v : Version) (posting : Option Bounds) → AreOf v posting → (c : Column) (s : Shape)
    → option_and_then (shape_by c) posting ≡ Some s → is_in v c ≡ true
in_schema v None of c s e = cc
in_schema v (Some b) of c s e = by (is_in b.schema c) (ap (λ v. is_in v c) (sym of)) e
  where
    by : (is : Bool) → is_in v c ≡ is → cond is (Some (column_shape b c)) None ≡ Some s
        → is_in v c ≡ true
    by true known e = known
    by false known e = cc

column_is_in : (v : Version) (l : Loads) → AreOf v l.posting → (c : Column) (s : Shape)
    → shape_of l c ≡ Some s → is_in v c ≡ true
column_is_in v l of column.Price s e = in_schema v l.posting of column.Price s e
column_is_in v l of c s e = refl

knows : (v : Version) (l : Loads) → AreOf v l.posting → (n : ℕ) (s : Shape)
    → column_at l n ≡ Some s → numbered_in v n ≡ numbered n
knows v l of n s e = by (numbered n) e
  where
    by : (o : Option Column) → option_and_then (shape_of l) o ≡ Some s
        → option_and_then (if_in v) o ≡ o
    by None e = refl
    by (Some c) e =
        ap (λ is. cond is (Some c) None) (column_is_in v l of c s e)

-- ---- sections

module _ (v : Version) (pool : List Constant) (l : Loads) (of : AreOf v l.posting) where
  pushed : (n : ℕ) (s t : State Shape)
      → effect (shape_acts pool l) (instruction.Push (push.LoadColumn n)) s ≡ Some t
      → numbered_in v n ≡ numbered n
  pushed n s t e = by (column_at l n) refl e
    where
      by : (o : Option Shape) → column_at l n ≡ o
          → with_slots s.slots (with_top (option_and_then (λ s. given (fitting s)) o) s.stack)
          ≡ Some t
          → numbered_in v n ≡ numbered n
      by None is e = cc
      by (Some u) is e = knows v l of n u is

  known_one : (i : Instruction) (s t : State Shape) → effect (shape_acts pool l) i s ≡ Some t
      → KnowsColumn v i
  known_one (instruction.Push (push.LoadColumn n)) s t e = pushed n s t e
  known_one (instruction.Push op) s t e = tt
  known_one i s t e = tt

  pub known_all : (code : List Instruction) (values : List Shape)
      → Leaves (shape_acts pool l) code values → AllByRecursion (KnowsColumn v) code
  known_all code values a =
      each code (λ k i e.
      let w = a.given.works k i e in known_one i (a.at k) w.gives w.applies)
    where
      each : (is : List Instruction)
          → ((k : ℕ) (i : Instruction) → slice_get is k ≡ Some i → KnowsColumn v i)
          → AllByRecursion (KnowsColumn v) is
      each [] h = tt
      each (i ∷ is) h = (h 0 i refl, each is (λ k i e. h (suc k) i e))

-- ---- programs

-- a plain program has no last section
none_of : {A : Type 0} (xs : List A) → (length xs == 0) ≡ true → xs ≡ []
none_of [] e = refl
none_of (x ∷ xs) e = absurd (omega (arith, eqb-true (length (x ∷ xs)) 0 e))

no_last : (c : Code) → (code Plain).fits c → c.last ≡ []
unfolding code
no_last c fits = none_of c.last fits.0.1.1.1.1.1.0.0.1

code_fits : (p : Parts) → file.fits p → (code p.mode).fits p.code
unfolding file versioned parts
code_fits p fits = fits.0.1.0.1.0.1.1.1

module _ (p : Parts) where
  abbrev v : Version
  v = p.bounds.schema

  in_last : (mode : Mode) (values : List Shape) → EndsWell mode p values → (code mode).fits p.code
      → AllByRecursion (KnowsColumn v) p.code.last
  in_last Plain values ends fits =
      subst (AllByRecursion (KnowsColumn v)) (sym (no_last p.code fits)) tt
  in_last Grouped values ends fits =
      known_all v p.code.pool (last_loads ends.keys ends.totals) tt p.code.last ends.row ends.last

  pub names_its_columns : file.fits p → IsWellShaped p → NamesItsColumns p
  names_its_columns fits is = record {
    filter = known_all v p.code.pool (filter_loads p.bounds) refl p.code.filter _ is.filter;
    row = known_all v p.code.pool (row_loads p.mode p.bounds) refl p.code.row is.values is.row;
    last = in_last p.mode is.values is.ends (code_fits p fits);
  }
