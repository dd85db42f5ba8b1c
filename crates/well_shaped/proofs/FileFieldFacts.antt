-- Which fields of a file hold what.
use Rattle.std.proofs.Common.{ℕ, ◌^◌, ◌<◌, ◌≤◌, Bool, true, false, List, length}
use Rattle.std.proofs.Common.{Option, Some, None, refl, arith}
use Rattle.std.proofs.lemmas.Bool.{le-leb, lt-ltb}
use Rattle.std.specs.Prelude.{IfSome}
use Rattle.limits.specs.Version.{most_postings}
use Rattle.limits.specs.declared.bounds.Bounds.{Bounds}
use Rattle.limits.specs.declared.bounds.Version.{Version}
use Rattle.limits.specs.declared.bounds.Version.TheVariants.{First, Second}
use Rattle.limits.specs.declared.counts.TheConstants.{LONGEST_SECTION, MOST_ITEMS, MOST_PLACES}
use Rattle.limits.specs.declared.counts.TheConstants.{MOST_POSTINGS}
use Rattle.query_code.specs.ByteForm.{AllFit, Form, byte, counted}
use Rattle.query_code.specs.InstructionForm.{some_byte, word}
use Rattle.query_code.specs.QueryFile as form
use Rattle.query_code.specs.declared.program.Mode.{Mode}
use Rattle.query_code.specs.declared.program.Mode.TheVariants.{Plain, Grouped}
use Rattle.query_rows.specs.ColumnShape.{AreBounds}
use Rattle.query_values.specs.declared.operation.Aggregate.{Aggregate}
use Rattle.query_values.specs.declared.operation.Aggregate.TheVariants as aggregate

pub counted_fits : {A : Type 0} (count : Form ℕ) (a : Form A) (vs : List A)
    → count.fits (length vs) → AllFit a vs → (counted count a).fits vs
counted_fits count a vs h all = ((h, (refl, all)), refl)

pub word_fits : (n : ℕ) → n ≤ LONGEST_SECTION → word.fits n
word_fits n h = omega (arith, h)

pub byte_fits : (n : ℕ) → n ≤ MOST_ITEMS → byte.fits n
byte_fits n h = omega (arith, h)

pub some_fits : (n : ℕ) → 1 ≤ n → n ≤ MOST_ITEMS → some_byte.fits n
some_fits n some h = (omega (arith, h), lt-ltb 0 n (omega (arith, some)))

pub flag_fits : (x : Bool) → form.flag.fits x
unfolding form.flag
flag_fits true = ((omega arith, refl), refl)
flag_fits false = ((omega arith, refl), refl)

pub limit_fits : (o : Option ℕ) → IfSome o (λ n. n < 2 ^ 32) → form.limit.fits o
unfolding form.limit
limit_fits None h = ((omega arith, refl), refl)
limit_fits (Some n) h = ((omega arith, (h, refl)), refl)

pub mode_fits : (m : Mode) → form.mode.fits m
unfolding form.mode
mode_fits Plain = ((omega arith, refl), refl)
mode_fits Grouped = ((omega arith, refl), refl)

pub version_fits : (v : Version) → form.version.fits v
unfolding form.version
version_fits First = (omega arith, refl)
version_fits Second = (omega arith, refl)

few_postings : (v : Version) → most_postings v ≤ MOST_POSTINGS
few_postings First = omega arith
few_postings Second = omega arith

pub bounds_fit : (b : Bounds) → AreBounds b → (form.bounds b.schema).fits b
unfolding form.bounds
bounds_fit b h =
    let few = few_postings b.schema in (
      (omega (arith, few, h.postings), (omega (arith, h.units), omega (arith, h.value))),
      refl,
    )

places_fit : (n : ℕ) → n ≤ MOST_PLACES → form.places.fits n
places_fit n h = (omega (arith, h), le-leb n MOST_PLACES h)

-- an aggregate by sums of at most 32 decimals
abbrev pub HasPlaces : Aggregate → Type 0
HasPlaces a = form.its_places a ≤ MOST_PLACES

pub aggregate_fits : (a : Aggregate) → HasPlaces a → form.aggregate.fits a
unfolding form.aggregate
aggregate_fits aggregate.CountRows h = ((omega arith, refl), refl)
aggregate_fits aggregate.Count h = ((omega arith, refl), refl)
aggregate_fits (aggregate.Sum p) h = ((omega arith, (places_fit p h, refl)), refl)
aggregate_fits (aggregate.SumInventory p) h = ((omega arith, (places_fit p h, refl)), refl)
aggregate_fits aggregate.First h = ((omega arith, refl), refl)
aggregate_fits aggregate.Last h = ((omega arith, refl), refl)
aggregate_fits aggregate.Min h = ((omega arith, refl), refl)
aggregate_fits aggregate.Max h = ((omega arith, refl), refl)

-- so many are below as many as there are columns, and below 256
pub place_fits : (most n : ℕ) → n < most → n ≤ MOST_ITEMS → (form.place_below most).fits n
unfolding form.place_below
place_fits most n below few = (omega (arith, few), lt-ltb n most below)
