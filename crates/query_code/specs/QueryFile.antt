-- A query file: what stands in it, field by field, and the program that it is the file of.
use Rattle.std.specs.Prelude.{◌≡◌, ℕ, ℤ, ◌+◌, ◌-◌, ◌^◌, ◌||◌, ◌==◌, Bool, true, false, nat_lt}
use Rattle.std.specs.Prelude.{nat_le, List, [], ◌∷◌, length, codes, Option, Some, None, Result, Ok}
use Rattle.std.specs.Prelude.{Err, if◌then◌else◌}
use Rattle.std.specs.Int.{w32, w128, cast_signed, cast_unsigned}
use Rattle.std.specs.Int.RustNames.{unsigned_abs}
use Rattle.limits.specs.declared.counts.TheConstants.{COUNT_BOUND, MOST_PLACES}
use Rattle.bean_base.specs.CalendarDay as calendar
use Rattle.query_terms.specs.Wide as wide
use Rattle.limits.specs.Version.{numbered}
use Rattle.limits.specs.Version.{number as version_number}
use Rattle.limits.specs.declared.bounds.Bounds.{Bounds}
use Rattle.limits.specs.declared.bounds.Version as versions
use Rattle.bean_base.specs.declared.days.Day.{Day}
use Rattle.query_terms.specs.declared.decimal.Decimal.{Decimal}
use Rattle.query_values.specs.declared.operation.Aggregate.{Aggregate}
use Rattle.query_values.specs.declared.operation.Aggregate.TheVariants as aggregates
use Rattle.query_code.specs.declared.cause.FileCauseKind.TheVariants.{Magic, Version, TrailingBytes}
use Rattle.query_code.specs.declared.cause.FileCauseKind.TheVariants.{BadField}
use Rattle.query_code.specs.declared.cause.Stop.{Stop}
use Rattle.query_code.specs.declared.cause.FileCause.{FileCause}
use Rattle.query_code.specs.declared.instruction.Instruction.{Instruction}
use Rattle.query_code.specs.declared.program.Mode.{Mode}
use Rattle.query_code.specs.declared.program.Mode.TheVariants.{Plain, Grouped}
use Rattle.query_code.specs.declared.program.Numbers.{Numbers}
use Rattle.query_code.specs.declared.program.Constant.{Constant}
use Rattle.query_code.specs.declared.program.Constant.TheVariants as constants
use Rattle.query_code.specs.declared.program.Output.{Output}
use Rattle.query_code.specs.declared.program.Code.{Code}
use Rattle.query_code.specs.declared.program.Parts.{Parts}
use Rattle.query_code.specs.InstructionForm.{at_least_one, word, or_0, instruction}
use Rattle.query_code.specs.TextForm.{text}
use Rattle.query_code.specs.ByteForm.{Form, ◌>>=◌, stop, mapped, such_that, standing_for}
use Rattle.query_code.specs.ByteForm.{before, both, counted, byte, number, marked, just, Case, case}
use Rattle.query_code.specs.ByteForm.{told}

-- ---- fields

abbrev pub long : Form ℕ
long = number w32 (2 ^ 32)

-- 16 bytes in two's complement
abbrev pub wide_integer : Form ℤ
wide_integer = mapped (cast_signed w128) (cast_unsigned w128) (number w128 (2 ^ 128))

-- at most 2^127 - 1, sign left off
abbrev pub is_count : ℤ → Bool
is_count z = nat_lt (unsigned_abs z) COUNT_BOUND

unfoldable pub count : Form ℤ
count = such_that BadField is_count wide_integer

abbrev pub bit_of : Bool → ℕ
bit_of false = 0
bit_of true = 1

unfoldable pub flag : Form Bool
flag = told bit_of (case 0 (just false) ∷ case 1 (just true) ∷ [])

abbrev pub has : Option ℕ → ℕ
has None = 0
has (Some n) = 1

unfoldable pub limit : Form (Option ℕ)
limit = told has (case 0 (just None) ∷ case 1 (mapped Some or_0 long) ∷ [])

abbrev pub mode_number : Mode → ℕ
mode_number Plain = 0
mode_number Grouped = 1

unfoldable pub mode : Form Mode
mode = told mode_number (case 0 (just Plain) ∷ case 1 (just Grouped) ∷ [])

abbrev pub is_grouped : Mode → Bool
is_grouped Plain = false
is_grouped Grouped = true

-- a count of things, 0 unless the program groups
abbrev pub only : Mode → Form ℕ → Form ℕ
only m a = such_that BadField (λ n. is_grouped m || (n == 0)) a

-- ---- the pool

abbrev pub places : Form ℕ
places = such_that BadField (λ p. nat_le p MOST_PLACES) byte

abbrev pub some_number : Form ℕ
some_number = such_that BadField at_least_one word

abbrev pub decimal_from : ℕ × ℤ → Option Decimal
decimal_from p = wide.decimal_of p.0 p.1

abbrev pub places_and_count : Decimal → ℕ × ℤ
places_and_count d = (d.places, d.count)

unfoldable pub decimal : Form Decimal
decimal = standing_for BadField decimal_from places_and_count (both places count)

abbrev pub day_from : ℕ × (ℕ × ℕ) → Option Day
day_from p = calendar.day_of p.0 p.1.0 p.1.1

-- a day of the calendar
unfoldable pub day : Form Day
day = standing_for BadField day_from calendar.parts_of (both word (both byte byte))

abbrev pub numbers_of : ℕ → List ℤ → Numbers
numbers_of p ns = record { places = p; counts = ns }

-- of one count of decimals, one or more
unfoldable pub numbers : Form Numbers
numbers =
    mapped (λ p. numbers_of p.0 p.1) (λ n. (n.places, n.counts))
    (both places (counted some_number count))

abbrev pub kind_of : Constant → ℕ
kind_of (constants.Text t) = 1
kind_of (constants.Number n) = 2
kind_of (constants.Day d) = 3
kind_of (constants.Pattern t) = 4
kind_of (constants.Texts ts) = 5
kind_of (constants.Numbers ns) = 6
kind_of (constants.Days ds) = 7

-- what an entry holds, where it is of the kind, else anything

abbrev pub its_text : Constant → List ℕ
its_text (constants.Text t) = t
its_text (constants.Pattern t) = t
its_text c = []

abbrev pub its_number : Constant → Decimal
its_number (constants.Number n) = n
its_number c = wide.zero

abbrev pub its_day : Constant → Day
its_day (constants.Day d) = d
its_day c = calendar.first_day

abbrev pub its_texts : Constant → List (List ℕ)
its_texts (constants.Texts ts) = ts
its_texts c = []

abbrev pub its_numbers : Constant → Numbers
its_numbers (constants.Numbers ns) = ns
its_numbers c = numbers_of 0 []

abbrev pub its_days : Constant → List Day
its_days (constants.Days ds) = ds
its_days c = []

abbrev pub constant_cases : List (Case Constant)
constant_cases =
    case 1 (mapped constants.Text its_text text)
    ∷ case 2 (mapped constants.Number its_number decimal)
    ∷ case 3 (mapped constants.Day its_day day)
    ∷ case 4 (mapped constants.Pattern its_text text)
    ∷ case 5 (mapped constants.Texts its_texts (counted some_number text))
    ∷ case 6 (mapped constants.Numbers its_numbers numbers)
    ∷ case 7 (mapped constants.Days its_days (counted some_number day))
    ∷ []

unfoldable pub constant : Form Constant
constant = told kind_of constant_cases

-- ---- aggregates

abbrev pub aggregate_number : Aggregate → ℕ
aggregate_number aggregates.CountRows = 0
aggregate_number aggregates.Count = 1
aggregate_number (aggregates.Sum p) = 2
aggregate_number (aggregates.SumInventory p) = 3
aggregate_number aggregates.First = 4
aggregate_number aggregates.Last = 5
aggregate_number aggregates.Min = 6
aggregate_number aggregates.Max = 7

-- 0 where it has none
abbrev pub its_places : Aggregate → ℕ
its_places (aggregates.Sum p) = p
its_places (aggregates.SumInventory p) = p
its_places a = 0

abbrev pub aggregate_cases : List (Case Aggregate)
aggregate_cases =
    case 0 (just aggregates.CountRows)
    ∷ case 1 (just aggregates.Count)
    ∷ case 2 (mapped aggregates.Sum its_places places)
    ∷ case 3 (mapped aggregates.SumInventory its_places places)
    ∷ case 4 (just aggregates.First)
    ∷ case 5 (just aggregates.Last)
    ∷ case 6 (just aggregates.Min)
    ∷ case 7 (just aggregates.Max)
    ∷ []

unfoldable pub aggregate : Form Aggregate
aggregate = told aggregate_number aggregate_cases

-- ---- the file

-- 1 or 2
unfoldable pub version : Form versions.Version
version = standing_for Version numbered version_number word

abbrev pub bounds_of : versions.Version → ℕ → ℕ → ℕ → Bounds
bounds_of v n d e = record { schema = v; postings = n; units_digits = d; value_digits = e }

-- their schema is the file's version
unfoldable pub bounds : versions.Version → Form Bounds
bounds v = mapped (λ p. bounds_of v p.0 p.1.0 p.1.1)
    (λ b. (b.postings, (b.units_digits, b.value_digits))) (both long (both byte byte))

unfoldable pub place_below : ℕ → Form ℕ
place_below most = such_that BadField (λ i. nat_lt i most) byte

-- one name or more, how many are hidden behind them, and those to order by, each below the number
-- of all
unfoldable pub columns : Form (List (List ℕ) × (ℕ × List ℕ))
columns =
    before (counted (such_that BadField at_least_one byte) text)
    (λ targets. before byte (λ hidden. counted byte (place_below (length targets + hidden))))

unfoldable pub output : Form Output
output = mapped
    (λ p. record {
      is_distinct = p.0;
      is_descending = p.1.0;
      limit = p.1.1.0;
      targets =
          p.1.1.1.0;
      hidden = p.1.1.1.1.0;
      order = p.1.1.1.1.1;
    })
    (λ o. (o.is_distinct, (o.is_descending, (o.limit, (o.targets, (o.hidden, o.order))))))
    (both flag (both flag (both limit columns)))

unfoldable pub section : Form (List Instruction)
section = counted word instruction

unfoldable pub code : Mode → Form Code
code m = mapped
    (λ p. record {
      keys = p.0;
      aggregates = p.1.0;
      pool = p.1.1.0;
      filter = p.1.1.1.0;
      row =
          p.1.1.1.1.0;
      last = p.1.1.1.1.1;
    })
    (λ c. (c.keys, (c.aggregates, (c.pool, (c.filter, (c.row, c.last))))))
    (both (only m byte)
    (both (counted (only m byte) aggregate)
    (both (counted word constant)
    (both section
    (both section
    (counted (only m word) instruction))))))

unfoldable pub parts : versions.Version → Form Parts
parts v = mapped (λ p. record { bounds = p.0; mode = p.1.0; output = p.1.1.0; code = p.1.1.1 })
    (λ q. (q.bounds, (q.mode, (q.output, q.code))))
    (both (bounds v) (before mode (λ m. both output (code m))))

-- the parts behind their version
unfoldable pub versioned : Form Parts
versioned = mapped (λ p. p.1) (λ q. (q.bounds.schema, q)) (before version parts)

unfoldable pub file : Form Parts
file = marked Magic (codes "BQLC") versioned

-- The bytes are the file of a program with these parts.
pub record IsFile (bytes : List ℕ) (program : Parts) : Type 0 where
  pub fits : ∥ file.fits program ∥₁
  pub written : bytes ≡ file.written program

-- What all of the bytes are, or the first field in the order of reading that fails.
unfoldable pub whole : List ℕ → Result Parts Stop
whole bytes = file.read bytes >>= λ x. if length x.1 == 0 then Ok x.0 else stop TrailingBytes x.1

-- the byte where so many are left
abbrev pub cause_of : List ℕ → Stop → FileCause
cause_of bytes s = record { kind = s.cause; place = length bytes - s.left }

abbrev pub refused : {A : Type 0} → List ℕ → Result A Stop → Result A FileCause
refused bytes (Ok q) = Ok q
refused bytes (Err s) = Err (cause_of bytes s)

-- What bytes are: the parts of the program whose file they are, or why they are no file.
abbrev pub decoded : List ℕ → Result Parts FileCause
decoded bytes = refused bytes (whole bytes)

-- no program has two files, and no bytes are the file of two programs
abbrev pub HasOneFile : Type 0
HasOneFile = (program : Parts) (a b : List ℕ) → IsFile a program → IsFile b program → a ≡ b

abbrev pub IsOneProgram : Type 0
IsOneProgram = (bytes : List ℕ) (a b : Parts) → IsFile bytes a → IsFile bytes b → a ≡ b
