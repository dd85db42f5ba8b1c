-- The form of each field, and of the file, is exact.
use Rattle.std.proofs.Common.{◌≡◌, ℕ, ℤ, ◌+◌, ◌^◌, true, false, [], ◌∷◌, length, Some, None, refl}
use Rattle.std.proofs.Common.{Bool, eqb, ap, ap₂, sym, ◌∙◌}
use Rattle.std.proofs.lemmas.Bool.{eqb-true}
use Rattle.std.proofs.Common.{List, rules}
use Rattle.std.specs.Prelude.{◌||◌, ◌==◌, nat_lt, nat_le, codes, if◌then◌else◌}
use Rattle.std.specs.Int.{w16, w32, w128, cast_signed, cast_unsigned}
use Rattle.std.specs.Str.{is_utf8}
use Rattle.bean_base.specs.CalendarDay as calendar
use Rattle.limits.specs.Version.{numbered}
use Rattle.limits.specs.Version.{number as version_number}
use Rattle.limits.specs.declared.bounds.Bounds.{Bounds}
use Rattle.limits.specs.declared.bounds.Version as versions
use Rattle.limits.specs.declared.bounds.Version.TheVariants.{First, Second}
use Rattle.query_values.specs.declared.operation.Aggregate.TheVariants as aggregates
use Rattle.query_code.specs.declared.cause.FileCauseKind.TheVariants.{Magic, Version, BadField, NotUtf8}
use Rattle.query_code.specs.declared.instruction.Instruction.{Instruction}
use Rattle.query_code.specs.declared.program.Parts.{Parts}
use Rattle.query_code.specs.declared.program.Mode.{Mode}
use Rattle.query_code.specs.declared.program.Mode.TheVariants.{Plain, Grouped}
use Rattle.query_code.specs.declared.program.Constant.TheVariants as constants
use Rattle.query_code.specs.InstructionForm.{at_least_one, some_byte, word, or_0, opcode}
use Rattle.query_code.specs.InstructionForm.{operand_of, bare, with_byte, with_some_byte, with_word}
use Rattle.query_code.specs.InstructionForm.{bare_before, with_before, operand_cases, word_cases}
use Rattle.query_code.specs.InstructionForm.{cases, instruction}
use Rattle.query_terms.specs.declared.decimal.Decimal.{Decimal}
use Rattle.bean_base.proofs.DayFacts as days
use Rattle.query_terms.proofs.WideFacts as decimals
use Rattle.std.proofs.lemmas.Int.{of_z-to_z}
use Rattle.query_code.specs.ByteForm.{Form, Case, raw, mapped, such_that, before, both, counted}
use Rattle.query_code.specs.ByteForm.{byte, number, just, case}
use Rattle.query_code.specs.TextForm.{text}
use Rattle.query_code.specs.QueryFile.{long, wide_integer, is_count, count, bit_of, flag, has}
use Rattle.query_code.specs.QueryFile.{limit, mode_number, mode, is_grouped, only, places}
use Rattle.query_code.specs.QueryFile.{some_number, decimal_from, places_and_count, decimal}
use Rattle.query_code.specs.QueryFile.{day_from, day, numbers_of, numbers, kind_of, its_text}
use Rattle.query_code.specs.QueryFile.{its_number, its_day, its_texts, its_numbers, its_days}
use Rattle.query_code.specs.QueryFile.{constant, constant_cases, aggregate_number, its_places}
use Rattle.query_code.specs.QueryFile.{aggregate, aggregate_cases, bounds_of, bounds, place_below}
use Rattle.query_code.specs.QueryFile.{columns, output, section, code, parts, version, versioned}
use Rattle.query_code.specs.QueryFile.{file}
use Rattle.query_code.proofs.ByteFormFacts.{IsExact, AreCases, is_case, is_just, wide16, wide32}
use Rattle.query_code.proofs.ByteFormFacts.{exact_raw, exact_mapped, exact_such_that}
use Rattle.query_code.proofs.ByteFormFacts.{exact_standing_for, exact_before, exact_both}
use Rattle.query_code.proofs.ByteFormFacts.{exact_byte, exact_number, exact_counted, exact_marked}
use Rattle.query_code.proofs.ByteFormFacts.{exact_told}
use Rattle.query_code.proofs.WideNumberFacts.{wide128}

pub exact_some_byte : IsExact some_byte
exact_some_byte = exact_such_that BadField at_least_one byte exact_byte

pub exact_word : IsExact word
exact_word = exact_number w16 (2 ^ 16) wide16

pub exact_long : IsExact long
exact_long = exact_number w32 (2 ^ 32) wide32

pub exact_count : IsExact count
unfolding count
exact_count = exact_such_that BadField is_count wide_integer
    (exact_mapped (cast_signed w128) (cast_unsigned w128) (number w128 (2 ^ 128))
    (λ n lt. of_z-to_z w128 n lt) (exact_number w128 (2 ^ 128) wide128))

pub exact_text : IsExact text
unfolding text
exact_text =
    exact_mapped (λ p. p.1) (λ bs. (length bs, bs))
    (before word (λ n. such_that NotUtf8 is_utf8 (raw n)))
    (λ p fits. ap (λ (n : ℕ). (n, p.1)) fits.1.0)
    (exact_before word (λ n. such_that NotUtf8 is_utf8 (raw n)) exact_word
    (λ n fits. exact_such_that NotUtf8 is_utf8 (raw n) (exact_raw n)))

pub exact_flag : IsExact flag
unfolding flag
exact_flag =
    exact_told bit_of (case 0 (just false) ∷ case 1 (just true) ∷ [])
    (is_just bit_of false, (is_just bit_of true, tt))

pub exact_limit : IsExact limit
unfolding limit
exact_limit =
    exact_told has (case 0 (just None) ∷ case 1 (mapped Some or_0 long) ∷ [])
    (is_just has None, (is_case has 1 Some or_0 long (λ n. refl) (λ n fits. refl) exact_long, tt))

pub exact_mode : IsExact mode
unfolding mode
exact_mode =
    exact_told mode_number (case 0 (just Plain) ∷ case 1 (just Grouped) ∷ [])
    (is_just mode_number Plain, (is_just mode_number Grouped, tt))

exact_only : (m : Mode) (a : Form ℕ) → IsExact a → IsExact (only m a)
exact_only m a exact = exact_such_that BadField (λ n. is_grouped m || (n == 0)) a exact

-- ---- instructions

-- the opcode of each is one whatever the operand, which is found again
abbrev AreMade : List (ℕ → Instruction) → Type 0
AreMade [] = Unit {0}
AreMade (make ∷ makes) =
    ((x : ℕ) → opcode (make x) ≡ opcode (make 1)) × ((x : ℕ) → operand_of (make x) ≡ x)
    × AreMade makes

bare_are : (others : List (Case Instruction)) (is : List Instruction)
    → AreCases opcode others → AreCases opcode (bare_before others is)
bare_are others [] are = are
bare_are others (i ∷ is) are = (is_just opcode i, bare_are others is are)

with_are : (a : Form ℕ) (others : List (Case Instruction)) (makes : List (ℕ → Instruction))
    → IsExact a → AreMade makes → AreCases opcode others
    → AreCases opcode (with_before a others makes)
with_are a others [] exact made are = are
with_are a others (make ∷ makes) exact made are = (
  is_case opcode (opcode (make 1)) make operand_of a made.0 (λ x fits. made.1 x) exact,
  with_are a others makes exact made.2 are,
)

bytes_made : AreMade with_byte
bytes_made = Prim.search rules

some_bytes_made : AreMade with_some_byte
some_bytes_made = Prim.search rules

words_made : AreMade with_word
words_made = Prim.search rules

pub exact_instruction : IsExact instruction
unfolding instruction operand_cases word_cases
exact_instruction = exact_told opcode cases (bare_are operand_cases bare
    (with_are byte (with_before some_byte word_cases with_some_byte) with_byte exact_byte bytes_made
    (with_are some_byte word_cases with_some_byte exact_some_byte some_bytes_made
    (with_are word [] with_word exact_word words_made tt))))

pub exact_section : IsExact section
unfolding section
exact_section = exact_counted word instruction exact_word exact_instruction

-- ---- the pool

pub exact_places : IsExact places
exact_places = exact_such_that BadField (λ p. nat_le p 32) byte exact_byte

pub exact_some_number : IsExact some_number
exact_some_number = exact_such_that BadField at_least_one word exact_word

decimal_back : (p : ℕ × ℤ) (d : Decimal) → decimal_from p ≡ Some d → places_and_count d ≡ p
decimal_back p d e = let back = decimals.parts_back p.0 p.1 d e in
    ap₂ (λ (n : ℕ) (z : ℤ). (n, z)) back.0 back.1

pub exact_decimal : IsExact decimal
unfolding decimal
exact_decimal =
    exact_standing_for BadField decimal_from places_and_count (both places count) decimal_back
    (exact_both places count exact_places exact_count)

pub exact_day : IsExact day
unfolding day
exact_day =
    exact_standing_for BadField day_from calendar.parts_of (both word (both byte byte))
    (λ p d e. days.parts_back p.0 p.1.0 p.1.1 d e)
    (exact_both word (both byte byte) exact_word (exact_both byte byte exact_byte exact_byte))

pub exact_numbers : IsExact numbers
unfolding numbers
exact_numbers =
    exact_mapped (λ p. numbers_of p.0 p.1) (λ n. (n.places, n.counts))
    (both places (counted some_number count)) (λ p fits. refl)
    (exact_both places (counted some_number count) exact_places
    (exact_counted some_number count exact_some_number exact_count))

pub exact_constant : IsExact constant
unfolding constant
exact_constant = exact_told kind_of constant_cases (
  is_case kind_of 1 constants.Text its_text text (λ x. refl) (λ x fits. refl) exact_text,
  (
    is_case kind_of 2 constants.Number its_number decimal (λ x. refl) (λ x fits. refl)
        exact_decimal,
    (
      is_case kind_of 3 constants.Day its_day day (λ x. refl) (λ x fits. refl) exact_day,
      (
        is_case kind_of 4 constants.Pattern its_text text (λ x. refl) (λ x fits. refl) exact_text,
        (
          is_case kind_of 5 constants.Texts its_texts (counted some_number text) (λ x. refl)
              (λ x fits. refl) (exact_counted some_number text exact_some_number exact_text),
          (
            is_case kind_of 6 constants.Numbers its_numbers numbers (λ x. refl) (λ x fits. refl)
                exact_numbers,
            (
              is_case kind_of 7 constants.Days its_days (counted some_number day) (λ x. refl)
                  (λ x fits. refl) (exact_counted some_number day exact_some_number exact_day),
              tt,
            ),
          ),
        ),
      ),
    ),
  ),
)

pub exact_aggregate : IsExact aggregate
unfolding aggregate
exact_aggregate = exact_told aggregate_number aggregate_cases (
  is_just aggregate_number aggregates.CountRows,
  (
    is_just aggregate_number aggregates.Count,
    (
      is_case aggregate_number 2 aggregates.Sum its_places places (λ x. refl) (λ x fits. refl)
          exact_places,
      (
        is_case aggregate_number 3 aggregates.SumInventory its_places places (λ x. refl)
            (λ x fits. refl) exact_places,
        (
          is_just aggregate_number aggregates.First,
          (
            is_just aggregate_number aggregates.Last,
            (
              is_just aggregate_number aggregates.Min,
              (
                is_just aggregate_number aggregates.Max,
                tt,
              ),
            ),
          ),
        ),
      ),
    ),
  ),
)

-- ---- the file

-- a number of one of the versions is that version's
number_if : (one two : Bool) (n : ℕ) (v : versions.Version) → (one ≡ true → n ≡ 1)
    → (two ≡ true → n ≡ 2)
    → (if one then Some First else if two then Some Second else None) ≡ Some v
    → version_number v ≡ n
number_if true two n v is_one is_two e =
    let first : First ≡ v = cc in ap version_number (sym first) ∙ sym (is_one refl)
number_if false true n v is_one is_two e =
    let second : Second ≡ v = cc in ap version_number (sym second) ∙ sym (is_two refl)
number_if false false n v is_one is_two e = absurd cc

number_back : (n : ℕ) (v : versions.Version) → numbered n ≡ Some v → version_number v ≡ n
number_back n v e = number_if (eqb n 1) (eqb n 2) n v (eqb-true n 1) (eqb-true n 2) e

pub exact_version : IsExact version
unfolding version
exact_version = exact_standing_for Version numbered version_number word number_back exact_word

pub exact_bounds : (v : versions.Version) → IsExact (bounds v)
unfolding bounds
exact_bounds v =
    exact_mapped (λ p. bounds_of v p.0 p.1.0 p.1.1)
    (λ b. (b.postings, (b.units_digits, b.value_digits))) (both long (both byte byte))
    (λ p fits. refl)
    (exact_both long (both byte byte) exact_long (exact_both byte byte exact_byte exact_byte))

pub exact_place_below : (most : ℕ) → IsExact (place_below most)
unfolding place_below
exact_place_below most = exact_such_that BadField (λ i. nat_lt i most) byte exact_byte

exact_order : (most : ℕ) → IsExact (counted byte (place_below most))
exact_order most = exact_counted byte (place_below most) exact_byte (exact_place_below most)

pub exact_columns : IsExact columns
unfolding columns
exact_columns =
    exact_before (counted some_byte text)
    (λ targets. before byte (λ hidden. counted byte (place_below (length targets + hidden))))
    (exact_counted some_byte text exact_some_byte exact_text)
    (λ targets fits. exact_before byte
    (λ hidden. counted byte (place_below (length targets + hidden))) exact_byte
    (λ hidden fits. exact_order (length targets + hidden)))

pub exact_output : IsExact output
unfolding output
exact_output = exact_mapped
    (λ p. record {
      is_distinct = p.0;
      is_descending = p.1.0;
      limit = p.1.1.0;
      targets =
          p.1.1.1.0;
      hidden = p.1.1.1.1.0;
      order = p.1.1.1.1.1;
    })
    (λ o. (o.is_distinct, (o.is_descending, (o.limit, (o.targets, (o.hidden, o.order)))))) _
    (λ p fits. refl)
    (exact_both flag _ exact_flag
    (exact_both flag _ exact_flag (exact_both limit _ exact_limit exact_columns)))

pub exact_code : (m : Mode) → IsExact (code m)
unfolding code
exact_code m = exact_mapped
    (λ p. record {
      keys = p.0;
      aggregates = p.1.0;
      pool = p.1.1.0;
      filter = p.1.1.1.0;
      row =
          p.1.1.1.1.0;
      last = p.1.1.1.1.1;
    })
    (λ c. (c.keys, (c.aggregates, (c.pool, (c.filter, (c.row, c.last)))))) _ (λ p fits. refl)
    (exact_both (only m byte) _ (exact_only m byte exact_byte)
    (exact_both (counted (only m byte) aggregate) _
    (exact_counted (only m byte) aggregate (exact_only m byte exact_byte) exact_aggregate)
    (exact_both (counted word constant) _ (exact_counted word constant exact_word exact_constant)
    (exact_both section _ exact_section
    (exact_both section _ exact_section
    (exact_counted (only m word) instruction (exact_only m word exact_word) exact_instruction))))))

pub exact_parts : (v : versions.Version) → IsExact (parts v)
unfolding parts
exact_parts v =
    exact_mapped (λ p. record { bounds = p.0; mode = p.1.0; output = p.1.1.0; code = p.1.1.1 })
    (λ q. (q.bounds, (q.mode, (q.output, q.code))))
    (both (bounds v) (before mode (λ m. both output (code m)))) (λ p fits. refl)
    (exact_both (bounds v) (before mode (λ m. both output (code m))) (exact_bounds v)
    (exact_before mode (λ m. both output (code m)) exact_mode
    (λ m fits. exact_both output (code m) exact_output (exact_code m))))

-- the schema of the bounds is the version
schema_is : (v : versions.Version) (q : Parts) → (parts v).fits q → q.bounds.schema ≡ v
unfolding parts bounds
schema_is v q fits = sym (ap (λ (b : Bounds). b.schema) fits.0.0.1)

pub exact_versioned : IsExact versioned
unfolding versioned
exact_versioned =
    exact_mapped (λ p. p.1) (λ q. (q.bounds.schema, q)) (before version parts)
    (λ p fits. ap (λ (v : versions.Version). (v, p.1)) (schema_is p.0 p.1 fits.1))
    (exact_before version parts exact_version (λ v fits. exact_parts v))

pub exact_file : IsExact file
unfolding file
exact_file = exact_marked Magic (codes "BQLC") versioned exact_versioned
