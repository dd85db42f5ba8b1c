-- That a value has a form is a proposition.
use Rattle.std.proofs.Common.{ℕ, ◌+◌, ◌^◌, Bool, true, false, List, [], ◌∷◌, length, Option, Some}
use Rattle.std.proofs.Common.{None, eqb, cond}
use Rattle.std.proofs.Props.{props}
use Rattle.std.proofs.Math.Dec.{T_prop}
use Rattle.std.specs.Int.{Width}
use Rattle.std.specs.Prelude.{◌||◌, ◌==◌, nat_lt, nat_le, codes}
use Rattle.std.specs.Int.{w16, w32, w128, cast_signed, cast_unsigned}
use Rattle.std.specs.Str.{is_utf8, bytes_eq}
use Rattle.bean_base.specs.CalendarDay as calendar
use Rattle.query_values.specs.declared.operation.Aggregate.{Aggregate}
use Rattle.query_values.specs.declared.operation.Aggregate.TheVariants as aggregates
use Rattle.query_code.specs.declared.cause.FileCauseKind.{FileCauseKind}
use Rattle.query_code.specs.declared.cause.FileCauseKind.TheVariants.{Magic, Version, BadField, NotUtf8}
use Rattle.query_code.specs.declared.instruction.Instruction.{Instruction}
use Rattle.query_code.specs.declared.program.Mode.{Mode}
use Rattle.query_code.specs.declared.program.Mode.TheVariants.{Plain, Grouped}
use Rattle.query_code.specs.declared.program.Constant.{Constant}
use Rattle.query_code.specs.declared.program.Constant.TheVariants as constants
use Rattle.query_code.specs.declared.program.Numbers.{Numbers}
use Rattle.query_code.specs.declared.program.Parts.{Parts}
use Rattle.query_code.specs.InstructionForm.{at_least_one, some_byte, word, or_0, opcode}
use Rattle.query_code.specs.InstructionForm.{operand_of, bare, with_byte, with_some_byte, with_word}
use Rattle.query_code.specs.InstructionForm.{bare_before, with_before, operand_cases, word_cases}
use Rattle.query_code.specs.InstructionForm.{cases, instruction}
use Rattle.bean_base.specs.declared.days.Day.{Day}
use Rattle.query_terms.specs.declared.decimal.Decimal.{Decimal}
use Rattle.limits.specs.Version.{numbered}
use Rattle.limits.specs.Version.{number as version_number}
use Rattle.limits.specs.declared.bounds.Bounds.{Bounds}
use Rattle.limits.specs.declared.bounds.Version as versions
use Rattle.query_code.specs.declared.program.Output.{Output}
use Rattle.query_code.specs.declared.program.Code.{Code}
use Rattle.query_code.specs.ByteForm.{Form, raw, mapped, such_that, standing_for, before, both}
use Rattle.query_code.specs.ByteForm.{AllFit, row, counted, byte, number, marked, just, Case, case}
use Rattle.query_code.specs.ByteForm.{chosen, told}
use Rattle.query_code.specs.TextForm.{text}
use Rattle.query_code.specs.QueryFile.{version, versioned}
use Rattle.query_code.specs.QueryFile.{long, wide_integer, is_count, count, bit_of, flag, has}
use Rattle.query_code.specs.QueryFile.{limit, mode_number, mode, is_grouped, only, places}
use Rattle.query_code.specs.QueryFile.{some_number, decimal_from, places_and_count, decimal}
use Rattle.query_code.specs.QueryFile.{day_from, day, numbers_of, numbers, kind_of, its_text}
use Rattle.query_code.specs.QueryFile.{its_number, its_day, its_texts, its_numbers, its_days}
use Rattle.query_code.specs.QueryFile.{constant, constant_cases, aggregate_number, its_places}
use Rattle.query_code.specs.QueryFile.{aggregate, aggregate_cases, bounds_of, bounds, place_below}
use Rattle.query_code.specs.QueryFile.{columns, output, section, code, parts, file}

pub record IsSound {T : Type 0} (f : Form T) : Type 0 where
  pub prop : (v : T) → IsProp (f.fits v)

pub sound_raw : (n : ℕ) → IsSound (raw n)
sound_raw n = record { prop = λ v. hlevel props }

pub sound_mapped : {A B : Type 0} (to : A → B) (from : B → A) (a : Form A) → IsSet B → IsSound a
    → IsSound (mapped to from a)
sound_mapped to from a set sound = record { prop = λ v. hlevel (props, sound.prop, set) }

pub sound_such_that : {A : Type 0} (cause : FileCauseKind) (test : A → Bool) (a : Form A) → IsSound a
    → IsSound (such_that cause test a)
sound_such_that cause test a sound = record { prop = λ v. hlevel (props, sound.prop) }

sound_standing_for : {A B : Type 0} (cause : FileCauseKind) (to : A → Option B) (from : B → A) (a : Form A)
    → IsSet (Option B) → IsSound a → IsSound (standing_for cause to from a)
sound_standing_for cause to from a set sound =
    record { prop = λ v. hlevel (props, sound.prop, set) }

pub sound_before : {A B : Type 0} (a : Form A) (b : A → Form B) → IsSound a
    → ((v : A) → IsSound (b v)) → IsSound (before a b)
sound_before a b sa sb =
    record {
      prop = λ p. let one = sa.prop p.0 in let two = (sb p.0).prop p.1 in
          hlevel (props, one, two);
    }

all_prop : {A : Type 0} (a : Form A) → IsSound a → (vs : List A) → IsProp (AllFit a vs)
all_prop a sound [] = hlevel props
all_prop a sound (v ∷ vs) = let others = all_prop a sound vs in hlevel (props, sound.prop, others)

pub sound_row : {A : Type 0} (n : ℕ) (a : Form A) → IsSound a → IsSound (row n a)
sound_row n a sound = record { prop = λ vs. let all = all_prop a sound vs in hlevel (props, all) }

pub sound_byte : IsSound byte
sound_byte = record { prop = λ v. hlevel props }

pub sound_number : (w : Width) (limit : ℕ) → IsSound (number w limit)
sound_number w limit = record { prop = λ v. hlevel props }

pub sound_just : {A : Type 0} (v : A) → IsSet A → IsSound (just v)
sound_just v set = record { prop = λ w. set v w }

abbrev pub AreSound : {A : Type 0} → List (Case A) → Type 0
AreSound [] = Unit {0}
AreSound (c ∷ cs) = IsSound c.form × AreSound cs

one_sound : {A : Type 0} (b : Bool) (f g : Form A) → IsSound f → IsSound g → IsSound (cond b f g)
one_sound true f g sf sg = sf
one_sound false f g sf sg = sg

chosen_sound : {A : Type 0} (cs : List (Case A)) (n : ℕ) → AreSound cs → IsSound (chosen cs n)
chosen_sound [] n all = record { prop = λ v. hlevel props }
chosen_sound (c ∷ cs) n all =
    one_sound (eqb n c.tag) c.form (chosen cs n) all.0 (chosen_sound cs n all.1)

-- the values' set is a set too where the cases' is
pub sound_told : {A : Type 0} (tag : A → ℕ) (cases : List (Case A)) → IsSet A → AreSound cases
    → IsSound (told tag cases)
sound_told tag cases set all =
    sound_mapped (λ p. p.1) (λ v. (tag v, v)) (before byte (chosen cases)) set
    (sound_before byte (chosen cases) sound_byte (λ n. chosen_sound cases n all))

bool_set : IsSet Bool
bool_set = hlevel props

text_set : IsSet (List ℕ)
text_set = hlevel props

sound_counted : {A : Type 0} (count : Form ℕ) (a : Form A) → IsSet (List A) → IsSound count
    → IsSound a → IsSound (counted count a)
sound_counted count a set sc sa =
    sound_mapped (λ p. p.1) (λ vs. (length vs, vs)) (before count (λ n. row n a)) set
    (sound_before count (λ n. row n a) sc (λ n. sound_row n a sa))

sound_marked : {A : Type 0} (cause : FileCauseKind) (mark : List ℕ) (a : Form A) → IsSet A → IsSound a
    → IsSound (marked cause mark a)
sound_marked cause mark a set sound =
    sound_mapped (λ p. p.1) (λ v. (mark, v))
    (both (such_that cause (bytes_eq mark) (raw (length mark))) a) set
    (sound_before (such_that cause (bytes_eq mark) (raw (length mark))) (λ v. a)
    (sound_such_that cause (bytes_eq mark) (raw (length mark)) (sound_raw (length mark)))
    (λ v. sound))

sound_both : {A B : Type 0} (a : Form A) (b : Form B) → IsSound a → IsSound b → IsSound (both a b)
sound_both a b sa sb = sound_before a (λ v. b) sa (λ v. sb)

sound_word : IsSound word
sound_word = sound_number w16 (2 ^ 16)

sound_some_byte : IsSound some_byte
sound_some_byte = sound_such_that BadField at_least_one byte sound_byte

sound_text : IsSound text
unfolding text
sound_text =
    sound_mapped (λ p. p.1) (λ bs. (length bs, bs))
    (before word (λ n. such_that NotUtf8 is_utf8 (raw n))) text_set
    (sound_before word (λ n. such_that NotUtf8 is_utf8 (raw n)) sound_word
    (λ n. sound_such_that NotUtf8 is_utf8 (raw n) (sound_raw n)))

sound_count : IsSound count
unfolding count
sound_count = sound_such_that BadField is_count wide_integer
    (sound_mapped (cast_signed w128) (cast_unsigned w128) (number w128 (2 ^ 128)) (hlevel props)
    (sound_number w128 (2 ^ 128)))

sound_flag : IsSound flag
unfolding flag
sound_flag =
    sound_told bit_of (case 0 (just false) ∷ case 1 (just true) ∷ []) bool_set
    (sound_just false bool_set, (sound_just true bool_set, tt))

sound_limit : IsSound limit
unfolding limit
sound_limit =
    sound_told has (case 0 (just None) ∷ case 1 (mapped Some or_0 long) ∷ []) (hlevel props) (
      sound_just None
          (hlevel props),
      (sound_mapped Some or_0 long (hlevel props) (sound_number w32 (2 ^ 32)), tt),
    )

mode_set : IsSet Mode
mode_set = hlevel props

sound_mode : IsSound mode
unfolding mode
sound_mode =
    sound_told mode_number (case 0 (just Plain) ∷ case 1 (just Grouped) ∷ []) mode_set
    (sound_just Plain mode_set, (sound_just Grouped mode_set, tt))

pub instruction_set : IsSet Instruction
instruction_set = hlevel props

bare_sound : (others : List (Case Instruction)) (is : List Instruction)
    → AreSound others → AreSound (bare_before others is)
bare_sound others [] sound = sound
bare_sound others (i ∷ is) sound = (sound_just i instruction_set, bare_sound others is sound)

with_sound : (a : Form ℕ) (others : List (Case Instruction)) (makes : List (ℕ → Instruction))
    → IsSound a → AreSound others → AreSound (with_before a others makes)
with_sound a others [] one sound = sound
with_sound a others (make ∷ makes) one sound =
    (sound_mapped make operand_of a instruction_set one, with_sound a others makes one sound)

sound_instruction : IsSound instruction
unfolding instruction operand_cases word_cases
sound_instruction = sound_told opcode cases instruction_set (bare_sound operand_cases bare
    (with_sound byte (with_before some_byte word_cases with_some_byte) with_byte sound_byte
    (with_sound some_byte word_cases with_some_byte sound_some_byte
    (with_sound word [] with_word sound_word tt))))

day_set : IsSet Day
day_set = hlevel (props, T_prop)

decimal_set : IsSet Decimal
decimal_set = hlevel (props, T_prop)

numbers_set : IsSet Numbers
numbers_set = hlevel props

aggregate_set : IsSet Aggregate
aggregate_set = hlevel props

pub constant_set : IsSet Constant
constant_set = hlevel (props, day_set, decimal_set, numbers_set)

sound_places : IsSound places
sound_places = sound_such_that BadField (λ p. nat_le p 32) byte sound_byte

sound_some_number : IsSound some_number
sound_some_number = sound_such_that BadField at_least_one word sound_word

sound_decimal : IsSound decimal
unfolding decimal
sound_decimal =
    sound_standing_for BadField decimal_from places_and_count (both places count)
    (hlevel (props, decimal_set)) (sound_both places count sound_places sound_count)

sound_day : IsSound day
unfolding day
sound_day =
    sound_standing_for BadField day_from calendar.parts_of (both word (both byte byte))
    (hlevel (props, day_set))
    (sound_both word (both byte byte) sound_word (sound_both byte byte sound_byte sound_byte))

sound_numbers : IsSound numbers
unfolding numbers
sound_numbers =
    sound_mapped (λ p. numbers_of p.0 p.1) (λ n. (n.places, n.counts))
    (both places (counted some_number count)) numbers_set
    (sound_both places (counted some_number count) sound_places
    (sound_counted some_number count (hlevel props) sound_some_number sound_count))

sound_constant : IsSound constant
unfolding constant
sound_constant = sound_told kind_of constant_cases constant_set (
  sound_mapped constants.Text its_text text constant_set sound_text,
  (
    sound_mapped constants.Number its_number decimal constant_set sound_decimal,
    (
      sound_mapped constants.Day its_day day constant_set sound_day,
      (
        sound_mapped constants.Pattern its_text text constant_set sound_text,
        (
          sound_mapped constants.Texts its_texts (counted some_number text) constant_set
              (sound_counted some_number text (hlevel props) sound_some_number sound_text),
          (
            sound_mapped constants.Numbers its_numbers numbers constant_set sound_numbers,
            (
              sound_mapped constants.Days its_days (counted some_number day) constant_set
                  (sound_counted some_number day (hlevel (props, day_set)) sound_some_number
                  sound_day),
              tt,
            ),
          ),
        ),
      ),
    ),
  ),
)

sound_aggregate : IsSound aggregate
unfolding aggregate
sound_aggregate = sound_told aggregate_number aggregate_cases aggregate_set (
  sound_just aggregates.CountRows aggregate_set,
  (
    sound_just aggregates.Count aggregate_set,
    (
      sound_mapped aggregates.Sum its_places places aggregate_set sound_places,
      (
        sound_mapped aggregates.SumInventory its_places places aggregate_set sound_places,
        (
          sound_just aggregates.First aggregate_set,
          (
            sound_just aggregates.Last aggregate_set,
            (
              sound_just aggregates.Min aggregate_set,
              (
                sound_just aggregates.Max aggregate_set,
                tt,
              ),
            ),
          ),
        ),
      ),
    ),
  ),
)

bounds_set : IsSet Bounds
bounds_set = hlevel props

version_set : IsSet (Option versions.Version)
version_set = hlevel props

sound_version : IsSound version
unfolding version
sound_version =
    sound_standing_for Version numbered version_number word version_set sound_word

sound_bounds : (v : versions.Version) → IsSound (bounds v)
unfolding bounds
sound_bounds v =
    sound_mapped (λ p. bounds_of v p.0 p.1.0 p.1.1)
    (λ b. (b.postings, (b.units_digits, b.value_digits))) (both long (both byte byte)) bounds_set
    (sound_both long (both byte byte) (sound_number w32 (2 ^ 32))
    (sound_both byte byte sound_byte sound_byte))

sound_below : (most : ℕ) → IsSound (place_below most)
unfolding place_below
sound_below most = sound_such_that BadField (λ i. nat_lt i most) byte sound_byte

sound_columns : IsSound columns
unfolding columns
sound_columns =
    sound_before (counted some_byte text)
    (λ targets. before byte (λ hidden. counted byte (place_below (length targets + hidden))))
    (sound_counted some_byte text (hlevel props) sound_some_byte sound_text)
    (λ targets. sound_before byte (λ hidden. counted byte (place_below (length targets + hidden)))
    sound_byte
    (λ hidden. sound_counted byte (place_below (length targets + hidden)) (hlevel props) sound_byte
    (sound_below (length targets + hidden))))

output_set : IsSet Output
output_set = hlevel props

sound_output : IsSound output
unfolding output
sound_output = sound_mapped
    (λ p. record {
      is_distinct = p.0;
      is_descending = p.1.0;
      limit = p.1.1.0;
      targets =
          p.1.1.1.0;
      hidden = p.1.1.1.1.0;
      order = p.1.1.1.1.1;
    })
    (λ o. (o.is_distinct, (o.is_descending, (o.limit, (o.targets, (o.hidden, o.order)))))) _
    output_set
    (sound_both flag _ sound_flag
    (sound_both flag _ sound_flag (sound_both limit _ sound_limit sound_columns)))

sound_only : (m : Mode) (a : Form ℕ) → IsSound a → IsSound (only m a)
sound_only m a sound = sound_such_that BadField (λ n. is_grouped m || (n == 0)) a sound

instructions_set : IsSet (List Instruction)
instructions_set = hlevel (props, instruction_set)

pool_set : IsSet (List Constant)
pool_set = hlevel (props, constant_set)

aggregates_set : IsSet (List Aggregate)
aggregates_set = hlevel (props, aggregate_set)

sound_section : IsSound section
unfolding section
sound_section = sound_counted word instruction instructions_set sound_word sound_instruction

pub code_set : IsSet Code
code_set = hlevel (props, instructions_set, pool_set, aggregates_set)

sound_code : (m : Mode) → IsSound (code m)
unfolding code
sound_code m = sound_mapped
    (λ p. record {
      keys = p.0;
      aggregates = p.1.0;
      pool = p.1.1.0;
      filter = p.1.1.1.0;
      row =
          p.1.1.1.1.0;
      last = p.1.1.1.1.1;
    })
    (λ c. (c.keys, (c.aggregates, (c.pool, (c.filter, (c.row, c.last)))))) _ code_set
    (sound_both (only m byte) _ (sound_only m byte sound_byte)
    (sound_both (counted (only m byte) aggregate) _
    (sound_counted (only m byte) aggregate aggregates_set (sound_only m byte sound_byte)
    sound_aggregate)
    (sound_both (counted word constant) _
    (sound_counted word constant pool_set sound_word sound_constant)
    (sound_both section _ sound_section
    (sound_both section _ sound_section
    (sound_counted (only m word) instruction instructions_set (sound_only m word sound_word)
    sound_instruction))))))

pub parts_set : IsSet Parts
parts_set = hlevel (props, bounds_set, mode_set, output_set, code_set)

sound_parts : (v : versions.Version) → IsSound (parts v)
unfolding parts
sound_parts v =
    sound_mapped (λ p. record { bounds = p.0; mode = p.1.0; output = p.1.1.0; code = p.1.1.1 })
    (λ q. (q.bounds, (q.mode, (q.output, q.code))))
    (both (bounds v) (before mode (λ m. both output (code m)))) parts_set
    (sound_both (bounds v) (before mode (λ m. both output (code m))) (sound_bounds v)
    (sound_before mode (λ m. both output (code m)) sound_mode
    (λ m. sound_both output (code m) sound_output (sound_code m))))

sound_versioned : IsSound versioned
unfolding versioned
sound_versioned =
    sound_mapped (λ p. p.1) (λ q. (q.bounds.schema, q)) (before version parts) parts_set
    (sound_before version parts sound_version sound_parts)

sound_file : IsSound file
unfolding file
sound_file = sound_marked Magic (codes "BQLC") versioned parts_set sound_versioned

pub prop_file : (q : Parts) → IsProp (file.fits q)
prop_file q = sound_file.prop q
