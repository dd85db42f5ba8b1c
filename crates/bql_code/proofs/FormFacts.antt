-- Which constants a file can hold.
use Rattle.std.proofs.Common.{◌≡◌, ◌≤◌, ◌<◌, ◌^◌, ℕ, ℤ, List, [], ◌∷◌, length, map, refl, sym, arith}
use Rattle.std.proofs.Common.{Result, Ok, Err, IfOk, suc, ap, subst}
use Rattle.std.proofs.lemmas.Bool.Decides.{nat_tests}
use Rattle.std.proofs.lemmas.Grind.{common_steps}
use Rattle.std.proofs.lemmas.Int.{ints, to_z-of_z}
use Rattle.std.proofs.Math.Bridge.{le_prop}
use Rattle.std.proofs.Math.Logic.{∥∥₁_elim, ∥∥₁_prop}
use Rattle.std.specs.Int.{w128}
use Rattle.std.specs.Int.RustNames.{FitsSigned, unsigned_abs}
use Rattle.std.specs.List.{AllByRecursion}
use Rattle.std.specs.Prelude.{IsTrue}
use Rattle.std.specs.Str.{IsUtf8}
use mir.ValLaws as laws
use Rattle.bean_base.proofs.DayFacts as days
use Rattle.bean_base.specs.Day.{HasDay}
use Rattle.bean_base.specs.declared.days.Day.{Day}
use Rattle.limits.specs.declared.counts.TheConstants.{LARGEST_QUERY, MOST_PLACES, COUNT_BOUND}
use Rattle.query_code.proofs.TextListFacts.{fits_text}
use Rattle.query_code.specs.ByteForm.{AllFit}
use Rattle.query_code.specs.QueryFile as form
use Rattle.query_code.specs.QueryFile.{is_count}
use Rattle.query_code.specs.TextForm.{text}
use Rattle.query_code.specs.declared.program.Constant.{Constant}
use Rattle.query_code.specs.declared.program.Constant.TheVariants as constants
use Rattle.query_code.specs.declared.program.Numbers.{Numbers}
use Rattle.query_terms.proofs.WideFacts as wide
use Rattle.query_terms.specs.declared.decimal.Decimal.{Decimal}
use Rattle.bql_code.specs.Kept.{constants_of}
use Rattle.bql_code.specs.Literals.{constant_of, text_of}
use Rattle.bql_code.specs.declared.entry.Entry.{Entry}
use Rattle.bql_code.specs.declared.literal.Literal.TheVariants as literals
use Rattle.bql_code.specs.declared.literal.ShortText.{ShortText}

pub short_fits : (t : List ℕ) → length t ≤ LARGEST_QUERY → IsUtf8 t → text.fits t
short_fits t short utf8 = fits_text t (omega (arith, short)) utf8

pub text_fits : (t : List ℕ) → text.fits t → form.constant.fits (constants.Text t)
unfolding form.constant
text_fits t h = ((omega arith, (h, refl)), refl)

pub pattern_fits : (t : List ℕ) → text.fits t → form.constant.fits (constants.Pattern t)
unfolding form.constant
pattern_fits t h = ((omega arith, (h, refl)), refl)

-- ---- counts

fits_wide : (z : ℤ) → unsigned_abs z < COUNT_BOUND → FitsSigned w128 z
fits_wide z h = grind (arith, common_steps, ints, h)

count_fits : (z : ℤ) → unsigned_abs z < COUNT_BOUND → form.count.fits z
unfolding form.count
count_fits z h = let fits = fits_wide z h in
    (((laws.of_z_fits w128 z fits).fits, to_z-of_z w128 z fits), grind (arith, nat_tests, h))

decimal_fits : (d : Decimal) → form.decimal.fits d
unfolding form.decimal
decimal_fits d = (
  (
    (omega (arith, d.narrow), grind (arith, nat_tests, d.narrow)),
    count_fits d.count d.in_range,
  ),
  sym (wide.found d),
)

pub number_fits : (d : Decimal) → form.constant.fits (constants.Number d)
unfolding form.constant
number_fits d = ((omega arith, (decimal_fits d, refl)), refl)

-- ---- days

day_parts : (d : Day) → HasDay (Ok d) (unsigned_abs d.date.year) d.date.month d.date.day
day_parts d = grind (arith, ints, common_steps, d.after_christ, d.date.year_in, d.date.month_in, d.date.day_in)

day_form_fits : (d : Day) → form.day.fits d
unfolding form.day
day_form_fits d =
    let year = d.date.year_in in
    let month = d.date.month_in in
    let day = d.date.day_in in (
      (grind (arith, ints, year), (omega (arith, month), grind (arith, day))),
      sym (days.is_day_of (Ok d) (unsigned_abs d.date.year) d.date.month d.date.day
          (day_parts d)),
    )

pub day_fits : (d : Day) → form.constant.fits (constants.Day d)
unfolding form.constant
day_fits d = ((omega arith, (day_form_fits d, refl)), refl)

-- ---- lists

some_fit : (n : ℕ) → 1 ≤ n → n ≤ LARGEST_QUERY → form.some_number.fits n
some_fit n some few = (omega (arith, few), grind (arith, nat_tests, some))

all_days : (ds : List Day) → AllFit form.day ds
all_days [] = tt
all_days (d ∷ ds) = (day_form_fits d, all_days ds)

pub days_fit : (ds : List Day) → 1 ≤ length ds → length ds ≤ LARGEST_QUERY
    → form.constant.fits (constants.Days ds)
unfolding form.constant
days_fit ds some few =
    ((omega arith, (((some_fit (length ds) some few, (refl, all_days ds)), refl), refl)), refl)

all_texts : (ts : List ShortText) → ∥ AllFit text (map text_of ts) ∥₁
all_texts [] = ∣ tt ∣₁
all_texts (t ∷ ts) =
    ∥∥₁_elim t.has_form ∥∥₁_prop
    (λ fits. ∥∥₁_elim (all_texts ts) ∥∥₁_prop (λ all. ∣ (fits, all) ∣₁))

mapped_length : (ts : List ShortText) → length (map text_of ts) ≡ length ts
mapped_length [] = refl
mapped_length (t ∷ ts) = ap suc (mapped_length ts)

texts_form : (ts : List (List ℕ)) → 1 ≤ length ts → length ts ≤ LARGEST_QUERY
    → AllFit text ts → form.constant.fits (constants.Texts ts)
unfolding form.constant
texts_form ts some few all =
    ((omega arith, (((some_fit (length ts) some few, (refl, all)), refl), refl)), refl)

pub texts_fit : (ts : List ShortText) → 1 ≤ length ts → length ts ≤ LARGEST_QUERY
    → ∥ form.constant.fits (constants.Texts (map text_of ts)) ∥₁
texts_fit ts some few =
    let n = mapped_length ts in
    ∥∥₁_elim (all_texts ts) ∥∥₁_prop
    (λ all. ∣ texts_form (map text_of ts) (omega (arith, n, some)) (omega (arith, n, few)) all ∣₁)

all_counts : (zs : List ℤ) → AllByRecursion (λ z. IsTrue (is_count z)) zs
    → AllFit form.count zs
all_counts [] h = tt
all_counts (z ∷ zs) h = (count_fits z (grind (arith, nat_tests, h.0)), all_counts zs h.1)

numbers_form_fits : (ns : Numbers) → 1 ≤ length ns.counts → length ns.counts ≤ LARGEST_QUERY
    → ns.places ≤ MOST_PLACES → AllByRecursion (λ z. IsTrue (is_count z)) ns.counts
    → form.numbers.fits ns
unfolding form.numbers
numbers_form_fits ns some few narrow held = (
  (
    (omega (arith, narrow), grind (arith, nat_tests, narrow)),
    ((some_fit (length ns.counts) some few, (refl, all_counts ns.counts held)), refl),
  ),
  refl,
)

pub numbers_fit : (ns : Numbers) → 1 ≤ length ns.counts → length ns.counts ≤ LARGEST_QUERY
    → ns.places ≤ MOST_PLACES → AllByRecursion (λ z. IsTrue (is_count z)) ns.counts
    → form.constant.fits (constants.Numbers ns)
unfolding form.constant
numbers_fit ns some few narrow held =
    ((omega arith, (numbers_form_fits ns some few narrow held, refl)), refl)

-- ---- back from forms

pub short_form : (t : List ℕ) → text.fits t → length t < 2 ^ 16
unfolding text
short_form t fits = fits.0.0

pub short_text : (t : ShortText) → length t.text < 2 ^ 16
short_text t = ∥∥₁_elim t.has_form le_prop (short_form t.text)

texts_short : (ts : List (List ℕ)) → form.constant.fits (constants.Texts ts) → length ts < 2 ^ 16
unfolding form.constant
texts_short ts fits = fits.0.1.0.0.0.0

pub texts_few : (e : Entry) (ts : List ShortText) → e.literal ≡ literals.Texts ts
    → length ts < 2 ^ 16
texts_few e ts is =
    let n = mapped_length ts in
    let few = ∥∥₁_elim e.has_form le_prop
    (λ fits. texts_short (map text_of ts)
    (subst (λ l. form.constant.fits (constant_of l)) is fits)) in
    omega (arith, n, few)

-- ---- entries

pub all_have_forms : (es : List Entry) → ∥ AllFit form.constant (constants_of es) ∥₁
all_have_forms [] = ∣ tt ∣₁
all_have_forms (e ∷ es) =
    ∥∥₁_elim e.has_form ∥∥₁_prop
    (λ fits. ∥∥₁_elim (all_have_forms es) ∥∥₁_prop (λ all. ∣ (fits, all) ∣₁))

pub forms_of : {E : Type 0} (r : Result (List Constant) E) (es : List Entry)
    → IfOk r (λ list. list ≡ constants_of es)
    → IfOk r (λ list. ∥ AllFit form.constant list ∥₁)
forms_of (Ok list) es h =
    subst (λ l. ∥ AllFit form.constant l ∥₁) (sym h) (all_have_forms es)
forms_of (Err e) es h = tt
