-- The words of `compile TEXT FILE`: a text, the name of a file, and bounds.
use Rattle.std.specs.Prelude.{ℕ, [], ◌∷◌, codes, List, Option, Some, None, if◌then◌else◌}
use Rattle.std.specs.Option.{option_and_then, option_map}
use Rattle.std.specs.Str.Parse.{digits_value, without_leading_plus}
use Rattle.clap.specs.Simple.{new_rule, with_rule}
use Rattle.clap.specs.ValueTests.{is_unsigned_in}
use Rattle.clap.specs.Walk.{Row, Rule, Text, first_of}
use Rattle.limits.specs.declared.bounds.Bounds.{Bounds}
use Rattle.limits.specs.declared.bounds.Version.TheVariants.{Second}
use Rattle.limits.specs.declared.counts.TheConstants.{MOST_POSTINGS, MOST_UNITS_DIGITS}
use Rattle.limits.specs.declared.counts.TheConstants.{MOST_VALUE_DIGITS}
use Rattle.requests.specs.Command.{Command, named}

-- ---- the bounds

-- a number from 1 to the most
abbrev pub number_in : ℕ → Text → Option ℕ
number_in most text =
    if is_unsigned_in 1 most text then Some (digits_value 10 (without_leading_plus text)) else None

-- where none is given, the most
abbrev pub bound_of : ℕ → Option Text → Option ℕ
bound_of most None = Some most
bound_of most (Some text) = number_in most text

abbrev pub bound_in : Text → ℕ → List Row → Option ℕ
bound_in name most rows = bound_of most (first_of name rows)

abbrev pub bounds_of : ℕ → ℕ → ℕ → Bounds
bounds_of postings units value = record {
  schema = Second;
  postings = postings;
  units_digits = units;
  value_digits = value;
}

abbrev pub bounds_in : List Row → Option Bounds
bounds_in rows =
    option_and_then (λ n. option_and_then (λ d. option_map (λ e. bounds_of n d e)
    (bound_in (codes "value-digits") MOST_VALUE_DIGITS rows))
    (bound_in (codes "digits") MOST_UNITS_DIGITS rows))
    (bound_in (codes "postings") MOST_POSTINGS rows)

-- ---- the words

-- an option with a value, which may be left out
abbrev pub option : Text → Rule
option name = record (new_rule name) { long = Some name }

-- a text, the name of a file, and bounds
pub record Words : Type 0 where
  pub text : Text
  pub file : Text
  pub bounds : Bounds

abbrev pub words_of : Text → Text → Bounds → Words
words_of text file bounds = record { text = text; file = file; bounds = bounds }

abbrev pub words_in : List Row → Option Words
words_in rows =
    option_and_then (λ text. option_and_then (λ file. option_map (words_of text file)
    (bounds_in rows)) (first_of (codes "FILE") rows)) (first_of (codes "TEXT") rows)

abbrev pub compile : Command Words
compile = record {
  app = with_rule (with_rule (with_rule (named (codes "compile") (codes "TEXT" ∷ codes "FILE" ∷ []))
      (option (codes "postings"))) (option (codes "digits"))) (option (codes "value-digits"));
  words_in = words_in;
}
