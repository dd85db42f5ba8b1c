-- The words of `batch K LEDGER FILE..`: the steps of a turn, the name of the ledger, and those of the
-- files.
use Rattle.std.specs.Prelude.{ℕ, ◌^◌, ◌-◌, List, [], ◌∷◌, codes, Option, Some}
use Rattle.std.specs.Option.{option_and_then, option_map}
use Rattle.clap.specs.Lexer.{usize_max}
use Rattle.clap.specs.Simple.{with_rule}
use Rattle.clap.specs.Walk.{Row, Rule, Text, all_of, first_of}
use Rattle.requests.specs.Command.{Command, named, needed}
use Rattle.requests.specs.Compile.{number_in}

pub record Words : Type 0 where
  pub steps : ℕ
  pub ledger : Text
  pub files : List Text

abbrev pub words_of : ℕ → Text → List Text → Words
words_of steps ledger files = record { steps = steps; ledger = ledger; files = files }

-- one or more
abbrev pub files : Rule
files = record (needed (codes "FILE")) {
  range = Some (record { start_inclusive = 1; end_inclusive = usize_max });
}

-- a number from 1 to the largest of 64 bits
abbrev pub steps_in : List Row → Option ℕ
steps_in rows = option_and_then (number_in (2 ^ 64 - 1)) (first_of (codes "K") rows)

abbrev pub words_in : List Row → Option Words
words_in rows =
    option_and_then (λ steps. option_and_then (λ ledger. option_map (words_of steps ledger)
    (all_of (codes "FILE") rows)) (first_of (codes "LEDGER") rows)) (steps_in rows)

abbrev pub batch : Command Words
batch = record {
  app = with_rule (named (codes "batch") (codes "K" ∷ codes "LEDGER" ∷ [])) files;
  words_in = words_in;
}
