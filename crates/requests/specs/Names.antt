-- The words of the commands that take names and texts alone.
use Rattle.std.specs.Prelude.{[], ◌∷◌, codes, List, Option, option_map}
use Rattle.std.specs.Option.{option_and_then}
use Rattle.clap.specs.Walk.{Row, Text, first_of}
use Rattle.requests.specs.Command.{Command, named}

-- a command with one word behind its name
abbrev pub of_one : Text → Text → Command Text
of_one name word = record { app = named name (word ∷ []); words_in = first_of word }

abbrev pub both_in : Text → Text → List Row → Option (Text × Text)
both_in first second rows =
    option_and_then (λ a. option_map (λ b. (a, b)) (first_of second rows)) (first_of first rows)

-- one with two
abbrev pub of_two : Text → Text → Text → Command (Text × Text)
of_two name first second = record {
  app = named name (first ∷ second ∷ []);
  words_in = both_in first second;
}

abbrev pub list : Command Text
list = of_one (codes "list") (codes "LEDGER")

abbrev pub check : Command Text
check = of_one (codes "check") (codes "LEDGER")

abbrev pub show : Command Text
show = of_one (codes "show") (codes "FILE")

abbrev pub verify : Command Text
verify = of_one (codes "verify") (codes "FILE")

abbrev pub upgrade : Command (Text × Text)
upgrade = of_two (codes "upgrade") (codes "OLD") (codes "NEW")

abbrev pub run : Command (Text × Text)
run = of_two (codes "run") (codes "FILE") (codes "LEDGER")

abbrev pub query : Command (Text × Text)
query = of_two (codes "query") (codes "LEDGER") (codes "TEXT")
