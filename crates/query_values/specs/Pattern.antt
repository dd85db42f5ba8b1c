-- Patterns, and where they are found.
use Rattle.std.specs.Prelude.{ℕ, Bool, true, false, List, Option, chars, is_some, option_map}
use Rattle.std.specs.Option.{option_map_or}
use Rattle.regex.specs.Patterns.{Re, Config, default_config, find_str}
use Rattle.regex_syntax.specs.Grammar.{read}

-- without regard to case
abbrev pub any_case : Config
any_case = record default_config { flags = record default_config.flags { case_insensitive = true } }

-- the regular expression that a text writes, if it is one
abbrev pub reading : List ℕ → Option Re
reading pattern = option_map (λ r. r.0.value) (read any_case (chars pattern))

-- what the pattern writes is found somewhere in the text
abbrev pub is_found : List ℕ → List ℕ → Bool
is_found pattern text = option_map_or (λ re. is_some (find_str re text 0)) (reading pattern) false
