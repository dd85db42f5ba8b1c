-- What the words of a command are.
use Rattle.std.specs.Prelude.{◌≡◌, true, false, List, [], ◌∷◌, Option}
use Rattle.clap.specs.Simple.{App, app_of, new_app, new_rule, on_top, with_rule}
use Rattle.clap.specs.Walk.{Row, Rule, Text}
use Rattle.clap.specs.declared.builder.command.Command.{Command as ClapCommand}
use Rattle.clap.specs.declared.builder.command.Command.TheViews.{out-Command as fields_of}

-- its name with the words that clap takes for it, and those of them that it reads
pub record Command (Words : Type 0) : Type 0 where
  pub app : App
  pub words_in : List Row → Option Words

-- a word that has to be there
abbrev pub needed : Text → Rule
needed name = record (new_rule name) { required = true }

abbrev pub with_words : App → List Text → App
with_words app [] = app
with_words app (word ∷ words) = with_words (with_rule app (needed word)) words

-- a name with these words behind it
abbrev pub named : Text → List Text → App
named name words =
    with_words (on_top (λ s. record s { disable_help_flag = true }) (new_app name)) words

-- none of its words are for all commands
abbrev pub IsLocal : ClapCommand → Type 0
IsLocal c = (fields_of c).has_globals ≡ false

-- clap has these words for it
abbrev pub IsCommand : ClapCommand → App → Type 0
IsCommand c app = (app_of c ≡ app) × IsLocal c
