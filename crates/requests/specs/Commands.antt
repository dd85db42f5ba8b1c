-- The commands of the program, and what the words ask for: one of them, with its words.
use Rattle.std.specs.Prelude.{List, [], ◌∷◌, Option, None, codes, true, find}
use Rattle.std.specs.Option.{option_and_then, option_map}
use Rattle.std.specs.Str.{bytes_eq}
use Rattle.clap.specs.Faults.{fault_of}
use Rattle.clap.specs.Kinds.{Kinds}
use Rattle.clap.specs.Simple.{App, new_app, on_top, subcommand_of, with_subcommand}
use Rattle.clap.specs.Walk.{Row, Text}
use Rattle.requests.specs.Batch as several
use Rattle.requests.specs.Batch.{batch}
use Rattle.requests.specs.Compile.{Words, compile}
use Rattle.requests.specs.Names.{check, list, query, run, show, upgrade, verify}
use Rattle.requests.specs.declared.words.Name.{Name}
use Rattle.requests.specs.declared.words.Name.TheVariants as names
use Rattle.requests.specs.declared.words.Request.{Request}
use Rattle.requests.specs.declared.words.Request.TheVariants as request

abbrev pub commands : List Name
commands = names.List ∷ names.Check ∷ names.Show ∷ names.Verify ∷ names.Upgrade ∷ names.Run ∷ names.Query
    ∷ names.Compile ∷ names.Batch ∷ []

-- its words, as clap takes them
abbrev pub app_of : Name → App
app_of names.List = list.app
app_of names.Check = check.app
app_of names.Show = show.app
app_of names.Verify = verify.app
app_of names.Upgrade = upgrade.app
app_of names.Run = run.app
app_of names.Query = query.app
app_of names.Compile = compile.app
app_of names.Batch = batch.app

abbrev pub text_of : Name → Text
text_of name = (app_of name).top.name

-- the request that its words make
abbrev pub request_by : Name → List Row → Option Request
request_by names.List rows = option_map request.List (list.words_in rows)
request_by names.Check rows = option_map request.Check (check.words_in rows)
request_by names.Show rows = option_map request.Show (show.words_in rows)
request_by names.Verify rows = option_map request.Verify (verify.words_in rows)
request_by names.Upgrade rows =
    option_map (λ (w : Text × Text). request.Upgrade w.0 w.1) (upgrade.words_in rows)
request_by names.Run rows =
    option_map (λ (w : Text × Text). request.Run w.0 w.1) (run.words_in rows)
request_by names.Query rows =
    option_map (λ (w : Text × Text). request.Query w.0 w.1) (query.words_in rows)
request_by names.Compile rows =
    option_map (λ (w : Words). request.Compile w.text w.file w.bounds) (compile.words_in rows)
request_by names.Batch rows =
    option_map (λ (w : several.Words). request.Batch w.steps w.ledger w.files)
    (batch.words_in rows)

-- ---- what words ask for

abbrev pub top : App
top =
    on_top (λ s. record s {
      no_binary_name = true;
      disable_help_flag = true;
      disable_help_subcommand = true;
      subcommand_required = true;
    }) (new_app (codes "bq"))

abbrev pub with_commands : App → List Name → App
with_commands app [] = app
with_commands app (name ∷ names) = with_commands (with_subcommand app (app_of name).top) names

-- the program's words, as clap takes them
abbrev pub program : App
program = with_commands top commands

-- the command of a name
abbrev pub named : Text → Option Name
named text = find (λ name. bytes_eq text (text_of name)) commands

-- what a subcommand asks for, by its name and its words
abbrev pub asked_by : Text × List Row → Option Request
asked_by p = option_and_then (λ name. request_by name p.1) (named p.0)

-- what the words ask for, where clap has no fault to find with them
abbrev pub request_without : Kinds → List Text → Option Request
request_without [] words = option_and_then asked_by (subcommand_of program words)
request_without (fault ∷ faults) words = None

-- what the words ask for, where clap takes them
abbrev pub request_in : List Text → Option Request
request_in words = request_without (fault_of program words) words
