-- What is due to the words: to the command that they ask for.
use Rattle.std.specs.Prelude.{◌≡◌, List, Option, Some, None, Err}
use Rattle.clap.specs.Walk.{Text}
use Rattle.requests.specs.Batch as several
use Rattle.requests.specs.Commands.{request_in}
use Rattle.requests.specs.Compile.{words_of}
use Rattle.requests.specs.declared.words.Request.{Request}
use Rattle.requests.specs.declared.words.Request.TheVariants as request
use Rattle.bq.specs.Batch.{batch}
use Rattle.bq.specs.Check.{check}
use Rattle.bq.specs.Compile.{compile}
use Rattle.bq.specs.Due.{Due, at_once}
use Rattle.bq.specs.List.{list}
use Rattle.bq.specs.Query.{query}
use Rattle.bq.specs.RunFile.{run}
use Rattle.bq.specs.Show.{show}
use Rattle.bq.specs.Upgrade.{upgrade}
use Rattle.bq.specs.Verify.{verify}
use Rattle.endings.specs.declared.refusal.Cause.TheVariants as cause

-- what is due to a request; where nothing is asked, the words are refused
abbrev pub due : Option Request → Due
due None = at_once (λ end. end ≡ Err cause.Words)
due (Some (request.List ledger)) = list.due ledger
due (Some (request.Check ledger)) = check.due ledger
due (Some (request.Show file)) = show.due file
due (Some (request.Verify file)) = verify.due file
due (Some (request.Upgrade old new)) = upgrade.due (old, new)
due (Some (request.Run file ledger)) = run.due (file, ledger)
due (Some (request.Query ledger text)) = query.due (ledger, text)
due (Some (request.Compile text file bounds)) = compile.due (words_of text file bounds)
due (Some (request.Batch steps ledger files)) = batch.due (several.words_of steps ledger files)

-- what is due to the words
abbrev pub due_to : List Text → Due
due_to words = due (request_in words)
