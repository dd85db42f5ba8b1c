-- What the words come to.
use Rattle.std.specs.Prelude.{◌≡◌, List, ⊤, Option, Some, None, Result, Ok, Err}
use Rattle.clap.specs.Walk.{Text}
use Rattle.requests.specs.Commands.{request_in}
use Rattle.requests.specs.declared.words.Request.{Request}
use Rattle.endings.specs.declared.refusal.Cause.TheVariants.{Words}
use Rattle.endings.specs.declared.refusal.Refusal.{Refusal}
use Rattle.endings.specs.declared.refusal.Refusal.TheVariants.{OutOfMemory, Refused}

-- where nothing is asked for, the words are refused
abbrev pub asked_or_refused : Option Request → Result Request Refusal
asked_or_refused (Some request) = Ok request
asked_or_refused None = Err (Refused Words)

-- what the words ask for; those that ask for nothing are refused
abbrev pub AskFor : List Text → Result Request Refusal → Type 0
AskFor words (Ok request) = request_in words ≡ Some request
AskFor words (Err (Refused Words)) = request_in words ≡ None
AskFor words (Err OutOfMemory) = ⊤
AskFor words _ = ⊥
