use Rattle.std.proofs.Common.{◌≡◌, drop}
use Rattle.clap.specs.Words.{app_of}
use Rattle.requests.specs.Commands as spec
use Rattle.requests.proofs.words.with_commands.Given as goal

-- what is there so far, with those that are left, is what is there in all
abbrev pub invariant-loop-name : goal.invariant-loop-name
invariant-loop-name l =
    spec.with_commands (app_of l.words) (drop l.name-index l.names)
    ≡ spec.with_commands (app_of l.fn.words) l.names
