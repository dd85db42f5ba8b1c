use Rattle.std.proofs.Common.{ap, refl, true, map, List, ℕ, ◌≡◌, ◌∙◌, subst}
use Rattle.std.proofs.lemmas.Result.{IfOk-weaker}
use Rattle.clap.specs.Faults.{fault_of, is_simple_and_free}
use Rattle.clap.specs.Kinds.{FailsBy}
use Rattle.clap.specs.Simple.{is_simple, subcommand_of}
use Rattle.clap.specs.Words.{app_of}
use Rattle.clap.proofs.OnLiterals.{clap_on_literals}
use Rattle.requests.specs.Commands.{commands, program, with_commands}
use Rattle.requests.proofs.words.matches_of.Goals as goal

program_is_simple : is_simple program ≡ true
unfolding clap_on_literals
program_is_simple = refl

program_is_free : is_simple_and_free program ≡ true
unfolding clap_on_literals
program_is_free = refl

-- what was built is the program
command_is : (c : goal.After-try_get_matches_from) → app_of c.in_ok-command.command ≡ program
command_is c =
    c.in_ok-command.ensures ∙ ap (λ a. with_commands a commands) c.top.ensures

pub returns-clause-rows : goal.returns-clause-rows
returns-clause-rows c =
    let parse = c.try_get_matches_from in
    let words : List (List ℕ) = map (λ w. w.now) c.args.words.now in
    IfOk-weaker parse.result _ _
    (λ m h. (h (ap is_simple (command_is c) ∙ program_is_simple)).1
    ∙ ap (λ a. subcommand_of a words) (command_is c)) parse.ensures.matches

pub returns-clause-faults : goal.returns-clause-faults
returns-clause-faults c =
    let parse = c.try_get_matches_from in
    let words : List (List ℕ) = map (λ w. w.now) c.args.words.now in
    subst (λ a. FailsBy (fault_of a words) parse.result) (command_is c)
    (parse.ensures.kinds (ap is_simple_and_free (command_is c) ∙ program_is_free))
