use Rattle.std.proofs.Common.{◌≡◌, ◌++◌, drop, map}
use Rattle.std.specs.List.{AllByRecursion}
use Rattle.bql_code.specs.Literals.{text_of}
use Rattle.bql_compiler.specs.Output.{HasShortName}
use Rattle.bql_parser.specs.View.{target_of}
use Rattle.bql_compiler.specs.Program.{target_name}
use Rattle.bql_compiler.proofs.output.names_of.Given as goal

-- what is there so far, with those that are left, is what is there in all
abbrev pub invariant-loop-target : goal.invariant-loop-target
invariant-loop-target l =
    AllByRecursion HasShortName (map target_of (drop l.target-index l.targets))
    × (map text_of l.names.items
    ++ map target_name (map target_of (drop l.target-index l.targets))
    ≡ map target_name (map target_of l.targets))
