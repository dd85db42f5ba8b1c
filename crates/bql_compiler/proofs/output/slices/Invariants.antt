use Rattle.std.proofs.Common.{◌≡◌, ◌++◌, drop, map}
use Rattle.bql_code.specs.Literals.{text_of}
use Rattle.bql_compiler.proofs.output.slices.Given as goal

-- what is there so far, with those that are left, is what is there in all
abbrev pub invariant-loop-text : goal.invariant-loop-text
invariant-loop-text l =
    l.list ++ map text_of (drop l.text-index l.texts) ≡ map text_of l.texts
