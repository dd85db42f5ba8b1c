use Rattle.std.proofs.Common.{◌≡◌, ◌++◌, drop, map}
use Rattle.bql_code.specs.Literals.{text_of}
use Rattle.bql_parser.specs.Small.{AreSmallTrees}
use Rattle.bql_tree.specs.Tree.{trees_of}
use Rattle.bql_lowering.specs.Lowered as rule
use Rattle.bql_lowering.proofs.lists.texts_in.Given as goal

-- what is there so far, with those that are left, is what is there in all
abbrev pub invariant-loop-member : goal.invariant-loop-member
invariant-loop-member l =
    AreSmallTrees (trees_of (drop l.member-index l.members))
    × (map text_of l.texts
    ++ rule.each_in rule.text_in (trees_of (drop l.member-index l.members))
    ≡ rule.each_in rule.text_in (trees_of l.members))
