use Rattle.bean_parser.proofs.OneTree.{one_tree}
use Rattle.bean_parser.proofs.grammar.a_block_has_one_tree.Goals as goal

pub returns : goal.returns
returns c = one_tree
