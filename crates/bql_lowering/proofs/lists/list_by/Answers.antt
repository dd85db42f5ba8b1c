use Rattle.bql_tree.specs.Tree.{trees_of}
use Rattle.bql_lowering.proofs.ListFacts.{few_texts, few_days, few_counts, all_counts}
use Rattle.bql_lowering.proofs.lists.list_by.Goals as goal

pub list_of_texts-requires-clause-few : goal.list_of_texts-requires-clause-few
list_of_texts-requires-clause-few c =
    few_texts c.args.places (trees_of c.args.members.now) c.requires

pub list_of_days-requires-clause-few : goal.list_of_days-requires-clause-few
list_of_days-requires-clause-few c =
    few_days c.args.places (trees_of c.args.members.now) c.requires

pub list_of_numbers-requires-clause-few : goal.list_of_numbers-requires-clause-few
list_of_numbers-requires-clause-few c =
    few_counts c.args.places (trees_of c.args.members.now) c.requires

pub list_of_numbers-requires-clause-counts : goal.list_of_numbers-requires-clause-counts
list_of_numbers-requires-clause-counts c =
    all_counts c.args.places (trees_of c.args.members.now) c.requires
