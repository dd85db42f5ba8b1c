use Rattle.std.proofs.Common.{◌≡◌, drop}
use Rattle.std.specs.List.{list_all}
use Rattle.posting_table.proofs.FitFacts.{row_fits}
use Rattle.posting_table.proofs.bounded.lists_fit.Given as goal

abbrev pub invariant-loop-list : goal.invariant-loop-list
invariant-loop-list l =
    list_all (list_all (row_fits l.bounds)) l.lists
    ≡ list_all (list_all (row_fits l.bounds)) (drop l.list-index l.lists)
