use Rattle.std.proofs.Common.{◌≡◌, ◌++◌, take}
use Rattle.bean_transactions.specs.Tried.{filled_at}
use Rattle.bean_transactions.proofs.completed.push_filled.Given as goal

abbrev pub invariant-loop-fill : goal.invariant-loop-fill
invariant-loop-fill l =
    l.posted.items
    ≡ l.initial.posted.items ++ filled_at (take l.fill-index l.fills) l.line l.account l.written
