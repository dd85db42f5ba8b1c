use Rattle.std.proofs.Common.{◌≡◌, map, take}
use Rattle.bean_book.proofs.entries.accounts_among.Given as goal

abbrev pub invariant-loop-one : goal.invariant-loop-one
invariant-loop-one l = l.names.items ≡ map (λ p. p.account) (take l.one-index l.posted)
