use Rattle.std.proofs.Common.{◌≡◌, take}
use Rattle.bean_accounts.proofs.currencies.copied.Given as goal

abbrev pub invariant-loop-currency : goal.invariant-loop-currency
invariant-loop-currency l = l.copied.items ≡ take l.currency-index l.currencies
