use Rattle.std.proofs.Common.{true, cond, arith, ◌∙◌}
use Rattle.std.specs.Str.{bytes_eq}
use Rattle.indexmap.specs.IndexSet.{contains}
use Rattle.bean_accounts.proofs.CurrencyFacts.{one_more}
use Rattle.bean_accounts.proofs.currencies.CurrencyTable.of.Goals as goal

pub loop-currency-preserved : goal.loop-currency-preserved
loop-currency-preserved c = λ d.
    let k = c.currency-item.result in
    one_more c.args.currencies.now c.loop-currency.currency-index k d
    (contains bytes_eq c.loop-currency.table d) (contains bytes_eq c.insert.new.self d) (omega arith)
    c.currency-item.is
    (c.in_ok-insert.ensures.updates.0 d
    ∙ (λ i. cond (bytes_eq (c.lend.ensures i) d) true (contains bytes_eq c.loop-currency.table d)))
    (c.loop-currency.invariant d)
