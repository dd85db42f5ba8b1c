use Rattle.std.proofs.Common.{refl, sym, ap, ◌∙◌}
use Rattle.bql_types.specs.Cause.{told}
use Rattle.bql_types.specs.Sought.{balances, all_balances}
use Rattle.bql_types.proofs.CauseFacts.{is_call, one_less}
use Rattle.bql_types.proofs.balances.+balances.Goals as goal

pub balances-returns-in-Call : goal.balances-returns-in-Call
balances-returns-in-Call t c =
    let m = c.in-Call in
    c.all_balances.ensures
    ∙ sym (ap (λ z. told c.args.found (balances z))
    (is_call c.args.e.now m.field-0 m.field-1 m.xs c.deref-in-Call.result.now m.is
    c.deref-in-Call.ensures.value))

pub all_balances-loop-e-preserved : goal.all_balances-loop-e-preserved
all_balances-loop-e-preserved t c =
    one_less balances all_balances (λ t ts. refl) c.args.es.now c.loop-e.e-index c.e-item.result
    c.loop-e.found c.balances-found.result _ c.loop-e-test.true c.e-item.is c.balances-found.ensures
    c.loop-e.invariant
