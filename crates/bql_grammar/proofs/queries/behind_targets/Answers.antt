use Rattle.std.proofs.Common.{refl, Err}
use Rattle.theory.proofs.FormFacts.{reads_made}
use Rattle.bql_lexer.specs.declared.kind.Kind.TheVariants as kind
use Rattle.bql_grammar.proofs.FormFacts.{reads_then}
use Rattle.bql_grammar.specs.Grammar.{filters, items_by, order, limit, behind_filters}
use Rattle.bql_grammar.specs.Grammar.{behind_group, behind_order, in_select}
use Rattle.bql_grammar.specs.Read.{same, filters_of, group_of, order_of, targets_of, select_of}
use Rattle.bql_grammar.specs.Stopping.{IsClear}
use Rattle.bql_grammar.proofs.MovingFacts.{filters_move, items_by_moves, order_moves}
use Rattle.bql_grammar.proofs.LackingFacts.{lacks_made, lacks_behind_filters, lacks_behind_group, lacks_behind_order}
use Rattle.bql_grammar.proofs.ClauseFacts.{stuck_first, gives_then, clear_before}
use Rattle.bql_grammar.proofs.queries.behind_targets.Goals as goal

pub returns-in-Err : goal.returns-in-Err
returns-in-Err c =
    stuck_first IsClear filters (behind_filters c.args.distinct (targets_of c.args.targets)) filters_of
    select_of c.args.tokens.now c.in-Err.stuck (λ rest. refl)
    (lacks_behind_filters c.args.distinct (targets_of c.args.targets)) c.in-Err.ensures

pub returns-in-Err-items_by : goal.returns-in-Err-items_by
returns-in-Err-items_by c =
    let shown = targets_of c.args.targets in
    let fs = filters_of c.in-Ok.found.0 in
    gives_then IsClear IsClear filters (behind_filters c.args.distinct shown) select_of
    c.args.tokens.now fs
    c.in-Ok.found.1.now (Err c.in-Err-items_by.stuck) (λ rest. refl) (λ v rest. refl)
    (lacks_behind_filters c.args.distinct shown) filters_move c.in-Ok.ensures
    (stuck_first IsClear (items_by kind.Group) (behind_group c.args.distinct shown fs) group_of
    select_of c.in-Ok.found.1.now c.in-Err-items_by.stuck (λ rest. refl)
    (lacks_behind_group c.args.distinct shown fs)
    (clear_before kind.Group refl (items_by kind.Group) group_of c.in-Ok.found.1.now _
    c.in-Err-items_by.ensures))

pub returns-in-Err-order : goal.returns-in-Err-order
returns-in-Err-order c =
    let shown = targets_of c.args.targets in
    let fs = filters_of c.in-Ok.found.0 in
    let group = group_of c.in-Ok-items_by.found.0 in
    gives_then IsClear IsClear filters (behind_filters c.args.distinct shown) select_of
    c.args.tokens.now fs
    c.in-Ok.found.1.now (Err c.in-Err-order.stuck) (λ rest. refl) (λ v rest. refl)
    (lacks_behind_filters c.args.distinct shown) filters_move c.in-Ok.ensures
    (gives_then IsClear IsClear (items_by kind.Group) (behind_group c.args.distinct shown fs)
    select_of c.in-Ok.found.1.now group c.in-Ok-items_by.found.1.now (Err c.in-Err-order.stuck)
    (λ rest. refl) (λ v rest. refl) (lacks_behind_group c.args.distinct shown fs)
    (items_by_moves kind.Group refl) c.in-Ok-items_by.ensures
    (stuck_first IsClear order (behind_order c.args.distinct shown fs group) order_of select_of
    c.in-Ok-items_by.found.1.now c.in-Err-order.stuck (λ rest. refl)
    (lacks_behind_order c.args.distinct shown fs group)
    c.in-Err-order.ensures))

pub returns-in-Err-limit : goal.returns-in-Err-limit
returns-in-Err-limit c =
    let shown = targets_of c.args.targets in
    let fs = filters_of c.in-Ok.found.0 in
    let group = group_of c.in-Ok-items_by.found.0 in
    let ordered = order_of c.in-Ok-order.found.0 in
    gives_then IsClear IsClear filters (behind_filters c.args.distinct shown) select_of
    c.args.tokens.now fs
    c.in-Ok.found.1.now (Err c.in-Err-limit.stuck) (λ rest. refl) (λ v rest. refl)
    (lacks_behind_filters c.args.distinct shown) filters_move c.in-Ok.ensures
    (gives_then IsClear IsClear (items_by kind.Group) (behind_group c.args.distinct shown fs)
    select_of c.in-Ok.found.1.now group c.in-Ok-items_by.found.1.now (Err c.in-Err-limit.stuck)
    (λ rest. refl) (λ v rest. refl) (lacks_behind_group c.args.distinct shown fs)
    (items_by_moves kind.Group refl) c.in-Ok-items_by.ensures
    (gives_then IsClear IsClear order (behind_order c.args.distinct shown fs group) select_of
    c.in-Ok-items_by.found.1.now ordered c.in-Ok-order.found.1.now
    (Err c.in-Err-limit.stuck) (λ rest. refl) (λ v rest. refl)
    (lacks_behind_order c.args.distinct shown fs group) order_moves c.in-Ok-order.ensures
    (stuck_first IsClear limit (in_select c.args.distinct shown fs group ordered) same select_of
    c.in-Ok-order.found.1.now c.in-Err-limit.stuck (λ rest. refl) (λ n. lacks_made _)
    c.in-Err-limit.ensures)))

pub returns : goal.returns
returns c =
    let shown = targets_of c.args.targets in
    let fs = filters_of c.in-Ok.found.0 in
    let group = group_of c.in-Ok-items_by.found.0 in
    let ordered = order_of c.in-Ok-order.found.0 in
    let rest = c.in-Ok-limit.found.1.now in
    reads_then filters (behind_filters c.args.distinct shown) c.args.tokens.now fs
    c.in-Ok.found.1.now _ rest (λ rest. refl) (λ v rest. refl)
    c.in-Ok.ensures
    (reads_then (items_by kind.Group) (behind_group c.args.distinct shown fs)
    c.in-Ok.found.1.now group c.in-Ok-items_by.found.1.now _ rest (λ rest. refl)
    (λ v rest. refl) c.in-Ok-items_by.ensures
    (reads_then order (behind_order c.args.distinct shown fs group)
    c.in-Ok-items_by.found.1.now ordered c.in-Ok-order.found.1.now _ rest (λ rest. refl)
    (λ v rest. refl) c.in-Ok-order.ensures
    (reads_then limit (in_select c.args.distinct shown fs group ordered)
    c.in-Ok-order.found.1.now c.in-Ok-limit.found.0 rest _ rest (λ rest. refl)
    (λ v rest. refl) c.in-Ok-limit.ensures (reads_made _ rest))))
