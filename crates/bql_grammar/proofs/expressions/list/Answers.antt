use Rattle.std.proofs.Common.{arith, subst, sym}
use Rattle.theory.specs.Form.{Reads}
use Rattle.bql_grammar.specs.Expression.{literals, list}
use Rattle.bql_tree.specs.Part.{part_of, parts_of}
use Rattle.bql_grammar.proofs.ExpressionFacts.{stuck_in, gives_none}
use Rattle.bql_grammar.proofs.BeginningExpressions.{no_in_begun, no_list_begun, items_begun}
use Rattle.bql_grammar.proofs.BeginningExpressions.{list_not_shut_begun}
use Rattle.bql_grammar.proofs.DepthFacts.{no_list_opens, in_items, list_not_shut}
use Rattle.bql_grammar.proofs.ItemsFacts.{no_items, items_not_shut, list_read}
use Rattle.bql_grammar.proofs.expressions.list.Goals as goal

pub returns-in_default-after-2-clause-read : goal.returns-in_default-after-2-clause-read
returns-in_default-after-2-clause-read c =
    gives_none (list c.args.room (part_of c.args.left)) part_of c.args.tokens.now _
    (items_not_shut c.args.room (part_of c.args.left) c.args.tokens.now _ _ _ _
    (parts_of c.in-Ok.found.0) c.in-Ok.found.1.now c.in-Some.ensures.front
    c.in-Some-after.ensures.front c.in-Ok.ensures.read c.in_default-after-2.ensures.front)

pub returns-clause-read : goal.returns-clause-read
returns-clause-read c =
    subst (λ v. Reads (list c.args.room (part_of c.args.left)) c.args.tokens.now v
    c.in-Some-after-2.rest.now) (sym c.in_ok-value.ensures)
    (list_read c.args.room (part_of c.args.left) c.args.tokens.now _ _ _ _
    (parts_of c.in-Ok.found.0) c.in-Ok.found.1.now _ _ (omega (arith, c.if-room-eq0.false))
    c.in-Some.ensures.front c.in-Some-after.ensures.front c.in-Ok.ensures.read
    c.in-Some-after-2.ensures.front)

pub returns-in-Err-clause-read : goal.returns-in-Err-clause-read
returns-in-Err-clause-read c =
    stuck_in literals (list c.args.room (part_of c.args.left)) parts_of part_of
    c.in-Some-after.inside.now c.args.tokens.now c.in-Err.stuck
    (λ none. no_items c.args.room (part_of c.args.left) c.args.tokens.now _ _ _ _
    c.in-Some.ensures.front c.in-Some-after.ensures.front none) c.in-Err.ensures.read

pub returns-in_default-after-clause-inside : goal.returns-in_default-after-clause-inside
returns-in_default-after-clause-inside c =
    no_list_opens c.args.room c.args.tokens.now _ _ c.in-Some.ensures.front _
    c.before-in_default-after.ensures

pub returns-then-room-eq0-clause-inside : goal.returns-then-room-eq0-clause-inside
returns-then-room-eq0-clause-inside c =
    no_list_opens c.args.room c.args.tokens.now _ _ c.in-Some.ensures.front _
    c.before-then-room-eq0.ensures

pub returns-in-Err-clause-inside : goal.returns-in-Err-clause-inside
returns-in-Err-clause-inside c =
    in_items c.args.room c.args.tokens.now _ _ c.in-Some.ensures.front
    (λ none. omega (arith, c.if-room-eq0.false, none)) _ _ c.in-Some-after.ensures.front
    c.in-Err.stuck c.in-Err.ensures.inside

pub returns-in_default-after-2-clause-inside : goal.returns-in_default-after-2-clause-inside
returns-in_default-after-2-clause-inside c =
    list_not_shut c.args.room c.args.tokens.now _ _ c.in-Some.ensures.front
    (λ none. omega (arith, c.if-room-eq0.false, none)) _ _ c.in-Some-after.ensures.front
    (parts_of c.in-Ok.found.0) c.in-Ok.found.1.now _ c.before-in_default-after-2.ensures
    c.in-Ok.ensures.read

pub returns-in_default-clause-begun : goal.returns-in_default-clause-begun
returns-in_default-clause-begun c = λ scope.
    no_in_begun scope c.args.room (part_of c.args.left) c.args.tokens.now _ _
    c.before-in_default.ensures

pub returns-in_default-after-clause-begun : goal.returns-in_default-after-clause-begun
returns-in_default-after-clause-begun c = λ scope.
    no_list_begun scope c.args.room (part_of c.args.left) c.args.tokens.now _ _ _ _
    c.before-in_default-after.ensures c.in-Some.ensures.front

pub returns-then-room-eq0-clause-begun : goal.returns-then-room-eq0-clause-begun
returns-then-room-eq0-clause-begun c = λ scope.
    no_list_begun scope c.args.room (part_of c.args.left) c.args.tokens.now _ _ _ _
    c.before-then-room-eq0.ensures c.in-Some.ensures.front

pub returns-in-Err-clause-begun : goal.returns-in-Err-clause-begun
returns-in-Err-clause-begun c = λ scope.
    items_begun scope (part_of c.args.left) c.args.tokens.now _ _ _ _ c.in-Err.stuck
    c.in-Some.ensures.front c.in-Some-after.ensures.front c.args.room
    (λ none. omega (arith, c.if-room-eq0.false, none)) c.in-Err.ensures.begun

pub returns-in_default-after-2-clause-begun : goal.returns-in_default-after-2-clause-begun
returns-in_default-after-2-clause-begun c = λ scope.
    list_not_shut_begun scope (part_of c.args.left) c.args.tokens.now _ _ _ _ _
    c.in-Some.ensures.front c.in-Some-after.ensures.front c.args.room
    (λ none. omega (arith, c.if-room-eq0.false, none)) (parts_of c.in-Ok.found.0)
    c.in-Ok.found.1.now _ c.before-in_default-after-2.ensures c.in-Ok.ensures.read
