use Rattle.std.specs.Prelude.{IfErr}
use Rattle.std.proofs.Common.{◌-◌, arith, refl, subst, sym, ◌∙◌}
use Rattle.theory.specs.Form.{Reads, snoc}
use Rattle.theory.proofs.RowFacts.{InRow}
use Rattle.bql_lexer.specs.declared.kind.Kind.TheVariants as kind
use Rattle.bql_tree.specs.Part.{part_of, parts_of}
use Rattle.bql_tree.specs.declared.level.Level.TheVariants as level
use Rattle.bql_tree.proofs.CallFacts.{parts_more}
use Rattle.bql_grammar.specs.Expression.{chain_at, operand, comparison, negation, unary, atom}
use Rattle.bql_grammar.specs.Beginning.{IsBegun}
use Rattle.bql_grammar.specs.Expression.{grouped, call, arguments, behind_comma, literal, counted}
use Rattle.bql_grammar.specs.Expression.{compared_if_due}
use Rattle.bql_grammar.specs.Front as fronts
use Rattle.bql_grammar.specs.Front.{of_kind}
use Rattle.bql_grammar.specs.Gives.{Gives}
use Rattle.bql_grammar.specs.Nesting as nesting
use Rattle.bql_grammar.specs.Nesting.{IsInside, IsInsideList, bound, all, enclosing}
use Rattle.bql_grammar.proofs.ArgumentsFacts.{begins_where, literal_where, no_argument}
use Rattle.bql_grammar.proofs.ArgumentsFacts.{none_in_arguments, arguments_read}
use Rattle.bql_grammar.proofs.AtomFacts.{literal_atom, group_atom, name_atom, none_in_group}
use Rattle.bql_grammar.proofs.AtomFacts.{not_shut, group_read, counted_call, no_arguments}
use Rattle.bql_grammar.proofs.AtomFacts.{call_not_shut, call_read}
use Rattle.bql_grammar.proofs.ComparisonFacts.{no_sum, compared_none, compared_read, matched_none}
use Rattle.bql_grammar.proofs.ComparisonFacts.{matched_read, listed_as, contained_none}
use Rattle.bql_grammar.proofs.ComparisonFacts.{contained_read, plain_read}
use Rattle.bql_grammar.proofs.ExpressionFacts.{rows, links, another, joined, stuck_in, gives_none}
use Rattle.bql_grammar.proofs.ExpressionFacts.{list_begins, list_goes_on, operand_ends, no_chain}
use Rattle.bql_grammar.proofs.ExpressionFacts.{chain_begins, chain_goes_on, none_in_chain}
use Rattle.bql_grammar.proofs.ExpressionFacts.{chain_is_read, undenied, no_room_for_not}
use Rattle.bql_grammar.proofs.ExpressionFacts.{none_behind_not, denied_read, unsigned}
use Rattle.bql_grammar.proofs.ExpressionFacts.{no_room_for_sign, none_behind_sign, signed_read}
use Rattle.bql_grammar.proofs.AgainExpressions.{operand_repeats, chain_repeats}
use Rattle.bql_grammar.proofs.BeginningFacts.{first_in_chain, next_in_chain, first_in_list}
use Rattle.bql_grammar.proofs.BeginningFacts.{next_in_list}
use Rattle.bql_grammar.proofs.BeginningExpressions.{undenied_begun, no_room_begun, denied_begun}
use Rattle.bql_grammar.proofs.BeginningExpressions.{unsigned_begun, no_room_to_sign, signed_begun}
use Rattle.bql_grammar.proofs.BeginningExpressions.{sum_begun, behind_sum, compared_begun}
use Rattle.bql_grammar.proofs.BeginningExpressions.{no_pattern_begun, contained_begun}
use Rattle.bql_grammar.proofs.BeginningExpressions.{literal_begun, no_atom_begun, group_begun}
use Rattle.bql_grammar.proofs.BeginningExpressions.{group_not_shut_begun, name_begun, counted_begun}
use Rattle.bql_grammar.proofs.BeginningExpressions.{call_begun, call_not_shut_begun}
use Rattle.bql_grammar.proofs.BeginningExpressions.{arguments_begun}
use Rattle.bql_grammar.proofs.DepthFacts as depth
use Rattle.bql_grammar.proofs.DepthFacts.{in_chain, in_not, in_sign, in_compared, no_pattern}
use Rattle.bql_grammar.proofs.DepthFacts.{in_contained, in_group, group_not_shut, call_too_deep}
use Rattle.bql_grammar.proofs.DepthFacts.{in_call, in_list, in_listed, inside_looser, same_if_err}
use Rattle.bql_grammar.proofs.FormFacts.{absent}
use Rattle.bql_grammar.proofs.ItemsFacts.{parts_first}
use Rattle.bql_grammar.proofs.PassingFacts.{any_chain}
use Rattle.bql_grammar.proofs.StandingFacts.{no_signs_either}
use Rattle.bql_grammar.proofs.expressions.+expression.Goals as goal

-- Chains.

pub chain-returns-in-Err-clause-read : goal.chain-returns-in-Err-clause-read
chain-returns-in-Err-clause-read t c =
    let a = operand c.args.level c.args.scope c.args.room in
    stuck_in a (chain_at c.args.level c.args.scope c.args.room) part_of part_of c.args.tokens.now
    c.args.tokens.now c.in-Err.stuck
    (no_chain c.args.level a (operand_ends c.args.level c.args.scope c.args.room)
    c.args.tokens.now)
    c.in-Err.ensures.read

pub chain-loop-operator-init : goal.chain-loop-operator-init
chain-loop-operator-init t c = record {
  shorter = c.in-Ok.ensures.shorter;
  read = chain_begins c.args.level (operand c.args.level c.args.scope c.args.room)
      (operand_ends c.args.level c.args.scope c.args.room) c.args.tokens.now _ _
      c.in-Ok.ensures.read;
}

pub chain-returns-in-Err-operand-clause-read : goal.chain-returns-in-Err-operand-clause-read
chain-returns-in-Err-operand-clause-read t c =
    let a = operand c.args.level c.args.scope c.args.room in
    stuck_in a (chain_at c.args.level c.args.scope c.args.room) part_of part_of
    c.in-Some.after.now c.args.tokens.now c.in-Err-operand.stuck
    (λ none. none_in_chain c.args.level a
    (operand_ends c.args.level c.args.scope c.args.room) c.args.tokens.now
    (part_of c.loop-operator.value) c.loop-operator.rest.now c.in-Some.after.now
    c.in-Some.operator c.loop-operator.invariant.read c.in-Some.ensures.front none)
    c.in-Err-operand.ensures.read

pub chain-loop-operator-preserved : goal.chain-loop-operator-preserved
chain-loop-operator-preserved t c =
    let a = operand c.args.level c.args.scope c.args.room in
    record {
      shorter = omega (
        arith,
        c.in-Some.ensures.shorter,
        c.in-Ok-operand.ensures.shorter,
        c.loop-operator.invariant.shorter,
      );
      read = subst
          (λ v. InRow (links c.args.level a) (another c.args.level a) joined c.args.tokens.now v
          c.in-Ok-operand.found.1.now)
          (sym c.in_ok-value.ensures)
          (chain_goes_on c.args.level a (operand_ends c.args.level c.args.scope c.args.room)
          c.args.tokens.now _ _ _ _ _ _ c.loop-operator.invariant.read c.in-Some.ensures.front
          c.in-Ok-operand.ensures.read);
    }

pub chain-returns-clause-read : goal.chain-returns-clause-read
chain-returns-clause-read t c =
    chain_is_read c.args.level (operand c.args.level c.args.scope c.args.room)
    (operand_ends c.args.level c.args.scope c.args.room) c.args.tokens.now _ _
    c.loop-operator.invariant.read c.in_default.ensures.front

pub operand-returns-in-Or-clause-read : goal.operand-returns-in-Or-clause-read
operand-returns-in-Or-clause-read t c =
    subst (λ l. Gives (operand l c.args.scope c.args.room) part_of c.args.tokens.now
    c.chain.result)
    (sym c.in-Or.is) c.chain.ensures.read

pub operand-returns-in-Sum-clause-read : goal.operand-returns-in-Sum-clause-read
operand-returns-in-Sum-clause-read t c =
    subst (λ l. Gives (operand l c.args.scope c.args.room) part_of c.args.tokens.now
    c.chain-in-Sum.result)
    (sym c.in-Sum.is) c.chain-in-Sum.ensures.read

-- Negations.

pub negation-returns-in_default-clause-read : goal.negation-returns-in_default-clause-read
negation-returns-in_default-clause-read t c =
    undenied c.args.scope c.args.room part_of c.args.tokens.now c.comparison.result
    c.in_default.ensures.front c.comparison.ensures.read

pub negation-returns-then-room-eq0-clause-read : goal.negation-returns-then-room-eq0-clause-read
negation-returns-then-room-eq0-clause-read t c =
    gives_none (negation c.args.scope c.args.room) part_of c.args.tokens.now _
    (no_room_for_not c.args.scope c.args.room c.args.tokens.now
    (c.in-Some.not.now, c.in-Some.behind.now) c.in-Some.ensures.front
    (omega (arith, c.if-room-eq0.true)))

pub negation-returns-in-Err-clause-read : goal.negation-returns-in-Err-clause-read
negation-returns-in-Err-clause-read t c =
    stuck_in (negation c.args.scope (c.args.room - 1)) (negation c.args.scope c.args.room)
    part_of part_of c.in-Some.behind.now c.args.tokens.now c.in-Err.stuck
    (λ none. none_behind_not c.args.scope c.args.room c.args.tokens.now _ _
    c.in-Some.ensures.front none)
    c.in-Err.ensures.read

pub negation-returns-clause-read : goal.negation-returns-clause-read
negation-returns-clause-read t c =
    subst (λ v. Reads (negation c.args.scope c.args.room) c.args.tokens.now v
    c.in-Ok.found.1.now)
    (sym c.in_ok-value.ensures)
    (denied_read c.args.scope c.args.room c.args.tokens.now _ _ _ _ c.in-Some.ensures.front
    (omega (arith, c.if-room-eq0.false)) c.in-Ok.ensures.read)

-- Comparisons.

pub comparison-returns-in-Err-clause-read : goal.comparison-returns-in-Err-clause-read
comparison-returns-in-Err-clause-read t c =
    stuck_in (chain_at level.Sum c.args.scope c.args.room) (comparison c.args.scope c.args.room)
    part_of part_of c.args.tokens.now c.args.tokens.now c.in-Err.stuck
    (no_sum c.args.scope c.args.room c.args.tokens.now) c.in-Err.ensures.read

pub comparison-returns-in-Err-chain-clause-read : goal.comparison-returns-in-Err-chain-clause-read
comparison-returns-in-Err-chain-clause-read t c =
    stuck_in (chain_at level.Sum c.args.scope c.args.room) (comparison c.args.scope c.args.room)
    part_of part_of c.in-Some.behind.now c.args.tokens.now c.in-Err-chain.stuck
    (λ none. compared_none c.args.scope c.args.room c.args.tokens.now _ _ _ _
    c.in-Ok.ensures.read c.in-Some.ensures.front none)
    c.in-Err-chain.ensures.read

pub comparison-returns-in-Some-clause-read : goal.comparison-returns-in-Some-clause-read
comparison-returns-in-Some-clause-read t c =
    subst (λ v. Reads (comparison c.args.scope c.args.room) c.args.tokens.now v
    c.in-Ok-chain.found.1.now)
    (sym c.in_ok-value.ensures)
    (compared_read c.args.scope c.args.room c.args.tokens.now _ _ _ _ _ _ c.in-Ok.ensures.read
    c.in-Some.ensures.front c.in-Ok-chain.ensures.read)

pub comparison-returns-in_default-after-2-clause-read :
    goal.comparison-returns-in_default-after-2-clause-read
comparison-returns-in_default-after-2-clause-read t c =
    gives_none (comparison c.args.scope c.args.room) part_of c.args.tokens.now _
    (matched_none c.args.scope c.args.room c.args.tokens.now _ _ _ _ c.in-Ok.ensures.read
    c.in_default.ensures.front c.in-Some-after.ensures.front
    c.in_default-after-2.ensures.front)

pub comparison-returns-in-Some-after-clause-read :
    goal.comparison-returns-in-Some-after-clause-read
comparison-returns-in-Some-after-clause-read t c =
    subst (λ v. Reads (comparison c.args.scope c.args.room) c.args.tokens.now v
    c.in-Some-after-2.rest.now)
    (sym c.in_ok-value-2.ensures)
    (matched_read c.args.scope c.args.room c.args.tokens.now _ _ _ _ _ _ c.in-Ok.ensures.read
    c.in_default.ensures.front c.in-Some-after.ensures.front c.in-Some-after-2.ensures.front)

pub comparison-returns-then-begins_with_list-clause-read :
    goal.comparison-returns-then-begins_with_list-clause-read
comparison-returns-then-begins_with_list-clause-read t c =
    listed_as c.args.scope c.args.room part_of c.args.tokens.now (part_of c.in-Ok.found.0)
    c.in-Ok.found.1.now c.list.result c.in-Ok.ensures.read c.in_default.ensures.front
    c.in_default-after.ensures.front (sym c.if-begins_with_list.ensures) c.list.ensures.read

pub comparison-returns-in-Err-chain-2-clause-read :
    goal.comparison-returns-in-Err-chain-2-clause-read
comparison-returns-in-Err-chain-2-clause-read t c =
    stuck_in (chain_at level.Sum c.args.scope c.args.room) (comparison c.args.scope c.args.room)
    part_of part_of c.in-Some-after-3.behind.now c.args.tokens.now c.in-Err-chain-2.stuck
    (λ none. contained_none c.args.scope c.args.room c.args.tokens.now _ _ _ _
    c.in-Ok.ensures.read c.in_default.ensures.front c.in_default-after.ensures.front
    (sym c.if-begins_with_list.ensures) c.in-Some-after-3.ensures.front none)
    c.in-Err-chain-2.ensures.read

pub comparison-returns-in-Some-after-3-clause-read :
    goal.comparison-returns-in-Some-after-3-clause-read
comparison-returns-in-Some-after-3-clause-read t c =
    subst (λ v. Reads (comparison c.args.scope c.args.room) c.args.tokens.now v
    c.in-Ok-chain-2.found.1.now)
    (sym c.in_ok-value-3.ensures)
    (contained_read c.args.scope c.args.room c.args.tokens.now _ _ _ _ _ _
    c.in-Ok.ensures.read c.in_default.ensures.front c.in_default-after.ensures.front
    (sym c.if-begins_with_list.ensures) c.in-Some-after-3.ensures.front
    c.in-Ok-chain-2.ensures.read)

pub comparison-returns-clause-read : goal.comparison-returns-clause-read
comparison-returns-clause-read t c =
    plain_read c.args.scope c.args.room c.args.tokens.now _ _ c.in-Ok.ensures.read
    c.in_default.ensures.front c.in_default-after.ensures.front
    (sym c.if-begins_with_list.ensures) c.in_default-after-3.ensures.front

-- Signs.

pub unary-returns-in_default-clause-read : goal.unary-returns-in_default-clause-read
unary-returns-in_default-clause-read t c =
    unsigned c.args.scope c.args.room part_of c.args.tokens.now c.atom.result
    c.in_default.ensures.front c.atom.ensures.read

pub unary-returns-then-room-eq0-clause-read : goal.unary-returns-then-room-eq0-clause-read
unary-returns-then-room-eq0-clause-read t c =
    gives_none (unary c.args.scope c.args.room) part_of c.args.tokens.now _
    (no_room_for_sign c.args.scope c.args.room c.args.tokens.now
    ((c.in-Some.sign.now, c.in-Some.is_minus), c.in-Some.behind.now) c.in-Some.ensures.front
    (omega (arith, c.if-room-eq0.true)))

pub unary-returns-in-Err-clause-read : goal.unary-returns-in-Err-clause-read
unary-returns-in-Err-clause-read t c =
    stuck_in (unary c.args.scope (c.args.room - 1)) (unary c.args.scope c.args.room)
    part_of part_of c.in-Some.behind.now c.args.tokens.now c.in-Err.stuck
    (λ none. none_behind_sign c.args.scope c.args.room c.args.tokens.now
    (c.in-Some.sign.now, c.in-Some.is_minus) _ c.in-Some.ensures.front none)
    c.in-Err.ensures.read

pub unary-returns-clause-read : goal.unary-returns-clause-read
unary-returns-clause-read t c =
    subst (λ v. Reads (unary c.args.scope c.args.room) c.args.tokens.now v c.in-Ok.found.1.now)
    (sym c.in_ok-value.ensures)
    (signed_read c.args.scope c.args.room c.args.tokens.now
    (c.in-Some.sign.now, c.in-Some.is_minus) _ _ _ c.in-Some.ensures.front
    (omega (arith, c.if-room-eq0.false)) c.in-Ok.ensures.read)

-- Atoms.

pub atom-returns-then-is_some-clause-read : goal.atom-returns-then-is_some-clause-read
atom-returns-then-is_some-clause-read t c =
    literal_atom c.args.scope c.args.room part_of c.args.tokens.now c.literal.result
    (sym (literal_where fronts.literal c.args.tokens.now c.after_literal.result
    c.after_literal.ensures.front) ∙ sym c.if-is_some.ensures)
    c.literal.ensures.read

pub atom-returns-then-is_some-2-clause-read : goal.atom-returns-then-is_some-2-clause-read
atom-returns-then-is_some-2-clause-read t c =
    group_atom c.args.scope c.args.room part_of c.args.tokens.now c.grouped.result
    (sym (literal_where fronts.literal c.args.tokens.now c.after_literal.result
    c.after_literal.ensures.front) ∙ sym c.if-is_some.ensures)
    (sym (begins_where (of_kind kind.OpenParenthesis) c.args.tokens.now c.after.result
    c.after.ensures.front) ∙ sym c.if-is_some-2.ensures)
    c.grouped.ensures.read

pub atom-returns-clause-read : goal.atom-returns-clause-read
atom-returns-clause-read t c =
    subst (λ v. Reads (atom c.args.scope c.args.room) c.args.tokens.now v c.in-Some.rest.now)
    (sym c.in_ok-value.ensures)
    (name_atom c.args.scope c.args.room c.args.tokens.now _ _
    (sym (literal_where fronts.literal c.args.tokens.now c.after_literal.result
    c.after_literal.ensures.front) ∙ sym c.if-is_some.ensures)
    (sym (begins_where (of_kind kind.OpenParenthesis) c.args.tokens.now c.after.result
    c.after.ensures.front) ∙ sym c.if-is_some-2.ensures)
    (sym c.if-begins_with_call.ensures) c.in-Some.ensures.front)

-- Groups.

pub grouped-returns-in-Err-clause-read : goal.grouped-returns-in-Err-clause-read
grouped-returns-in-Err-clause-read t c =
    stuck_in (chain_at level.Or c.args.scope (c.args.room - 1))
    (grouped c.args.scope c.args.room) part_of part_of c.in-Some.behind.now
    c.args.tokens.now c.in-Err.stuck
    (λ none. none_in_group c.args.scope c.args.room c.args.tokens.now _ _
    c.in-Some.ensures.front none)
    c.in-Err.ensures.read

pub grouped-returns-in_default-after-clause-read :
    goal.grouped-returns-in_default-after-clause-read
grouped-returns-in_default-after-clause-read t c =
    gives_none (grouped c.args.scope c.args.room) part_of c.args.tokens.now _
    (not_shut c.args.scope c.args.room c.args.tokens.now _ _ _ _ c.in-Some.ensures.front
    c.in-Ok.ensures.read c.in_default-after.ensures.front)

pub grouped-returns-clause-read : goal.grouped-returns-clause-read
grouped-returns-clause-read t c =
    subst (λ v. Reads (grouped c.args.scope c.args.room) c.args.tokens.now v
    c.in-Some-after.rest.now)
    (sym c.group.ensures)
    (group_read c.args.scope c.args.room c.args.tokens.now _ _ _ _ _ _
    (omega (arith, c.if-room-eq0.false)) c.in-Some.ensures.front c.in-Ok.ensures.read
    c.in-Some-after.ensures.front)

-- Calls.

pub call-returns-then-begins_with_count-clause-read :
    goal.call-returns-then-begins_with_count-clause-read
call-returns-then-begins_with_count-clause-read t c =
    counted_call c.args.scope c.args.room part_of c.args.tokens.now c.in-Some.name.now
    c.in-Some.behind.now c.in-Some-after.field-0-0.now c.in-Some-after.inside.now
    c.counted.result (omega (arith, c.if-room-eq0.false)) c.in-Some.ensures.front
    c.in-Some-after.ensures.front (sym c.if-begins_with_count.ensures) c.counted.ensures.read

pub call-returns-in-Err-clause-read : goal.call-returns-in-Err-clause-read
call-returns-in-Err-clause-read t c =
    stuck_in (arguments c.args.scope (c.args.room - 1)) (call c.args.scope c.args.room)
    parts_of part_of c.in-Some-after.inside.now c.args.tokens.now c.in-Err.stuck
    (λ none. no_arguments c.args.scope c.args.room c.args.tokens.now _ _ _ _
    c.in-Some.ensures.front c.in-Some-after.ensures.front
    (sym c.if-begins_with_count.ensures) none)
    c.in-Err.ensures.read

pub call-returns-in_default-after-2-clause-read : goal.call-returns-in_default-after-2-clause-read
call-returns-in_default-after-2-clause-read t c =
    gives_none (call c.args.scope c.args.room) part_of c.args.tokens.now _
    (call_not_shut c.args.scope c.args.room c.args.tokens.now _ _ _ _
    (parts_of c.in-Ok.found.0) c.in-Ok.found.1.now c.in-Some.ensures.front
    c.in-Some-after.ensures.front (sym c.if-begins_with_count.ensures) c.in-Ok.ensures.read
    c.in_default-after-2.ensures.front)

pub call-returns-clause-read : goal.call-returns-clause-read
call-returns-clause-read t c =
    subst (λ v. Reads (call c.args.scope c.args.room) c.args.tokens.now v
    c.in-Some-after-2.rest.now)
    (sym c.in_ok-value.ensures)
    (call_read c.args.scope c.args.room c.args.tokens.now _ _ _ _ (parts_of c.in-Ok.found.0)
    c.in-Ok.found.1.now _ _ (omega (arith, c.if-room-eq0.false)) c.in-Some.ensures.front
    c.in-Some-after.ensures.front (sym c.if-begins_with_count.ensures) c.in-Ok.ensures.read
    c.in-Some-after-2.ensures.front)

-- Arguments.

pub arguments-returns-in-Err-clause-read : goal.arguments-returns-in-Err-clause-read
arguments-returns-in-Err-clause-read t c =
    stuck_in (chain_at level.Or c.args.scope c.args.room) (arguments c.args.scope c.args.room)
    part_of parts_of c.args.tokens.now c.args.tokens.now c.in-Err.stuck
    (no_argument c.args.scope c.args.room c.args.tokens.now
    (sym (begins_where (of_kind kind.CloseParenthesis) c.args.tokens.now c.after.result
    c.after.ensures.front) ∙ sym c.if-is_some.ensures))
    c.in-Err.ensures.read

pub arguments-loop-behind-init : goal.arguments-loop-behind-init
arguments-loop-behind-init t c =
    let or = chain_at level.Or c.args.scope c.args.room in
    record {
      shorter = c.in-Ok.ensures.shorter;
      read = subst (λ vs. InRow (rows or) (behind_comma or) snoc c.args.tokens.now vs
          c.in-Ok.found.1.now)
          (sym (parts_first c.new-parts.result.items c.in-Ok.found.0 c.push.new.self.items
          c.new-parts.ensures.items c.in_ok-push.ensures.items))
          (list_begins or (λ rest. refl) c.args.tokens.now _ _ c.in-Ok.ensures.read);
    }

pub arguments-returns-in-Err-chain-clause-read : goal.arguments-returns-in-Err-chain-clause-read
arguments-returns-in-Err-chain-clause-read t c =
    stuck_in (chain_at level.Or c.args.scope c.args.room) (arguments c.args.scope c.args.room)
    part_of parts_of c.in-Some.behind.now c.args.tokens.now c.in-Err-chain.stuck
    (λ none. none_in_arguments c.args.scope c.args.room c.args.tokens.now _ _ _ _
    (sym (begins_where (of_kind kind.CloseParenthesis) c.args.tokens.now c.after.result
    c.after.ensures.front) ∙ sym c.if-is_some.ensures)
    c.loop-behind.invariant.read c.in-Some.ensures.front none)
    c.in-Err-chain.ensures.read

pub arguments-loop-behind-preserved : goal.arguments-loop-behind-preserved
arguments-loop-behind-preserved t c =
    let or = chain_at level.Or c.args.scope c.args.room in
    record {
      shorter = omega (
        arith,
        c.in-Some.ensures.shorter,
        c.in-Ok-chain.ensures.shorter,
        c.loop-behind.invariant.shorter,
      );
      read = subst (λ vs. InRow (rows or) (behind_comma or) snoc c.args.tokens.now vs
          c.in-Ok-chain.found.1.now)
          (sym (parts_more c.loop-behind.parts.items c.in-Ok-chain.found.0
          c.push-in-Some.new.self.items c.in_ok-push-2.ensures.items))
          (list_goes_on or (λ rest. refl) c.args.tokens.now _ _ _ _ _ _
          c.loop-behind.invariant.read c.in-Some.ensures.front c.in-Ok-chain.ensures.read);
    }

pub arguments-returns-clause-read : goal.arguments-returns-clause-read
arguments-returns-clause-read t c =
    arguments_read c.args.scope c.args.room c.args.tokens.now _ _
    (sym (begins_where (of_kind kind.CloseParenthesis) c.args.tokens.now c.after.result
    c.after.ensures.front) ∙ sym c.if-is_some.ensures)
    c.loop-behind.invariant.read c.in_default.ensures.front

-- Where they stop.

pub chain-returns-in-Err-operand-clause-inside : goal.chain-returns-in-Err-operand-clause-inside
chain-returns-in-Err-operand-clause-inside t c =
    in_chain c.args.level c.args.scope c.args.room c.args.tokens.now
    (part_of c.loop-operator.value) c.loop-operator.rest.now c.in-Some.after.now
    c.in-Some.operator c.in-Err-operand.stuck c.loop-operator.invariant.read
    c.in-Some.ensures.front c.in-Err-operand.ensures.inside

pub operand-returns-in-And-clause-inside : goal.operand-returns-in-And-clause-inside
operand-returns-in-And-clause-inside t c =
    subst (λ l. IfErr c.negation.result (λ e. IsInside (bound l) c.args.room c.args.tokens.now e))
    (sym c.in-And.is)
    (same_if_err (IsInside nesting.unsigned c.args.room c.args.tokens.now)
    (IsInside enclosing c.args.room c.args.tokens.now) c.negation.result
    (λ e. inside_looser enclosing nesting.unsigned c.args.room c.args.tokens.now e no_signs_either)
    c.negation.ensures.inside)

pub negation-returns-in-Err-clause-inside : goal.negation-returns-in-Err-clause-inside
negation-returns-in-Err-clause-inside t c =
    in_not c.args.room c.args.tokens.now _ _ c.in-Err.stuck
    (λ none. omega (arith, c.if-room-eq0.false, none)) c.in-Some.ensures.front
    c.in-Err.ensures.inside

pub unary-returns-in-Err-clause-inside : goal.unary-returns-in-Err-clause-inside
unary-returns-in-Err-clause-inside t c =
    in_sign c.args.room c.args.tokens.now _ _ c.in-Err.stuck
    (λ none. omega (arith, c.if-room-eq0.false, none)) c.in-Some.ensures.front
    c.in-Err.ensures.inside

pub comparison-returns-in-Err-chain-clause-inside :
    goal.comparison-returns-in-Err-chain-clause-inside
comparison-returns-in-Err-chain-clause-inside t c =
    in_compared c.args.scope c.args.room c.args.tokens.now _ _ c.in-Ok.ensures.read _ _
    c.in-Err-chain.stuck c.in-Some.ensures.front c.in-Err-chain.ensures.inside

pub comparison-returns-in_default-after-2-clause-inside :
    goal.comparison-returns-in_default-after-2-clause-inside
comparison-returns-in_default-after-2-clause-inside t c =
    no_pattern c.args.scope c.args.room c.args.tokens.now _ _ c.in-Ok.ensures.read _ _ _
    c.before-in_default-after-2.ensures c.in-Some-after.ensures.front

pub comparison-returns-then-begins_with_list-clause-inside :
    goal.comparison-returns-then-begins_with_list-clause-inside
comparison-returns-then-begins_with_list-clause-inside t c =
    same_if_err (IsInsideList c.args.room c.in-Ok.found.1.now)
    (IsInside nesting.unsigned c.args.room c.args.tokens.now) c.list.result
    (λ e. in_listed c.args.scope c.args.room c.args.tokens.now _ c.in-Ok.found.1.now
    c.in-Ok.ensures.read e (sym c.if-begins_with_list.ensures))
    c.list.ensures.inside

pub comparison-returns-in-Err-chain-2-clause-inside :
    goal.comparison-returns-in-Err-chain-2-clause-inside
comparison-returns-in-Err-chain-2-clause-inside t c =
    in_contained c.args.scope c.args.room c.args.tokens.now _ _ c.in-Ok.ensures.read _ _
    c.in-Err-chain-2.stuck c.in-Some-after-3.ensures.front c.in-Err-chain-2.ensures.inside

pub grouped-returns-in-Err-clause-inside : goal.grouped-returns-in-Err-clause-inside
grouped-returns-in-Err-clause-inside t c =
    in_group c.args.room c.args.tokens.now _ _ c.in-Err.stuck
    (λ none. omega (arith, c.if-room-eq0.false, none)) c.in-Some.ensures.front
    c.in-Err.ensures.inside

pub grouped-returns-in_default-after-clause-inside :
    goal.grouped-returns-in_default-after-clause-inside
grouped-returns-in_default-after-clause-inside t c =
    group_not_shut c.args.scope c.args.room c.args.tokens.now _ _ _ _ _
    c.before-in_default-after.ensures (λ none. omega (arith, c.if-room-eq0.false, none))
    c.in-Some.ensures.front c.in-Ok.ensures.read

pub call-returns-then-room-eq0-clause-inside : goal.call-returns-then-room-eq0-clause-inside
call-returns-then-room-eq0-clause-inside t c = λ is.
    call_too_deep c.args.room c.args.tokens.now _ _ c.in-Some.ensures.front _ _
    c.in-Some-after.ensures.front _ c.before-then-room-eq0.ensures

pub call-returns-then-begins_with_count-clause-inside :
    goal.call-returns-then-begins_with_count-clause-inside
call-returns-then-begins_with_count-clause-inside t c = λ is.
    same_if_err (IsInside enclosing (c.args.room - 1) c.in-Some-after.inside.now)
    (IsInside all c.args.room c.args.tokens.now) c.counted.result
    (λ e. in_call c.args.room c.args.tokens.now c.in-Some.name.now c.in-Some.behind.now
    c.in-Some.ensures.front c.in-Some-after.field-0-0.now c.in-Some-after.inside.now
    c.in-Some-after.ensures.front (λ none. omega (arith, c.if-room-eq0.false, none)) e)
    c.counted.ensures.inside

pub call-returns-in-Err-clause-inside : goal.call-returns-in-Err-clause-inside
call-returns-in-Err-clause-inside t c = λ is.
    in_call c.args.room c.args.tokens.now _ _ c.in-Some.ensures.front _ _
    c.in-Some-after.ensures.front (λ none. omega (arith, c.if-room-eq0.false, none))
    c.in-Err.stuck c.in-Err.ensures.inside

pub call-returns-in_default-after-2-clause-inside :
    goal.call-returns-in_default-after-2-clause-inside
call-returns-in_default-after-2-clause-inside t c = λ is.
    depth.call_not_shut c.args.room c.args.tokens.now _ _ c.in-Some.ensures.front _ _
    c.in-Some-after.ensures.front (λ none. omega (arith, c.if-room-eq0.false, none))
    c.args.scope (parts_of c.in-Ok.found.0) c.in-Ok.found.1.now _
    c.before-in_default-after-2.ensures c.in_default-after-2.ensures.front c.in-Ok.ensures.read

pub arguments-returns-in-Err-chain-clause-inside : goal.arguments-returns-in-Err-chain-clause-inside
arguments-returns-in-Err-chain-clause-inside t c =
    in_list (chain_at level.Or c.args.scope c.args.room) c.args.room c.args.tokens.now _ _ _ _
    c.in-Err-chain.stuck (any_chain level.Or c.args.scope c.args.room)
    c.loop-behind.invariant.read c.in-Some.ensures.front c.in-Err-chain.ensures.inside

-- What stands before begins an expression.

pub chain-returns-in-Err-clause-begun : goal.chain-returns-in-Err-clause-begun
chain-returns-in-Err-clause-begun t c =
    first_in_chain c.args.level (operand c.args.level c.args.scope c.args.room)
    (operand_ends c.args.level c.args.scope c.args.room) c.args.tokens.now c.in-Err.stuck
    c.in-Err.ensures.begun

pub chain-returns-in-Err-operand-clause-begun : goal.chain-returns-in-Err-operand-clause-begun
chain-returns-in-Err-operand-clause-begun t c =
    next_in_chain c.args.level (operand c.args.level c.args.scope c.args.room)
    (operand_ends c.args.level c.args.scope c.args.room)
    (operand_repeats c.args.level c.args.scope c.args.room) c.args.tokens.now
    (part_of c.loop-operator.value) c.loop-operator.rest.now c.in-Some.after.now
    c.in-Some.operator c.in-Err-operand.stuck c.loop-operator.invariant.read
    c.in-Some.ensures.front c.in-Err-operand.ensures.begun

pub operand-returns-in-Or-clause-begun : goal.operand-returns-in-Or-clause-begun
operand-returns-in-Or-clause-begun t c =
    subst (λ l. IfErr c.chain.result (λ e. IsBegun (operand l c.args.scope c.args.room)
    c.args.tokens.now e)) (sym c.in-Or.is) c.chain.ensures.begun

pub operand-returns-in-And-clause-begun : goal.operand-returns-in-And-clause-begun
operand-returns-in-And-clause-begun t c =
    subst (λ l. IfErr c.negation.result (λ e. IsBegun (operand l c.args.scope c.args.room)
    c.args.tokens.now e)) (sym c.in-And.is) c.negation.ensures.begun

pub operand-returns-in-Sum-clause-begun : goal.operand-returns-in-Sum-clause-begun
operand-returns-in-Sum-clause-begun t c =
    subst (λ l. IfErr c.chain-in-Sum.result (λ e. IsBegun (operand l c.args.scope c.args.room)
    c.args.tokens.now e)) (sym c.in-Sum.is) c.chain-in-Sum.ensures.begun

pub operand-returns-in-Product-clause-begun : goal.operand-returns-in-Product-clause-begun
operand-returns-in-Product-clause-begun t c =
    subst (λ l. IfErr c.unary.result (λ e. IsBegun (operand l c.args.scope c.args.room)
    c.args.tokens.now e)) (sym c.in-Product.is) c.unary.ensures.begun

pub negation-returns-in_default-clause-begun : goal.negation-returns-in_default-clause-begun
negation-returns-in_default-clause-begun t c =
    same_if_err (IsBegun (comparison c.args.scope c.args.room) c.args.tokens.now)
    (IsBegun (negation c.args.scope c.args.room) c.args.tokens.now) c.comparison.result
    (λ e. undenied_begun c.args.scope c.args.room c.args.tokens.now e c.in_default.ensures.front)
    c.comparison.ensures.begun

pub negation-returns-then-room-eq0-clause-begun : goal.negation-returns-then-room-eq0-clause-begun
negation-returns-then-room-eq0-clause-begun t c =
    no_room_begun c.args.scope c.args.room c.args.tokens.now _ _ c.before-then-room-eq0.ensures

pub negation-returns-in-Err-clause-begun : goal.negation-returns-in-Err-clause-begun
negation-returns-in-Err-clause-begun t c =
    denied_begun c.args.scope c.args.room c.args.tokens.now _ _ c.in-Err.stuck
    (λ none. omega (arith, c.if-room-eq0.false, none)) c.in-Some.ensures.front
    c.in-Err.ensures.begun

pub comparison-returns-in-Err-clause-begun : goal.comparison-returns-in-Err-clause-begun
comparison-returns-in-Err-clause-begun t c =
    sum_begun c.args.scope c.args.room c.args.tokens.now c.in-Err.stuck c.in-Err.ensures.begun

pub comparison-returns-in-Err-chain-clause-begun : goal.comparison-returns-in-Err-chain-clause-begun
comparison-returns-in-Err-chain-clause-begun t c =
    behind_sum c.args.scope c.args.room c.args.tokens.now c.in-Err-chain.stuck
    (part_of c.in-Ok.found.0) c.in-Ok.found.1.now c.in-Ok.ensures.read
    (compared_begun c.args.scope c.args.room c.in-Ok.found.1.now c.in-Err-chain.stuck
    (part_of c.in-Ok.found.0) _ _ c.in-Some.ensures.front c.in-Err-chain.ensures.begun)

pub comparison-returns-in_default-after-2-clause-begun :
    goal.comparison-returns-in_default-after-2-clause-begun
comparison-returns-in_default-after-2-clause-begun t c =
    behind_sum c.args.scope c.args.room c.args.tokens.now _ (part_of c.in-Ok.found.0)
    c.in-Ok.found.1.now c.in-Ok.ensures.read
    (no_pattern_begun c.args.scope c.args.room c.in-Ok.found.1.now _ (part_of c.in-Ok.found.0) _ _ _
    c.before-in_default-after-2.ensures c.in_default.ensures.front c.in-Some-after.ensures.front)

pub comparison-returns-then-begins_with_list-clause-begun :
    goal.comparison-returns-then-begins_with_list-clause-begun
comparison-returns-then-begins_with_list-clause-begun t c =
    same_if_err (IsBegun (compared_if_due c.args.room
    (chain_at level.Sum c.args.scope c.args.room) (part_of c.in-Ok.found.0)) c.in-Ok.found.1.now)
    (IsBegun (comparison c.args.scope c.args.room) c.args.tokens.now) c.list.result
    (λ e. behind_sum c.args.scope c.args.room c.args.tokens.now e (part_of c.in-Ok.found.0)
    c.in-Ok.found.1.now c.in-Ok.ensures.read) (c.list.ensures.begun c.args.scope)

pub comparison-returns-in-Err-chain-2-clause-begun :
    goal.comparison-returns-in-Err-chain-2-clause-begun
comparison-returns-in-Err-chain-2-clause-begun t c =
    behind_sum c.args.scope c.args.room c.args.tokens.now c.in-Err-chain-2.stuck
    (part_of c.in-Ok.found.0) c.in-Ok.found.1.now c.in-Ok.ensures.read
    (contained_begun c.args.scope c.args.room (part_of c.in-Ok.found.0) c.in-Ok.found.1.now _ _
    c.in-Err-chain-2.stuck (sym c.if-begins_with_list.ensures) c.in-Some-after-3.ensures.front
    c.in-Err-chain-2.ensures.begun)

pub unary-returns-in_default-clause-begun : goal.unary-returns-in_default-clause-begun
unary-returns-in_default-clause-begun t c =
    same_if_err (IsBegun (atom c.args.scope c.args.room) c.args.tokens.now)
    (IsBegun (unary c.args.scope c.args.room) c.args.tokens.now) c.atom.result
    (λ e. unsigned_begun c.args.scope c.args.room c.args.tokens.now e c.in_default.ensures.front)
    c.atom.ensures.begun

pub unary-returns-then-room-eq0-clause-begun : goal.unary-returns-then-room-eq0-clause-begun
unary-returns-then-room-eq0-clause-begun t c =
    no_room_to_sign c.args.scope c.args.room c.args.tokens.now _ _ c.before-then-room-eq0.ensures

pub unary-returns-in-Err-clause-begun : goal.unary-returns-in-Err-clause-begun
unary-returns-in-Err-clause-begun t c =
    signed_begun c.args.scope c.args.room c.args.tokens.now _ _ c.in-Err.stuck
    (λ none. omega (arith, c.if-room-eq0.false, none)) c.in-Some.ensures.front
    c.in-Err.ensures.begun

pub atom-returns-then-is_some-clause-begun : goal.atom-returns-then-is_some-clause-begun
atom-returns-then-is_some-clause-begun t c =
    same_if_err (IsBegun literal c.args.tokens.now)
    (IsBegun (atom c.args.scope c.args.room) c.args.tokens.now) c.literal.result
    (λ e. literal_begun c.args.scope c.args.room c.args.tokens.now e
    (sym (literal_where fronts.literal c.args.tokens.now c.after_literal.result
    c.after_literal.ensures.front) ∙ sym c.if-is_some.ensures))
    c.literal.ensures.begun

pub atom-returns-in_default-clause-begun : goal.atom-returns-in_default-clause-begun
atom-returns-in_default-clause-begun t c =
    no_atom_begun c.args.scope c.args.room c.args.tokens.now _ _ c.before-in_default.ensures

pub grouped-returns-in_default-clause-begun : goal.grouped-returns-in_default-clause-begun
grouped-returns-in_default-clause-begun t c =
    no_atom_begun c.args.scope c.args.room c.args.tokens.now _ _ c.before-in_default.ensures

pub grouped-returns-then-room-eq0-clause-begun : goal.grouped-returns-then-room-eq0-clause-begun
grouped-returns-then-room-eq0-clause-begun t c =
    no_atom_begun c.args.scope c.args.room c.args.tokens.now _ _ c.before-then-room-eq0.ensures

pub grouped-returns-in-Err-clause-begun : goal.grouped-returns-in-Err-clause-begun
grouped-returns-in-Err-clause-begun t c =
    group_begun c.args.scope c.args.tokens.now _ _ c.in-Err.stuck c.in-Some.ensures.front
    c.args.room (λ none. omega (arith, c.if-room-eq0.false, none)) c.in-Err.ensures.begun

pub grouped-returns-in_default-after-clause-begun :
    goal.grouped-returns-in_default-after-clause-begun
grouped-returns-in_default-after-clause-begun t c =
    group_not_shut_begun c.args.scope c.args.tokens.now _ _ _ c.in-Some.ensures.front
    c.args.room (λ none. omega (arith, c.if-room-eq0.false, none)) _ _ _
    c.before-in_default-after.ensures c.in-Ok.ensures.read

pub call-returns-in_default-clause-begun : goal.call-returns-in_default-clause-begun
call-returns-in_default-clause-begun t c =
    no_atom_begun c.args.scope c.args.room c.args.tokens.now _ _ c.before-in_default.ensures

pub call-returns-in_default-after-clause-begun : goal.call-returns-in_default-after-clause-begun
call-returns-in_default-after-clause-begun t c =
    name_begun c.args.scope c.args.tokens.now _ _ _ c.in-Some.ensures.front c.args.room _
    c.before-in_default-after.ensures

pub call-returns-then-room-eq0-clause-begun : goal.call-returns-then-room-eq0-clause-begun
call-returns-then-room-eq0-clause-begun t c =
    name_begun c.args.scope c.args.tokens.now _ _ _ c.in-Some.ensures.front c.args.room _
    c.before-then-room-eq0.ensures

pub call-returns-then-begins_with_count-clause-begun :
    goal.call-returns-then-begins_with_count-clause-begun
call-returns-then-begins_with_count-clause-begun t c =
    same_if_err (IsBegun (counted c.in-Some.name.now) c.in-Some-after.inside.now)
    (IsBegun (atom c.args.scope c.args.room) c.args.tokens.now) c.counted.result
    (λ e. counted_begun c.args.scope c.args.tokens.now c.in-Some.name.now c.in-Some.behind.now e
    c.in-Some.ensures.front c.in-Some-after.field-0-0.now c.in-Some-after.inside.now
    c.in-Some-after.ensures.front c.args.room (λ none. omega (arith, c.if-room-eq0.false, none))
    (sym c.if-begins_with_count.ensures))
    c.counted.ensures.begun

pub call-returns-in-Err-clause-begun : goal.call-returns-in-Err-clause-begun
call-returns-in-Err-clause-begun t c =
    call_begun c.args.scope c.args.tokens.now _ _ c.in-Err.stuck c.in-Some.ensures.front _ _
    c.in-Some-after.ensures.front c.args.room (λ none. omega (arith, c.if-room-eq0.false, none))
    (sym c.if-begins_with_count.ensures) c.in-Err.ensures.begun

pub call-returns-in_default-after-2-clause-begun : goal.call-returns-in_default-after-2-clause-begun
call-returns-in_default-after-2-clause-begun t c =
    call_not_shut_begun c.args.scope c.args.tokens.now _ _ _ c.in-Some.ensures.front _ _
    c.in-Some-after.ensures.front c.args.room (λ none. omega (arith, c.if-room-eq0.false, none))
    (sym c.if-begins_with_count.ensures) (parts_of c.in-Ok.found.0) c.in-Ok.found.1.now _
    c.before-in_default-after-2.ensures
    (absent (of_kind kind.CloseParenthesis) c.in-Ok.found.1.now
    c.in_default-after-2.ensures.front) c.in-Ok.ensures.read

pub arguments-returns-in-Err-clause-begun : goal.arguments-returns-in-Err-clause-begun
arguments-returns-in-Err-clause-begun t c =
    arguments_begun c.args.scope c.args.room c.args.tokens.now c.in-Err.stuck
    (sym (begins_where (of_kind kind.CloseParenthesis) c.args.tokens.now c.after.result
    c.after.ensures.front) ∙ sym c.if-is_some.ensures)
    (first_in_list (chain_at level.Or c.args.scope c.args.room) (λ rest. refl) c.args.tokens.now
    c.in-Err.stuck c.in-Err.ensures.begun)

pub arguments-returns-in-Err-chain-clause-begun : goal.arguments-returns-in-Err-chain-clause-begun
arguments-returns-in-Err-chain-clause-begun t c =
    arguments_begun c.args.scope c.args.room c.args.tokens.now c.in-Err-chain.stuck
    (sym (begins_where (of_kind kind.CloseParenthesis) c.args.tokens.now c.after.result
    c.after.ensures.front) ∙ sym c.if-is_some.ensures)
    (next_in_list (chain_at level.Or c.args.scope c.args.room) (λ rest. refl)
    (chain_repeats level.Or c.args.scope c.args.room) c.args.tokens.now _ _ _ _
    c.in-Err-chain.stuck c.loop-behind.invariant.read c.in-Some.ensures.front
    c.in-Err-chain.ensures.begun)
