use Rattle.std.proofs.Common.{arith, refl, subst, sym}
use Rattle.theory.specs.Form.{snoc}
use Rattle.theory.proofs.RowFacts.{InRow}
use Rattle.bql_grammar.specs.Expression.{literal, literals, behind_comma}
use Rattle.bql_tree.specs.Part.{part_of, parts_of}
use Rattle.bql_tree.proofs.CallFacts.{parts_more}
use Rattle.bql_grammar.proofs.ExpressionFacts.{rows, no_list, list_begins, stuck_in, none_in_list}
use Rattle.bql_grammar.proofs.ExpressionFacts.{list_goes_on}
use Rattle.bql_grammar.proofs.ExpressionFacts.{list_is_read}
use Rattle.bql_grammar.specs.Nesting.{enclosing, all}
use Rattle.bql_grammar.proofs.AgainExpressions.{literal_again}
use Rattle.bql_grammar.proofs.BeginningFacts.{first_in_list, next_in_list}
use Rattle.bql_grammar.proofs.DepthFacts.{in_list, inside_looser}
use Rattle.bql_grammar.proofs.ItemsFacts.{parts_first}
use Rattle.bql_grammar.proofs.PassingFacts.{literal_passes}
use Rattle.bql_grammar.proofs.expressions.literals.Goals as goal

pub loop-behind-preserved : goal.loop-behind-preserved
loop-behind-preserved c = record {
  shorter = omega (
    arith,
    c.in-Some.ensures.shorter,
    c.in-Ok-literal.ensures.shorter,
    c.loop-behind.invariant.shorter,
  );
  read = subst (λ vs. InRow (rows literal) (behind_comma literal) snoc c.args.tokens.now vs
      c.in-Ok-literal.found.1.now) (sym (parts_more c.loop-behind.parts.items
      c.in-Ok-literal.found.0 c.push-in-Some.new.self.items c.in_ok-push-2.ensures.items))
      (list_goes_on literal (λ rest. refl) c.args.tokens.now _ _ _ _ _ _
      c.loop-behind.invariant.read c.in-Some.ensures.front c.in-Ok-literal.ensures.read);
}

pub returns-clause-read : goal.returns-clause-read
returns-clause-read c = list_is_read literal (λ rest. refl) c.args.tokens.now _ _
    c.loop-behind.invariant.read c.in_default.ensures.front

pub returns-in-Err-literal-clause-read : goal.returns-in-Err-literal-clause-read
returns-in-Err-literal-clause-read c =
    stuck_in literal literals part_of parts_of c.in-Some.behind.now c.args.tokens.now
    c.in-Err-literal.stuck (λ none. none_in_list literal (λ rest. refl) c.args.tokens.now _ _ _ _
    c.loop-behind.invariant.read c.in-Some.ensures.front none) c.in-Err-literal.ensures.read

pub loop-behind-init : goal.loop-behind-init
loop-behind-init c = record {
  shorter = c.in-Ok.ensures.shorter;
  read = subst (λ vs. InRow (rows literal) (behind_comma literal) snoc c.args.tokens.now vs
      c.in-Ok.found.1.now)
      (sym (parts_first c.new-parts.result.items c.in-Ok.found.0 c.push.new.self.items
      c.new-parts.ensures.items c.in_ok-push.ensures.items))
      (list_begins literal (λ rest. refl) c.args.tokens.now _ _ c.in-Ok.ensures.read);
}

pub returns-in-Err-clause-read : goal.returns-in-Err-clause-read
returns-in-Err-clause-read c =
    stuck_in literal literals part_of parts_of c.args.tokens.now c.args.tokens.now c.in-Err.stuck
    (no_list literal (λ rest. refl) c.args.tokens.now) c.in-Err.ensures.read

pub returns-in-Err-literal-clause-inside : goal.returns-in-Err-literal-clause-inside
returns-in-Err-literal-clause-inside c =
    in_list literal c.args.room c.args.tokens.now _ _ _ _ c.in-Err-literal.stuck
    (literal_passes enclosing) c.loop-behind.invariant.read c.in-Some.ensures.front
    (inside_looser enclosing all c.args.room c.in-Some.behind.now c.in-Err-literal.stuck
    (λ os bare. refl) c.in-Err-literal.ensures.inside)

pub returns-in-Err-clause-begun : goal.returns-in-Err-clause-begun
returns-in-Err-clause-begun c =
    first_in_list literal (λ rest. refl) c.args.tokens.now c.in-Err.stuck c.in-Err.ensures.begun

pub returns-in-Err-literal-clause-begun : goal.returns-in-Err-literal-clause-begun
returns-in-Err-literal-clause-begun c =
    next_in_list literal (λ rest. refl) literal_again c.args.tokens.now _ _ _ _
    c.in-Err-literal.stuck c.loop-behind.invariant.read c.in-Some.ensures.front
    c.in-Err-literal.ensures.begun
