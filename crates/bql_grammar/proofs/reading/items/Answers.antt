use Rattle.std.proofs.Common.{refl, subst, sym}
use Rattle.theory.specs.Form.{snoc}
use Rattle.theory.proofs.RowFacts.{InRow}
use Rattle.bql_tree.specs.Part.{part_of, parts_of}
use Rattle.bql_tree.specs.declared.function.Scope.TheVariants.{Postings}
use Rattle.bql_tree.proofs.CallFacts.{parts_more}
use Rattle.bql_grammar.specs.Expression.{expression, behind_comma}
use Rattle.bql_grammar.proofs.ExpressionFacts.{rows, no_list, list_begins}
use Rattle.bql_grammar.proofs.ExpressionFacts.{none_in_list, list_goes_on, list_is_read}
use Rattle.bql_grammar.proofs.AgainExpressions.{chain_repeats}
use Rattle.bql_grammar.proofs.BeginningFacts.{first_in_list, next_in_list}
use Rattle.bql_tree.specs.declared.level.Level.TheVariants as level
use Rattle.bql_grammar.proofs.ItemsFacts.{parts_first}
use Rattle.bql_grammar.specs.Grammar.{items}
use Rattle.bql_grammar.specs.Stopping.{IsFresh}
use Rattle.bql_grammar.proofs.MovingFacts.{expression_moves}
use Rattle.bql_grammar.proofs.ClauseFacts.{stuck_from, same_place, reaches_another}
use Rattle.bql_grammar.proofs.ClauseFacts.{expression_stuck}
use Rattle.bql_grammar.proofs.reading.items.Goals as goal

pub returns-in-Err : goal.returns-in-Err
returns-in-Err c =
    stuck_from IsFresh IsFresh (expression Postings) items part_of parts_of c.args.tokens.now
    c.args.tokens.now c.in-Err.stuck
    (no_list (expression Postings) (λ rest. refl) c.args.tokens.now)
    (same_place IsFresh c.args.tokens.now)
    (first_in_list (expression Postings) (λ rest. refl) c.args.tokens.now)
    (expression_stuck Postings c.args.tokens.now c.in-Err.stuck c.in-Err.ensures.read
    c.in-Err.ensures.inside c.in-Err.ensures.begun)

pub loop-behind-init : goal.loop-behind-init
loop-behind-init c =
    subst (λ vs. InRow (rows (expression Postings)) (behind_comma (expression Postings)) snoc
    c.args.tokens.now vs c.in-Ok.found.1.now)
    (sym (parts_first c.new-parts.result.items c.in-Ok.found.0 c.push.new.self.items
    c.new-parts.ensures.items c.in_ok-push.ensures.items))
    (list_begins (expression Postings) (λ rest. refl) c.args.tokens.now _ _
    c.in-Ok.ensures.read)

pub returns-in-Err-expression : goal.returns-in-Err-expression
returns-in-Err-expression c =
    stuck_from IsFresh IsFresh (expression Postings) items part_of parts_of c.in-Some.behind.now
    c.args.tokens.now c.in-Err-expression.stuck
    (λ none. none_in_list (expression Postings) (λ rest. refl) c.args.tokens.now _ _ _ _
    c.loop-behind.invariant c.in-Some.ensures.front none)
    (reaches_another (expression Postings) (expression_moves Postings) c.args.tokens.now _ _ _ _
    c.loop-behind.invariant c.in-Some.ensures.front)
    (λ e. next_in_list (expression Postings) (λ rest. refl) (chain_repeats level.Or Postings 200)
    c.args.tokens.now _ _ _ _ e c.loop-behind.invariant c.in-Some.ensures.front)
    (expression_stuck Postings c.in-Some.behind.now c.in-Err-expression.stuck
    c.in-Err-expression.ensures.read c.in-Err-expression.ensures.inside
    c.in-Err-expression.ensures.begun)

pub loop-behind-preserved : goal.loop-behind-preserved
loop-behind-preserved c =
    subst (λ vs. InRow (rows (expression Postings)) (behind_comma (expression Postings)) snoc
    c.args.tokens.now vs c.in-Ok-expression.found.1.now)
    (sym (parts_more c.loop-behind.parts.items c.in-Ok-expression.found.0
    c.push-in-Some.new.self.items c.in_ok-push-2.ensures.items))
    (list_goes_on (expression Postings) (λ rest. refl) c.args.tokens.now _ _ _ _ _ _
    c.loop-behind.invariant c.in-Some.ensures.front c.in-Ok-expression.ensures.read)

pub returns : goal.returns
returns c =
    list_is_read (expression Postings) (λ rest. refl) c.args.tokens.now _ _
    c.loop-behind.invariant c.in_default.ensures.front
