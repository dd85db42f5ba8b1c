use Rattle.std.proofs.Common.{refl, subst, sym}
use Rattle.theory.specs.Form.{snoc}
use Rattle.theory.proofs.RowFacts.{InRow}
use Rattle.bql_grammar.specs.Expression.{behind_comma}
use Rattle.bql_grammar.proofs.ExpressionFacts.{rows, no_list, list_begins}
use Rattle.bql_grammar.proofs.ExpressionFacts.{none_in_list, list_goes_on, list_is_read}
use Rattle.bql_grammar.proofs.BeginningFacts.{first_in_list, next_in_list}
use Rattle.bql_grammar.specs.Grammar.{target, targets}
use Rattle.bql_grammar.specs.Read.{target_of, targets_of}
use Rattle.bql_grammar.specs.Stopping.{IsFresh}
use Rattle.bql_grammar.proofs.MovingFacts.{target_moves, target_again}
use Rattle.bql_grammar.proofs.ClauseFacts.{targets_first, targets_more, stuck_from}
use Rattle.bql_grammar.proofs.ClauseFacts.{same_place, reaches_another}
use Rattle.bql_grammar.proofs.reading.targets.Goals as goal

pub returns-in-Err : goal.returns-in-Err
returns-in-Err c =
    let t = target c.args.text.now in
    stuck_from IsFresh IsFresh t (targets c.args.text.now) target_of targets_of c.args.tokens.now
    c.args.tokens.now c.in-Err.stuck (no_list t (λ rest. refl) c.args.tokens.now)
    (same_place IsFresh c.args.tokens.now) (first_in_list t (λ rest. refl) c.args.tokens.now)
    c.in-Err.ensures.read

pub loop-behind-init : goal.loop-behind-init
loop-behind-init c =
    let t = target c.args.text.now in
    subst (λ vs. InRow (rows t) (behind_comma t) snoc c.args.tokens.now vs c.in-Ok.found.1.now)
    (sym (targets_first c.new-targets.result.items c.in-Ok.found.0 c.push.new.self.items
    c.new-targets.ensures.items c.in_ok-push.ensures.items))
    (list_begins t (λ rest. refl) c.args.tokens.now _ _ c.in-Ok.ensures.read)

pub returns-in-Err-target : goal.returns-in-Err-target
returns-in-Err-target c =
    let t = target c.args.text.now in
    stuck_from IsFresh IsFresh t (targets c.args.text.now) target_of targets_of c.in-Some.behind.now
    c.args.tokens.now c.in-Err-target.stuck
    (λ none. none_in_list t (λ rest. refl) c.args.tokens.now _ _ _ _ c.loop-behind.invariant
    c.in-Some.ensures.front none)
    (reaches_another t (target_moves c.args.text.now) c.args.tokens.now _ _ _ _
    c.loop-behind.invariant c.in-Some.ensures.front)
    (λ e. next_in_list t (λ rest. refl) (target_again c.args.text.now) c.args.tokens.now _ _ _ _ e
    c.loop-behind.invariant c.in-Some.ensures.front)
    c.in-Err-target.ensures.read

pub loop-behind-preserved : goal.loop-behind-preserved
loop-behind-preserved c =
    let t = target c.args.text.now in
    subst (λ vs. InRow (rows t) (behind_comma t) snoc c.args.tokens.now vs
    c.in-Ok-target.found.1.now)
    (sym (targets_more c.loop-behind.targets.items c.in-Ok-target.found.0
    c.push-in-Some.new.self.items c.in_ok-push-2.ensures.items))
    (list_goes_on t (λ rest. refl) c.args.tokens.now _ _ _ _ _ _ c.loop-behind.invariant
    c.in-Some.ensures.front c.in-Ok-target.ensures.read)

pub returns : goal.returns
returns c =
    list_is_read (target c.args.text.now) (λ rest. refl) c.args.tokens.now _ _
    c.loop-behind.invariant c.in_default.ensures.front
