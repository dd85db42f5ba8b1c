use Rattle.std.proofs.Common.{[], ap, sym, ◌∙◌, subst}
use Rattle.theory.specs.Form.{Reads}
use Rattle.bean_grammar.specs.Lexeme.{lexemes}
use Rattle.bean_grammar.specs.Metadata.{all_values}
use Rattle.bean_grammar.specs.declared.ranged.Ranged.TheVariants.{Within}
use Rattle.bean_grammar.proofs.MetadataFacts.{kept, first_values, value_pushed, value_left_out}
use Rattle.bean_grammar.proofs.MetadataFacts.{no_next_value, values_read}
use Rattle.bean_grammar.proofs.entry.all_values.Goals.{in-Within+in_ok-push-in-Within, in-Outside}
use Rattle.bean_grammar.proofs.entry.all_values.Goals as goal

pub loop-found-init : goal.loop-found-init
loop-found-init c = first_values _ _ c.new-values.ensures.items

pub returns-in_default-value : goal.returns-in_default-value
returns-in_default-value c =
    no_next_value _ _ _ _ _ c.loop-found.invariant c.in-Some.ensures.front
    c.in_default-value.ensures.read

pub loop-found-preserved : goal.loop-found-preserved
loop-found-preserved c = elim c.match-found.branch [
  | in-Within+in_ok-push-in-Within w ↦
      value_pushed _ _ _ c.loop-found.values.items _ _ _ w.in-Within.value _ w.are_in_range-is
      (ap (λ v. v.items) w.values-is ∙ w.in_ok-push-in-Within.ensures.items) w.in-Within.is
      c.loop-found.invariant c.in-Some-value.ensures.read
  | in-Outside w ↦ value_left_out _ _ _ c.loop-found.values.items _ _ _ _ w.are_in_range-is
      w.in-Outside.is c.loop-found.invariant c.in-Some-value.ensures.read
]

pub returns-then-are_in_range : goal.returns-then-are_in_range
returns-then-are_in_range c =
    subst (λ vs. Reads all_values (lexemes c.args.tokens.now) vs [])
    (ap (λ b. kept b c.loop-found.values.items) c.if-are_in_range.true
    ∙ sym (ap Within c.new.ensures))
    (values_read _ _ _ c.loop-found.invariant c.in_default.ensures.front)

pub returns : goal.returns
returns c =
    subst (λ vs. Reads all_values (lexemes c.args.tokens.now) vs [])
    (ap (λ b. kept b c.loop-found.values.items) c.if-are_in_range.false)
    (values_read _ _ _ c.loop-found.invariant c.in_default.ensures.front)
