use Rattle.std.proofs.Common.{true, ◌∷◌, [], ◌++◌, sym, ◌∙◌, ap, subst}
use Rattle.std.proofs.lemmas.Result.{IfOk-weaker}
use Rattle.bean_parser.specs.Block.{fault_line, line_of}
use Rattle.bean_parser.specs.Reading.{ReadsLine}
use Rattle.bean_parser.specs.Under.{IsLine}
use Rattle.bean_parser.proofs.UnderFacts.{other_taken}
use Rattle.bean_parser.proofs.transaction.take_other.Goals as goal

pub returns-in-Some-2-clause-said : goal.returns-in-Some-2-clause-said
returns-in-Some-2-clause-said c = λ mid head t others b next own says.
    let first = c.args.first in
    let kind = c.in-Some-2.kind in
    let line = c.take_inside.new.block.items in
    let alone = c.in_ok-add_token.ensures ∙ ap (λ xs. xs ++ first ∷ []) c.clear.ensures.items in
    let no_fault =
    ap fault_line (sym c.deref.ensures.value) ∙ sym c.fault_line.ensures ∙ c.in_default-fault_line.is in
    let is =
    subst (λ l. IsLine true (line_of l) kind) c.deref-2.ensures.value
    (subst (ReadsLine true (line_of c.deref-2.result.now)) c.in-Some-2.is c.in_ok-kind.ensures) in
    IfOk-weaker c.add_line.result _ _
    (λ some more ok. (
      kind,
      other_taken mid c.args.lexer.now c.take_inside.new.lexer first c.add_token.new.block.items line
          kind next c.in-Indented.is alone c.in_ok-take_inside.ensures no_fault is,
      more ok,
    )) (c.add_line.ensures.said head t others b own says)
