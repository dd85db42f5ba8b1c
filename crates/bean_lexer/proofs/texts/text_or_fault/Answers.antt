use Rattle.std.proofs.Common.{inl, inr, sym, ◌∙◌}
use Rattle.bean_lexer.proofs.TextFacts.{text_token, fault_token}
use Rattle.bean_lexer.proofs.texts.text_or_fault.Goals as goal

pub returns-then-reach-clause-token : goal.returns-then-reach-clause-token
returns-then-reach-clause-token c =
    let reach = c.text_reach-reach.ensures in
    inl (text_token c.args.bytes.now c.text_reach-reach.result.len c.requires.some c.requires.quote
    reach.inside reach.len (sym reach.is_text ∙ c.if-reach.true))

pub returns-else-reach-clause-token : goal.returns-else-reach-clause-token
returns-else-reach-clause-token c =
    let reach = c.text_reach-reach.ensures in
    inr (fault_token c.args.bytes.now c.text_reach-reach.result.len c.requires.some c.requires.quote
    reach.len (sym reach.is_text ∙ c.if-reach.false))
