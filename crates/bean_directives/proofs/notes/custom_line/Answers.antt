use Rattle.bean_directives.proofs.HeadFacts.{reads_custom, none_custom, when_some, when_none}
use Rattle.bean_directives.proofs.notes.custom_line.Goals as goal
use Rattle.std.proofs.Common.{ap}
use Rattle.bean_grammar.specs.Lexeme.{lexemes}

pub returns-in_default-2 : goal.returns-in_default-2
returns-in_default-2 c =
    none_custom _ _ _ c.in-Some.ensures.read
    (when_none _ _ _ c.in_default-2.not-Some c.in_ok-values.ensures)

pub returns : goal.returns
returns c =
    let end = ap lexemes c.split_at.ensures.front in
    rw (c.custom_of.ensures, end)
    (reads_custom _ _ _ _ _ c.in-Some.ensures.read
    (when_some _ _ _ _ c.in-Some-2.is c.in_ok-values.ensures))
