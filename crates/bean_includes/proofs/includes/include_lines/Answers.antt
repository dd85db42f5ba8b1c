use Rattle.std.proofs.Common.{arith, MatchBool, subst, sym}
use Rattle.bean_parser.specs.Taking.{TakesBlock}
use Rattle.bean_includes.specs.Includes.{AddsInclude, AreIncludeLines, HasIncludeWord}
use Rattle.bean_includes.proofs.IncludesFacts.{one_more, ended}
use Rattle.bean_includes.proofs.NoIncludeFacts.{none_without_word}
use Rattle.bean_includes.proofs.includes.include_lines.Goals as goal

pub returns-then-not-has_include_word : goal.returns-then-not-has_include_word
returns-then-not-has_include_word c =
    let text = c.args.text.now in
    let no_word =
    subst (λ r. MatchBool r (HasIncludeWord text) (HasIncludeWord text → ⊥))
    c.if-not-has_include_word.true c.has_include_word.ensures in
    subst (AreIncludeLines text) (sym c.new-found.ensures.items)
    (none_without_word text (omega arith) no_word)

pub loop-block-preserved : goal.loop-block-preserved
loop-block-preserved c =
    let before = c.loop-block.lexer in
    let after = c.next_block.new.lexer in
    let block = c.next_block.new.block.items in
    let old = c.loop-block.found.items in
    let new = c.add_include.new.found.items in
    let takes =
    subst (λ some. TakesBlock some before block after) c.if-branch.true
    c.in_ok-next_block.ensures.block in
    let adds =
    subst (λ b. AddsInclude b old new) c.deref.ensures.value c.in_ok-add_include.ensures in
    one_more c.args.text.now before after block old new c.loop-block.invariant takes adds

pub returns : goal.returns
returns c =
    let takes =
    subst (λ some. TakesBlock some c.loop-block.lexer c.next_block.new.block.items
    c.next_block.new.lexer) c.if-branch.false c.in_ok-next_block.ensures.block in
    ended c.args.text.now c.loop-block.lexer c.loop-block.found.items c.loop-block.invariant
    takes.0
