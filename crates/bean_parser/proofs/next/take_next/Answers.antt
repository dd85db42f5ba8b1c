use Rattle.std.proofs.Common.{◌≡◌, [], length, drop, arith, refl, rules, sym, subst}
use Rattle.std.proofs.lemmas.Grind.{common_steps}
use Rattle.std.proofs.lemmas.List.{append-nil}
use Rattle.std.specs.Prelude.{IfSome}
use Rattle.bean_parser.specs.Plain.{IsFirstLine}
use Rattle.bean_parser.specs.Taking.{TakesLine}
use Rattle.bean_parser.specs.Under.{no_lines, postings_in, with_lines}
use Rattle.bean_parser.proofs.KeptFacts.{behind_kept, kept_cut}
use Rattle.bean_parser.proofs.PlainBlockFacts.{transaction_shorter, transaction_taken}
use Rattle.bean_parser.proofs.SaidFacts.{head_says}
use Rattle.bean_parser.proofs.TakingFacts.{block_taken}
use Rattle.bean_parser.proofs.next.take_next.Goals as goal

pub returns-in_default-clause-block : goal.returns-in_default-clause-block
returns-in_default-clause-block c =
    let line = c.take_line.new.block.items in
    let mid = c.take_line.new.lexer in
    let first =
    subst (λ some. TakesLine some c.args.lexer.now line mid) c.if-not-branch.false
    c.in_ok-take_line.ensures in (
      [],
      sym (append-nil _),
      (
        refl,
        block_taken c.args.lexer.now mid c.take_others.new.lexer line c.take_others.new.block.items
            first c.in_ok-take_others.ensures,
      ),
    )

pub returns-in_err-take_lines-clause-block : goal.returns-in_err-take_lines-clause-block
returns-in_err-take_lines-clause-block c =
    let old = c.args.postings.now.items in
    let new = c.take_lines.new.postings.items in
    let n = c.len-before.result in
    let all : n ≡ length old = grind (arith, common_steps, c.len-before.ensures) in (
      drop n new,
      behind_kept n old new all c.in_err-take_lines.ensures.kept,
      search rules,
    )

pub returns-then-branch-clause-block : goal.returns-then-branch-clause-block
returns-then-branch-clause-block c =
    let old = c.args.postings.now.items in
    let new = c.take_lines.new.postings.items in
    let n = c.len-before.result in
    let all : n ≡ length old = grind (arith, common_steps, c.len-before.ensures) in
    let line = c.take_line.new.block.items in
    let mid = c.take_line.new.lexer in
    let after = c.take_lines.new.lexer in
    let d = c.in-Some.directive in
    let first =
    subst (λ some. TakesLine some c.args.lexer.now line mid) c.if-not-branch.false
    c.in_ok-take_line.ensures in
    let head =
    subst (λ l. IsFirstLine l d) c.deref.ensures.value
    (subst (λ o. IfSome o (IsFirstLine c.deref.result.now)) c.in-Some.is c.in_ok-directive.ensures) in
    let taken =
    c.in_ok-take_lines.ensures.said d head.transaction old (sym all) (head_says line d old head)
    c.if-branch.true in (
      postings_in (with_lines no_lines taken.0),
      taken.3.postings,
      transaction_taken c.args.lexer.now mid after line d c.take_lines.new.directive taken.0 old new
          first head taken.1 taken.2 taken.3,
    )

pub returns-then-branch-clause-shorter : goal.returns-then-branch-clause-shorter
returns-then-branch-clause-shorter c = λ _.
    let old = c.args.postings.now.items in
    let n = c.len-before.result in
    let all : n ≡ length old = grind (arith, common_steps, c.len-before.ensures) in
    let line = c.take_line.new.block.items in
    let mid = c.take_line.new.lexer in
    let d = c.in-Some.directive in
    let first =
    subst (λ some. TakesLine some c.args.lexer.now line mid) c.if-not-branch.false
    c.in_ok-take_line.ensures in
    let head =
    subst (λ l. IsFirstLine l d) c.deref.ensures.value
    (subst (λ o. IfSome o (IsFirstLine c.deref.result.now)) c.in-Some.is c.in_ok-directive.ensures) in
    let taken =
    c.in_ok-take_lines.ensures.said d head.transaction old (sym all) (head_says line d old head)
    c.if-branch.true in
    transaction_shorter c.args.lexer.now mid c.take_lines.new.lexer line taken.0 first taken.1 taken.2

pub returns-in_err-next_block-clause-block : goal.returns-in_err-next_block-clause-block
returns-in_err-next_block-clause-block c =
    let old = c.args.postings.now.items in
    let new = c.take_lines.new.postings.items in
    let n = c.len-before.result in
    let all : n ≡ length old = grind (arith, common_steps, c.len-before.ensures) in (
      [],
      kept_cut n old new c.truncate.new.self.items all c.in_ok-take_lines.ensures.kept
          c.truncate.ensures.items,
      search rules,
    )
