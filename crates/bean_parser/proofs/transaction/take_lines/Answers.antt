use Rattle.std.proofs.Common.{[], map, subst}
use Rattle.bean_parser.specs.Plain.{TakesPostings}
use Rattle.bean_parser.specs.Under.{no_lines, said_posting, with_lines}
use Rattle.bean_parser.proofs.KeptFacts.{kept_all, kept_both, kept_more}
use Rattle.bean_parser.proofs.SaidFacts.{lines_end, lines_more, postings_said}
use Rattle.bean_parser.proofs.UnderFacts.{none_taken}
use Rattle.bean_parser.proofs.transaction.take_lines.Goals as goal

pub loop-first-init : goal.loop-first-init
loop-first-init c = record {
  kept = kept_all c.args.before c.args.postings.now.items c.requires;
  said = λ head t others own says. ([], none_taken c.args.lexer.now, says);
}

pub loop-first-preserved : goal.loop-first-preserved
loop-first-preserved c =
    let was = c.loop-first.invariant in
    let read = c.in_ok-first.ensures in
    let items = c.loop-first.postings.items in
    let more = c.take_postings.new.postings.items in
    let all = c.take_other.new.postings.items in
    let next =
    subst (λ o. TakesPostings o read.0 c.loop-first.lexer c.take_postings.new.lexer) c.in-Some.is
    read.2 in
    record {
      kept = kept_both c.args.before c.args.postings.now.items items all was.kept
          (kept_both c.args.before items more all
          (kept_more c.args.before items more read.0 was.kept.room read.1)
          c.in_ok-take_other.ensures.kept);
      said = λ head t others own says.
          let said = was.said head t others own says in
          let b = with_lines no_lines said.0 in
          let line =
          c.in_ok-take_other.ensures.said next.0 head t others
          (with_lines b (map said_posting read.0)) next.2 own
          (postings_said head t others b c.loop-first.directive items more read.0 said.2 read.1)
          c.if-not-branch.false in
          lines_more head t others c.args.lexer.now c.loop-first.lexer next.0
          c.take_other.new.lexer said.0 read.0 line.0 c.take_other.new.directive all said.1 next.1
          line.1 line.2;
    }

pub returns-clause-said : goal.returns-clause-said
returns-clause-said c = λ head t others own says _.
    let said = c.loop-first.invariant.said head t others own says in
    let read = c.in_ok-first.ensures in
    let ends =
    subst (λ o. TakesPostings o read.0 c.loop-first.lexer c.take_postings.new.lexer)
    c.in_default.is read.2 in
    lines_end head t others c.args.lexer.now c.loop-first.lexer c.take_postings.new.lexer said.0
    read.0 c.loop-first.directive c.loop-first.postings.items c.take_postings.new.postings.items
    said.1 ends said.2 read.1
