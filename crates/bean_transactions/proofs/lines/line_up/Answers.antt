use Rattle.std.proofs.Common.{reverse, arith, subst, sym}
use Rattle.std.proofs.lemmas.List.{take_all}
use Rattle.bean_postings.specs.Posting.{is_outside_profile}
use Rattle.bean_transactions.specs.Lined.{AreLined}
use Rattle.bean_transactions.proofs.LinedFacts.{each_inside, one_more_lined, first_fault}
use Rattle.bean_transactions.proofs.lines.line_up.Goals as goal

pub loop-index-init : goal.loop-index-init
loop-index-init c = record {
  keeping = c.new-lines.ensures.keeping c.args.holdings.now;
  lined = λ s is. c.new-lines.ensures.lines;
}

pub add_next-requires : goal.add_next-requires
add_next-requires c = record {
  keeping = c.loop-index.invariant.keeping;
  bounded = c.requires.bounded;
  few = c.requires.few;
  inside =
      each_inside is_outside_profile c.args.postings.now c.loop-index.index
      c.index-postings-index.result (omega arith) c.index-postings-index.is c.requires.inside;
}

pub loop-index-preserved : goal.loop-index-preserved
loop-index-preserved c = record {
  keeping = c.in-Ok.ensures.keeping;
  lined = λ s is.
      one_more_lined s c.args.postings.now c.loop-index.index c.index-postings-index.result
      c.loop-index.lines.lines.items c.add_next.new.self.lines.items (omega arith)
      c.index-postings-index.is (c.loop-index.invariant.lined s is) (c.in-Ok.ensures.ok s is);
}

pub returns-in-Err-clause-err : goal.returns-in-Err-clause-err
returns-in-Err-clause-err c = λ s is.
    first_fault s c.args.postings.now c.loop-index.index c.index-postings-index.result
    c.loop-index.lines.lines.items c.in-Err.stop (omega arith) c.index-postings-index.is
    (c.loop-index.invariant.lined s is) (c.in-Err.ensures.err s is)

pub returns-clause-ok : goal.returns-clause-ok
returns-clause-ok c = λ s is.
    let ps = c.args.postings.now in
    let i = c.loop-index.index in
    subst (AreLined s (reverse ps)) (sym c.into_vec.ensures)
    (subst (λ qs. AreLined s (reverse qs) c.loop-index.lines.lines.items)
    (take_all i ps (omega (arith, c.loop-index-test.false))) (c.loop-index.invariant.lined s is))
