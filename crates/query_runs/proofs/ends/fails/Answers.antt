use Rattle.std.proofs.Common.{◌∙◌, refl, sym}
use Rattle.query_runs.specs.Stands.{kept_in, rows_in}
use Rattle.query_runs.proofs.Ending.{filter_next, filter_passes}
use Rattle.query_runs.proofs.ends.fails.Goals as goal

pub returns-then-not-passes-clause-fails : goal.returns-then-not-passes-clause-fails
returns-then-not-passes-clause-fails c = λ is.
    filter_next c.args.input.now.parts.now (rows_in c.args.input.now) c.args.run.now.row
    (kept_in c.args.run.now) c.args.run.now.frame.stack.values c.requires.there
    c.requires.fine c.pop.new.self.values c.pop.result c.next_row.new.run.row
    (kept_in c.next_row.new.run) c.pop.ensures.values
    (sym c.is_true-passes.ensures ∙ c.if-not-passes.true) c.next_row.ensures.row
    c.next_row.ensures.kept

pub returns-clause-passes : goal.returns-clause-passes
returns-clause-passes c = λ is.
    filter_passes c.args.input.now.parts.now (rows_in c.args.input.now) c.args.run.now.row
    (kept_in c.args.run.now) c.args.run.now.frame.stack.values c.requires.there
    c.requires.fine c.pop.new.self.values c.pop.result c.args.run.now.row
    (kept_in c.args.run.now) c.pop.ensures.values
    (sym c.is_true-passes.ensures ∙ c.if-not-passes.false) refl refl
