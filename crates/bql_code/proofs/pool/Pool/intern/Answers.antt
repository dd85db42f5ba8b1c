use Rattle.std.proofs.Common.{◌++◌, ◌∷◌, [], sym, ap, ◌∙◌}
use Rattle.bql_code.specs.Kept.{entry_of}
use Rattle.bql_code.proofs.PoolFacts.{pushed_one, kept_one, behind_entries}
use Rattle.bql_code.proofs.pool.Pool.intern.Goals as goal

pub returns-in_ok-push : goal.returns-in_ok-push
returns-in_ok-push c =
    let pool = c.args.self.now in
    pushed_one pool _ (entry_of c.args.entry.now)
    (sym c.index_of.ensures.index ∙ c.if-index_of-len.true ∙ c.len.ensures)
    (behind_entries c.self.inside.entries.items c.push.new.self.items c.in_ok-again.field-0
    c.in_ok-push.ensures.items
    ∙ ap (λ es. es ++ entry_of c.in_ok-again.field-0 ∷ []) c.self.view_is
    ∙ ap (λ d. pool ++ d ∷ []) c.in_ok-again.ensures)

pub returns-else-index_of-len : goal.returns-else-index_of-len
returns-else-index_of-len c =
    kept_one c.args.self.now (entry_of c.args.entry.now)
    (λ e. c.if-index_of-len.false (c.index_of.ensures.index ∙ e ∙ sym c.len.ensures))
