use Rattle.std.proofs.Common.{◌≡◌, Some, position, subst, sym, ◌∙◌}
use Rattle.std.specs.Map.{keys_of}
use Rattle.std.specs.Str.{bytes_eq}
use Rattle.bean_interp.proofs.EntryFacts.{placed}
use Rattle.bean_interp.proofs.precision.Precisions.is_first.Goals as goal

pub returns-in-Some : goal.returns-in-Some
returns-in-Some c = λ same.
    subst (λ es. position (bytes_eq c.args.currency.now) (keys_of es) ≡ Some 0) c.self.view_is
    (placed c.self.inside.by_currency.entries c.args.currency.now c.in-Some.first.now 0
    c.in-Some.field-0-1.now c.len-currencies.ensures.unique (sym c.in-Some.ensures.entry) (sym c.eq.ensures ∙ same))
