use Rattle.std.proofs.Common.{◌≡◌, ◌≤◌, ℕ, Option, Some, None, List, ap, position, subst, sym, ◌∙◌}
use Rattle.std.specs.Prelude.{IfSome}
use Rattle.std.specs.Map.{keys_of, lookup}
use Rattle.indexmap.proofs.MapLemmas.{Found-position}
use Rattle.std.specs.Str.{bytes_eq}
use Rattle.bean_interp.proofs.EntryFacts.{AllValues, all_at}
use Rattle.bean_interp.proofs.precision.Precisions.of.Goals as goal

few : (es : List (List ℕ × ℕ)) (c : List ℕ) (o : Option ℕ) → AllValues (λ d. d ≤ 8) es
    → o ≡ lookup (bytes_eq c) es → IfSome o (λ d. d ≤ 8)
few es c (Some d) all is = all_at (λ d. d ≤ 8) es c d all (sym is)
few es c None all is = tt

pub returns-clause-few : goal.returns-clause-few
returns-clause-few c =
    few c.self.inside.by_currency.entries c.args.currency.now c.copied.result c.self.invariant
    (c.copied.ensures ∙ c.get.ensures.value)

pub returns-then-is_first-clause-is : goal.returns-then-is_first-clause-is
returns-then-is_first-clause-is c =
    let es = c.self.inside.by_currency.entries in
    let name = c.args.currency.now in
    let at =
    subst (λ es. position (bytes_eq name) (keys_of es) ≡ Some 0) (sym c.self.view_is)
    (c.is_first.ensures c.if-is_first.true) in
    sym ((Found-position (bytes_eq name) es 0 at).value ∙ c.index.ensures)
    ∙ ap (lookup (bytes_eq name)) c.self.view_is

pub returns-then-is_first-clause-few : goal.returns-then-is_first-clause-few
returns-then-is_first-clause-few c =
    let es = c.self.inside.by_currency.entries in
    let name = c.args.currency.now in
    let at =
    subst (λ es. position (bytes_eq name) (keys_of es) ≡ Some 0) (sym c.self.view_is)
    (c.is_first.ensures c.if-is_first.true) in
    few es name (Some c.index.result.now) c.self.invariant
    (sym ((Found-position (bytes_eq name) es 0 at).value ∙ c.index.ensures))
