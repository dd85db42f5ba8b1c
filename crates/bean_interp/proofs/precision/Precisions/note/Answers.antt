use Rattle.std.proofs.Common.{◌≤◌, ◌∙◌, Some, ap, cond, sym, subst}
use Rattle.std.specs.Map.{lookup}
use Rattle.std.specs.Str.{bytes_eq}
use Rattle.bean_interp.specs.Tolerance.{lesser}
use Rattle.bean_interp.proofs.EntryFacts.{AllValues, all_insert, unchanged}
use Rattle.bean_interp.proofs.precision.Precisions.note.Goals as goal

pub invariant_of-self-2 : goal.invariant_of-self-2
invariant_of-self-2 c =
    subst (AllValues (λ d. d ≤ 8)) (sym c.in_ok-insert.ensures.entries)
    (all_insert (λ d. d ≤ 8) c.self.inside.by_currency.entries c.lend.result c.lesser.result
    c.self.invariant c.lesser.ensures.few)

pub returns : goal.returns
returns c = λ other.
    let least = c.lesser.ensures.is ∙ ap (lesser c.args.decimals) c.of-least.ensures.is in
    c.in_ok-insert.ensures.updates.0 other
    ∙ (λ i. cond (bytes_eq (c.lend.ensures i) other) (Some (least i))
    (lookup (bytes_eq other) (c.self.view_is i)))

pub returns-then-are_no_less : goal.returns-then-are_no_less
returns-then-are_no_less c = λ other.
    let stays = c.are_no_less.ensures c.if-are_no_less.true in
    let least = c.of-least.ensures.is in
    unchanged c.args.self.now c.args.currency.now other _
    (ap (λ o. Some (lesser c.args.decimals o)) (sym least) ∙ stays ∙ least)
