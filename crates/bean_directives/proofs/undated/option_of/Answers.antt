use Rattle.bean_directives.proofs.UndatedFacts.{ignored}
use Rattle.bean_directives.proofs.undated.option_of.Goals as goal
use Rattle.std.proofs.Common.{◌≡◌, false, sym, ◌∙◌, ap}
use Rattle.std.specs.Prelude.{codes}
use Rattle.std.specs.Str.{bytes_eq}

pub returns : goal.returns
returns c =
    let name = c.args.name in
    let first : bytes_eq name (codes "title") ≡ false =
    ap (bytes_eq name) (sym c.new.ensures) ∙ sym c.eq.ensures ∙ c.if-eq.false in
    let second : bytes_eq name (codes "operating_currency") ≡ false =
    ap (bytes_eq name) (sym c.new-2.ensures) ∙ sym c.eq-2.ensures ∙ c.if-eq-2.false in
    let third : bytes_eq name (codes "booking_method") ≡ false =
    ap (bytes_eq name) (sym c.new-3.ensures) ∙ sym c.eq-3.ensures ∙ c.if-eq-3.false in
    ignored name c.args.value first second third
