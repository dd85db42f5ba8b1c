use Rattle.std.proofs.Common.{◌-◌, ◌&&◌, length, ap, ◌∙◌, arith}
use Rattle.std.specs.Int.{is_in_range}
use Rattle.std.specs.List.{list_all}
use Rattle.number_texts.proofs.Eights.{covered_from}
use Rattle.number_texts.proofs.plain.are_printable.Goals as goal

pub returns : goal.returns
returns g c =
    let p = is_in_range 32 126 in
    let bytes = c.args.bytes.now in
    (λ i. (c.some_are_printable.ensures ∙ ap (list_all p) c.requires.last) i
    && (c.some_are_printable-2.ensures ∙ ap (list_all p) c.requires.first) i)
    ∙ covered_from p bytes (length bytes - g.row.N) g.row.N (omega (arith, c.requires.few))
