use Rattle.std.proofs.Common.{ap, sym, ◌∙◌, ◌++◌}
use Rattle.std.proofs.lemmas.List.{append-nil}
use Rattle.cell_texts.proofs.Printable.{clean_printable, clean_width_printable}
use Rattle.cell_texts.proofs.cells.push_clean.Goals as goal

pub returns-then-is_plain : goal.returns-then-is_plain
returns-then-is_plain c =
    let plain = sym c.is_plain.ensures ∙ c.if-is_plain.true in record {
      text = c.in_ok-push_bytes.ensures ∙ append-nil (c.args.out.now.items ++ c.as_bytes.result.now)
          ∙ ap (λ l. c.args.out.now.items ++ l)
          (c.as_bytes.ensures.value ∙ sym (clean_printable c.args.text.now plain));
      width = sym (clean_width_printable c.args.text.now plain);
    }
