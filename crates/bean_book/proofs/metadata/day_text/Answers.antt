use Rattle.std.proofs.Common.{◌++◌, ◌∙◌, ap, subst, sym}
use Rattle.std.specs.Str.{IsAscii}
use Rattle.number_texts.proofs.PrintableFacts.{is_ascii, printable_day}
use Rattle.number_texts.specs.Digits.{day_text}
use Rattle.bean_book.proofs.metadata.day_text.Goals as goal

pub made-requires : goal.made-requires
made-requires c =
    let day = c.args.day in
    subst IsAscii
    (sym (c.in_ok-push_day.ensures ∙ ap (λ l. l ++ day_text day) c.new-out.ensures.items))
    (is_ascii (day_text day) (printable_day day))
