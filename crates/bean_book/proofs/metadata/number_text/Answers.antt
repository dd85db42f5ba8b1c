use Rattle.std.proofs.Common.{◌++◌, ◌∙◌, ap, arith, subst, sym}
use Rattle.std.specs.Str.{IsAscii}
use Rattle.number_texts.proofs.PrintableFacts.{is_ascii, printable_number}
use Rattle.bean_book.specs.Metadata.{num_text}
use Rattle.bean_book.proofs.metadata.number_text.Goals as goal

pub made-requires : goal.made-requires
made-requires c =
    let n = c.args.number in
    let number =
    printable_number n.count n.places n.places (let small = n.small in omega (arith, small)) in
    subst IsAscii
    (sym (c.in_ok-push_num.ensures ∙ ap (λ l. l ++ num_text n) c.new-out.ensures.items))
    (is_ascii (num_text n) number)
