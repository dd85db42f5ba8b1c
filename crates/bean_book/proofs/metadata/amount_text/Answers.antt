use Rattle.std.proofs.Common.{◌≡◌, ◌++◌, ◌∷◌, [], ap, append_assoc, arith, subst, sym, ◌∙◌}
use Rattle.std.proofs.Common.{IsTrue}
use Rattle.std.specs.Str.{IsAscii}
use Rattle.bean_base.specs.Name.{is_currency}
use Rattle.number_texts.proofs.PrintableFacts.{is_ascii, printable_number, printable_units}
use Rattle.bean_book.specs.Metadata.{num_text}
use Rattle.bean_book.proofs.metadata.amount_text.Goals as goal

pub made-requires : goal.made-requires
made-requires c =
    let a = c.args.amount.now in
    let n = a.number in
    let number =
    printable_number n.count n.places n.places (let small = n.small in omega (arith, small)) in
    let currency : c.text.result.now ≡ a.currency = c.text.ensures.text in
    let units = printable_units (num_text n) c.text.result.now number
    (subst (λ name. IsTrue (is_currency name)) (sym currency) c.text.ensures.is_currency) in
    subst IsAscii (sym (
    c.in_ok-extend_from_slice.ensures.items
    ∙ ap (λ l. l ++ c.as_bytes.result.now) c.in_ok-push.ensures.items
    ∙ ap (λ l. (l ++ 32 ∷ []) ++ c.as_bytes.result.now) (c.in_ok-push_num.ensures
    ∙ ap (λ l. l ++ num_text n) c.new-out.ensures.items)
    ∙ ap (λ l. (num_text n ++ 32 ∷ []) ++ l) c.as_bytes.ensures.value
    ∙ append_assoc (num_text n) (32 ∷ []) c.text.result.now))
    (is_ascii (num_text n ++ 32 ∷ c.text.result.now) units)
