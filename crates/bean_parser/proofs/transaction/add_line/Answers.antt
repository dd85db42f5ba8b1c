use Rattle.std.proofs.Common.{sym, ◌∙◌, ap, subst}
use Rattle.bean_parser.specs.Plain.{HasSaid}
use Rattle.bean_parser.specs.Under.{with_line}
use Rattle.bean_parser.specs.declared.under.LineKind.TheVariants as kinds
use Rattle.bean_parser.proofs.transaction.add_line.Goals as goal

pub returns-in_ok-add_entry-in-Entry-Within-clause-said :
    goal.returns-in_ok-add_entry-in-Entry-Within-clause-said
returns-in_ok-add_entry-in-Entry-Within-clause-said c = λ head t others b own says _.
    let is = c.in-Entry-Within.is ∙ ap kinds.Entry c.in-Entry-Within.field-0-is in
    subst
    (λ l. HasSaid head t others (with_line b l) c.add_entry.new.directive
    c.add_entry.new.postings.items) (sym is)
    (c.in_ok-add_entry-in-Entry-Within.ensures.said head t others b own says)
