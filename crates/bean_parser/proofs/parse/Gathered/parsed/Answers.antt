use Rattle.bean_parser.proofs.ParsedFacts.{come_to}
use Rattle.bean_parser.proofs.parse.Gathered.parsed.Goals as goal
use Rattle.std.proofs.Common.{◌∙◌, sym, ap, subst, ◌++◌, []}
use Rattle.bean_parser.specs.Parsed.{AreByLine}
use Rattle.bean_pushes.specs.Scope.{unmatched, with_pushes}

pub returns : goal.returns
returns c = λ os is.
    let g = c.args.self in
    let bounds = c.as_slice-bounds.ensures.value in
    let ds = c.in_ok-directives.directives.items in
    come_to os g _ _ _ _ is (c.new.ensures ∙ c.in_ok-give_all.ensures
    ∙ ap (λ bs. with_pushes [] bs ds) bounds
    ∙ ap (with_pushes [] g.bounds.items) c.in_ok-directives.ensures) c.new-2.ensures
    (c.in_ok-add_unmatched.ensures ∙ ap (λ bs. g.faults.items ++ unmatched [] bs) bounds)
    (subst (λ fs. AreByLine c.add_unmatched.new.faults.items fs) (sym c.new-3.ensures)
    c.in_ok-sort_by_line.ensures)
