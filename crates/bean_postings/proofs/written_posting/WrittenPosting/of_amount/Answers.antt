use Rattle.std.proofs.Common.{◌≡◌, rules, FitsSigned, refl, sym, ◌∙◌}
use Rattle.std.proofs.lemmas.Int.{to_z-of_z}
use Rattle.std.specs.Int.{w64}
use Rattle.bean_postings.proofs.WrittenPostingFacts.{amount_of, on_line_alike}
use Rattle.bean_postings.proofs.written_posting.WrittenPosting.of_amount.Goals as goal

pub returns : goal.returns
returns c =
    let f : FitsSigned w64 c.in_ok-count.count = search rules in
    let count : c.args.number.count ≡ c.in_ok-count.count = search rules in
    let line : c.in_ok-line.line ≡ c.args.line = search rules in
    on_line_alike _ _ _ _ _
    (sym (amount_of _ c.in_ok-line.line _ _ _ _ c.args.number (count ∙ sym (to_z-of_z w64 c.in_ok-count.count f))
    refl)) line
