use Rattle.std.proofs.Common.{◌≡◌, rules, FitsSigned, refl, sym}
use Rattle.std.proofs.lemmas.Int.{to_z-of_z}
use Rattle.std.specs.Int.{w64}
use Rattle.bean_base.specs.declared.num.Num.{Num}
use Rattle.bean_postings.proofs.WrittenPostingFacts.{amount_of, on_line_alike}
use Rattle.bean_postings.proofs.written_posting.WrittenPosting.of_small.Goals as goal

pub returns : goal.returns
returns c =
    let small = c.args.number in
    let f : FitsSigned w64 small.count = search rules in
    let line : c.in_ok-line.line ≡ c.args.line = search rules in
    let whole : Num = record {
      count = small.count;
      places = small.places;
      in_range = small.in_range;
      small = small.small;
    } in (
      whole,
      refl,
      refl,
      on_line_alike _ _ _ _ _
          (sym (amount_of _ c.in_ok-line.line _ _ _ _ whole (sym (to_z-of_z w64 small.count f)) refl))
          line,
    )
