use Rattle.std.proofs.Common.{◌≡◌, ◌+◌, arith, refl, sym, subst}
use Rattle.std.specs.Str.{IsCharBoundary}
use Rattle.std.proofs.lemmas.Str.{IsCharBoundary-start}
use Rattle.bean_lexer.specs.Gap.{gap_len, spot_at}
use Rattle.bean_lexer.proofs.BoundaryFacts.{gap_boundary}
use Rattle.expected_tokens.proofs.taking.behind.Goals as goal

pub split_at-requires : goal.split_at-requires
split_at-requires c =
    let rest = c.args.rest.now in
    let spot = spot_at c.args.place in
    let is = c.requires.gap in
    let gap : c.args.gap.len ≡ 0 + gap_len spot rest = omega (arith, is) in
    subst (IsCharBoundary rest) (sym gap)
    (gap_boundary rest rest 0 spot refl (omega arith) c.utf8.rest
    (λ _. IsCharBoundary-start rest c.utf8.rest))
