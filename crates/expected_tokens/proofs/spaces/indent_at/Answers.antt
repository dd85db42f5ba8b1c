use Rattle.std.proofs.Common.{◌≡◌, get_or, drop, refl, sym, ◌∙◌, subst, arith}
use Rattle.std.proofs.lemmas.List.{get_or-drop}
use Rattle.bean_lexer.specs.declared.gaps.Spot.TheVariants as spot
use Rattle.bean_lexer.proofs.GapFacts.{IsFront, begins_at, feed_front, over_spaces, whole_gap}
use Rattle.expected_tokens.proofs.spaces.indent_at.Goals as goal

pub returns-clause-gap : goal.returns-clause-gap
returns-clause-gap c =
    let bs = c.args.bytes.now in
    let len = c.end_of_run-len.result in
    let feed = feed_front spot.Behind bs (omega arith) c.if-bytes-ne10.false in
    let space : get_or (drop 1 bs) 0 0 ≡ 32 = get_or-drop 1 bs 0 0 ∙ c.if-bytes-ne32.false in
    let front =
    subst (λ n. IsFront spot.Behind bs spot.Indent n 1) (sym c.end_of_run-len.ensures.run)
    (over_spaces spot.Behind bs spot.LineStart 1 1 feed space) in
    whole_gap spot.Behind bs spot.Indent len 1 front (omega arith)
    (begins_at spot.Indent (get_or bs len 0) (sym c.begins_token.ensures ∙ c.if-not-begins_token.false) refl refl)
