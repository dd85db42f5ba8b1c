use Rattle.std.proofs.Common.{◌≡◌, get_or, refl, sym, ◌∙◌, arith}
use Rattle.std.specs.List.{prefix_len}
use Rattle.bean_lexer.specs.Gap.{is_space}
use Rattle.bean_lexer.specs.declared.gaps.Spot.TheVariants as spot
use Rattle.bean_lexer.proofs.GapFacts.{begins_at, whole_gap, spaces_front}
use Rattle.expected_tokens.proofs.spaces.spaces_at.Goals as goal

pub returns-clause-gap : goal.returns-clause-gap
returns-clause-gap c =
    let bs = c.args.bytes.now in
    let len = c.end_of_run-len.result in
    let is = c.end_of_run-len.ensures.run in
    let run : len ≡ prefix_len is_space bs = omega (arith, is) in
    let front = spaces_front bs len run in
    whole_gap spot.Behind bs spot.Behind len 0 front (omega arith)
    (begins_at spot.Behind (get_or bs len 0)
    (sym c.begins_token.ensures ∙ c.if-not-begins_token.false) refl refl)
