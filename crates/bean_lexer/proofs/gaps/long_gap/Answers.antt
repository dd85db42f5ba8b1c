use Rattle.std.proofs.Common.{◌≡◌, ◌+◌, get_or, drop, arith, sym, ap, subst, ◌∙◌}
use Rattle.std.proofs.lemmas.List.{get_or-drop}
use Rattle.std.specs.List.{prefix_len}
use Rattle.bean_lexer.specs.Gap.{is_space}
use Rattle.bean_lexer.proofs.GapFacts.{IsFront, over_spaces}
use Rattle.bean_lexer.proofs.gaps.long_gap.Goals as goal

pub loop-len-preserved-then-bytes-len-eq32 : goal.loop-len-preserved-then-bytes-len-eq32
loop-len-preserved-then-bytes-len-eq32 c =
    let bs = c.args.bytes.now in
    let at = c.loop-len.len in
    let before = c.loop-len.invariant in
    let here : at + 0 ≡ at = omega arith in
    let first : get_or (drop at bs) 0 0 ≡ 32 =
    get_or-drop at bs 0 0 ∙ ap (λ n. get_or bs n 0) here ∙ c.if-bytes-len-eq32.true in
    let front : IsFront c.args.start bs c.loop-len.end at c.loop-len.line_feeds =
    record { gap = before.gap; behind = before.behind; feeds = before.feeds } in
    let on = over_spaces c.args.start bs c.loop-len.end at c.loop-len.line_feeds front first in
    let moved =
    subst (λ n. IsFront c.args.start bs c.behind_white-end.result n c.loop-len.line_feeds)
    (sym c.end_of_run-len.ensures.run)
    (subst (λ spot. IsFront c.args.start bs spot (at + prefix_len is_space (drop at bs)) c.loop-len.line_feeds)
    (sym c.behind_white-end.ensures) on) in
    record {
      inside = c.end_of_run-len.ensures.inside;
      gap = moved.gap;
      behind = moved.behind;
      feeds = moved.feeds;
    }
