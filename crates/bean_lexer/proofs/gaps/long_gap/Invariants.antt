use Rattle.std.proofs.Common.{◌≡◌, ◌+◌, ◌-◌, ◌≤◌, length, take, drop}
use Rattle.std.specs.List.{count_by}
use Rattle.bean_lexer.specs.Gap.{is_line_feed, gap_len, behind_gap}
use Rattle.bean_lexer.proofs.gaps.long_gap.Given as goal

abbrev pub invariant-loop-len : goal.invariant-loop-len
invariant-loop-len l = record {
  inside : l.len ≤ length l.bytes;
  gap : l.len + gap_len l.end (drop l.len l.bytes) ≡ gap_len l.fn.start l.bytes;
  behind : behind_gap l.end (drop l.len l.bytes) ≡ behind_gap l.fn.start l.bytes;
  feeds : l.line_feeds ≡ count_by is_line_feed (take l.len l.bytes);
}

abbrev pub decreases-loop-len : goal.decreases-loop-len
decreases-loop-len l = length l.bytes - l.len
