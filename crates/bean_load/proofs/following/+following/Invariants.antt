use Rattle.std.proofs.Common.{◌+◌, ◌*◌, drop}
use Rattle.bean_load.proofs.LineFacts.{Continues}
use Rattle.bean_load.proofs.following.+following.Given as goal

abbrev pub decreases-follow_line : goal.decreases-follow_line
decreases-follow_line g l = 3 * l.room

abbrev pub decreases-follow_lines : goal.decreases-follow_lines
decreases-follow_lines g l = 3 * l.room + 1

abbrev pub decreases-follow_text : goal.decreases-follow_text
decreases-follow_text g l = 3 * l.room + 2

-- what comes of the lines that are left completes what came of those before them
abbrev pub invariant-follow_lines-loop-line : goal.invariant-follow_lines-loop-line
invariant-follow_lines-loop-line g l =
    Continues g.S.Source l.fn.source l.source l.room l.file l.lines l.fn.gathering
    (drop l.line-index l.lines) l.gathering
