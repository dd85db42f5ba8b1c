-- Directives that wait until the block of memory is full in which their postings stand.
use Rattle.std.specs.Prelude.{ℕ, ◌≤◌, List, Option, Some, None}
use Rattle.std.specs.Prelude.{length, slice_range}
use Rattle.bean_directives.specs.Given.{with_postings}
use Rattle.bean_directives.specs.declared.directive.Directive as directives
use Rattle.bean_postings.specs.declared.posting.Posting.{Posting}
use Rattle.bean_parser.specs.declared.directives.InBlock.{InBlock}
use Rattle.bean_parser.specs.declared.directives.Waiting.{Waiting}

-- a directive that waits is given the part of a block's postings that is its own
abbrev pub completed_by : List Posting → directives.Directive → Option InBlock → directives.Directive
completed_by ps d None = d
completed_by ps d (Some p) = with_postings (slice_range ps p.first p.end) d

abbrev pub completed : List Posting → Waiting → directives.Directive
completed ps w = completed_by ps w.directive w.part

-- such a part lies in a block of so many postings
abbrev pub IsPart : ℕ → Option InBlock → Type 0
IsPart n None = Unit {0}
IsPart n (Some p) = (p.first ≤ p.end) × (p.end ≤ n)

abbrev pub IsWithin : List Posting → Waiting → Type 0
IsWithin ps w = IsPart (length ps) w.part
