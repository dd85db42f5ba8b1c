-- The versions of query files: their numbers, and how many postings a ledger may have for each.
use Rattle.std.specs.Prelude.{ℕ, Option, Some, None, if◌then◌else◌, ◌==◌}
use Rattle.limits.specs.declared.bounds.Version.{Version}
use Rattle.limits.specs.declared.bounds.Version.TheVariants.{First, Second}
use Rattle.limits.specs.declared.counts.TheConstants.{FIRST_MOST_POSTINGS, MOST_POSTINGS}

abbrev pub most_postings : Version → ℕ
most_postings First = FIRST_MOST_POSTINGS
most_postings Second = MOST_POSTINGS

abbrev pub number : Version → ℕ
number First = 1
number Second = 2

abbrev pub numbered : ℕ → Option Version
numbered n =
    if n == number First then Some First else if n == number Second then Some Second else None
