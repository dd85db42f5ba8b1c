use Rattle.std.proofs.Common.{◌≡◌, false, take}
use Rattle.std.specs.List.{list_any}
use Rattle.query_values.specs.Pattern.{is_found}
use Rattle.query_values.proofs.membership.some_matches.Given as goal

abbrev pub invariant-loop-text : goal.invariant-loop-text
invariant-loop-text l =
    (l.finder ≡ l.fn.finder) × (list_any (is_found l.fn.finder) (take l.text-index l.texts) ≡ false)
