use Rattle.std.proofs.Common.{◌≡◌, ◌++◌, drop, map}
use Rattle.requests.proofs.words.slices.Given as goal

-- what is there so far, with those that are left, is what is there in all
abbrev pub invariant-loop-text : goal.invariant-loop-text
invariant-loop-text l =
    l.list ++ map (λ t. t.now) (drop l.text-index l.texts) ≡ map (λ t. t.now) l.texts
