use Rattle.arranging.proofs.PlaceFacts.{AreSoFar}
use Rattle.query_answer.proofs.places.places_of.Given as goal

abbrev pub invariant-loop-place : goal.invariant-loop-place
invariant-loop-place l = AreSoFar l.numbers l.places.items
