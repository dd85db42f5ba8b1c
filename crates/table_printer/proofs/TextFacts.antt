-- Texts that are written piece by piece.
use Rattle.std.proofs.Common.{◌≡◌, ℕ, ◌+◌, List, [], ◌++◌, length, arith, refl, sym, subst}
use Rattle.outputs.proofs.PieceFacts.{joined, one_piece}
use Rattle.outputs.specs.Output.{TookFront, TookInPieces, no_call}
use Rattle.outputs.specs.declared.output.Output.{Ghosts as OutputOf}

module _ {W : Type 0} (o : OutputOf W) (start : W) where
  -- nothing was written yet
  pub nothing : TookInPieces o start start [] 0
  nothing = record {
    within = omega arith;
    middle = start;
    took = no_call start;
    refused = λ lt. absurd (omega (arith, lt));
    whole = λ _. refl;
    counted = refl;
  }

  -- a piece behind those that were taken whole
  pub next : (now after : W) (before piece : List ℕ) (written n : ℕ)
      → TookInPieces o start now before written → written ≡ length before
      → TookFront o now after piece n → TookInPieces o start after (before ++ piece) (written + n)
  next now after before piece written n took whole more =
      subst (λ k. TookInPieces o start after (before ++ piece) (k + n)) (sym whole)
      (joined o start now after before piece n
      (subst (TookInPieces o start now before) whole took)
      (one_piece o now after piece n more))
