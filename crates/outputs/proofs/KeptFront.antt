-- What an output of memory has, once it took a front of some bytes.
use Rattle.std.proofs.Common.{◌≡◌, ℕ, ◌<◌, ◌≤◌, ◌⊎◌, List, ◌++◌, Result, Ok, Err, false, true≢false}
use Rattle.std.proofs.Common.{inl, inr, length, take, arith, sym, subst, ap, ◌∙◌}
use Rattle.std.proofs.Common.{append_assoc, ⊎_elim}
use Rattle.std.proofs.lemmas.List.{append-nil}
use Rattle.std.proofs.lemmas.Bool.{cases_lt}
use Rattle.outputs.specs.Holding.{Holding}
use Rattle.outputs.specs.Output.{Took, no_call, one_more}
use Rattle.outputs.specs.ShortWriter.{AnswersShort, KeepsFront, TakesNothing, short_writer}
use Rattle.outputs.specs.declared.output.NotTaken.{NotTaken}

keeps : (start after : Holding) (bytes : List ℕ) → Took short_writer start after bytes
    → after.taken ≡ start.taken ++ bytes
keeps start after bytes (no_call w) = sym (append-nil w.taken)
keeps start after bytes (one_more first middle last before offered n rest told) =
    told.2 ∙ ap (λ l. l ++ take n offered) (keeps first middle before rest)
    ∙ append_assoc first.taken before (take n offered)

at_limit : (before w : Holding) (bytes : List ℕ) → 0 < length bytes → TakesNothing before bytes w
    → w.taken ≡ before.taken → w.limit ≡ before.limit → w.starved ≡ false → w.limit ≤ length w.taken
at_limit before w bytes some (inl full) taken limit fed =
    subst (λ l. w.limit ≤ length l) (sym taken) (omega (arith, some, full.0, limit))
at_limit before w bytes some (inr starved) taken limit fed =
    absurd (true≢false (sym starved.1 ∙ fed))

-- a refused call takes nothing, and is made at the limit or for want of memory
refused : (before w : Holding) (bytes : List ℕ) (answer : Result ℕ NotTaken) → 0 < length bytes
    → (answer ≡ Ok 0) ⊎ ((e : NotTaken) × (answer ≡ Err e)) → AnswersShort before bytes answer w
    → (w.taken ≡ before.taken) × (w.starved ≡ false → w.limit ≤ length w.taken)
refused before w bytes answer some (inl none) told =
    let some_taken = subst (λ a. AnswersShort before bytes a w) none told in
    absurd (omega (arith, some_taken.0))
refused before w bytes answer some (inr failed) told =
    let nothing = subst (λ a. AnswersShort before bytes a w) failed.1 told in
    (nothing.1, λ fed. at_limit before w bytes some nothing.0 nothing.1 nothing.2 fed)

pub keeps_front : KeepsFront
keeps_front start after bytes n t = ⊎_elim short whole (cases_lt n (length bytes))
  where
    to_middle : t.middle.taken ≡ start.taken ++ take n bytes
    to_middle = keeps start t.middle (take n bytes) t.took

    short : n < length bytes
        → (after.taken ≡ start.taken ++ take n bytes)
        × (n < length bytes → after.starved ≡ false → after.limit ≤ length after.taken)
    short lt =
        let r = t.refused lt in
        let end =
        refused t.middle after r.offered r.refuses.answer r.some r.refuses.nothing r.refuses.told in
        (end.0 ∙ to_middle, λ _. end.1)

    whole : length bytes ≤ n
        → (after.taken ≡ start.taken ++ take n bytes)
        × (n < length bytes → after.starved ≡ false → after.limit ≤ length after.taken)
    whole le = (
      ap (λ (w : Holding). w.taken) (t.whole (omega (arith, t.within, le)))
          ∙ to_middle,
      λ lt. absurd (omega (arith, lt, le)),
    )
