-- What becomes of programs, one after the other.
use Rattle.std.proofs.Common.{◌≡◌, ℕ, zero, suc, ◌+◌, ◌<◌, List, [], ◌∷◌, ◌++◌, length, map, take, get_or, sym, ap, subst, ◌∙◌}
use Rattle.std.proofs.Common.{Option, Some, None, Result, Ok, Err, refl, arith}
use Rattle.std.proofs.lemmas.List.{take_more}
use Rattle.query_fates.specs.Fates.{AreFates, IsFate, verified}
use Rattle.query_batch.specs.Rounds.{EndsAt, HaveEnded, IsEnd}
use Rattle.query_fates.specs.declared.tabulating.Fate.{Fate}
use Rattle.posting_table.specs.Ledger.{Ledger}
use Rattle.posting_table.specs.Rows.{rows_of}
use Rattle.query_answer.specs.declared.answer.Answer.{Answer}
use Rattle.query_batch.specs.Members.{answer_by, answer_in}
use Rattle.query_batch.specs.declared.member.Member.{Member}
use Rattle.query_batch.specs.declared.member.Member.TheVariants as member
use Rattle.query_machine.specs.Run.{At, Ended, Failed, Place}
use Rattle.query_machine.specs.RunOf.{IsRunOf}
use Rattle.query_machine.specs.Starts.{IsOutside, IsWithin}
use Rattle.query_machine.specs.declared.cause.RunCause.{RunCause}
use Rattle.query_machine.specs.declared.cause.RunCause.TheVariants.{OutsideBounds}
use Rattle.refusals.specs.declared.refusal.Refusal.{Refusal}
use Rattle.refusals.specs.declared.refusal.Refusal.TheVariants.{OutOfMemory, Refused}
use Rattle.verified_program.specs.declared.checked.Checked.{Checked}

-- ---- what the run of one tells

module _ (l : Ledger) (c : Checked) where
  -- it is at its end, or never begins; or memory lacked
  abbrev pub TellsEnd : Result (Option Answer) (Refusal RunCause) → Type 0
  TellsEnd (Ok (Some answer)) = IsWithin c l × IsRunOf c.program.parts (rows_of l) answer
  TellsEnd (Ok None) = ⊥
  TellsEnd (Err OutOfMemory) = IsWithin c l
  TellsEnd (Err (Refused OutsideBounds)) = IsOutside c l

  tells_at : (place : Place) → IsWithin c l → EndsAt l c place → TellsEnd (answer_by place)
  tells_at (At steps) within ends = absurd ends
  tells_at (Ended answer) within ends = (within, ends)
  tells_at Failed within ends = within

  tells : (m : Member) → IsEnd l c m → TellsEnd (answer_in m)
  tells (member.Run r) ends = tells_at r.place ends.0 ends.1
  tells member.OutsideBounds outside = outside

  pub told_end : (m : Member) (told : Result (Option Answer) (Refusal RunCause)) → IsEnd l c m
      → answer_in m ≡ told → TellsEnd told
  told_end m told ends is = subst TellsEnd is (tells m ends)

-- ---- the runs

pub as_many : (l : Ledger) (programs : List Checked) (runs : List Member)
    → HaveEnded l programs runs → length runs ≡ length programs
as_many l [] [] have = refl
as_many l [] (m ∷ runs) have = absurd have
as_many l (c ∷ programs) [] have = absurd have
as_many l (c ∷ programs) (m ∷ runs) have = ap (λ x. suc x) (as_many l programs runs have.1)

pub end_at : (l : Ledger) (programs : List Checked) (runs : List Member) (i : ℕ) (c : Checked)
    (m : Member) → HaveEnded l programs runs → i < length programs → c ≡ get_or programs i c
    → m ≡ get_or runs i m → IsEnd l c m
end_at l [] runs i c m have there of at = absurd (omega (arith, there))
end_at l (p ∷ programs) [] i c m have there of at = absurd have
end_at l (p ∷ programs) (r ∷ runs) zero c m have there of at =
    subst (λ x. IsEnd l x m) (sym of) (subst (λ x. IsEnd l p x) (sym at) have.0)
end_at l (p ∷ programs) (r ∷ runs) (suc i) c m have there of at =
    end_at l programs runs i c m have.1 (omega (arith, there)) of at

-- ---- one more program

one_more : (l : Ledger) (programs : List Checked) (fates : List Fate) (c : Checked) (f : Fate)
    → AreFates l (map verified programs) fates → IsFate l (verified c) f
    → AreFates l (map verified (programs ++ c ∷ [])) (fates ++ f ∷ [])
one_more l [] [] c f are is = (is, tt)
one_more l [] (x ∷ fates) c f are is = absurd are
one_more l (p ∷ programs) [] c f are is = absurd are
one_more l (p ∷ programs) (x ∷ fates) c f are is = (are.0, one_more l programs fates c f are.1 is)

pub fate_next : (l : Ledger) (programs : List Checked) (fates more : List Fate) (i : ℕ) (c : Checked)
    (f : Fate) → i < length programs → c ≡ get_or programs i c → more ≡ fates ++ f ∷ []
    → AreFates l (map verified (take i programs)) fates → IsFate l (verified c) f
    → AreFates l (map verified (take (i + 1) programs)) more
fate_next l programs fates more i c f there at grown are is =
    subst (λ fs. AreFates l (map verified (take (i + 1) programs)) fs) (sym grown)
    (subst (λ cs. AreFates l (map verified cs) (fates ++ f ∷ []))
    (ap (λ x. take i programs ++ x ∷ []) at ∙ sym (take_more programs i c there))
    (one_more l (take i programs) fates c f are is))
