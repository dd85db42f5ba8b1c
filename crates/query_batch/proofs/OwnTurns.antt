-- Each run of a batch stands where its own turns lead.
use Rattle.std.proofs.Common.{◌≡◌, ◌≢◌, ℕ, zero, suc, ◌≤◌, List, [], ◌∷◌, length, Option, Some, None, Bool, true}
use Rattle.std.proofs.Common.{false, cond, refl, sym, ap, subst, ◌∙◌}
use Rattle.std.specs.Prelude.{nat_eq, slice_get, slice_set, Result, Ok, Err}
use Rattle.std.proofs.lemmas.Bool.{eqb-true, eqb-false}
use Rattle.std.proofs.lemmas.Option.{slice_get_past}
use Rattle.query_batch.specs.Batch.{AreOwnTurns, AreTurns, IsTurn, StandsByItsOwn, TakesTurn}
use Rattle.query_batch.specs.Batch.{TurnsAreOnesOwn, own}
use Rattle.query_batch.specs.Members.{IsTurnedMember}
use Rattle.query_batch.specs.declared.cause.BatchCause.{BatchCause}
use Rattle.query_batch.specs.declared.cause.BatchCause.TheVariants.{NoSuchRun}
use Rattle.query_batch.specs.declared.member.Member.{Member}
use Rattle.query_batch.specs.declared.member.Member.TheVariants as member
use Rattle.posting_table.specs.Rows.{rows_of}
use Rattle.query_machine.specs.Run.{Run}
use Rattle.query_machine.specs.Turns.{AreTurned, IsTurned}
use Rattle.query_machine.specs.declared.turn.Turn.{Turn}

-- ---- no turn

stays : (m : Option Member) → StandsByItsOwn [] m m
stays None = refl
stays (Some member.OutsideBounds) = refl
stays (Some (member.Run r)) = record { parts = refl; ledger = refl; turned = refl }

-- ---- a turn of its own first

more : (k : ℕ) (ks : List ℕ) (old mid new : Run) (told : Turn) → IsTurned k old mid told
    → AreOwnTurns ks mid new → AreOwnTurns (k ∷ ks) old new
more k ks old mid new told first rest = record {
  parts = rest.parts ∙ first.parts;
  ledger = rest.ledger ∙ first.ledger;
  turned = (
    mid.place,
    first.moves,
    subst (λ p. AreTurned p (rows_of old.ledger) ks mid.place new.place) first.parts
        (subst (λ l. AreTurned mid.parts (rows_of l) ks mid.place new.place) first.ledger
        rest.turned),
  );
}

turned_first : (k : ℕ) (ks : List ℕ) (before after : Member) (new : Option Member) (told : Turn)
    → IsTurnedMember k before after told → StandsByItsOwn ks (Some after) new
    → StandsByItsOwn (k ∷ ks) (Some before) new
turned_first k ks (member.Run old) (member.Run mid) (Some (member.Run new)) told first rest =
    more k ks old mid new told first rest
turned_first k ks (member.Run old) (member.Run mid) (Some member.OutsideBounds) told first rest =
    absurd rest
turned_first k ks (member.Run old) (member.Run mid) None told first rest = absurd rest
turned_first k ks (member.Run old) member.OutsideBounds new told first rest = absurd first
turned_first k ks member.OutsideBounds (member.Run mid) new told first rest = absurd first
turned_first k ks member.OutsideBounds member.OutsideBounds new told first rest = rest

-- ---- lists of runs

set_same : (xs : List Member) (i : ℕ) (x y : Member) → slice_get xs i ≡ Some x
    → slice_get (slice_set xs i y) i ≡ Some y
set_same [] zero x y is = absurd cc
set_same [] (suc i) x y is = absurd cc
set_same (z ∷ zs) zero x y is = refl
set_same (z ∷ zs) (suc i) x y is = set_same zs i x y is

set_other : (xs : List Member) (i j : ℕ) (y : Member) → i ≢ j
    → slice_get (slice_set xs i y) j ≡ slice_get xs j
set_other [] zero j y apart = refl
set_other [] (suc i) j y apart = refl
set_other (z ∷ zs) zero zero y apart = absurd (apart refl)
set_other (z ∷ zs) zero (suc j) y apart = refl
set_other (z ∷ zs) (suc i) zero y apart = refl
set_other (z ∷ zs) (suc i) (suc j) y apart = set_other zs i j y (λ e. apart (ap (λ n. suc n) e))

module _ (number : ℕ) where
  pub own_first : (turns : List (ℕ × ℕ)) (old new : List Member) → AreTurns turns old new
      → StandsByItsOwn (own number turns) (slice_get old number) (slice_get new number)
  own_first [] old new same =
      subst (λ xs. StandsByItsOwn [] (slice_get old number) (slice_get xs number)) (sym same)
      (stays (slice_get old number))
  own_first (t ∷ turns) old new (mid, told, takes, rest) =
      by told takes (own_first turns mid new rest)
    where
      there : (b : Bool) → nat_eq t.0 number ≡ b → (told : Turn) → IsTurn t.0 t.1 old mid told
          → StandsByItsOwn (own number turns) (slice_get mid number) (slice_get new number)
          → StandsByItsOwn (cond b (t.1 ∷ own number turns) (own number turns))
          (slice_get old number) (slice_get new number)
      there true e told turn rest =
          let same = eqb-true t.0 number e in
          subst (λ m. StandsByItsOwn (t.1 ∷ own number turns) m (slice_get new number))
          (sym turn.was ∙ ap (slice_get old) same)
          (turned_first t.1 (own number turns) turn.before turn.after (slice_get new number) told
          turn.turned
          (subst (λ m. StandsByItsOwn (own number turns) m (slice_get new number))
          (ap (λ xs. slice_get xs number) turn.is
          ∙ ap (slice_get (slice_set old t.0 turn.after)) (sym same)
          ∙ set_same old t.0 turn.before turn.after turn.was) rest))
      there false e told turn rest =
          subst (λ m. StandsByItsOwn (own number turns) m (slice_get new number))
          (ap (λ xs. slice_get xs number) turn.is
          ∙ set_other old t.0 number turn.after (eqb-false t.0 number e)) rest

      -- a number that no run has
      gone : (b : Bool) → nat_eq t.0 number ≡ b → length old ≤ t.0 → mid ≡ old
          → StandsByItsOwn (own number turns) (slice_get mid number) (slice_get new number)
          → StandsByItsOwn (cond b (t.1 ∷ own number turns) (own number turns))
          (slice_get old number) (slice_get new number)
      gone true e past same rest =
          let none = slice_get_past old number (subst (λ n. length old ≤ n) (eqb-true t.0 number e) past) in
          subst (λ m. StandsByItsOwn (t.1 ∷ own number turns) m (slice_get new number)) (sym none)
          (subst (λ m. StandsByItsOwn (own number turns) m (slice_get new number))
          (ap (λ xs. slice_get xs number) same ∙ none) rest)
      gone false e past same rest =
          subst (λ m. StandsByItsOwn (own number turns) m (slice_get new number))
          (ap (λ xs. slice_get xs number) same) rest

      by : (told : Result Turn BatchCause) → TakesTurn t.0 t.1 old mid told
          → StandsByItsOwn (own number turns) (slice_get mid number) (slice_get new number)
          → StandsByItsOwn (cond (nat_eq t.0 number) (t.1 ∷ own number turns) (own number turns))
          (slice_get old number) (slice_get new number)
      by (Ok told) turn rest = there (nat_eq t.0 number) refl told turn rest
      by (Err NoSuchRun) none rest = gone (nat_eq t.0 number) refl none.0 none.1 rest

pub own_turns : TurnsAreOnesOwn
own_turns turns old new are number = own_first number turns old new are
