-- What it comes to that a source is asked.
use Rattle.std.proofs.Common.{◌≡◌, ℕ, true, List, [], ◌∷◌, Result, Ok, Err, sym, subst, length}
use Rattle.std.specs.Prelude.{IsErrAnd}
use Rattle.stores.specs.Reading.{Reading}
use Rattle.stores.specs.Source.{Gave}
use Rattle.stores.specs.declared.source.Source.{Ghosts as SourceOf}
use Rattle.bean_load.specs.Asking.{AddsBytes, Asks}
use Rattle.bean_load.specs.Gathered.{Gathered, is_too_large, with_asked}
use Rattle.refusals.specs.declared.refusal.Refusal.{Refusal}
use Rattle.bean_load.specs.declared.cause.LoadCause.{LoadCause}
use Rattle.bean_load.specs.declared.cause.LoadCause.TheVariants.{Unreadable, NotUtf8, TooLarge}
use Rattle.refusals.specs.declared.refusal.Refusal.TheVariants.{OutOfMemory, Refused}
use Rattle.bean_load.specs.declared.gathering.SourceAnswer.{SourceAnswer}

pub lacking :
    {S : Type 0} (s : SourceOf S) (a b : S) (name : List ℕ) (before after : Gathered)
    (readings : List Reading) (result : Result SourceAnswer (Refusal LoadCause))
    → Gave s a b readings → IsErrAnd result (λ fault. fault ≡ OutOfMemory)
    → Asks s a b name before after result
lacking s a b name before after readings (Ok x) gave h = absurd h
lacking s a b name before after readings (Err fault) gave h =
    subst (λ f. Asks s a b name before after (Err f)) (sym h) (readings, gave)

pub too_large :
    {S : Type 0} (s : SourceOf S) (a b : S) (name : List ℕ) (before mid after : Gathered)
    (bytes : List ℕ) (n : ℕ) (fault : Refusal LoadCause) (result : Result SourceAnswer (Refusal LoadCause))
    → Gave s a b ((name, Ok bytes) ∷ []) → n ≡ length bytes → mid ≡ with_asked name before
    → AddsBytes n mid after (Err fault) → IsErrAnd result (λ f. f ≡ fault)
    → Asks s a b name before after result
too_large s a b name before mid after bytes n fault (Ok x) gave len is adds h = absurd h
too_large s a b name before mid after bytes n (Refused Unreadable) (Err f) gave len is adds h = absurd adds
too_large s a b name before mid after bytes n (Refused NotUtf8) (Err f) gave len is adds h = absurd adds
too_large s a b name before mid after bytes n OutOfMemory (Err f) gave len is adds h = absurd adds
too_large s a b name before mid after bytes n (Refused TooLarge) (Err f) gave len is adds h =
    let large : is_too_large (length bytes) before ≡ true =
    subst (λ m. is_too_large m before
    ≡ true) len (subst (λ z. is_too_large n z ≡ true) is adds) in
    subst (λ f. Asks s a b name before after (Err f)) (sym h) (bytes, gave, large)
