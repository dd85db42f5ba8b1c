-- What a store of memory gave, call by call.
use Rattle.std.proofs.Common.{◌≡◌, ◌∙◌, ℕ, List, [], ◌∷◌, Result, Ok, Err, ap, refl, subst}
use Rattle.stores.specs.Reading.{Reading}
use Rattle.stores.specs.Shelf.{Shelf}
use Rattle.stores.specs.Source.{Answered, no_call, one_more}
use Rattle.stores.specs.MemoryStore.{FindsAll, GivesWhatItHolds, asked_of, memory_source, next_call}
use Rattle.stores.specs.declared.source.SourceFault.{SourceFault}
use Rattle.stores.specs.declared.source.SourceFault.TheVariants.{Failed, OutOfMemory}

-- behind a call the same is found
still : (s : Shelf) (name : List ℕ) (answer : Result (List ℕ) SourceFault) (call : ℕ)
    (readings : List Reading) → FindsAll (asked_of s name answer) call readings
    → FindsAll s call readings
still s name answer call [] finds = tt
still s name answer call ((n, Ok bytes) ∷ rest) finds =
    (finds.0, still s name answer (next_call call) rest finds.1)
still s name answer call ((n, Err Failed) ∷ rest) finds =
    (finds.0, still s name answer (next_call call) rest finds.1)
still s name answer call ((n, Err OutOfMemory) ∷ rest) finds =
    (finds.0, still s name answer (next_call call) rest finds.1)

answered : (first last : Shelf) (readings : List Reading)
    → Answered memory_source first last readings → FindsAll first (next_call first.calls) readings
answered _ _ _ (no_call s) = tt
answered _ _ _ (one_more first middle last name answer rest gives more) =
    let now =
    subst (λ (m : Shelf). FindsAll m (next_call m.calls) rest) gives.1
    (answered middle last rest more) in
    (gives.0, still first name answer (next_call (next_call first.calls)) rest now)

-- and nothing of it goes
stays : (first last : Shelf) (readings : List Reading)
    → Answered memory_source first last readings
    → (last.files ≡ first.files) × (last.kept ≡ first.kept)
stays _ _ _ (no_call s) = (refl, refl)
stays _ _ _ (one_more first middle last name answer rest gives more) =
    let behind = stays middle last rest more in (
      behind.0 ∙ ap (λ (s : Shelf). s.files) gives.1,
      behind.1 ∙ ap (λ (s : Shelf). s.kept) gives.1,
    )

pub gives_what_it_holds : GivesWhatItHolds
gives_what_it_holds old new readings gave = record {
  finds = answered old new readings gave.answered;
  files = (stays old new readings gave.answered).0;
  kept = (stays old new readings gave.answered).1;
  told = gave.told;
  counted = gave.counted;
}
