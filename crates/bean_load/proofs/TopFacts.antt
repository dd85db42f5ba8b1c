-- What a ledger comes to, by its top text.
use Rattle.std.proofs.Common.{◌≡◌, ℕ, true, false, List, [], ◌∷◌, ◌++◌, length, Result, Ok, Err}
use Rattle.std.proofs.Common.{refl, sym, subst}
use Rattle.std.proofs.lemmas.List.{append-nil}
use Rattle.std.specs.Prelude.{IsErrAnd}
use Rattle.std.specs.Str.{is_utf8}
use Rattle.stores.specs.Reading.{Reading}
use Rattle.stores.specs.Source.{Gave}
use Rattle.stores.specs.declared.source.Source.{Ghosts as SourceOf}
use Rattle.stores.specs.declared.source.SourceFault.{SourceFault}
use Rattle.stores.specs.declared.source.SourceFault.TheVariants as source
use Rattle.bean_load.specs.Asking.{Asks, IsTold}
use Rattle.bean_load.specs.Following.{Follows, Gathers, texts_in}
use Rattle.bean_load.specs.Gathered.{Gathered, is_too_large, nothing, texts_of, with_bytes}
use Rattle.bean_load.specs.Gathering.{Comes, TextComes}
use Rattle.bean_load.specs.Texts.{Texts}
use Rattle.refusals.specs.declared.refusal.Refusal.{Refusal}
use Rattle.bean_load.specs.declared.cause.LoadCause.{LoadCause}
use Rattle.bean_load.specs.declared.cause.LoadCause.TheVariants.{Unreadable, NotUtf8, TooLarge}
use Rattle.refusals.specs.declared.refusal.Refusal.TheVariants.{OutOfMemory, Refused}
use Rattle.bean_load.specs.declared.gathering.SourceAnswer.TheVariants as asked
use Rattle.bean_load.specs.declared.gathering.TheConstants.{DEEPEST}
use Rattle.bean_load.proofs.LineFacts.{Told, gave_more, by_true, by_false}

pub lacking :
    {S : Type 0} (s : SourceOf S) (a b : S) (name : List ℕ) (readings : List Reading)
    (result : Result Texts (Refusal LoadCause))
    → Gave s a b readings → IsErrAnd result (λ fault. fault ≡ OutOfMemory)
    → Gathers s a b name result
lacking s a b name readings (Ok x) gave h = absurd h
lacking s a b name readings (Err fault) gave h =
    subst (λ f. Gathers s a b name (Err f)) (sym h) (readings, gave)

top_failed :
    {S : Type 0} (s : SourceOf S) (a b : S) (name : List ℕ) (mid : Gathered) (fault : Refusal LoadCause)
    → Asks s a b name nothing mid (Err fault) → Gathers s a b name (Err fault)
top_failed s a b name mid (Refused Unreadable) asks = absurd asks
top_failed s a b name mid (Refused NotUtf8) asks = absurd asks
top_failed s a b name mid (Refused TooLarge) asks = (
  (name, Ok asks.0) ∷ [],
  asks.1,
  (
    Err (Refused TooLarge),
    (
      Ok asks.0,
      [],
      refl,
      by_true (is_too_large (length asks.0) nothing) _ _ asks.2
          (refl, refl),
    ),
    refl,
  ),
)
top_failed s a b name mid OutOfMemory asks = asks

pub top_refused :
    {S : Type 0} (s : SourceOf S) (a b : S) (name : List ℕ) (mid : Gathered) (fault : Refusal LoadCause)
    (result : Result Texts (Refusal LoadCause))
    → Asks s a b name nothing mid (Err fault) → IsErrAnd result (λ f. f ≡ fault)
    → Gathers s a b name result
top_refused s a b name mid fault (Ok x) asks h = absurd h
top_refused s a b name mid fault (Err f) asks h =
    subst (λ f. Gathers s a b name (Err f)) (sym h) (top_failed s a b name mid fault asks)

came : (name bytes : List ℕ) (mid : Gathered) (readings : List Reading)
    (end : Result Gathered (Refusal LoadCause))
    → is_too_large (length bytes) nothing ≡ false → is_utf8 bytes ≡ true
    → mid ≡ with_bytes name bytes nothing
    → ((rest : List Reading) → TextComes DEEPEST name bytes mid (readings ++ rest) rest end)
    → Comes name ((name, Ok bytes) ∷ readings) end
came name bytes mid readings end fits utf8 is come = (
  Ok bytes,
  readings,
  refl,
  by_false (is_too_large (length bytes) nothing) _ _ fits (by_true (is_utf8 bytes) _ _ utf8
      (subst (λ z. TextComes DEEPEST name bytes z readings [] end) is
      (subst (λ rs. TextComes DEEPEST name bytes mid rs [] end) (append-nil readings)
      (come [])))),
)

pub top_stands :
    {S : Type 0} (s : SourceOf S) (a b c : S) (name bytes : List ℕ) (mid after : Gathered)
    → Told s a b name nothing mid bytes
    → Follows {T = Unit} s b c (TextComes DEEPEST name bytes mid) after (Ok tt)
    → Gathers s a c name (Ok (texts_of after))
top_stands s a b c name bytes mid after told text = (
  (name, Ok bytes) ∷ text.0,
  gave_more s a b c name bytes nothing mid text.0 told text.1,
  (Ok after, came name bytes mid text.0 (Ok after) told.fits told.utf8 told.known text.2, refl),
)

text_failed :
    {S : Type 0} (s : SourceOf S) (a b c : S) (name bytes : List ℕ) (mid : Gathered)
    (fault : Refusal LoadCause) → Told s a b name nothing mid bytes
    → (readings : List Reading) × Gave s b c readings
    × ((rest : List Reading) → TextComes DEEPEST name bytes mid (readings ++ rest) rest (Err fault))
    → (readings : List Reading) × Gave s a c readings
    × ((end : Result Gathered (Refusal LoadCause)) × Comes name readings end × (Err fault ≡ texts_in end))
text_failed s a b c name bytes mid fault told text = (
  (name, Ok bytes) ∷ text.0,
  gave_more s a b c name bytes nothing mid text.0 told text.1,
  (Err fault, came name bytes mid text.0 (Err fault) told.fits told.utf8 told.known text.2, refl),
)

below_failed :
    {S : Type 0} (s : SourceOf S) (a b c : S) (name bytes : List ℕ) (mid after : Gathered)
    (fault : Refusal LoadCause) → Told s a b name nothing mid bytes
    → Follows {T = Unit} s b c (TextComes DEEPEST name bytes mid) after (Err fault)
    → Gathers s a c name (Err fault)
below_failed s a b c name bytes mid after (Refused Unreadable) told text =
    text_failed s a b c name bytes mid (Refused Unreadable) told text
below_failed s a b c name bytes mid after (Refused NotUtf8) told text =
    text_failed s a b c name bytes mid (Refused NotUtf8) told text
below_failed s a b c name bytes mid after (Refused TooLarge) told text =
    text_failed s a b c name bytes mid (Refused TooLarge) told text
below_failed s a b c name bytes mid after OutOfMemory told text =
    ((name, Ok bytes) ∷ text.0, gave_more s a b c name bytes nothing mid text.0 told text.1)

pub below_refused :
    {S : Type 0} (s : SourceOf S) (a b c : S) (name bytes : List ℕ) (mid after : Gathered)
    (fault : Refusal LoadCause) (result : Result Texts (Refusal LoadCause))
    → Told s a b name nothing mid bytes
    → Follows {T = Unit} s b c (TextComes DEEPEST name bytes mid) after (Err fault)
    → IsErrAnd result (λ f. f ≡ fault) → Gathers s a c name result
below_refused s a b c name bytes mid after fault (Ok x) told text h = absurd h
below_refused s a b c name bytes mid after fault (Err f) told text h =
    subst (λ f. Gathers s a c name (Err f)) (sym h)
    (below_failed s a b c name bytes mid after fault told text)

pub top_no_text : {S : Type 0} (s : SourceOf S) (a b : S) (name : List ℕ) (mid : Gathered)
    → Asks s a b name nothing mid (Ok asked.NotUtf8) → Gathers s a b name (Err (Refused NotUtf8))
top_no_text s a b name mid asks = from asks.0 asks.1 asks.2
  where
    from : (answer : Result (List ℕ) SourceFault) → Gave s a b ((name, answer) ∷ [])
        → IsTold name nothing answer asked.NotUtf8 mid → Gathers s a b name (Err (Refused NotUtf8))
    from (Ok bytes) gave told = (
      (name, Ok bytes) ∷ [],
      gave,
      (
        Err (Refused NotUtf8),
        (
          Ok bytes,
          [],
          refl,
          by_false (is_too_large (length bytes) nothing) _ _ told.0
              (by_false (is_utf8 bytes) _ _ told.1 (refl, refl)),
        ),
        refl,
      ),
    )
    from (Err source.Failed) gave told = absurd told
    from (Err source.OutOfMemory) gave told = absurd told

pub top_nothing : {S : Type 0} (s : SourceOf S) (a b : S) (name : List ℕ) (mid : Gathered)
    → Asks s a b name nothing mid (Ok asked.Failed) → Gathers s a b name (Err (Refused Unreadable))
top_nothing s a b name mid asks = from asks.0 asks.1 asks.2
  where
    from : (answer : Result (List ℕ) SourceFault) → Gave s a b ((name, answer) ∷ [])
        → IsTold name nothing answer asked.Failed mid → Gathers s a b name (Err (Refused Unreadable))
    from (Ok bytes) gave told = absurd told.1
    from (Err source.Failed) gave told = (
      (name, Err source.Failed)
          ∷ [],
      gave,
      (Err (Refused Unreadable), (Err source.Failed, [], refl, (refl, refl)), refl),
    )
    from (Err source.OutOfMemory) gave told = absurd told
