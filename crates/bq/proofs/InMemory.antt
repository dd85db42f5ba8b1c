-- A run over a store and outputs of memory is one over any.
use Rattle.std.proofs.Common.{inl, inr, ℕ, List, Result, Ok, Err}
use Rattle.clap.specs.Walk.{Text}
use Rattle.outputs.proofs.KeptFront.{keeps_front}
use Rattle.outputs.specs.Holding.{Holding}
use Rattle.outputs.proofs.PieceFacts.{one_piece}
use Rattle.outputs.specs.Output.{TookInPieces}
use Rattle.outputs.specs.ShortWriter.{short_writer}
use Rattle.stores.proofs.Held.{gives_what_it_holds}
use Rattle.stores.specs.Shelf.{Shelf}
use Rattle.stores.specs.Reading.{Reading}
use Rattle.stores.specs.declared.source.SourceFault.{SourceFault}
use Rattle.stores.specs.declared.source.SourceFault.TheVariants as store
use Rattle.bq.specs.MemoryRun.{KeptFront, in_memory, kept_in, memory_store}
use Rattle.bq.specs.Runs.{Comes, Ends, Keeps, TellsWhy, deeds, written, written_at_once}
use Rattle.bq.specs.Due.{Due}
use Rattle.bq.specs.Commands.{due_to}
use Rattle.endings.specs.declared.refusal.Refusal.{Refusal}
use Rattle.endings.specs.declared.refusal.Refusal.TheVariants.{OutOfMemory, Refused, NotWritten, NotKept}
use Rattle.endings.specs.declared.verdict.Verdict.{Verdict}

took : (old new : Holding) (text : List ℕ) (n : ℕ) → TookInPieces short_writer old new text n
    → KeptFront old new text n
took old new text n h = let front = keeps_front old new text n h in
    record { kept = front.0; limit = front.1 }

tells : (old new : Holding) (result : Result Verdict Refusal)
    → TellsWhy (written_at_once short_writer old new) result → TellsWhy (kept_in old new) result
tells old new (Ok verdict) h = h
tells old new (Err r) h =
    (h.0, took old new _ _ (one_piece short_writer old new _ _ h.1))

module _ (d : Due) (readings : List Reading) (s t : Shelf) (old new : Holding) where
  keeps : (answer : Result Unit SourceFault)
      → Keeps d (deeds memory_store s t (written short_writer old new)) readings answer
      → Keeps d (in_memory s t (kept_in old new)) readings answer
  keeps answer h = (
    h.0,
    h.1,
    h.2,
    (h.3.0, gives_what_it_holds s h.3.0 readings h.3.1, h.3.2.may),
    h.4,
  )

  comes : (result : Result Verdict Refusal)
      → Comes d (deeds memory_store s t (written short_writer old new)) readings result
      → Comes d (in_memory s t (kept_in old new)) readings result
  comes (Ok verdict) (inl h) =
      inl (h.0, (gives_what_it_holds s t readings h.1.0, h.1.1, took old new _ _ h.1.2))
  comes (Ok verdict) (inr h) = inr (h.0, keeps (Ok tt) h.1)
  comes (Err (Refused cause)) h = (gives_what_it_holds s t readings h.0, h.1, h.2)
  comes (Err (NotWritten n)) h =
      (h.0, h.1, (gives_what_it_holds s t readings h.2.0, h.2.1, took old new _ _ h.2.2), h.3)
  comes (Err NotKept) h = keeps (Err store.Failed) h
  comes (Err OutOfMemory) (inl h) = inl (gives_what_it_holds s t readings h.0, h.1)
  comes (Err OutOfMemory) (inr h) = inr (keeps (Err store.OutOfMemory) h)

pub ends : (s t : Shelf) (out out' err err' : Holding) (words : List Text) (status : ℕ)
    → Ends (deeds memory_store s t (written short_writer out out'))
    (written_at_once short_writer err err') words status
    → Ends (in_memory s t (kept_in out out')) (kept_in err err') words status
ends s t out out' err err' words status h = record {
  result = h.result;
  runs = (
    h.runs.0,
    comes (due_to words) h.runs.0 s t out out' h.result h.runs.1,
    h.runs.2,
  );
  status_is = h.status_is;
  tells = tells err err' h.result h.tells;
}
