-- What a run over a store and outputs of memory did.
use Rattle.std.specs.Prelude.{◌≡◌, ℕ, ◌<◌, ◌≤◌, ◌++◌, false, List, Some, length, take}
use Rattle.outputs.specs.Holding.{Holding}
use Rattle.stores.specs.MemoryStore.{GaveHeld, Keeps, memory_source}
use Rattle.stores.specs.Shelf.{Shelf}
use Rattle.bq.specs.Keeping.{StoreOf, store_of}
use Rattle.bq.specs.Runs.{Deeds, Written}

-- It has n more bytes, from the front of the text; not all of it only at its limit, or where memory
-- was refused to it.
pub record KeptFront (old new : Holding) (text : List ℕ) (n : ℕ) : Type 0 where
  pub kept : new.taken ≡ old.taken ++ take n text
  pub limit : n < length text → new.starved ≡ false → new.limit ≤ length new.taken

abbrev pub kept_in : Holding → Holding → Written
kept_in old new = record { took = KeptFront old new; nothing = new ≡ old }

abbrev pub memory_store : StoreOf Shelf
memory_store = store_of memory_source (λ s. Some s.kept) Keeps

-- the store gave what it held, kept what was put, and told so
abbrev pub in_memory : Shelf → Shelf → Written → Deeds
in_memory old new out = record {
  gave = GaveHeld old new;
  kept = λ readings name bytes answer.
      (middle : Shelf) × GaveHeld old middle readings × Keeps middle name bytes answer new;
  out = out;
}
