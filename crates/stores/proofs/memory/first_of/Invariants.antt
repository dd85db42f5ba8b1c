use Rattle.std.proofs.Common.{◌≡◌, map, drop}
use Rattle.stores.specs.Files.{putting_of}
use Rattle.stores.specs.MemoryStore.{first_in}
use Rattle.stores.proofs.memory.first_of.Given as goal

abbrev pub invariant-loop-file : goal.invariant-loop-file
invariant-loop-file l =
    first_in l.name (map putting_of l.files)
    ≡ first_in l.name (map putting_of (drop l.file-index l.files))
