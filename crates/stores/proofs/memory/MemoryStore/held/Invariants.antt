use Rattle.std.proofs.Common.{◌≡◌, map, drop, fold}
use Rattle.std.specs.Option.{option_copied}
use Rattle.stores.specs.Files.{putting_of}
use Rattle.stores.specs.MemoryStore.{newer, held}
use Rattle.stores.proofs.memory.MemoryStore.held.Given as goal

abbrev pub invariant-loop-file : goal.invariant-loop-file
invariant-loop-file l =
    held l.self l.name
    ≡ fold (newer l.name) (option_copied l.found) (map putting_of (drop l.file-index l.file-items))
