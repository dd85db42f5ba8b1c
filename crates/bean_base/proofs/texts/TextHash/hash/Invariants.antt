use Rattle.std.proofs.Common.{◌≡◌, length, fold}
use Rattle.std.specs.List.{flat_map}
use Rattle.std.specs.Hash as fed
use Rattle.bean_base.specs.Text.{read_text}
use Rattle.bean_base.proofs.texts.TextHash.hash.Given as goal

-- what was fed, and what is left to feed, are together the whole
abbrev pub invariant-loop-byte : goal.invariant-loop-byte
invariant-loop-byte g l =
    fold g.H.Hasher.write l.state (flat_map fed.u8 (read_text l.unread.written.now))
    ≡ fold g.H.Hasher.write l.initial.state
    (flat_map fed.u8 (read_text l.initial.unread.written.now))

abbrev pub decreases-loop-byte : goal.decreases-loop-byte
decreases-loop-byte g l = length l.unread.written.now
