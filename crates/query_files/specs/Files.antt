-- What is told of query files, and made of them.
use Rattle.std.specs.Prelude.{◌≡◌, ℕ, ⊤, Bool, true, false, List, length, Result, Ok, Err, Vec}
use Rattle.std.specs.declared.alloc.Global.{Global}
use Rattle.query_code.specs.Listing.{listing}
use Rattle.query_code.specs.QueryFile.{IsFile, decoded}
use Rattle.query_code.specs.Upgrade.{upgraded}
use Rattle.query_code.specs.declared.cause.FileCause.{FileCause}
use Rattle.query_code.specs.declared.program.Parts.{Parts}
use Rattle.query_files.specs.declared.files.Outline.{Outline}
use Rattle.query_verifier.specs.Checking.{IsUnaccepted, IsVerified}
use Rattle.query_verifier.specs.declared.cause.VerifierCause.{VerifierCause}
use Rattle.query_verifier.specs.declared.cause.VerifierCause.TheVariants.{Code}
use Rattle.refusals.specs.declared.refusal.Refusal.{Refusal}
use Rattle.refusals.specs.declared.refusal.Refusal.TheVariants.{OutOfMemory, Refused}
use Rattle.verify_programs.specs.declared.cause.CodeCause.TheVariants.{Pattern}

abbrev pub outline_of : Parts → ℕ → Outline
outline_of p depth = record {
  depth = depth;
  filter = length p.code.filter;
  row = length p.code.row;
  last = length p.code.last;
}

-- why bytes aren't accepted; want of memory says nothing
abbrev pub IsNotAccepted : List ℕ → Refusal VerifierCause → Type 0
IsNotAccepted file OutOfMemory = ⊤
IsNotAccepted file (Refused c) = IsUnaccepted file c

-- the outline of the program whose file the bytes are, which is well shaped; or why it isn't accepted
abbrev pub Outlines : List ℕ → Result Outline (Refusal VerifierCause) → Type 0
Outlines file (Ok outline) =
    (p : Parts) × (depth : ℕ) × IsVerified file p depth × (outline ≡ outline_of p depth)
Outlines file (Err r) = IsNotAccepted file r

-- the file of its upgrade
abbrev pub Upgrades : List ℕ → Result (Vec ℕ Global) (Refusal VerifierCause) → Type 0
Upgrades file (Ok bytes) =
    (p : Parts) × (depth : ℕ) × IsVerified file p depth × IsFile bytes.items (upgraded p)
Upgrades file (Err r) = IsNotAccepted file r

-- its listing, well shaped or not; or the first field that keeps the bytes from being a file
abbrev pub Lists : List ℕ → Result (Vec ℕ Global) (Refusal FileCause) → Type 0
Lists file (Ok text) = (p : Parts) × (decoded file ≡ Ok p) × (text.items ≡ listing p)
Lists file (Err OutOfMemory) = ⊤
Lists file (Err (Refused c)) = decoded file ≡ Err c

-- ---- that one cause is told

-- whether a pattern is built isn't told, so where one stands this may hold or not
abbrev pub is_of_pattern : VerifierCause → Bool
is_of_pattern (Code Pattern place) = true
is_of_pattern cause = false

-- the same cause; but of a program that isn't well shaped it isn't told which of its causes is told
abbrev pub IsLike : VerifierCause → VerifierCause → Type 0
IsLike (Code a place) (Code b spot) = ⊤
IsLike a b = a ≡ b
