-- What is due of a query file that is verified: why it isn't accepted, or what is due of its
-- program.
use Rattle.std.specs.Prelude.{◌≡◌, ℕ, ◌⊎◌, List, [], Err}
use Rattle.query_code.specs.declared.program.Parts.{Parts}
use Rattle.query_verifier.specs.Checking.{IsUnaccepted, IsVerified}
use Rattle.query_verifier.specs.declared.cause.VerifierCause.{VerifierCause}
use Rattle.bq.specs.Due.{Due}
use Rattle.endings.specs.declared.refusal.Cause.TheVariants.{File}

-- the bytes are no query file, or that of a program that isn't accepted, and nothing more is asked of
-- the store; or this is due of their program and the depth of its stack
abbrev pub about_program : (Parts → ℕ → Due) → List ℕ → Due
about_program Of bytes readings end =
    ((readings ≡ []) × (cause : VerifierCause) × IsUnaccepted bytes cause × (end ≡ Err (File cause)))
    ⊎ ((p : Parts) × (depth : ℕ) × IsVerified bytes p depth × Of p depth readings end)
