-- The programs of files, one after the other.
use Rattle.std.proofs.Common.{◌≡◌, ℕ, List, [], ◌∷◌, ◌++◌, map, Ok, sym, ap, ◌∙◌, subst, append_assoc}
use Rattle.std.proofs.lemmas.List.{append-nil, map-append}
use Rattle.query_fates.specs.Fates.{AreFilesFor, IsFileFor, verified}
use Rattle.query_code.specs.declared.program.Parts.{Parts}
use Rattle.query_verifier.specs.Checking.{Checks}
use Rattle.verified_program.specs.declared.checked.Checked.{Checked}

pub file_for : (bytes : List ℕ) (c : Checked) → Checks bytes (Ok c)
    → IsFileFor bytes (verified c)
file_for bytes c is = record { is_file = is; is_well_shaped = c.is_well_shaped }

-- the programs of the files that are left complete those before them
abbrev pub AreSoFar : List (List ℕ) → List (List ℕ) → List Checked → Type 0
AreSoFar files left programs =
    (more : List (Parts × ℕ)) → AreFilesFor left more
    → AreFilesFor files (map verified programs ++ more)

pub program_next :
    (files left : List (List ℕ)) (bytes : List ℕ) (programs after : List Checked) (c : Checked)
    → AreSoFar files (bytes ∷ left) programs → IsFileFor bytes (verified c)
    → after ≡ programs ++ c ∷ [] → AreSoFar files left after
program_next files left bytes programs after c so_far is grown more are =
    let next = so_far (verified c ∷ more) (is, are) in
    subst (λ ps. AreFilesFor files (map verified ps ++ more)) (sym grown)
    (subst (AreFilesFor files)
    (sym
    (ap (λ ps. ps ++ more) (map-append verified programs (c ∷ []))
    ∙ append_assoc (map verified programs) (verified c ∷ []) more)) next)

pub programs_end : (files : List (List ℕ)) (programs : List Checked) → AreSoFar files [] programs
    → AreFilesFor files (map verified programs)
programs_end files programs so_far =
    subst (AreFilesFor files) (append-nil (map verified programs)) (so_far [] tt)
