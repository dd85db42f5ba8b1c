-- What becomes of each of some files.
use Rattle.std.proofs.Common.{◌≡◌, ℕ, suc, List, [], ◌∷◌, length, refl, ap, ◌∙◌}
use Rattle.query_fates.specs.Fates.{AreFates, AreFatesOf, AreFilesFor}
use Rattle.query_fates.specs.declared.tabulating.Fate.{Fate}
use Rattle.posting_table.specs.Ledger.{Ledger}
use Rattle.query_code.specs.declared.program.Parts.{Parts}

programs_for : (files : List (List ℕ)) (programs : List (Parts × ℕ)) → AreFilesFor files programs
    → length programs ≡ length files
programs_for [] [] are = refl
programs_for [] (p ∷ programs) are = absurd are
programs_for (bytes ∷ files) [] are = absurd are
programs_for (bytes ∷ files) (p ∷ programs) are =
    ap (λ n. suc n) (programs_for files programs are.1)

fates_by : (l : Ledger) (programs : List (Parts × ℕ)) (fates : List Fate)
    → AreFates l programs fates → length fates ≡ length programs
fates_by l [] [] are = refl
fates_by l [] (f ∷ fates) are = absurd are
fates_by l (p ∷ programs) [] are = absurd are
fates_by l (p ∷ programs) (f ∷ fates) are = ap (λ n. suc n) (fates_by l programs fates are.1)

pub fates_for : (l : Ledger) (files : List (List ℕ)) (fates : List Fate)
    → AreFatesOf l files fates → length fates ≡ length files
fates_for l files fates are =
    fates_by l are.0 fates are.2 ∙ programs_for files are.0 are.1
