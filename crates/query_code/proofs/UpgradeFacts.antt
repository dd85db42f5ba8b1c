-- A program has a file in the second version where it has one, and only the version differs.
use Rattle.std.proofs.Common.{◌≡◌, ℕ, List, ◌∷◌, ◌++◌, refl, arith}
use Rattle.std.proofs.Math.Logic.{∥∥₁_elim}
use Rattle.limits.specs.declared.bounds.Version.{Version}
use Rattle.limits.specs.declared.bounds.Version.TheVariants.{First, Second}
use Rattle.limits.specs.Version.{number as version_number}
use Rattle.query_code.specs.InstructionForm.{word}
use Rattle.query_code.specs.QueryFile.{bounds, file, parts, version, versioned}
use Rattle.query_code.specs.Upgrade.{upgraded, with_version_2}
use Rattle.query_code.specs.declared.program.Parts.{Parts}
use Rattle.query_code.proofs.FitsFacts.{prop_file}

second_fits : version.fits Second
unfolding version
second_fits = (omega arith, refl)

pub upgraded_fits : (q : Parts) → file.fits q → file.fits (upgraded q)
unfolding file versioned parts bounds
upgraded_fits q fits =
    let those = fits.0.1.0.1 in
    ((fits.0.0, ((second_fits, (((those.0.0.0, refl), those.0.1), refl)), refl)), refl)

pub upgraded_has_file : (q : Parts) → ∥ file.fits q ∥₁ → ∥ file.fits (upgraded q) ∥₁
upgraded_has_file q has =
    ∣ upgraded_fits q (∥∥₁_elim has (prop_file q) (λ fits. fits)) ∣₁

-- whatever stands behind the version
behind : (v : Version) (rest : List ℕ)
    → 66 ∷ 81 ∷ 76 ∷ 67 ∷ (word.written 2 ++ rest)
    ≡ with_version_2 (66 ∷ 81 ∷ 76 ∷ 67 ∷ (word.written (version_number v) ++ rest))
behind First rest = refl
behind Second rest = refl

pub differ_in_version : (q : Parts)
    → file.written (upgraded q) ≡ with_version_2 (file.written q)
unfolding file versioned version parts bounds
differ_in_version q = behind q.bounds.schema _
