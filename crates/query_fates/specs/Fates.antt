-- What becomes of programs over a ledger.
use Rattle.std.specs.Prelude.{◌≡◌, ℕ, true, false, List, [], ◌∷◌}
use Rattle.query_fates.specs.declared.tabulating.Fate.{Fate}
use Rattle.query_fates.specs.declared.tabulating.Fate.TheVariants as fate
use Rattle.posting_table.specs.Ledger.{Ledger}
use Rattle.posting_table.specs.Rows.{rows_of}
use Rattle.query_code.specs.declared.program.Parts.{Parts}
use Rattle.query_rows.specs.Fits.{fits}
use Rattle.query_tables.specs.Table.{IsTableOf}
use Rattle.query_verifier.specs.Checking.{IsVerified}
use Rattle.verified_program.specs.declared.checked.Checked.{Checked}

-- a verified program, and how deep its stack becomes
abbrev pub verified : Checked → Parts × ℕ
verified c = (c.program.parts, c.depth)

module _ (l : Ledger) where
  -- its table; or the ledger is outside its bounds; or memory lacked
  abbrev pub IsFate : Parts × ℕ → Fate → Type 0
  IsFate p (fate.Table text) = IsTableOf p.0 p.1 l text
  IsFate p fate.OutsideBounds = fits p.0.bounds (rows_of l) ≡ false
  IsFate p fate.OutOfMemory = fits p.0.bounds (rows_of l) ≡ true

  abbrev pub AreFates : List (Parts × ℕ) → List Fate → Type 0
  AreFates [] [] = Unit {0}
  AreFates [] (f ∷ fates) = ⊥
  AreFates (p ∷ programs) [] = ⊥
  AreFates (p ∷ programs) (f ∷ fates) = IsFate p f × AreFates programs fates

-- ---- programs of files

-- the bytes are the file of this program, whose stack becomes so deep
abbrev pub IsFileFor : List ℕ → Parts × ℕ → Type 0
IsFileFor bytes p = IsVerified bytes p.0 p.1

-- they are the file of some program that is accepted
abbrev pub HasProgram : List ℕ → Type 0
HasProgram bytes = (p : Parts × ℕ) × IsFileFor bytes p

abbrev pub AreFilesFor : List (List ℕ) → List (Parts × ℕ) → Type 0
AreFilesFor [] [] = Unit {0}
AreFilesFor [] (p ∷ programs) = ⊥
AreFilesFor (bytes ∷ files) [] = ⊥
AreFilesFor (bytes ∷ files) (p ∷ programs) = IsFileFor bytes p × AreFilesFor files programs

-- what becomes of the programs of files
abbrev pub AreFatesOf : Ledger → List (List ℕ) → List Fate → Type 0
AreFatesOf l files fates =
    (programs : List (Parts × ℕ)) × AreFilesFor files programs × AreFates l programs fates
