-- What becomes over ledgers without the accounts of transactions of programs that don't read them.
use Rattle.std.proofs.Common.{◌≡◌, ℕ, List, [], ◌∷◌, map, true, false}
use Rattle.std.specs.List.{AllByRecursion}
use Rattle.plain_machine.specs.Unread.{reads_accounts}
use Rattle.query_code.specs.declared.program.Parts.{Parts}
use Rattle.query_fates.specs.Fates.{AreFates, AreFatesOf, AreFilesFor, IsFate, verified}
use Rattle.query_fates.specs.Unread.{NeedsNoAccounts}
use Rattle.query_fates.specs.declared.tabulating.Fate.{Fate}
use Rattle.query_fates.specs.declared.tabulating.Fate.TheVariants as fate
use Rattle.query_tables.proofs.UnreadFacts.{fits_alike, same_truth, tables_alike}
use Rattle.query_tables.specs.Unread.{FileNeedsNoAccounts, IsSoOfBoth}
use Rattle.verified_program.specs.declared.checked.Checked.{Checked}

-- ---- programs

abbrev NoneReads : List (Parts × ℕ) → Type 0
NoneReads programs = AllByRecursion (λ p. reads_accounts p.0 ≡ false) programs

fate_alike : (p : Parts × ℕ) → reads_accounts p.0 ≡ false → (f : Fate)
    → IsSoOfBoth (λ l. IsFate l p f)
fate_alike p unread (fate.Table text) = tables_alike p.0 unread p.1 text
fate_alike p unread fate.OutsideBounds = λ bare l alike.
    same_truth (fits_alike bare l alike p.0.bounds) false
fate_alike p unread fate.OutOfMemory = λ bare l alike.
    same_truth (fits_alike bare l alike p.0.bounds) true

all_alike : (programs : List (Parts × ℕ)) → NoneReads programs → (fates : List Fate)
    → IsSoOfBoth (λ l. AreFates l programs fates)
all_alike [] none [] = λ bare l alike. ((λ are. are), (λ are. are))
all_alike [] none (f ∷ fates) = λ bare l alike. ((λ are. are), (λ are. are))
all_alike (p ∷ programs) none [] = λ bare l alike. ((λ are. are), (λ are. are))
all_alike (p ∷ programs) none (f ∷ fates) = λ bare l alike.
    let one = fate_alike p none.0 f bare l alike in
    let others = all_alike programs none.1 fates bare l alike in
    ((λ are. (one.0 are.0, others.0 are.1)), (λ are. (one.1 are.0, others.1 are.1)))

none_of_checked : (programs : List Checked) → AllByRecursion NeedsNoAccounts programs
    → NoneReads (map verified programs)
none_of_checked [] none = none
none_of_checked (c ∷ programs) none = (none.0, none_of_checked programs none.1)

pub fates_alike : (programs : List Checked) → AllByRecursion NeedsNoAccounts programs
    → (fates : List Fate) → IsSoOfBoth (λ l. AreFates l (map verified programs) fates)
fates_alike programs none = all_alike (map verified programs) (none_of_checked programs none)

-- ---- programs of files

none_of_files : (files : List (List ℕ)) (programs : List (Parts × ℕ))
    → AllByRecursion FileNeedsNoAccounts files → AreFilesFor files programs → NoneReads programs
none_of_files [] [] none are = none
none_of_files [] (p ∷ programs) none are = absurd are
none_of_files (bytes ∷ files) [] none are = absurd are
none_of_files (bytes ∷ files) (p ∷ programs) none are =
    (none.0 p.0 p.1 are.0, none_of_files files programs none.1 are.1)

module _ (files : List (List ℕ)) (none : AllByRecursion FileNeedsNoAccounts files)
    (fates : List Fate) where
  pub files_alike : IsSoOfBoth (λ l. AreFatesOf l files fates)
  files_alike bare l alike = (to, from)
    where
      both : (programs : List (Parts × ℕ)) → AreFilesFor files programs
          → (AreFates bare programs fates → AreFates l programs fates)
          × (AreFates l programs fates → AreFates bare programs fates)
      both programs are =
          all_alike programs (none_of_files files programs none are) fates bare l alike

      to : AreFatesOf bare files fates → AreFatesOf l files fates
      to is = (is.0, is.1, (both is.0 is.1).0 is.2)

      from : AreFatesOf l files fates → AreFatesOf bare files fates
      from is = (is.0, is.1, (both is.0 is.1).1 is.2)
