-- `batch K LEDGER FILE..`: what query files answer over a ledger, in turns of K steps each.
use Rattle.std.specs.Prelude.{◌≡◌, ℕ, Bool, true, false, List, [], ◌∷◌, ◌++◌, codes, Ok}
use Rattle.std.specs.Prelude.{if◌then◌else◌}
use Rattle.std.specs.List.{list_any}
use Rattle.query_fates.specs.Fates.{AreFates, AreFatesOf}
use Rattle.query_fates.specs.declared.tabulating.Fate.{Fate}
use Rattle.query_fates.specs.declared.tabulating.Fate.TheVariants as fate
use Rattle.bean_book.specs.Book.{Book}
use Rattle.clap.specs.Walk.{Text}
use Rattle.query_code.specs.declared.program.Parts.{Parts}
use Rattle.requests.specs.Batch as requests
use Rattle.requests.specs.Batch.{Words}
use Rattle.bq.specs.Command.{Command}
use Rattle.bq.specs.Due.{Due, End}
use Rattle.bq.specs.Files.{about_file}
use Rattle.bq.specs.Ledgers.{about_book, about_ledger}
use Rattle.bq.specs.Verified.{about_program}
use Rattle.bq.specs.declared.given.Given.TheVariants.{Told}
use Rattle.endings.specs.declared.verdict.Verdict.{Verdict}
use Rattle.endings.specs.declared.verdict.Verdict.TheVariants as verdict

-- ---- what is told

-- a table, or why there is none
abbrev pub text_by : Fate → List ℕ
text_by (fate.Table text) = text
text_by fate.OutsideBounds = codes "M1\n"
text_by fate.OutOfMemory = codes "M2\n"

-- the line of a file's name, and below it what became of its program
abbrev pub section_of : Text → Fate → List ℕ
section_of name f = codes "== " ++ name ++ codes "\n" ++ text_by f

abbrev pub text_of : List Text → List Fate → List ℕ
text_of [] fates = []
text_of (name ∷ names) [] = []
text_of (name ∷ names) (f ∷ fates) =
    section_of name f ++ text_of names fates

abbrev pub lacks_memory : Fate → Bool
lacks_memory fate.OutOfMemory = true
lacks_memory f = false

abbrev pub is_outside : Fate → Bool
is_outside fate.OutsideBounds = true
is_outside f = false

-- the worst of them
abbrev pub verdict_of : List Fate → Verdict
verdict_of fates =
    if list_any lacks_memory fates then verdict.OutOfMemory
    else (if list_any is_outside fates then verdict.OutsideBounds else verdict.Fine)

-- ---- what is due

-- why one of the files, in their order, can't be read or isn't accepted; or what is due of the
-- programs of all
abbrev pub about_files : (List (Parts × ℕ) → Due) → List Text → Due
about_files Of [] = Of []
about_files Of (name ∷ names) =
    about_file (about_program (λ p depth. about_files (λ rest. Of ((p, depth) ∷ rest)) names)) name

-- what becomes of the programs over a book, under the names of their files
abbrev pub Batched : List Text → List (Parts × ℕ) → Book → End → Type 0
Batched names programs b end =
    (fates : List Fate) × AreFates b.ledger programs fates
    × (end ≡ Ok (Told (verdict_of fates) (text_of names fates)))

-- the same by the bytes of the files
abbrev pub FilesBatched : List Text → List (List ℕ) → Book → End → Type 0
FilesBatched names files b end =
    (fates : List Fate) × AreFatesOf b.ledger files fates
    × (end ≡ Ok (Told (verdict_of fates) (text_of names fates)))

-- the same, however many steps a turn has
abbrev pub batch : Command Words
batch = record {
  words = requests.batch;
  due = λ w. about_files (λ programs. about_ledger (about_book (Batched w.files programs)) w.ledger)
      w.files;
}
