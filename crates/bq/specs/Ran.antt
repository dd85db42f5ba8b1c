-- What comes of a verified program over the book of a ledger.
use Rattle.std.specs.Prelude.{◌≡◌, ◌⊎◌, ⊤, ℕ, List, false, Result, Ok, Err}
use Rattle.bean_book.specs.Book.{Book}
use Rattle.posting_table.specs.Ledger.{Ledger}
use Rattle.posting_table.specs.Rows.{rows_of}
use Rattle.query_code.specs.declared.program.Parts.{Parts}
use Rattle.query_rows.specs.Fits.{fits}
use Rattle.query_tables.specs.Headline.{IsAnswered, IsOutside}
use Rattle.query_tables.specs.Table.{IsTableOf}
use Rattle.query_verifier.specs.Checking.{IsVerified}
use Rattle.bq.specs.Due.{End}
use Rattle.bq.specs.declared.given.Given.TheVariants.{Told}
use Rattle.endings.specs.declared.refusal.Cause.TheVariants as cause
use Rattle.endings.specs.declared.refusal.Refusal.{Refusal}
use Rattle.endings.specs.declared.refusal.Refusal.TheVariants as refusal
use Rattle.endings.specs.declared.verdict.Verdict.TheVariants.{Fine}

-- The postings are outside its bounds; or this is the table of what it comes to over them.
abbrev pub Ran : Parts → ℕ → Book → End → Type 0
Ran p depth b end =
    ((fits p.bounds (rows_of b.ledger) ≡ false) × (end ≡ Err cause.OutsideBounds))
    ⊎ ((text : List ℕ) × IsTableOf p depth b.ledger text × (end ≡ Ok (Told Fine text)))

-- of a file, by its program
abbrev pub FileRan : List ℕ → Book → End → Type 0
FileRan file b end = (p : Parts) × (depth : ℕ) × IsVerified file p depth × Ran p depth b end

-- the table of a file over a ledger, or why it has none; memory may lack at any time
abbrev pub HasTable : List ℕ → Ledger → Result (List ℕ) Refusal → Type 0
HasTable file l (Ok text) = IsAnswered file l text
HasTable file l (Err (refusal.Refused cause.OutsideBounds)) = IsOutside file l
HasTable file l (Err refusal.OutOfMemory) = ⊤
HasTable file l (Err r) = ⊥
