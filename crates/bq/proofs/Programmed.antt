-- From the file of a query's program to what a command comes to.
use Rattle.std.proofs.Common.{◌≡◌, inl, inr, ℕ, List, [], true, Result, Ok, Err, refl, sym, ap, subst, ◌∙◌}
use Rattle.std.proofs.lemmas.Bool.{false≢true}
use Rattle.bean_book.specs.Book.{Book}
use Rattle.bean_book.specs.declared.details.Details.TheVariants.{All}
use Rattle.bean_load.specs.Texts.{Texts}
use Rattle.bql_parser.specs.Asked.{Asked}
use Rattle.bql_compiler.specs.Carried.{Carries}
use Rattle.clap.specs.Walk.{Text}
use Rattle.limits.specs.declared.bounds.Bounds.{Bounds}
use Rattle.posting_table.specs.Ledger.{Ledger}
use Rattle.posting_table.specs.Rows.{rows_of}
use Rattle.query_code.specs.declared.program.Parts.{Parts}
use Rattle.query_rows.specs.ColumnShape.{widest}
use Rattle.query_code.proofs.QueryFileFacts.{same_program}
use Rattle.query_files.proofs.FileFacts.{one_program}
use Rattle.query_files.specs.Texts.{Compiles, IsCompilable, IsFileOf}
use Rattle.query_files.specs.declared.cause.TextCause.{TextCause}
use Rattle.query_rows.specs.Fits.{fits}
use Rattle.query_tables.specs.Headline.{IsAnswered, IsOutside}
use Rattle.query_verifier.specs.Checking.{IsVerified}
use Rattle.refusals.specs.declared.refusal.Refusal as refusals
use Rattle.refusals.specs.declared.refusal.Refusal.TheVariants as refusal
use Rattle.stores.specs.Reading.{Reading}
use Rattle.bq.specs.Asking.{about_program_of}
use Rattle.bean_books.specs.Booking.{IsBookOf}
use Rattle.bq.specs.Due.{ComesTo, Due, End}
use Rattle.bq.specs.Ledgers.{about_book, about_ledger}
use Rattle.bq.specs.Query.{Answered, FileAnswers, HasBounds}
use Rattle.bq.specs.Ran.{FileRan, HasTable, Ran}
use Rattle.endings.specs.Refusal.{uncompiled}
use Rattle.bq.specs.declared.given.Given.{Given}
use Rattle.bq.specs.declared.given.Given.TheVariants.{Told}
use Rattle.endings.specs.declared.refusal.Cause.TheVariants as cause
use Rattle.endings.specs.declared.refusal.Refusal.{Refusal}
use Rattle.endings.specs.declared.refusal.Refusal.TheVariants.{OutOfMemory, Refused, NotWritten, NotKept}
use Rattle.endings.specs.declared.verdict.Verdict.TheVariants.{Fine}
use Rattle.bq.proofs.Outcomes.{within}

-- ---- the file of a text

module _ (b : Bounds) (Of : Asked → Due) (text : Text) where
  -- the text has none
  pub uncompilable : (r : refusals.Refusal TextCause) → Compiles b text (Err r)
      → ComesTo (about_program_of b Of text []) (Err (uncompiled r))
  uncompilable (refusal.Refused c) is = inl (refl, c, is, refl)
  uncompilable refusal.OutOfMemory is = tt

  -- what comes of its query
  pub programmed : (q : Asked) → IsCompilable b text q → (readings : List Reading)
      (Is : End → Type 0) → ((end : End) → Is end → Of q readings end)
      → (result : Result Given Refusal) → ComesTo Is result
      → ComesTo (about_program_of b Of text readings) result
  programmed q is readings Is says result h =
      within Is (about_program_of b Of text readings) (λ end e. inr (q, is, says end e)) result h

-- ---- what is said of a ledger says another thing of it

pub of_book : (Says Other : Book → End → Type 0)
    → ((book : Book) (end : End) → Says book end → Other book end) → (texts : Texts) (end : End)
    → about_book Says texts end → about_book Other texts end
of_book Says Other says texts end (inl many) = inl many
of_book Says Other says texts end (inr h) = inr (h.0, h.1, says h.0 end h.2)

pub of_ledger : (Says Other : Book → End → Type 0)
    → ((book : Book) (end : End) → Says book end → Other book end) → (name : Text)
    (readings : List Reading) (end : End) → about_ledger (about_book Says) name readings end
    → about_ledger (about_book Other) name readings end
of_ledger Says Other says name readings end (inl none) = inl none
of_ledger Says Other says name readings end (inr h) =
    inr (h.0, h.1, of_book Says Other says h.0 end h.2)

-- ---- a query

-- the file of its program answers for it
pub answered : (file : List ℕ) (q : Asked) → IsFileOf widest q file → (b : Book) (end : End)
    → FileAnswers file b end → Answered q b end
answered file q is b end by =
    (by.0, by.1 is.program q is.is_file is.is_program.carries, by.2)

-- it has a table over each book
pub has_bounds : (b : Bounds) (q : Asked) (file : List ℕ) → IsFileOf b q file → HasBounds b file
has_bounds b q file is p is_file =
    ap (λ (x : Parts). x.bounds) (same_program file p is.program is_file is.is_file)
    ∙ is.is_program.bounds

not_outside : (file : List ℕ) (l : Ledger) → HasBounds widest file
    → fits widest (rows_of l) ≡ true → IsOutside file l → ⊥
not_outside file l by is_within is =
    false≢true
    (sym is.outside
    ∙ ap (λ bounds. fits bounds (rows_of l)) (by is.program is.verified.is_file)
    ∙ is_within)

pub not_asked : (texts : Texts) (l : Ledger) (file : List ℕ) (r : Refusal) → HasBounds widest file
    → fits widest (rows_of l) ≡ true → HasTable file l (Err r)
    → ComesTo (about_book (FileAnswers file) texts) (Err r)
not_asked texts l file (Refused cause.OutsideBounds) by is_within is =
    absurd (not_outside file l by is_within is)
not_asked texts l file OutOfMemory by is_within is = tt
not_asked texts l file (Refused cause.Words) by is_within is = absurd is
not_asked texts l file (Refused (cause.Load c)) by is_within is = absurd is
not_asked texts l file (Refused (cause.Text c)) by is_within is = absurd is
not_asked texts l file (Refused (cause.File c)) by is_within is = absurd is
not_asked texts l file (Refused cause.TooManyPostings) by is_within is = absurd is
not_asked texts l file (NotWritten n) by is_within is = absurd is
not_asked texts l file NotKept by is_within is = absurd is

pub file_answers : (b : Book) (file text : List ℕ) → IsAnswered file b.ledger text
    → FileAnswers file b (Ok (Told Fine text))
file_answers b file text is = (
  text,
  λ p q is_file carries. is.table.means widest q
      (inl (subst (λ x. Carries widest x q) (same_program file p is.program is_file is.verified.is_file)
      carries)),
  refl,
)

-- ---- a file

-- what its program comes to, whichever program it is shown to have
pub ran : (file : List ℕ) (p : Parts) (depth : ℕ) → IsVerified file p depth → (b : Book)
    (end : End) → FileRan file b end → Ran p depth b end
ran file p depth is b end h =
    let same = one_program file h.0 p h.1 depth h.2 is in
    subst (λ d. Ran p d b end) same.1 (subst (λ x. Ran x h.1 b end) same.0 h.3)

pub not_run : (texts : Texts) (b : Book) → IsBookOf All texts b → (file : List ℕ) (r : Refusal)
    → HasTable file b.ledger (Err r) → ComesTo (about_book (FileRan file) texts) (Err r)
not_run texts b book file (Refused cause.OutsideBounds) is =
    inr (b, book, (is.program, is.depth, is.verified, inl (is.outside, refl)))
not_run texts b book file OutOfMemory is = tt
not_run texts b book file (Refused cause.Words) is = absurd is
not_run texts b book file (Refused (cause.Load c)) is = absurd is
not_run texts b book file (Refused (cause.Text c)) is = absurd is
not_run texts b book file (Refused (cause.File c)) is = absurd is
not_run texts b book file (Refused cause.TooManyPostings) is = absurd is
not_run texts b book file (NotWritten n) is = absurd is
not_run texts b book file NotKept is = absurd is

pub file_ran : (b : Book) (file text : List ℕ) → IsAnswered file b.ledger text
    → FileRan file b (Ok (Told Fine text))
file_ran b file text is =
    (is.program, is.depth, is.verified, inr (text, is.table, refl))
