-- From the stages of a command to what it comes to, and from that to what a run does.
use Rattle.std.proofs.Common.{◌≡◌, inl, inr, ℕ, List, [], ◌++◌, Some, Result, Ok, Err}
use Rattle.std.proofs.Common.{refl, sym, ap, ◌∙◌, subst, false, true}
use Rattle.std.proofs.lemmas.Bool.{false≢true}
use Rattle.std.specs.Result.{IsErrAnd}
use Rattle.bean_load.specs.Following.{Gathers, IsGathered}
use Rattle.bean_load.specs.Texts.{Texts}
use Rattle.bean_load.specs.declared.cause.LoadCause.{LoadCause}
use Rattle.bean_book.specs.Book.{Book}
use Rattle.bean_book.specs.declared.details.Details.{Details}
use Rattle.bean_replay.specs.declared.cause.BookCause.{BookCause}
use Rattle.bean_replay.specs.declared.cause.BookCause.TheVariants as books
use Rattle.clap.specs.Walk.{Text}
use Rattle.refusals.specs.declared.refusal.Refusal as refusals
use Rattle.refusals.specs.declared.refusal.Refusal.TheVariants as refusal
use Rattle.stores.proofs.GaveFacts.{gave_none}
use Rattle.stores.specs.Reading.{Reading}
use Rattle.stores.specs.Source.{Gave}
use Rattle.stores.specs.declared.source.Source.{Ghosts as SourceOf}
use Rattle.bean_books.specs.Booking.{Books, FindsFaults}
use Rattle.requests.specs.Commands.{request_in}
use Rattle.bq.specs.Commands.{due, due_to}
use Rattle.bq.specs.Due.{ComesTo, Due, End, is_of_pattern}
use Rattle.bq.specs.Files.{FileComes, ReadsFile, about_file}
use Rattle.bq.specs.Ledgers.{about_book, about_ledger}
use Rattle.bq.specs.Named.{AskFor}
use Rattle.endings.specs.Refusal.{unaccepted, unbooked, unread}
use Rattle.bq.specs.Keeping.{Keeps, StoreOf}
use Rattle.bq.specs.Runs.{Comes, Deeds, Finds, IsDue, RefusesExactly, WritesText, Written, deeds}
use Rattle.bq.specs.declared.given.Given.{Given}
use Rattle.bq.specs.declared.given.Given.TheVariants.{Told, Kept}
use Rattle.endings.specs.declared.refusal.Cause.{Cause}
use Rattle.endings.specs.declared.refusal.Cause.TheVariants as cause
use Rattle.endings.specs.declared.refusal.Refusal.{Refusal}
use Rattle.endings.specs.declared.refusal.Refusal.TheVariants.{OutOfMemory, Refused, NotWritten, NotKept}
use Rattle.endings.specs.declared.verdict.Verdict.{Verdict}
use Rattle.endings.specs.declared.verdict.Verdict.TheVariants.{Fine}
use Rattle.requests.specs.declared.words.Request.{Request}
use Rattle.bq.specs.Verified.{about_program}
use Rattle.query_code.specs.declared.program.Parts.{Parts}
use Rattle.query_files.specs.Files.{IsNotAccepted}
use Rattle.query_verifier.specs.Checking.{IsVerified}
use Rattle.query_verifier.specs.declared.cause.VerifierCause.{VerifierCause}
use Rattle.bq.proofs.OneEnd.{have_one_end}

-- what `?` makes of a refusal
pub converted : {X : Type 0} (result : Result X Refusal) (r : Refusal)
    → IsErrAnd result (λ e. e ≡ r) → result ≡ Err r
converted (Ok x) r is = absurd is
converted (Err e) r is = ap Err is

-- words that ask for nothing, before anything is asked
pub unasked : (words : List Text) (r : Refusal) → AskFor words (Err r)
    → ComesTo (due_to words []) (Err r)
unasked words (Refused cause.Words) none =
    subst (λ q. ComesTo (due q []) (Err (Refused cause.Words))) (sym none) (refl, refl)
unasked words OutOfMemory none = tt
unasked words (Refused (cause.Load f)) none = absurd none
unasked words (Refused (cause.Text f)) none = absurd none
unasked words (Refused (cause.File f)) none = absurd none
unasked words (Refused cause.TooManyPostings) none = absurd none
unasked words (Refused cause.OutsideBounds) none = absurd none
unasked words (NotWritten n) none = absurd none
unasked words NotKept none = absurd none

-- what is found for what the words ask for
pub found_for :
    {S : Type 0} (s : SourceOf S) (a b : S) (words : List Text) (asked : Request)
    (result : Result Given Refusal) → request_in words ≡ Some asked
    → Finds s a b (due (Some asked)) result → Finds s a b (due_to words) result
found_for s a b words asked result is found =
    subst (λ q. Finds s a b (due q) result) (sym is) found

-- with nothing asked of the store
pub at_once_found : {S : Type 0} (s : SourceOf S) (a : S) (d : Due) (result : Result Given Refusal)
    → ComesTo (d []) result → Finds s a a d result
at_once_found s a d result come = ([], gave_none s a, come)

-- what is said of one thing, said of what it stands in
pub within : (Is Says : End → Type 0) → ((end : End) → Is end → Says end)
    → (result : Result Given Refusal) → ComesTo Is result → ComesTo Says result
within Is Says says (Ok given) h = says (Ok given) h
within Is Says says (Err (Refused c)) h = says (Err c) h
within Is Says says (Err OutOfMemory) h = tt
within Is Says says (Err (NotWritten n)) h = absurd h
within Is Says says (Err NotKept) h = absurd h

-- ---- a ledger

-- there are no texts
pub ungathered :
    {S : Type 0} (s : SourceOf S) (old new : S) (Says : Texts → End → Type 0) (name : Text)
    (r : refusals.Refusal LoadCause) → Gathers s old new name (Err r)
    → Finds s old new (about_ledger Says name) (Err (unread r))
ungathered s old new Says name (refusal.Refused f) come =
    (come.0, come.1, inl (f, come.2, refl))
ungathered s old new Says name refusal.OutOfMemory come = (come.0, come.1, tt)

-- what comes of its texts
pub told : (name : Text) (readings : List Reading) (texts : Texts)
    → IsGathered name readings (Ok texts) → (Says : Texts → End → Type 0)
    (result : Result Given Refusal) → ComesTo (Says texts) result
    → ComesTo (about_ledger Says name readings) result
told name readings texts are Says result h =
    within (Says texts) (about_ledger Says name readings) (λ end says. inr (texts, are, says))
    result h

-- texts that have no book
pub not_booked : (details : Details) (texts : Texts) (Says : Book → End → Type 0)
    (r : refusals.Refusal BookCause) → Books details texts (Err r)
    → ComesTo (about_book Says texts) (Err (unbooked r))
not_booked details texts Says (refusal.Refused books.TooManyPostings) many = inl (many, refl)
not_booked details texts Says refusal.OutOfMemory many = tt

pub not_found : (texts : Texts) (Says : Book → End → Type 0) (r : refusals.Refusal BookCause)
    → FindsFaults texts (Err r) → ComesTo (about_book Says texts) (Err (unbooked r))
not_found texts Says (refusal.Refused books.TooManyPostings) many = inl (many, refl)
not_found texts Says refusal.OutOfMemory many = tt

-- ---- a file

-- there is no file
pub not_read :
    {S X : Type 0} (s : SourceOf S) (old new : S) (Of : List ℕ → Due) (name : Text)
    (bytes_of : X → List ℕ) (r : refusals.Refusal LoadCause)
    → ReadsFile s old new name bytes_of (Err r)
    → Finds s old new (about_file Of name) (Err (unread r))
not_read s old new Of name bytes_of (refusal.Refused f) come =
    (come.0, come.1, inl (f, come.2, refl))
not_read s old new Of name bytes_of refusal.OutOfMemory come = (come.0, come.1, tt)

-- what comes of its bytes, where nothing more is asked
pub of_bytes : (Of : List ℕ → Due) (name : Text) (readings : List Reading) (bytes : List ℕ)
    → FileComes name readings (Ok bytes) [] → (result : Result Given Refusal)
    → ComesTo (Of bytes []) result → ComesTo (about_file Of name readings) result
of_bytes Of name readings bytes comes result h =
    within (Of bytes []) (about_file Of name readings)
    (λ end says. inr (bytes, [], comes, says)) result h

-- the same where more is asked behind it
pub of_bytes_and :
    (Of : List ℕ → Due) (name : Text) (readings rest : List Reading) (bytes : List ℕ)
    → FileComes name readings (Ok bytes) [] → (result : Result Given Refusal)
    → ComesTo (Of bytes rest) result → ComesTo (about_file Of name (readings ++ rest)) result
of_bytes_and Of name readings rest bytes comes result h =
    within (Of bytes rest) (about_file Of name (readings ++ rest))
    (λ end says. inr
    (bytes, rest, (comes.0, ap (λ rs. rs ++ rest) comes.1, comes.2), says)) result h

-- ---- a program

-- it isn't accepted
pub not_accepted : (Of : Parts → ℕ → Due) (bytes : List ℕ) (r : refusals.Refusal VerifierCause)
    → IsNotAccepted bytes r → ComesTo (about_program Of bytes []) (Err (unaccepted r))
not_accepted Of bytes (refusal.Refused c) is = inl (refl, c, is, refl)
not_accepted Of bytes refusal.OutOfMemory is = tt

-- what comes of it
pub of_program :
    (Of : Parts → ℕ → Due) (bytes : List ℕ) (rest : List Reading) (p : Parts) (depth : ℕ)
    → IsVerified bytes p depth → (result : Result Given Refusal)
    → ComesTo (Of p depth rest) result → ComesTo (about_program Of bytes rest) result
of_program Of bytes rest p depth is result h =
    within (Of p depth rest) (about_program Of bytes rest)
    (λ end says. inr (p, depth, is, says)) result h

-- ---- what is found is given

pub unfound : (d : Due) (run : Deeds) (readings : List Reading) → run.gave readings
    → run.out.nothing → (r : Refusal) → ComesTo (d readings) (Err r) → Comes d run readings (Err r)
unfound d run readings gave nothing (Refused c) h = (gave, h, nothing)
unfound d run readings gave nothing OutOfMemory h = inl (gave, nothing)
unfound d run readings gave nothing (NotWritten n) h = absurd h
unfound d run readings gave nothing NotKept h = absurd h

pub cut : (d : Due) (run : Deeds) (readings : List Reading) → run.gave readings
    → (verdict : Verdict) (text : List ℕ) → d readings (Ok (Told verdict text)) → (r : Refusal)
    → WritesText run.out text (Err r) → Comes d run readings (Err r)
cut d run readings gave verdict text is (NotWritten n) front =
    (verdict, text, (gave, is, front.1), front.0)
cut d run readings gave verdict text is (Refused c) front = absurd front
cut d run readings gave verdict text is OutOfMemory front = absurd front
cut d run readings gave verdict text is NotKept front = absurd front

-- ---- that refusals are exact

certain : (c : Cause) → is_of_pattern c ≡ false → is_of_pattern c ≡ true → ⊥
certain c is not = absurd (false≢true (sym is ∙ not))

pub refuses_exactly : RefusesExactly
refuses_exactly asked readings (Ok v) c is holds sure =
    certain c sure (have_one_end asked readings (Ok is.0) (Err c) is.1 holds)
refuses_exactly asked readings (Err (Refused d)) c is holds sure =
    have_one_end asked readings (Err c) (Err d) holds is
refuses_exactly asked readings (Err (NotWritten n)) c is holds sure =
    certain c sure (have_one_end asked readings (Ok is.0) (Err c) is.1 holds)
refuses_exactly asked readings (Err NotKept) c is holds sure =
    certain c sure (have_one_end asked readings (Ok is.0) (Err c) is.1 holds)
refuses_exactly asked readings (Err OutOfMemory) c is holds sure = tt

-- ---- what comes of a run is due

pub is_due : (d : Due) (run : Deeds) (readings : List Reading) (result : Result Verdict Refusal)
    → Comes d run readings result → IsDue d readings result
is_due d run readings (Ok v) (inl h) = (Told v h.0, h.1.1)
is_due d run readings (Ok v) (inr h) = (Kept h.1.0 h.1.1, h.1.2)
is_due d run readings (Err (Refused c)) h = h.1
is_due d run readings (Err (NotWritten n)) h = (Told h.0 h.1, h.2.1)
is_due d run readings (Err NotKept) h = (Kept h.0 h.1, h.2)
is_due d run readings (Err OutOfMemory) h = tt

-- ---- a file that is kept, or not

module _ {S : Type 0} (s : StoreOf S) (old middle new : S) (out : Written) (d : Due)
    (readings : List Reading) (gave : Gave s.source old middle readings) (name : Text)
    (bytes : List ℕ) (is : d readings (Ok (Kept name bytes))) (nothing : out.nothing) where
  pub kept : Keeps s middle new name bytes (Ok tt)
      → Comes d (deeds s old new out) readings (Ok Fine)
  kept put = inr (refl, (name, bytes, is, (middle, gave, put), nothing))

  pub unkept : (r : Refusal) → Keeps s middle new name bytes (Err r)
      → Comes d (deeds s old new out) readings (Err r)
  unkept NotKept put = (name, bytes, is, (middle, gave, put), nothing)
  unkept OutOfMemory put = inr (name, bytes, is, (middle, gave, put), nothing)
  unkept (Refused c) put = absurd put
  unkept (NotWritten n) put = absurd put
