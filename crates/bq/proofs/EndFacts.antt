-- One end is due to a command, stage by stage.
use Rattle.std.proofs.Common.{◌≡◌, inl, inr, ℕ, List, [], ◌∷◌, length, true, Result, Ok, Err}
use Rattle.std.proofs.Common.{refl, sym, ap, ◌∙◌, subst, arith}
use Rattle.bean_book.specs.OneBook.{AreAlike as SameBooks}
use Rattle.bean_book.specs.Book.{Book}
use Rattle.bean_book.specs.declared.details.Details.TheVariants.{All}
use Rattle.bean_load.proofs.OneGathering.{one_gathering}
use Rattle.bean_load.specs.Texts.{Texts}
use Rattle.bean_load.specs.declared.cause.LoadCause.{LoadCause}
use Rattle.bean_load.specs.declared.cause.LoadCause.TheVariants.{Unreadable, TooLarge, NotUtf8}
use Rattle.bql_parser.specs.Asked.{Asked}
use Rattle.clap.specs.Walk.{Text}
use Rattle.limits.specs.declared.bounds.Bounds.{Bounds}
use Rattle.query_code.specs.declared.program.Parts.{Parts}
use Rattle.query_files.proofs.FileFacts.{one_cause, one_program, refused_for_pattern}
use Rattle.query_files.proofs.TextFacts as texts
use Rattle.query_files.proofs.TextFacts.{one_query, one_refusal}
use Rattle.query_files.specs.declared.cause.TextCause.TheVariants as text
use Rattle.query_verifier.specs.declared.cause.VerifierCause.TheVariants as verifier
use Rattle.refusals.specs.declared.refusal.Refusal.TheVariants as refusal
use Rattle.stores.specs.Reading.{Reading}
use Rattle.stores.specs.declared.source.SourceFault.{SourceFault}
use Rattle.stores.specs.declared.source.SourceFault.TheVariants.{Failed}
use Rattle.bq.specs.Asking.{about_program_of}
use Rattle.bq.specs.Due.{AreAlike, Due, End, IsLike, IsOneEnd, at_once, is_of_pattern}
use Rattle.bq.specs.Files.{FileComes, FileIs, about_file}
use Rattle.bq.specs.Ledgers.{about_book, about_ledger}
use Rattle.bq.specs.Verified.{about_program}
use Rattle.endings.specs.declared.refusal.Cause.{Cause}
use Rattle.endings.specs.declared.refusal.Cause.TheVariants as cause
use Rattle.bean_books.proofs.OneBook.{not_too_many, one_book}

-- ---- ends that are alike

pub like : (c : Cause) → IsLike c c
like cause.Words = refl
like (cause.Load f) = refl
like (cause.Text (text.Query f)) = tt
like (cause.Text (text.Typing f)) = refl
like (cause.Text (text.Compile f)) = refl
like (cause.File (verifier.File f)) = refl
like (cause.File (verifier.Code c place)) = tt
like cause.TooManyPostings = refl
like cause.OutsideBounds = refl

pub alike : (a : End) → AreAlike a a
alike (Ok given) = inl refl
alike (Err c) = inl (like c)

-- for a pattern one end may be a refusal, whatever the other is
refused_or_not : (a b : End) (c : Cause) → a ≡ Err c → is_of_pattern c ≡ true → AreAlike a b
refused_or_not (Ok x) b c h of_pattern = let e = h in absurd cc
refused_or_not (Err x) (Ok y) c h of_pattern =
    subst (λ e. AreAlike e (Ok y)) (sym h) of_pattern
refused_or_not (Err x) (Err y) c h of_pattern =
    subst (λ e. AreAlike e (Err y)) (sym h) (inr (inl of_pattern))

not_or_refused : (a b : End) (c : Cause) → b ≡ Err c → is_of_pattern c ≡ true → AreAlike a b
not_or_refused a (Ok y) c h of_pattern = let e = h in absurd cc
not_or_refused (Ok x) (Err y) c h of_pattern =
    subst (λ e. AreAlike (Ok x) e) (sym h) of_pattern
not_or_refused (Err x) (Err y) c h of_pattern =
    subst (λ e. AreAlike (Err x) e) (sym h) (inr (inr of_pattern))

pub both_are : (a b c : End) → a ≡ c → b ≡ c → AreAlike a b
both_are a b c h k = subst (λ e. AreAlike a e) (h ∙ sym k) (alike a)

pub one_is : (c : End) → IsOneEnd (λ end. end ≡ c)
one_is c a b h k = both_are a b c h k

-- with nothing asked of the store
pub one_at_once : (Is : End → Type 0) → IsOneEnd Is → (readings : List Reading)
    → IsOneEnd (at_once Is readings)
one_at_once Is one readings a b h k = one a b h.1 k.1

-- ---- a file

pub one_file : (answer : Result (List ℕ) SourceFault) (a b : Result (List ℕ) LoadCause)
    → FileIs answer a → FileIs answer b → a ≡ b
one_file answer (Ok a) (Ok b) h k = let e = sym h.0 ∙ k.0 in cc
one_file answer (Ok a) (Err Unreadable) h k = let e = sym h.0 ∙ k in absurd cc
one_file answer (Ok a) (Err TooLarge) h k =
    let e = sym h.0 ∙ k.1 in
    let same : length a ≡ length k.0 = cc in
    let few = h.1 in
    let many = k.2 in absurd (omega (arith, same, few, many))
one_file answer (Ok a) (Err NotUtf8) h k = absurd k
one_file answer (Err Unreadable) (Ok b) h k = let e = sym h ∙ k.0 in absurd cc
one_file answer (Err Unreadable) (Err Unreadable) h k = refl
one_file answer (Err Unreadable) (Err TooLarge) h k = let e = sym h ∙ k.1 in absurd cc
one_file answer (Err Unreadable) (Err NotUtf8) h k = absurd k
one_file answer (Err TooLarge) (Ok b) h k =
    let e = sym h.1 ∙ k.0 in
    let same : length h.0 ≡ length b = cc in
    let few = k.1 in
    let many = h.2 in absurd (omega (arith, same, few, many))
one_file answer (Err TooLarge) (Err Unreadable) h k = let e = sym h.1 ∙ k in absurd cc
one_file answer (Err TooLarge) (Err TooLarge) h k = refl
one_file answer (Err TooLarge) (Err NotUtf8) h k = absurd k
one_file answer (Err NotUtf8) b h k = absurd h

-- what comes first, and what is behind it
first_of : Text → List Reading → Reading
first_of name [] = (name, Err Failed)
first_of name (reading ∷ rest) = reading

behind : List Reading → List Reading
behind [] = []
behind (reading ∷ rest) = rest

same_first : (name : Text) (readings : List Reading) (x y : Result (List ℕ) SourceFault)
    (r s : List Reading) → readings ≡ (name, x) ∷ r → readings ≡ (name, y) ∷ s → x ≡ y
unfolding first_of
same_first name readings x y r s h k = ap (λ rs. (first_of name rs).1) (sym h ∙ k)

same_rest : (name : Text) (readings : List Reading) (x y : Result (List ℕ) SourceFault)
    (r s : List Reading) → readings ≡ (name, x) ∷ r → readings ≡ (name, y) ∷ s → r ≡ s
unfolding behind
same_rest name readings x y r s h k = ap behind (sym h ∙ k)

pub one_comes : (name : Text) (readings : List Reading) (a b : Result (List ℕ) LoadCause)
    (r s : List Reading) → FileComes name readings a r → FileComes name readings b s
    → (a ≡ b) × (r ≡ s)
one_comes name readings a b r s h k =
    let same = same_first name readings h.0 k.0 r s h.1 k.1 in (
      one_file h.0 a b h.2 (subst (λ x. FileIs x b) (sym same) k.2),
      same_rest name readings h.0 k.0 r s h.1 k.1,
    )

pub one_about_file : (Of : List ℕ → Due)
    → ((bytes : List ℕ) (rest : List Reading) → IsOneEnd (Of bytes rest)) → (name : Text)
    (readings : List Reading) → IsOneEnd (about_file Of name readings)
one_about_file Of one name readings a b (inl h) (inl k) =
    let e = (one_comes name readings (Err h.0) (Err k.0) [] [] h.1 k.1).0 in
    let same : h.0 ≡ k.0 = cc in both_are a b (Err (cause.Load k.0))
    (h.2 ∙ ap (λ f. Err (cause.Load f)) same) k.2
one_about_file Of one name readings a b (inl h) (inr k) =
    let e = (one_comes name readings (Err h.0) (Ok k.0) [] k.1 h.1 k.2).0 in absurd cc
one_about_file Of one name readings a b (inr h) (inl k) =
    let e = (one_comes name readings (Ok h.0) (Err k.0) h.1 [] h.2 k.1).0 in absurd cc
one_about_file Of one name readings a b (inr h) (inr k) =
    let e = one_comes name readings (Ok h.0) (Ok k.0) h.1 k.1 h.2 k.2 in
    let first = e.0 in
    let same : h.0 ≡ k.0 = cc in
    one h.0 h.1 a b h.3
    (subst (λ bs. Of bs h.1 b) (sym same) (subst (λ r. Of k.0 r b) (sym e.1) k.3))

-- ---- a ledger

pub one_about_ledger : (Says : Texts → End → Type 0) → ((texts : Texts) → IsOneEnd (Says texts))
    → (name : Text) (readings : List Reading) → IsOneEnd (about_ledger Says name readings)
one_about_ledger Says one name readings a b (inl h) (inl k) =
    let e =
    one_gathering name readings (Err (refusal.Refused h.0)) (Err (refusal.Refused k.0)) h.1 k.1 in
    let same : h.0 ≡ k.0 = cc in both_are a b (Err (cause.Load k.0))
    (h.2 ∙ ap (λ f. Err (cause.Load f)) same) k.2
one_about_ledger Says one name readings a b (inl h) (inr k) =
    let e = one_gathering name readings (Err (refusal.Refused h.0)) (Ok k.0) h.1 k.1 in absurd cc
one_about_ledger Says one name readings a b (inr h) (inl k) =
    let e = one_gathering name readings (Ok h.0) (Err (refusal.Refused k.0)) h.1 k.1 in absurd cc
one_about_ledger Says one name readings a b (inr h) (inr k) =
    let e = one_gathering name readings (Ok h.0) (Ok k.0) h.1 k.1 in
    let same : h.0 ≡ k.0 = cc in
    one h.0 a b h.2 (subst (λ t. Says t b) (sym same) k.2)

-- what is said of books that are alike
abbrev pub SaysOne : (Book → End → Type 0) → Type 0
SaysOne Says =
    (x y : Book) → SameBooks x y → (a b : End) → Says x a → Says y b → AreAlike a b

pub one_about_book : (Says : Book → End → Type 0) → SaysOne Says → (texts : Texts)
    → IsOneEnd (about_book Says texts)
one_about_book Says one texts a b (inl h) (inl k) =
    both_are a b (Err cause.TooManyPostings) h.1 k.1
one_about_book Says one texts a b (inl h) (inr k) =
    absurd (not_too_many All texts k.0 k.1 h.0)
one_about_book Says one texts a b (inr h) (inl k) =
    absurd (not_too_many All texts h.0 h.1 k.0)
one_about_book Says one texts a b (inr h) (inr k) =
    one h.0 k.0 (one_book All texts h.0 k.0 h.1 k.1) a b h.2 k.2

-- ---- a program

pub one_about_program : (Of : Parts → ℕ → Due)
    → ((p : Parts) (depth : ℕ) (rest : List Reading) → IsOneEnd (Of p depth rest))
    → (bytes : List ℕ) (rest : List Reading) → IsOneEnd (about_program Of bytes rest)
one_about_program Of one bytes rest a b (inl h) (inl k) =
    subst (λ e. AreAlike e b) (sym h.3)
    (subst (λ e. AreAlike (Err (cause.File h.1)) e) (sym k.3)
    (inl (one_cause bytes h.1 k.1 h.2 k.2)))
one_about_program Of one bytes rest a b (inl h) (inr k) =
    refused_or_not a b (cause.File h.1) h.3 (refused_for_pattern bytes h.1 k.0 k.1 h.2 k.2)
one_about_program Of one bytes rest a b (inr h) (inl k) =
    not_or_refused a b (cause.File k.1) k.3 (refused_for_pattern bytes k.1 h.0 h.1 k.2 h.2)
one_about_program Of one bytes rest a b (inr h) (inr k) =
    let same = one_program bytes h.0 k.0 h.1 k.1 h.2 k.2 in
    one k.0 k.1 rest a b
    (subst (λ d. Of k.0 d rest a) same.1 (subst (λ p. Of p h.1 rest a) same.0 h.3)) k.3

-- ---- the text of a query

pub one_about_program_of : (b : Bounds) (Of : Asked → Due)
    → ((q : Asked) (rest : List Reading) → IsOneEnd (Of q rest)) → (text : Text)
    (readings : List Reading) → IsOneEnd (about_program_of b Of text readings)
one_about_program_of bounds Of one text readings a b (inl h) (inl k) =
    subst (λ e. AreAlike e b) (sym h.3)
    (subst (λ e. AreAlike (Err (cause.Text h.1)) e) (sym k.3)
    (one_refusal bounds text h.1 k.1 h.2 k.2))
one_about_program_of bounds Of one text readings a b (inl h) (inr k) =
    refused_or_not a b (cause.Text h.1) h.3 (texts.refused_for_pattern bounds text h.1 k.0 h.2 k.1)
one_about_program_of bounds Of one text readings a b (inr h) (inl k) =
    not_or_refused a b (cause.Text k.1) k.3 (texts.refused_for_pattern bounds text k.1 h.0 k.2 h.1)
one_about_program_of bounds Of one text readings a b (inr h) (inr k) =
    let same = one_query bounds text h.0 k.0 h.1 k.1 in
    one k.0 readings a b (subst (λ q. Of q readings a) same h.2) k.2
