-- One end is due to each command.
use Rattle.std.proofs.Common.{◌≡◌, ◌⊎◌, inl, inr, ℕ, Bool, true, false, ◌||◌, List, [], ◌∷◌, None, Some, Ok}
use Rattle.std.proofs.Common.{Err, map, refl, sym, ap, ap₂, ◌∙◌, subst}
use Rattle.std.specs.List.{list_any}
use Rattle.std.specs.Prelude.{if◌then◌else◌}
use Rattle.stores.specs.Reading.{Reading}
use Rattle.query_fates.specs.Fates.{AreFates, IsFate}
use Rattle.query_fates.specs.declared.tabulating.Fate.{Fate}
use Rattle.query_fates.specs.declared.tabulating.Fate.TheVariants as fate
use Rattle.bean_book.specs.OneBook.{AreAlike as SameBooks}
use Rattle.bql_meaning.specs.Answer.{IsAnswer, finish_of}
use Rattle.bql_meaning.specs.Answer as meaning
use Rattle.bql_parser.specs.Asked.{Asked}
use Rattle.bql_compiler.specs.Program.{target_name}
use Rattle.bean_book.specs.Book.{Book}
use Rattle.bean_load.specs.Texts.{Texts}
use Rattle.clap.specs.Walk.{Text}
use Rattle.fault_printer.specs.Lines.{lines_of}
use Rattle.plain_machine.proofs.AnswerFacts.{one_answer}
use Rattle.plain_machine.specs.Answer.{Answer, Answers}
use Rattle.posting_table.specs.Decimals.{decimals_of}
use Rattle.posting_table.specs.Ledger.{Ledger}
use Rattle.posting_table.specs.Rows.{row_of, rows_of}
use Rattle.query_code.specs.QueryFile.{IsFile, decoded}
use Rattle.query_code.specs.declared.program.Parts.{Parts}
use Rattle.limits.specs.declared.bounds.Bounds.{Bounds}
use Rattle.query_rows.proofs.FinalRowsFacts.{are_one}
use Rattle.query_rows.specs.Fits.{fits}
use Rattle.query_tables.specs.Table.{IsTableOf, IsTableOfQuery}
use Rattle.query_values.specs.declared.value.Value.{Value}
use Rattle.std.proofs.lemmas.Bool.{false≢true}
use Rattle.table_printer.specs.Table.{table_text}
use Rattle.bq.specs.Batch as batch
use Rattle.bq.specs.Batch.{Batched, about_files, is_outside, lacks_memory, text_of}
use Rattle.bq.specs.Check.{Checked, Checks}
use Rattle.bq.specs.Compile.{Compiled}
use Rattle.bq.specs.Due as ends
use Rattle.bq.specs.Due.{AreAlike, Due, End, IsOneEnd, at_once, is_lacking}
use Rattle.bq.specs.List.{Listed, Lists, headers, shown_row, table_of}
use Rattle.bq.specs.Ledgers.{about_book, about_ledger}
use Rattle.bq.specs.Query.{Answered}
use Rattle.bq.specs.Ran.{Ran}
use Rattle.bq.specs.Runs.{HaveOneEnd}
use Rattle.bq.specs.Show.{Shows, listed}
use Rattle.bq.specs.Upgrade.{Upgrades}
use Rattle.endings.specs.Verdict.{verdict_of}
use Rattle.bq.specs.Verified.{about_program}
use Rattle.bq.specs.Verify.{Verifies, line_of}
use Rattle.bq.specs.declared.given.Given.TheVariants.{Told, Kept}
use Rattle.endings.specs.declared.refusal.Cause.TheVariants as cause
use Rattle.endings.specs.declared.verdict.Verdict.TheVariants as verdict
use Rattle.endings.specs.declared.verdict.Verdict.TheVariants.{Fine}
use Rattle.requests.specs.declared.words.Request.TheVariants as request
use Rattle.query_rows.specs.ColumnShape.{widest}
use Rattle.bq.proofs.EndFacts.{SaysOne, both_are, one_about_book, one_about_file, one_about_ledger}
use Rattle.bq.proofs.EndFacts.{one_about_program, one_about_program_of, one_at_once, one_is}

same_table : (x y : Ledger) → x.rows ≡ y.rows
    → ((currency : List ℕ) → decimals_of x.decimals currency ≡ decimals_of y.decimals currency)
    → table_of x ≡ table_of y
same_table x y rows decimals =
    λ k. table_text headers (map shown_row (rows k)) (λ currency. decimals currency k)

one_listed : SaysOne Listed
one_listed x y same a b h k =
    both_are a b (Ok (Told Fine (table_of y.ledger)))
    (h ∙ ap (λ t. Ok (Told Fine t)) (same_table x.ledger y.ledger same.rows same.decimals)) k

one_checked : (texts : Texts) → SaysOne (Checked texts)
one_checked texts x y same a b h k =
    both_are a b (Ok (Told (verdict_of y.faults) (lines_of texts.files y.faults)))
    (h ∙ ap (λ fs. Ok (Told (verdict_of fs) (lines_of texts.files fs))) same.faults) k

one_upgraded : (new : Text) (p : Parts) → IsOneEnd (Upgrades new p)
one_upgraded new p a b h k =
    both_are a b (Ok (Kept new k.0))
    (h.2 ∙ ap (λ bytes. Ok (Kept new bytes)) (h.1.written ∙ sym k.1.written)) k.2

fits_alike : (p : Parts) (x y : Book) → x.ledger.rows ≡ y.ledger.rows
    → fits p.bounds (rows_of x.ledger) ≡ fits p.bounds (rows_of y.ledger)
fits_alike p x y same = ap (λ rs. fits p.bounds (map row_of rs)) same

-- one table of the same rows
same_text : (names : List (List ℕ)) (x y : Ledger) (a b : List (List Value)) → a ≡ b
    → ((currency : List ℕ) → decimals_of x.decimals currency ≡ decimals_of y.decimals currency)
    → table_text names a (decimals_of x.decimals) ≡ table_text names b (decimals_of y.decimals)
same_text names x y a b same decimals =
    λ k. table_text names (same k) (λ currency. decimals currency k)

same_final : (p : Parts) (x y : Ledger) (a b : Answer) → x.rows ≡ y.rows
    → Answers p (rows_of x) a → Answers p (rows_of y) b → a.final ≡ b.final
same_final p x y a b same h k =
    ap (λ (c : Answer). c.final)
    (one_answer p (rows_of y) a b (subst (λ rs. Answers p (map row_of rs) a) same h) k)

same_ran : (p : Parts) (d : ℕ) (x y : Ledger) → x.rows ≡ y.rows
    → ((currency : List ℕ) → decimals_of x.decimals currency ≡ decimals_of y.decimals currency)
    → (t u : List ℕ) → IsTableOf p d x t → IsTableOf p d y u → t ≡ u
same_ran p d x y rows decimals t u h k =
    h.table
    ∙ same_text p.output.targets x y h.answer.final k.answer.final
    (same_final p x y h.answer k.answer rows h.answers k.answers) decimals
    ∙ sym k.table

told_alike : (t u : List ℕ) → t ≡ u → (a b : End) → a ≡ Ok (Told Fine t) → b ≡ Ok (Told Fine u)
    → AreAlike a b
told_alike t u same a b h k =
    both_are a b (Ok (Told Fine u)) (h ∙ ap (λ s. Ok (Told Fine s)) same) k

one_ran : (p : Parts) (d : ℕ) → SaysOne (Ran p d)
one_ran p d x y same a b (inl h) (inl k) = both_are a b (Err cause.OutsideBounds) h.1 k.1
one_ran p d x y same a b (inl h) (inr k) =
    absurd (false≢true (sym h.0 ∙ fits_alike p x y same.rows ∙ k.1.within))
one_ran p d x y same a b (inr h) (inl k) =
    absurd (false≢true (sym k.0 ∙ sym (fits_alike p x y same.rows) ∙ h.1.within))
one_ran p d x y same a b (inr h) (inr k) =
    told_alike h.0 k.0 (same_ran p d x.ledger y.ledger same.rows same.decimals h.0 k.0 h.1 k.1) a b
    h.2 k.2

same_answered : (q : Asked) (x y : Ledger) → x.rows ≡ y.rows
    → ((currency : List ℕ) → decimals_of x.decimals currency ≡ decimals_of y.decimals currency)
    → (t u : List ℕ) → IsTableOfQuery widest q x t → IsTableOfQuery widest q y u → t ≡ u
same_answered q x y rows decimals t u h k =
    let one = are_one (finish_of q) (meaning.rows_of widest q (rows_of y)) h.rows k.rows
    (subst (λ rs. IsAnswer widest q (map row_of rs) h.rows) rows h.answers) k.answers in
    h.table ∙ same_text (map target_name q.targets) x y h.rows k.rows one decimals ∙ sym k.table

one_answered : (q : Asked) → SaysOne (Answered q)
one_answered q x y same a b h k =
    told_alike h.0 k.0
    (same_answered q x.ledger y.ledger same.rows same.decimals h.0 k.0 h.1 k.1) a b h.2 k.2

-- ---- a batch

pub one_about_files : (Of : List (Parts × ℕ) → Due)
    → ((programs : List (Parts × ℕ)) (rest : List Reading) → IsOneEnd (Of programs rest))
    → (names : List Text) (readings : List Reading) → IsOneEnd (about_files Of names readings)
one_about_files Of one [] readings = one [] readings
one_about_files Of one (name ∷ names) readings =
    one_about_file (about_program (λ p depth. about_files (λ ps. Of ((p, depth) ∷ ps)) names))
    (one_about_program (λ p depth. about_files (λ ps. Of ((p, depth) ∷ ps)) names)
    (λ p depth rest. one_about_files (λ ps. Of ((p, depth) ∷ ps))
    (λ ps. one ((p, depth) ∷ ps)) names rest)) name readings

-- the same became of both, or memory lacked for one
module _ (x y : Book) (same : SameBooks x y) where
  same_fate : (p : Parts × ℕ) (f g : Fate) → IsFate x.ledger p f → IsFate y.ledger p g
      → (f ≡ g) ⊎ (lacks_memory f ≡ true) ⊎ (lacks_memory g ≡ true)
  same_fate p (fate.Table t) (fate.Table u) h k =
      inl (ap fate.Table (same_ran p.0 p.1 x.ledger y.ledger same.rows same.decimals t u h k))
  same_fate p (fate.Table t) fate.OutsideBounds h k =
      absurd (false≢true (sym k ∙ sym (fits_alike p.0 x y same.rows) ∙ h.within))
  same_fate p fate.OutsideBounds (fate.Table u) h k =
      absurd (false≢true (sym h ∙ fits_alike p.0 x y same.rows ∙ k.within))
  same_fate p fate.OutsideBounds fate.OutsideBounds h k = inl refl
  same_fate p (fate.Table t) fate.OutOfMemory h k = inr (inr refl)
  same_fate p fate.OutsideBounds fate.OutOfMemory h k = inr (inr refl)
  same_fate p fate.OutOfMemory g h k = inr (inl refl)

  abbrev AreSame : List Fate → List Fate → Type 0
  AreSame fs gs =
      (fs ≡ gs) ⊎ (list_any lacks_memory fs ≡ true) ⊎ (list_any lacks_memory gs ≡ true)

  one_of_all : (b : Bool) → (b || true) ≡ true
  one_of_all true = refl
  one_of_all false = refl

  joined : (f g : Fate) (fs gs : List Fate)
      → (f ≡ g) ⊎ (lacks_memory f ≡ true) ⊎ (lacks_memory g ≡ true) → AreSame fs gs
      → AreSame (f ∷ fs) (g ∷ gs)
  joined f g fs gs (inl first) (inl rest) = inl (ap₂ (λ x xs. x ∷ xs) first rest)
  joined f g fs gs (inl first) (inr (inl rest)) =
      inr (inl (ap (λ b. lacks_memory f || b) rest ∙ one_of_all (lacks_memory f)))
  joined f g fs gs (inl first) (inr (inr rest)) =
      inr (inr (ap (λ b. lacks_memory g || b) rest ∙ one_of_all (lacks_memory g)))
  joined f g fs gs (inr (inl first)) rest =
      inr (inl (ap (λ b. b || list_any lacks_memory fs) first))
  joined f g fs gs (inr (inr first)) rest =
      inr (inr (ap (λ b. b || list_any lacks_memory gs) first))

  same_fates : (programs : List (Parts × ℕ)) (fs gs : List Fate) → AreFates x.ledger programs fs
      → AreFates y.ledger programs gs → AreSame fs gs
  same_fates [] [] [] h k = inl refl
  same_fates [] [] (g ∷ gs) h k = absurd k
  same_fates [] (f ∷ fs) gs h k = absurd h
  same_fates (p ∷ programs) [] gs h k = absurd h
  same_fates (p ∷ programs) (f ∷ fs) [] h k = absurd k
  same_fates (p ∷ programs) (f ∷ fs) (g ∷ gs) h k =
      joined f g fs gs (same_fate p f g h.0 k.0) (same_fates programs fs gs h.1 k.1)

-- what is told of the files of programs for which this became of them
abbrev told_of : List Text → List Fate → End
told_of names fs = Ok (Told (batch.verdict_of fs) (text_of names fs))

is_told_lacking : (names : List Text) (fs : List Fate) → list_any lacks_memory fs ≡ true
    → ends.lacks_memory (Told (batch.verdict_of fs) (text_of names fs)) ≡ true
is_told_lacking names fs is =
    ap (λ b. is_lacking (if b then verdict.OutOfMemory
    else (if list_any is_outside fs then verdict.OutsideBounds else Fine))) is

one_lacking : (names : List Text) (fs gs : List Fate)
    → (list_any lacks_memory fs ≡ true) ⊎ (list_any lacks_memory gs ≡ true)
    → AreAlike (told_of names fs) (told_of names gs)
one_lacking names fs gs (inl lacks) = inr (inl (is_told_lacking names fs lacks))
one_lacking names fs gs (inr lacks) = inr (inr (is_told_lacking names gs lacks))

told_as : (names : List Text) (fs gs : List Fate)
    → (fs ≡ gs) ⊎ (list_any lacks_memory fs ≡ true) ⊎ (list_any lacks_memory gs ≡ true)
    → AreAlike (told_of names fs) (told_of names gs)
told_as names fs gs (inl same) =
    both_are (told_of names fs) (told_of names gs) (told_of names gs) (ap (told_of names) same) refl
told_as names fs gs (inr lacks) = one_lacking names fs gs lacks

one_batched : (names : List Text) (programs : List (Parts × ℕ)) → SaysOne (Batched names programs)
one_batched names programs x y same a b h k =
    subst (λ e. AreAlike e b) (sym h.2)
    (subst (AreAlike (told_of names h.0)) (sym k.2)
    (told_as names h.0 k.0 (same_fates x y same programs h.0 k.0 h.1 k.1)))

-- one program of a query, and one file of it
one_compiled : (b : Bounds) (file : Text) (q : Asked) → IsOneEnd (Compiled b file q)
one_compiled b file q x y h k =
    let same = h.1.is_program.parts ∙ sym k.1.is_program.parts in
    both_are x y (Ok (Kept file k.0))
    (h.2
    ∙ ap (λ bytes. Ok (Kept file bytes))
    ((subst (λ p. IsFile h.0 p) same h.1.is_file).written ∙ sym k.1.is_file.written)) k.2

pub have_one_end : HaveOneEnd
have_one_end None readings = one_at_once _ (one_is (Err cause.Words)) readings
have_one_end (Some (request.List ledger)) readings =
    one_about_ledger Lists (λ texts. one_about_book Listed one_listed texts) ledger readings
have_one_end (Some (request.Check ledger)) readings =
    one_about_ledger Checks (λ texts. one_about_book (Checked texts) (one_checked texts) texts)
    ledger readings
have_one_end (Some (request.Show file)) readings =
    one_about_file (λ bytes. at_once (Shows bytes))
    (λ bytes rest. one_at_once (Shows bytes) (one_is (listed (decoded bytes))) rest) file readings
have_one_end (Some (request.Verify file)) readings =
    one_about_file (about_program (λ p depth. at_once (Verifies p depth)))
    (one_about_program (λ p depth. at_once (Verifies p depth))
    (λ p depth rest. one_at_once (Verifies p depth) (one_is (Ok (Told Fine (line_of p depth))))
    rest)) file readings
have_one_end (Some (request.Upgrade old new)) readings =
    one_about_file (about_program (λ p depth. at_once (Upgrades new p)))
    (one_about_program (λ p depth. at_once (Upgrades new p))
    (λ p depth rest. one_at_once (Upgrades new p) (one_upgraded new p) rest)) old readings
have_one_end (Some (request.Run file ledger)) readings =
    one_about_file (about_program (λ p depth. about_ledger (about_book (Ran p depth)) ledger))
    (one_about_program (λ p depth. about_ledger (about_book (Ran p depth)) ledger)
    (λ p depth rest. one_about_ledger (about_book (Ran p depth))
    (λ texts. one_about_book (Ran p depth) (one_ran p depth) texts) ledger rest)) file readings
have_one_end (Some (request.Query ledger text)) readings =
    one_about_program_of widest (λ q. about_ledger (about_book (Answered q)) ledger)
    (λ q rest. one_about_ledger (about_book (Answered q))
    (λ texts. one_about_book (Answered q) (one_answered q) texts) ledger rest) text readings
have_one_end (Some (request.Compile text file bounds)) readings =
    one_about_program_of bounds (λ q. at_once (Compiled bounds file q))
    (λ q rest. one_at_once (Compiled bounds file q) (one_compiled bounds file q) rest) text readings
have_one_end (Some (request.Batch steps ledger files)) readings =
    one_about_files (λ programs. about_ledger (about_book (Batched files programs)) ledger)
    (λ programs rest. one_about_ledger (about_book (Batched files programs))
    (λ texts. one_about_book (Batched files programs) (one_batched files programs) texts) ledger
    rest) files readings
