-- Texts that bytes are, and one more behind them.
use Rattle.std.specs.Str.{IsUtf8}
use Rattle.std.proofs.lemmas.Str.{is_utf8-from_IsUtf8}
use Rattle.std.proofs.Common.{◌≡◌, ℕ, suc, ◌+◌, ◌<◌, ◌^◌, List, [], ◌∷◌, ◌++◌, length}
use Rattle.std.proofs.Common.{Ok, refl, sym, ap, subst, ◌∙◌, append_assoc, arith}
use Rattle.std.proofs.Math.Logic.{∥∥₁_elim, ∥∥₁_prop}
use Rattle.std.proofs.Props.{props}
use Rattle.std.proofs.lemmas.List.{append-nil}
use Rattle.query_code.specs.ByteForm.{Form, AllFit, all_written, read_all}
use Rattle.query_code.specs.TextForm.{text, texts_in, read_values, AreTexts}
use Rattle.query_code.proofs.ByteFormFacts.{IsExact, AreBytes, exact_row}
use Rattle.query_code.proofs.FieldFacts.{exact_text}

-- ---- of any form

all_written_behind : {A : Type 0} (a : Form A) (vs : List A) (v : A)
    → all_written a (vs ++ v ∷ []) ≡ all_written a vs ++ a.written v
all_written_behind a [] v = append-nil (a.written v)
all_written_behind a (w ∷ vs) v =
    ap (λ (bs : List ℕ). a.written w ++ bs) (all_written_behind a vs v)
    ∙ sym (append_assoc (a.written w) (all_written a vs) (a.written v))

all_fit_behind : {A : Type 0} (a : Form A) (vs : List A) (v : A) → AllFit a vs → a.fits v
    → AllFit a (vs ++ v ∷ [])
all_fit_behind a [] v all fits = (fits, tt)
all_fit_behind a (w ∷ vs) v all fits = (all.0, all_fit_behind a vs v all.1 fits)

length_behind : {A : Type 0} (vs : List A) (v : A) → length (vs ++ v ∷ []) ≡ suc (length vs)
length_behind [] v = refl
length_behind (w ∷ vs) v = ap suc (length_behind vs v)

one_behind : (n : ℕ) → suc n ≡ n + 1
one_behind n = omega arith

read_back : {A : Type 0} (a : Form A) → IsExact a → (n : ℕ) (vs : List A) → length vs ≡ n
    → AllFit a vs → read_all a n (all_written a vs) ≡ Ok (vs, [])
read_back a exact n vs number fit =
    ap (read_all a n) (sym (append-nil (all_written a vs)))
    ∙ (exact_row n a exact).again vs [] (number, fit)

-- ---- of texts

texts_are_a_set : IsSet (List (List ℕ))
texts_are_a_set = hlevel props

bytes_are_a_set : IsSet (List ℕ)
bytes_are_a_set = hlevel props

numbers_are_a_set : IsSet ℕ
numbers_are_a_set = hlevel props

pub none_are_texts : ∥ AreTexts 0 [] ∥₁
unfolding read_all texts_in
none_are_texts = ∣ record { number = refl; fit = tt; written = refl } ∣₁

-- a text that isn't too long
pub fits_text : (t : List ℕ) → length t < 2 ^ 16 → IsUtf8 t → text.fits t
unfolding text
fits_text t short utf8 = ((short, (refl, is_utf8-from_IsUtf8 t utf8)), refl)

pub none_in : texts_in 0 [] ≡ []
unfolding read_all texts_in
none_in = refl

pub number_is : (n : ℕ) (bytes : List ℕ) → ∥ AreTexts n bytes ∥₁ → length (texts_in n bytes) ≡ n
number_is n bytes are =
    ∥∥₁_elim are (numbers_are_a_set (length (texts_in n bytes)) n) (λ texts. texts.number)

pub written_is : (n : ℕ) (bytes : List ℕ) → ∥ AreTexts n bytes ∥₁
    → bytes ≡ all_written text (texts_in n bytes)
written_is n bytes are =
    ∥∥₁_elim are (bytes_are_a_set bytes (all_written text (texts_in n bytes)))
    (λ texts. texts.written)

-- texts that are written are those
pub those : (n : ℕ) (ts : List (List ℕ)) → length ts ≡ n → AllFit text ts
    → texts_in n (all_written text ts) ≡ ts
unfolding texts_in
those n ts number fit = ap read_values (read_back text exact_text n ts number fit)

are_those : (n : ℕ) (ts : List (List ℕ)) → length ts ≡ n → AllFit text ts
    → AreTexts n (all_written text ts)
are_those n ts number fit =
    let is = sym (those n ts number fit) in
    record {
      number = subst (λ (us : List (List ℕ)). length us ≡ n) is number;
      fit = subst (AllFit text) is fit;
      written = ap (all_written text) is;
    }

behind : (n : ℕ) (bytes t : List ℕ) → AreTexts n bytes
    → bytes ++ text.written t ≡ all_written text (texts_in n bytes ++ t ∷ [])
behind n bytes t are =
    ap (λ (bs : List ℕ). bs ++ text.written t) are.written
    ∙ sym (all_written_behind text (texts_in n bytes) t)

one_more_number : (n : ℕ) (bytes t : List ℕ) → AreTexts n bytes
    → length (texts_in n bytes ++ t ∷ []) ≡ n + 1
one_more_number n bytes t are =
    length_behind (texts_in n bytes) t ∙ ap suc are.number ∙ one_behind n

pub one_more : (n : ℕ) (bytes t : List ℕ) → AreTexts n bytes → text.fits t
    → AreTexts (n + 1) (bytes ++ text.written t)
one_more n bytes t are fits =
    subst (AreTexts (n + 1)) (sym (behind n bytes t are))
    (are_those (n + 1) (texts_in n bytes ++ t ∷ []) (one_more_number n bytes t are)
    (all_fit_behind text (texts_in n bytes) t are.fit fits))

pub one_more_are : (n : ℕ) (bytes t : List ℕ) → ∥ AreTexts n bytes ∥₁ → text.fits t
    → ∥ AreTexts (n + 1) (bytes ++ text.written t) ∥₁
one_more_are n bytes t are fits =
    ∥∥₁_elim are ∥∥₁_prop (λ texts. ∣ one_more n bytes t texts fits ∣₁)

more_texts : (n : ℕ) (bytes t : List ℕ) → AreTexts n bytes → text.fits t
    → texts_in (n + 1) (bytes ++ text.written t) ≡ texts_in n bytes ++ t ∷ []
more_texts n bytes t are fits =
    ap (texts_in (n + 1)) (behind n bytes t are)
    ∙ those (n + 1) (texts_in n bytes ++ t ∷ []) (one_more_number n bytes t are)
    (all_fit_behind text (texts_in n bytes) t are.fit fits)

pub one_more_text : (n : ℕ) (bytes t : List ℕ) → ∥ AreTexts n bytes ∥₁ → text.fits t
    → texts_in (n + 1) (bytes ++ text.written t) ≡ texts_in n bytes ++ t ∷ []
one_more_text n bytes t are fits =
    ∥∥₁_elim are (texts_are_a_set _ _) (λ texts. more_texts n bytes t texts fits)

-- ---- read from the front

-- what is read is written before the rest
pub read_before : (n : ℕ) (bytes : List ℕ) (ts : List (List ℕ)) (rest : List ℕ) → AreBytes bytes
    → read_all text n bytes ≡ Ok (ts, rest) → bytes ≡ all_written text ts ++ rest
read_before n bytes ts rest are read =
    ((exact_row n text exact_text).takes bytes ts rest are read).1

pub read_are : (n : ℕ) (bytes : List ℕ) (ts : List (List ℕ)) (rest : List ℕ) → AreBytes bytes
    → read_all text n bytes ≡ Ok (ts, rest) → ∥ AreTexts n (all_written text ts) ∥₁
read_are n bytes ts rest are read =
    let t = (exact_row n text exact_text).takes bytes ts rest are read in
    ∣ are_those n ts t.0.0 t.0.1 ∣₁

pub read_those : (n : ℕ) (bytes : List ℕ) (ts : List (List ℕ)) (rest : List ℕ) → AreBytes bytes
    → read_all text n bytes ≡ Ok (ts, rest) → texts_in n (all_written text ts) ≡ ts
read_those n bytes ts rest are read =
    let t = (exact_row n text exact_text).takes bytes ts rest are read in
    those n ts t.0.0 t.0.1
