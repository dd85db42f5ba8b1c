-- The bytes between two places of what is read.
use Rattle.std.proofs.Common.{◌≡◌, ◌≤◌, ◌-◌, ◌+◌, ℕ, List, ◌++◌, length, take, Ok, arith, ap, sym}
use Rattle.std.proofs.Common.{subst, ◌∙◌, refl}
use Rattle.std.proofs.lemmas.List.{take_at, length-append}
use Rattle.query_code.specs.ByteForm.{all_written, read_all, counted}
use Rattle.query_code.specs.TextForm.{text, texts_in, AreTexts}
use Rattle.query_code.specs.QueryFile.{some_number}
use Rattle.query_code.proofs.ByteFormFacts.{AreBytes, bytes_behind}
use Rattle.query_code.proofs.FieldFacts.{exact_some_number}
use Rattle.query_code.proofs.TextListFacts.{read_before, read_are, read_those}

-- what stands behind a number is bytes too
pub behind_number : (bytes rest : List ℕ) (n : ℕ) → AreBytes bytes
    → some_number.read bytes ≡ Ok (n, rest) → AreBytes rest
behind_number bytes rest n are read =
    bytes_behind (some_number.written n) rest
    (subst AreBytes (exact_some_number.takes bytes n rest are read).1 are)

-- what stands before a rest
abbrev pub front_of : List ℕ → List ℕ → List ℕ
front_of bytes rest = take (length bytes - length rest) bytes

front_written : (w rest : List ℕ) → front_of (w ++ rest) rest ≡ w
front_written w rest =
    let len : length (w ++ rest) - length rest ≡ length w = omega (arith, length-append w rest) in
    ap (λ (n : ℕ). take n (w ++ rest)) len ∙ take_at w rest (length w) refl

-- what was read, and what is left of it
pub record IsRead (n : ℕ) (bytes rest : List ℕ) : Type 0 where
  pub shorter : length rest ≤ length bytes
  pub are_texts : ∥ AreTexts n (front_of bytes rest) ∥₁
  pub same : texts_in n (front_of bytes rest) ≡ texts_in n bytes

is_read_of : (n : ℕ) (bytes w rest : List ℕ) (ts : List (List ℕ)) → bytes ≡ w ++ rest
    → ∥ AreTexts n w ∥₁ → texts_in n w ≡ ts → texts_in n bytes ≡ ts → IsRead n bytes rest
is_read_of n bytes w rest ts cut are those seen =
    let front : front_of bytes rest ≡ w =
    ap (λ (bs : List ℕ). front_of bs rest) cut ∙ front_written w rest in
    let len : length bytes ≡ length w + length rest = ap length cut ∙ length-append w rest in
    record {
      shorter = omega (arith, len);
      are_texts = subst (λ (bs : List ℕ). ∥ AreTexts n bs ∥₁) (sym front) are;
      same = ap (texts_in n) front ∙ those ∙ sym seen;
    }

pub is_read : (n : ℕ) (bytes rest : List ℕ) → AreBytes bytes
    → read_all text n bytes ≡ Ok (texts_in n bytes, rest) → IsRead n bytes rest
is_read n bytes rest are read =
    is_read_of n bytes (all_written text (texts_in n bytes)) rest (texts_in n bytes)
    (read_before n bytes (texts_in n bytes) rest are read)
    (read_are n bytes (texts_in n bytes) rest are read)
    (read_those n bytes (texts_in n bytes) rest are read) refl

-- texts behind their number
pub counted_texts : (bytes rest after : List ℕ) (n : ℕ) (ts : List (List ℕ))
    → some_number.read bytes ≡ Ok (n, rest) → read_all text n rest ≡ Ok (ts, after)
    → (counted some_number text).read bytes ≡ Ok (ts, after)
counted_texts bytes rest after n ts number texts = rw (number, texts) refl
