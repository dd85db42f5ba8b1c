-- How texts are written, and which texts bytes are.
use Rattle.std.specs.Prelude.{◌≡◌, ℕ, ◌+◌, nat_lt, take, drop, Option, Some, None, if◌then◌else◌, List, [], length, Ok, Err}
use Rattle.std.specs.Int.{w16, from_be_bytes}
use Rattle.std.specs.Str.{is_utf8}
use Rattle.query_code.specs.declared.cause.FileCauseKind.TheVariants.{NotUtf8}
use Rattle.query_code.specs.ByteForm.{Form, Read, raw, mapped, such_that, before, read_all}
use Rattle.query_code.specs.ByteForm.{AllFit, all_written}
use Rattle.query_code.specs.InstructionForm.{word}

-- behind its length in bytes
unfoldable pub text : Form (List ℕ)
text = mapped (λ p. p.1) (λ bs. (length bs, bs))
    (before word (λ n. such_that NotUtf8 is_utf8 (raw n)))

abbrev pub read_values : {A : Type 0} → Read (List A) → List A
read_values (Ok x) = x.0
read_values (Err stop) = []

-- so many texts, read from the front of bytes; none where so many aren't there
unfoldable pub texts_in : ℕ → List ℕ → List (List ℕ)
texts_in n bytes = read_values (read_all text n bytes)

-- bytes that write so many texts, and nothing behind them
pub record AreTexts (n : ℕ) (bytes : List ℕ) : Type 0 where
  pub number : length (texts_in n bytes) ≡ n
  pub fit : AllFit text (texts_in n bytes)
  pub written : bytes ≡ all_written text (texts_in n bytes)

-- texts in two parts, one behind the other
pub record AreTwoParts (n : ℕ) (front behind : List ℕ) : Type 0 where
  pub front_number : ℕ
  pub behind_number : ℕ
  pub front_texts : AreTexts front_number front
  pub behind_texts : AreTexts behind_number behind
  pub number : n ≡ front_number + behind_number

-- the bytes of the text in front, as its length tells them, and those behind it
abbrev pub first_in : List ℕ → Option (List ℕ × List ℕ)
first_in bytes =
    if nat_lt (length bytes) 2 then None else
    if nat_lt (length (drop 2 bytes)) (from_be_bytes w16 (take 2 bytes)) then None else
    Some (
      take (from_be_bytes w16 (take 2 bytes)) (drop 2 bytes),
      drop (from_be_bytes w16 (take 2 bytes)) (drop 2 bytes),
    )
