-- Forms of bytes: which values have one, how each is written, and how one is read from the front of
-- bytes.
use Rattle.std.specs.Prelude.{cond, ◌≡◌, ℕ, zero, suc, ◌<◌, ◌==◌, Bool, nat_lt, IsTrue, List, []}
use Rattle.std.specs.Prelude.{◌∷◌, ◌++◌, length, take, drop, Option, Some, None, Result, Ok, Err}
use Rattle.std.specs.Prelude.{if◌then◌else◌}
use Rattle.std.specs.Int.{Width, byte_len, from_be_bytes, to_be_bytes}
use Rattle.query_code.specs.declared.cause.FileCauseKind.{FileCauseKind}
use Rattle.query_code.specs.declared.cause.FileCauseKind.TheVariants.{Truncated, BadField}
use Rattle.std.specs.Str.{bytes_eq}
use Rattle.query_code.specs.declared.cause.Stop.{Stop}

-- A value at the front with the bytes behind it, or the first field that fails.
abbrev pub Read : Type 0 → Type 0
Read T = Result (T × List ℕ) Stop

pub record Form (T : Type 0) : Type 1 where
  pub fits : T → Type 0
  pub written : T → List ℕ
  pub read : List ℕ → Read T

infixl 10 ◌>>=◌
abbrev pub ◌>>=◌ : {A B : Type 0} → Result A Stop → (A → Result B Stop) → Result B Stop
(Ok x) >>= f = f x
(Err e) >>= f = Err e

-- the cause at the first of these bytes
abbrev pub stop : {A : Type 0} → FileCauseKind → List ℕ → Result A Stop
stop cause bytes = Err (record { cause = cause; left = length bytes })

-- the bytes end within a field
abbrev pub cut_short : {A : Type 0} → Result A Stop
cut_short = Err (record { cause = Truncated; left = 0 })

-- so many bytes, as they are
abbrev pub raw : ℕ → Form (List ℕ)
raw n = record {
  fits = λ bs. length bs ≡ n;
  written = λ bs. bs;
  read = λ bytes. if nat_lt (length bytes) n then cut_short else Ok (take n bytes, drop n bytes);
}

-- What stands for another value: the form's values as they are seen; a value that is no such sight
-- has no form.
abbrev pub mapped : {A B : Type 0} → (A → B) → (B → A) → Form A → Form B
mapped to from a = record {
  fits = λ v. a.fits (from v) × (to (from v) ≡ v);
  written = λ v. a.written (from v);
  read = λ bytes. a.read bytes >>= λ x. Ok (to x.0, x.1);
}

-- only values that pass a test; what fails it fails at its own first byte
abbrev pub such_that : {A : Type 0} → FileCauseKind → (A → Bool) → Form A → Form A
such_that cause test a = record {
  fits = λ v. a.fits v × IsTrue (test v);
  written = a.written;
  read = λ bytes. a.read bytes >>= λ x. if test x.0 then Ok x else stop cause bytes;
}

abbrev pub taken_as : {B : Type 0} → FileCauseKind → List ℕ → Option B → List ℕ → Read B
taken_as cause bytes None rest = stop cause bytes
taken_as cause bytes (Some v) rest = Ok (v, rest)

-- What stands for another value where it stands for one; what stands for none fails at its first
-- byte.
abbrev pub standing_for : {A B : Type 0} → FileCauseKind → (A → Option B) → (B → A) → Form A → Form B
standing_for cause to from a = record {
  fits = λ v. a.fits (from v) × (to (from v) ≡ Some v);
  written = λ v. a.written (from v);
  read = λ bytes. a.read bytes >>= λ x. taken_as cause bytes (to x.0) x.1;
}

-- one behind the other, where the first says what the second is
abbrev pub before : {A B : Type 0} → Form A → (A → Form B) → Form (A × B)
before {A} {B} a b = record {
  fits = λ p. a.fits p.0 × (b p.0).fits p.1;
  written = λ p. a.written p.0 ++ (b p.0).written p.1;
  read = λ bytes. a.read bytes >>= λ x. (b x.0).read x.1 >>= λ y. Ok ((x.0, y.0), y.1);
}

abbrev pub both : {A B : Type 0} → Form A → Form B → Form (A × B)
both a b = before a (λ v. b)

-- ---- some in a row

abbrev pub AllFit : {A : Type 0} → Form A → List A → Type 0
AllFit a [] = Unit {0}
AllFit a (v ∷ vs) = a.fits v × AllFit a vs

abbrev pub all_written : {A : Type 0} → Form A → List A → List ℕ
all_written a [] = []
all_written a (v ∷ vs) = a.written v ++ all_written a vs

unfoldable pub read_all : {A : Type 0} → Form A → ℕ → List ℕ → Read (List A)
read_all a zero bytes = Ok ([], bytes)
read_all a (suc n) bytes = do
  first ← a.read bytes
  others ← read_all a n first.1
  Ok (first.0 ∷ others.0, others.1)

-- so many in a row
abbrev pub row : {A : Type 0} → ℕ → Form A → Form (List A)
row n a = record {
  fits = λ vs. (length vs ≡ n) × AllFit a vs;
  written = all_written a;
  read = read_all a n;
}

-- behind their number
abbrev pub counted : {A : Type 0} → Form ℕ → Form A → Form (List A)
counted count a = mapped (λ p. p.1) (λ vs. (length vs, vs)) (before count (λ n. row n a))

-- ---- numbers

abbrev pub read_byte : List ℕ → Read ℕ
read_byte [] = cut_short
read_byte (b ∷ rest) = Ok (b, rest)

abbrev pub byte : Form ℕ
byte = record { fits = λ b. b < 256; written = λ b. b ∷ []; read = read_byte }

-- an unsigned number, its highest byte first
abbrev pub number : Width → ℕ → Form ℕ
number w limit = record {
  fits = λ n. n < limit;
  written = to_be_bytes w;
  read = λ bytes. if nat_lt (length bytes) (byte_len w) then cut_short else
      Ok (from_be_bytes w (take (byte_len w) bytes), drop (byte_len w) bytes);
}

-- behind a mark
abbrev pub marked : {A : Type 0} → FileCauseKind → List ℕ → Form A → Form A
marked cause mark a =
    mapped (λ p. p.1) (λ v. (mark, v))
    (both (such_that cause (bytes_eq mark) (raw (length mark))) a)

-- ---- the front byte tells the rest

-- no bytes
abbrev pub just : {A : Type 0} → A → Form A
just v = record { fits = λ w. v ≡ w; written = λ w. []; read = λ bytes. Ok (v, bytes) }

pub record Case (A : Type 0) : Type 1 where
  pub tag : ℕ
  pub form : Form A

abbrev pub case : {A : Type 0} → ℕ → Form A → Case A
case tag form = record { tag = tag; form = form }

-- behind a byte that tells no form
abbrev pub unknown : {A : Type 0} → ℕ → Form A
unknown n = record { fits = λ v. ⊥; written = λ v. []; read = λ rest. stop BadField (n ∷ rest) }

abbrev pub chosen : {A : Type 0} → List (Case A) → ℕ → Form A
chosen [] n = unknown n
chosen (c ∷ cs) n = cond (n == c.tag) c.form (chosen cs n)

-- a byte that tells the form of the rest
abbrev pub told : {A : Type 0} → (A → ℕ) → List (Case A) → Form A
told tag cases = mapped (λ p. p.1) (λ v. (tag v, v)) (before byte (chosen cases))
