-- Reading texts one after the other without keeping them, as a loop does.
use Rattle.std.proofs.Common.{◌≡◌, ℕ, ◌-◌, ◌+◌, ◌≤◌, ◌<◌, List, [], ◌∷◌, ◌++◌, Ok, sym, ap, ◌∙◌}
use Rattle.query_code.specs.declared.cause.Stop.{Stop}
use Rattle.refusals.specs.declared.refusal.Refusal.{Refusal}
use Rattle.query_code.specs.ByteForm.{Read, read_all}
use Rattle.query_code.specs.TextForm.{text, texts_in, read_values}
use Rattle.query_file.specs.FieldReading.{Fails}
use Rattle.query_file.proofs.RowFacts as row
use Rattle.query_file.proofs.RowFacts.{IsOnTheWay}

-- Some texts were read, and what is left to read completes them.
pub record IsPassing (left : ℕ) (rest : List ℕ) (count : ℕ) (bytes : List ℕ) : Type 0 where
  pub front : List (List ℕ)
  pub so_far : IsOnTheWay text front left rest count bytes

pub begins : (count : ℕ) (bytes : List ℕ) → IsPassing (count - 0) bytes count bytes
begins count bytes = record { front = []; so_far = row.begins text count bytes }

pub goes_on : (count i : ℕ) (rest t after bytes : List ℕ) → i < count
    → text.read rest ≡ Ok (t, after) → IsPassing (count - i) rest count bytes
    → IsPassing (count - (i + 1)) after count bytes
goes_on count i rest t after bytes lt h p = record {
  front = p.front ++ t ∷ [];
  so_far = row.goes_on text p.front count i rest t after bytes lt h p.so_far;
}

pub ends : (fault : Refusal Stop) (count i : ℕ) (rest bytes : List ℕ) → i < count
    → Fails fault (text.read rest) → IsPassing (count - i) rest count bytes
    → Fails fault (read_all text count bytes)
ends fault count i rest bytes lt h p = row.ends text fault p.front count i rest bytes lt h p.so_far

-- what was read is what reading gives
those : {A : Type 0} (read : Read (List A)) (vs : List A) (rest : List ℕ) → read ≡ Ok (vs, rest)
    → read ≡ Ok (read_values read, rest)
those {A} read vs rest is = is ∙ ap (λ (us : List A). Ok (us, rest)) (sym (ap read_values is))

pub is_done : (count i : ℕ) (rest bytes : List ℕ) → count ≤ i
    → IsPassing (count - i) rest count bytes
    → read_all text count bytes ≡ Ok (texts_in count bytes, rest)
unfolding texts_in
is_done count i rest bytes le p =
    those (read_all text count bytes) p.front rest
    (row.is_done text p.front count i rest bytes le p.so_far)

pub ruleset passing = (begins, goes_on, ends, is_done)
