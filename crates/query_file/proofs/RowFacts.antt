-- Reading fields of one form one after the other, as a loop does.
use Rattle.std.proofs.Common.{◌≡◌, ℕ, zero, suc, ◌-◌, ◌+◌, ◌≤◌, ◌<◌, List, length, [], ◌∷◌, ◌++◌}
use Rattle.std.proofs.Common.{Ok, Err, refl, sym, ap, ◌∙◌, append_assoc, arith}
use Rattle.std.proofs.lemmas.List.{append-nil}
use Rattle.query_code.specs.declared.cause.Stop.{Stop}
use Rattle.refusals.specs.declared.refusal.Refusal.{Refusal}
use Rattle.refusals.specs.declared.refusal.Refusal.TheVariants.{OutOfMemory, Refused}
use Rattle.query_code.proofs.ByteFormFacts.{bind_ok, ok_is}
use Rattle.query_code.specs.ByteForm.{Form, Read, ◌>>=◌, read_all}
use Rattle.query_file.specs.FieldReading.{Fails}

-- what was read before, and what is still read
abbrev pub with_front : {A : Type 0} → List A → Read (List A) → Read (List A)
with_front front read = read >>= λ x. Ok (front ++ x.0, x.1)

-- What is left to read completes what was read.
pub record IsOnTheWay {A : Type 0} (a : Form A) (front : List A) (left : ℕ) (rest : List ℕ)
    (count : ℕ) (bytes : List ℕ) : Type 0 where
  pub total : with_front front (read_all a left rest) ≡ read_all a count bytes

nothing_before : {A : Type 0} (read : Read (List A)) → with_front [] read ≡ read
nothing_before (Ok x) = refl
nothing_before (Err f) = refl

pub begins : {A : Type 0} (a : Form A) (count : ℕ) (bytes : List ℕ)
    → IsOnTheWay a [] (count - 0) bytes count bytes
begins a count bytes =
    let k : count - 0 ≡ count = omega arith in
    record { total = rw k (nothing_before (read_all a count bytes)) }

regroup : {A : Type 0} (front : List A) (v : A) (read : Read (List A))
    → with_front front (read >>= λ x. Ok (v ∷ x.0, x.1)) ≡ with_front (front ++ v ∷ []) read
regroup {A} front v (Ok x) = ap (λ (vs : List A). Ok (vs, x.1)) (simp append_assoc)
regroup front v (Err f) = refl

pub goes_on :
    {A : Type 0} (a : Form A) (front : List A) (count i : ℕ) (rest : List ℕ) (v : A)
    (after : List ℕ) (bytes : List ℕ) → i < count → a.read rest ≡ Ok (v, after)
    → IsOnTheWay a front (count - i) rest count bytes
    → IsOnTheWay a (front ++ v ∷ []) (count - (i + 1)) after count bytes
unfolding read_all
goes_on a front count i rest v after bytes lt h so_far =
    let k : count - i ≡ suc (count - (i + 1)) = omega arith in
    let one :
    with_front front (read_all a (count - i) rest)
    ≡ with_front (front ++ v ∷ []) (read_all a (count - (i + 1)) after) =
    rw (k, h) (regroup front v (read_all a (count - (i + 1)) after)) in
    record { total = sym one ∙ so_far.total }

pub ends :
    {A : Type 0} (a : Form A) (fault : Refusal Stop) (front : List A) (count i : ℕ) (rest bytes : List ℕ)
    → i < count → Fails fault (a.read rest)
    → IsOnTheWay a front (count - i) rest count bytes → Fails fault (read_all a count bytes)
unfolding read_all
ends a OutOfMemory front count i rest bytes lt h so_far = tt
ends a (Refused f) front count i rest bytes lt h so_far =
    let k : count - i ≡ suc (count - (i + 1)) = omega arith in
    let one : with_front front (read_all a (count - i) rest) ≡ Err f = rw (k, h) refl in
    sym so_far.total ∙ one

pub is_done : {A : Type 0} (a : Form A) (front : List A) (count i : ℕ) (rest bytes : List ℕ)
    → count ≤ i → IsOnTheWay a front (count - i) rest count bytes
    → read_all a count bytes ≡ Ok (front, rest)
unfolding read_all
is_done {A} a front count i rest bytes le so_far =
    let k : count - i ≡ 0 = omega arith in
    let one : with_front front (read_all a (count - i) rest) ≡ Ok (front, rest) =
    rw k (ap (λ (vs : List A). Ok (vs, rest)) (append-nil front)) in
    sym so_far.total ∙ one

read_number : {A : Type 0} (a : Form A) (n : ℕ) (bytes : List ℕ) (x : List A × List ℕ)
    → read_all a n bytes ≡ Ok x → length x.0 ≡ n
unfolding read_all
read_number {A} a zero bytes x e =
    sym (ap (λ (y : List A × List ℕ). length y.0) (ok_is ([], bytes) x e))
read_number {A} a (suc n) bytes x e =
    let p = bind_ok (a.read bytes) (λ first. read_all a n first.1
    >>= λ others. Ok (first.0 ∷ others.0, others.1)) x e in
    let q = bind_ok (read_all a n p.0.1) (λ others. Ok (p.0.0 ∷ others.0, others.1)) x p.2 in
    sym (ap (λ (y : List A × List ℕ). length y.0) (ok_is (p.0.0 ∷ q.0.0, q.0.1) x q.2))
    ∙ ap suc (read_number a n p.0.1 q.0 q.1)

-- as many are read as were to be read
pub all_read : {A : Type 0} (a : Form A) (front : List A) (count i : ℕ) (rest bytes : List ℕ)
    → count ≤ i → IsOnTheWay a front (count - i) rest count bytes → length front ≡ count
all_read a front count i rest bytes le so_far =
    read_number a count bytes (front, rest) (is_done a front count i rest bytes le so_far)

pub ruleset in_a_row = (begins, goes_on, ends, is_done, all_read)
