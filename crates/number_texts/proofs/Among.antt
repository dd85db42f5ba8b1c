-- Texts that are put among spaces.
use Rattle.std.proofs.Common.{◌≡◌, ◌≤◌, ◌+◌, ◌-◌, ◌++◌, ℕ, List, length, replicate, take, drop, ap, ◌∙◌}
use Rattle.std.proofs.Common.{arith, append_assoc, length-append, length-take-le}
use Rattle.std.proofs.Math.Seq.{drop-append-add, take-append-add}
use Rattle.std.proofs.lemmas.List.{drop-replicate, take-append-le, take-replicate}

-- what is put behind a front
pub put_behind : (old rest bytes : List ℕ) (at n k : ℕ) → at ≡ length old + k
    → take at (old ++ rest) ++ bytes ++ drop (at + n) (old ++ rest)
    ≡ old ++ (take k rest ++ bytes ++ drop (k + n) rest)
put_behind old rest bytes at n k is =
    let more : at + n ≡ length old + (k + n) = omega (arith, is) in
    (λ i. take (is i) (old ++ rest) ++ bytes ++ drop (more i) (old ++ rest))
    ∙ (λ i. take-append-add old rest k i ++ bytes ++ drop-append-add old rest (k + n) i)
    ∙ ap (λ l. l ++ drop (k + n) rest) (append_assoc old (take k rest) bytes)
    ∙ append_assoc old (take k rest ++ bytes) (drop (k + n) rest)

-- the first bytes, put where spaces begin
pub first_put : (old all bytes : List ℕ) (at n : ℕ) → at ≡ length old → all ≡ old ++ replicate 64 32
    → take at all ++ bytes ++ drop (at + n) all ≡ old ++ (bytes ++ replicate (64 - n) 32)
first_put old all bytes at n is spaces =
    (λ i. take at (spaces i) ++ bytes ++ drop (at + n) (spaces i))
    ∙ put_behind old (replicate 64 32) bytes at n 0 (omega (arith, is))
    ∙ ap (λ l. old ++ (bytes ++ l))
    (drop-replicate (0 + n) 64 32
    ∙ ap (λ k. replicate k 32) (let e : 64 - (0 + n) ≡ 64 - n = omega arith in e))

-- the first bytes and the last, put among spaces, of which so many are kept
pub among : (first last : List ℕ) (n len spaces : ℕ) → length first ≡ n → length last ≡ n
    → n ≤ len → len ≤ n + n → len + spaces ≤ 64
    → take (len + spaces)
    (take (len - n) (first ++ replicate (64 - n) 32) ++ last
    ++ drop (len - n + n) (first ++ replicate (64 - n) 32))
    ≡ (take (len - n) first ++ last) ++ replicate spaces 32
among first last n len spaces many all least most fits =
    let k = len - n in
    let front = take-append-le k first (replicate (64 - n) 32) (omega (arith, many, least, most)) in
    let at : k + n ≡ length first + (len - n) = omega (arith, many, least) in
    let text = take k first ++ last in
    let long : length text ≡ len =
    omega (
      arith,
      length-append (take k first) last,
      length-take-le k first (omega (arith, many, least, most)),
      all,
      least,
    ) in
    let kept : len + spaces ≡ length text + spaces = omega (arith, long) in
    (λ i. take (kept i)
    ((front i ++ last) ++ (ap (λ j. drop j (first ++ replicate (64 - n) 32)) at
    ∙ drop-append-add first (replicate (64 - n) 32) (len - n) ∙ drop-replicate (len - n) (64 - n) 32) i))
    ∙ take-append-add text (replicate (64 - n - (len - n)) 32) spaces
    ∙ ap (λ l. text ++ l)
    (take-replicate spaces (64 - n - (len - n)) 32 (omega (arith, fits, least)))
