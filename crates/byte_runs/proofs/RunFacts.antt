-- Where runs of ASCII end, a character ends.
use Rattle.std.proofs.Common.{◌≡◌, ℕ, zero, suc, add-zero, ◌+◌, ◌<◌, ◌≤◌, Bool, true, List, length}
use Rattle.std.proofs.Common.{get_or, drop, IsUtf8, arith, ap, sym, ◌∙◌, length-drop, subst}
use Rattle.std.proofs.lemmas.Str.{IsCharBoundary-after_ascii, IsCharBoundary-start}
use Rattle.std.proofs.lemmas.List.Sums.{prefix_len_passes, prefix_len-le-length}
use Rattle.std.proofs.lemmas.List.{get_or-drop}
use Rattle.std.specs.List.{prefix_len}
use Rattle.std.specs.Str.{IsCharBoundary}

run_by : (p : ℕ → Bool) → ((b : ℕ) → p b ≡ true → b < 128) → (bs : List ℕ) (start n : ℕ) → IsUtf8 bs
    → start ≤ length bs → IsCharBoundary bs start → n ≤ prefix_len p (drop start bs)
    → IsCharBoundary bs (start + n)
run_by p ascii bs start zero utf8 inside at h = rw add-zero at
run_by p ascii bs start (suc n) utf8 inside at h =
    let within = prefix_len-le-length p (drop start bs) in
    let l = length-drop start bs in
    let passes = prefix_len_passes p (drop start bs) n 0 (omega arith) in
    let e : start + suc n ≡ start + n + 1 = omega arith in
    rw e (IsCharBoundary-after_ascii bs (start + n) utf8 (omega arith)
    (ascii (get_or bs (start + n) 0) (ap p (sym (get_or-drop start bs n 0)) ∙ passes)))

-- a run behind a place where a character ends
pub run_boundary : (p : ℕ → Bool) → ((b : ℕ) → p b ≡ true → b < 128) → (bs : List ℕ) (start : ℕ)
    → IsUtf8 bs → start ≤ length bs → IsCharBoundary bs start
    → IsCharBoundary bs (start + prefix_len p (drop start bs))
run_boundary p ascii bs start utf8 inside at =
    run_by p ascii bs start (prefix_len p (drop start bs)) utf8 inside at (omega arith)

-- a run at the front
pub front_boundary : (p : ℕ → Bool) → ((b : ℕ) → p b ≡ true → b < 128) → (bs : List ℕ) (n : ℕ)
    → IsUtf8 bs → n ≡ 0 + prefix_len p (drop 0 bs) → IsCharBoundary bs n
front_boundary p ascii bs n utf8 is =
    subst (IsCharBoundary bs) (sym is)
    (run_boundary p ascii bs 0 utf8 (omega arith) (IsCharBoundary-start bs utf8))
