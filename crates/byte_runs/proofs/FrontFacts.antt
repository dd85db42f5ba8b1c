-- Two lists are the same where each pair is.
use Rattle.std.proofs.Common.{◌≡◌, ℕ, ◌+◌, ◌<◌, ◌&&◌, List, length, get_or, drop, nat_eq, drop-cons}
use Rattle.std.proofs.Common.{add-one, ap, sym, ◌∙◌}
use Rattle.std.specs.Cmp.Lexicographic.{pointwise}

pub next_pair : (i : ℕ) (xs ys : List ℕ) → i < length xs → i < length ys
    → pointwise nat_eq (drop i xs) (drop i ys)
    ≡ (nat_eq (get_or xs i 0) (get_or ys i 0) && pointwise nat_eq (drop (i + 1) xs) (drop (i + 1) ys))
next_pair i xs ys in_xs in_ys =
    (λ n. pointwise nat_eq (drop-cons xs i 0 in_xs n) (drop-cons ys i 0 in_ys n))
    ∙ ap
    (λ j. nat_eq (get_or xs i 0) (get_or ys i 0) && pointwise nat_eq (drop j xs) (drop j ys))
    (sym (add-one i))
