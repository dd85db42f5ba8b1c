-- Takes, one candidate after the other.
use Rattle.std.proofs.Common.{◌≡◌, ℕ, suc, ◌+◌, ◌-◌, ◌<◌, ◌==◌, ℤ, ◌≤◌, false, cond, List, [], ◌∷◌, ◌++◌}
use Rattle.std.proofs.Common.{length, get_or, drop, min, refl, sym, ◌∙◌, ap, arith, add-one}
use Rattle.std.proofs.Common.{append_assoc}
use Rattle.std.proofs.Math.Seq.{drop-cons}
use Rattle.std.proofs.lemmas.List.{append-nil, drop_all}
use Rattle.bean_lots.specs.declared.lot.Lot.{Lot}
use Rattle.bean_reductions.specs.Take.{signed_take, signed_takes}
use Rattle.bean_reductions.specs.Filling.{filled}

pub filled_zero : (q : List (Lot × ℕ)) → filled q 0 ≡ []
filled_zero [] = refl
filled_zero (c ∷ q) = refl

filled_more : (q : List (Lot × ℕ)) (i : ℕ) (c : Lot × ℕ) (rest : ℕ) → i < length q
    → c ≡ get_or q i c → (rest == 0) ≡ false
    → filled (drop i q) rest ≡ (c.0, min c.1 rest) ∷ filled (drop (i + 1) q) (rest - min c.1 rest)
filled_more q i c rest h is some =
    let at : drop i q ≡ c ∷ drop (i + 1) q =
    rw add-one (drop-cons q i c h ∙ ap (λ x. x ∷ drop (suc i) q) (sym is)) in
    let left : rest - c.1 ≡ rest - min c.1 rest = omega arith in
    ap (λ l. filled l rest) at
    ∙ ap (λ b. cond b [] ((c.0, min c.1 rest) ∷ filled (drop (i + 1) q) (rest - c.1))) some
    ∙ ap (λ n. (c.0, min c.1 rest) ∷ filled (drop (i + 1) q) n) left

pub more :
    (q : List (Lot × ℕ)) (i : ℕ) (c : Lot × ℕ) (want : ℤ) (rest : ℕ) (done all : List (Lot × ℤ × ℕ))
    → i < length q → c ≡ get_or q i c → (rest == 0) ≡ false
    → done ++ signed_takes want (filled (drop i q) rest) ≡ all
    → (done ++ signed_take want (c.0, min c.1 rest) ∷ [])
    ++ signed_takes want (filled (drop (i + 1) q) (rest - min c.1 rest)) ≡ all
more q i c want rest done all h is some told =
    append_assoc done (signed_take want (c.0, min c.1 rest) ∷ []) _
    ∙ ap (λ l. done ++ signed_takes want l) (sym (filled_more q i c rest h is some)) ∙ told

-- nothing is left to be taken
pub nothing_wanted : (q : List (Lot × ℕ)) (i : ℕ) (want : ℤ) (rest : ℕ) (done all : List (Lot × ℤ × ℕ))
    → rest ≡ 0 → done ++ signed_takes want (filled (drop i q) rest) ≡ all → done ≡ all
nothing_wanted q i want rest done all is_zero told =
    sym (append-nil done)
    ∙ ap (λ l. done ++ signed_takes want l)
    (sym (ap (filled (drop i q)) is_zero ∙ filled_zero (drop i q)))
    ∙ told

-- no candidate is left
pub none_left : (q : List (Lot × ℕ)) (i : ℕ) (want : ℤ) (rest : ℕ) (done all : List (Lot × ℤ × ℕ))
    → length q ≤ i → done ++ signed_takes want (filled (drop i q) rest) ≡ all → done ≡ all
none_left q i want rest done all seen told =
    sym (append-nil done)
    ∙ ap (λ l. done ++ signed_takes want (filled l rest)) (sym (drop_all i q seen)) ∙ told
