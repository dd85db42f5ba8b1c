-- The gaps of legs, one after the other.
use Rattle.std.proofs.Common.{◌≡◌, ◌+◌, ◌<◌, ◌≤◌, ℕ, suc, List, [], ◌∷◌, ◌++◌, length, take, drop}
use Rattle.std.proofs.Common.{get_or, sym, ap, ◌∙◌, subst, append_assoc, arith}
use Rattle.std.proofs.Math.Seq.{split_at, take-suc}
use Rattle.std.proofs.lemmas.List.{append-nil, length-take}
use Rattle.bean_interp.specs.Completion.{gaps_from, gaps_of}
use Rattle.bean_interp.specs.Filling.{HaveNumbers}
use Rattle.bean_interp.specs.declared.leg.Leg.{Leg}
use Rattle.bean_interp.proofs.FillingFacts.{numbers_between}

gaps_append : (all : List Leg) (j : ℕ) (legs more : List Leg)
    → gaps_from all j (legs ++ more) ≡ gaps_from all j legs ++ gaps_from all (j + length legs) more
gaps_append all j [] more = ap (λ n. gaps_from all n more) (zero j)
  where
    zero : (k : ℕ) → k ≡ k + 0
    zero k = omega arith
gaps_append all j (l ∷ legs) more =
    let sum : j + 1 + length legs ≡ j + length (l ∷ legs) = omega arith in
    ap (λ gs. gaps_of all j l ++ gs)
    (gaps_append all (j + 1) legs more
    ∙ ap (λ n. gaps_from all (j + 1) legs ++ gaps_from all n more) sum)
    ∙ sym (append_assoc (gaps_of all j l) (gaps_from all (j + 1) legs)
    (gaps_from all (j + length (l ∷ legs)) more))

taken_length : (legs : List Leg) (i : ℕ) → i ≤ length legs → 0 + length (take i legs) ≡ i
taken_length legs i le = grind (arith, length-take)

pub gaps_next : (all legs : List Leg) (i : ℕ) (d : Leg) → i < length legs
    → gaps_from all 0 (take (i + 1) legs)
    ≡ gaps_from all 0 (take i legs) ++ gaps_of all i (get_or legs i d)
gaps_next all legs i d lt =
    let succ : i + 1 ≡ suc i = omega arith in
    ap (gaps_from all 0) (ap (λ n. take n legs) succ ∙ take-suc legs i d lt)
    ∙ gaps_append all 0 (take i legs) (get_or legs i d ∷ [])
    ∙ (λ k. gaps_from all 0 (take i legs)
    ++ append-nil (gaps_of all (taken_length legs i (omega (arith, lt)) k) (get_or legs i d)) k)

-- where one leg's gaps have no numbers, not all gaps have
pub leg_without : (all legs : List Leg) (i : ℕ) (d : Leg) → i < length legs
    → ¬ HaveNumbers all (gaps_of all i (get_or legs i d)) → ¬ HaveNumbers all (gaps_from all 0 legs)
leg_without all legs i d lt none have =
    none (numbers_between all (gaps_from all 0 (take i legs)) (gaps_of all i (get_or legs i d))
    (gaps_from all (i + 1) (drop (suc i) legs)) (subst (HaveNumbers all) split have))
  where
    split : gaps_from all 0 legs
        ≡ gaps_from all 0 (take i legs)
        ++ (gaps_of all i (get_or legs i d) ++ gaps_from all (i + 1) (drop (suc i) legs))
    split = ap (gaps_from all 0) (split_at legs i d lt)
        ∙ gaps_append all 0 (take i legs) (get_or legs i d ∷ drop (suc i) legs)
        ∙ (λ k. gaps_from all 0 (take i legs)
        ++ (gaps_of all (taken_length legs i (omega (arith, lt)) k) (get_or legs i d)
        ++ gaps_from all (taken_length legs i (omega (arith, lt)) k + 1) (drop (suc i) legs)))
