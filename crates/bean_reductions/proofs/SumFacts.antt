-- An arrangement of candidates has as many, and as many units.
use Rattle.std.proofs.Common.{◌≡◌, ◌+◌, ℕ, Bool, true, false, cond, List, [], ◌∷◌, length, sum_by, refl}
use Rattle.std.proofs.Common.{sym, ◌∙◌, ap, arith}
use Rattle.std.proofs.lemmas.List.Sorted.{ranks_by}
use Rattle.std.proofs.lemmas.List.Sums.{sum_by-cons}
use Rattle.theory.specs.Arrangement.{arranged_by, by_key, put_by}
use Rattle.theory.proofs.AllFacts.{in_order_length}
use Rattle.theory.proofs.ArrangedFacts.{is_arranged}
use Rattle.bean_lots.specs.declared.lot.Lot.{Lot}
use Rattle.bean_reductions.specs.Take.{IsQueue, day_of, order_of, units_of}
use Rattle.bean_reductions.specs.declared.reduction.Method.{Method}
use Rattle.bean_reductions.proofs.ReductionFacts.{one_queue, open_orders}

module _ (before : Lot × ℕ → Lot × ℕ → Bool) where
  sum_put : (c : Lot × ℕ) (q : List (Lot × ℕ))
      → sum_by units_of (put_by before c q) ≡ c.1 + sum_by units_of q
  sum_put c [] = sum_by-cons units_of c []
  sum_put c (d ∷ q) = by (before d c) (sum_put c q)
    where
      by : (b : Bool) → sum_by units_of (put_by before c q) ≡ c.1 + sum_by units_of q
          → sum_by units_of (cond b (d ∷ put_by before c q) (c ∷ d ∷ q))
          ≡ c.1 + sum_by units_of (d ∷ q)
      by true rest =
          let first = sum_by-cons units_of d (put_by before c q) in
          let all = sum_by-cons units_of d q in
          omega (arith, first, all, rest)
      by false rest = sum_by-cons units_of c (d ∷ q)

  pub sum_arranged : (cs : List (Lot × ℕ))
      → sum_by units_of (arranged_by before cs) ≡ sum_by units_of cs
  sum_arranged [] = refl
  sum_arranged (c ∷ cs) =
      sum_put c (arranged_by before cs) ∙ ap (λ n. c.1 + n) (sum_arranged cs)
      ∙ sym (sum_by-cons units_of c cs)

pub queue_length : (m : Method) (cs q : List (Lot × ℕ)) → IsQueue m cs q → length q ≡ length cs
queue_length m cs q arranged = in_order_length day_of (order_of m) (open_orders m) cs q arranged

pub queue_sum : (m : Method) (cs q : List (Lot × ℕ)) → IsQueue m cs q
    → sum_by units_of q ≡ sum_by units_of cs
queue_sum m cs q arranged =
    let before = by_key day_of (order_of m) in
    let own = is_arranged before (ranks_by (open_orders m) day_of) cs in
    ap (sum_by units_of) (one_queue m cs q (arranged_by before cs) arranged own)
    ∙ sum_arranged before cs
