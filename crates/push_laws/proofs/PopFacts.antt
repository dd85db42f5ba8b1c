-- The pop that takes a push back: whether there is one, and on which side of a place it stands.
use Rattle.std.proofs.Common.{◌≡◌, ℕ, zero, suc, ◌-◌, ◌+◌, ◌<◌, ◌≤◌, Bool, true, false, cond}
use Rattle.std.proofs.Common.{List, [], ◌∷◌, ◌++◌, length, take, Option, Some, None, is_some, nat_lt}
use Rattle.std.proofs.Common.{length-append, sym, ◌∙◌, ap, arith}
use Rattle.std.proofs.lemmas.Bool.Decides.{nat_tests}
use Rattle.std.specs.List.{AllByRecursion}
use Rattle.bean_directives.specs.declared.undated.Bound.{Bound}
use Rattle.bean_directives.specs.declared.undated.Bound.TheVariants.{Push, Pop}
use Rattle.bean_directives.specs.declared.undated.Pushed.{Pushed}
use Rattle.bean_directives.specs.declared.undated.PushName.{PushName}
use Rattle.bean_pushes.specs.Scope.{name_of, open_behind, open_pushes, pops_before}
use Rattle.bean_pushes.specs.Scope.{pops_left, same_name}
use Rattle.bean_pushes.specs.declared.scope.PlacedBound.{PlacedBound}
use Rattle.push_laws.proofs.OpenFacts.{open_is, take_none}
use Rattle.push_laws.specs.EachPush.{later_behind, one_less, or_on, pop_of}

abbrev pub UpTo : ℕ → List PlacedBound → Type 0
UpTo i bs = AllByRecursion (λ (b : PlacedBound). b.place ≤ i) bs

abbrev pub Past : ℕ → List PlacedBound → Type 0
Past i bs = AllByRecursion (λ (b : PlacedBound). i < b.place) bs

-- a push has a pop exactly where one is left for it
module _ (name : PushName) where
  abbrev HasPop : ℕ → List PlacedBound → Type 0
  HasPop later bs = is_some (pop_of name later bs) ≡ nat_lt later (pops_left name bs)

  none_left : (later : ℕ) → false ≡ nat_lt later 0
  none_left later = grind (arith, nat_tests)

  one_later : (later n : ℕ) → nat_lt (suc later) n ≡ nat_lt later (n - 1)
  one_later later n = grind (arith, nat_tests)

  first_is_there : (n : ℕ) → true ≡ nat_lt 0 (suc n)
  first_is_there n = grind (arith, nat_tests)

  one_earlier : (later n : ℕ) → nat_lt later n ≡ nat_lt (suc later) (suc n)
  one_earlier later n = grind (arith, nat_tests)

  module _ (place n : ℕ) (go : ℕ → Option ℕ)
      (is : (later : ℕ) → is_some (go later) ≡ nat_lt later n) where
    has_by_push : (same : Bool) (later : ℕ)
        → is_some (go (cond same (suc later) later)) ≡ nat_lt later (cond same (n - 1) n)
    has_by_push true later = is (suc later) ∙ one_later later n
    has_by_push false later = is later

    has_by_pop : (same : Bool) (later : ℕ)
        → is_some (or_on (cond same (one_less later) (Some later)) (Some place) go)
        ≡ nat_lt later (cond same (suc n) n)
    has_by_pop true zero = first_is_there n
    has_by_pop true (suc later) = is later ∙ one_earlier later n
    has_by_pop false later = is later

  has_by : (place n : ℕ) (go : ℕ → Option ℕ)
      → ((later : ℕ) → is_some (go later) ≡ nat_lt later n) → (k : Bound) (later : ℕ)
      → is_some (or_on (later_behind name later k) (Some place) go)
      ≡ nat_lt later (pops_before name k n)
  has_by place n go is (Push p) later = has_by_push place n go is (same_name (name_of p) name) later
  has_by place n go is (Pop m) later = has_by_pop place n go is (same_name m name) later

  pub has_pop : (bs : List PlacedBound) (later : ℕ)
      → is_some (pop_of name later bs) ≡ nat_lt later (pops_left name bs)
  has_pop [] later = none_left later
  has_pop (b ∷ bs) later =
      has_by b.place (pops_left name bs) (λ n. pop_of name n bs) (has_pop bs) b.bound later

-- ---- where its pop stands

-- it is there, and of the places that a test tells
abbrev pub IsAt : (ℕ → Type 0) → Option ℕ → Type 0
IsAt P None = ⊥
IsAt P (Some to) = P to

module _ (name : PushName) (P : ℕ → Type 0) where
  module _ (place n : ℕ) (here : P place) (go : ℕ → Option ℕ)
      (is : (later : ℕ) → later < n → IsAt P (go later)) where
    at_by_push : (same : Bool) (later : ℕ) → later < cond same (n - 1) n
        → IsAt P (go (cond same (suc later) later))
    at_by_push true later h = is (suc later) (omega (arith, h))
    at_by_push false later h = is later h

    at_by_pop : (same : Bool) (later : ℕ) → later < cond same (suc n) n
        → IsAt P (or_on (cond same (one_less later) (Some later)) (Some place) go)
    at_by_pop true zero h = here
    at_by_pop true (suc later) h = is later (omega (arith, h))
    at_by_pop false later h = is later h

  at_by : (place n : ℕ) → P place → (go : ℕ → Option ℕ)
      → ((later : ℕ) → later < n → IsAt P (go later)) → (k : Bound) (later : ℕ)
      → later < pops_before name k n
      → IsAt P (or_on (later_behind name later k) (Some place) go)
  at_by place n here go is (Push p) later h =
      at_by_push place n here go is (same_name (name_of p) name) later h
  at_by place n here go is (Pop m) later h =
      at_by_pop place n here go is (same_name m name) later h

  -- among some bounds, whatever stands behind them
  pub pop_among : (bs behind : List PlacedBound) → AllByRecursion (λ (b : PlacedBound). P b.place) bs
      → (later : ℕ) → later < pops_left name bs → IsAt P (pop_of name later (bs ++ behind))
  pop_among [] behind are later h = absurd (omega (arith, h))
  pop_among (b ∷ bs) behind are later h =
      at_by b.place (pops_left name bs) are.0 (λ n. pop_of name n (bs ++ behind))
      (pop_among bs behind are.1) b.bound later h

-- ---- behind some bounds that don't take it back

take_of_one : (n : ℕ) (p : Pushed) → length (take (1 - n) (p ∷ [])) ≡ 1 - n
take_of_one zero p = ap (λ k. length (take k (p ∷ []))) one ∙ sym one
  where
    one : 1 - 0 ≡ 1
    one = omega arith
take_of_one (suc n) p = ap (λ k. length (take k (p ∷ []))) (none n) ∙ sym (none n)
  where
    none : (k : ℕ) → 1 - suc k ≡ 0
    none k = omega arith

module _ (n : ℕ) (opened : List Pushed → List Pushed)
    (opens : (ps : List Pushed) → opened ps ≡ take (length ps - n) ps ++ opened [])
    (go end : ℕ → Option ℕ)
    (is : (later : ℕ) → n ≤ later → go later ≡ end (later - n + length (opened []))) where
  behind_push : (same : Bool) (p : Pushed) (later : ℕ) → cond same (n - 1) n ≤ later
      → go (cond same (suc later) later)
      ≡ end (later - cond same (n - 1) n + length (opened (cond same (p ∷ []) [])))
  behind_push true p later h =
      let one : length (opened (p ∷ [])) ≡ 1 - n + length (opened []) =
      ap length (opens (p ∷ [])) ∙ length-append (take (1 - n) (p ∷ [])) (opened [])
      ∙ ap (λ k. k + length (opened [])) (take_of_one n p) in
      is (suc later) (omega (arith, h)) ∙ ap end (omega (arith, h, one))
  behind_push false p later h = is later h

  behind_pop : (same : Bool) (place later : ℕ) → cond same (suc n) n ≤ later
      → or_on (cond same (one_less later) (Some later)) (Some place) go
      ≡ end (later - cond same (suc n) n + length (opened (cond same (take (0 - 1) []) [])))
  behind_pop true place zero h = absurd (omega (arith, h))
  behind_pop true place (suc later) h =
      is later (omega (arith, h))
      ∙ ap end (ap (λ k. k + length (opened [])) (less later)
      ∙ sym (ap (λ ps. suc later - suc n + length (opened ps)) (take_none (0 - 1))))
    where
      less : (k : ℕ) → k - n ≡ suc k - suc n
      less k = omega arith
  behind_pop false place later h = is later h

module _ (name : PushName) (behind : List PlacedBound) where
  behind_by : (bs : List PlacedBound)
      → ((later : ℕ) → pops_left name bs ≤ later → pop_of name later (bs ++ behind)
      ≡ pop_of name (later - pops_left name bs + length (open_pushes name [] bs)) behind)
      → (place : ℕ) (k : Bound) (later : ℕ) → pops_before name k (pops_left name bs) ≤ later
      → or_on (later_behind name later k) (Some place) (λ n. pop_of name n (bs ++ behind))
      ≡ pop_of name (later - pops_before name k (pops_left name bs)
      + length (open_pushes name (open_behind name [] k) bs)) behind
  behind_by bs is place (Push p) later few =
      behind_push (pops_left name bs) (λ ps. open_pushes name ps bs) (open_is name bs)
      (λ n. pop_of name n (bs ++ behind)) (λ n. pop_of name n behind) is
      (same_name (name_of p) name) p later few
  behind_by bs is place (Pop m) later few =
      behind_pop (pops_left name bs) (λ ps. open_pushes name ps bs) (open_is name bs)
      (λ n. pop_of name n (bs ++ behind)) (λ n. pop_of name n behind) is
      (same_name m name) place later few

  -- the pushes of these that stay are taken back before it
  pub pop_behind : (bs : List PlacedBound) (later : ℕ) → pops_left name bs ≤ later
      → pop_of name later (bs ++ behind)
      ≡ pop_of name (later - pops_left name bs + length (open_pushes name [] bs)) behind
  pop_behind [] later h = ap (λ k. pop_of name k behind) (same later)
    where
      same : (k : ℕ) → k ≡ k - 0 + 0
      same k = omega arith
  pop_behind (b ∷ bs) later h = behind_by bs (pop_behind bs) b.place b.bound later h
