-- What is filled in stands in the order of its lines, so that the front holds all of one line.
use Rattle.std.proofs.Common.{◌≡◌, ℕ, suc, ◌+◌, ◌<◌, ◌≤◌, ◌==◌, Bool, true, false, cond, List, []}
use Rattle.std.proofs.Common.{◌∷◌, ◌++◌, take, drop, map, refl, sym, ap, subst, ◌∙◌, arith}
use Rattle.std.proofs.lemmas.Bool.Decides.{nat_tests}
use Rattle.std.specs.List.{prefix_len}
use Rattle.bean_interp.specs.Completion.{gap_of, gaps, gaps_from, taken_by}
use Rattle.bean_interp.specs.declared.fill.Fill.{Fill}
use Rattle.bean_interp.specs.declared.leg.Leg.{Leg}
use Rattle.bean_transactions.specs.Filled.{AreFrom, IsCutBehind, at_line}
use Rattle.bean_transactions.specs.Tried.{filled_in, posts_at}
use Rattle.bean_transactions.specs.declared.line.Line.{Line}
use Rattle.bean_transactions.specs.declared.line.Line.TheVariants as line

-- ---- gaps, and so what is filled in, are in order

abbrev pub AreGapsFrom : ℕ → List (ℕ × List ℕ) → Type 0
AreGapsFrom i [] = Unit {0}
AreGapsFrom i (g ∷ gs) = (i ≤ g.0) × AreGapsFrom g.0 gs

earlier : (i k : ℕ) (gs : List (ℕ × List ℕ)) → i ≤ k → AreGapsFrom k gs → AreGapsFrom i gs
earlier i k [] e h = tt
earlier i k (g ∷ gs) e h = (omega (arith, e, h.0), h.1)

with_gaps : (i : ℕ) (cs : List (List ℕ)) (gs : List (ℕ × List ℕ)) → AreGapsFrom i gs
    → AreGapsFrom i (map (λ c. (i, c)) cs ++ gs)
with_gaps i [] gs h = h
with_gaps i (c ∷ cs) gs h = (omega arith, with_gaps i cs gs h)

gaps_in_order : (all : List Leg) (i : ℕ) (legs : List Leg) → AreGapsFrom i (gaps_from all i legs)
gaps_in_order all i [] = tt
gaps_in_order all i (leg ∷ legs) =
    with_gaps i (taken_by all leg) (gaps_from all (i + 1) legs)
    (earlier i (i + 1) (gaps_from all (i + 1) legs) (omega arith) (gaps_in_order all (i + 1) legs))

of_gaps : (i : ℕ) (fills : List Fill) → AreGapsFrom i (map gap_of fills) → AreFrom i fills
of_gaps i [] h = tt
of_gaps i (f ∷ fs) h = (h.0, of_gaps f.leg fs h.1)

pub fills_in_order : (legs : List Leg) (fills : List Fill) → map gap_of fills ≡ gaps legs
    → AreFrom 0 fills
fills_in_order legs fills are =
    of_gaps 0 fills (subst (AreGapsFrom 0) (sym are) (gaps_in_order legs 0 legs))

-- ---- the front of a line

abbrev is_at : ℕ → Fill → Bool
is_at k f = f.leg == k

later_from : (i k : ℕ) (fs : List Fill) → k ≤ i → AreFrom i fs → AreFrom k fs
later_from i k [] e h = tt
later_from i k (f ∷ fs) e h = (omega (arith, e, h.0), h.1)

none_at : (i k : ℕ) (fs : List Fill) → k < i → AreFrom i fs → at_line k fs ≡ []
none_at i k [] below h = refl
none_at i k (f ∷ fs) below h =
    let own : (f.leg == k) ≡ false = grind (arith, nat_tests, below, h.0) in
    ap (λ b. cond b (f ∷ at_line k fs) (at_line k fs)) own
    ∙ none_at f.leg k fs (omega (arith, below, h.0)) h.1

one_more : (n : ℕ) → 1 + n ≡ suc n
one_more n = omega arith

front : (k : ℕ) (fs : List Fill) → AreFrom k fs
    → at_line k (take (prefix_len (is_at k) fs) fs) ≡ at_line k fs
front k [] h = refl
front k (f ∷ fs) h = by (is_at k f) refl (front k fs (later_from f.leg k fs h.0 h.1))
  where
    by : (b : Bool) → is_at k f ≡ b
        → at_line k (take (prefix_len (is_at k) fs) fs) ≡ at_line k fs
        → at_line k (take (cond b (1 + prefix_len (is_at k) fs) 0) (f ∷ fs))
        ≡ cond b (f ∷ at_line k fs) (at_line k fs)
    by true e others =
        ap (λ n. at_line k (take n (f ∷ fs))) (one_more (prefix_len (is_at k) fs))
        ∙ ap (λ b. cond b (f ∷ at_line k (take (prefix_len (is_at k) fs) fs))
        (at_line k (take (prefix_len (is_at k) fs) fs))) e
        ∙ ap (λ l. f ∷ l) others
    by false e others =
        let above : k < f.leg = grind (arith, nat_tests, e, h.0) in sym (none_at f.leg k fs above h.1)

left : (k : ℕ) (fs : List Fill) → AreFrom k fs → (j : ℕ) → k < j
    → at_line j (drop (prefix_len (is_at k) fs) fs) ≡ at_line j fs
left k [] h j later = refl
left k (f ∷ fs) h j later =
    by (is_at k f) refl (left k fs (later_from f.leg k fs h.0 h.1) j later)
  where
    by : (b : Bool) → is_at k f ≡ b
        → at_line j (drop (prefix_len (is_at k) fs) fs) ≡ at_line j fs
        → at_line j (drop (cond b (1 + prefix_len (is_at k) fs) 0) (f ∷ fs))
        ≡ at_line j (f ∷ fs)
    by true e others =
        let own : (f.leg == j) ≡ false = grind (arith, nat_tests, e, later) in
        ap (λ n. at_line j (drop n (f ∷ fs))) (one_more (prefix_len (is_at k) fs)) ∙ others
        ∙ sym (ap (λ b. cond b (f ∷ at_line j fs) (at_line j fs)) own)
    by false e others = refl

left_from : (k : ℕ) (fs : List Fill) → AreFrom k fs
    → AreFrom (k + 1) (drop (prefix_len (is_at k) fs) fs)
left_from k [] h = tt
left_from k (f ∷ fs) h =
    by (is_at k f) refl (left_from k fs (later_from f.leg k fs h.0 h.1))
  where
    by : (b : Bool) → is_at k f ≡ b → AreFrom (k + 1) (drop (prefix_len (is_at k) fs) fs)
        → AreFrom (k + 1) (drop (cond b (1 + prefix_len (is_at k) fs) 0) (f ∷ fs))
    by true e others =
        subst (λ n. AreFrom (k + 1) (drop n (f ∷ fs))) (sym (one_more (prefix_len (is_at k) fs)))
        others
    by false e others = (grind (arith, nat_tests, e, h.0), h.1)

pub cut_is : (k n : ℕ) (fs here behind : List Fill) → n ≡ prefix_len (λ f. f.leg == k) fs
    → here ≡ take n fs → behind ≡ drop n fs → AreFrom k fs → IsCutBehind k fs here behind
cut_is k n fs here behind is front_is back_is h =
    let a = front_is ∙ ap (λ n. take n fs) is in
    let b = back_is ∙ ap (λ n. drop n fs) is in
    record {
      of_line = ap (at_line k) a ∙ front k fs h;
      of_later = λ j later. ap (at_line j) b ∙ left k fs h j later;
      are_from = subst (AreFrom (k + 1)) (sym b) (left_from k fs h);
    }

-- ---- what lines are booked as

pub posts_same : (a b : List Fill) (k : ℕ) (l : Line) → at_line k a ≡ at_line k b
    → posts_at a k l ≡ posts_at b k l
posts_same a b k (line.Posted p) e = refl
posts_same a b k (line.Take p) e = refl
posts_same a b k (line.MissingNumber account c i) e = ap (map (filled_in account i)) e
posts_same a b k (line.MissingAmount account i) e = ap (map (filled_in account i)) e
