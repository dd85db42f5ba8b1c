-- Counts at the place of a number and a currency: where it is, and a write there.
use Rattle.std.proofs.Common.{◌≡◌, ◌&&◌, ◌==◌, ℕ, ℤ, pos, Bool, true, false, cond, List, [], ◌∷◌}
use Rattle.std.proofs.Common.{Option, Some, None, IfNone, IfSome, slice_get, unwrap_or, position}
use Rattle.std.proofs.Common.{refl, sym, ap, ◌∙◌, true≢false}
use Rattle.std.specs.Cmp.{IsEquivalence}
use Rattle.std.specs.List.{IsDistinct}
use Rattle.std.specs.Map.{keys_of, lookup, values_of}
use Rattle.std.specs.Option.{is_some}
use Rattle.std.specs.Str.{bytes_eq}
use Rattle.std.proofs.lemmas.Bool.{eqb-true}
use Rattle.std.proofs.lemmas.Cmp.{nat_eq_equiv, nat_list_eq_equiv}
use Rattle.std.proofs.lemmas.Slice.Eq.{bytes_eq-Decides}
use Rattle.indexmap.specs.IndexMap.{insert_entry, set_value_at}
use Rattle.indexmap.proofs.MapLemmas.{Found-position, index-first, insert_entry-first}
use Rattle.indexmap.proofs.RemoveLemmas.{own_first}
use Rattle.bean_pad.specs.Counts.{Added, count_at, same_at}
use Rattle.bean_pad.specs.declared.counts.At.{At}

same : (a b : At) → same_at a b ≡ true → a ≡ b
same a b h = by (a.number == b.number) (bytes_eq a.currency b.currency) refl refl h
  where
    by : (x y : Bool) → (a.number == b.number) ≡ x → bytes_eq a.currency b.currency ≡ y
        → (x && y) ≡ true → a ≡ b
    by true true p q h = λ i. record {
      number = eqb-true a.number b.number p i;
      currency = (bytes_eq-Decides a.currency b.currency).0 q i;
    }
    by true false p q h = cc
    by false y p q h = cc

at_equiv : IsEquivalence same_at
at_equiv = record {
  refl = λ a i. nat_eq_equiv.refl a.number i && nat_list_eq_equiv.refl a.currency i;
  symm = λ a b i. nat_eq_equiv.symm a.number b.number i
      && nat_list_eq_equiv.symm a.currency b.currency i;
  congr = λ a b q h. ap (λ s. same_at s q) (same a b h);
}

-- ---- where it is

-- a number and a currency are where an entry of them is, as no two are of the same
pub placed : (es : List (At × ℤ)) (own k : At) (i : ℕ) (n : ℤ)
    → IsDistinct same_at (keys_of es) → slice_get es i ≡ Some (k, n) → same_at own k ≡ true
    → position (same_at own) (keys_of es) ≡ Some i
placed es own k i n apart at h =
    ap (λ q. position (same_at q) (keys_of es)) (same own k h)
    ∙ index-first (same_at k) es i (own_first same_at at_equiv es i k n apart at)

pub such : (o p : Option ℕ) → o ≡ p → IfSome o (λ i. p ≡ Some i)
such None p e = tt
such (Some i) p e = sym e

-- the count is 0 where there is no place
pub nothing_there : (o : Option ℕ) (found : Option ℤ) → is_some o ≡ is_some found
    → IfNone o (unwrap_or found (pos 0) ≡ pos 0)
nothing_there None None h = refl
nothing_there None (Some n) h = absurd (true≢false (sym h))
nothing_there (Some i) found h = tt

-- the count of a number and a currency that have a place is the one there
pub count_there : (es : Added) (number : ℕ) (lent currency : List ℕ) (i : ℕ) (n : ℤ)
    → lent ≡ currency
    → position (same_at (record { number = number; currency = lent })) (keys_of es) ≡ Some i
    → slice_get (values_of es) i ≡ Some n
    → count_at es number currency ≡ n
count_there es number lent currency i n named at is =
    ap (count_at es number) (sym named)
    ∙ ap (λ o. unwrap_or o (pos 0))
    ((Found-position (same_at (record { number = number; currency = lent })) es i at).value ∙ is)

-- ---- a write

-- the count under a number and a currency, once another is written under that of the same name
pub put : (es : List (At × ℤ)) (k q : At) (n : ℤ)
    → lookup (same_at q) (insert_entry same_at es k n)
    ≡ cond (same_at q k) (Some n) (lookup (same_at q) es)
put [] k q n = refl
put (e ∷ es) k q n = by (same_at k e.0) refl (put es k q n)
  where
    twice : (b : Bool) (m l : Option ℤ) → cond b (Some n) l ≡ cond b (Some n) (cond b m l)
    twice true m l = refl
    twice false m l = refl

    turned : (a b : Bool) (m l : Option ℤ) → (a ≡ true → b ≡ true → ⊥)
        → cond b m (cond a (Some n) l) ≡ cond a (Some n) (cond b m l)
    turned true true m l h = absurd (h refl refl)
    turned true false m l h = refl
    turned false b m l h = refl

    by : (b : Bool) → same_at k e.0 ≡ b
        → lookup (same_at q) (insert_entry same_at es k n)
        ≡ cond (same_at q k) (Some n) (lookup (same_at q) es)
        → lookup (same_at q) (cond b ((e.0, n) ∷ es) (e ∷ insert_entry same_at es k n))
        ≡ cond (same_at q k) (Some n) (lookup (same_at q) (e ∷ es))
    by true h rest =
        twice (same_at q e.0) (Some e.1) (lookup (same_at q) es)
        ∙ ap (λ s. cond (same_at q s) (Some n) (lookup (same_at q) (e ∷ es)))
        (sym (same k e.0 h))
    by false h rest =
        ap (cond (same_at q e.0) (Some e.1)) rest
        ∙ turned (same_at q k) (same_at q e.0) (Some e.1) (lookup (same_at q) es) (λ a b.
        true≢false (sym (ap (λ s. same_at s e.0) (sym (same q k a)) ∙ b) ∙ h))

pub written : (es : List (At × ℤ)) (k q : At) (i : ℕ) (n : ℤ)
    → position (same_at k) (keys_of es) ≡ Some i
    → lookup (same_at q) (set_value_at es i n)
    ≡ cond (same_at k q) (Some n) (lookup (same_at q) es)
written es k q i n p =
    ap (lookup (same_at q))
    (sym (insert_entry-first same_at k n es i (Found-position (same_at k) es i p).first))
    ∙ put es k q n
    ∙ ap (λ b. cond b (Some n) (lookup (same_at q) es)) (at_equiv.symm q k)

pub put_or_before : (b : Bool) (new : ℤ) (before : Option ℤ)
    → unwrap_or (cond b (Some new) before) (pos 0) ≡ cond b new (unwrap_or before (pos 0))
put_or_before true new before = refl
put_or_before false new before = refl
