-- A map by names after a write at the index of a name.
use Rattle.std.proofs.Common.{◌≡◌, ℕ, Bool, true, false, cond, List, [], ◌∷◌, Option, Some, None}
use Rattle.std.proofs.Common.{IfNone, IfSome, slice_get, unwrap_or, position, refl, sym, ap, ◌∙◌}
use Rattle.std.proofs.Common.{true≢false}
use Rattle.std.specs.List.{IsDistinct}
use Rattle.std.specs.Map.{keys_of, lookup}
use Rattle.std.specs.Option.{is_some}
use Rattle.std.specs.Str.{bytes_eq}
use Rattle.std.proofs.lemmas.Cmp.{nat_list_eq_equiv}
use Rattle.std.proofs.lemmas.Slice.Eq.{bytes_eq-Decides}
use Rattle.indexmap.specs.IndexMap.{insert_entry, set_value_at}
use Rattle.indexmap.proofs.MapLemmas.{Found-position, index-first, insert_entry-first}
use Rattle.indexmap.proofs.RemoveLemmas.{own_first}

module _ {V : Type 0} where
  -- what stands under a name, once a value is put under another or the same
  put : (es : List (List ℕ × V)) (k q : List ℕ) (v : V)
      → lookup (bytes_eq q) (insert_entry bytes_eq es k v)
      ≡ cond (bytes_eq q k) (Some v) (lookup (bytes_eq q) es)
  put [] k q v = refl
  put (e ∷ es) k q v = by (bytes_eq k e.0) refl (put es k q v)
    where
      twice : (b : Bool) (m l : Option V) → cond b (Some v) l ≡ cond b (Some v) (cond b m l)
      twice true m l = refl
      twice false m l = refl

      turned : (a b : Bool) (m l : Option V) → (a ≡ true → b ≡ true → ⊥)
          → cond b m (cond a (Some v) l) ≡ cond a (Some v) (cond b m l)
      turned true true m l h = absurd (h refl refl)
      turned true false m l h = refl
      turned false b m l h = refl

      by : (b : Bool) → bytes_eq k e.0 ≡ b
          → lookup (bytes_eq q) (insert_entry bytes_eq es k v)
          ≡ cond (bytes_eq q k) (Some v) (lookup (bytes_eq q) es)
          → lookup (bytes_eq q) (cond b ((e.0, v) ∷ es) (e ∷ insert_entry bytes_eq es k v))
          ≡ cond (bytes_eq q k) (Some v) (lookup (bytes_eq q) (e ∷ es))
      by true h rest =
          twice (bytes_eq q e.0) (Some e.1) (lookup (bytes_eq q) es)
          ∙ ap (λ s. cond (bytes_eq q s) (Some v) (lookup (bytes_eq q) (e ∷ es)))
          (sym ((bytes_eq-Decides k e.0).0 h))
      by false h rest =
          ap (cond (bytes_eq q e.0) (Some e.1)) rest
          ∙ turned (bytes_eq q k) (bytes_eq q e.0) (Some e.1) (lookup (bytes_eq q) es) (λ a b.
          true≢false
          (sym (ap (λ s. bytes_eq s e.0) (sym ((bytes_eq-Decides q k).0 a)) ∙ b) ∙ h))

  -- the same where it is written at the name's index
  pub written : (es : List (List ℕ × V)) (k q : List ℕ) (i : ℕ) (v : V)
      → position (bytes_eq k) (keys_of es) ≡ Some i
      → lookup (bytes_eq q) (set_value_at es i v)
      ≡ cond (bytes_eq k q) (Some v) (lookup (bytes_eq q) es)
  written es k q i v p =
      ap (lookup (bytes_eq q))
      (sym (insert_entry-first bytes_eq k v es i (Found-position (bytes_eq k) es i p).first))
      ∙ put es k q v
      ∙ ap (λ b. cond b (Some v) (lookup (bytes_eq q) es)) (nat_list_eq_equiv.symm q k)

  pub nothing : (o : Option V) (none : V) → false ≡ is_some o → none ≡ unwrap_or o none
  nothing None none h = refl
  nothing (Some v) none h = cc

  pub put_or_before : (b : Bool) (new none : V) (before : Option V)
      → unwrap_or (cond b (Some new) before) none ≡ cond b new (unwrap_or before none)
  put_or_before true new none before = refl
  put_or_before false new none before = refl

  -- a name stands where an entry of it is, as no two have one name
  pub placed : (es : List (List ℕ × V)) (name k : List ℕ) (i : ℕ) (v : V)
      → IsDistinct bytes_eq (keys_of es) → slice_get es i ≡ Some (k, v) → bytes_eq name k ≡ true
      → position (bytes_eq name) (keys_of es) ≡ Some i
  placed es name k i v apart at h =
      ap (λ n. position (bytes_eq n) (keys_of es)) ((bytes_eq-Decides name k).0 h)
      ∙ index-first (bytes_eq k) es i (own_first bytes_eq nat_list_eq_equiv es i k v apart at)

  -- nothing stands under a name that has no place
  pub nothing_there : (o : Option ℕ) (found : Option V) (none : V) → is_some o ≡ is_some found
      → IfNone o (unwrap_or found none ≡ none)
  nothing_there None None none h = refl
  nothing_there None (Some v) none h = absurd (true≢false (sym h))
  nothing_there (Some i) found none h = tt

pub such : (o p : Option ℕ) → o ≡ p → IfSome o (λ i. p ≡ Some i)
such None p e = tt
such (Some i) p e = sym e
