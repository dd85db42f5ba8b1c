-- Entries of a map: what holds of all holds of one that is found, and with one that is put in; where
-- one stands; and what stays.
use Rattle.std.proofs.Common.{◌≡◌, ℕ, Bool, true, false, cond, List, [], ◌∷◌, Option, Some}
use Rattle.std.proofs.Common.{position, slice_get, unwrap_or, refl, ap, subst, sym}
use Rattle.std.proofs.Common.{◌∙◌}
use Rattle.std.proofs.lemmas.Cmp.{nat_list_eq_equiv}
use Rattle.std.proofs.lemmas.Slice.Eq.{bytes_eq-Decides}
use Rattle.indexmap.proofs.MapLemmas.{index-first}
use Rattle.indexmap.proofs.RemoveLemmas.{own_first}
use Rattle.indexmap.specs.IndexMap.{insert_entry}
use Rattle.std.specs.List.{AllByRecursion, IsDistinct}
use Rattle.std.specs.Map.{keys_of, lookup}
use Rattle.std.specs.Str.{bytes_eq}

abbrev pub AllValues : {V : Type 0} → (V → Type 0) → List (List ℕ × V) → Type 0
AllValues P es = AllByRecursion (λ e. P e.1) es

pub all_at : {V : Type 0} (P : V → Type 0) (es : List (List ℕ × V)) (c : List ℕ) (v : V)
    → AllValues P es → lookup (bytes_eq c) es ≡ Some v → P v
all_at P [] c v all is = absurd cc
all_at {V} P (e ∷ es) c v all is = at (bytes_eq c e.0) is (all_at P es c v all.1)
  where
    at : (b : Bool) → cond b (Some e.1) (lookup (bytes_eq c) es) ≡ Some v
        → (lookup (bytes_eq c) es ≡ Some v → P v) → P v
    at true found later = subst P (ap (λ (o : Option V). unwrap_or o v) found) all.0
    at false found later = later found

pub all_insert : {V : Type 0} (P : V → Type 0) (es : List (List ℕ × V)) (c : List ℕ) (v : V)
    → AllValues P es → P v → AllValues P (insert_entry bytes_eq es c v)
all_insert P [] c v all p = (p, tt)
all_insert P (e ∷ es) c v all p = at (bytes_eq c e.0) (all_insert P es c v all.1 p)
  where
    at : (b : Bool) → AllValues P (insert_entry bytes_eq es c v)
        → AllValues P (cond b ((e.0, v) ∷ es) (e ∷ insert_entry bytes_eq es c v))
    at true later = (p, all.1)
    at false later = (all.0, later)

-- a name stands where an entry of it is, as no two have one name
pub placed : {V : Type 0} (es : List (List ℕ × V)) (name k : List ℕ) (i : ℕ) (v : V)
    → IsDistinct bytes_eq (keys_of es) → slice_get es i ≡ Some (k, v) → bytes_eq name k ≡ true
    → position (bytes_eq name) (keys_of es) ≡ Some i
placed es name k i v apart at same =
    ap (λ n. position (bytes_eq n) (keys_of es)) ((bytes_eq-Decides name k).0 same)
    ∙ index-first (bytes_eq k) es i (own_first bytes_eq nat_list_eq_equiv es i k v apart at)

-- what is no other leaves all as it is
pub unchanged : {V : Type 0} (es : List (List ℕ × V)) (c other : List ℕ) (o : Option V)
    → o ≡ lookup (bytes_eq c) es
    → lookup (bytes_eq other) es ≡ cond (bytes_eq c other) o (lookup (bytes_eq other) es)
unchanged es c other o is = by (bytes_eq c other) refl
  where
    by : (b : Bool) → bytes_eq c other ≡ b
        → lookup (bytes_eq other) es ≡ cond b o (lookup (bytes_eq other) es)
    by true same =
        ap (λ n. lookup (bytes_eq n) es) (sym ((bytes_eq-Decides c other).0 same)) ∙ sym is
    by false other_name = refl
