-- Names that were asked for, as a set of texts and as a list of their bytes.
use Rattle.std.proofs.Common.{◌≡◌, ℕ, ◌||◌, Bool, true, false, cond, List, [], ◌∷◌, ◌++◌, map, refl}
use Rattle.std.proofs.Common.{sym, ap}
use Rattle.std.proofs.Common.{◌∙◌}
use Rattle.std.proofs.lemmas.Slice.Eq.{bytes_eq-Decides}
use Rattle.std.proofs.lemmas.List.{map-append}
use Rattle.std.specs.List.{list_any}
use Rattle.std.specs.Prelude.{if◌then◌else◌}
use Rattle.std.specs.Str.{bytes_eq}
use Rattle.bean_load.specs.Gathered.{Gathered, is_among, with_asked}

other_way : (a b : List ℕ) → bytes_eq a b ≡ bytes_eq b a
other_way a b = by (bytes_eq a b) (bytes_eq b a) refl refl
  where
    by : (x y : Bool) → bytes_eq a b ≡ x → bytes_eq b a ≡ y → x ≡ y
    by true true e f = refl
    by true false e f = sym ((bytes_eq-Decides b a).1 (sym ((bytes_eq-Decides a b).0 e))) ∙ f
    by false true e f = sym e ∙ (bytes_eq-Decides a b).1 (sym ((bytes_eq-Decides b a).0 f))
    by false false e f = refl

or_if : (b x : Bool) → (b || x) ≡ (if b then true else x)
or_if true x = refl
or_if false x = refl

pub among_is : {K : Type 0} (bytes : K → List ℕ) (name : List ℕ) (ks : List K)
    → list_any (λ k. bytes_eq name (bytes k)) ks ≡ is_among name (map bytes ks)
among_is bytes name [] = refl
among_is bytes name (k ∷ ks) =
    ap (λ b. b || list_any (λ k. bytes_eq name (bytes k)) ks) (other_way name (bytes k))
    ∙ ap (λ x. bytes_eq (bytes k) name || x) (among_is bytes name ks)
    ∙ or_if (bytes_eq (bytes k) name) (is_among name (map bytes ks))

-- a name that wasn't asked for goes last
pub name_added :
    {K : Type 0} (bytes : K → List ℕ) (name : List ℕ) (ks new : List K) (k : K) → bytes k ≡ name
    → is_among name (map bytes ks) ≡ false
    → new ≡ (if list_any (λ x. bytes_eq (bytes k) (bytes x)) ks then ks else ks ++ k ∷ [])
    → map bytes new ≡ map bytes ks ++ name ∷ []
name_added bytes name ks new k same none is =
    ap (map bytes) is
    ∙ ap (λ b. map bytes (cond b ks (ks ++ k ∷ []))) (among_is bytes (bytes k) ks
    ∙ ap (λ n. is_among n (map bytes ks)) same ∙ none)
    ∙ map-append bytes ks (k ∷ []) ∙ ap (λ n. map bytes ks ++ n ∷ []) same

abbrev pub with_names : List (List ℕ) → Gathered → Gathered
with_names names s = record s { asked = names }

pub asked_one : (name : List ℕ) (before now : Gathered) (names : List (List ℕ))
    → names ≡ before.asked ++ name ∷ [] → before ≡ now
    → with_names names before ≡ with_asked name now
asked_one name before now names is same =
    ap (λ a. with_names a before) is ∙ ap (with_asked name) same
