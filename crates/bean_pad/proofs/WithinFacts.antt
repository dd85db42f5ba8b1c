-- The accounts above a name are the fronts of its components.
use Rattle.std.proofs.Common.{◌≡◌, ℕ, ◌==◌, Bool, true, false, cond, ◌&&◌, ◌||◌, List, [], ◌∷◌}
use Rattle.std.proofs.Common.{◌++◌, length, refl, sym, ap, subst, ◌∙◌, reverse, arith, length-append}
use Rattle.std.specs.List.{onto_first}
use Rattle.std.specs.Str.{bytes_eq}
use Rattle.std.proofs.lemmas.Bool.{eq-eqb, eqb-true}
use Rattle.std.proofs.lemmas.List.{reverse-append, reverse-reverse}
use Rattle.std.proofs.lemmas.Slice.Eq.{bytes_eq-Decides}
use Rattle.bean_base.specs.Character.{colon}
use Rattle.bean_pad.specs.Held.{is_within}
use Rattle.bean_pad.specs.Tree.{components, parts}

-- the second begins with the first
abbrev pub is_front : List (List ℕ) → List (List ℕ) → Bool
is_front [] ys = true
is_front (x ∷ xs) [] = false
is_front (x ∷ xs) (y ∷ ys) = bytes_eq y x && is_front xs ys

-- ---- the parts of a name

-- A list that has something.
record IsMade {A : Type 0} (xs : List A) : Type 0 where
  first : A
  others : List A
  is : xs ≡ first ∷ others

made : (name : List ℕ) → IsMade (parts name)
made [] = record { first = []; others = []; is = refl }
made (b ∷ bs) = by (b == colon) (made bs)
  where
    by : (t : Bool) → IsMade (parts bs)
        → IsMade (cond t ([] ∷ parts bs) (onto_first b (parts bs)))
    by true m = record { first = []; others = parts bs; is = refl }
    by false m = record {
      first = b ∷ m.first;
      others = m.others;
      is = ap (onto_first b) m.is;
    }

both : (e u v : Bool) → (e && u) || (e && v) ≡ e && (u || v)
both true u v = refl
both false u v = refl

joined : (e u v : Bool) → (e && u) && v ≡ e && (u && v)
joined true u v = refl
joined false u v = refl

-- bytes of which one alone is a colon
apart : (b x : ℕ) (s t : Bool) → (x == colon) ≡ s → (b == colon) ≡ t → (s ≡ t → ⊥)
    → (b == x) ≡ false
apart b x s t p q n = by (b == x) refl
  where
    by : (e : Bool) → (b == x) ≡ e → (b == x) ≡ false
    by true e = absurd (n (sym p ∙ ap (λ n. n == colon) (sym (eqb-true b x e)) ∙ q))
    by false e = e

pub within_front : (a name : List ℕ) → is_within a name ≡ is_front (parts a) (parts name)
within_front [] [] = refl
within_front [] (b ∷ bs) = by (b == colon) (made bs)
  where
    by : (t : Bool) → IsMade (parts bs)
        → (t && true) ≡ is_front ([] ∷ []) (cond t ([] ∷ parts bs) (onto_first b (parts bs)))
    by true m = refl
    by false m = ap (λ qs. is_front ([] ∷ []) (onto_first b qs)) (sym m.is)
within_front (x ∷ a) [] = by (x == colon) (made a)
  where
    by : (t : Bool) → IsMade (parts a)
        → false ≡ is_front (cond t ([] ∷ parts a) (onto_first x (parts a))) ([] ∷ [])
    by true m = ap (λ ps. is_front ps []) (sym m.is)
    by false m = ap (λ ps. is_front (onto_first x ps) ([] ∷ [])) (sym m.is)
within_front (x ∷ a) (b ∷ bs) =
    both (b == x) (bytes_eq bs a) _ ∙ ap (λ t. (b == x) && t) (within_front a bs)
    ∙ by (x == colon) (b == colon) refl refl (made a) (made bs)
  where
    by : (s t : Bool) → (x == colon) ≡ s → (b == colon) ≡ t → IsMade (parts a) → IsMade (parts bs)
        → ((b == x) && is_front (parts a) (parts bs))
        ≡ is_front (cond s ([] ∷ parts a) (onto_first x (parts a)))
        (cond t ([] ∷ parts bs) (onto_first b (parts bs)))
    by true true p q m n =
        ap (λ e. e && is_front (parts a) (parts bs))
        (eq-eqb b x (eqb-true b colon q ∙ sym (eqb-true x colon p)))
    by true false p q m n =
        ap (λ e. e && is_front (parts a) (parts bs)) (apart b x true false p q (λ e. cc))
        ∙ ap (λ qs. is_front ([] ∷ parts a) (onto_first b qs)) (sym n.is)
    by false true p q m n =
        ap (λ e. e && is_front (parts a) (parts bs)) (apart b x false true p q (λ e. cc))
        ∙ ap (λ ps. is_front (onto_first x ps) ([] ∷ parts bs)) (sym m.is)
    by false false p q m n =
        (λ i. (b == x) && is_front (m.is i) (n.is i))
        ∙ sym (joined (b == x) (bytes_eq n.first m.first) (is_front m.others n.others))
        ∙ (λ i. is_front (onto_first x (sym m.is i)) (onto_first b (sym n.is i)))

-- ---- one part more

abbrev pub is_all : List (List ℕ) → List (List ℕ) → Bool
is_all [] [] = true
is_all [] (y ∷ ys) = false
is_all (x ∷ xs) [] = false
is_all (x ∷ xs) (y ∷ ys) = bytes_eq y x && is_all xs ys

or_true : (b : Bool) → b || true ≡ true
or_true true = refl
or_true false = refl

or_false : (e u : Bool) → e && u ≡ (e && u) || false
or_false true true = refl
or_false true false = refl
or_false false u = refl

of_none : (xs : List (List ℕ)) → is_front xs [] ≡ is_all xs []
of_none [] = refl
of_none (x ∷ xs) = refl

pub one_part : (xs ys : List (List ℕ)) (y : List ℕ)
    → is_front xs (ys ++ y ∷ []) ≡ is_all xs (ys ++ y ∷ []) || is_front xs ys
one_part [] ys y = sym (or_true (is_all [] (ys ++ y ∷ [])))
one_part (x ∷ xs) [] y =
    ap (λ t. bytes_eq y x && t) (of_none xs) ∙ or_false (bytes_eq y x) (is_all xs [])
one_part (x ∷ xs) (z ∷ zs) y =
    ap (λ t. bytes_eq z x && t) (one_part xs zs y)
    ∙ sym (both (bytes_eq z x) (is_all xs (zs ++ y ∷ [])) (is_front xs zs))

first_true : (e u : Bool) → e && u ≡ true → e ≡ true
first_true true u h = refl
first_true false u h = h

second_true : (e u : Bool) → e && u ≡ true → u ≡ true
second_true true u h = h
second_true false u h = cc

pub all_same : (xs ys : List (List ℕ)) → is_all xs ys ≡ true → xs ≡ ys
all_same [] [] h = refl
all_same [] (y ∷ ys) h = cc
all_same (x ∷ xs) [] h = cc
all_same (x ∷ xs) (y ∷ ys) h =
    let e = (bytes_eq-Decides y x).0 (first_true (bytes_eq y x) (is_all xs ys) h) in
    let r = all_same xs ys (second_true (bytes_eq y x) (is_all xs ys) h) in
    λ i. sym e i ∷ r i

pub same_all : (xs : List (List ℕ)) → is_all xs xs ≡ true
same_all [] = refl
same_all (x ∷ xs) =
    ap (λ b. b && is_all xs xs) ((bytes_eq-Decides x x).1 refl) ∙ same_all xs

pub same_front : (xs : List (List ℕ)) → is_front xs xs ≡ true
same_front [] = refl
same_front (x ∷ xs) =
    ap (λ b. b && is_front xs xs) ((bytes_eq-Decides x x).1 refl) ∙ same_front xs

longer : (ys : List (List ℕ)) (y : List ℕ) → is_front (ys ++ y ∷ []) ys ≡ false
longer [] y = refl
longer (z ∷ zs) y = ap (λ t. bytes_eq z z && t) (longer zs y) ∙ and_false (bytes_eq z z)
  where
    and_false : (b : Bool) → b && false ≡ false
    and_false true = refl
    and_false false = refl

-- it isn't in front of itself without its last part
pub no_front : (xs ys : List (List ℕ)) (y : List ℕ) → is_all xs (ys ++ y ∷ []) ≡ true
    → is_front xs ys ≡ false
no_front xs ys y h =
    ap (λ xs. is_front xs ys) (all_same xs (ys ++ y ∷ []) h) ∙ longer ys y

pub no_parts : (name : List ℕ) → is_front (parts name) [] ≡ false
no_parts name = ap (λ ps. is_front ps []) (made name).is

-- ---- the name above

pub turned : (c : List ℕ) (cs : List (List ℕ)) → reverse (c ∷ cs) ≡ reverse cs ++ c ∷ []
turned c cs = reverse-append (c ∷ []) cs

abbrev head : List (List ℕ) → List ℕ
head [] = []
head (x ∷ xs) = x

abbrev tail : List (List ℕ) → List (List ℕ)
tail [] = []
tail (x ∷ xs) = xs

up : (name : List ℕ) (y : List ℕ) (ys : List (List ℕ)) (c : List ℕ)
    → parts name ≡ y ∷ ys ++ c ∷ [] → (q : List ℕ) × (parts q ≡ y ∷ ys)
up [] y ys c h =
    let n = ap length h in
    let m = length-append ys (c ∷ []) in absurd (omega (arith, n, m))
up (b ∷ bs) y ys c h = by (b == colon) refl (made bs) (λ z zs d e. up bs z zs d e) h
  where
    rooted : (zs : List (List ℕ)) → (b == colon) ≡ true
        → ((z : List ℕ) (zs : List (List ℕ)) (d : List ℕ) → parts bs ≡ z ∷ zs ++ d ∷ []
        → (q : List ℕ) × (parts q ≡ z ∷ zs))
        → parts bs ≡ zs ++ c ∷ [] → (q : List ℕ) × (parts q ≡ [] ∷ zs)
    rooted [] t less e = ([], refl)
    rooted (z ∷ zs) t less e =
        let q = less z zs c e in
        (b ∷ q.0, ap (λ t. cond t ([] ∷ parts q.0) (onto_first b (parts q.0))) t ∙ ap (λ ps. [] ∷ ps) q.1)

    by : (t : Bool) → (b == colon) ≡ t → IsMade (parts bs)
        → ((z : List ℕ) (zs : List (List ℕ)) (d : List ℕ) → parts bs ≡ z ∷ zs ++ d ∷ []
        → (q : List ℕ) × (parts q ≡ z ∷ zs))
        → cond t ([] ∷ parts bs) (onto_first b (parts bs)) ≡ y ∷ ys ++ c ∷ []
        → (q : List ℕ) × (parts q ≡ y ∷ ys)
    by true t m less e =
        subst (λ y. (q : List ℕ) × (parts q ≡ y ∷ ys)) (ap head e) (rooted ys t less (ap tail e))
    by false t m less e =
        let e2 : (b ∷ m.first) ∷ m.others ≡ y ∷ ys ++ c ∷ [] =
        ap (onto_first b) (sym m.is) ∙ e in
        let q = less m.first ys c (m.is ∙ ap (λ o. m.first ∷ o) (ap tail e2)) in (
          b ∷ q.0,
          ap (λ t. cond t ([] ∷ parts q.0) (onto_first b (parts q.0))) t
              ∙ ap (onto_first b) q.1
              ∙ ap (λ y. y ∷ ys) (ap head e2),
        )

some_turned : (d : List ℕ) (ds : List (List ℕ)) → IsMade (reverse (d ∷ ds))
some_turned d ds = by (reverse ds) refl
  where
    by : (xs : List (List ℕ)) → reverse ds ≡ xs → IsMade (reverse (d ∷ ds))
    by [] e = record { first = d; others = []; is = turned d ds ∙ ap (λ l. l ++ d ∷ []) e }
    by (x ∷ xs) e = record {
      first = x;
      others = xs ++ d ∷ [];
      is = turned d ds ∙ ap (λ l. l ++ d ∷ []) e;
    }

-- there is a name of all components but the last
pub name_above : (name c d : List ℕ) (ds : List (List ℕ)) → components name ≡ c ∷ d ∷ ds
    → (q : List ℕ) × (components q ≡ d ∷ ds)
name_above name c d ds h =
    let m = some_turned d ds in
    let e : parts name ≡ m.first ∷ m.others ++ c ∷ [] =
    sym (reverse-reverse (parts name)) ∙ ap reverse h ∙ turned c (d ∷ ds)
    ∙ ap (λ l. l ++ c ∷ []) m.is in
    let q = up name m.first m.others c e in
    (q.0, ap reverse (q.1 ∙ sym m.is) ∙ reverse-reverse (d ∷ ds))
