-- A table of sums, with a weight more.
use Rattle.std.proofs.Common.{◌≡◌, ◌+ℤ◌, ℕ, ℤ, pos, Bool, true, false, cond, ◌||◌, List, [], ◌∷◌}
use Rattle.std.proofs.Common.{◌++◌, map, reverse, unwrap_or, Some, refl, sym, ap, ◌∙◌, subst}
use Rattle.std.proofs.Math.IntN.{+ℤ_assoc, +ℤ_idl, +ℤ_idr}
use Rattle.std.proofs.lemmas.List.Sums.{fold-append}
use Rattle.std.proofs.lemmas.List.{reverse-append, reverse-reverse}
use Rattle.std.specs.Cmp.Lexicographic.{nat_list_eq_equiv, same_text}
use Rattle.std.specs.List.{list_any}
use Rattle.std.specs.Map.{lookup}
use Rattle.std.specs.Str.{bytes_eq}
use Rattle.indexmap.specs.IndexMap.{insert_entry}
use Rattle.bean_interp.specs.Residual.{Weighed, currencies, sum_in, with_new}
use Rattle.bean_interp.specs.Sums.{added, entry_of, table}

-- what a weight adds in a currency
abbrev pub part_of : Weighed → List ℕ → ℤ
part_of w c = cond (bytes_eq w.0 c) w.1 (pos 0)

-- each currency with what a function gives it
abbrev pub listed : (List ℕ → ℤ) → List (List ℕ) → List Weighed
listed f cs = map (λ c. (c, f c)) cs

-- no currency is listed twice
abbrev pub AreApart : List (List ℕ) → Type 0
AreApart [] = Unit {0}
AreApart (c ∷ cs) = (list_any (bytes_eq c) cs ≡ false) × AreApart cs

zero_more : (z : ℤ) → z +ℤ pos 0 ≡ z
zero_more z = +ℤ_idr z

pub sum_push : (ws : List Weighed) (w : Weighed) (c : List ℕ)
    → sum_in (ws ++ w ∷ []) c ≡ sum_in ws c +ℤ part_of w c
sum_push [] w c = by (bytes_eq w.0 c)
  where
    by : (b : Bool) → cond b (w.1 +ℤ pos 0) (pos 0) ≡ pos 0 +ℤ cond b w.1 (pos 0)
    by true = +ℤ_idr w.1 ∙ sym (+ℤ_idl w.1)
    by false = refl
sum_push (v ∷ ws) w c = by (bytes_eq v.0 c) (sum_push ws w c)
  where
    by : (b : Bool) → sum_in (ws ++ w ∷ []) c ≡ sum_in ws c +ℤ part_of w c
        → cond b (v.1 +ℤ sum_in (ws ++ w ∷ []) c) (sum_in (ws ++ w ∷ []) c)
        ≡ cond b (v.1 +ℤ sum_in ws c) (sum_in ws c) +ℤ part_of w c
    by true later = ap (λ z. v.1 +ℤ z) later ∙ sym (+ℤ_assoc v.1 (sum_in ws c) (part_of w c))
    by false later = later

pub currencies_push : (ws : List Weighed) (w : Weighed)
    → currencies (ws ++ w ∷ []) ≡ with_new (currencies ws) w.0
currencies_push ws w = fold-append (λ cs v. with_new cs v.0) [] ws (w ∷ [])

pub entry_listed : (f : List ℕ → ℤ) (cs : List (List ℕ)) (k : List ℕ)
    → entry_of (listed f cs) k ≡ cond (list_any (bytes_eq k) cs) (f k) (pos 0)
entry_listed f [] k = refl
entry_listed f (c ∷ cs) k = by (bytes_eq k c) refl (entry_listed f cs k)
  where
    by : (b : Bool) → bytes_eq k c ≡ b
        → unwrap_or (lookup (bytes_eq k) (listed f cs)) (pos 0)
        ≡ cond (list_any (bytes_eq k) cs) (f k) (pos 0)
        → unwrap_or (cond b (Some (f c)) (lookup (bytes_eq k) (listed f cs))) (pos 0)
        ≡ cond (b || list_any (bytes_eq k) cs) (f k) (pos 0)
    by true same later = ap f (sym (same_text k c (sym same)))
    by false other later = later

-- as it was, but for the currency of a key
abbrev pub with_at : (List ℕ → ℤ) → List ℕ → ℤ → List ℕ → ℤ
with_at f k v c = cond (bytes_eq k c) v (f c)

other_than : (k c d : List ℕ) → bytes_eq k c ≡ true → bytes_eq c d ≡ false → bytes_eq k d ≡ false
other_than k c d same other =
    subst (λ x. bytes_eq x d ≡ false) (sym (same_text k c (sym same))) other

listed_apart : (f : List ℕ → ℤ) (k : List ℕ) (v : ℤ) (cs : List (List ℕ))
    → list_any (bytes_eq k) cs ≡ false → listed (with_at f k v) cs ≡ listed f cs
listed_apart f k v [] none = refl
listed_apart f k v (c ∷ cs) none = by (bytes_eq k c) refl none (listed_apart f k v cs)
  where
    by : (b : Bool) → bytes_eq k c ≡ b → (b || list_any (bytes_eq k) cs) ≡ false
        → (list_any (bytes_eq k) cs ≡ false → listed (with_at f k v) cs ≡ listed f cs)
        → listed (with_at f k v) (c ∷ cs) ≡ listed f (c ∷ cs)
    by true same never later = absurd cc
    by false other rest later = λ i. (c, cond (other i) v (f c)) ∷ later rest i

pub insert_listed : (f : List ℕ → ℤ) (k : List ℕ) (v : ℤ) (cs : List (List ℕ)) → AreApart cs
    → insert_entry bytes_eq (listed f cs) k v ≡ listed (with_at f k v) (with_new cs k)
insert_listed f k v [] apart = λ i. (k, cond (sym (nat_list_eq_equiv.refl k) i) v (f k)) ∷ []
insert_listed f k v (c ∷ cs) apart = by (bytes_eq k c) refl (insert_listed f k v cs apart.1)
  where
    push : (b : Bool) → list_any (bytes_eq k) cs ≡ b
        → c ∷ cond b cs (cs ++ k ∷ []) ≡ cond b (c ∷ cs) ((c ∷ cs) ++ k ∷ [])
    push true is = refl
    push false is = refl

    by : (b : Bool) → bytes_eq k c ≡ b
        → insert_entry bytes_eq (listed f cs) k v ≡ listed (with_at f k v) (with_new cs k)
        → cond b ((c, v) ∷ listed f cs) ((c, f c) ∷ insert_entry bytes_eq (listed f cs) k v)
        ≡ listed (with_at f k v)
        (cond (b || list_any (bytes_eq k) cs) (c ∷ cs) ((c ∷ cs) ++ k ∷ []))
    by true same later =
        let none : list_any (bytes_eq k) cs ≡ false =
        subst (λ x. list_any (bytes_eq x) cs
        ≡ false) (sym (same_text k c (sym same))) apart.0 in
        λ i. (c, cond (sym same i) v (f c)) ∷ sym (listed_apart f k v cs none) i
    by false other later =
        (λ i. (c, cond (sym other i) v (f c)) ∷ later i)
        ∙ ap (listed (with_at f k v)) (push (list_any (bytes_eq k) cs) refl)

-- ---- weights, the last of them first

list_any_push : (p : List ℕ → Bool) (ds : List (List ℕ)) (k : List ℕ)
    → list_any p (ds ++ k ∷ []) ≡ false → (list_any p ds ≡ false) × (p k ≡ false)
list_any_push p [] k none = (refl, either (p k) none)
  where
    either : (b : Bool) → (b || false) ≡ false → b ≡ false
    either true is = is
    either false is = is
list_any_push p (d ∷ ds) k none = by (p d) none (list_any_push p ds k)
  where
    by : (b : Bool) → (b || list_any p (ds ++ k ∷ [])) ≡ false
        → (list_any p (ds ++ k ∷ []) ≡ false → (list_any p ds ≡ false) × (p k ≡ false))
        → ((b || list_any p ds) ≡ false) × (p k ≡ false)
    by true never later = absurd cc
    by false rest later = later rest

push_any : (c : List ℕ) (cs : List (List ℕ)) (k : List ℕ) → list_any (bytes_eq c) cs ≡ false
    → bytes_eq c k ≡ false → list_any (bytes_eq c) (cs ++ k ∷ []) ≡ false
push_any c [] k none other = λ i. other i || false
push_any c (d ∷ cs) k none other = by (bytes_eq c d) none (push_any c cs k)
  where
    by : (b : Bool) → (b || list_any (bytes_eq c) cs) ≡ false
        → (list_any (bytes_eq c) cs ≡ false → bytes_eq c k ≡ false
        → list_any (bytes_eq c) (cs ++ k ∷ []) ≡ false)
        → (b || list_any (bytes_eq c) (cs ++ k ∷ [])) ≡ false
    by true never later = absurd cc
    by false rest later = later rest other

apart_push : (cs : List (List ℕ)) (k : List ℕ) → AreApart cs → list_any (bytes_eq k) cs ≡ false
    → AreApart (cs ++ k ∷ [])
apart_push [] k apart none = (refl, tt)
apart_push (c ∷ cs) k apart none = by (bytes_eq k c) refl none (apart_push cs k apart.1)
  where
    by : (b : Bool) → bytes_eq k c ≡ b → (b || list_any (bytes_eq k) cs) ≡ false
        → (list_any (bytes_eq k) cs ≡ false → AreApart (cs ++ k ∷ []))
        → AreApart (c ∷ (cs ++ k ∷ []))
    by true same never later = absurd cc
    by false other rest later =
        (push_any c cs k apart.0 (nat_list_eq_equiv.symm c k ∙ other), later rest)

pub apart_new : (cs : List (List ℕ)) (k : List ℕ) → AreApart cs → AreApart (with_new cs k)
apart_new cs k apart = by (list_any (bytes_eq k) cs) refl
  where
    by : (b : Bool) → list_any (bytes_eq k) cs ≡ b → AreApart (cond b cs (cs ++ k ∷ []))
    by true there = apart
    by false none = apart_push cs k apart none

-- The currencies of weights are apart, and weights in no other currency sum to anything.
pub record AreSummed (ws : List Weighed) : Type 0 where
  pub apart : AreApart (currencies ws)
  pub absent : (c : List ℕ) → list_any (bytes_eq c) (currencies ws) ≡ false → sum_in ws c ≡ pos 0

absent_new : (cs : List (List ℕ)) (k c : List ℕ) → list_any (bytes_eq c) (with_new cs k) ≡ false
    → (list_any (bytes_eq c) cs ≡ false) × (bytes_eq k c ≡ false)
absent_new cs k c none = by (list_any (bytes_eq k) cs) refl none
  where
    last : (ds : List (List ℕ)) → list_any (bytes_eq c) (ds ++ k ∷ []) ≡ false
        → (list_any (bytes_eq c) ds ≡ false) × (bytes_eq c k ≡ false)
    last ds is = list_any_push (bytes_eq c) ds k is

    there : (ds : List (List ℕ)) → list_any (bytes_eq k) ds ≡ true
        → list_any (bytes_eq c) ds ≡ false → bytes_eq c k ≡ false
    there ds is none = differs (bytes_eq c k) refl
      where
        differs : (b : Bool) → bytes_eq c k ≡ b → b ≡ false
        differs false is-not = refl
        differs true same =
            sym (subst (λ x. list_any (bytes_eq x) ds ≡ true) (sym (same_text c k (sym same))) is)
            ∙ none

    by : (b : Bool) → list_any (bytes_eq k) cs ≡ b
        → list_any (bytes_eq c) (cond b cs (cs ++ k ∷ [])) ≡ false
        → (list_any (bytes_eq c) cs ≡ false) × (bytes_eq k c ≡ false)
    by true is none = (none, nat_list_eq_equiv.symm k c ∙ there cs is none)
    by false is none = let l = last cs none in (l.0, nat_list_eq_equiv.symm k c ∙ l.1)

summed_push : (ws : List Weighed) (w : Weighed) → AreSummed ws → AreSummed (ws ++ w ∷ [])
summed_push ws w s = record {
  apart = subst AreApart (sym (currencies_push ws w)) (apart_new (currencies ws) w.0 s.apart);
  absent = λ c none.
      let n = absent_new (currencies ws) w.0 c
      (subst (λ cs. list_any (bytes_eq c) cs ≡ false) (currencies_push ws w) none) in
      sum_push ws w c ∙ (λ i. s.absent c n.0 i +ℤ cond (n.1 i) w.1 (pos 0));
}

summed_reversed : (ws : List Weighed) → AreSummed (reverse ws)
summed_reversed [] = record { apart = tt; absent = λ c none. refl }
summed_reversed (w ∷ ws) =
    subst AreSummed (sym (reverse-append (w ∷ []) ws))
    (summed_push (reverse ws) w (summed_reversed ws))

pub summed : (ws : List Weighed) → AreSummed ws
summed ws = subst AreSummed (reverse-reverse ws) (summed_reversed (reverse ws))

-- ---- the table

pub entry_is : (ws : List Weighed) (c : List ℕ) → entry_of (table ws) c ≡ sum_in ws c
entry_is ws c =
    entry_listed (sum_in ws) (currencies ws) c ∙ by (list_any (bytes_eq c) (currencies ws)) refl
  where
    by : (b : Bool) → list_any (bytes_eq c) (currencies ws) ≡ b
        → cond b (sum_in ws c) (pos 0) ≡ sum_in ws c
    by true there = refl
    by false none = sym ((summed ws).absent c none)

more_at : (ws : List Weighed) (w : Weighed) (c : List ℕ)
    → with_at (sum_in ws) w.0 (sum_in ws w.0 +ℤ w.1) c ≡ sum_in (ws ++ w ∷ []) c
more_at ws w c = by (bytes_eq w.0 c) refl ∙ sym (sum_push ws w c)
  where
    by : (b : Bool) → bytes_eq w.0 c ≡ b
        → cond b (sum_in ws w.0 +ℤ w.1) (sum_in ws c) ≡ sum_in ws c +ℤ cond b w.1 (pos 0)
    by true same = ap (λ x. sum_in ws x +ℤ w.1) (same_text w.0 c (sym same))
    by false other = sym (+ℤ_idr (sum_in ws c))

pub table_push : (ws : List Weighed) (w : Weighed) → added (table ws) w.0 w.1 ≡ table (ws ++ w ∷ [])
table_push ws w =
    ap (λ z. insert_entry bytes_eq (table ws) w.0 (z +ℤ w.1)) (entry_is ws w.0)
    ∙ insert_listed (sum_in ws) w.0 (sum_in ws w.0 +ℤ w.1) (currencies ws) (summed ws).apart
    ∙ (λ i. listed (λ c. more_at ws w c i) (sym (currencies_push ws w) i))
