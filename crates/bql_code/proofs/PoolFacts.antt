-- Whatever is used stands in the pool.
use Rattle.std.proofs.Common.{◌≡◌, ℕ, zero, suc, ◌||◌, ◌&&◌, ◌==◌, Bool, true, false, cond, List}
use Rattle.std.proofs.Common.{length, ◌≢◌, ◌+◌, ◌<◌, get_or, drop}
use Rattle.std.proofs.Common.{[], ◌∷◌, ◌++◌, Some, refl, sym, ap, ◌∙◌, arith, true≢false, nat_eq}
use Rattle.std.proofs.lemmas.Bool.Decides.{nat_tests}
use Rattle.std.proofs.lemmas.Cmp.{int_eq_equiv}
use Rattle.std.proofs.lemmas.List.{map-append}
use Rattle.std.specs.Cmp.Lexicographic.{pointwise}
use Rattle.std.specs.List.{AllByRecursion, list_any, slice_get}
use Rattle.std.specs.Ordering.{int_eq}
use Rattle.bean_base.specs.Day.{number}
use Rattle.query_code.specs.declared.program.Constant.{Constant}
use Rattle.query_code.specs.declared.program.Constant.TheVariants as constants
use Rattle.query_values.specs.Choice.{same_day}
use Rattle.bql_code.specs.Kept.{entry_of, constants_of, core_of, cores_of}
use Rattle.bql_code.specs.Laws.{StandsIn}
use Rattle.bql_code.specs.Pool.{all_used, index_in, pooled, same_constant, same_text, used}
use Rattle.bql_code.specs.declared.computed.Core as kept
use Rattle.bql_code.specs.declared.entry.Entry.{Entry}

-- ---- each constant is equal to itself

both : (a b : Bool) → a ≡ true → b ≡ true → (a && b) ≡ true
both true b h k = k
both false b h k = absurd cc

count_self : (n : ℕ) → (n == n) ≡ true
count_self n = grind (arith, nat_tests)

each_self : {A : Type 0} (same : A → A → Bool) → ((x : A) → same x x ≡ true) → (xs : List A)
    → pointwise same xs xs ≡ true
each_self same self [] = refl
each_self same self (x ∷ xs) =
    both (same x x) (pointwise same xs xs) (self x) (each_self same self xs)

byte_self : (n : ℕ) → nat_eq n n ≡ true
byte_self n = grind (arith, nat_tests)

text_self : (t : List ℕ) → same_text t t ≡ true
text_self t = each_self nat_eq byte_self t

same_self : (c : Constant) → same_constant c c ≡ true
same_self (constants.Text t) = text_self t
same_self (constants.Number n) =
    both (n.places == n.places) (int_eq n.count n.count) (count_self n.places)
    (int_eq_equiv.refl n.count)
same_self (constants.Day d) = int_eq_equiv.refl (number d)
same_self (constants.Pattern t) = text_self t
same_self (constants.Texts ts) = each_self same_text text_self ts
same_self (constants.Numbers ns) =
    both (ns.places == ns.places) (pointwise int_eq ns.counts ns.counts) (count_self ns.places)
    (each_self int_eq int_eq_equiv.refl ns.counts)
same_self (constants.Days ds) = each_self same_day (λ d. int_eq_equiv.refl (number d)) ds

-- ---- what is pooled is there

abbrev is_there : Constant → List Constant → Bool
is_there c pool = list_any (same_constant c) pool

there_before : (pool : List Constant) (d c : Constant) → is_there c pool ≡ true
    → is_there c (pool ++ d ∷ []) ≡ true
there_before [] d c e = absurd (true≢false (sym e))
there_before (x ∷ pool) d c e = by (same_constant c x) e (there_before pool d c)
  where
    by : (b : Bool) → (b || is_there c pool) ≡ true
        → (is_there c pool ≡ true → is_there c (pool ++ d ∷ []) ≡ true)
        → (b || is_there c (pool ++ d ∷ [])) ≡ true
    by true e rest = refl
    by false e rest = rest e

there_last : (pool : List Constant) (c : Constant) → is_there c (pool ++ c ∷ []) ≡ true
there_last [] c = ap (λ b. b || false) (same_self c)
there_last (x ∷ pool) c = by (same_constant c x) (there_last pool c)
  where
    by : (b : Bool) → is_there c (pool ++ c ∷ []) ≡ true
        → (b || is_there c (pool ++ c ∷ [])) ≡ true
    by true e = refl
    by false e = e

abbrev with_one : List Constant → Constant → List Constant
with_one pool d = cond (is_there d pool) pool (pool ++ d ∷ [])

there_still : (pool : List Constant) (d c : Constant) → is_there c pool ≡ true
    → is_there c (with_one pool d) ≡ true
there_still pool d c e = by (is_there d pool)
  where
    by : (b : Bool) → is_there c (cond b pool (pool ++ d ∷ [])) ≡ true
    by true = e
    by false = there_before pool d c e

there_now : (pool : List Constant) (c : Constant) → is_there c (with_one pool c) ≡ true
there_now pool c = by (is_there c pool) refl
  where
    by : (b : Bool) → is_there c pool ≡ b → is_there c (cond b pool (pool ++ c ∷ [])) ≡ true
    by true e = e
    by false e = there_last pool c

there_behind : (pool cs : List Constant) (c : Constant) → is_there c pool ≡ true
    → is_there c (pooled pool cs) ≡ true
there_behind pool [] c e = e
there_behind pool (d ∷ cs) c e =
    there_behind (with_one pool d) cs c (there_still pool d c e)

-- ---- and stands at its index

at_index : (pool : List Constant) (c : Constant) → is_there c pool ≡ true → StandsIn pool c
at_index [] c e = absurd (true≢false (sym e))
at_index (x ∷ pool) c e = by (same_constant c x) refl e (at_index pool c)
  where
    found : (b : Bool) → same_constant c x ≡ b → (d : Constant)
        → slice_get (x ∷ pool) (cond b 0 (suc (index_in pool c))) ≡ Some d
        → same_constant c d ≡ true → StandsIn (x ∷ pool) c
    found b is d at same = record {
      there = d;
      found = ap (λ a. slice_get (x ∷ pool) (cond a 0 (suc (index_in pool c)))) is ∙ at;
      is = same;
    }

    by : (b : Bool) → same_constant c x ≡ b → (b || is_there c pool) ≡ true
        → (is_there c pool ≡ true → StandsIn pool c) → StandsIn (x ∷ pool) c
    by true is e rest = found true is x refl is
    by false is e rest = let h = rest e in found false is h.there h.found h.is

pub have_what_is_used : (pool cs : List Constant)
    → AllByRecursion (StandsIn (pooled pool cs)) cs
have_what_is_used pool [] = tt
have_what_is_used pool (c ∷ cs) = (
  at_index (pooled (with_one pool c) cs) c (there_behind (with_one pool c) cs c (there_now pool c)),
  have_what_is_used (with_one pool c) cs,
)

-- ---- one behind the other

pub pooled_behind : (pool cs ds : List Constant)
    → pooled (pooled pool cs) ds ≡ pooled pool (cs ++ ds)
pooled_behind pool [] ds = refl
pooled_behind pool (c ∷ cs) ds = pooled_behind (with_one pool c) cs ds

-- ---- one more

pub not_there : (pool : List Constant) (c : Constant) → index_in pool c ≡ length pool
    → is_there c pool ≡ false
not_there [] c e = refl
not_there (d ∷ ds) c e = by (same_constant c d) e (not_there ds c)
  where
    by : (b : Bool) → cond b 0 (suc (index_in ds c)) ≡ suc (length ds)
        → (index_in ds c ≡ length ds → is_there c ds ≡ false) → (b || is_there c ds) ≡ false
    by true e rest = absurd (omega (arith, e))
    by false e rest = rest (omega (arith, e))

pub is_there_at : (pool : List Constant) (c : Constant) → index_in pool c ≢ length pool
    → is_there c pool ≡ true
is_there_at [] c e = absurd (e refl)
is_there_at (d ∷ ds) c e = by (same_constant c d) e (is_there_at ds c)
  where
    by : (b : Bool) → cond b 0 (suc (index_in ds c)) ≢ suc (length ds)
        → (index_in ds c ≢ length ds → is_there c ds ≡ true) → (b || is_there c ds) ≡ true
    by true e rest = refl
    by false e rest = rest (λ same. e (ap suc same))

pub pushed_one : (pool new : List Constant) (c : Constant) → index_in pool c ≡ length pool
    → new ≡ pool ++ c ∷ [] → new ≡ pooled pool (c ∷ [])
pushed_one pool new c e is = is ∙ sym (ap (λ b. cond b pool (pool ++ c ∷ [])) (not_there pool c e))

pub kept_one : (pool : List Constant) (c : Constant) → index_in pool c ≢ length pool
    → pool ≡ pooled pool (c ∷ [])
kept_one pool c e = sym (ap (λ b. cond b pool (pool ++ c ∷ [])) (is_there_at pool c e))

pub behind_entries : (es new : List Entry) (e : Entry) → new ≡ es ++ e ∷ []
    → constants_of new ≡ constants_of es ++ entry_of e ∷ []
behind_entries es new e is = ap constants_of is ∙ map-append entry_of es (e ∷ [])

-- ---- those that are left

drops : (cs : List kept.Core) (i : ℕ) (c : kept.Core) → i < length cs → c ≡ get_or cs i c
    → cores_of (drop i cs) ≡ core_of c ∷ cores_of (drop (suc i) cs)
drops [] i c h is = absurd (omega (arith, h))
drops (d ∷ cs) zero c h is = ap (λ x. core_of x ∷ cores_of cs) (sym is)
drops (d ∷ cs) (suc i) c h is = drops cs i c (omega (arith, h)) is

succ : (i : ℕ) → i + 1 ≡ suc i
succ i = omega arith

pub collected : (pool new : List Constant) (cs : List kept.Core) (i : ℕ) (c : kept.Core)
    (whole : List Constant) → i < length cs → c ≡ get_or cs i c
    → new ≡ pooled pool (used (core_of c))
    → pooled pool (all_used (cores_of (drop i cs))) ≡ whole
    → pooled new (all_used (cores_of (drop (i + 1) cs))) ≡ whole
collected pool new cs i c whole h is e w =
    let rest = all_used (cores_of (drop (suc i) cs)) in
    ap (λ k. pooled new (all_used (cores_of (drop k cs)))) (succ i)
    ∙ ap (λ p. pooled p rest) e
    ∙ pooled_behind pool (used (core_of c)) rest
    ∙ sym (ap (λ xs. pooled pool (all_used xs)) (drops cs i c h is))
    ∙ w
