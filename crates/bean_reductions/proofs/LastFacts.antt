-- Candidates that are found from the end.
use Rattle.std.proofs.Common.{◌≡◌, ◌-◌, ◌≤◌, ◌≤ℤ◌, ◌<ℤ◌, ◌^◌, inl, inr, ℕ, suc, ℤ, Bool, true, false}
use Rattle.std.proofs.Common.{cond, ◌&&◌, List, [], ◌∷◌, ◌++◌, append_assoc, length, reverse, sum_by}
use Rattle.std.proofs.Common.{slice_get, Option, Some, None, ◌+ℤ◌, refl, sym, ◌∙◌, ap, subst, arith}
use Rattle.std.specs.Int.{w128}
use Rattle.std.specs.Int.RustNames.{unsigned_abs, FitsSigned}
use Rattle.std.proofs.Common.{true≢false}
use Rattle.std.specs.Int.Signed.{lt_z}
use Rattle.std.specs.List.{AllByRecursion}
use Rattle.std.proofs.lemmas.Int.{ints}
use Rattle.std.proofs.lemmas.List.{append-nil, reverse-append}
use Rattle.std.proofs.lemmas.List.Sorted.{IsPermutation-reverse, sum_by-IsPermutation}
use Rattle.bean_base.specs.Day.{number}
use Rattle.bean_inventories.specs.Days.{IsNotBefore, RiseInDays}
use Rattle.bean_lots.specs.Inventory.{count_of, is_opposite}
use Rattle.bean_lots.specs.Lot.{same_text}
use Rattle.bean_inventories.specs.Part.{HasAllOf}
use Rattle.bean_lots.specs.declared.lot.Lot.{Lot}
use Rattle.bean_lots.specs.declared.lot.Position.{Position}
use Rattle.bean_base.specs.declared.days.Day.{Day}
use Rattle.bean_inventories.proofs.PartFacts.{first, own_day, second}
use Rattle.bean_lots.proofs.SlotFacts.{is_none, same_some}
use Rattle.bean_reductions.specs.After.{AreSmall, IsSmall, after}
use Rattle.bean_reductions.specs.Back.{AreEarlier, IsBack, is_earlier}
use Rattle.bean_reductions.specs.Candidate.{agrees, candidate_of, candidates}
use Rattle.bean_reductions.specs.Take.{day_of, units_of}
use Rattle.bean_reductions.specs.declared.reduction.Selector.{Selector}
use Rattle.bean_reductions.proofs.AfterFacts.{count_small, front, sum_fits}
use Rattle.bean_reductions.proofs.FrontFacts.{AreByDay}

-- the candidate of the last position, behind those of the others
pub last_own : (s : Selector) (want : ℤ) (es taken : List Position) (e : Position)
    → candidates s want (after (es ++ e ∷ []) taken)
    ≡ candidates s want (after es taken)
    ++ candidate_of s want e.key.currency e.key.lot (e.count +ℤ count_of taken e.key)
last_own s want [] taken e =
    front s want e.key (e.count +ℤ count_of taken e.key) []
    ∙ append-nil (candidate_of s want e.key.currency e.key.lot (e.count +ℤ count_of taken e.key))
last_own s want (x ∷ es) taken e =
    let n = x.count +ℤ count_of taken x.key in
    let own = candidate_of s want e.key.currency e.key.lot (e.count +ℤ count_of taken e.key) in
    front s want x.key n (after (es ++ e ∷ []) taken)
    ∙ ap (λ l. candidate_of s want x.key.currency x.key.lot n ++ l) (last_own s want es taken e)
    ∙ sym (append_assoc (candidate_of s want x.key.currency x.key.lot n)
    (candidates s want (after es taken)) own)
    ∙ sym (ap (λ l. l ++ own) (front s want x.key n (after es taken)))

one_reversed : (s : Selector) (want : ℤ) (currency : List ℕ) (lot : Option Lot) (n : ℤ)
    → reverse (candidate_of s want currency lot n) ≡ candidate_of s want currency lot n
one_reversed s want currency None n = refl
one_reversed s want currency (Some lot) n =
    by (same_text currency s.currency && agrees s lot && is_opposite want n)
  where
    by : (b : Bool)
        → reverse {A = Lot × ℕ} (cond b ((lot, unsigned_abs n) ∷ []) [])
        ≡ cond b ((lot, unsigned_abs n) ∷ []) []
    by true = refl
    by false = refl

-- those of the others and those so far are all
pub step_back : (s : Selector) (want : ℤ) (es rest taken : List Position) (e : Position)
    (found more all : List (Lot × ℕ)) → es ≡ rest ++ e ∷ []
    → more
    ≡ found
    ++ candidate_of s want e.key.currency e.key.lot (e.count +ℤ count_of taken e.key)
    → candidates s want (after es taken) ++ reverse found ≡ all
    → candidates s want (after rest taken) ++ reverse more ≡ all
step_back s want es rest taken e found more all is m told =
    let own = candidate_of s want e.key.currency e.key.lot (e.count +ℤ count_of taken e.key) in
    let others = candidates s want (after rest taken) in
    ap (λ l. others ++ reverse l) m
    ∙ ap (λ l. others ++ l)
    (reverse-append found own
    ∙ ap (λ l. l ++ reverse found)
    (one_reversed s want e.key.currency e.key.lot (e.count +ℤ count_of taken e.key)))
    ∙ sym (append_assoc others own (reverse found))
    ∙ ap (λ l. l ++ reverse found)
    (sym (last_own s want rest taken e) ∙ sym (ap (λ l. candidates s want (after l taken)) is))
    ∙ told

pub fits_last : (es rest taken : List Position) (e : Position) → es ≡ rest ++ e ∷ []
    → AreSmall (2 ^ 125) es → AreSmall (2 ^ 125) taken
    → FitsSigned w128 (e.count +ℤ count_of taken e.key)
fits_last es rest taken e is small own =
    sum_fits e.count (count_of taken e.key)
    (second (IsSmall (2 ^ 125)) rest (e ∷ []) (subst (AreSmall (2 ^ 125)) is small)).0
    (count_small (2 ^ 125) taken e.key own)

pub small_front : (n : ℕ) (es rest : List Position) (e : Position) → es ≡ rest ++ e ∷ []
    → AreSmall n es → AreSmall n rest
small_front n es rest e is small = first (IsSmall n) rest (e ∷ []) (subst (AreSmall n) is small)

pub rise_first : (es fs : List Position) → RiseInDays (es ++ fs) → RiseInDays es
rise_first [] fs r = tt
rise_first (e ∷ es) fs r =
    (first (λ f. IsNotBefore e.key.lot f.key.lot) es fs r.0, rise_first es fs r.1)

pub rise_second : (es fs : List Position) → RiseInDays (es ++ fs) → RiseInDays fs
rise_second [] fs r = r
rise_second (e ∷ es) fs r = rise_second es fs r.1

pub rise_part : (day : Option Day) (part es : List Position) → HasAllOf day part es → RiseInDays es
    → RiseInDays part
rise_part day part es h r =
    rise_first part h.behind (rise_second h.before (part ++ h.behind) (subst RiseInDays h.all r))

-- no lot is of a later day than the last
pub all_by_last : (es : List Position) (e : Position) → RiseInDays (es ++ e ∷ [])
    → AllByRecursion {X = Position} (λ f. IsNotBefore f.key.lot e.key.lot) (es ++ e ∷ [])
all_by_last [] e r = (own_day e.key.lot, tt)
all_by_last (x ∷ es) e r =
    ((second (λ f. IsNotBefore x.key.lot f.key.lot) es (e ∷ []) r.0).0, all_by_last es e r.1)

abbrev pub IsBy : ℤ → Lot × ℕ → Type 0
IsBy day c = day_of c ≤ℤ day

pub candidates_by : (s : Selector) (want : ℤ) (l : Lot) (es taken : List Position)
    → AllByRecursion {X = Position} (λ f. IsNotBefore f.key.lot (Some l)) es
    → AllByRecursion (IsBy (number l.day)) (candidates s want (after es taken))
candidates_by s want l [] taken a = tt
candidates_by s want l (e ∷ es) taken a =
    subst (AllByRecursion (IsBy (number l.day)))
    (sym (front s want e.key (e.count +ℤ count_of taken e.key) (after es taken)))
    (own e.key.currency e.key.lot (e.count +ℤ count_of taken e.key) a.0
    (candidates_by s want l es taken a.1))
  where
    own : (currency : List ℕ) (lot : Option Lot) (n : ℤ) → IsNotBefore lot (Some l)
        → AllByRecursion (IsBy (number l.day)) (candidates s want (after es taken))
        → AllByRecursion (IsBy (number l.day))
        (candidate_of s want currency lot n ++ candidates s want (after es taken))
    own currency None n b rest = rest
    own currency (Some m) n b rest =
        by (same_text currency s.currency && agrees s m && is_opposite want n)
      where
        by : (t : Bool)
            → AllByRecursion (IsBy (number l.day))
            (cond t ((m, unsigned_abs n) ∷ []) [] ++ candidates s want (after es taken))
        by true = (b, rest)
        by false = rest

by_day_second : (cs ds : List (Lot × ℕ)) → AreByDay (cs ++ ds) → AreByDay ds
by_day_second [] ds a = a
by_day_second (c ∷ cs) ds a = by_day_second cs ds a.1

apart : (a b c d : ℤ) → a ≤ℤ b → b <ℤ c → c ≤ℤ d → a <ℤ d
apart a b c d p q r = omega (arith, ints, p, q, r)

self : (a : ℤ) → a ≤ℤ a
self a = omega (arith, ints)

one_apart : (day : ℤ) (b c : Lot × ℕ) (cs : List (Lot × ℕ)) → day_of b ≤ℤ day → day <ℤ day_of c
    → AllByRecursion {X = Lot × ℕ} (λ d. day_of c ≤ℤ day_of d) cs
    → AllByRecursion {X = Lot × ℕ} (λ d. day_of b <ℤ day_of d) cs
one_apart day b c [] p q a = tt
one_apart day b c (d ∷ cs) p q a =
    (apart (day_of b) day (day_of c) (day_of d) p q a.0, one_apart day b c cs p q a.1)

earlier : (day : ℤ) (bs : List (Lot × ℕ)) (c : Lot × ℕ) (cs : List (Lot × ℕ))
    → AllByRecursion (IsBy day) bs → day <ℤ day_of c → AreByDay (c ∷ cs)
    → AreEarlier bs (c ∷ cs)
earlier day [] c cs a q r = tt
earlier day (b ∷ bs) c cs a q r =
    (one_apart day b c (c ∷ cs) a.0 q (self (day_of c), r.0), earlier day bs c cs a.1 q r)

-- the last, and what is before it
last_of : (cs : List (Lot × ℕ)) (c : Lot × ℕ) → slice_get cs (length cs - 1) ≡ Some c
    → (ds : List (Lot × ℕ)) × (cs ≡ ds ++ c ∷ [])
last_of [] c h = absurd (is_none c (sym h))
last_of (d ∷ []) c h =
    let at : 1 - 1 ≡ 0 = omega arith in
    ([], ap (λ x. x ∷ []) (same_some d c (subst (λ i. slice_get (d ∷ []) i ≡ Some c) at h)))
last_of (d ∷ e ∷ cs) c h =
    let at : length (d ∷ e ∷ cs) - 1 ≡ suc (length (e ∷ cs) - 1) = omega arith in
    let rest = last_of (e ∷ cs) c (subst (λ i. slice_get (d ∷ e ∷ cs) i ≡ Some c) at h) in
    (d ∷ rest.0, ap (λ l. d ∷ l) rest.1)

last_first : (cs : List (Lot × ℕ)) (c : Lot × ℕ) → slice_get cs (length cs - 1) ≡ Some c
    → (ds : List (Lot × ℕ)) × (reverse cs ≡ c ∷ ds)
last_first cs c h =
    let parts = last_of cs c h in
    (reverse parts.0, ap reverse parts.1 ∙ reverse-append parts.0 (c ∷ []))

sum_reversed : (cs : List (Lot × ℕ)) → sum_by units_of (reverse cs) ≡ sum_by units_of cs
sum_reversed cs = sum_by-IsPermutation units_of cs (reverse cs) (IsPermutation-reverse cs)

-- where the rest are of earlier days than the candidate that was found last
pub back_at : (s : Selector) (want : ℤ) (es rest taken : List Position) (e : Position)
    (found all : List (Lot × ℕ)) (w : ℕ) → RiseInDays es → es ≡ rest ++ e ∷ []
    → is_earlier e.key.lot (slice_get found (length found - 1)) ≡ true
    → AreByDay all → candidates s want (after es taken) ++ reverse found ≡ all
    → w ≤ sum_by units_of found → IsBack w (reverse found) all
back_at s want es rest taken e found all w rise is less days told enough =
    by e.key.lot (slice_get found (length found - 1)) refl refl less
  where
    of_lot : (l : Lot) (c : Lot × ℕ) → e.key.lot ≡ Some l
        → slice_get found (length found - 1) ≡ Some c
        → lt_z (number l.day) (day_of c) ≡ true → IsBack w (reverse found) all
    of_lot l c lot last lt =
        let head = last_first found c last in
        let before : number l.day <ℤ day_of c = grind (arith, ints, lt) in
        let by_last =
        candidates_by s want l (rest ++ e ∷ []) taken
        (subst (λ (m : Option Lot). AllByRecursion {X = Position} (λ f. IsNotBefore f.key.lot m)
        (rest ++ e ∷ [])) lot (all_by_last rest e (subst RiseInDays is rise))) in
        let order =
        subst AreByDay head.1
        (by_day_second (candidates s want (after es taken)) (reverse found)
        (subst AreByDay (sym told) days)) in
        record {
          rest = candidates s want (after es taken);
          all = sym told;
          enough =
              inr (
                subst (λ n. w ≤ n) (sym (sum_reversed found)) enough,
                subst (λ l. AreEarlier (candidates s want (after es taken)) l) (sym head.1)
                    (earlier (number l.day) (candidates s want (after es taken)) c head.0
                    (subst (λ l2. AllByRecursion (IsBy (number l.day)) (candidates s want (after l2 taken)))
                    (sym is) by_last) before order),
              );
        }

    by : (lot : Option Lot) (c : Option (Lot × ℕ)) → e.key.lot ≡ lot
        → slice_get found (length found - 1) ≡ c → is_earlier lot c ≡ true
        → IsBack w (reverse found) all
    by None c p q t = absurd (true≢false (sym t))
    by (Some l) None p q t = absurd (true≢false (sym t))
    by (Some l) (Some c) p q t = of_lot l c p q t

-- where no positions are left
pub back_of_all : (found cs all : List (Lot × ℕ)) (w : ℕ) → cs ≡ [] → cs ++ reverse found ≡ all
    → IsBack w (reverse found) all
back_of_all found cs all w none told = record { rest = cs; all = sym told; enough = inl none }
