-- What each form writes is read again, and what is read was written so.
use Rattle.std.proofs.Common.{◌≡◌, ℕ, zero, suc, ◌^◌, ◌<◌, ◌≤◌, Bool, true, false, cond, ltb, eqb}
use Rattle.std.proofs.Common.{List, [], ◌∷◌, ◌++◌, length, get_or, take, drop, Option, Some, None}
use Rattle.std.proofs.Common.{Result, Ok, Err, refl, sym, ap, subst, ◌∙◌, append_assoc, arith, inl}
use Rattle.std.proofs.Common.{inr}
use Rattle.std.specs.Prelude.{IsTrue}
use Rattle.std.specs.Int.{Width, w16, w32, byte_len, from_be_bytes, to_be_bytes}
use Rattle.std.proofs.lemmas.Bool.{eqb-true, cases_lt, ltb-false, le-ltb}
use Rattle.std.proofs.lemmas.List.{take_at, drop_at, take-append-drop, length-append, length-take}
use Rattle.std.proofs.lemmas.List.{get_or-take, get_or_past}
use Rattle.std.proofs.lemmas.Nat.{be_bytes_2, be_bytes_4, from_be_bytes-to_be_bytes_2}
use Rattle.std.proofs.lemmas.Nat.{from_be_bytes-to_be_bytes_4}
use Rattle.query_code.specs.declared.cause.FileCauseKind.{FileCauseKind}
use Rattle.query_code.specs.declared.cause.Stop.{Stop}
use Rattle.query_code.specs.ByteForm.{Form, ◌>>=◌, stop, raw, mapped, such_that, standing_for}
use Rattle.query_code.specs.ByteForm.{taken_as, before, both, AllFit, all_written, read_all, row}
use Rattle.query_code.specs.ByteForm.{counted, byte, read_byte, number, marked, just, Case, chosen}
use Rattle.query_code.specs.ByteForm.{told}
use Rattle.std.specs.Str.{bytes_eq}
use Rattle.std.proofs.lemmas.Slice.Eq.{bytes_eq-Decides}

abbrev pub AreBytes : List ℕ → Type 0
AreBytes bytes = (i : ℕ) → get_or bytes i 0 < 256

pub bytes_behind : (a b : List ℕ) → AreBytes (a ++ b) → AreBytes b
bytes_behind [] b h = h
bytes_behind (x ∷ a) b h = bytes_behind a b (λ i. h (suc i))

bytes-take : (n : ℕ) (bytes : List ℕ) → AreBytes bytes → AreBytes (take n bytes)
bytes-take n bytes h i =
    elim (cases_lt i n) [
      | inl lt ↦ rw (get_or-take n bytes i 0 lt) (h i)
      | inr le ↦ rw (get_or_past (take n bytes) i 0 (omega (arith, length-take n bytes)))
          (omega arith)
    ]

-- What is written is read again, whatever follows. What is read was written so.
pub record IsExact {T : Type 0} (f : Form T) : Type 0 where
  pub again : (v : T) (rest : List ℕ) → f.fits v → f.read (f.written v ++ rest) ≡ Ok (v, rest)
  pub takes : (bytes : List ℕ) (v : T) (rest : List ℕ) → AreBytes bytes
      → f.read bytes ≡ Ok (v, rest) → f.fits v × (bytes ≡ f.written v ++ rest)

-- ---- steps that did not fail

pub bind_ok : {A B : Type 0} (r : Result A Stop) (f : A → Result B Stop) (y : B) → (r >>= f) ≡ Ok y
    → (x : A) × (r ≡ Ok x) × (f x ≡ Ok y)
bind_ok (Ok x) f y e = (x, refl, e)
bind_ok (Err d) f y e = absurd cc

pub unless_ok : {A : Type 0} (b : Bool) (d : Stop) (x y : A) → cond b (Err d) (Ok x) ≡ Ok y
    → (b ≡ false) × (x ≡ y)
unless_ok true d x y e = absurd cc
unless_ok false d x y e = (refl, cc)

pub when_ok : {A : Type 0} (b : Bool) (d : Stop) (x y : A) → cond b (Ok x) (Err d) ≡ Ok y
    → (b ≡ true) × (x ≡ y)
when_ok true d x y e = (refl, cc)
when_ok false d x y e = absurd cc

abbrev done : {A : Type 0} → A → Result A Stop
done x = Ok x

pub ok_is : {A : Type 0} (x y : A) → done x ≡ done y → x ≡ y
ok_is x y e = cc

-- ---- the forms

pub exact_raw : (n : ℕ) → IsExact (raw n)
exact_raw n = record {
  again = λ v rest len. let long : n ≤ length (v ++ rest) = omega (arith, length-append v rest) in
      rw (le-ltb (length (v ++ rest)) n long, take_at v rest n len, drop_at v rest n len) refl;
  takes = λ bytes v rest are e.
      let g = unless_ok (ltb (length bytes) n) _ (take n bytes, drop n bytes) (v, rest) e in
      let long : n ≤ length bytes = ltb-false _ _ g.0 in
      let first : take n bytes ≡ v = ap (λ (p : List ℕ × List ℕ). p.0) g.1 in
      let second : drop n bytes ≡ rest = ap (λ (p : List ℕ × List ℕ). p.1) g.1 in (
        rw (← first) (omega (arith, length-take n bytes)),
        rw (← first, ← second)
            (sym (take-append-drop n bytes)),
      );
}

pub exact_mapped : {A B : Type 0} (to : A → B) (from : B → A) (a : Form A)
    → ((x : A) → a.fits x → from (to x) ≡ x) → IsExact a → IsExact (mapped to from a)
exact_mapped {A} {B} to from a forth exact = record {
  again = λ v rest fits. rw (exact.again (from v) rest fits.0, fits.1) refl;
  takes = λ bytes v rest are e.
      let b = bind_ok (a.read bytes) (λ x. Ok (to x.0, x.1)) (v, rest) e in
      let t = exact.takes bytes b.0.0 b.0.1 are b.1 in
      let p = ok_is (to b.0.0, b.0.1) (v, rest) b.2 in
      let same = forth b.0.0 t.0 in
      subst (λ (q : B × List ℕ). (a.fits (from q.0) × (to (from q.0) ≡ q.0))
      × (bytes ≡ a.written (from q.0) ++ q.1)) p (
        (subst a.fits (sym same) t.0, ap to same),
        t.1
            ∙ ap (λ (x : A). a.written x ++ b.0.1) (sym same),
      );
}

pub exact_such_that : {A : Type 0} (cause : FileCauseKind) (test : A → Bool) (a : Form A) → IsExact a
    → IsExact (such_that cause test a)
exact_such_that {A} cause test a exact = record {
  again = λ v rest fits. rw (exact.again v rest fits.0, fits.1) refl;
  takes = λ bytes v rest are e.
      let b = bind_ok (a.read bytes) (λ x. cond (test x.0) (Ok x) (stop cause bytes)) (v, rest) e in
      let t = exact.takes bytes b.0.0 b.0.1 are b.1 in
      let g = when_ok (test b.0.0) _ b.0 (v, rest) b.2 in
      subst (λ (q : A × List ℕ). (a.fits q.0 × IsTrue (test q.0))
      × (bytes ≡ a.written q.0 ++ q.1)) g.1 ((t.0, g.0), t.1);
}

taken_ok :
    {B : Type 0} (cause : FileCauseKind) (bytes : List ℕ) (o : Option B) (v : B) (rest after : List ℕ)
    → taken_as cause bytes o rest ≡ Ok (v, after) → (o ≡ Some v) × (rest ≡ after)
taken_ok cause bytes None v rest after e = absurd cc
taken_ok {B} cause bytes (Some u) v rest after e =
    let p = ok_is (u, rest) (v, after) e in
    (ap (λ (q : B × List ℕ). Some q.0) p, ap (λ (q : B × List ℕ). q.1) p)

pub exact_standing_for :
    {A B : Type 0} (cause : FileCauseKind) (to : A → Option B) (from : B → A) (a : Form A)
    → ((x : A) (v : B) → to x ≡ Some v → from v ≡ x) → IsExact a
    → IsExact (standing_for cause to from a)
exact_standing_for {A} {B} cause to from a back exact = record {
  again = λ v rest fits. rw (exact.again (from v) rest fits.0, fits.1) refl;
  takes = λ bytes v rest are e.
      let b = bind_ok (a.read bytes) (λ x. taken_as cause bytes (to x.0) x.1) (v, rest) e in
      let t = exact.takes bytes b.0.0 b.0.1 are b.1 in
      let g = taken_ok cause bytes (to b.0.0) v b.0.1 rest b.2 in
      let same : from v ≡ b.0.0 = back b.0.0 v g.0 in (
        (subst a.fits (sym same) t.0, ap to same ∙ g.0),
        t.1
            ∙ ap (λ (x : A). a.written x ++ b.0.1) (sym same)
            ∙ ap (λ (r : List ℕ). a.written (from v) ++ r) g.1,
      );
}

pub exact_before : {A B : Type 0} (a : Form A) (b : A → Form B) → IsExact a
    → ((v : A) → a.fits v → IsExact (b v)) → IsExact (before a b)
exact_before {A} {B} a b ea eb = record {
  again = λ p rest fits.
      let front = ea.again p.0 ((b p.0).written p.1 ++ rest) fits.0 in
      let behind = (eb p.0 fits.0).again p.1 rest fits.1 in
      rw (append_assoc (a.written p.0) ((b p.0).written p.1) rest, front, behind) refl;
  takes = λ bytes p rest are e.
      let x = bind_ok (a.read bytes) (λ x. (b x.0).read x.1
      >>= λ y. Ok ((x.0, y.0), y.1)) (p, rest) e in
      let y = bind_ok ((b x.0.0).read x.0.1) (λ y. Ok ((x.0.0, y.0), y.1)) (p, rest) x.2 in
      let front = ea.takes bytes x.0.0 x.0.1 are x.1 in
      let are_behind = bytes_behind (a.written x.0.0) x.0.1 (subst AreBytes front.1 are) in
      let behind = (eb x.0.0 front.0).takes x.0.1 y.0.0 y.0.1 are_behind y.1 in
      let g = ok_is ((x.0.0, y.0.0), y.0.1) (p, rest) y.2 in
      let whole : bytes ≡ (a.written x.0.0 ++ (b x.0.0).written y.0.0) ++ y.0.1 =
      front.1 ∙ ap (λ (r : List ℕ). a.written x.0.0 ++ r) behind.1
      ∙ sym {a =
      (a.written x.0.0 ++ (b x.0.0).written y.0.0) ++ y.0.1}
      (append_assoc (a.written x.0.0) ((b x.0.0).written y.0.0) y.0.1) in
      subst (λ (q : (A × B) × List ℕ). (a.fits q.0.0 × (b q.0.0).fits q.0.1)
      × (bytes ≡ (a.written q.0.0 ++ (b q.0.0).written q.0.1) ++ q.1)) g (
        (front.0, behind.0),
        whole,
      );
}

pub exact_both : {A B : Type 0} (a : Form A) (b : Form B) → IsExact a → IsExact b
    → IsExact (both a b)
exact_both a b ea eb = exact_before a (λ v. b) ea (λ v fits. eb)

byte_takes : (bytes : List ℕ) (v : ℕ) (rest : List ℕ) → AreBytes bytes
    → read_byte bytes ≡ Ok (v, rest) → (v < 256) × (bytes ≡ (v ∷ []) ++ rest)
byte_takes [] v rest are e = absurd cc
byte_takes (b ∷ bs) v rest are e =
    let p = ok_is (b, bs) (v, rest) e in
    let first : b ≡ v = ap (λ (p : ℕ × List ℕ). p.0) p in
    let second : bs ≡ rest = ap (λ (p : ℕ × List ℕ). p.1) p in
    (rw (← first) (are 0), rw (← first, ← second) refl)

pub exact_byte : IsExact byte
exact_byte = record { again = λ v rest fits. refl; takes = byte_takes }

rows_again : {A : Type 0} (a : Form A) → IsExact a → (vs : List A) (rest : List ℕ) → AllFit a vs
    → read_all a (length vs) (all_written a vs ++ rest) ≡ Ok (vs, rest)
unfolding read_all
rows_again a exact [] rest fits = refl
rows_again a exact (v ∷ vs) rest fits =
    rw (
      append_assoc (a.written v) (all_written a vs) rest,
      exact.again v (all_written a vs ++ rest)
          fits.0,
      rows_again a exact vs rest fits.1,
    ) refl

rows_take : {A : Type 0} (a : Form A) → IsExact a → (n : ℕ) (bytes : List ℕ) (x : List A × List ℕ)
    → AreBytes bytes → read_all a n bytes ≡ Ok x
    → ((length x.0 ≡ n) × AllFit a x.0) × (bytes ≡ all_written a x.0 ++ x.1)
unfolding read_all
rows_take {A} a exact zero bytes x are e =
    subst (λ (y : List A × List ℕ). ((length y.0 ≡ 0) × AllFit a y.0)
    × (bytes ≡ all_written a y.0 ++ y.1)) (ok_is ([], bytes) x e) ((refl, tt), refl)
rows_take {A} a exact (suc n) bytes x are e =
    let p = bind_ok (a.read bytes) (λ first. read_all a n first.1
    >>= λ others. Ok (first.0 ∷ others.0, others.1)) x e in
    let q = bind_ok (read_all a n p.0.1) (λ others. Ok (p.0.0 ∷ others.0, others.1)) x p.2 in
    let front = exact.takes bytes p.0.0 p.0.1 are p.1 in
    let behind =
    rows_take a exact n p.0.1 q.0
    (bytes_behind (a.written p.0.0) p.0.1 (subst AreBytes front.1 are)) q.1 in
    let whole : bytes ≡ (a.written p.0.0 ++ all_written a q.0.0) ++ q.0.1 =
    front.1 ∙ ap (λ (r : List ℕ). a.written p.0.0 ++ r) behind.1
    ∙ sym (append_assoc (a.written p.0.0) (all_written a q.0.0) q.0.1) in
    subst (λ (y : List A × List ℕ). ((length y.0 ≡ suc n) × AllFit a y.0)
    × (bytes ≡ all_written a y.0 ++ y.1)) (ok_is (p.0.0 ∷ q.0.0, q.0.1) x q.2)
    ((ap suc behind.0.0, (front.0, behind.0.1)), whole)

pub exact_row : {A : Type 0} (n : ℕ) (a : Form A) → IsExact a → IsExact (row n a)
exact_row n a exact = record {
  again = λ vs rest fits. ap (λ (k : ℕ). read_all a k (all_written a vs ++ rest)) (sym fits.0)
      ∙ rows_again a exact vs rest fits.1;
  takes = λ bytes vs rest are e. rows_take a exact n bytes (vs, rest) are e;
}

pub exact_counted : {A : Type 0} (count : Form ℕ) (a : Form A) → IsExact count → IsExact a
    → IsExact (counted count a)
exact_counted {A} count a ec ea =
    exact_mapped (λ p. p.1) (λ vs. (length vs, vs)) (before count (λ n. row n a))
    (λ p fits. ap (λ (n : ℕ). (n, p.1)) fits.1.0)
    (exact_before count (λ n. row n a) ec (λ n fits. exact_row n a ea))

pub exact_marked : {A : Type 0} (cause : FileCauseKind) (mark : List ℕ) (a : Form A) → IsExact a
    → IsExact (marked cause mark a)
exact_marked cause mark a exact =
    exact_mapped (λ p. p.1) (λ v. (mark, v))
    (both (such_that cause (bytes_eq mark) (raw (length mark))) a)
    (λ p fits. ap (λ (m : List ℕ). (m, p.1)) ((bytes_eq-Decides mark p.0).0 fits.0.1))
    (exact_both (such_that cause (bytes_eq mark) (raw (length mark))) a
    (exact_such_that cause (bytes_eq mark) (raw (length mark)) (exact_raw (length mark))) exact)

pub exact_just : {A : Type 0} (v : A) → IsExact (just v)
exact_just {A} v = record {
  again = λ w rest is. ap (λ (x : A). done (x, rest)) is;
  takes = λ bytes w rest are e.
      let p = ok_is (v, bytes) (w, rest) e in
      (ap (λ (q : A × List ℕ). q.0) p, ap (λ (q : A × List ℕ). q.1) p);
}

-- The case's form is exact, and its values have its tag.
pub record IsCase {A : Type 0} (tag : A → ℕ) (n : ℕ) (f : Form A) : Type 0 where
  pub exact : IsExact f
  pub tells : (v : A) → f.fits v → tag v ≡ n

abbrev pub AreCases : {A : Type 0} → (A → ℕ) → List (Case A) → Type 0
AreCases tag [] = Unit {0}
AreCases tag (c ∷ cs) = IsCase tag c.tag c.form × AreCases tag cs

one_chosen : {A : Type 0} (tag : A → ℕ) (c : Case A) (cs : List (Case A)) (n : ℕ) (b : Bool)
    → eqb n c.tag ≡ b → IsCase tag c.tag c.form → IsCase tag n (chosen cs n)
    → IsCase tag n (cond b c.form (chosen cs n))
one_chosen tag c cs n true is one others =
    subst (λ (m : ℕ). IsCase tag m c.form) (sym (eqb-true n c.tag is)) one
one_chosen tag c cs n false is one others = others

is_chosen : {A : Type 0} (tag : A → ℕ) (cs : List (Case A)) (n : ℕ) → AreCases tag cs
    → IsCase tag n (chosen cs n)
is_chosen tag [] n are = record {
  exact = record { again = λ v rest fits. absurd fits; takes = λ bytes v rest are e. absurd cc };
  tells = λ v fits. absurd fits;
}
is_chosen tag (c ∷ cs) n are =
    one_chosen tag c cs n (eqb n c.tag) refl are.0 (is_chosen tag cs n are.1)

pub exact_told : {A : Type 0} (tag : A → ℕ) (cases : List (Case A)) → AreCases tag cases
    → IsExact (told tag cases)
exact_told tag cases all = exact_mapped (λ p. p.1) (λ v. (tag v, v)) (before byte (chosen cases))
    (λ p fits. ap (λ (n : ℕ). (n, p.1)) ((is_chosen tag cases p.0 all).tells p.1 fits.1))
    (exact_before byte (chosen cases) exact_byte (λ n fits. (is_chosen tag cases n all).exact))

-- a case whose values are the sights of another form's
pub is_case : {A B : Type 0} (tag : B → ℕ) (n : ℕ) (to : A → B) (from : B → A) (a : Form A)
    → ((x : A) → tag (to x) ≡ n) → ((x : A) → a.fits x → from (to x) ≡ x) → IsExact a
    → IsCase tag n (mapped to from a)
is_case tag n to from a tells forth exact = record {
  exact = exact_mapped to from a forth exact;
  tells = λ v fits. ap tag (sym fits.1) ∙ tells (from v);
}

pub is_just : {A : Type 0} (tag : A → ℕ) (v : A) → IsCase tag (tag v) (just v)
is_just tag v = record { exact = exact_just v; tells = λ w is. ap tag (sym is) }

-- ---- numbers

pub record IsWide (w : Width) (limit : ℕ) : Type 0 where
  pub len : (n : ℕ) → length (to_be_bytes w n) ≡ byte_len w
  pub back : (bytes : List ℕ) → length bytes ≡ byte_len w → AreBytes bytes
      → to_be_bytes w (from_be_bytes w bytes) ≡ bytes
  pub again : (n : ℕ) → n < limit → from_be_bytes w (to_be_bytes w n) ≡ n
  pub below : (bytes : List ℕ) → AreBytes bytes → from_be_bytes w bytes < limit

pub wide16 : IsWide w16 (2 ^ 16)
wide16 = record {
  len = λ n. refl;
  back = λ bytes len are. be_bytes_2 bytes _ len are refl;
  again = λ n lt. from_be_bytes-to_be_bytes_2 n lt;
  below = λ bytes are. omega (arith, are 0, are 1);
}

pub wide32 : IsWide w32 (2 ^ 32)
wide32 = record {
  len = λ n. refl;
  back = λ bytes len are. be_bytes_4 bytes _ len are refl;
  again = λ n lt. from_be_bytes-to_be_bytes_4 n lt;
  below = λ bytes are. omega (arith, are 0, are 1, are 2, are 3);
}

pub exact_number : (w : Width) (limit : ℕ) → IsWide w limit → IsExact (number w limit)
exact_number w limit wide = record {
  again = λ n rest lt.
      let len = wide.len n in
      let long : byte_len w ≤ length (to_be_bytes w n ++ rest) =
      omega (arith, length-append (to_be_bytes w n) rest) in
      rw (
        le-ltb (length (to_be_bytes w n ++ rest)) (byte_len w) long,
        take_at (to_be_bytes w n)
            rest (byte_len w) len,
        drop_at (to_be_bytes w n) rest (byte_len w) len,
        wide.again n lt,
      ) refl;
  takes = λ bytes n rest are e.
      let g = unless_ok (ltb (length bytes) (byte_len w)) _
      (from_be_bytes w (take (byte_len w) bytes), drop (byte_len w) bytes) (n, rest) e in
      let long : byte_len w ≤ length bytes = ltb-false _ _ g.0 in
      let are_first = bytes-take (byte_len w) bytes are in
      let front :
      to_be_bytes w (from_be_bytes w (take (byte_len w) bytes)) ≡ take (byte_len w) bytes =
      wide.back (take (byte_len w) bytes) (omega (arith, length-take (byte_len w) bytes))
      are_first in
      let whole :
      bytes ≡ to_be_bytes w (from_be_bytes w (take (byte_len w) bytes))
      ++ drop (byte_len w) bytes = rw front (sym (take-append-drop (byte_len w) bytes)) in
      subst (λ (p : ℕ × List ℕ). (p.0 < limit)
      × (bytes ≡ to_be_bytes w p.0 ++ p.1)) g.1 (
        wide.below (take (byte_len w) bytes) are_first,
        whole,
      );
}
