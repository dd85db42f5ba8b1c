use Rattle.std.proofs.Common.{◌≡◌, ◌<◌, ◌^◌, ◌+ℤ◌, ◌&&◌, ◌==◌, ℤ, pos, ℕ, List, Bool, true, false, cond}
use Rattle.std.proofs.Common.{refl, ap, ◌∙◌, sym, subst, unwrap_or, arith, slice_get}
use Rattle.std.proofs.Common.{to_z, of_z}
use Rattle.std.specs.Int.{w128}
use Rattle.std.specs.Int.RustNames.{unsigned_abs}
use Rattle.std.specs.Map.{values_of}
use Rattle.std.specs.Str.{bytes_eq}
use Rattle.std.proofs.lemmas.Bool.{eqb-true}
use Rattle.std.proofs.lemmas.Int.{ints}
use Rattle.std.proofs.lemmas.Slice.Eq.{bytes_eq-Decides}
use Rattle.indexmap.specs.IndexMap.{set_value_at}
use Rattle.indexmap.proofs.MapLemmas.{OnOk-map}
use Rattle.bean_pad.specs.Counts.{count_at}
use Rattle.bean_pad.specs.declared.counts.At.{At}
use Rattle.bean_pad.proofs.SlotFacts.{count_there, put_or_before, written}
use Rattle.bean_pad.proofs.counts.Counts.add.Goals as goal

chosen : (a b : Bool) (f : ℕ → List ℕ → ℤ) (x v : ℕ) (y w : List ℕ) (n sum : ℤ)
    → (a ≡ true → x ≡ v) → (b ≡ true → y ≡ w) → sum ≡ f x y +ℤ n
    → cond (a && b) sum (f v w) ≡ cond (a && b) (f v w +ℤ n) (f v w)
chosen true true f x v y w n sum p q s =
    s ∙ ap (λ x. f x y +ℤ n) (p refl) ∙ ap (λ y. f v y +ℤ n) (q refl)
chosen true false f x v y w n sum p q s = refl
chosen false b f x v y w n sum p q s = refl

set_or_before : (f : ℕ → List ℕ → ℤ) (x v : ℕ) (l y w : List ℕ) (n sum : ℤ) → l ≡ y
    → sum ≡ f x y +ℤ n
    → cond ((x == v) && bytes_eq l w) sum (f v w)
    ≡ cond ((x == v) && bytes_eq y w) (f v w +ℤ n) (f v w)
set_or_before f x v l y w n sum q s =
    rw q
    (chosen (x == v) (bytes_eq y w) f x v y w n sum (eqb-true x v) (bytes_eq-Decides y w).0 s)

pub returns-in_default-clause-added : goal.returns-in_default-clause-added
returns-in_default-clause-added c =
    let counts = c.args.self.now.by_number.entries in
    let number = c.args.number in
    let lent = c.lend.ensures in
    let none : count_at counts number c.args.currency.now ≡ pos 0 =
    ap (count_at counts number) (sym lent) ∙ c.in_default.ensures.none in
    let sum : to_z w128 (of_z w128 c.args.count)
    ≡ count_at counts number c.args.currency.now +ℤ c.args.count =
    omega (arith, ints, none) in
    OnOk-map c.begin.result _ _ (λ begun n d.
    begun n d ∙ set_or_before (count_at counts) number n _ _ d c.args.count _ lent sum)
    c.begin.ensures.begun

pub overflow_add-index_mut : goal.overflow_add-index_mut
overflow_add-index_mut c =
    let counts = c.args.self.now.by_number.entries in
    let held : count_at counts c.args.number c.args.currency.now ≡ c.index_mut.result.now =
    count_there counts c.args.number _ _ c.in-Some.place _ c.lend.ensures c.in-Some.ensures.some
    (ap (λ es. slice_get (values_of es) c.in-Some.place) (sym c.note_place.ensures)
    ∙ c.index_mut.ensures.value) in
    let far : unsigned_abs c.index_mut.result.now < 2 ^ 126 =
    subst (λ n. unsigned_abs n < 2 ^ 126) held c.requires.held in
    omega (arith, ints, far, c.requires.small)

pub returns-clause-added : goal.returns-clause-added
returns-clause-added c = λ n d.
    let counts = c.args.self.now.by_number.entries in
    let number = c.args.number in
    let lent = c.lend.ensures in
    let at : At = record { number = number; currency = c.lend.result } in
    let held : count_at counts number c.args.currency.now ≡ c.index_mut.result.now =
    count_there counts number _ _ c.in-Some.place _ lent c.in-Some.ensures.some
    (ap (λ es. slice_get (values_of es) c.in-Some.place) (sym c.note_place.ensures)
    ∙ c.index_mut.ensures.value) in
    let far : unsigned_abs c.index_mut.result.now < 2 ^ 126 =
    subst (λ n. unsigned_abs n < 2 ^ 126) held c.requires.held in
    let new =
    to_z w128
    (of_z w128 (to_z w128 (of_z w128 c.index_mut.result.now) +ℤ to_z w128 (of_z w128 c.args.count))) in
    let sum : new ≡ count_at counts number c.args.currency.now +ℤ c.args.count =
    omega (arith, ints, held, far, c.requires.small) in
    ap (λ es. count_at (set_value_at es c.in-Some.place new) n d) c.note_place.ensures
    ∙ ap (λ o. unwrap_or o (pos 0))
    (written counts at (record { number = n; currency = d }) c.in-Some.place new
    c.in-Some.ensures.some)
    ∙ put_or_before ((number == n) && bytes_eq c.lend.result d) new _
    ∙ set_or_before (count_at counts) number n _ _ d c.args.count new lent sum
