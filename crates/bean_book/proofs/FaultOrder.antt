-- The order of faults.
use denote.Enum.Bare.{same_false, same_true, sameb}
use Rattle.bean_base.specs.contracts.fault.FaultKind.{the_type}
use Rattle.std.proofs.Common.{rules, ◌≡◌, ℕ, eqb, arith, ◌&&◌, Bool, true, false, List, [], ◌∷◌}
use Rattle.std.proofs.Common.{refl, ap, ◌∙◌, sym}
use Rattle.std.specs.Prelude.{slice_get, unwrap_or}
use Rattle.std.specs.Cmp.{IsTotalOrder, then_total, tied_then}
use Rattle.std.specs.declared.cmp.Ordering.{Ordering}
use Rattle.std.specs.declared.cmp.Ordering.TheVariants.{Less, Equal, Greater}
use Rattle.std.specs.Ordering.{nat_cmp, ordering_then, is_eq}
use Rattle.std.proofs.lemmas.Cmp.{nat_cmp_total}
use Rattle.std.proofs.lemmas.Bool.Decides.{nat_tests}
use Rattle.std.proofs.lemmas.Map.Lookups.{exact_unsigned}
use Rattle.bean_base.specs.Fault.{number_of}
use Rattle.bean_base.specs.declared.fault.Fault.{Fault}
use Rattle.bean_base.specs.declared.fault.FaultKind.{FaultKind}
use Rattle.bean_base.specs.declared.fault.FaultKind.TheVariants as kind
use Rattle.bean_book.specs.Reported.{fault_cmp}

by_number : (f : Fault → ℕ) → IsTotalOrder (λ a b. nat_cmp (f a) (f b))
by_number f = record {
  antisymm = λ x y. nat_cmp_total.antisymm (f x) (f y);
  trans = λ x y z. nat_cmp_total.trans (f x) (f y) (f z);
  congr = λ x y z. nat_cmp_total.congr (f x) (f y) (f z);
}

pub fault_total : IsTotalOrder fault_cmp
fault_total =
    then_total (then_total (by_number (λ f. f.place.file)) (by_number (λ f. f.place.line)))
    (by_number (λ f. number_of f.kind))

all_kinds : List FaultKind
all_kinds =
    kind.BadToken
    ∷ kind.BadToken
    ∷ kind.NotADirective
    ∷ kind.OutOfRange
    ∷ kind.UnmatchedPushOrPop
    ∷ kind.Ignored
    ∷ kind.AccountNotOpen
    ∷ kind.AccountClosed
    ∷ kind.CurrencyNotAllowed
    ∷ kind.OpenedTwice
    ∷ kind.ClosedButNotOpen
    ∷ kind.SeveralMissingAmounts
    ∷ kind.OutsideProfile
    ∷ kind.NoLotMatches
    ∷ kind.AmbiguousLots
    ∷ kind.NotEnoughUnits
    ∷ kind.NegativeCost
    ∷ kind.TooWide
    ∷ kind.Unbalanced
    ∷ kind.BalanceFails
    ∷ kind.UnusedPad
    ∷ kind.PadAtCost
    ∷ kind.IncludeFault
    ∷ kind.UnknownMethod
    ∷ []

kind_numbered : ℕ → FaultKind
unfolding all_kinds
kind_numbered n = unwrap_or (slice_get all_kinds n) kind.BadToken

back : (k : FaultKind) → kind_numbered (number_of k) ≡ k
unfolding kind_numbered all_kinds
back kind.BadToken = refl
back kind.NotADirective = refl
back kind.OutOfRange = refl
back kind.UnmatchedPushOrPop = refl
back kind.Ignored = refl
back kind.AccountNotOpen = refl
back kind.AccountClosed = refl
back kind.CurrencyNotAllowed = refl
back kind.OpenedTwice = refl
back kind.ClosedButNotOpen = refl
back kind.SeveralMissingAmounts = refl
back kind.OutsideProfile = refl
back kind.NoLotMatches = refl
back kind.AmbiguousLots = refl
back kind.NotEnoughUnits = refl
back kind.NegativeCost = refl
back kind.TooWide = refl
back kind.Unbalanced = refl
back kind.BalanceFails = refl
back kind.UnusedPad = refl
back kind.PadAtCost = refl
back kind.IncludeFault = refl
back kind.UnknownMethod = refl

kind_told : (a b : FaultKind) → number_of a ≡ number_of b → a ≡ b
kind_told a b e = sym (back a) ∙ ap kind_numbered e ∙ back b

parts : (a b : Ordering) → ordering_then a b ≡ Equal → (a ≡ Equal) × (b ≡ Equal)
parts Less b e = cc
parts Equal b e = (refl, e)
parts Greater b e = cc

fault : (k : FaultKind) (file line : ℕ) → Fault
fault k file line = record { kind = k; place = record { file = file; line = line } }

pub fault_told : (x y : Fault) → fault_cmp x y ≡ Equal → x ≡ y
unfolding fault
fault_told x y e =
    let outer = parts (ordering_then (nat_cmp x.place.file y.place.file) (nat_cmp x.place.line y.place.line)) _ e in
    let inner = parts (nat_cmp x.place.file y.place.file) _ outer.0 in
    let file : x.place.file ≡ y.place.file = exact_unsigned x.place.file y.place.file inner.0 in
    let line : x.place.line ≡ y.place.line = exact_unsigned x.place.line y.place.line inner.1 in
    let kind : x.kind ≡ y.kind =
    kind_told x.kind y.kind (exact_unsigned (number_of x.kind) (number_of y.kind) outer.1) in
    ap (λ k. fault k x.place.file x.place.line) kind
    ∙ ap (λ n. fault y.kind n x.place.line) file
    ∙ ap (λ n. fault y.kind y.place.file n) line

-- ---- what == tells

same_kinds : (a b : FaultKind)
    → sameb the_type a b ≡ is_eq (nat_cmp (number_of a) (number_of b))
same_kinds a b = by (sameb the_type a b) refl (nat_cmp (number_of a) (number_of b)) refl
  where
    by : (s : Bool) → sameb the_type a b ≡ s → (o : Ordering)
        → nat_cmp (number_of a) (number_of b) ≡ o → s ≡ is_eq o
    by true e o f =
        let same = same_true the_type (search rules) a b e in
        own (number_of a)
        ∙ ap (λ k. is_eq (nat_cmp (number_of a) (number_of k))) same
        ∙ ap is_eq f
      where
        own : (n : ℕ) → true ≡ is_eq (nat_cmp n n)
        own n = sym (grind (arith, nat_tests))
    by false e Less f = refl
    by false e Greater f = refl
    by false e Equal f =
        absurd (same_false the_type a b e
        (kind_told a b (exact_unsigned (number_of a) (number_of b) f)))

tie : (a b : ℕ) → eqb a b ≡ is_eq (nat_cmp a b)
tie a b = grind (arith, nat_tests)

both : (k f l : Bool) → (k && (f && l)) ≡ ((f && l) && k)
both true true true = refl
both true true false = refl
both true false l = refl
both false true true = refl
both false true false = refl
both false false l = refl

pub ties : (x y : Fault)
    → (sameb the_type x.kind y.kind && (eqb x.place.file y.place.file && eqb x.place.line y.place.line))
    ≡ is_eq (fault_cmp x y)
ties x y =
    let f = nat_cmp x.place.file y.place.file in
    let l = nat_cmp x.place.line y.place.line in
    let k = nat_cmp (number_of x.kind) (number_of y.kind) in
    ap (λ b. b && (eqb x.place.file y.place.file && eqb x.place.line y.place.line)) (same_kinds x.kind y.kind)
    ∙ ap (λ b. is_eq k && (b && eqb x.place.line y.place.line)) (tie x.place.file y.place.file)
    ∙ ap (λ b. is_eq k && (is_eq f && b)) (tie x.place.line y.place.line)
    ∙ both (is_eq k) (is_eq f) (is_eq l)
    ∙ ap (λ b. b && is_eq k) (tied_then f l)
    ∙ tied_then (ordering_then f l) k
