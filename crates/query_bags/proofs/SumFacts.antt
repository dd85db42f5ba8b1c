-- Positions that are added one after the other.
use Rattle.std.proofs.Common.{◌≡◌, ℤ, ◌+ℤ◌, Bool, true, false, ◌&&◌, IsTrue, List, [], ◌∷◌, map}
use Rattle.std.proofs.Common.{to_z, of_z, refl, sym, ap, subst, ◌∙◌, arith}
use Rattle.std.proofs.lemmas.Bool.Decides.{nat_tests}
use Rattle.std.proofs.lemmas.Int.{ints}
use Rattle.std.specs.Int.{w128}
use Rattle.std.specs.Int.RustNames.{FitsSigned}
use Rattle.bean_lots.specs.Inventory.{added, count_of}
use Rattle.bean_lots.specs.declared.lot.Position.{Position}
use Rattle.query_holdings.specs.Total.{adds_up, is_count, total_from}

pub both : (a b : Bool) → IsTrue (a && b) → IsTrue a × IsTrue b
both true b h = (refl, h)
both false b h = cc

-- what is left to be added, f of the rest of the entries, adds up, and gives the sum of all
pub record IsUpTo (f : Position → Position) (es held rest : List Position) : Type 0 where
  pub adds : IsTrue (adds_up held (map f rest))
  pub sum : total_from held (map f rest) ≡ total_from [] (map f es)

pub record Adds (f : Position → Position) (es held more : List Position) (e : Position) :
    Type 0 where
  pub own : IsTrue (is_count (f e).count)
  pub sum : IsTrue (is_count (count_of held (f e).key +ℤ (f e).count))
  pub next : IsUpTo f es (added held (f e).key (f e).count) more

pub one_more : (f : Position → Position) (es held rest more : List Position) (e : Position)
    → rest ≡ e ∷ more → IsUpTo f es held rest → Adds f es held more e
one_more f es held rest more e at h =
    let adds : IsTrue (adds_up held (f e ∷ map f more)) =
    subst (λ l. IsTrue (adds_up held (map f l))) at h.adds in
    let own = is_count (f e).count in
    let sum = is_count (count_of held (f e).key +ℤ (f e).count) in
    let first = both (own && sum) (adds_up (added held (f e).key (f e).count) (map f more)) adds in
    let second = both own sum first.0 in
    record {
      own = second.0;
      sum = second.1;
      next = record { adds = first.1; sum = ap (λ l. total_from held (map f l)) (sym at) ∙ h.sum };
    }

pub none_yet : (f : Position → Position) (es held rest : List Position) → held ≡ [] → rest ≡ es
    → IsTrue (adds_up [] (map f es)) → IsUpTo f es held rest
none_yet f es held rest e all h =
    subst (IsUpTo f es held) (sym all)
    (record {
      adds = subst (λ l. IsTrue (adds_up l (map f es))) (sym e) h;
      sum =
          ap (λ l. total_from l (map f es)) e;
    })

pub all : (f : Position → Position) (es held rest : List Position) → rest ≡ []
    → IsUpTo f es held rest → held ≡ total_from [] (map f es)
all f es held rest end h = ap (λ l. total_from held (map f l)) (sym end) ∙ h.sum

-- a sum that is a count is one of 128 bits
pub fits_sum : (a n : ℤ) → FitsSigned w128 n → IsTrue (is_count (a +ℤ n))
    → FitsSigned w128 (a +ℤ to_z w128 (of_z w128 n))
fits_sum a n f h = grind (arith, ints, nat_tests)
