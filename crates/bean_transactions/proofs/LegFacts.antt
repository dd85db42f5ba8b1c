-- A booked posting as a leg, by its parts.
use Rattle.std.proofs.Common.{◌≡◌, ◌≤◌, ◌<◌, ℕ, suc, Option, List, ◌∷◌, ◌++◌, length, map, take}
use Rattle.std.proofs.Common.{drop, get_or, ◌∙◌, ap, sym}
use Rattle.std.proofs.Math.Seq.{drop-cons}
use Rattle.std.proofs.lemmas.List.{map-append, take-append-drop}
use Rattle.std.specs.Coded.{le_prop}
use mathlib.Core.HLevel.{is_prop→PathP}
use Rattle.bean_base.specs.declared.num.Num.{Num}
use Rattle.bean_postings.specs.declared.price.Price.{Price}
use Rattle.bean_interp.specs.declared.leg.Whole.{Whole}
use Rattle.bean_transactions.specs.Tried.{decimals_of, whole_of, worth_of}
use Rattle.bean_holdings.specs.declared.posted.Posted.{Posted}

one_whole : (a b : Whole) → a.units ≡ b.units → a.decimals ≡ b.decimals → a.worth ≡ b.worth → a ≡ b
one_whole a b units decimals worth = λ i. record {
  units = units i;
  decimals = decimals i;
  worth = worth i;
  few = is_prop→PathP (λ j. decimals j ≤ 8) (λ j. hlevel le_prop) a.few b.few i;
}

pub whole_by :
    (w : Whole) (n m : Option Num) (price : Price) (p : Posted) → n ≡ m → w.units ≡ p.units
    → w.decimals ≡ decimals_of n → w.worth ≡ worth_of p.lot price → w ≡ whole_of m price p
whole_by w n m price p is units decimals worth =
    one_whole w (whole_of m price p) units (decimals ∙ ap decimals_of is) worth

-- the legs before one, the leg, and those behind it
pub mapped_split : {X Y : Type 0} (f : X → Y) (xs : List X) (i : ℕ) (x : X) → i < length xs
    → x ≡ get_or xs i x → map f xs ≡ map f (take i xs) ++ f x ∷ map f (drop (suc i) xs)
mapped_split f xs i x h e =
    ap (map f)
    (sym (take-append-drop i xs)
    ∙ ap (λ l. take i xs ++ l)
    (drop-cons xs i x h ∙ ap (λ q. q ∷ drop (suc i) xs) (sym e)))
    ∙ map-append f (take i xs) (x ∷ drop (suc i) xs)
