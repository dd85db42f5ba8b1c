-- The definitions at worked values, in counts of 10^-8.
use Rattle.std.proofs.Common.{◌≡◌, ◌≤◌, ◌<◌, ◌^◌, ℕ, ℤ, pos, negsuc, true, false, List, [], ◌∷◌}
use Rattle.std.proofs.Common.{Some, None, codes, refl, arith}
use Rattle.std.specs.Int.RustNames.{unsigned_abs}
use Rattle.bean_base.proofs.WorkedDays.{january_2, january_3, january_2_number}
use Rattle.bean_base.specs.Decimal.{IsLedger}
use Rattle.bean_base.specs.declared.amounts.Amount.{Amount}
use Rattle.bean_base.specs.declared.days.Day.{Day}
use Rattle.bean_interp.specs.declared.fill.Fill.{Fill}
use Rattle.bean_lots.specs.declared.lot.Cost.{Cost}
use Rattle.bean_lots.specs.declared.lot.Lot.{Lot}
use Rattle.bean_lots.specs.declared.lot.Position.{Position}
use Rattle.bean_reductions.specs.declared.reduction.Method.TheVariants as method
use Rattle.bean_holdings.specs.Held.{held}
use Rattle.bean_transactions.specs.Held.{left}
use Rattle.bean_transactions.specs.Lined.{is_reduction}
use Rattle.bean_transactions.specs.Tried.{completed}
use Rattle.bean_transactions.specs.declared.line.Line.TheVariants as line
use Rattle.bean_holdings.specs.declared.posted.Posted.{Posted}

is_ledger : (count : ℤ) → unsigned_abs count ≤ 120 → IsLedger count 8
is_ledger count few = (omega arith, omega (arith, few))

is_small : (count : ℤ) → unsigned_abs count ≤ 120 → unsigned_abs count < 10 ^ 20
is_small count few = omega (arith, few)

abbrev shares : (count : ℤ) → unsigned_abs count ≤ 120 → Amount
shares count few = record {
  number = record {
    count = count;
    places = 8;
    in_range = is_ledger count few;
    small = is_small count few;
  };
  currency = codes "HOOL";
}

few_0 : 0 ≤ 120
few_0 = omega arith

few_2 : 2 ≤ 120
few_2 = omega arith

few_5 : 5 ≤ 120
few_5 = omega arith

few_10 : 10 ≤ 120
few_10 = omega arith

few_100 : 100 ≤ 120
few_100 = omega arith

few_110 : 110 ≤ 120
few_110 = omega arith

abbrev usd : (count : ℕ) → count ≤ 120 → Cost
usd count few =
    record { count = pos count; currency = codes "USD"; small = is_small (pos count) few }

abbrev lot : Cost → Day → Lot
lot cost day = record { cost = cost; day = day; label = None }

abbrev first : Lot
first = lot (usd 100 few_100) january_2

abbrev second : Lot
second = lot (usd 110 few_110) january_3

abbrev inv : List ℕ
inv = codes "Assets:Inv"

abbrev cash : List ℕ
cash = codes "Assets:Cash"

abbrev of_lot : Lot → Amount → Posted
of_lot l units = record { account = inv; units = units; lot = Some l; written = 0 }

abbrev position : Lot → ℤ → Position
position l count =
    record { key = record { currency = codes "HOOL"; lot = Some l }; count = count }

-- 10 at 100 USD, and 5 at 110 USD
abbrev bought : List Posted
bought = of_lot first (shares (pos 10) few_10) ∷ of_lot second (shares (pos 5) few_5) ∷ []

-- what is held
in_order_of_entry : held inv bought ≡ position first (pos 10) ∷ position second (pos 5) ∷ []
in_order_of_entry = refl

of_another_account : held cash bought ≡ []
of_another_account = refl

-- what is left
less_the_own_takes :
    left inv bought (line.Take (of_lot first (shares (negsuc 9) few_10)) ∷ [])
    ≡ position second (pos 5) ∷ []
less_the_own_takes = rw january_2_number refl

without_the_own_additions :
    left inv [] (line.Posted (of_lot first (shares (pos 10) few_10)) ∷ []) ≡ []
without_the_own_additions = refl

-- whether units in braces are a reduction
of_the_opposite_sign :
    is_reduction method.Fifo (held inv bought) (shares (negsuc 1) few_2) ≡ true
of_the_opposite_sign = refl

of_the_same_sign : is_reduction method.Fifo (held inv bought) (shares (pos 2) few_2) ≡ false
of_the_same_sign = refl

of_nothing : is_reduction method.Fifo (held inv bought) (shares (pos 0) few_0) ≡ false
of_nothing = refl

never_under_none :
    is_reduction method.None (held inv bought) (shares (negsuc 1) few_2) ≡ false
never_under_none = refl

-- what lines are booked as
abbrev fill : ℕ → Fill
fill leg = record { leg = leg; amount = shares (pos 2) few_2 }

abbrev filled : ℕ → Posted
filled i = record { account = cash; units = shares (pos 2) few_2; lot = None; written = i }

where_they_lack :
    completed (fill 0 ∷ fill 2 ∷ [])
    (line.MissingAmount cash 0
    ∷ line.Take (of_lot first (shares (negsuc 1) few_2))
    ∷ line.MissingNumber cash (codes "HOOL") 2 ∷ [])
    ≡ filled 0 ∷ of_lot first (shares (negsuc 1) few_2) ∷ filled 2 ∷ []
where_they_lack = refl
