-- What comes of a balance that is out of tolerance where a pad waits for it.
use Rattle.std.specs.Prelude.{◌≡◌, ◌<◌, ◌^◌, ℤ, pos, Bool, true, false, nat_lt, refl, if◌then◌else◌}
use Rattle.std.specs.Int.RustNames.{unsigned_abs}
use Rattle.std.proofs.Common.{arith}
use Rattle.std.proofs.lemmas.Grind.{common_steps}
use Rattle.bean_base.specs.Decimal.{IsLedger}
use Rattle.bean_base.specs.Counts.{at_8}
use Rattle.bean_pad.specs.declared.note.Outcome.{Outcome}
use Rattle.bean_pad.specs.declared.note.Outcome.TheVariants.{Padding, AtCost, TooWide}

-- at most 12 whole digits
abbrev pub is_narrow : ℤ → Bool
is_narrow count = nat_lt (unsigned_abs count) (10 ^ 20)

pub is_small : (count : ℤ) → is_narrow count ≡ true → unsigned_abs count < 10 ^ 20
is_small count is = grind (arith, common_steps)

pub is_ledger : (count : ℤ) → is_narrow count ≡ true → IsLedger count 8
is_ledger count is = (omega arith, is_small count is)

abbrev pub padding_where : (count : ℤ) (b : Bool) → is_narrow count ≡ b → Outcome
padding_where count true is =
    Padding (record {
      count = count;
      places = 8;
      in_range = is_ledger count is;
      small =
          is_small count is;
    })
padding_where count false is = TooWide

-- the difference where it is a number of a ledger
abbrev pub padding_of : ℤ → Outcome
padding_of difference = padding_where difference (is_narrow difference) refl

-- nothing is inserted where the account holds a lot of the currency
abbrev pub outcome_of : ℤ → Bool → Outcome
outcome_of difference is_at_cost = if is_at_cost then AtCost else padding_of difference

-- what is added to the account
abbrev pub count_in : Outcome → ℤ
count_in (Padding n) = at_8 n
count_in AtCost = pos 0
count_in TooWide = pos 0
