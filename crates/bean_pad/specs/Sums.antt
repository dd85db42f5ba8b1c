-- What is kept by account and currency.
use Rattle.std.specs.Prelude.{◌≡◌, ℕ, ◌*◌, ◌≤◌, ◌^◌, ℤ, pos, ◌&&◌, Bool, List}
use Rattle.std.specs.Prelude.{unwrap_or, Option}
use Rattle.std.specs.Int.RustNames.{unsigned_abs}
use Rattle.std.specs.Option.{option_map}
use Rattle.std.specs.Str.{bytes_eq}
use Rattle.indexmap.specs.IndexMap.{get}
use Rattle.bean_pad.specs.Held.{Units, held}
use Rattle.bean_pad.specs.declared.balanced.Balanced.{Balanced}
use Rattle.bean_pad.specs.declared.balanced.Latest.{Latest}
use Rattle.bean_pad.specs.declared.balanced.Seen.{Seen}
use Rattle.bean_pad.specs.declared.slot.Slot.{Slot}
use Rattle.bean_pad.specs.Table.{entry_at}
use Rattle.bean_pad.specs.declared.sums.Sums.{Sums}

abbrev pub same_slot : Slot → Slot → Bool
same_slot a b = bytes_eq a.account b.account && bytes_eq a.currency b.currency

-- ---- sums

abbrev pub sum_at : Sums → List ℕ → List ℕ → ℤ
sum_at s account currency = entry_at s.table account currency

-- so many additions can't have made a sum greater
abbrev pub AreSmall : Sums → Type 0
AreSmall s = (account currency : List ℕ)
    → unsigned_abs (sum_at s account currency) ≤ s.additions * 10 ^ 20

-- each sum is what these units come to
pub record Holds (us : List Units) (s : Sums) : Type 0 where
  pub sums : (account currency : List ℕ) → sum_at s account currency ≡ held us account currency

-- ---- balances and pads

abbrev pub seen_at : Balanced → List ℕ → List ℕ → Option Seen
seen_at b account currency =
    get same_slot b.by_slot (record { account = account; currency = currency })

-- what was padded on an account
abbrev pub padded_at : Balanced → List ℕ → List ℕ → ℤ
padded_at b account currency =
    unwrap_or (option_map (λ s. s.padded) (seen_at b account currency)) (pos 0)

-- how many pads stand before its latest balance
abbrev pub pads_at : Balanced → List ℕ → List ℕ → ℕ
pads_at b account currency = unwrap_or (option_map (λ s. s.pads) (seen_at b account currency)) 0

-- the number of its latest pad
abbrev pub number_at : Latest → List ℕ → Option ℕ
number_at l account = get bytes_eq l.numbers account
