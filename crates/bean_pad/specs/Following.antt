-- What is kept while the steps of a ledger are gone through.
use Rattle.std.specs.Prelude.{◌≡◌, ℕ, ◌*◌, ◌≤◌, ◌^◌, List, [], ◌∷◌, Option, None, Some, length}
use Rattle.std.specs.Prelude.{nat_lt, reverse, if◌then◌else◌}
use Rattle.std.specs.Int.RustNames.{unsigned_abs}
use Rattle.std.specs.Str.{bytes_eq}
use Rattle.bean_pad.specs.Held.{written}
use Rattle.bean_pad.specs.Note.{IsBelow, is_on, noted_pads, padded, pads_in}
use Rattle.bean_pad.specs.Sums.{AreSmall, Holds, number_at, padded_at, pads_at}
use Rattle.bean_pad.specs.Trail.{AreNear, notes_in, trail_of}
use Rattle.bean_pad.specs.declared.padder.Padder.{Padder}
use Rattle.bean_pad.specs.declared.step.Step.{Step}
use Rattle.bean_pad.specs.declared.step.Step.TheVariants as step

-- the number of the latest pad on the account
abbrev pub latest_pad : List Step → List ℕ → Option ℕ
latest_pad [] account = None
latest_pad (step.Posting p u ∷ past) account = latest_pad past account
latest_pad (step.Pad p day at ∷ past) account =
    if bytes_eq p.account account then Some (pads_in past) else latest_pad past account
latest_pad (step.Balance b at cost ∷ past) account = latest_pad past account

-- how many pads stand before the latest balance on the account in the currency
abbrev pub pads_before : List Step → List ℕ → List ℕ → ℕ
pads_before [] account currency = 0
pads_before (step.Posting p u ∷ past) account currency = pads_before past account currency
pads_before (step.Pad p day at ∷ past) account currency = pads_before past account currency
pads_before (step.Balance b at cost ∷ past) account currency =
    if is_on account currency b then pads_in past else pads_before past account currency

-- a pad, unless it stands before the latest balance
abbrev pub unless_used : Option ℕ → ℕ → Option ℕ
unless_used None before = None
unless_used (Some pad) before = if nat_lt pad before then None else Some pad

-- it follows these steps, the latest of which stands first
pub record Follows (past : List Step) (p : Padder) : Type 0 where
  pub sums : Holds (written past) p.written
  pub paddings : (a c : List ℕ) → padded_at p.balanced a c ≡ padded past a c
  pub before : (a c : List ℕ) → pads_at p.balanced a c ≡ pads_before past a c
  pub numbers : (a : List ℕ) → number_at p.latest a ≡ latest_pad past a
  pub pads : p.pads.items ≡ noted_pads past
  pub count : length p.pads.items ≡ pads_in past
  pub trail : p.trail.items ≡ reverse (trail_of past)
  pub steps : p.steps ≡ length past

-- how many steps it followed
abbrev pub steps_in : Padder → ℕ
steps_in p = p.steps

-- so many steps, each of a number of a ledger, can't have made a sum greater
pub record IsBounded (p : Padder) : Type 0 where
  pub additions : p.written.additions ≤ p.steps
  pub sums : AreSmall p.written
  pub paddings : (a c : List ℕ) → unsigned_abs (padded_at p.balanced a c) ≤ p.steps * 10 ^ 20
  pub numbers : (a : List ℕ) → IsBelow (length p.pads.items) (number_at p.latest a)
  pub notes : notes_in p.pads.items ≤ p.steps
  pub trail : AreNear p.trail.items
  pub passed : length p.trail.items ≤ p.steps
