-- The padding of a difference.
use Rattle.std.proofs.Common.{◌≡◌, ℤ, Bool, true, false, arith, ap, refl}
use Rattle.std.proofs.lemmas.Grind.{common_steps}
use Rattle.bean_base.proofs.NumFacts.{one_num}
use Rattle.bean_base.specs.Decimal.{IsLedger}
use Rattle.bean_base.specs.declared.num.Num.{Num}
use Rattle.bean_pad.specs.Outcome.{is_narrow, padding_of, padding_where, is_ledger}
use Rattle.bean_pad.specs.declared.note.Outcome.TheVariants.{Padding, TooWide}

made_where : (n : Num) (d : ℤ) (b : Bool) (is : is_narrow d ≡ b) → n.count ≡ d → n.places ≡ 8
    → Padding n ≡ padding_where d b is
made_where n d true is count places = ap Padding (one_num n _ count places)
made_where n d false is count places = let small = n.small in absurd (grind (arith, common_steps))

pub made : (n : Num) (d : ℤ) → n.count ≡ d → n.places ≡ 8 → Padding n ≡ padding_of d
made n d = made_where n d (is_narrow d) refl

missing_where : (d : ℤ) (b : Bool) (is : is_narrow d ≡ b) → ¬ IsLedger d 8
    → TooWide ≡ padding_where d b is
missing_where d true is none = absurd (none (is_ledger d is))
missing_where d false is none = refl

pub missing : (d : ℤ) → ¬ IsLedger d 8 → TooWide ≡ padding_of d
missing d = missing_where d (is_narrow d) refl
