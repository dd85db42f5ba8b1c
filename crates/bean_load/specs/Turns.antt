-- Turns of directives as small numbers.
use Rattle.std.specs.Prelude.{◌≡◌, ℕ, ℤ, ◌+◌, ◌*◌, ◌<◌, ◌+ℤ◌, pos, List, get_or, length}
use Rattle.std.specs.Prelude.{true}
use Rattle.bean_directives.specs.declared.directive.Directive.{Directive}
use Rattle.bean_load.specs.Order.{turn_of}
use Rattle.bean_load.specs.declared.order.Codes.{Codes}
use Rattle.bean_load.specs.declared.order.TheConstants.{BEFORE, PARTS}
use Rattle.bean_loaded.specs.declared.placed.Placed.{Placed}

-- one number for a turn and a part, which has room behind it
pub record IsCode (turn : ℤ × ℕ) (code : ℕ) : Type 0 where
  pub above : ℕ
  pub is_above : pos above ≡ turn.0 +ℤ BEFORE
  pub within : turn.1 < PARTS
  pub is : code ≡ above * PARTS + turn.1

-- each directive has its code
pub record AreCodes (ds : List (Placed Directive)) (codes : List ℕ) : Type 0 where
  pub count : length codes ≡ length ds
  pub each : (n : ℕ) (d : Placed Directive) → n < length ds
      → IsCode (turn_of (get_or ds n d)) (get_or codes n 0)

-- each directive has its code, where all have one
abbrev pub AreCodesIf : List (Placed Directive) → Codes → Type 0
AreCodesIf ds c = c.are_all ≡ true → AreCodes ds c.codes.items
