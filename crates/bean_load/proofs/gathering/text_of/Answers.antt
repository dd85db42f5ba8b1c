use Rattle.std.proofs.Common.{◌≡◌, ℕ, Bool, true, false, List, refl, ap, subst}
use Rattle.std.proofs.Props.{props}
use Rattle.std.specs.Str.{IsUtf8, is_utf8}
use Rattle.std.specs.String.{string_bytes}
use Rattle.std.proofs.Math.Logic.{∥∥₁_elim}
use Rattle.std.proofs.lemmas.Bool.{false≢true}
use Rattle.std.proofs.lemmas.Str.{IsUtf8-from_is_utf8, is_utf8-from_IsUtf8}
use Rattle.bean_load.proofs.gathering.text_of.Goals as goal

bool_set : IsSet Bool
bool_set = hlevel props

no_text : (bytes : List ℕ) → (IsUtf8 bytes → ⊥) → is_utf8 bytes ≡ false
no_text bytes none = by (is_utf8 bytes) refl
  where
    by : (b : Bool) → is_utf8 bytes ≡ b → is_utf8 bytes ≡ false
    by true is = absurd (none (IsUtf8-from_is_utf8 bytes is))
    by false is = is

pub returns-in-Ok : goal.returns-in-Ok
returns-in-Ok c =
    let is = ap (λ v. v.items) c.in-Ok.ensures.ok in (
      is,
      subst (λ bs. is_utf8 bs
          ≡ true) is
          (∥∥₁_elim c.in-Ok.text.ok (bool_set (is_utf8 (string_bytes c.in-Ok.text)) true)
          (λ utf8. is_utf8-from_IsUtf8 (string_bytes c.in-Ok.text) utf8)),
    )

pub returns : goal.returns
returns c = no_text c.args.bytes.items (λ utf8. false≢true (c.in-Err.ensures.succeeds utf8))
