-- The table of signs, once the lots of a currency are counted anew.
use Rattle.std.proofs.Common.{◌≡◌, ◌+◌, ◌&&◌, ℕ, ℤ, Bool, true, false, cond, List, Option, Some}
use Rattle.std.proofs.Common.{unwrap_or, refl, sym, ap, true≢false, arith}
use Rattle.std.specs.Map.{lookup}
use Rattle.bean_inventories.specs.Signs.{no_signs, same_currency, signs_at}
use Rattle.bean_inventories.specs.declared.inventory.signs.SignTable.{SignTable}
use Rattle.bean_inventories.specs.declared.inventory.signs.Signs.{Signs}

pub put_or_before : (b : Bool) (new none : Signs) (before : Option Signs)
    → unwrap_or (cond b (Some new) before) none ≡ cond b new (unwrap_or before none)
put_or_before true new none before = refl
put_or_before false new none before = refl

-- a lot of the currency that is counted anew changes the count of that currency alone
pub recounted : (f : ℤ → ℕ) (g : Signs → ℕ) (b lot : Bool) (m n : ℤ) (own old new now : Signs)
    → lot ≡ true → (b ≡ true → own ≡ old) → now ≡ cond b new old → g new + f m ≡ g own + f n
    → g now + cond (b && lot) (f m) 0 ≡ g old + cond (b && lot) (f n) 0
recounted f g true true m n own old new now l same at changed =
    let one = ap g (same refl) in
    let is = ap g at in
    omega (arith, is, changed, one)
recounted f g false true m n own old new now l same at changed =
    let is = ap g at in omega (arith, is)
recounted f g b false m n own old new now l same at changed = absurd (true≢false (sym l))

pub same_entries : (s t : SignTable) → t.by_currency.entries ≡ s.by_currency.entries
    → (c : List ℕ) → signs_at t c ≡ signs_at s c
same_entries s t same c =
    ap (λ l. unwrap_or (lookup (same_currency (record { currency = c })) l) no_signs) same
