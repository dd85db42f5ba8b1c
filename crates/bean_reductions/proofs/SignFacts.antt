-- Whether some lot has the sign opposite to a want, by how many lots have each sign.
use Rattle.std.proofs.Common.{◌≡◌, ◌+◌, nat_lt, ℕ, ℤ, pos, Bool, true, false, cond, ◌&&◌, ◌||◌, List, []}
use Rattle.std.proofs.Common.{◌∷◌, refl, ap, ◌∙◌, arith}
use Rattle.std.specs.Int.Signed.{lt_z}
use Rattle.std.specs.Option.{is_some}
use Rattle.std.proofs.lemmas.Bool.Decides.{nat_tests}
use Rattle.std.proofs.lemmas.Int.{ints}
use Rattle.bean_lots.specs.Inventory.{is_opposite, long_lots, short_lots}
use Rattle.bean_lots.specs.Lot.{same_text}
use Rattle.bean_inventories.specs.Signs.{against}
use Rattle.bean_lots.specs.declared.lot.Position.{Position}
use Rattle.bean_reductions.specs.After.{has_opposite}

long_only : (want n : ℤ) → lt_z want (pos 0) ≡ true → is_opposite want n ≡ lt_z (pos 0) n
long_only want n h = grind (arith, ints)

short_only : (want n : ℤ) → lt_z (pos 0) want ≡ true → is_opposite want n ≡ lt_z n (pos 0)
short_only want n h = grind (arith, ints)

neither : (want n : ℤ) → lt_z want (pos 0) ≡ false → lt_z (pos 0) want ≡ false
    → is_opposite want n ≡ false
neither want n h k = grind (arith, ints)

one_more : (same lot sign : Bool) (all : ℕ) (others : Bool) → others ≡ nat_lt 0 all
    → ((same && (lot && sign)) || others) ≡ nat_lt 0 (cond (same && lot) (cond sign 1 0) 0 + all)
one_more true true true all others h = grind (arith, nat_tests)
one_more true true false all others h =
    let none : all ≡ 0 + all = omega arith in h ∙ ap (nat_lt 0) none
one_more true false sign all others h =
    let none : all ≡ 0 + all = omega arith in h ∙ ap (nat_lt 0) none
one_more false lot sign all others h =
    let none : all ≡ 0 + all = omega arith in h ∙ ap (nat_lt 0) none

-- selling takes of lots above 0
sold : (c : List ℕ) (w : ℤ) (es : List Position) → lt_z w (pos 0) ≡ true
    → has_opposite c w es ≡ nat_lt 0 (long_lots c es)
sold c w [] h = refl
sold c w (e ∷ es) h =
    ap (λ b. (same_text e.key.currency c && (is_some e.key.lot && b)) || has_opposite c w es)
    (long_only w e.count h)
    ∙ one_more (same_text e.key.currency c) (is_some e.key.lot) (lt_z (pos 0) e.count)
    (long_lots c es) (has_opposite c w es) (sold c w es h)

-- buying takes of lots below
bought : (c : List ℕ) (w : ℤ) (es : List Position) → lt_z (pos 0) w ≡ true
    → has_opposite c w es ≡ nat_lt 0 (short_lots c es)
bought c w [] h = refl
bought c w (e ∷ es) h =
    ap (λ b. (same_text e.key.currency c && (is_some e.key.lot && b)) || has_opposite c w es)
    (short_only w e.count h)
    ∙ one_more (same_text e.key.currency c) (is_some e.key.lot) (lt_z e.count (pos 0))
    (short_lots c es) (has_opposite c w es) (bought c w es h)

no_more : (same lot others : Bool) → others ≡ false → ((same && (lot && false)) || others) ≡ false
no_more true true others h = h
no_more true false others h = h
no_more false lot others h = h

unwanted : (c : List ℕ) (w : ℤ) (es : List Position) → lt_z w (pos 0) ≡ false
    → lt_z (pos 0) w ≡ false → has_opposite c w es ≡ false
unwanted c w [] h k = refl
unwanted c w (e ∷ es) h k =
    ap (λ b. (same_text e.key.currency c && (is_some e.key.lot && b)) || has_opposite c w es)
    (neither w e.count h k)
    ∙ no_more (same_text e.key.currency c) (is_some e.key.lot) (has_opposite c w es)
    (unwanted c w es h k)

-- so the lots of each sign tell
pub counted : (c : List ℕ) (w : ℤ) (es : List Position)
    → has_opposite c w es ≡ nat_lt 0 (against w (long_lots c es) (short_lots c es))
counted c w es = by (lt_z w (pos 0)) refl (lt_z (pos 0) w) refl
  where
    by : (a : Bool) → lt_z w (pos 0) ≡ a → (b : Bool) → lt_z (pos 0) w ≡ b
        → has_opposite c w es
        ≡ nat_lt 0 (cond a (long_lots c es) (cond b (short_lots c es) 0))
    by true h b k = sold c w es h
    by false h true k = bought c w es k
    by false h false k = unwanted c w es h k
