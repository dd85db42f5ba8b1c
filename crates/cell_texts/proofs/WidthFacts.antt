-- How wide entries are that are held without a lot: as wide in any order.
use Rattle.std.proofs.Common.{◌≡◌, ℕ, ◌+◌, ◌-◌, Bool, true, false, cond, List, [], ◌∷◌, ◌++◌, map}
use Rattle.std.proofs.Common.{length, length-append, Option, Some, None, is_some, option_map}
use Rattle.std.proofs.Common.{refl, subst, sym, ap, ◌∙◌, arith, true≢false}
use Rattle.std.specs.List.{AllByRecursion, flat_map}
use Rattle.bean_lots.specs.declared.lot.Position.{Position}
use Rattle.number_texts.proofs.PrintableFacts.{Printable, both}
use Rattle.theory.specs.Arrangement.{put_by}
use Rattle.query_holdings.specs.Entries.{comes_before, in_order}
use Rattle.cell_texts.specs.CellText.{between_entries, entries_text, held_text}
use Rattle.cell_texts.specs.CellText.{text_of_entry, units_text}
use Rattle.cell_texts.specs.Width.{text_width}
use Rattle.cell_texts.proofs.Printable.{width_printable}

-- what stands for none is none
pub none_for : {A B : Type 0} (f : A → B) (o : Option A) → is_some o ≡ false
    → option_map f o ≡ None
none_for f None h = refl
none_for f (Some x) h = absurd (true≢false h)

-- held without a lot, and its text shows as it is
pub record IsBare (display : List ℕ → ℕ) (places : ℕ) (e : Position) : Type 0 where
  pub bare : e.key.lot ≡ None
  pub shown : Printable (units_text display e.count places e.key.currency)

module _ (display : List ℕ → ℕ) (places : ℕ) where
  abbrev units_of : Position → List ℕ
  units_of e = units_text display e.count places e.key.currency

  abbrev pub AreBare : List Position → Type 0
  AreBare es = AllByRecursion (IsBare display places) es

  -- how long its text is, and what stands behind it
  abbrev pub own_width : Position → ℕ
  own_width e = length (units_text display e.count places e.key.currency) + 2

  abbrev pub widths : List Position → ℕ
  widths [] = 0
  widths (e ∷ es) = own_width e + widths es

  is_units : (e : Position) → IsBare display places e → text_of_entry display places e ≡ units_of e
  is_units e h = ap (held_text display (units_of e)) h.bare

  abbrev behind : List Position → List ℕ
  behind es = flat_map (λ y. between_entries ++ y) (map (text_of_entry display places) es)

  behind_width : (es : List Position) → AreBare es → length (behind es) ≡ widths es
  behind_width [] h = refl
  behind_width (e ∷ es) h =
      let text = text_of_entry display places e in
      let parts = length-append (between_entries ++ text) (behind es) in
      let own = length-append between_entries text in
      let gap : length between_entries ≡ 2 = refl in
      let same = ap length (is_units e h.0) in
      let rest = behind_width es h.1 in
      omega (arith, parts, own, gap, same, rest)

  behind_shown : (es : List Position) → AreBare es → Printable (behind es)
  behind_shown [] h = refl
  behind_shown (e ∷ es) h =
      let text = text_of_entry display places e in
      both (between_entries ++ text) (behind es)
      (both between_entries text refl (subst Printable (sym (is_units e h.0)) h.0.shown))
      (behind_shown es h.1)

  entries_width : (es : List Position) → AreBare es
      → length (entries_text display places es) ≡ widths es - 2
  entries_width [] h = refl
  entries_width (e ∷ es) h =
      let parts = length-append (text_of_entry display places e) (behind es) in
      let same = ap length (is_units e h.0) in
      let rest = behind_width es h.1 in
      omega (arith, parts, same, rest)

  entries_shown : (es : List Position) → AreBare es → Printable (entries_text display places es)
  entries_shown [] h = refl
  entries_shown (e ∷ es) h =
      both (text_of_entry display places e) (behind es)
      (subst Printable (sym (is_units e h.0)) h.0.shown) (behind_shown es h.1)

  put_width : (e : Position) (es : List Position)
      → widths (put_by comes_before e es) ≡ own_width e + widths es
  put_width e [] = refl
  put_width e (y ∷ ys) = by (comes_before y e) (put_width e ys)
    where
      by : (b : Bool) → widths (put_by comes_before e ys) ≡ own_width e + widths ys
          → widths (cond b (y ∷ put_by comes_before e ys) (e ∷ y ∷ ys))
          ≡ own_width e + (own_width y + widths ys)
      by true rest = omega (arith, rest)
      by false rest = refl

  put_bare : (e : Position) (es : List Position) → IsBare display places e → AreBare es
      → AreBare (put_by comes_before e es)
  put_bare e [] own h = (own, tt)
  put_bare e (y ∷ ys) own h = by (comes_before y e) (put_bare e ys own h.1)
    where
      by : (b : Bool) → AreBare (put_by comes_before e ys) → AreBare (cond b (y ∷ put_by comes_before e ys) (e ∷ y ∷ ys))
      by true rest = (h.0, rest)
      by false rest = (own, h)

  order_width : (es : List Position) → widths (in_order es) ≡ widths es
  order_width [] = refl
  order_width (e ∷ es) =
      put_width e (in_order es) ∙ ap (λ n. own_width e + n) (order_width es)

  order_bare : (es : List Position) → AreBare es → AreBare (in_order es)
  order_bare [] h = tt
  order_bare (e ∷ es) h = put_bare e (in_order es) h.0 (order_bare es h.1)

  pub width_in_order : (es : List Position) → AreBare es
      → text_width (entries_text display places (in_order es)) ≡ widths es - 2
  width_in_order es h =
      width_printable (entries_text display places (in_order es))
      (entries_shown (in_order es) (order_bare es h))
      ∙ entries_width (in_order es) (order_bare es h)
      ∙ ap (λ n. n - 2) (order_width es)
