use Rattle.std.proofs.Common.{◌≡◌, ◌≤◌, ℕ, List, Bool, true, false, cond, max, refl}
use Rattle.std.proofs.Common.{ap, subst, unwrap_or, ◌∙◌, arith}
use Rattle.std.proofs.lemmas.Result.{on_ok_weaker}
use Rattle.std.proofs.lemmas.Slice.Eq.{bytes_eq-Decides}
use Rattle.std.specs.Str.{bytes_eq}
use Rattle.posting_table.specs.Decimals.{Decimals, decimals_of}
use Rattle.posting_table.specs.Ledger.{Ledger}
use Rattle.posting_table.proofs.DecimalsFacts.{decimals_of-insert}
use Rattle.bean_book.proofs.decimals.note_places.Goals as goal
use Rattle.bean_book.proofs.decimals.note_places.Goals.{in_default-via-in-Some+else-places-shown}
use Rattle.bean_book.proofs.decimals.note_places.Goals.{in_default-via-in_default}

-- a count no less than what a currency shows is the greater of both
noted : (d : Decimals) (c : List ℕ) (n : ℕ) → decimals_of d c ≤ n → (name : List ℕ)
    → cond (bytes_eq c name) n (decimals_of d name)
    ≡ cond (bytes_eq c name) (max (decimals_of d name) n) (decimals_of d name)
noted d c n more name = by (bytes_eq c name) refl
  where
    by : (b : Bool) → bytes_eq c name ≡ b
        → cond b n (decimals_of d name) ≡ cond b (max (decimals_of d name) n) (decimals_of d name)
    by true is = let same =
        subst (λ m. decimals_of d m ≤ n) ((bytes_eq-Decides c name).0 is) more in
        omega (arith, same)
    by false is = refl

pub returns-in_default-clause-decimals : goal.returns-in_default-clause-decimals
returns-in_default-clause-decimals c =
    let old = c.args.ledger.now.decimals in
    let currency = c.args.currency in
    let places = c.args.places in
    let more : decimals_of old currency ≤ places =
    elim c.in_default.branch [
      | in_default-via-in-Some+else-places-shown w ↦
          let shown : w.in-Some.shown ≡ decimals_of old currency =
          ap (λ o. unwrap_or o 0) w.in-Some.ensures ∙ ap (λ d. decimals_of d currency) c.display.ensures in
          omega (arith, shown, w.if-places-shown.false)
      | in_default-via-in_default w ↦
          let none : 0 ≡ decimals_of old currency =
          ap (λ o. unwrap_or o 0) w.in_default.ensures ∙ ap (λ d. decimals_of d currency) c.display.ensures in
          omega (arith, none)
    ] in
    on_ok_weaker c.set_display.result
    (λ set name.
    ap (λ (l : Ledger). decimals_of l.decimals name) set
    ∙ decimals_of-insert old currency places name
    ∙ noted old currency places more name)
    c.set_display.ensures.set
