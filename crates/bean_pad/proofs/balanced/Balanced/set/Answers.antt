use Rattle.std.proofs.Common.{◌≡◌, ◌&&◌, ℕ, List, Bool, true, false, cond, refl, ap, ◌∙◌, Option}
use Rattle.std.proofs.Common.{Some, pos, unwrap_or}
use Rattle.std.specs.Option.{option_map}
use Rattle.std.specs.Str.{bytes_eq}
use Rattle.bean_pad.specs.declared.balanced.Seen.{Seen}
use Rattle.bean_pad.proofs.balanced.Balanced.set.Goals as goal

set_or_before : {X : Type 0} (f : Seen → X) (b : Bool) (seen : Seen) (before : Option Seen) (x : X)
    → unwrap_or (option_map f (cond b (Some seen) before)) x
    ≡ cond b (f seen) (unwrap_or (option_map f before) x)
set_or_before f true seen before x = refl
set_or_before f false seen before x = refl

set_at : {X : Type 0} (f : Seen
    → X) (k l x y v w : List ℕ) (seen : Seen) (before : Option Seen) (z : X) → k ≡ x → l ≡ y
    → unwrap_or (option_map f (cond (bytes_eq k v && bytes_eq l w) (Some seen) before)) z
    ≡ cond (bytes_eq x v && bytes_eq y w) (f seen) (unwrap_or (option_map f before) z)
set_at f k l x y v w seen before z p q =
    rw (p, q) (set_or_before f (bytes_eq x v && bytes_eq y w) seen before z)

pub returns-clause-padded : goal.returns-clause-padded
returns-clause-padded c = λ a d.
    ap (λ o. unwrap_or (option_map (λ s. s.padded) o) (pos 0))
    (c.in_ok-insert.ensures.updates.0 (record { account = a; currency = d }))
    ∙ set_at (λ s. s.padded) _ _ _ _ a d c.args.seen _ (pos 0)
    (c.new.ensures.account ∙ c.text.ensures.text) c.new.ensures.currency

pub returns-clause-pads : goal.returns-clause-pads
returns-clause-pads c = λ a d.
    ap (λ o. unwrap_or (option_map (λ s. s.pads) o) 0)
    (c.in_ok-insert.ensures.updates.0 (record { account = a; currency = d }))
    ∙ set_at (λ s. s.pads) _ _ _ _ a d c.args.seen _ 0 (c.new.ensures.account ∙ c.text.ensures.text)
    c.new.ensures.currency
