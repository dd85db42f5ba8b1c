use Rattle.std.proofs.Common.{◌≡◌, ℕ, ◌+◌, ◌||◌, Bool, true, false, List, [], ◌∷◌, cond, count_by}
use Rattle.std.proofs.Common.{refl, rules, sym, ◌∙◌}
use Rattle.std.specs.List.{fold, list_any}
use Rattle.bean_lexer.proofs.found.line_feeds.Goals as goal

none_more : (p : ℕ → Bool) (bs : List ℕ) (first : Bool) → (first || list_any p bs) ≡ false
    → (list_any p bs ≡ false → 0 ≡ count_by p bs)
    → 0 ≡ fold (λ n b. n + cond (p b) 1 0) (0 + cond first 1 0) bs
none_more p bs true none rest = absurd (search (rules, none))
none_more p bs false none rest = rest none

none_counted : (p : ℕ → Bool) (bs : List ℕ) → list_any p bs ≡ false → 0 ≡ count_by p bs
none_counted p [] none = refl
none_counted p (b ∷ bs) none = none_more p bs (p b) none (none_counted p bs)

pub returns-then-not-contains : goal.returns-then-not-contains
returns-then-not-contains c =
    none_counted _ c.args.bytes.now (sym c.contains.ensures.value ∙ c.if-not-contains.true)
