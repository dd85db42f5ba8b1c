-- A table of currencies, once one more is in it.
use Rattle.std.proofs.Common.{◌≡◌, ◌<◌, ◌+◌, ◌||◌, ℕ, Bool, true, false, cond, List, length, take, get_or}
use Rattle.std.proofs.Common.{refl, sym, ◌∙◌}
use Rattle.std.specs.Str.{bytes_eq}
use Rattle.std.proofs.lemmas.List.Folds.{list_any_more}
use Rattle.bean_accounts.specs.Currencies.{is_listed}

turned : (b x : Bool) → cond b true x ≡ (x || b)
turned true true = refl
turned true false = refl
turned false true = refl
turned false false = refl

pub one_more : (cs : List (List ℕ)) (i : ℕ) (k c : List ℕ) (before after : Bool) → i < length cs
    → k ≡ get_or cs i k → after ≡ cond (bytes_eq k c) true before
    → before ≡ is_listed (take i cs) c → after ≡ is_listed (take (i + 1) cs) c
one_more cs i k c before after inside at put told =
    put ∙ turned (bytes_eq k c) before ∙ (λ j. told j || bytes_eq (at j) c)
    ∙ sym (list_any_more (λ listed. bytes_eq listed c) cs i k inside)
