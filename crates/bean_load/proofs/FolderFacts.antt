-- Folders of names.
use Rattle.std.proofs.Common.{◌≡◌, ℕ, suc, ◌<◌, ◌||◌, Bool, true, false, eqb-true, List, [], ◌∷◌}
use Rattle.std.proofs.Common.{◌++◌, length, get_or, refl, ap, ◌∙◌, arith, if◌then◌else◌}
use Rattle.bean_load.specs.Include.{folder, has_slash, is_slash}

abbrev Lacks : List ℕ → Type 0
Lacks bs = (i : ℕ) → i < length bs → get_or bs i 0 ≡ 47 → ⊥

or_true : (b : Bool) → (b || true) ≡ true
or_true true = refl
or_true false = refl

not_slash : (b : ℕ) → (b ≡ 47 → ⊥) → is_slash b ≡ false
not_slash b other = by (is_slash b) refl
  where
    by : (t : Bool) → is_slash b ≡ t → is_slash b ≡ false
    by true is = absurd (other (eqb-true b 47 is))
    by false is = is

no_slash : (bs : List ℕ) → Lacks bs → has_slash bs ≡ false
no_slash [] lacks = refl
no_slash (b ∷ bs) lacks =
    ap (λ t. t || has_slash bs) (not_slash b (lacks 0 (omega arith)))
    ∙ no_slash bs (λ i l. lacks (suc i) (omega arith))

slash_behind : (before behind : List ℕ) → has_slash (before ++ (47 ∷ behind)) ≡ true
slash_behind [] behind = refl
slash_behind (b ∷ bs) behind =
    ap (λ t. is_slash b || t) (slash_behind bs behind) ∙ or_true (is_slash b)

pub no_folder : (name : List ℕ) → Lacks name → folder name ≡ []
no_folder [] lacks = refl
no_folder (b ∷ bs) lacks = ap (λ t. if t then b ∷ folder bs else []) (no_slash (b ∷ bs) lacks)

pub folder_split : (before behind : List ℕ)
    → folder (before ++ (47 ∷ behind)) ≡ before ++ (47 ∷ folder behind)
folder_split [] behind = refl
folder_split (b ∷ bs) behind =
    ap (λ t. if t then b ∷ folder (bs ++ (47 ∷ behind)) else []) (slash_behind (b ∷ bs) behind)
    ∙ ap (λ rest. b ∷ rest) (folder_split bs behind)
