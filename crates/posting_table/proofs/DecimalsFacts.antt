-- What a map of entries has at a name.
use Rattle.std.proofs.Common.{◌≡◌, ℕ, Bool, true, false, cond, List, [], ◌∷◌, Option, Some, refl}
use Rattle.std.proofs.Common.{unwrap_or, is_some, None, true≢false, sym, ap, ◌∙◌, nat_eq}
use Rattle.std.specs.Cmp.{eq_by_cmp_equiv}
use Rattle.std.specs.Cmp.Lexicographic.{pointwise, slice_cmp, texts_ties, nat_list_cmp_total}
use Rattle.std.specs.Cmp.Lexicographic.{same_text}
use Rattle.std.specs.FinMap.{get, insert, from_entries, find, get-from_entries, get-insert}
use Rattle.std.specs.FinMap.{same_map, slice_cmp-IsAntisymmetric, nat_cmp-IsAntisymmetric}
use Rattle.std.specs.Map.{lookup}
use Rattle.std.specs.Ordering.{nat_cmp}
use Rattle.posting_table.specs.Decimals.{Decimals, decimals_of}

-- the entry that a name ties with is that which it equals
found : (name : List ℕ) (es : List (List ℕ × ℕ))
    → find (slice_cmp nat_cmp) name es ≡ lookup (pointwise nat_eq name) es
found name [] = refl
found name (e ∷ es) = λ k. cond (sym (texts_ties name e.0) k) (Some e.1) (found name es k)

pub got : (name : List ℕ) (es : List (List ℕ × ℕ))
    → get (from_entries {R = slice_cmp nat_cmp} es) name ≡ lookup (pointwise nat_eq name) es
got name es = get-from_entries nat_list_cmp_total es name ∙ found name es

-- where nothing is found
pub none_found : (o : Option ℕ) → false ≡ is_some o → None ≡ o
none_found None h = refl
none_found (Some n) h = absurd (true≢false (sym h))

-- what an entry has is the count at its name, as no two have one name
pub placed_is : (name : List ℕ) (es : List (List ℕ × ℕ)) (k : List ℕ) (n : ℕ)
    → lookup (pointwise nat_eq k) es ≡ Some n → pointwise nat_eq name k ≡ true
    → Some n ≡ get (from_entries {R = slice_cmp nat_cmp} es) name
placed_is name es k n at h =
    let same : name ≡ k = same_text name k (sym h) in
    sym (got name es ∙ ap (λ t. lookup (pointwise nat_eq t) es) same ∙ at)

-- entries that have the count at the name, and at all others what was there
pub updated : (before after : List (List ℕ × ℕ)) (name : List ℕ) (count : ℕ)
    → ((other : List ℕ)
    → lookup (pointwise nat_eq other) after
    ≡ cond (pointwise nat_eq name other) (Some count) (lookup (pointwise nat_eq other) before))
    → from_entries {R = slice_cmp nat_cmp} after ≡ insert (from_entries before) name count
updated before after name count is =
    same_map nat_list_cmp_total (slice_cmp-IsAntisymmetric nat_cmp-IsAntisymmetric)
    (from_entries after) (insert (from_entries before) name count)
    (λ other. got other after ∙ is other
    ∙ (λ k. cond (texts_ties name other k) (Some count) (sym (got other before) k))
    ∙ ap (λ b. cond b (Some count) (get (from_entries {R = slice_cmp nat_cmp} before) other))
    ((eq_by_cmp_equiv nat_list_cmp_total).symm name other)
    ∙ sym (get-insert nat_list_cmp_total (from_entries before) name count other))

-- after one currency is set
pub decimals_of-insert : (decimals : Decimals) (currency : List ℕ) (count : ℕ) (name : List ℕ)
    → decimals_of (insert decimals currency count) name
    ≡ cond (pointwise nat_eq currency name) count (decimals_of decimals name)
decimals_of-insert decimals currency count name =
    ap (λ o. unwrap_or o 0) (get-insert nat_list_cmp_total decimals currency count name)
    ∙ ap (λ b. unwrap_or (cond b (Some count) (get decimals name)) 0)
    ((eq_by_cmp_equiv nat_list_cmp_total).symm name currency ∙ sym (texts_ties currency name))
    ∙ either (pointwise nat_eq currency name)
  where
    either : (b : Bool)
        → unwrap_or (cond b (Some count) (get decimals name)) 0
        ≡ cond b count (decimals_of decimals name)
    either true = refl
    either false = refl
