-- A root and its colon at the front.
use Rattle.std.proofs.Common.{◌≡◌, ◌≢◌, ℕ, ◌+◌, ◌-◌, ◌<◌, ◌≤◌, ◌||◌, not, cond, Bool, true, false}
use Rattle.std.proofs.Common.{nat_eq, List, ◌∷◌, ◌++◌, length, get_or, take, drop, arith, sym, ap}
use Rattle.std.proofs.Common.{subst, ◌∙◌, refl, codes, ⊎_elim, length-take-le}
use Rattle.std.proofs.str.Laws.{order}
use Rattle.std.proofs.lemmas.Bool.Decides.{nat_tests}
use Rattle.std.proofs.lemmas.Slice.Eq.{bytes_eq-Decides}
use Rattle.std.proofs.lemmas.List.{take-append-drop, get_or-take}
use Rattle.std.proofs.Math.Seq.{get_or-append_seam}
use Rattle.std.proofs.lemmas.List.Folds.{list_all_at}
use Rattle.std.proofs.lemmas.List.Sums.{split_at_first, fails_before_first, passes_at_first}
use Rattle.std.specs.List.{list_all, before_first, after_first, position_or_len, starts_with}
use Rattle.std.specs.Str.{bytes_eq}
use Rattle.bean_base.specs.Name.{is_account, is_root, is_colon}
use Rattle.theory.specs.LongestFront.{IsLongestFront, HasNoFront}
use Rattle.bean_lexer.specs.Lookahead.{root_len, begins_component_at}
use Rattle.bean_lexer.proofs.AccountFacts.{NoColon, are_names, behind_root, no_names, no_root}
use Rattle.bean_lexer.proofs.AccountFacts.{no_colon, no_names_front, no_first}

pub record RootAt (bs : List ℕ) (n : ℕ) : Type 0 where
  pub root : List ℕ
  pub is : is_root root ≡ true
  pub plain : NoColon root
  pub split : bs ≡ root ++ 58 ∷ drop n bs
  pub len : n ≡ length root + 1
  pub long : 7 ≤ n

no_colon_by : (xs : List ℕ) (i : ℕ) → list_all (λ b. not (is_colon b)) xs ≡ true → i < length xs
    → get_or xs i 0 ≡ 58 → ⊥
no_colon_by xs i all h e =
    let bad : not (is_colon (get_or xs i 0)) ≡ false = ap (λ b. not (is_colon b)) e in
    let n = list_all_at (λ b. not (is_colon b)) xs i 0 h bad in
    absurd (cc)

plain_list : (xs : List ℕ) → list_all (λ b. not (is_colon b)) xs ≡ true → NoColon xs
plain_list xs all = λ i h e. no_colon_by xs i all h e

pub starts_split : (bs pre : List ℕ) → starts_with nat_eq bs pre ≡ true
    → bs ≡ pre ++ drop (length pre) bs
starts_split bs pre h =
    sym (ap (λ l. l ++ drop (length pre) bs) ((bytes_eq-Decides pre (take (length pre) bs)).0 h)
    ∙ take-append-drop (length pre) bs)

root_by : (bs : List ℕ) (x a l e i : Bool) → starts_with nat_eq bs (codes "Expenses:") ≡ x
    → starts_with nat_eq bs (codes "Assets:") ≡ a → starts_with nat_eq bs (codes "Liabilities:") ≡ l
    → starts_with nat_eq bs (codes "Equity:") ≡ e → starts_with nat_eq bs (codes "Income:") ≡ i →
    0 < cond x 9 (cond a 7 (cond l 12 (cond e 7 (cond i 7 0))))
    → RootAt bs (cond x 9 (cond a 7 (cond l 12 (cond e 7 (cond i 7 0)))))
root_by bs true a l e i hx ha hl he hi some =
    record {
      root = codes "Expenses";
      is = refl;
      plain = plain_list (codes "Expenses") refl;
      split = starts_split bs (codes "Expenses:") hx;
      len = refl;
      long = omega arith;
    }
root_by bs false true l e i hx ha hl he hi some =
    record {
      root = codes "Assets";
      is = refl;
      plain = plain_list (codes "Assets") refl;
      split = starts_split bs (codes "Assets:") ha;
      len = refl;
      long = omega arith;
    }
root_by bs false false true e i hx ha hl he hi some =
    record {
      root = codes "Liabilities";
      is = refl;
      plain = plain_list (codes "Liabilities") refl;
      split = starts_split bs (codes "Liabilities:") hl;
      len = refl;
      long = omega arith;
    }
root_by bs false false false true i hx ha hl he hi some =
    record {
      root = codes "Equity";
      is = refl;
      plain = plain_list (codes "Equity") refl;
      split = starts_split bs (codes "Equity:") he;
      len = refl;
      long = omega arith;
    }
root_by bs false false false false true hx ha hl he hi some =
    record {
      root = codes "Income";
      is = refl;
      plain = plain_list (codes "Income") refl;
      split = starts_split bs (codes "Income:") hi;
      len = refl;
      long = omega arith;
    }
root_by bs false false false false false hx ha hl he hi some = absurd (omega arith)

pub root_at : (bs : List ℕ) → 0 < root_len bs → RootAt bs (root_len bs)
root_at bs some = root_by bs _ _ _ _ _ refl refl refl refl refl some

spelled : (xs cs : List ℕ) → bytes_eq xs cs ≡ true → xs ≡ cs
spelled xs cs h = (bytes_eq-Decides xs cs).0 h

found_by : (xs ys : List ℕ) (a l e i x : Bool) → bytes_eq xs (codes "Assets") ≡ a
    → bytes_eq xs (codes "Liabilities") ≡ l → bytes_eq xs (codes "Equity") ≡ e
    → bytes_eq xs (codes "Income") ≡ i → bytes_eq xs (codes "Expenses") ≡ x →
    (a || l || e || i || x) ≡ true → 0 < root_len (xs ++ 58 ∷ ys)
found_by xs ys true l e i x ha hl he hi hx is = let r =
    ap (λ zs. root_len (zs ++ 58 ∷ ys)) (spelled xs (codes "Assets") ha) in omega arith
found_by xs ys false true e i x ha hl he hi hx is = let r =
    ap (λ zs. root_len (zs ++ 58 ∷ ys)) (spelled xs (codes "Liabilities") hl) in omega arith
found_by xs ys false false true i x ha hl he hi hx is = let r =
    ap (λ zs. root_len (zs ++ 58 ∷ ys)) (spelled xs (codes "Equity") he) in omega arith
found_by xs ys false false false true x ha hl he hi hx is = let r =
    ap (λ zs. root_len (zs ++ 58 ∷ ys)) (spelled xs (codes "Income") hi) in omega arith
found_by xs ys false false false false true ha hl he hi hx is = let r =
    ap (λ zs. root_len (zs ++ 58 ∷ ys)) (spelled xs (codes "Expenses") hx) in omega arith
found_by xs ys false false false false false ha hl he hi hx is = absurd (cc)

root_found : (xs ys : List ℕ) → is_root xs ≡ true → 0 < root_len (xs ++ 58 ∷ ys)
root_found xs ys is = found_by xs ys _ _ _ _ _ refl refl refl refl refl is

no_root_by : (xs ys : List ℕ) (t : Bool) → is_root xs ≡ t → NoColon xs
    → root_len (xs ++ 58 ∷ ys) ≡ 0 → HasNoFront is_account (xs ++ 58 ∷ ys)
no_root_by xs ys true e plain none = absurd (let some = root_found xs ys e in omega arith)
no_root_by xs ys false e plain none = no_root xs ys plain e

colon_of : (b : ℕ) → is_colon b ≡ true → b ≡ 58
colon_of b h = grind (arith, nat_tests)

plain_of : (b : ℕ) → is_colon b ≡ false → b ≢ 58
plain_of b h = grind (arith, nat_tests)

plain_before : (bs : List ℕ) → position_or_len is_colon bs < length bs
    → NoColon (before_first is_colon bs)
plain_before bs inside = λ i h e.
    let l = length-take-le (position_or_len is_colon bs) bs (omega arith) in
    let low : i < position_or_len is_colon bs = omega arith in
    plain_of (get_or bs i 0) (fails_before_first is_colon bs i 0 low)
    (sym (get_or-take (position_or_len is_colon bs) bs i 0 low) ∙ e)

pub no_root_at : (bs : List ℕ) → root_len bs ≡ 0 → HasNoFront is_account bs
no_root_at bs none =
    ⊎_elim (λ inside.
    let colon = colon_of _ (passes_at_first is_colon bs 0 inside) in
    let e : bs ≡ before_first is_colon bs ++ 58 ∷ after_first is_colon bs =
    split_at_first is_colon bs 0 inside
    ∙ ap (λ b. before_first is_colon bs ++ b ∷ after_first is_colon bs) colon in
    subst (HasNoFront is_account) (sym e)
    (no_root_by (before_first is_colon bs) (after_first is_colon bs)
    (is_root (before_first is_colon bs)) refl (plain_before bs inside)
    (ap root_len (sym e) ∙ none)))
    (λ past. no_colon bs
    (λ i h. plain_of (get_or bs i 0) (fails_before_first is_colon bs i 0 (omega arith))))
    (order (position_or_len is_colon bs) (length bs))

pub no_component : (bs : List ℕ) → 0 < root_len bs → begins_component_at bs (root_len bs) ≡ false
    → HasNoFront is_account bs
no_component bs some none =
    let at = root_at bs some in
    subst (HasNoFront is_account) (sym at.split)
    (no_names at.root (drop (root_len bs) bs) at.plain at.is
    (λ m high. no_names_front (drop (root_len bs) bs) m (no_first bs (root_len bs) none)))

pub account_is : (bs : List ℕ) (k : ℕ) → 0 < root_len bs
    → IsLongestFront are_names (drop (root_len bs) bs) k
    → IsLongestFront is_account bs (root_len bs + k)
account_is bs k some names =
    let at = root_at bs some in
    let e : length at.root + 1 + k ≡ root_len bs + k = let l = at.len in omega arith in
    subst (λ n. IsLongestFront is_account bs n) e
    (subst (λ l. IsLongestFront is_account l (length at.root + 1 + k)) (sym at.split)
    (behind_root at.root (drop (root_len bs) bs) k at.plain at.is names))

pub root_is_long : (bs : List ℕ) → 0 < root_len bs → 7 ≤ root_len bs
root_is_long bs some = (root_at bs some).long

-- a colon stands behind the root
pub root_colon : (bs : List ℕ) → 0 < root_len bs → get_or bs (root_len bs - 1) 0 ≡ 58
root_colon bs some =
    let at = root_at bs some in
    let l = at.len in
    let e : root_len bs - 1 ≡ length at.root = omega arith in
    ap (λ k. get_or bs k 0) e ∙ ap (λ xs. get_or xs (length at.root) 0) at.split
    ∙ get_or-append_seam at.root 58 (drop (root_len bs) bs) 0
