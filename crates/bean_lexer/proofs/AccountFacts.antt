-- The longest account at the front of a text.
use Rattle.std.proofs.Common.{◌≡◌, ◌≢◌, ℕ, zero, suc, ◌+◌, ◌-◌, ◌<◌, ◌≤◌, ◌&&◌, not, cond, Bool}
use Rattle.std.proofs.Common.{true, false, nat_lt, nat_eq, List, [], ◌∷◌, ◌++◌, length, get_or}
use Rattle.std.proofs.Common.{take, drop, arith, sym, ap, subst, ◌∙◌, refl, ⊎_elim, length-append}
use Rattle.std.proofs.Common.{length-take-le, length-drop}
use Rattle.std.proofs.str.Laws.{order}
use Rattle.std.proofs.lemmas.Bool.Decides.{nat_tests}
use Rattle.std.proofs.lemmas.List.{take-append-le, get_or-take, drop-drop, get_or-drop}
use Rattle.std.proofs.lemmas.List.Sums.{position_or_len_is, prefix_len-drop_yes, prefix_len_stops}
use Rattle.std.proofs.lemmas.List.Sums.{prefix_len-le-length}
use Rattle.std.proofs.lemmas.Str.{IsCharBoundary-end, IsCharBoundary-before_ascii}
use Rattle.std.proofs.Math.Seq.{take-append-add, take-append_seam, drop-append-add}
use Rattle.std.proofs.Math.Seq.{get_or-append_seam}
use Rattle.std.proofs.Math.ListN.{get_or-append}
use Rattle.std.specs.List.{list_all, before_first, position_or_len, slice_split, onto_first}
use Rattle.std.specs.List.{prefix_len}
use Rattle.std.specs.Str.{IsCharBoundary}
use Rattle.bean_base.specs.Name.{is_account, is_root, is_colon, is_component, is_in_component}
use Rattle.bean_base.specs.Name.{begins_component}
use Rattle.bean_base.proofs.NumeralFacts.{drop_more}
use Rattle.theory.specs.LongestFront.{IsLongestFront, HasNoFront}
use Rattle.bean_lexer.specs.Lookahead.{begins_component_at, has_next_component}
use Rattle.theory.proofs.LongestFrontFacts.{front_at, front_run, front_end, front_end_nil}

-- no byte is a colon
abbrev pub NoColon : List ℕ → Type 0
NoColon bs = (i : ℕ) → i < length bs → get_or bs i 0 ≢ 58

-- components joined by colons
abbrev pub are_names : List ℕ → Bool
are_names bs = list_all is_component (slice_split is_colon bs)

no_colon_at : (b : ℕ) → b ≢ 58 → is_colon b ≡ false
no_colon_at b h = grind (arith, nat_tests)

place : (root ys : List ℕ) → NoColon root → position_or_len is_colon (root ++ 58 ∷ ys) ≡ length root
place root ys none =
    position_or_len_is is_colon (root ++ 58 ∷ ys) (length root) 0
    (omega (arith, length-append root (58 ∷ ys)))
    (λ k h. ap is_colon (get_or-append root (58 ∷ ys) 0 k h) ∙ no_colon_at _ (none k h))
    (λ h. ap is_colon (get_or-append_seam root 58 ys 0))

no_place : (xs : List ℕ) → NoColon xs → position_or_len is_colon xs ≡ length xs
no_place xs none =
    position_or_len_is is_colon xs (length xs) 0 (omega arith) (λ k h. no_colon_at _ (none k h))
    (λ h. absurd (omega arith))

and_false : (a b c : Bool) → b ≡ false → (a && b && c) ≡ false
and_false true b c h = ap (λ t. t && c) h
and_false false b c h = refl

and_true : (a c : Bool) → (a && true && c) ≡ (a && c)
and_true true c = refl
and_true false c = refl

-- without a colon it is no account
pub short : (xs : List ℕ) → NoColon xs → is_account xs ≡ false
short xs none =
    and_false (is_root (before_first is_colon xs)) _ _ (let e = no_place xs none in
    let f : nat_lt (position_or_len is_colon xs) (length xs) ≡ false =
    grind (arith, nat_tests) in f)

with_place : (n : ℕ) (root ys : List ℕ) → n ≡ length root →
    (is_root (take n (root ++ 58 ∷ ys)) && nat_lt n (length (root ++ 58 ∷ ys))
    && are_names (drop (n + 1) (root ++ 58 ∷ ys))) ≡ (is_root root && are_names ys)
with_place n root ys h =
    let front : take n (root ++ 58 ∷ ys) ≡ root =
    ap (λ k. take k (root ++ 58 ∷ ys)) h ∙ take-append_seam root (58 ∷ ys) in
    let inside : nat_lt n (length (root ++ 58 ∷ ys)) ≡ true = let l =
    length-append root (58 ∷ ys) in grind (arith, nat_tests) in
    let back : drop (n + 1) (root ++ 58 ∷ ys) ≡ ys =
    ap (λ k. drop (k + 1) (root ++ 58 ∷ ys)) h ∙ drop-append-add root (58 ∷ ys) 1 in
    (λ i. is_root (front i) && inside i && are_names (back i))
    ∙ and_true (is_root root) (are_names ys)

pub at_colon : (root ys : List ℕ) → NoColon root
    → is_account (root ++ 58 ∷ ys) ≡ (is_root root && are_names ys)
at_colon root ys none =
    with_place (position_or_len is_colon (root ++ 58 ∷ ys)) root ys (place root ys none)

no_colon_take : (xs : List ℕ) (m : ℕ) → NoColon xs → m ≤ length xs → NoColon (take m xs)
no_colon_take xs m none h = λ i below e.
    let l = length-take-le m xs h in
    none i (omega arith) (sym (get_or-take m xs i 0 (omega arith)) ∙ e)

short_front : (root names : List ℕ) (m : ℕ) → NoColon root → m ≤ length root
    → is_account (take m (root ++ 58 ∷ names)) ≡ false
short_front root names m none h =
    ap is_account (take-append-le m root (58 ∷ names) h)
    ∙ short (take m root) (no_colon_take root m none h)

long_front : (root names : List ℕ) (k : ℕ) → NoColon root → is_root root ≡ true
    → is_account (take (length root + 1 + k) (root ++ 58 ∷ names)) ≡ are_names (take k names)
long_front root names k none is =
    let e : length root + 1 + k ≡ length root + suc k = omega arith in
    ap is_account (ap (λ n. take n (root ++ 58 ∷ names)) e
    ∙ take-append-add root (58 ∷ names) (suc k)) ∙ at_colon root (take k names) none
    ∙ ap (λ t. t && are_names (take k names)) is

past_colon : (root names : List ℕ) (m : ℕ) → NoColon root → is_root root ≡ true → length root < m
    → are_names (take (m - length root - 1) names) ≡ false
    → is_account (take m (root ++ 58 ∷ names)) ≡ false
past_colon root names m none is past h =
    let e : m ≡ length root + 1 + (m - length root - 1) = omega arith in
    ap (λ k. is_account (take k (root ++ 58 ∷ names))) e
    ∙ long_front root names (m - length root - 1) none is ∙ h

-- behind the root and its colon, the longest front of components is the rest of the longest account
pub behind_root : (root names : List ℕ) (n : ℕ) → NoColon root → is_root root ≡ true
    → IsLongestFront are_names names n
    → IsLongestFront is_account (root ++ 58 ∷ names) (length root + 1 + n)
behind_root root names n none is longest =
    let l = length-append root (58 ∷ names) in record {
      inside = omega (arith, longest.inside);
      of_form = long_front root names n none is ∙ longest.of_form;
      longest =
          λ m low high. past_colon root names m none is (omega arith)
          (longest.longest (m - length root - 1) (omega arith) (omega arith));
    }

-- and where no component begins there, there is no account
pub no_names : (root names : List ℕ) → NoColon root → is_root root ≡ true
    → HasNoFront are_names names → HasNoFront is_account (root ++ 58 ∷ names)
no_names root names none is nothing = λ m high.
    let l = length-append root (58 ∷ names) in
    ⊎_elim (λ past. past_colon root names m none is past
    (nothing (m - length root - 1) (omega arith)))
    (λ within. short_front root names m none within) (order (length root) m)

past_no_root : (root names : List ℕ) (m : ℕ) → NoColon root → is_root root ≡ false → length root < m
    → is_account (take m (root ++ 58 ∷ names)) ≡ false
past_no_root root names m none is past =
    let e : m ≡ length root + suc (m - length root - 1) = omega arith in
    ap is_account (ap (λ n. take n (root ++ 58 ∷ names)) e
    ∙ take-append-add root (58 ∷ names) (suc (m - length root - 1)))
    ∙ at_colon root (take (m - length root - 1) names) none
    ∙ ap (λ t. t && are_names (take (m - length root - 1) names)) is

pub no_root : (root names : List ℕ) → NoColon root → is_root root ≡ false
    → HasNoFront is_account (root ++ 58 ∷ names)
no_root root names none is = λ m high.
    (⊎_elim (λ past. past_no_root root names m none is past)
    (λ within. short_front root names m none within) (order (length root) m))

pub no_colon : (bs : List ℕ) → NoColon bs → HasNoFront is_account bs
no_colon bs none = λ m high. short (take m bs) (no_colon_take bs m none high)

-- what follows a component's byte: the first piece goes on the component, and the others are
-- components
abbrev pub goes_on_names : List (List ℕ) → Bool
goes_on_names [] = true
goes_on_names (piece ∷ pieces) = list_all is_in_component piece && list_all is_component pieces

abbrev pub behind_name : List ℕ → Bool
behind_name bs = goes_on_names (slice_split is_colon bs)

in_pieces : (b : ℕ) (pieces : List (List ℕ)) → is_in_component b ≡ true
    → goes_on_names (onto_first b pieces) ≡ goes_on_names pieces
in_pieces b [] h = ap (λ t. t && true && true) h
in_pieces b (piece ∷ pieces) h =
    ap (λ t. t && list_all is_in_component piece && list_all is_component pieces) h

split_off : (b : ℕ) (bs : List ℕ) (t : Bool) → is_colon b ≡ t
    → slice_split is_colon (b ∷ bs)
    ≡ cond t ([] ∷ slice_split is_colon bs) (onto_first b (slice_split is_colon bs))
split_off b bs t h =
    ap (λ u. cond u ([] ∷ slice_split is_colon bs) (onto_first b (slice_split is_colon bs))) h

no_colon_in : (b : ℕ) → is_in_component b ≡ true → is_colon b ≡ false
no_colon_in b h = grind (arith, nat_tests)

pub in_step : (b : ℕ) (bs : List ℕ) → is_in_component b ≡ true
    → behind_name (b ∷ bs) ≡ behind_name bs
in_step b bs h =
    ap goes_on_names (split_off b bs false (no_colon_in b h))
    ∙ in_pieces b (slice_split is_colon bs) h

pub colon_step : (b : ℕ) (bs : List ℕ) → b ≡ 58 → behind_name (b ∷ bs) ≡ are_names bs
colon_step b bs h = ap (λ c. behind_name (c ∷ bs)) h

some_piece : (e r : Bool) → e ≡ false → (not e && true && (true && r)) ≡ r
some_piece true r h = absurd (cc)
some_piece false r h = refl

middle_false : (a b : Bool) → (a && false && b) ≡ false
middle_false true b = refl
middle_false false b = refl

both_true : (a b : Bool) → (a && b) ≡ true → (a ≡ true) × (b ≡ true)
both_true true b h = (refl, h)
both_true false b h = absurd (cc)

no_other : (a b : Bool) → (a && b) ≡ false → a ≡ true → b ≡ false
no_other true b h e = h
no_other false b h e = absurd (cc)

no_third : (a b c : Bool) → ((a && b) && c) ≡ false → a ≡ true → b ≡ true → c ≡ false
no_third true true c h ha hb = h
no_third false b c h ha hb = absurd (cc)
no_third true false c h ha hb = absurd (cc)

below_two : (b : ℕ) → is_in_component b ≡ false → b < 128
below_two b h = grind (arith, nat_tests)

boundary_by : (bs : List ℕ) (len : ℕ) (t : Bool) → nat_lt len (length bs) ≡ t → len ≤ length bs
    → (len < length bs → is_in_component (get_or bs len 0) ≡ false) → IsCharBoundary bs len
boundary_by bs len true e inside stops =
    let low : len < length bs = grind (arith, nat_tests) in
    IsCharBoundary-before_ascii bs len low (below_two (get_or bs len 0) (stops low))
boundary_by bs len false e inside stops =
    let same : length bs ≡ len = let past : length bs ≤ len = grind (arith, nat_tests) in
    omega arith in subst (IsCharBoundary bs) same (IsCharBoundary-end bs)

begins_in : (b : ℕ) → begins_component b ≡ true → is_in_component b ≡ true
begins_in b h = grind (arith, nat_tests)

component_cons : (b : ℕ) (piece : List ℕ) → begins_component b ≡ true
    → is_component (b ∷ piece) ≡ list_all is_in_component piece
component_cons b piece h =
    let i = begins_in b h in
    ap (λ t. not (nat_eq (length (b ∷ piece)) 0) && t
    && (is_in_component b && list_all is_in_component piece)) h
    ∙ ap (λ t. not (nat_eq (length (b ∷ piece)) 0) && true && (t && list_all is_in_component piece))
    i
    ∙ some_piece (nat_eq (length (b ∷ piece)) 0) (list_all is_in_component piece)
    (let e : nat_eq (length (b ∷ piece)) 0 ≡ false = grind (arith, nat_tests) in e)

begin_pieces : (b : ℕ) (pieces : List (List ℕ)) → begins_component b ≡ true
    → list_all is_component (onto_first b pieces) ≡ goes_on_names pieces
begin_pieces b [] h = ap (λ t. t && true) (component_cons b [] h)
begin_pieces b (piece ∷ pieces) h =
    ap (λ t. t && list_all is_component pieces) (component_cons b piece h)

pub begin_step : (b : ℕ) (bs : List ℕ) → begins_component b ≡ true
    → are_names (b ∷ bs) ≡ behind_name bs
begin_step b bs h =
    ap (list_all is_component) (split_off b bs false (no_colon_in b (begins_in b h)))
    ∙ begin_pieces b (slice_split is_colon bs) h

no_component_cons : (b : ℕ) (piece : List ℕ) → begins_component b ≡ false
    → is_component (b ∷ piece) ≡ false
no_component_cons b piece h =
    ap (λ t. not (nat_eq (length (b ∷ piece)) 0) && t
    && (is_in_component b && list_all is_in_component piece)) h
    ∙ middle_false (not (nat_eq (length (b ∷ piece)) 0))
    (is_in_component b && list_all is_in_component piece)

no_begin_pieces : (b : ℕ) (pieces : List (List ℕ)) → begins_component b ≡ false
    → list_all is_component (onto_first b pieces) ≡ false
no_begin_pieces b [] h = ap (λ t. t && true) (no_component_cons b [] h)
no_begin_pieces b (piece ∷ pieces) h =
    ap (λ t. t && list_all is_component pieces) (no_component_cons b piece h)

no_begin_by : (b : ℕ) (bs : List ℕ) (t : Bool) → is_colon b ≡ t → begins_component b ≡ false
    → are_names (b ∷ bs) ≡ false
no_begin_by b bs true e h = ap (list_all is_component) (split_off b bs true e)
no_begin_by b bs false e h =
    ap (list_all is_component) (split_off b bs false e)
    ∙ no_begin_pieces b (slice_split is_colon bs) h

pub no_begin : (b : ℕ) (bs : List ℕ) → begins_component b ≡ false → are_names (b ∷ bs) ≡ false
no_begin b bs h = no_begin_by b bs (is_colon b) refl h

no_in_pieces : (b : ℕ) (pieces : List (List ℕ)) → is_in_component b ≡ false
    → goes_on_names (onto_first b pieces) ≡ false
no_in_pieces b [] h = ap (λ t. t && true && true) h
no_in_pieces b (piece ∷ pieces) h =
    ap (λ t. t && list_all is_in_component piece && list_all is_component pieces) h

pub other_step : (b : ℕ) (bs : List ℕ) → is_in_component b ≡ false → b ≢ 58
    → behind_name (b ∷ bs) ≡ false
other_step b bs h colon =
    ap goes_on_names (split_off b bs false (let e : is_colon b ≡ false = grind (arith, nat_tests) in
    e)) ∙ no_in_pieces b (slice_split is_colon bs) h

pub no_names_front : (ys : List ℕ) (k : ℕ)
    → (0 < length ys → begins_component (get_or ys 0 0) ≡ false) → are_names (take k ys) ≡ false
no_names_front [] zero h = refl
no_names_front [] (suc k) h = refl
no_names_front (y ∷ ys) zero h = refl
no_names_front (y ∷ ys) (suc k) h = no_begin y (take k ys) (h (omega arith))

-- a run of a component's bytes, the first of which begins it
pub component_front : (bs : List ℕ) (i e n : ℕ) → e ≡ i + prefix_len is_in_component (drop i bs)
    → begins_component_at bs i ≡ true →
    IsLongestFront behind_name (drop e bs) n → IsLongestFront are_names (drop i bs) (e - i + n)
component_front bs i e n is begins front =
    let h = both_true (nat_lt i (length bs)) (begins_component (get_or bs i 0)) begins in
    let inside : i < length bs = let g = h.0 in grind (arith, nat_tests) in
    let first = prefix_len-drop_yes is_in_component bs i 0 inside (begins_in (get_or bs i 0) h.1) in
    let q = prefix_len is_in_component (drop (i + 1) bs) in
    let at : e ≡ i + 1 + q = omega arith in
    let len : 1 + (q + n) ≡ e - i + n = omega arith in
    let rest : IsLongestFront behind_name (drop q (drop (i + 1) bs)) n =
    subst (λ l. IsLongestFront behind_name l n)
    (ap (λ k. drop k bs) at ∙ sym (drop-drop q (i + 1) bs)) front in
    subst (λ k. IsLongestFront are_names (drop i bs) k) len
    (front_at are_names behind_name bs i (q + n) 0 inside
    (λ more. begin_step (get_or bs i 0) more h.1)
    (front_run behind_name is_in_component (λ b b_in more. in_step b more b_in) (drop (i + 1) bs) n
    rest))

-- what the loop over components keeps
pub record ReadsNames (bs : List ℕ) (root len : ℕ) : Type 0 where
  pub low : root < len
  pub inside : len ≤ length bs
  pub stops : len < length bs → is_in_component (get_or bs len 0) ≡ false
  pub so_far : (n : ℕ) → IsLongestFront behind_name (drop len bs) n
      → IsLongestFront are_names (drop root bs) (len - root + n)

component_stops : (bs : List ℕ) (i e : ℕ) → e ≡ i + prefix_len is_in_component (drop i bs)
    → i ≤ length bs → e < length bs → is_in_component (get_or bs e 0) ≡ false
component_stops bs i e is inside low =
    let l = length-drop i bs in
    ap (λ k. is_in_component (get_or bs k 0)) is
    ∙ ap is_in_component (sym (get_or-drop i bs (prefix_len is_in_component (drop i bs)) 0))
    ∙ prefix_len_stops is_in_component (drop i bs) 0 (omega arith)

component_ends : (bs : List ℕ) (i e : ℕ) → e ≡ i + prefix_len is_in_component (drop i bs)
    → begins_component_at bs i ≡ true → (i < e) × (e ≤ length bs)
component_ends bs i e is begins =
    let h = both_true (nat_lt i (length bs)) (begins_component (get_or bs i 0)) begins in
    let inside : i < length bs = let g = h.0 in grind (arith, nat_tests) in
    let first = prefix_len-drop_yes is_in_component bs i 0 inside (begins_in (get_or bs i 0) h.1) in
    let w = prefix_len-le-length is_in_component (drop i bs) in
    let l = length-drop i bs in
    (omega arith, omega arith)

pub names_start : (bs : List ℕ) (root e : ℕ) → e ≡ root + prefix_len is_in_component (drop root bs)
    → begins_component_at bs root ≡ true → ReadsNames bs root e
names_start bs root e is begins =
    let ends = component_ends bs root e is begins in
    record {
      low = ends.0;
      inside = ends.1;
      stops = λ low. component_stops bs root e is (omega (arith, ends.0)) low;
      so_far = λ n front. component_front bs root e n is begins front;
    }

pub names_go_on : (bs : List ℕ) (root len e : ℕ)
    → e ≡ len + 1 + prefix_len is_in_component (drop (len + 1) bs)
    → has_next_component bs len ≡ true → ReadsNames bs root len → ReadsNames bs root e
names_go_on bs root len e is next so_far =
    let h = both_true (nat_lt len (length bs) && nat_eq (get_or bs len 0) 58)
    (begins_component_at bs (len + 1)) next in
    let g = both_true (nat_lt len (length bs)) (nat_eq (get_or bs len 0) 58) h.0 in
    let inside : len < length bs = let a = g.0 in grind (arith, nat_tests) in
    let colon : get_or bs len 0 ≡ 58 = let a = g.1 in grind (arith, nat_tests) in
    let ends = component_ends bs (len + 1) e is h.1 in
    let low = so_far.low in
    record {
      low = omega (arith, ends.0);
      inside = ends.1;
      stops = λ before. component_stops bs (len + 1) e is (omega (arith, ends.0)) before;
      so_far = λ n front.
          let l : len - root + (1 + (e - (len + 1) + n)) ≡ e - root + n = omega (arith, ends.0) in
          subst (λ k. IsLongestFront are_names (drop root bs) k) l
          (so_far.so_far (1 + (e - (len + 1) + n))
          (front_at behind_name are_names bs len (e - (len + 1) + n) 0 inside
          (λ more. colon_step (get_or bs len 0) more colon)
          (component_front bs (len + 1) e n is h.1 front)));
    }

front_of : (form : List ℕ → Bool) (b : ℕ) (bs : List ℕ) → ((k : ℕ) → form (b ∷ take k bs) ≡ false)
    → (m : ℕ) → 0 < m → form (take m (b ∷ bs)) ≡ false
front_of form b bs h m low = let e : m ≡ suc (m - 1) = omega arith in
    ap (λ k. form (take k (b ∷ bs))) e ∙ h (m - 1)

stops_at : (b : ℕ) (bs : List ℕ) (colon : Bool) → nat_eq b 58 ≡ colon → is_in_component b ≡ false
    → (colon ≡ true → 0 < length bs → begins_component (get_or bs 0 0) ≡ false) → (k : ℕ)
    → behind_name (b ∷ take k bs) ≡ false
stops_at b bs true c d h k =
    colon_step b (take k bs) (let e : b ≡ 58 = grind (arith, nat_tests) in e)
    ∙ no_names_front bs k (h refl)
stops_at b bs false c d h k =
    other_step b (take k bs) d (let e : b ≢ 58 = grind (arith, nat_tests) in e)

pub no_first : (bs : List ℕ) (i : ℕ) → begins_component_at bs i ≡ false → 0 < length (drop i bs)
    → begins_component (get_or (drop i bs) 0 0) ≡ false
no_first bs i h some =
    let l = length-drop i bs in
    let e : i + 0 ≡ i = omega arith in
    ap begins_component (get_or-drop i bs 0 0 ∙ ap (λ k. get_or bs k 0) e)
    ∙ no_other (nat_lt i (length bs)) (begins_component (get_or bs i 0)) h
    (let w : nat_lt i (length bs) ≡ true = grind (arith, nat_tests) in w)

pub no_next : (bs : List ℕ) (i : ℕ) → (i < length bs → is_in_component (get_or bs i 0) ≡ false)
    → has_next_component bs i ≡ false → IsLongestFront behind_name (drop i bs) 0
no_next bs i stops next =
    ⊎_elim (λ inside.
    front_end behind_name (drop i bs) refl (λ m some low.
    ap (λ l. behind_name (take m l)) (drop_more i bs inside)
    ∙ front_of behind_name (get_or bs i 0) (drop (i + 1) bs)
    (stops_at (get_or bs i 0) (drop (i + 1) bs) (nat_eq (get_or bs i 0) 58) refl (stops inside)
    (λ colon. no_first bs (i + 1)
    (no_third (nat_lt i (length bs)) (nat_eq (get_or bs i 0) 58)
    (begins_component_at bs (i + 1)) next (let e : nat_lt i (length bs) ≡ true =
    grind (arith, nat_tests) in e) colon))) m some))
    (λ past. front_end_nil behind_name bs i refl past) (order i (length bs))

pub names_end : (bs : List ℕ) (root len : ℕ) → has_next_component bs len ≡ false
    → ReadsNames bs root len → IsLongestFront are_names (drop root bs) (len - root)
names_end bs root len next so_far =
    let e : len - root + 0 ≡ len - root = omega arith in
    subst (λ k. IsLongestFront are_names (drop root bs) k) e
    (so_far.so_far 0 (no_next bs len so_far.stops next))

pub names_boundary : (bs : List ℕ) (root len : ℕ) → ReadsNames bs root len → IsCharBoundary bs len
names_boundary bs root len so_far =
    boundary_by bs len (nat_lt len (length bs)) refl so_far.inside so_far.stops
