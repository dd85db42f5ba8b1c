-- What legs lack, with a leg more.
use Rattle.std.proofs.Common.{◌≡◌, ◌+◌, ◌<◌, ◌||◌, ◌++◌, ℕ, suc, Bool, true, false, cond, List, []}
use Rattle.std.proofs.Common.{◌∷◌, length, take, drop, get_or, refl, sym, ap, ◌∙◌, subst, arith}
use Rattle.std.proofs.Math.Seq.{take-suc}
use Rattle.std.proofs.lemmas.List.Folds.{list_any-append}
use Rattle.std.proofs.lemmas.List.{take-append-drop}
use Rattle.std.specs.Cmp.Lexicographic.{nat_list_eq_equiv}
use Rattle.std.specs.List.{list_any}
use Rattle.std.specs.Str.{bytes_eq}
use Rattle.bean_interp.specs.Lacking.{AreLacked, clash, lack_too_much, lacks_amount, lacks_number}
use Rattle.bean_interp.specs.Lacking.{lacks_number_of}
use Rattle.bean_interp.specs.declared.leg.Leg.{Leg}
use Rattle.bean_interp.specs.declared.lacks.Lacks.{Lacks}
use Rattle.bean_interp.specs.declared.leg.Whole as units
use Rattle.indexmap.specs.IndexSet.{contains}
use Rattle.bean_interp.specs.declared.leg.Leg.TheVariants.{Whole, MissingNumber, MissingAmount}

pub none_clash : (w : units.Whole) (legs : List Leg) → list_any (clash (Whole w)) legs ≡ false
none_clash w [] = refl
none_clash w (leg ∷ legs) = none_clash w legs

-- a Bool beside two others
aside : (a b c : Bool) → (a || (b || c)) ≡ (b || (a || c))
aside true true c = refl
aside true false c = refl
aside false true c = refl
aside false false c = refl

pub number_clashes : (c : List ℕ) (legs : List Leg)
    → (list_any lacks_amount legs || list_any (lacks_number_of c) legs)
    ≡ list_any (clash (MissingNumber c)) legs
number_clashes c [] = refl
number_clashes c (Whole w ∷ legs) = number_clashes c legs
number_clashes c (MissingNumber d ∷ legs) =
    aside (list_any lacks_amount legs) (bytes_eq c d) (list_any (lacks_number_of c) legs)
    ∙ ap (λ b. bytes_eq c d || b) (number_clashes c legs)
number_clashes c (MissingAmount ∷ legs) = refl

pub amount_clashes : (legs : List Leg)
    → (list_any lacks_amount legs || list_any lacks_number legs)
    ≡ list_any (clash MissingAmount) legs
amount_clashes [] = refl
amount_clashes (Whole w ∷ legs) = amount_clashes legs
amount_clashes (MissingNumber d ∷ legs) =
    aside (list_any lacks_amount legs) true (list_any lacks_number legs)
amount_clashes (MissingAmount ∷ legs) = refl

last_or : (b : Bool) → (b || false) ≡ b
last_or true = refl
last_or false = refl

pub any_push : (p : Leg → Bool) (legs : List Leg) (leg : Leg)
    → list_any p (legs ++ leg ∷ []) ≡ (list_any p legs || p leg)
any_push p legs leg =
    list_any-append p legs (leg ∷ []) ∙ ap (λ b. list_any p legs || b) (last_or (p leg))

-- which of two comes first doesn't matter
clash_symm : (a b : Leg) → clash a b ≡ clash b a
clash_symm (Whole v) (Whole w) = refl
clash_symm (Whole v) (MissingNumber d) = refl
clash_symm (Whole v) MissingAmount = refl
clash_symm (MissingNumber c) (Whole w) = refl
clash_symm (MissingNumber c) (MissingNumber d) = nat_list_eq_equiv.symm c d
clash_symm (MissingNumber c) MissingAmount = refl
clash_symm MissingAmount (Whole w) = refl
clash_symm MissingAmount (MissingNumber d) = refl
clash_symm MissingAmount MissingAmount = refl

regroup : (a b c d : Bool) → ((a || b) || (c || d)) ≡ ((a || c) || (b || d))
regroup true b c d = refl
regroup false b true d = aside b true d
regroup false true false d = refl
regroup false false false d = refl

pub too_much_push : (legs : List Leg) (leg : Leg)
    → lack_too_much (legs ++ leg ∷ []) ≡ (lack_too_much legs || list_any (clash leg) legs)
too_much_push [] leg = refl
too_much_push (l ∷ legs) leg =
    (λ i. any_push (clash l) legs leg i || too_much_push legs leg i)
    ∙ regroup (list_any (clash l) legs) (clash l leg) (lack_too_much legs)
    (list_any (clash leg) legs)
    ∙ ap (λ b. (list_any (clash l) legs || lack_too_much legs) || (b || list_any (clash leg) legs))
    (clash_symm l leg)

pub too_much_next : (legs : List Leg) (i : ℕ) (d : Leg) → i < length legs
    → lack_too_much (take (i + 1) legs)
    ≡ (lack_too_much (take i legs) || list_any (clash (get_or legs i d)) (take i legs))
too_much_next legs i d lt =
    let succ : i + 1 ≡ suc i = omega arith in
    ap lack_too_much (ap (λ n. take n legs) succ ∙ take-suc legs i d lt)
    ∙ too_much_push (take i legs) (get_or legs i d)

or_true : (a b : Bool) → a ≡ true → (a || b) ≡ true
or_true a b is = ap (λ x. x || b) is

-- more legs lack as much
pub still_too_much : (legs more : List Leg) → lack_too_much legs ≡ true
    → lack_too_much (legs ++ more) ≡ true
still_too_much [] more is = absurd cc
still_too_much (l ∷ legs) more is = by (list_any (clash l) legs) refl is (still_too_much legs more)
  where
    by : (b : Bool) → list_any (clash l) legs ≡ b → (b || lack_too_much legs) ≡ true
        → (lack_too_much legs ≡ true → lack_too_much (legs ++ more) ≡ true)
        → (list_any (clash l) (legs ++ more) || lack_too_much (legs ++ more)) ≡ true
    by true here either later =
        or_true _ (lack_too_much (legs ++ more))
        (list_any-append (clash l) legs more ∙ or_true _ (list_any (clash l) more) here)
    by false here either later =
        ap (λ x. list_any (clash l) (legs ++ more) || x) (later either)
        ∙ or_last (list_any (clash l) (legs ++ more))
      where
        or_last : (b : Bool) → (b || true) ≡ true
        or_last true = refl
        or_last false = refl

pub whole_too_much : (legs : List Leg) (i : ℕ) → lack_too_much (take i legs) ≡ true
    → lack_too_much legs ≡ true
whole_too_much legs i is =
    subst (λ ls. lack_too_much ls
    ≡ true) (take-append-drop i legs) (still_too_much (take i legs) (drop i legs) is)

or_last : (b : Bool) → true ≡ (b || true)
or_last true = refl
or_last false = refl

-- ---- what is kept of legs, with one more

pub with_whole : (l : Lacks) (legs : List Leg) (w : units.Whole) → AreLacked l legs
    → AreLacked l (legs ++ Whole w ∷ [])
with_whole l legs w are = record {
  amount = are.amount
      ∙ sym (any_push lacks_amount legs (Whole w) ∙ last_or (list_any lacks_amount legs));
  number = are.number
      ∙ sym (any_push lacks_number legs (Whole w) ∙ last_or (list_any lacks_number legs));
  currencies =
      λ d. are.currencies d
      ∙ sym (any_push (lacks_number_of d) legs (Whole w)
      ∙ last_or (list_any (lacks_number_of d) legs));
}

pub with_amount : (l : Lacks) (legs : List Leg) → AreLacked l legs
    → AreLacked (record { has_amount = true; has_number = l.has_number; currencies = l.currencies })
    (legs ++ MissingAmount ∷ [])
with_amount l legs are = record {
  amount = or_last (list_any lacks_amount legs) ∙ sym (any_push lacks_amount legs MissingAmount);
  number = are.number
      ∙ sym (any_push lacks_number legs MissingAmount ∙ last_or (list_any lacks_number legs));
  currencies =
      λ d. are.currencies d
      ∙ sym (any_push (lacks_number_of d) legs MissingAmount
      ∙ last_or (list_any (lacks_number_of d) legs));
}

turned : (b x : Bool) → cond b true x ≡ (x || b)
turned true x = or_last x
turned false x = sym (last_or x)

pub with_number : (l new : Lacks) (legs : List Leg) (c : List ℕ) → AreLacked l legs
    → new.has_amount ≡ l.has_amount → new.has_number ≡ true
    → ((d : List ℕ)
    → contains bytes_eq new.currencies d
    ≡ cond (bytes_eq c d) true (contains bytes_eq l.currencies d))
    → AreLacked new (legs ++ MissingNumber c ∷ [])
with_number l new legs c are amount number updates = record {
  amount = amount ∙ are.amount
      ∙ sym (any_push lacks_amount legs (MissingNumber c) ∙ last_or (list_any lacks_amount legs));
  number = number ∙ or_last (list_any lacks_number legs)
      ∙ sym (any_push lacks_number legs (MissingNumber c));
  currencies = λ d.
      updates d ∙ turned (bytes_eq c d) (contains bytes_eq l.currencies d)
      ∙ (λ i. are.currencies d i || nat_list_eq_equiv.symm c d i)
      ∙ sym (any_push (lacks_number_of d) legs (MissingNumber c));
}

-- the same of a leg by another name
pub renamed : (l : Lacks) (legs : List Leg) (a b : Leg) → a ≡ b → AreLacked l (legs ++ b ∷ [])
    → AreLacked l (legs ++ a ∷ [])
renamed l legs a b is are = subst (λ (x : Leg). AreLacked l (legs ++ x ∷ [])) (sym is) are

-- ---- the legs, one after the other

pub next_lacked : (l : Lacks) (legs : List Leg) (i : ℕ) (d : Leg) → i < length legs
    → AreLacked l (take i legs ++ get_or legs i d ∷ []) → AreLacked l (take (i + 1) legs)
next_lacked l legs i d lt are =
    let succ : i + 1 ≡ suc i = omega arith in
    subst (AreLacked l) (sym (ap (λ n. take n legs) succ ∙ take-suc legs i d lt)) are
