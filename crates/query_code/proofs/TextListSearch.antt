-- A text that is looked for among those that bytes are.
use Rattle.std.proofs.Common.{◌≡◌, ℕ, ◌+◌, ◌<◌, ◌≤◌, ◌^◌, List, [], ◌∷◌, ◌++◌, length, Bool}
use Rattle.std.proofs.Common.{true, false, nat_eq, refl, sym, ap, ◌∙◌, append_assoc, arith}
use Rattle.std.proofs.Common.{Option, Some, None, ◌||◌}
use Rattle.std.specs.Cmp.Lexicographic.{pointwise}
use Rattle.std.specs.Int.{w16, from_be_bytes, to_be_bytes}
use Rattle.std.specs.List.{list_any}
use Rattle.std.proofs.Math.Logic.{∥∥₁_elim, ∥∥₁_prop}
use Rattle.std.proofs.Props.{props}
use Rattle.std.proofs.lemmas.Bool.{le-ltb}
use Rattle.std.proofs.lemmas.List.{take_at, drop_at, length-append}
use Rattle.std.proofs.lemmas.List.Folds.{list_any-append}
use Rattle.std.proofs.lemmas.Nat.{from_be_bytes-to_be_bytes_2}
use Rattle.query_code.specs.ByteForm.{AllFit, all_written}
use Rattle.query_code.specs.TextForm.{text, texts_in, AreTexts, AreTwoParts, first_in}
use Rattle.query_code.proofs.TextListFacts.{none_are_texts, one_more, those}

abbrev pub has_text : List ℕ → List (List ℕ) → Bool
has_text sought = list_any (pointwise nat_eq sought)

-- texts that are left, of which those before aren't the one that is sought
pub record IsLeft (sought : List ℕ) (n : ℕ) (all rest : List ℕ) : Type 0 where
  pub texts : List (List ℕ)
  pub written : rest ≡ all_written text texts
  pub fit : AllFit text texts
  pub same : has_text sought (texts_in n all) ≡ has_text sought texts

pub all_left : (sought : List ℕ) (n : ℕ) (all : List ℕ) → AreTexts n all → IsLeft sought n all all
all_left sought n all are =
    record { texts = texts_in n all; written = are.written; fit = are.fit; same = refl }

-- ---- the text in front

written_is : (t : List ℕ) → text.written t ≡ to_be_bytes w16 (length t) ++ t
unfolding text
written_is t = refl

is_short : (t : List ℕ) → text.fits t → length t < 2 ^ 16
unfolding text
is_short t fits = fits.0.0

first_at : (size t rest : List ℕ) → length size ≡ 2 → from_be_bytes w16 size ≡ length t
    → first_in (size ++ (t ++ rest)) ≡ Some (t, rest)
first_at size t rest two is =
    let long : 2 ≤ length (size ++ (t ++ rest)) = omega (arith, length-append size (t ++ rest)) in
    let there : length t ≤ length (t ++ rest) = omega (arith, length-append t rest) in
    rw (
      le-ltb (length (size ++ (t ++ rest))) 2 long,
      take_at size (t ++ rest) 2 two,
      drop_at size (t ++ rest) 2 two,
      is,
      le-ltb (length (t ++ rest)) (length t) there,
      take_at t rest (length t) refl,
      drop_at t rest (length t) refl,
    ) refl

first_is : (t rest : List ℕ) → text.fits t → first_in (text.written t ++ rest) ≡ Some (t, rest)
first_is t rest fits =
    ap (λ (bs : List ℕ). first_in (bs ++ rest)) (written_is t)
    ∙ ap first_in (append_assoc (to_be_bytes w16 (length t)) t rest)
    ∙ first_at (to_be_bytes w16 (length t)) t rest refl
    (from_be_bytes-to_be_bytes_2 (length t) (is_short t fits))

abbrev Pair : Type 0
Pair = List ℕ × List ℕ

some_pair : (p q : Pair) → ◌≡◌ {A = Option Pair} (Some p) (Some q) → p ≡ q
some_pair p q e = cc

no_pair : (p : Pair) → ◌≡◌ {A = Option Pair} None (Some p) → ⊥
no_pair p e = absurd cc

-- ---- one text after the other

-- the text in front, and those that are left behind it
pub record IsFront (sought : List ℕ) (n : ℕ) (all front behind : List ℕ) : Type 0 where
  pub texts : List (List ℕ)
  pub written : behind ≡ all_written text texts
  pub fit : AllFit text texts
  pub same : has_text sought (texts_in n all)
      ≡ (pointwise nat_eq sought front || has_text sought texts)

module _ (sought : List ℕ) (n : ℕ) (all : List ℕ) where
  front_of : (rest front behind : List ℕ) (texts : List (List ℕ)) → rest ≡ all_written text texts
      → AllFit text texts → has_text sought (texts_in n all) ≡ has_text sought texts
      → Some (front, behind) ≡ first_in rest → IsFront sought n all front behind
  front_of rest front behind [] written fit same found =
      absurd (no_pair (front, behind) (sym (found ∙ ap first_in written)))
  front_of rest front behind (t ∷ ts) written fit same found =
      let is = some_pair (front, behind) (t, all_written text ts)
      (found ∙ ap first_in written ∙ first_is t (all_written text ts) fit.0) in
      record {
        texts = ts;
        written = ap (λ (p : Pair). p.1) is;
        fit = fit.1;
        same = same
            ∙ ap (λ (p : Pair). pointwise nat_eq sought p.0 || has_text sought ts) (sym is);
      }

  none_left : (rest : List ℕ) (texts : List (List ℕ)) → rest ≡ all_written text texts
      → AllFit text texts → has_text sought (texts_in n all) ≡ has_text sought texts
      → None ≡ first_in rest → has_text sought (texts_in n all) ≡ false
  none_left rest [] written fit same found = same
  none_left rest (t ∷ ts) written fit same found =
      absurd (no_pair (t, all_written text ts)
      (found ∙ ap first_in written ∙ first_is t (all_written text ts) fit.0))

  pub front_is : (rest front behind : List ℕ) → IsLeft sought n all rest
      → Some (front, behind) ≡ first_in rest → IsFront sought n all front behind
  front_is rest front behind left found =
      front_of rest front behind left.texts left.written left.fit left.same found

  pub none_is_left : (rest : List ℕ) → IsLeft sought n all rest → None ≡ first_in rest
      → has_text sought (texts_in n all) ≡ false
  none_is_left rest left found = none_left rest left.texts left.written left.fit left.same found

  pub found_here : (front behind : List ℕ) → IsFront sought n all front behind
      → pointwise nat_eq sought front ≡ true → has_text sought (texts_in n all) ≡ true
  found_here front behind is here = is.same ∙ ap (λ b. b || has_text sought is.texts) here

  pub left_behind : (front behind : List ℕ) → IsFront sought n all front behind
      → pointwise nat_eq sought front ≡ false → IsLeft sought n all behind
  left_behind front behind is here = record {
    texts = is.texts;
    written = is.written;
    fit = is.fit;
    same = is.same ∙ ap (λ b. b || has_text sought is.texts) here;
  }

-- ---- texts in two parts

all_written_both : (ts us : List (List ℕ))
    → all_written text (ts ++ us) ≡ all_written text ts ++ all_written text us
all_written_both [] us = refl
all_written_both (t ∷ ts) us =
    ap (λ (bs : List ℕ). text.written t ++ bs) (all_written_both ts us)
    ∙ sym (append_assoc (text.written t) (all_written text ts) (all_written text us))

all_fit_both : (ts us : List (List ℕ)) → AllFit text ts → AllFit text us → AllFit text (ts ++ us)
all_fit_both [] us fit fits = fits
all_fit_both (t ∷ ts) us fit fits = (fit.0, all_fit_both ts us fit.1 fits)

both_parts : (n : ℕ) (front behind : List ℕ) (p : AreTwoParts n front behind)
    → texts_in n (front ++ behind)
    ≡ texts_in p.front_number front ++ texts_in p.behind_number behind
both_parts n front behind p =
    let ts = texts_in p.front_number front in
    let us = texts_in p.behind_number behind in
    let written : front ++ behind ≡ all_written text (ts ++ us) =
    ap (λ (bs : List ℕ). bs ++ behind) p.front_texts.written
    ∙ ap (λ (bs : List ℕ). all_written text ts ++ bs) p.behind_texts.written
    ∙ sym (all_written_both ts us) in
    let number : length (ts ++ us) ≡ n =
    omega (arith, length-append ts us, p.front_texts.number, p.behind_texts.number, p.number) in
    ap (texts_in n) written
    ∙ those n (ts ++ us) number
    (all_fit_both ts us p.front_texts.fit p.behind_texts.fit)

bools_are_a_set : IsSet Bool
bools_are_a_set = hlevel props

module _ (sought : List ℕ) (n : ℕ) (front behind : List ℕ) (are : ∥ AreTwoParts n front behind ∥₁)
    (a : Bool) (is_front : (m : ℕ) → AreTexts m front → a ≡ has_text sought (texts_in m front)) where
  -- a text is in the front, or it is where it is behind
  pub in_front : a ≡ true → true ≡ has_text sought (texts_in n (front ++ behind))
  in_front there =
      ∥∥₁_elim are (bools_are_a_set _ _) (λ p.
      let ts = texts_in p.front_number front in
      let us = texts_in p.behind_number behind in
      ap (λ x. x || has_text sought us)
      (sym there ∙ is_front p.front_number p.front_texts)
      ∙ sym (list_any-append (pointwise nat_eq sought) ts us)
      ∙ ap (has_text sought) (sym (both_parts n front behind p)))

  pub in_behind : a ≡ false → (b : Bool)
      → ((m : ℕ) → AreTexts m behind → b ≡ has_text sought (texts_in m behind))
      → b ≡ has_text sought (texts_in n (front ++ behind))
  in_behind absent b is_behind =
      ∥∥₁_elim are (bools_are_a_set _ _) (λ p.
      let ts = texts_in p.front_number front in
      let us = texts_in p.behind_number behind in
      is_behind p.behind_number p.behind_texts
      ∙ ap (λ x. x || has_text sought us)
      (sym absent ∙ is_front p.front_number p.front_texts)
      ∙ sym (list_any-append (pointwise nat_eq sought) ts us)
      ∙ ap (has_text sought) (sym (both_parts n front behind p)))

-- ---- how the parts grow

pub none_in_parts : ∥ AreTwoParts 0 [] [] ∥₁
none_in_parts =
    ∥∥₁_elim none_are_texts ∥∥₁_prop (λ are. ∣ record {
      front_number = 0;
      behind_number = 0;
      front_texts = are;
      behind_texts = are;
      number = refl;
    } ∣₁)

pub front_alone : (n : ℕ) (bytes : List ℕ) → ∥ AreTexts n bytes ∥₁ → ∥ AreTwoParts n bytes [] ∥₁
front_alone n bytes texts =
    ∥∥₁_elim texts ∥∥₁_prop (λ front. ∥∥₁_elim none_are_texts ∥∥₁_prop (λ none. ∣ record {
      front_number = n;
      behind_number = 0;
      front_texts = front;
      behind_texts = none;
      number = omega arith;
    } ∣₁))

pub one_more_behind : (n : ℕ) (front behind t : List ℕ) → ∥ AreTwoParts n front behind ∥₁
    → text.fits t → ∥ AreTwoParts (n + 1) front (behind ++ text.written t) ∥₁
one_more_behind n front behind t are fits =
    ∥∥₁_elim are ∥∥₁_prop (λ p. ∣ record {
      front_number = p.front_number;
      behind_number = p.behind_number + 1;
      front_texts = p.front_texts;
      behind_texts = one_more p.behind_number behind t p.behind_texts fits;
      number = omega (arith, p.number);
    } ∣₁)
