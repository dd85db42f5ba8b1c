-- Texts that are handed over in pieces.
use Rattle.std.proofs.Common.{◌≡◌, ℕ, ◌+◌, ◌<◌, ◌≤◌, true, false, List, [], ◌∷◌, ◌++◌, nat_lt, length}
use Rattle.std.proofs.Common.{take, drop, suc, arith, refl, sym, ap, subst, ◌∙◌, append_assoc, length-drop}
use Rattle.std.proofs.Common.{⊎_elim, Result, Ok, Err, true≢false}
use Rattle.std.specs.Result.{IsErr, OnErr, OnOk, is_ok}
use Rattle.std.proofs.Math.Seq.{take-suc, take-append-add, drop-append-add, take-length}
use Rattle.std.proofs.lemmas.Bool.{cases_lt}
use Rattle.std.proofs.lemmas.Bool.Decides.{nat_tests}
use Rattle.std.proofs.lemmas.List.{append-nil, length-append, take-append-drop, take-append-le, drop-append-le}
use Rattle.std.proofs.lemmas.List.Concat.{flat_map-cons}
use Rattle.std.proofs.lemmas.Grind.{flat_map-append}
use Rattle.std.proofs.Math.ListN.{get_or}
use Rattle.std.specs.List.{flat_map}
use Rattle.outputs.specs.Output.{RefusesSome, Took, TookFront, TookInPieces, no_call, one_more}
use Rattle.outputs.specs.Pieces.{AreJoined, EndsEarly, IsOnePiece, Pieces, Puts, Stands, Stopped, Waits}
use Rattle.outputs.specs.Refusals.{refusals_behind}
use Rattle.outputs.specs.declared.output.NotTaken.{NotTaken}
use Rattle.outputs.specs.declared.output.Output.{Ghosts as OutputOf}

-- ---- laws

pub one_piece : {W : Type 0} (o : OutputOf W) → IsOnePiece o
one_piece o old new text n t = record {
  within = t.within;
  middle = t.middle;
  took = t.took;
  refused = λ lt. record {
    offered = drop n text;
    behind = [];
    is = sym (append-nil (drop n text));
    some = omega (arith, lt, length-drop n text);
    refuses = t.refused lt;
  };
  whole = t.whole;
  counted = t.counted;
}

module _ {W : Type 0} (o : OutputOf W) where
  took_both : (a b c : W) (xs ys : List ℕ) → Took o a b xs → Took o b c ys → Took o a c (xs ++ ys)
  took_both a b c xs ys first (no_call w) = subst (Took o a w) (sym (append-nil xs)) first
  took_both a b c xs ys first (one_more _ middle last before offered n rest told) =
      subst (Took o a last) (append_assoc xs before (take n offered))
      (one_more a middle last (xs ++ before) offered n (took_both a b middle xs before first rest) told)

lt_same : (n : ℕ) → nat_lt n n ≡ false
lt_same n = grind (arith, nat_tests)

lt_behind : (a n b c : ℕ) → c ≡ a + b → nat_lt (a + n) c ≡ nat_lt n b
lt_behind a n b c is = ⊎_elim below above (cases_lt n b)
  where
    below : n < b → nat_lt (a + n) c ≡ nat_lt n b
    below lt =
        let one : nat_lt (a + n) c ≡ true = grind (arith, nat_tests, lt, is) in
        let other : nat_lt n b ≡ true = grind (arith, nat_tests, lt) in
        one ∙ sym other

    above : b ≤ n → nat_lt (a + n) c ≡ nat_lt n b
    above le =
        let one : nat_lt (a + n) c ≡ false = grind (arith, nat_tests, le, is) in
        let other : nat_lt n b ≡ false = grind (arith, nat_tests, le) in
        one ∙ sym other

pub joined : {W : Type 0} (o : OutputOf W) → AreJoined o
joined o old middle new first second n f s = record {
  within = omega (arith, length-append first second, s.within);
  middle = s.middle;
  took = subst (Took o old s.middle) (sym (take-append-add first second n))
      (took_both o old middle s.middle first (take n second) first_taken s.took);
  refused = λ lt. subst (RefusesSome o s.middle new) (sym (drop-append-add first second n))
      (s.refused (omega (arith, lt, length-append first second)));
  whole = λ is. s.whole (omega (arith, is, length-append first second));
  counted =
      s.counted ∙ ap (λ k. refusals_behind k (nat_lt n (length second))) first_counted
      ∙ ap (refusals_behind (o.refusals old))
      (sym (lt_behind (length first) n (length second) _ (length-append first second)));
}
  where
    first_taken : Took o old middle first
    first_taken = subst (λ w. Took o old w first) (sym (f.whole refl))
        (subst (Took o old f.middle) (take-length first) f.took)

    first_counted : o.refusals middle ≡ o.refusals old
    first_counted = f.counted ∙ ap (refusals_behind (o.refusals old)) (lt_same (length first))

pub early : {W : Type 0} (o : OutputOf W) → EndsEarly o
early o old new first second n f lt = record {
  within = omega (arith, length-append first second, f.within);
  middle = f.middle;
  took = subst (Took o old f.middle) (sym (take-append-le n first second f.within)) f.took;
  refused = λ _. let r = f.refused lt in record {
    offered = r.offered;
    behind = r.behind ++ second;
    is = drop-append-le n first second f.within ∙ ap (λ l. l ++ second) r.is
        ∙ append_assoc r.offered r.behind second;
    some = r.some;
    refuses = r.refuses;
  };
  whole = λ is. absurd (omega (arith, is, lt, length-append first second));
  counted = f.counted ∙ ap (refusals_behind (o.refusals old)) same;
}
  where
    same : nat_lt n (length first) ≡ nat_lt n (length (first ++ second))
    same =
        let one : nat_lt n (length first) ≡ true = grind (arith, nat_tests, lt) in
        let longer : n < length (first ++ second) = omega (arith, lt, length-append first second) in
        let other : nat_lt n (length (first ++ second)) ≡ true = grind (arith, nat_tests, longer) in
        one ∙ sym other

-- ---- what is put

module _ {W : Type 0} (o : OutputOf W) (start : W) where
  -- a piece waits behind what waits
  pub more : (now : W) (p q : Pieces) (text piece : List ℕ) → q.waiting ≡ p.waiting ++ piece
      → q.taken ≡ p.taken → Waits o start now p text → Waits o start now q (text ++ piece)
  more now p q text piece waiting taken w = record {
    front = w.front;
    is = ap (λ l. l ++ piece) w.is ∙ append_assoc w.front p.waiting piece
        ∙ ap (λ l. w.front ++ l) (sym waiting);
    took = subst (TookInPieces o start now w.front) (sym taken) w.took;
    whole = taken ∙ w.whole;
  }

  -- so much of what waits is taken
  handed : (before after : W) (p : Pieces) (text : List ℕ) (n : ℕ) → Waits o start before p text
      → TookFront o before after p.waiting n → TookInPieces o start after text (p.taken + n)
  handed before after p text n w t =
      subst (λ k. TookInPieces o start after text (k + n)) (sym w.whole)
      (subst (λ l. TookInPieces o start after l (length w.front + n)) (sym w.is)
      (joined o start before after w.front p.waiting n
      (subst (TookInPieces o start before w.front) w.whole w.took)
      (one_piece o before after p.waiting n t)))

  pub length_is : (now : W) (p : Pieces) (text : List ℕ) → Waits o start now p text
      → length text ≡ p.taken + length p.waiting
  length_is now p text w =
      ap length w.is ∙ length-append w.front p.waiting
      ∙ ap (λ k. k + length p.waiting) (sym w.whole)

  pub stopped : (before after : W) (p : Pieces) (text : List ℕ) (n : ℕ) → Waits o start before p text
      → TookFront o before after p.waiting n → n < length p.waiting
      → TookInPieces o start after text (p.taken + n) × (p.taken + n < length text)
  stopped before after p text n w t lt =
      (handed before after p text n w t, omega (arith, lt, length_is before p text w))

  pub flushed : (before after : W) (p q : Pieces) (text : List ℕ) (n : ℕ)
      → Waits o start before p text → TookFront o before after p.waiting n → length p.waiting ≤ n
      → q.waiting ≡ [] → q.taken ≡ p.taken + n → Waits o start after q text
  flushed before after p q text n w t le none taken = record {
    front = text;
    is = sym (append-nil text) ∙ ap (λ l. text ++ l) (sym none);
    took = subst (TookInPieces o start after text) (sym taken) (handed before after p text n w t);
    whole = omega (arith, taken, le, t.within, length_is before p text w);
  }

  -- behind a refusal no piece is taken
  pub stays : (after : W) (p : Pieces) (text piece : List ℕ) (result : Result Unit NotTaken)
      → IsErr result → Stopped o start after p text → Stands o start after p (text ++ piece) result
  stays after p text piece (Ok x) is s = absurd (true≢false (sym is))
  stays after p text piece (Err e) is s = (
    early o start after text piece p.taken s.0 s.1,
    omega (arith, s.1, length-append text piece),
  )

  -- nothing was put yet
  pub nothing : Waits o start start (record { waiting = []; taken = 0 }) []
  nothing = record {
    front = [];
    is = refl;
    took = record {
      within = omega arith;
      middle = start;
      took = no_call start;
      refused = λ lt. absurd (omega (arith, lt));
      whole = λ _. refl;
      counted = refl;
    };
    whole = refl;
  }

  -- once nothing waits, so much was taken of the text
  pub told : (after : W) (p : Pieces) (text : List ℕ) (result : Result Unit NotTaken)
      → Stands o start after p text result → OnOk result (p.waiting ≡ [])
      → TookInPieces o start after text p.taken
  told after p text (Ok x) w none =
      subst (λ l. TookInPieces o start after l p.taken)
      (sym (w.is ∙ ap (λ l. w.front ++ l) none ∙ append-nil w.front)) w.took
  told after p text (Err e) s none = s.0

-- whichever the text so far is, with the piece behind it it waits; or the output refuses
abbrev pub MovesOn : {W : Type 0} → OutputOf W → W → W → Pieces → Pieces → List ℕ → Type 0
MovesOn {W} o a b p q xs =
    (start : W) (text : List ℕ) → Waits o start a p text → Waits o start b q (text ++ xs)

abbrev pub Stops : {W : Type 0} → OutputOf W → W → W → Pieces → Pieces → List ℕ → Type 0
Stops {W} o a b p q xs =
    (start : W) (text : List ℕ) → Waits o start a p text → Stopped o start b q (text ++ xs)

module _ {W : Type 0} (o : OutputOf W) where
  -- a piece behind a piece
  pub puts_both : (a b c : W) (p q r : Pieces) (xs ys : List ℕ) (result : Result Unit NotTaken)
      → MovesOn o a b p q xs → Puts o b c q r ys result → Puts o a c p r (xs ++ ys) result
  puts_both a b c p q r xs ys result first second start text w =
      subst (λ t. Stands o start c r t result) (append_assoc text xs ys)
      (second start (text ++ xs) (first start text w))

  -- a piece at which it stops, and one behind it
  pub puts_none : (a b : W) (p q : Pieces) (xs ys : List ℕ) (result : Result Unit NotTaken)
      → IsErr result → Stops o a b p q xs → Puts o a b p q (xs ++ ys) result
  puts_none a b p q xs ys result is first start text w =
      subst (λ t. Stands o start b q t result) (append_assoc text xs ys)
      (stays o start b q (text ++ xs) ys result is (first start text w))

-- ---- lists of pieces

module _ {X A : Type 0} (f : X → List A) (xs : List X) (i : ℕ) (d : X) (within : i < length xs) where
  pub one_longer : flat_map f (take (i + 1) xs) ≡ flat_map f (take i xs) ++ f (get_or xs i d)
  one_longer =
      ap (λ k. flat_map f (take k xs)) next ∙ ap (flat_map f) (take-suc xs i d within)
      ∙ flat_map-append f (take i xs) (get_or xs i d ∷ [])
      ∙ ap (λ l. flat_map f (take i xs) ++ l)
      (flat_map-cons f (get_or xs i d) [] ∙ append-nil (f (get_or xs i d)))
    where
      next : i + 1 ≡ suc i
      next = omega arith

  pub parted : flat_map f xs
      ≡ (flat_map f (take i xs) ++ f (get_or xs i d)) ++ flat_map f (drop (i + 1) xs)
  parted =
      sym (ap (flat_map f) (take-append-drop (i + 1) xs))
      ∙ flat_map-append f (take (i + 1) xs) (drop (i + 1) xs)
      ∙ ap (λ l. l ++ flat_map f (drop (i + 1) xs)) one_longer

-- a call that didn't succeed failed
pub failed : {T E : Type 0} (result : Result T E) (P : Type 0) → is_ok result ≡ false → OnErr result P → P
failed (Ok x) P is h = absurd (true≢false is)
failed (Err e) P is h = h
