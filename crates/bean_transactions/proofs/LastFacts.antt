-- Transactions that are booked as they are written, but for the last posting, which lacks its amount.
use Rattle.std.proofs.Common.{◌≡◌, inr, ℕ, ◌==◌, false, true, cond, List, [], ◌∷◌, ◌++◌, drop}
use Rattle.std.proofs.Common.{filter, get_or, length, map, None, Some, slice_get}
use Rattle.std.proofs.Common.{reverse, Ok, Err, refl, sym, ap, ◌∙◌, subst, arith, length-append}
use Rattle.std.proofs.lemmas.List.{length-map, length-reverse, map-append, reverse-append}
use Rattle.std.proofs.Math.Seq.{get_or-append_seam}
use Rattle.std.proofs.lemmas.Bool.{eq-eqb}
use Rattle.std.proofs.lemmas.Option.{slice_get-get_or}
use Rattle.bean_interp.specs.Balance.{is_balanced}
use Rattle.bean_interp.specs.Completion.{AreFills, Completes, gap_of}
use Rattle.bean_interp.specs.Filled.{AreOfFills, IsOfFill}
use Rattle.bean_interp.specs.Residual.{lacking}
use Rattle.bean_interp.specs.declared.fill.Fill.{Fill}
use Rattle.bean_interp.specs.declared.leg.Leg.TheVariants as leg
use Rattle.bean_interp.proofs.LastEvened.{balanced_last}
use Rattle.bean_interp.proofs.LastFacts.{gaps_behind, lacking_last}
use Rattle.bean_postings.specs.declared.price.Price.TheVariants as price
use Rattle.bean_postings.specs.declared.posting.Posting.{Posting}
use Rattle.bean_postings.specs.declared.posting.Units.TheVariants.{Missing}
use Rattle.bean_holdings.specs.declared.posted.Posted.{Posted}
use Rattle.bean_transactions.specs.Held.{left}
use Rattle.bean_transactions.specs.Lined.{AreLined, IsLinedByUnits, IsNext, Setting}
use Rattle.bean_transactions.specs.Outcome.{StopsAt}
use Rattle.bean_transactions.specs.Plain.{AreAsWritten}
use Rattle.bean_transactions.specs.Tried.{IsKept, LacksOrIsWide, Tries, booked_leg, booked_legs}
use Rattle.bean_transactions.specs.Tried.{decimals_of, filled_at, filled_in, is_outside, leg_of}
use Rattle.bean_transactions.specs.Tried.{legs_of, number_in, posts_from, whole_at, worth_of}
use Rattle.bean_transactions.specs.declared.line.Line.{Line}
use Rattle.bean_transactions.specs.declared.line.Line.TheVariants as line
use Rattle.bean_transactions.specs.declared.stop.LineFault.{LineFault}
use Rattle.refusals.specs.declared.refusal.Refusal.{Refusal}
use Rattle.refusals.specs.declared.refusal.Refusal.TheVariants as stop
use Rattle.bean_transactions.proofs.CompletedFacts.{posts_more}
use Rattle.bean_transactions.proofs.LinedFacts.{reverse_twice}
use Rattle.bean_transactions.proofs.PlainFacts.{as_many, legs_as_written, lined_as_written, lines_as}
use Rattle.bean_transactions.proofs.PlainFacts.{all_whole, posts_as_written}

-- lists that are equal end alike
pub same_last : {X : Type 0} (xs ys : List X) (x y : X) → xs ++ x ∷ [] ≡ ys ++ y ∷ [] → x ≡ y
same_last xs ys x y e =
    let turned : x ∷ reverse xs ≡ y ∷ reverse ys =
    sym (reverse-append xs (x ∷ [])) ∙ ap reverse e ∙ reverse-append ys (y ∷ []) in
    ap (λ l. get_or l 0 x) turned

-- what stands before the last
pub same_front : {X : Type 0} (xs ys : List X) (x y : X) → xs ++ x ∷ [] ≡ ys ++ y ∷ [] → xs ≡ ys
same_front xs ys x y e =
    let turned : x ∷ reverse xs ≡ y ∷ reverse ys =
    sym (reverse-append xs (x ∷ [])) ∙ ap reverse e ∙ reverse-append ys (y ∷ []) in
    sym (reverse_twice xs) ∙ ap reverse (ap (drop 1) turned) ∙ reverse_twice ys

-- what is filled in at one leg alone
all_at : (n : ℕ) (cs : List (List ℕ)) (fills : List Fill) → map gap_of fills ≡ map (λ c. (n, c)) cs
    → filter (λ f. f.leg == n) fills ≡ fills
all_at n cs [] are = refl
all_at n [] (f ∷ fills) are = cc
all_at n (c ∷ cs) (f ∷ fills) are =
    let own : f.leg ≡ n = ap (λ (gs : List (ℕ × List ℕ)). (get_or gs 0 (n, c)).0) are in
    let rest : map gap_of fills ≡ map (λ c. (n, c)) cs = ap (drop 1) are in
    ap (λ b. cond b (f ∷ filter (λ f. f.leg == n) fills) (filter (λ f. f.leg == n) fills))
    (eq-eqb f.leg n own)
    ∙ ap (λ fs. f ∷ fs) (all_at n cs fills rest)

module _ (ps front : List Posting) (last : Posting) (qs : List Posted)
    (parts : ps ≡ front ++ last ∷ []) (lacks : last.units ≡ Missing)
    (are : AreAsWritten (reverse front) qs) where
  abbrev n : ℕ
  n = length front

  abbrev gap : Line
  gap = line.MissingAmount last.account n

  abbrev lines : List Line
  lines = lines_as qs ++ gap ∷ []

  -- ---- what comes of them

  next : (s : Setting) → IsNext s (lines_as qs) (length (reverse front)) last (Ok (gap ∷ []))
  next s =
      let m = s.method_of last.account in
      let rest = left last.account s.before (lines_as qs) in
      subst (λ i. IsNext s (lines_as qs) i last (Ok (gap ∷ []))) (sym (length-reverse front))
      (subst
      (λ u. IsLinedByUnits m rest s.head last.account u last.details.cost n last.details.line
      (Ok (gap ∷ []))) (sym lacks) refl)

  lined : (s : Setting) → AreLined s (reverse ps) lines
  lined s =
      subst (λ l. AreLined s l lines) (sym (ap reverse parts ∙ reverse-append front (last ∷ []))) (
        lines_as qs,
        gap ∷ [],
        lined_as_written s (reverse front) qs are,
        next s,
        refl,
      )

  pub many : length qs ≡ n
  many = as_many (reverse front) qs are ∙ length-reverse front

  legs : legs_of ps lines ≡ lacking_last (booked_legs ps qs)
  legs =
      map-append (leg_of ps) (lines_as qs) (gap ∷ [])
      ∙ ap (λ l. l ++ leg.MissingAmount ∷ []) (legs_as_written ps qs)

  posts : (fills : List Fill)
      → qs ++ filled_at fills n last.account n ≡ posts_from fills 0 lines
  posts fills =
      let count = many in
      let as_lines = length-map qs (λ q. line.Posted q) in
      sym (posts_more fills 0 (lines_as qs) gap n (omega (arith, count, as_lines))
      ∙ ap (λ l. l ++ filled_at fills n last.account n) (posts_as_written fills 0 qs))

  -- ---- the whole

  pub kept_lacking : (s : Setting) (fills : List Fill)
      → Completes (lacking_last (booked_legs ps qs)) (Ok fills)
      → IsKept s ps (qs ++ filled_at fills n last.account n)
  kept_lacking s fills completes = record {
    lines = lines;
    lined = lined s;
    completed = record {
      fills = fills;
      completes = subst (λ legs. Completes legs (Ok fills)) (sym legs) completes;
      posted_is = posts fills;
    };
  }

  pub stopped_lacking : (s : Setting) (e : Refusal LineFault) → is_outside ps ≡ false
      → StopsAt (LacksOrIsWide s.head.line (lacking_last (booked_legs ps qs))) e
      → StopsAt (λ f. Tries s ps (Err f)) e
  stopped_lacking s (stop.Refused f) inside why =
      inr (
        inside,
        inr (record {
          lines = lines;
          lined = lined s;
          why = subst (λ l. LacksOrIsWide s.head.line l f) (sym legs) why;
        }),
      )
  stopped_lacking s stop.OutOfMemory inside why = tt

  -- ---- once it has taken what they lack, it balances

  module _ (fills : List Fill) (filled : AreFills (lacking_last (booked_legs ps qs)) fills)
      (priceless : last.details.price ≡ price.Absent) where
    here : slice_get ps n ≡ Some last
    here =
        let longer = length-append front (last ∷ []) in
        ap (λ l. slice_get l n) parts
        ∙ slice_get-get_or (front ++ last ∷ []) n last (omega (arith, longer))
        ∙ ap Some (get_or-append_seam front last [] last)

    leg_of_fill : (f : Fill)
        → IsOfFill f (booked_leg ps (filled_in last.account n f))
    leg_of_fill f =
        subst (λ o. IsOfFill f (leg.Whole (whole_at o (filled_in last.account n f)))) (sym here) (
          refl,
          ap (worth_of None) priceless,
          ap (λ u. decimals_of (number_in u)) lacks,
        )

    legs_of_fills : (fs : List Fill)
        → AreOfFills fs (map (booked_leg ps) (map (filled_in last.account n) fs))
    legs_of_fills [] = tt
    legs_of_fills (f ∷ fs) = (leg_of_fill f, legs_of_fills fs)

    all_there : filter (λ f. f.leg == n) fills ≡ fills
    all_there =
        all_at n (lacking (lacking_last (booked_legs ps qs))) fills
        (filled.gaps_are
        ∙ gaps_behind (lacking_last (booked_legs ps qs)) (booked_legs ps qs) 0 n (all_whole ps qs)
        (let count = many in
        let as_legs = length-map qs (booked_leg ps) in omega (arith, count, as_legs)))

    pub balanced_lacking
        : is_balanced (booked_legs ps (qs ++ filled_at fills n last.account n)) ≡ true
    balanced_lacking =
        ap is_balanced
        (map-append (booked_leg ps) qs (filled_at fills n last.account n)
        ∙ ap (λ fs. booked_legs ps qs ++ map (booked_leg ps) (map (filled_in last.account n) fs))
        all_there)
        ∙ balanced_last (booked_legs ps qs) (all_whole ps qs) fills filled
        (map (booked_leg ps) (map (filled_in last.account n) fills)) (legs_of_fills fills)
