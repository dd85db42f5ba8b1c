-- Something comes of each transaction.
use Rattle.std.proofs.Common.{◌≡◌, ◌⊎◌, inl, inr, ℕ, Bool, true, false, ◌||◌, List, [], ◌∷◌, ◌++◌}
use Rattle.std.proofs.Common.{map, length, append_assoc, reverse, Result, Ok, Err, refl, sym, ap}
use Rattle.std.proofs.Common.{◌∙◌, subst}
use Rattle.std.specs.List.{AllByRecursion, list_any}
use Rattle.std.proofs.lemmas.List.{append-nil, reverse-append}
use Rattle.bean_base.specs.declared.fault.FaultKind.TheVariants as kind
use Rattle.bean_base.specs.declared.num.Num.{Num}
use Rattle.bean_interp.specs.Completion.{CanBeFilled, Fills, gap_of, gaps}
use Rattle.bean_interp.specs.Lacking.{lack_too_much}
use Rattle.bean_interp.specs.Residual.{AreInRange}
use Rattle.bean_interp.specs.declared.fill.Fill.{Fill}
use Rattle.bean_interp.specs.declared.leg.Leg.{Leg}
use Rattle.bean_postings.specs.Posting.{is_outside_profile}
use Rattle.bean_postings.specs.declared.posting.Posting.{Posting}
use Rattle.bean_transactions.specs.Lined.{AreLined, IsFirstFault, IsNext, Setting, fault_at}
use Rattle.bean_transactions.specs.Tried.{Tries, completed, is_outside, legs_of}
use Rattle.bean_transactions.specs.declared.line.Line.{Line}
use Rattle.bean_holdings.specs.declared.posted.Posted.{Posted}
use Rattle.bean_transactions.specs.declared.stop.LineFault.{LineFault}
use Rattle.bean_transactions.proofs.EachLine.{Comes, comes, behind, either_way, each_next}
use Rattle.bean_transactions.proofs.LinedFacts.{reverse_twice}

-- ---- the lines of all postings, or the first fault of one

abbrev Come : Setting → List Posting → Type 0
Come s ps =
    ((ls : List Line) × AreLined s (reverse ps) ls) ⊎ ((f : LineFault) × IsFirstFault s ps f)

neither_first : (a b : Bool) → (a || b) ≡ false → a ≡ false
neither_first true b h = cc
neither_first false b h = refl

neither_last : (a b : Bool) → (a || b) ≡ false → b ≡ false
neither_last true b h = cc
neither_last false b h = h

one_more : (earlier later : List Posting) (p : Posting)
    → reverse earlier ++ p ∷ later ≡ reverse (p ∷ earlier) ++ later
one_more earlier later p =
    sym
    (ap (λ l. l ++ later) (reverse-append (p ∷ []) earlier)
    ∙ append_assoc (reverse earlier) (p ∷ []) later)

all_earlier : (ps earlier : List Posting) → ps ≡ reverse earlier ++ [] → earlier ≡ reverse ps
all_earlier ps earlier e =
    sym (ap reverse (e ∙ append-nil (reverse earlier)) ∙ reverse_twice earlier)

lines_come :
    (s : Setting) (ps earlier later : List Posting) (ls : List Line)
    → ps ≡ reverse earlier ++ later → AreLined s earlier ls
    → list_any is_outside_profile later ≡ false → Comes (Come s ps)
lines_come s ps earlier [] ls e lined inside =
    comes (inl (ls, subst (λ l. AreLined s l ls) (all_earlier ps earlier e) lined))
lines_come s ps earlier (p ∷ later) ls e lined inside =
    behind (each_next s ls (length earlier) p (neither_first (is_outside_profile p) _ inside))
    (go
    (λ new next. lines_come s ps (p ∷ earlier) later (ls ++ new) (e ∙ one_more earlier later p)
    (ls, new, lined, next, refl) (neither_last (is_outside_profile p) _ inside)))
  where
    go :
        ((new : List Line) → IsNext s ls (length earlier) p (Ok new) → Comes (Come s ps))
        → (r : Result (List Line) LineFault) × IsNext s ls (length earlier) p r
        → Comes (Come s ps)
    go rest (Ok new, next) = rest new next
    go rest (Err f, next) = comes (inr (
      f,
      record {
        earlier = earlier;
        at = p;
        later = later;
        split = e;
        lines = ls;
        lined = lined;
        fault = next;
      },
    ))

-- ---- their completion

fills_of :
    (legs : List Leg) (gs : List (ℕ × List ℕ))
    → AllByRecursion (λ g. (n : Num) × Fills legs g.1 n) gs
    → (fs : List Fill) × (map gap_of fs ≡ gs)
    × AllByRecursion (λ f. Fills legs f.amount.currency f.amount.number) fs
fills_of legs [] h = ([], refl, tt)
fills_of legs (g ∷ gs) h =
    let rest = fills_of legs gs h.1 in
    let fill : Fill = record { leg = g.0; amount = record { number = h.0.0; currency = g.1 } } in
    (fill ∷ rest.0, ap (λ l. g ∷ l) rest.1, (h.0.1, rest.2))

abbrev Tried : Setting → List Posting → Type 0
Tried s ps = (r : Result (List Posted) LineFault) × Tries s ps r

completion_comes :
    (s : Setting) (ps : List Posting) (ls : List Line) → is_outside ps ≡ false
    → AreLined s (reverse ps) ls → Comes (Tried s ps)
completion_comes s ps ls inside lined = by (lack_too_much legs) refl
  where
    legs : List Leg
    legs = legs_of ps ls

    filled : lack_too_much legs ≡ false
        → (AreInRange legs × CanBeFilled legs) ⊎ (¬ (AreInRange legs × CanBeFilled legs))
        → Tried s ps
    filled enough (inl can) =
        let fills = fills_of legs (gaps legs) can.1 in (
          Ok (completed fills.0 ls),
          (
            inside,
            record {
              lines = ls;
              lined = lined;
              completed = record {
                fills = fills.0;
                completes =
                    (enough, can.0, record { gaps_are = fills.1; are_due = fills.2 });
                posted_is = refl;
              };
            },
          ),
        )
    filled enough (inr wide) = (
      Err (fault_at kind.TooWide s.head.line),
      inr (
        inside,
        inr record {
          lines = ls;
          lined = lined;
          why = inr ((enough, wide), refl);
        },
      ),
    )

    by : (b : Bool) → lack_too_much legs ≡ b → Comes (Tried s ps)
    by true much =
        comes (
          Err (fault_at kind.SeveralMissingAmounts s.head.line),
          inr (
            inside,
            inr record {
              lines = ls;
              lined = lined;
              why = inl (much, refl);
            },
          ),
        )
    by false enough =
        behind (either_way (AreInRange legs × CanBeFilled legs)) (λ way. comes (filled enough way))

-- ---- the whole

pub each_trial : (s : Setting) (ps : List Posting) → Comes (Tried s ps)
each_trial s ps = by (is_outside ps) refl
  where
    go : is_outside ps ≡ false → Come s ps → Comes (Tried s ps)
    go inside (inl h) = completion_comes s ps h.0 inside h.1
    go inside (inr h) = comes (Err h.0, inr (inside, inl h.1))

    by : (b : Bool) → is_outside ps ≡ b → Comes (Tried s ps)
    by true outside =
        comes (Err (fault_at kind.OutsideProfile s.head.line), inl (outside, refl))
    by false inside =
        behind (lines_come s ps [] ps [] refl refl inside) (go inside)

pub none_is_left : (s : Setting) (ps : List Posting)
    → ¬ ((r : Result (List Posted) LineFault) → ¬ Tries s ps r)
none_is_left s ps k = each_trial s ps (λ h. k h.0 h.1)
