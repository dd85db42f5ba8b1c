-- One thing comes of a transaction.
use Rattle.std.proofs.Common.{◌≡◌, ◌⊎◌, inl, inr, ℕ, List, [], ◌∷◌, ◌++◌, length}
use Rattle.std.proofs.Common.{append_assoc, reverse, Result, Ok, Err, refl, sym, ap, ◌∙◌, subst}
use Rattle.std.proofs.lemmas.List.{reverse-append}
use Rattle.bean_postings.specs.declared.posting.Posting.{Posting}
use Rattle.bean_interp.specs.Completion.{Completes}
use Rattle.bean_interp.specs.Lacking.{lack_too_much}
use Rattle.bean_interp.specs.declared.fill.Fill.{Fill}
use Rattle.bean_interp.specs.declared.leg.Leg.{Leg}
use Rattle.bean_transactions.specs.Held.{left}
use Rattle.bean_transactions.specs.Lined.{AreLined, IsFirstFault, IsNext, Setting}
use Rattle.bean_transactions.specs.Tried.{IsCompleted, IsIncomplete, LacksOrIsWide, Tries}
use Rattle.bean_transactions.specs.Tried.{completed}
use Rattle.bean_transactions.specs.Tried.{is_outside, legs_of}
use Rattle.bean_transactions.specs.declared.line.Line.{Line}
use Rattle.bean_holdings.specs.declared.posted.Posted.{Posted}
use Rattle.bean_transactions.specs.declared.stop.LineFault.{LineFault}
use Rattle.bean_transactions.proofs.LinedFacts.{reverse_twice}
use Rattle.bean_transactions.proofs.OneFilling.{one_filling, can_be}
use Rattle.bean_transactions.proofs.OneLine.{never_both, one_outcome}

-- ---- how postings end, the latest of which stands first: with lines, or with a fault

abbrev joined : List Line → Result (List Line) LineFault → Result (List Line) LineFault
joined ls (Ok new) = Ok (ls ++ new)
joined ls (Err f) = Err f

abbrev Goes : Setting → Posting → ℕ → Result (List Line) LineFault
    → Result (List Line) LineFault → Type 0
Goes s p n (Err f) r = r ≡ Err f
Goes s p n (Ok ls) r = (new : Result (List Line) LineFault) × IsNext s ls n p new × (r
    ≡ joined ls new)

abbrev Ends : Setting → List Posting → Result (List Line) LineFault → Type 0
Ends s [] r = r ≡ Ok []
Ends s (p ∷ ps) r =
    (before : Result (List Line) LineFault) × Ends s ps before × Goes s p (length ps) before r

one_next : (s : Setting) (p : Posting) (n : ℕ) (before r t : Result (List Line) LineFault)
    → Goes s p n before r → Goes s p n before t → r ≡ t
one_next s p n (Err f) r t h k = h ∙ sym k
one_next s p n (Ok ls) r t h k =
    let new =
    one_outcome (s.method_of p.account) (left p.account s.before ls) s.head p.account p.units
    p.details.cost n p.details.line h.0 k.0 h.1 k.1 in
    h.2 ∙ ap (joined ls) new ∙ sym k.2

one_end : (s : Setting) (ps : List Posting) (r t : Result (List Line) LineFault)
    → Ends s ps r → Ends s ps t → r ≡ t
one_end s [] r t h k = h ∙ sym k
one_end s (p ∷ ps) r t h k =
    let before = one_end s ps k.0 h.0 k.1 h.1 in
    one_next s p (length ps) h.0 r t h.2
    (subst (λ b. Goes s p (length ps) b t) before k.2)

lined_ends : (s : Setting) (ps : List Posting) (ls : List Line) → AreLined s ps ls
    → Ends s ps (Ok ls)
lined_ends s [] ls h = ap Ok h
lined_ends s (p ∷ ps) ls h = (Ok h.0, lined_ends s ps h.0 h.2, (Ok h.1, h.3, ap Ok h.4))

fault_stays : (s : Setting) (later ps : List Posting) (f : LineFault) → Ends s ps (Err f)
    → Ends s (later ++ ps) (Err f)
fault_stays s [] ps f h = h
fault_stays s (q ∷ later) ps f h = (Err f, fault_stays s later ps f h, refl)

turned : (earlier later : List Posting) (p : Posting)
    → reverse (reverse earlier ++ p ∷ later) ≡ reverse later ++ p ∷ earlier
turned earlier later p =
    reverse-append (reverse earlier) (p ∷ later)
    ∙ ap (λ l. reverse (p ∷ later) ++ l) (reverse_twice earlier)
    ∙ ap (λ l. l ++ earlier) (reverse-append (p ∷ []) later)
    ∙ append_assoc (reverse later) (p ∷ []) earlier

fault_ends : (s : Setting) (ps : List Posting) (f : LineFault) → IsFirstFault s ps f
    → Ends s (reverse ps) (Err f)
fault_ends s ps f h =
    subst (λ l. Ends s l (Err f)) (sym (ap reverse h.split ∙ turned h.earlier h.later h.at))
    (fault_stays s (reverse h.later) (h.at ∷ h.earlier) f
    (Ok h.lines, lined_ends s h.earlier h.lines h.lined, (Err f, h.fault, refl)))

abbrev Lines : Type 0
Lines = Result (List Line) LineFault

abbrev same : Lines → Lines → Type 0
same a b = a ≡ b

ok_is : (x y : List Line) → same (Ok x) (Ok y) → x ≡ y
ok_is x y e = cc

err_is : (x y : LineFault) → same (Err x) (Err y) → x ≡ y
err_is x y e = cc

differ : (x : List Line) (y : LineFault) → same (Ok x) (Err y) → ⊥
differ x y e = cc

one_lines : (s : Setting) (ps : List Posting) (ls ms : List Line) → AreLined s ps ls
    → AreLined s ps ms → ls ≡ ms
one_lines s ps ls ms h k =
    ok_is ls ms (one_end s ps (Ok ls) (Ok ms) (lined_ends s ps ls h) (lined_ends s ps ms k))

not_both : (s : Setting) (ps : List Posting) (ls : List Line) (f : LineFault)
    → AreLined s (reverse ps) ls → IsFirstFault s ps f → ⊥
not_both s ps ls f h k =
    differ ls f
    (one_end s (reverse ps) (Ok ls) (Err f) (lined_ends s (reverse ps) ls h)
    (fault_ends s ps f k))

-- ---- completion

one_completed : (ps : List Posting) (ls : List Line) (qs us : List Posted) → IsCompleted ps ls qs
    → IsCompleted ps ls us → qs ≡ us
one_completed ps ls qs us h k =
    h.posted_is
    ∙ ap (λ fs. completed fs ls)
    (one_filling (legs_of ps ls) h.fills k.fills h.completes.2 k.completes.2)
    ∙ sym k.posted_is

incomplete : (n : ℕ) (legs : List Leg) (fs : List Fill) (f : LineFault) → Completes legs (Ok fs)
    → LacksOrIsWide n legs f → ⊥
incomplete n legs fs f h (inl lacks) = never_both (lack_too_much legs) lacks.0 h.0
incomplete n legs fs f h (inr wide) = wide.0.1 (h.1, can_be legs fs h.2)

one_lack : (n : ℕ) (legs : List Leg) (f g : LineFault) → LacksOrIsWide n legs f
    → LacksOrIsWide n legs g → f ≡ g
one_lack n legs f g (inl h) (inl k) = h.1 ∙ sym k.1
one_lack n legs f g (inr h) (inr k) = h.1 ∙ sym k.1
one_lack n legs f g (inl h) (inr k) = absurd (never_both (lack_too_much legs) h.0 k.0.0)
one_lack n legs f g (inr h) (inl k) = absurd (never_both (lack_too_much legs) k.0 h.0.0)

-- ---- the whole

kept_or_not : (s : Setting) (ps : List Posting) (posted : List Posted) (f : LineFault)
    → Tries s ps (Ok posted) → Tries s ps (Err f) → ⊥
kept_or_not s ps posted f h (inl outside) = never_both (is_outside ps) outside.0 h.0
kept_or_not s ps posted f h (inr (inside, inl fault)) = not_both s ps h.1.lines f h.1.lined fault
kept_or_not s ps posted f h (inr (inside, inr lacks)) =
    let same = one_lines s (reverse ps) lacks.lines h.1.lines lacks.lined h.1.lined in
    incomplete s.head.line (legs_of ps h.1.lines) h.1.completed.fills f h.1.completed.completes
    (subst (λ ls. LacksOrIsWide s.head.line (legs_of ps ls) f) same lacks.why)

one_fault : (s : Setting) (ps : List Posting) (f g : LineFault)
    → IsFirstFault s ps f ⊎ IsIncomplete s ps f → IsFirstFault s ps g ⊎ IsIncomplete s ps g → f ≡ g
one_fault s ps f g (inl h) (inl k) =
    err_is f g
    (one_end s (reverse ps) (Err f) (Err g) (fault_ends s ps f h) (fault_ends s ps g k))
one_fault s ps f g (inl h) (inr k) = absurd (not_both s ps k.lines f k.lined h)
one_fault s ps f g (inr h) (inl k) = absurd (not_both s ps h.lines g h.lined k)
one_fault s ps f g (inr h) (inr k) =
    let same = one_lines s (reverse ps) k.lines h.lines k.lined h.lined in
    one_lack s.head.line (legs_of ps h.lines) f g h.why
    (subst (λ ls. LacksOrIsWide s.head.line (legs_of ps ls) g) same k.why)

pub one_trial : (s : Setting) (ps : List Posting) (r t : Result (List Posted) LineFault)
    → Tries s ps r → Tries s ps t → r ≡ t
one_trial s ps (Ok qs) (Ok us) h k =
    let same = one_lines s (reverse ps) k.1.lines h.1.lines k.1.lined h.1.lined in
    ap Ok
    (one_completed ps h.1.lines qs us h.1.completed
    (subst (λ ls. IsCompleted ps ls us) same k.1.completed))
one_trial s ps (Ok qs) (Err g) h k = absurd (kept_or_not s ps qs g h k)
one_trial s ps (Err f) (Ok us) h k = absurd (kept_or_not s ps us f k h)
one_trial s ps (Err f) (Err g) (inl h) (inl k) = ap Err (h.1 ∙ sym k.1)
one_trial s ps (Err f) (Err g) (inl h) (inr k) = absurd (never_both (is_outside ps) h.0 k.0)
one_trial s ps (Err f) (Err g) (inr h) (inl k) = absurd (never_both (is_outside ps) k.0 h.0)
one_trial s ps (Err f) (Err g) (inr h) (inr k) = ap Err (one_fault s ps f g h.1 k.1)
