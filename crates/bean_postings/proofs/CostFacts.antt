-- How costs are read.
use Rattle.std.proofs.Common.{◌≡◌, Bool, true, false, ◌||◌, List, ◌∷◌, Option, Some, None, is_some}
use Rattle.std.proofs.Common.{MatchOption, Result, Ok, Err, IfOk, refl, ◌∙◌, ap, inl, inr}
use Rattle.theory.specs.Form.{Form, Reads, HasNone, IsUnambiguous, made, behind, closed, due}
use Rattle.theory.specs.Form.{either}
use Rattle.theory.proofs.FormFacts.{Tells, Avoids, Stops, reads_made, reads_behind, none_behind}
use Rattle.theory.proofs.FormFacts.{reads_closed, none_closed, not_closed, reads_due, reads_not_due}
use Rattle.theory.proofs.FormFacts.{none_due, reads_left, reads_right, none_left, none_right}
use Rattle.theory.proofs.OneReading.{one_made, one_behind, one_closed, one_due, one_either}
use Rattle.bean_lexer.specs.declared.kind.Sign.TheVariants.{Star, OpenBrace, OpenBraces}
use Rattle.bean_postings.specs.declared.cost.Cost as costs
use Rattle.bean_postings.specs.declared.cost.Cost.TheVariants.{Absent}
use Rattle.bean_postings.specs.declared.cost_part.CostParts.{CostParts}
use Rattle.bean_grammar.specs.declared.ranged.Ranged.{Ranged}
use Rattle.bean_grammar.specs.declared.ranged.Ranged.TheVariants.{Within}
use Rattle.bean_postings.specs.Cost.{opening, closing, cost_of, braced, cost_in, cost}
use Rattle.bean_postings.specs.Cost.{begins_with_cost, cost_or_absent, cost_if_due}
use Rattle.bean_postings.specs.CostPart.{part, no_parts, cost_parts}
use Rattle.bean_grammar.specs.Lexeme.{Lexeme, Sign, plus_or_minus, begins_with_sign}
use Rattle.bean_grammar.proofs.AppliedFacts.{reads_first, no_first, one_first}
use Rattle.bean_postings.proofs.CostPartFacts.{AvoidsNumberParts, number_part_is_avoided}
use Rattle.bean_postings.proofs.CostPartFacts.{one_cost_parts}

-- Braces.

abbrev pub empty_braces : Bool → Form Lexeme CostParts
empty_braces t = behind (Sign (closing t)) (made no_parts)

abbrev pub full_braces : Bool → Form Lexeme CostParts
full_braces t = closed (Sign (closing t)) cost_parts

opens : (t : Bool) (rest : List Lexeme)
    → begins_with_sign (opening t) (Sign (opening t) ∷ rest) ≡ true
opens true rest = refl
opens false rest = refl

closes : (t : Bool) (rest : List Lexeme)
    → begins_with_sign (closing t) (Sign (closing t) ∷ rest) ≡ true
closes true rest = refl
closes false rest = refl

no_sign : (t minus : Bool) (mid : List Lexeme)
    → begins_with_sign (closing t) (plus_or_minus minus ∷ mid) ≡ false
no_sign true true mid = refl
no_sign true false mid = refl
no_sign false true mid = refl
no_sign false false mid = refl

no_number_part : (t : Bool) → AvoidsNumberParts (begins_with_sign (closing t))
no_number_part true =
    record {
      numbers = λ mid. (λ minus. no_sign true minus mid, refl, λ bs. refl);
      hash =
          λ mid. refl;
      currency = λ bs mid. refl;
    }
no_number_part false =
    record {
      numbers = λ mid. (λ minus. no_sign false minus mid, refl, λ bs. refl);
      hash =
          λ mid. refl;
      currency = λ bs mid. refl;
    }

no_star : (t : Bool) (mid : List Lexeme) → begins_with_sign (closing t) (Sign Star ∷ mid) ≡ false
no_star true mid = refl
no_star false mid = refl

part_avoids : (t : Bool) → Avoids (begins_with_sign (closing t)) part
part_avoids t ls v rest (inl p) = ap (begins_with_sign (closing t)) (p.3.1 ∙ p.4.1)
part_avoids t ls v rest (inr (inl p)) = ap (begins_with_sign (closing t)) (p.3.1 ∙ p.4.3.1 ∙ p.4.4)
part_avoids t ls v rest (inr (inr (inl p))) = ap (begins_with_sign (closing t)) p.1 ∙ no_star t p.0
part_avoids t ls v rest (inr (inr (inr p))) =
    number_part_is_avoided (begins_with_sign (closing t)) (no_number_part t) ls v rest p

braces_avoid : (t : Bool) → Avoids (begins_with_sign (closing t)) (full_braces t)
braces_avoid t ls v rest p = part_avoids t ls _ _ p.1.3

braces_told : (t : Bool) → Tells (begins_with_sign (closing t)) (empty_braces t)
braces_told t ls v rest p = ap (begins_with_sign (closing t)) p.1 ∙ closes t p.0

closing_stops : (t : Bool) → Stops (Sign (closing t)) cost_parts
closing_stops true rest = refl
closing_stops false rest = refl

pub reads_empty_braces : (t : Bool) (ls mid more : List Lexeme) → ls ≡ Sign (opening t) ∷ mid
    → mid ≡ Sign (closing t) ∷ more → Reads (braced t) ls no_parts more
reads_empty_braces t ls mid more at shut =
    reads_behind (Sign (opening t)) (either (empty_braces t) (full_braces t)) ls mid no_parts more
    at
    (reads_left (begins_with_sign (closing t)) (empty_braces t) (full_braces t) mid no_parts more
    (braces_avoid t) (ap (begins_with_sign (closing t)) shut ∙ closes t more)
    (reads_behind (Sign (closing t)) (made no_parts) mid more no_parts more shut
    (reads_made no_parts more)))

pub reads_full_braces : (t : Bool) (ls mid : List Lexeme) (c : CostParts) (rest more : List Lexeme)
    → ls ≡ Sign (opening t) ∷ mid → begins_with_sign (closing t) mid ≡ false
    → Reads cost_parts mid c rest → rest ≡ Sign (closing t) ∷ more → Reads (braced t) ls c more
reads_full_braces t ls mid c rest more at absent r shut =
    reads_behind (Sign (opening t)) (either (empty_braces t) (full_braces t)) ls mid c more at
    (reads_right (begins_with_sign (closing t)) (empty_braces t) (full_braces t) mid c more
    (braces_told t) absent
    (reads_closed (Sign (closing t)) cost_parts mid c rest more (closing_stops t) r shut))

none_braced : (t : Bool) (ls mid : List Lexeme) → ls ≡ Sign (opening t) ∷ mid
    → begins_with_sign (closing t) mid ≡ false → HasNone (full_braces t) mid → HasNone (braced t) ls
none_braced t ls mid at absent none =
    none_behind (Sign (opening t)) (either (empty_braces t) (full_braces t)) ls mid at
    (none_right (begins_with_sign (closing t)) (empty_braces t) (full_braces t) mid
    (braces_told t) absent none)

pub no_parts_in_braces : (t : Bool) (ls mid : List Lexeme) → ls ≡ Sign (opening t) ∷ mid
    → begins_with_sign (closing t) mid ≡ false → HasNone cost_parts mid → HasNone (braced t) ls
no_parts_in_braces t ls mid at absent none =
    none_braced t ls mid at absent
    (none_closed (Sign (closing t)) cost_parts mid (closing_stops t) none)

not_closing : (t : Bool) (rest more : List Lexeme) → begins_with_sign (closing t) rest ≡ false
    → rest ≡ Sign (closing t) ∷ more → ⊥
not_closing t rest more absent e = let f = ap (begins_with_sign (closing t)) e ∙ closes t more in
    cc (f, absent)

pub not_shut : (t : Bool) (ls mid : List Lexeme) (c : CostParts) (rest : List Lexeme)
    → ls ≡ Sign (opening t) ∷ mid → begins_with_sign (closing t) mid ≡ false
    → Reads cost_parts mid c rest → begins_with_sign (closing t) rest ≡ false
    → HasNone (braced t) ls
not_shut t ls mid c rest at absent r unshut =
    none_braced t ls mid at absent
    (not_closed (Sign (closing t)) cost_parts mid c rest (closing_stops t) r
    (λ more. not_closing t rest more unshut))

braced_told : (t : Bool) → Tells (begins_with_sign (opening t)) (cost_in t)
braced_told t ls v rest p = ap (begins_with_sign (opening t)) (p.3.1 ∙ p.4.1) ∙ opens t p.4.0

pub not_open : (t : Bool) (ls : List Lexeme) → begins_with_sign (opening t) ls ≡ false
    → HasNone (braced t) ls
not_open t ls absent v after p ends = let present =
    ap (begins_with_sign (opening t)) p.1 ∙ opens t p.0 in cc (present, absent)

pub reads_cost_in : (t : Bool) (ls : List Lexeme) (c : CostParts) (rest : List Lexeme)
    → Reads (braced t) ls c rest → Reads (cost_in t) ls (cost_of t c) rest
reads_cost_in t ls c rest r = reads_first (cost_of t) (braced t) ls c rest r

pub none_cost_in : (t : Bool) (ls : List Lexeme) → HasNone (braced t) ls → HasNone (cost_in t) ls
none_cost_in t ls none = no_first (cost_of t) (braced t) ls none

-- Costs.

total_avoids : Avoids (begins_with_sign OpenBrace) (cost_in true)
total_avoids ls v rest p = ap (begins_with_sign OpenBrace) (p.3.1 ∙ p.4.1)

lot_told : Tells (begins_with_sign OpenBrace) (cost_in false)
lot_told = braced_told false

either_true : (a b : Bool) → a ≡ false → b ≡ true → (a || b) ≡ true
either_true a b e f = cc

cost_told : Tells begins_with_cost cost
cost_told ls v rest (inl p) =
    ap (λ b. b || begins_with_sign OpenBraces ls) (braced_told false ls v rest p)
cost_told ls v rest (inr p) =
    either_true (begins_with_sign OpenBrace ls) (begins_with_sign OpenBraces ls)
    (total_avoids ls v rest p) (braced_told true ls v rest p)

abbrev written_cost : Form Lexeme (Option (Ranged costs.Cost))
written_cost = due begins_with_cost cost

reads_cost : (ls : List Lexeme) (v : Ranged costs.Cost) (rest : List Lexeme) → Reads cost ls v rest
    → Reads cost_if_due ls v rest
reads_cost ls v rest r =
    reads_first cost_or_absent written_cost ls (Some v) rest
    (reads_due begins_with_cost cost ls v rest (cost_told ls v rest r.read) r)

none_cost : (ls : List Lexeme) → begins_with_cost ls ≡ true → HasNone cost ls
    → HasNone cost_if_due ls
none_cost ls present none =
    no_first cost_or_absent written_cost ls (none_due begins_with_cost cost ls present none)

-- the braces that a call looks for are there, or not

pub brace_there :
    {X : Type 0} (t : Bool) (ls : List Lexeme) (found : Option X) (rest_of : X → List Lexeme)
    → is_some found ≡ true
    → MatchOption found (begins_with_sign (opening t) ls ≡ false) (λ r. ls
    ≡ Sign (opening t) ∷ rest_of r) → begins_with_sign (opening t) ls ≡ true
brace_there t ls (Some r) rest_of e at = ap (begins_with_sign (opening t)) at ∙ opens t (rest_of r)
brace_there t ls None rest_of e at = absurd (cc)

pub no_brace_there :
    {X : Type 0} (t : Bool) (ls : List Lexeme) (found : Option X) (rest_of : X → List Lexeme)
    → is_some found ≡ false
    → MatchOption found (begins_with_sign (opening t) ls ≡ false) (λ r. ls
    ≡ Sign (opening t) ∷ rest_of r) → begins_with_sign (opening t) ls ≡ false
no_brace_there t ls (Some r) rest_of e at = absurd (cc)
no_brace_there t ls None rest_of e at = at

pub lot_or_none :
    {X : Type 0} (ls : List Lexeme) (found : Option (Ranged costs.Cost × X)) (rest_of : X
    → List Lexeme) → begins_with_sign OpenBrace ls ≡ true
    → MatchOption found (HasNone (cost_in false) ls)
    (λ r. Reads (cost_in false) ls r.0 (rest_of r.1))
    → MatchOption found (HasNone cost_if_due ls) (λ r. Reads cost_if_due ls r.0 (rest_of r.1))
lot_or_none ls (Some r) rest_of present reads =
    reads_cost ls r.0 (rest_of r.1)
    (reads_left (begins_with_sign OpenBrace) (cost_in false) (cost_in true) ls r.0 (rest_of r.1)
    total_avoids present reads)
lot_or_none ls None rest_of present none =
    none_cost ls (ap (λ b. b || begins_with_sign OpenBraces ls) present)
    (none_left (begins_with_sign OpenBrace) (cost_in false) (cost_in true) ls total_avoids
    present none)

pub total_or_none :
    {X : Type 0} (ls : List Lexeme) (found : Option (Ranged costs.Cost × X)) (rest_of : X
    → List Lexeme) → begins_with_sign OpenBrace ls ≡ false → begins_with_sign OpenBraces ls ≡ true
    → MatchOption found (HasNone (cost_in true) ls) (λ r. Reads (cost_in true) ls r.0 (rest_of r.1))
    → MatchOption found (HasNone cost_if_due ls) (λ r. Reads cost_if_due ls r.0 (rest_of r.1))
total_or_none ls (Some r) rest_of absent present reads =
    reads_cost ls r.0 (rest_of r.1)
    (reads_right (begins_with_sign OpenBrace) (cost_in false) (cost_in true) ls r.0 (rest_of r.1)
    lot_told absent reads)
total_or_none ls None rest_of absent present none =
    none_cost ls
    (either_true (begins_with_sign OpenBrace ls) (begins_with_sign OpenBraces ls) absent
    present) (none_right (begins_with_sign OpenBrace) (cost_in false) (cost_in true) ls lot_told
    absent none)

pub lot_if_ok :
    {X E : Type 0} (ls : List Lexeme) (result : Result (Option (Ranged costs.Cost × X)) E)
    (rest_of : X → List Lexeme) → begins_with_sign OpenBrace ls ≡ true
    → IfOk result
    (λ found. MatchOption found (HasNone (cost_in false) ls)
    (λ r. Reads (cost_in false) ls r.0 (rest_of r.1)))
    → IfOk result
    (λ found. MatchOption found (HasNone cost_if_due ls)
    (λ r. Reads cost_if_due ls r.0 (rest_of r.1)))
lot_if_ok ls (Ok found) rest_of present h = lot_or_none ls found rest_of present h
lot_if_ok ls (Err e) rest_of present h = h

pub total_if_ok :
    {X E : Type 0} (ls : List Lexeme) (result : Result (Option (Ranged costs.Cost × X)) E)
    (rest_of : X → List Lexeme) → begins_with_sign OpenBrace ls ≡ false
    → begins_with_sign OpenBraces ls ≡ true
    → IfOk result
    (λ found. MatchOption found (HasNone (cost_in true) ls)
    (λ r. Reads (cost_in true) ls r.0 (rest_of r.1)))
    → IfOk result
    (λ found. MatchOption found (HasNone cost_if_due ls)
    (λ r. Reads cost_if_due ls r.0 (rest_of r.1)))
total_if_ok ls (Ok found) rest_of absent present h = total_or_none ls found rest_of absent present h
total_if_ok ls (Err e) rest_of absent present h = h

pub absent_cost : (ls : List Lexeme) → begins_with_sign OpenBrace ls ≡ false
    → begins_with_sign OpenBraces ls ≡ false → Reads cost_if_due ls (Within Absent) ls
absent_cost ls a b =
    reads_first cost_or_absent written_cost ls None ls
    (reads_not_due begins_with_cost cost ls cost_told
    (ap (λ x. x || begins_with_sign OpenBraces ls) a ∙ b))

-- There is one reading.

one_braced : (t : Bool) → IsUnambiguous (braced t)
one_braced t =
    one_behind (Sign (opening t)) (either (empty_braces t) (full_braces t))
    (one_either (begins_with_sign (closing t)) (empty_braces t) (full_braces t) (braces_told t)
    (braces_avoid t) (one_behind (Sign (closing t)) (made no_parts) (one_made no_parts))
    (one_closed (Sign (closing t)) cost_parts (closing_stops t) one_cost_parts))

one_cost_in : (t : Bool) → IsUnambiguous (cost_in t)
one_cost_in t = one_first (cost_of t) (braced t) (one_braced t)

pub one_cost_if_due : IsUnambiguous cost_if_due
one_cost_if_due =
    one_first cost_or_absent written_cost
    (one_due begins_with_cost cost cost_told
    (one_either (begins_with_sign OpenBrace) (cost_in false) (cost_in true) lot_told
    total_avoids (one_cost_in false) (one_cost_in true)))
