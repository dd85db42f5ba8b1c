-- How the parts of a cost are read.
use Rattle.std.proofs.Common.{◌≡◌, ℕ, Bool, true, false, List, [], ◌∷◌, Option, Some, None}
use Rattle.std.proofs.Common.{MatchOption, refl, sym, ◌∙◌, ap, subst, inl, inr}
use Rattle.theory.specs.Form.{Form, Reads, HasNone, IsUnambiguous, made, ◌<+>◌, behind, either}
use Rattle.theory.specs.Form.{steps}
use Rattle.theory.proofs.FormFacts.{Tells, Avoids, reads_made, reads_behind, none_behind}
use Rattle.theory.proofs.FormFacts.{reads_checked, none_checked, not_checked, reads_due}
use Rattle.theory.proofs.FormFacts.{reads_not_due, none_due, reads_left, reads_right, none_right}
use Rattle.theory.proofs.RowFacts.{Separates, BeginsRow, EndsItems, InRow, row_ends, row_begins}
use Rattle.theory.proofs.RowFacts.{row_goes_on, row_is_read, none_in_row, no_row, lost_row}
use Rattle.theory.proofs.OneReading.{one_made, one_behind, one_checked, one_due, one_either}
use Rattle.theory.proofs.OneReading.{one_row}
use Rattle.bean_base.specs.declared.days.Day as days
use Rattle.bean_base.specs.declared.num.Num.{Num}
use Rattle.bean_lexer.specs.declared.kind.Sign.TheVariants.{Star, Hash, Comma}
use Rattle.bean_postings.specs.declared.cost_part.CostPart.{CostPart}
use Rattle.bean_postings.specs.declared.cost_part.CostPart.TheVariants.{Day, Label, Merge}
use Rattle.bean_postings.specs.declared.cost_part.CostParts.{CostParts}
use Rattle.bean_grammar.specs.declared.ranged.Ranged.{Ranged}
use Rattle.bean_grammar.specs.Amount.{number_if_due, currency_if_due}
use Rattle.bean_postings.specs.CostPart.{number_part_of, compound_if_due, itself, number_part}
use Rattle.bean_postings.specs.CostPart.{merge}
use Rattle.bean_postings.specs.CostPart.{part, no_parts, put, put_first, another_part, row_of_parts}
use Rattle.bean_postings.specs.CostPart.{cost_parts}
use Rattle.bean_grammar.specs.Lexeme.{Lexeme, Sign, Currency, plus_or_minus, begins_with_day}
use Rattle.bean_grammar.specs.Lexeme.{begins_with_text, begins_with_sign}
use Rattle.bean_grammar.specs.Literal.{day, text}
use Rattle.bean_grammar.proofs.AmountFacts.{one_currency_due}
use Rattle.bean_grammar.proofs.AppliedFacts.{reads_first, no_first, one_first, reads_next, no_next}
use Rattle.bean_grammar.proofs.AppliedFacts.{none_before, one_next}
use Rattle.bean_grammar.proofs.ExpressionFacts.{AvoidsNumbers, expression_is_avoided}
use Rattle.bean_grammar.proofs.ExpressionFacts.{one_number_due}
use Rattle.bean_grammar.proofs.LiteralFacts.{day_told, text_told, one_written_day, one_text}

-- Parts of a number, what stands from a `#` on, and a currency.

compound_told : Tells (begins_with_sign Hash) (behind (Sign Hash) number_if_due)
compound_told ls v rest p = ap (begins_with_sign Hash) p.1

pub reads_compound : (ls mid : List Lexeme) (n : Option (Ranged Num)) (rest : List Lexeme)
    → ls ≡ Sign Hash ∷ mid → Reads number_if_due mid n rest → Reads compound_if_due ls (Some n) rest
reads_compound ls mid n rest at r =
    reads_due (begins_with_sign Hash) (behind (Sign Hash) number_if_due) ls n rest
    (ap (begins_with_sign Hash) at) (reads_behind (Sign Hash) number_if_due ls mid n rest at r)

pub none_compound : (ls mid : List Lexeme) → ls ≡ Sign Hash ∷ mid → HasNone number_if_due mid
    → HasNone compound_if_due ls
none_compound ls mid at none =
    none_due (begins_with_sign Hash) (behind (Sign Hash) number_if_due) ls
    (ap (begins_with_sign Hash) at) (none_behind (Sign Hash) number_if_due ls mid at none)

pub reads_no_compound : (ls : List Lexeme) → begins_with_sign Hash ls ≡ false
    → Reads compound_if_due ls None ls
reads_no_compound ls absent =
    reads_not_due (begins_with_sign Hash) (behind (Sign Hash) number_if_due) ls compound_told absent

abbrev numbered : Form Lexeme (Option (Option (Ranged Num)) → Option (List ℕ) → Option CostPart)
numbered = made number_part_of <+> number_if_due

abbrev compounded : Form Lexeme (Option (List ℕ) → Option CostPart)
compounded = made number_part_of <+> number_if_due <+> compound_if_due

reads_compounded :
    (ls : List Lexeme) (n : Option (Ranged Num)) (mid : List Lexeme)
    (m : Option (Option (Ranged Num))) (rest : List Lexeme)
    → Reads number_if_due ls n mid → Reads compound_if_due mid m rest
    → Reads compounded ls (number_part_of n m) rest
reads_compounded ls n mid m rest r s =
    reads_next numbered compound_if_due ls (number_part_of n) mid m rest (λ rest. refl)
    (reads_first number_part_of number_if_due ls n mid r) s

reads_parted :
    (ls : List Lexeme) (n : Option (Ranged Num)) (mid : List Lexeme)
    (m : Option (Option (Ranged Num))) (next : List Lexeme) (c : Option (List ℕ))
    (rest : List Lexeme)
    → Reads number_if_due ls n mid → Reads compound_if_due mid m next
    → Reads currency_if_due next c rest
    → Reads (compounded <+> currency_if_due) ls (number_part_of n m c) rest
reads_parted ls n mid m next c rest r s t =
    reads_next compounded currency_if_due ls (number_part_of n m) next c rest (λ rest. refl)
    (reads_compounded ls n mid m next r s) t

pub reads_number_part :
    (ls : List Lexeme) (n : Option (Ranged Num)) (mid : List Lexeme)
    (m : Option (Option (Ranged Num))) (next : List Lexeme) (c : Option (List ℕ))
    (rest : List Lexeme) (p : CostPart)
    → Reads number_if_due ls n mid → Reads compound_if_due mid m next
    → Reads currency_if_due next c rest → Some p ≡ number_part_of n m c
    → Reads number_part ls p rest
reads_number_part ls n mid m next c rest p r s t at =
    reads_checked itself (compounded <+> currency_if_due) ls (number_part_of n m c) p rest
    (reads_parted ls n mid m next c rest r s t) (sym at)

pub empty_number_part :
    (ls : List Lexeme) (n : Option (Ranged Num)) (mid : List Lexeme)
    (m : Option (Option (Ranged Num))) (next : List Lexeme) (c : Option (List ℕ))
    (rest : List Lexeme)
    → Reads number_if_due ls n mid → Reads compound_if_due mid m next
    → Reads currency_if_due next c rest → None ≡ number_part_of n m c → HasNone number_part ls
empty_number_part ls n mid m next c rest r s t at =
    not_checked itself (compounded <+> currency_if_due) ls (number_part_of n m c) rest
    (reads_parted ls n mid m next c rest r s t) (sym at)

pub none_number_part : (ls : List Lexeme) → HasNone number_if_due ls → HasNone number_part ls
none_number_part ls none =
    none_checked itself (compounded <+> currency_if_due) ls
    (none_before compounded currency_if_due ls (λ rest. refl)
    (none_before numbered compound_if_due ls (λ rest. refl)
    (no_first number_part_of number_if_due ls none)))

pub none_compound_part : (ls : List Lexeme) (n : Option (Ranged Num)) (mid : List Lexeme)
    → Reads number_if_due ls n mid → HasNone compound_if_due mid → HasNone number_part ls
none_compound_part ls n mid r none =
    none_checked itself (compounded <+> currency_if_due) ls
    (none_before compounded currency_if_due ls (λ rest. refl)
    (no_next numbered compound_if_due ls (number_part_of n) mid (λ rest. refl)
    (reads_first number_part_of number_if_due ls n mid r) none))

-- Parts.

dated : Tells begins_with_day (made Day <+> day)
dated ls v rest p = ap begins_with_day p.3.1 ∙ day_told p.2 p.1 rest p.4

labelled : Tells begins_with_text (made Label <+> text)
labelled ls v rest p = ap begins_with_text p.3.1 ∙ text_told p.2 p.1 rest p.4

merged : Tells (begins_with_sign Star) merge
merged ls v rest p = ap (begins_with_sign Star) p.1

-- what a test says of numbers, `#` and currencies, it says of parts of a number
pub record AvoidsNumberParts (begins : List Lexeme → Bool) : Type 0 where
  pub numbers : AvoidsNumbers begins
  pub hash : (mid : List Lexeme) → begins (Sign Hash ∷ mid) ≡ false
  pub currency : (bs : List ℕ) (mid : List Lexeme) → begins (Currency bs ∷ mid) ≡ false

parted_is_avoided : (begins : List Lexeme → Bool) → AvoidsNumberParts begins
    → (ls mid next rest : List Lexeme) (n : Option (Ranged Num)) (m : Option (Option (Ranged Num)))
    (c : Option (List ℕ)) (p : CostPart)
    → number_if_due.reads ls n mid → compound_if_due.reads mid m next
    → currency_if_due.reads next c rest → number_part_of n m c ≡ Some p → begins ls ≡ false
parted_is_avoided begins avoids ls mid next rest (Some n) m c p r s t e =
    expression_is_avoided begins avoids.numbers ls n mid r
parted_is_avoided begins avoids ls mid next rest None (Some m) c p r s t e =
    ap begins (r.0 ∙ s.1) ∙ avoids.hash s.0
parted_is_avoided begins avoids ls mid next rest None None (Some c) p r s t e =
    ap begins (r.0 ∙ s.0 ∙ t) ∙ avoids.currency c rest
parted_is_avoided begins avoids ls mid next rest None None None p r s t e = absurd (cc)

pub number_part_is_avoided : (begins : List Lexeme → Bool) → AvoidsNumberParts begins
    → Avoids begins number_part
number_part_is_avoided begins avoids ls p rest r =
    let all = r.1 in
    let compounded = all.3 in
    let numbered = compounded.3 in
    ap begins numbered.3.1
    ∙ parted_is_avoided begins avoids numbered.2 compounded.2 all.2 rest numbered.1 compounded.1
    all.1 p numbered.4 compounded.4 all.4
    (sym (all.5
    ∙ ap (λ g. g all.1) (compounded.5
    ∙ ap (λ h. h compounded.1) (numbered.5 ∙ ap (λ k. k numbered.1) numbered.3.0))) ∙ r.2)

no_day_sign : (mid : List Lexeme) (minus : Bool)
    → begins_with_day (plus_or_minus minus ∷ mid) ≡ false
no_day_sign mid true = refl
no_day_sign mid false = refl

no_text_sign : (mid : List Lexeme) (minus : Bool)
    → begins_with_text (plus_or_minus minus ∷ mid) ≡ false
no_text_sign mid true = refl
no_text_sign mid false = refl

no_star_sign : (mid : List Lexeme) (minus : Bool)
    → begins_with_sign Star (plus_or_minus minus ∷ mid) ≡ false
no_star_sign mid true = refl
no_star_sign mid false = refl

no_day : AvoidsNumberParts begins_with_day
no_day = record {
  numbers = λ mid. (no_day_sign mid, refl, λ bs. refl);
  hash =
      λ mid. refl;
  currency = λ bs mid. refl;
}

no_text : AvoidsNumberParts begins_with_text
no_text =
    record {
      numbers = λ mid. (no_text_sign mid, refl, λ bs. refl);
      hash = λ mid. refl;
      currency =
          λ bs mid. refl;
    }

no_star : AvoidsNumberParts (begins_with_sign Star)
no_star =
    record {
      numbers = λ mid. (no_star_sign mid, refl, λ bs. refl);
      hash = λ mid. refl;
      currency =
          λ bs mid. refl;
    }

pub rest_avoids_day :
    Avoids begins_with_day (either (made Label <+> text) (either merge number_part))
rest_avoids_day ls v rest (inl p) = ap begins_with_day (p.3.1 ∙ p.4.3.1 ∙ p.4.4)
rest_avoids_day ls v rest (inr (inl p)) = ap begins_with_day p.1
rest_avoids_day ls v rest (inr (inr p)) = number_part_is_avoided begins_with_day no_day ls v rest p

rest_avoids_text : Avoids begins_with_text (either merge number_part)
rest_avoids_text ls v rest (inl p) = ap begins_with_text p.1
rest_avoids_text ls v rest (inr p) = number_part_is_avoided begins_with_text no_text ls v rest p

pub day_part : (ls : List Lexeme) (d : Ranged days.Day) (rest : List Lexeme) → Reads day ls d rest
    → Reads part ls (Day d) rest
day_part ls d rest r =
    reads_left begins_with_day (made Day <+> day)
    (either (made Label <+> text) (either merge number_part)) ls (Day d) rest rest_avoids_day
    (day_told ls d rest r.read) (reads_first Day day ls d rest r)

pub label_part : (ls : List Lexeme) (t : List ℕ) (rest : List Lexeme) → begins_with_day ls ≡ false
    → Reads text ls t rest → Reads part ls (Label t) rest
label_part ls t rest a r =
    reads_right begins_with_day (made Day <+> day)
    (either (made Label <+> text) (either merge number_part)) ls (Label t) rest dated a
    (reads_left begins_with_text (made Label <+> text) (either merge number_part) ls (Label t) rest
    rest_avoids_text (text_told ls t rest r.read) (reads_first Label text ls t rest r))

pub merge_part : (ls rest : List Lexeme) → begins_with_day ls ≡ false → begins_with_text ls ≡ false
    → ls ≡ Sign Star ∷ rest → Reads part ls Merge rest
merge_part ls rest a b at =
    reads_right begins_with_day (made Day <+> day)
    (either (made Label <+> text) (either merge number_part)) ls Merge rest dated a
    (reads_right begins_with_text (made Label <+> text) (either merge number_part) ls Merge rest
    labelled b
    (reads_left (begins_with_sign Star) merge number_part ls Merge rest
    (number_part_is_avoided (begins_with_sign Star) no_star) (ap (begins_with_sign Star) at)
    (reads_behind (Sign Star) (made Merge) ls rest Merge rest at (reads_made Merge rest))))

pub other_part : (ls : List Lexeme) (p : CostPart) (rest : List Lexeme) → begins_with_day ls ≡ false
    → begins_with_text ls ≡ false → begins_with_sign Star ls ≡ false → Reads number_part ls p rest
    → Reads part ls p rest
other_part ls p rest a b c r =
    reads_right begins_with_day (made Day <+> day)
    (either (made Label <+> text) (either merge number_part)) ls p rest dated a
    (reads_right begins_with_text (made Label <+> text) (either merge number_part) ls p rest
    labelled b (reads_right (begins_with_sign Star) merge number_part ls p rest merged c r))

pub none_part : (ls : List Lexeme) → begins_with_day ls ≡ false → begins_with_text ls ≡ false
    → begins_with_sign Star ls ≡ false → HasNone number_part ls → HasNone part ls
none_part ls a b c none =
    none_right begins_with_day (made Day <+> day)
    (either (made Label <+> text) (either merge number_part)) ls dated a
    (none_right begins_with_text (made Label <+> text) (either merge number_part) ls labelled b
    (none_right (begins_with_sign Star) merge number_part ls merged c none))

pub part_or_none :
    {X : Type 0} (ls : List Lexeme) (found : Option (CostPart × X)) (rest_of : X → List Lexeme)
    → begins_with_day ls ≡ false → begins_with_text ls ≡ false → begins_with_sign Star ls ≡ false
    → MatchOption found (HasNone number_part ls) (λ r. Reads number_part ls r.0 (rest_of r.1))
    → MatchOption found (HasNone part ls) (λ r. Reads part ls r.0 (rest_of r.1))
part_or_none ls (Some r) rest_of a b c reads = other_part ls r.0 (rest_of r.1) a b c reads
part_or_none ls None rest_of a b c none = none_part ls a b c none

-- Rows of parts.

parts_separate : Separates another_part
parts_separate ls v rest p = refl

parts_begin : BeginsRow part another_part
parts_begin ls v rest p = refl

another_told : Tells (begins_with_sign Comma) another_part
another_told ls v rest p = ap (begins_with_sign Comma) p.1

parts_end : EndsItems (begins_with_sign Comma) another_part row_of_parts
parts_end = row_ends (begins_with_sign Comma) part put_first another_part put

abbrev pub InParts : List Lexeme → Option CostParts → List Lexeme → Type 0
InParts ls s rest = InRow row_of_parts another_part put ls s rest

pub first_part : (ls : List Lexeme) (p : CostPart) (rest : List Lexeme) (c : CostParts)
    → Reads part ls p rest → Some c ≡ put (Some no_parts) p → InParts ls (Some c) rest
first_part ls p rest c r at =
    subst (λ s. InParts ls s rest) (sym at)
    (row_begins (begins_with_sign Comma) part put_first another_part put ls p rest parts_begin r)

pub no_first_part : (ls : List Lexeme) → HasNone part ls → HasNone cost_parts ls
no_first_part ls none =
    none_checked itself row_of_parts ls
    (no_row (begins_with_sign Comma) part put_first another_part put ls parts_begin none)

more_parts :
    (ls : List Lexeme) (s : Option CostParts) (rest mid : List Lexeme) (p : CostPart)
    (more : List Lexeme) → InParts ls s rest → rest ≡ Sign Comma ∷ mid → Reads part mid p more
    → InParts ls (put s p) more
more_parts ls s rest mid p more i at r =
    row_goes_on (begins_with_sign Comma) row_of_parts another_part put ls s rest p more parts_end
    parts_separate another_told i (reads_behind (Sign Comma) part rest mid p more at r)

pub next_part :
    (ls : List Lexeme) (s : Option CostParts) (rest mid : List Lexeme) (p : CostPart)
    (more : List Lexeme) (c : CostParts)
    → InParts ls s rest → rest ≡ Sign Comma ∷ mid → Reads part mid p more → Some c ≡ put s p
    → InParts ls (Some c) more
next_part ls s rest mid p more c i at r e =
    subst (λ x. InParts ls x more) (sym e) (more_parts ls s rest mid p more i at r)

stays_lost : (vs : List CostPart) → steps put None vs ≡ None
stays_lost [] = refl
stays_lost (v ∷ vs) = stays_lost vs

pub part_twice :
    (ls : List Lexeme) (s : Option CostParts) (rest mid : List Lexeme) (p : CostPart)
    (more : List Lexeme)
    → InParts ls s rest → rest ≡ Sign Comma ∷ mid → Reads part mid p more → None ≡ put s p
    → HasNone cost_parts ls
part_twice ls s rest mid p more i at r e =
    lost_row itself row_of_parts another_part put ls None more
    (subst (λ x. InParts ls x more) (sym e) (more_parts ls s rest mid p more i at r)) stays_lost

pub no_next_part : (ls : List Lexeme) (s : Option CostParts) (rest mid : List Lexeme)
    → InParts ls s rest → rest ≡ Sign Comma ∷ mid → HasNone part mid → HasNone cost_parts ls
no_next_part ls s rest mid i at none =
    none_checked itself row_of_parts ls
    (none_in_row (begins_with_sign Comma) row_of_parts another_part put ls s rest parts_end
    parts_separate i (ap (begins_with_sign Comma) at)
    (none_behind (Sign Comma) part rest mid at none))

pub last_part : (ls : List Lexeme) (c : CostParts) (rest : List Lexeme) → InParts ls (Some c) rest
    → begins_with_sign Comma rest ≡ false → Reads cost_parts ls c rest
last_part ls c rest i absent =
    reads_checked itself row_of_parts ls (Some c) c rest
    (row_is_read (begins_with_sign Comma) row_of_parts another_part put ls (Some c) rest
    another_told i absent) refl

-- There is one reading.

one_compound_due : IsUnambiguous compound_if_due
one_compound_due =
    one_due (begins_with_sign Hash) (behind (Sign Hash) number_if_due) compound_told
    (one_behind (Sign Hash) number_if_due one_number_due)

one_number_part : IsUnambiguous number_part
one_number_part =
    one_checked itself (compounded <+> currency_if_due)
    (one_next compounded currency_if_due (λ rest. refl)
    (one_next numbered compound_if_due (λ rest. refl)
    (one_first number_part_of number_if_due one_number_due) one_compound_due) one_currency_due)

one_part : IsUnambiguous part
one_part =
    one_either begins_with_day (made Day <+> day)
    (either (made Label <+> text) (either merge number_part)) dated rest_avoids_day
    (one_first Day day one_written_day)
    (one_either begins_with_text (made Label <+> text) (either merge number_part) labelled
    rest_avoids_text (one_first Label text one_text)
    (one_either (begins_with_sign Star) merge number_part merged
    (number_part_is_avoided (begins_with_sign Star) no_star)
    (one_behind (Sign Star) (made Merge) (one_made Merge)) one_number_part))

pub one_cost_parts : IsUnambiguous cost_parts
one_cost_parts =
    one_checked itself row_of_parts
    (one_row (begins_with_sign Comma) part put_first another_part put parts_begin parts_separate
    another_told one_part (one_behind (Sign Comma) part one_part))
