-- The costs of postings.
--
-- cost = "{" [part {"," part}] "}" | "{{" [part {"," part}] "}}"
use Rattle.std.specs.Prelude.{Bool, true, false, ◌&&◌, ◌||◌, List, Option, Some, None, is_some}
use Rattle.std.specs.Prelude.{if◌then◌else◌}
use Rattle.theory.specs.Form.{Form, made, ◌<+>◌, behind, closed, due, either}
use Rattle.bean_base.specs.declared.amounts.Amount.{Amount}
use Rattle.bean_base.specs.declared.days.Day.{Day}
use Rattle.bean_lexer.specs.declared.kind.Sign as signs
use Rattle.bean_lexer.specs.declared.kind.Sign.TheVariants.{OpenBrace, CloseBrace, OpenBraces}
use Rattle.bean_lexer.specs.declared.kind.Sign.TheVariants.{CloseBraces}
use Rattle.bean_postings.specs.declared.cost.Cost as costs
use Rattle.bean_postings.specs.declared.cost.Cost.TheVariants.{Absent, Lot, OutsideProfile}
use Rattle.bean_postings.specs.declared.cost_part.CostParts.{CostParts}
use Rattle.bean_grammar.specs.declared.ranged.Ranged.{Ranged}
use Rattle.bean_grammar.specs.declared.ranged.Ranged.TheVariants.{Within, Outside}
use Rattle.bean_postings.specs.CostPart.{cost_parts, no_parts}
use Rattle.bean_grammar.specs.Lexeme.{Lexeme, Sign, begins_with_sign}
use Rattle.bean_grammar.specs.Ranged.{ranged_map2, option_within}

-- true where the braces are doubled, for the cost of all units

abbrev pub opening : Bool → signs.Sign
opening false = OpenBrace
opening true = OpenBraces

abbrev pub closing : Bool → signs.Sign
closing false = CloseBrace
closing true = CloseBraces

-- braces that are doubled, and parts that aren't an amount, a day or a label
abbrev pub is_outside_profile : Bool → CostParts → Bool
is_outside_profile is_total p =
    is_total
    || (is_some p.number || (is_some p.currency || (is_some p.merge || is_some p.compound)))

abbrev pub or_true : Option Bool → Bool
or_true None = true
or_true (Some b) = b

-- what the parts outside the profile write is in range
abbrev pub others_fit : CostParts → Bool
others_fit p = or_true p.number && or_true p.compound

abbrev pub cost_with : Bool → CostParts → Option Amount → Option Day → costs.Cost
cost_with is_total p amount day =
    if is_outside_profile is_total p then OutsideProfile
    else Lot record { amount = amount; day = day; label = p.label }

abbrev pub cost_of : Bool → CostParts → Ranged costs.Cost
cost_of is_total p =
    if others_fit p
    then ranged_map2 (cost_with is_total p) (option_within p.amount) (option_within p.day)
    else Outside

abbrev pub braced : Bool → Form Lexeme CostParts
braced is_total =
    behind (Sign (opening is_total))
    (either (behind (Sign (closing is_total)) (made no_parts))
    (closed (Sign (closing is_total)) cost_parts))

abbrev pub cost_in : Bool → Form Lexeme (Ranged costs.Cost)
cost_in is_total = made (cost_of is_total) <+> braced is_total

abbrev pub cost : Form Lexeme (Ranged costs.Cost)
cost = either (cost_in false) (cost_in true)

abbrev pub begins_with_cost : List Lexeme → Bool
begins_with_cost ls = begins_with_sign OpenBrace ls || begins_with_sign OpenBraces ls

-- a cost that isn't written is absent
abbrev pub cost_or_absent : Option (Ranged costs.Cost) → Ranged costs.Cost
cost_or_absent (Some c) = c
cost_or_absent None = Within Absent

abbrev pub cost_if_due : Form Lexeme (Ranged costs.Cost)
cost_if_due = made cost_or_absent <+> due begins_with_cost cost
