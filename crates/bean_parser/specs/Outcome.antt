-- What each block gives: what it says, or its fault.
use Rattle.std.specs.Prelude.{◌≡◌, ℕ, List, [], ◌∷◌, Option, Some, None, ◌⊎◌}
use Rattle.bean_base.specs.declared.fault.Fault as faults
use Rattle.bean_base.specs.declared.fault.FaultKind.{FaultKind}
use Rattle.bean_base.specs.declared.fault.FaultKind.TheVariants.{BadToken, NotADirective}
use Rattle.bean_base.specs.declared.fault.FaultKind.TheVariants.{OutOfRange}
use Rattle.bean_lexer.specs.declared.token.Token.{Token}
use Rattle.bean_grammar.specs.declared.ranged.Ranged.TheVariants.{Within, Outside}
use Rattle.bean_parser.specs.Block.{first_line, fault_line}
use Rattle.bean_parser.specs.Grammar.{Tree, HasTree, said}
use Rattle.bean_parser.specs.declared.block.Outcome as outcomes
use Rattle.bean_parser.specs.declared.block.Outcome.TheVariants.{Statement, Fault}

abbrev pub fault_at : FaultKind → ℕ → faults.Fault
fault_at kind line = record { kind = kind; place = record { file = 0; line = line } }

-- without a fault token: what its one tree says, F2 where it has none, F3 where the tree is out of
-- range
abbrev pub ReadsAs : List Token → outcomes.Outcome → Type 0
ReadsAs block (Statement s) = (t : Tree) × HasTree block t × (said t ≡ Within s)
ReadsAs block (Fault f) =
    ((f ≡ fault_at NotADirective (first_line block)) × ((t : Tree) → HasTree block t → ⊥))
    ⊎ ((f ≡ fault_at OutOfRange (first_line block))
    × ((t : Tree) × HasTree block t × (said t ≡ Outside)))

abbrev pub GivesAt : Option ℕ → List Token → outcomes.Outcome → Type 0
GivesAt (Some line) block outcome = outcome ≡ Fault (fault_at BadToken line)
GivesAt None block outcome = ReadsAs block outcome

-- F1 where it holds a fault token
abbrev pub Gives : List Token → outcomes.Outcome → Type 0
Gives block outcome = GivesAt (fault_line block) block outcome

-- each block gives its own
abbrev pub AllGive : List (List Token) → List outcomes.Outcome → Type 0
AllGive [] os = os ≡ []
AllGive (block ∷ blocks) [] = ⊥
AllGive (block ∷ blocks) (o ∷ os) = Gives block o × AllGive blocks os
