-- Blocks and texts say one thing.
use Rattle.std.proofs.Common.{◌≡◌, ℕ, inl, inr, List, [], ◌∷◌, Option, Some, None, sym, ◌∙◌, ap}
use Rattle.std.proofs.Common.{subst}
use Rattle.std.proofs.lemmas.Cmp.{nat_cmp_total}
use Rattle.std.specs.Ordering.{nat_cmp}
use Rattle.theory.proofs.ArrangementFacts.{one_by_key}
use Rattle.bean_base.specs.declared.fault.Fault as faults
use Rattle.bean_lexer.specs.declared.token.Token.{Token}
use Rattle.bean_lexer.proofs.OneListOfTokensFacts.{one_list}
use Rattle.bean_grammar.specs.declared.ranged.Ranged.TheVariants.{Within}
use Rattle.bean_parser.specs.declared.block.Outcome.{Outcome}
use Rattle.bean_parser.specs.declared.block.Outcome.TheVariants.{Statement, Fault}
use Rattle.bean_parser.specs.declared.parse.Parsed.{Parsed}
use Rattle.bean_parser.specs.declared.statement.Statement as statements
use Rattle.bean_parser.specs.Block.{fault_line, blocks}
use Rattle.bean_parser.specs.Grammar.{said}
use Rattle.bean_parser.specs.Outcome.{ReadsAs, Gives, GivesAt, AllGive}
use Rattle.bean_parser.specs.Parsed.{IsParsed, ComeTo, AreByLine}
use Rattle.bean_parser.proofs.OneTree.{one_tree}

-- a block with a tree in range and one with no such tree are two
tree_and_fault : (block : List Token) (s : statements.Statement) (f : faults.Fault)
    → ReadsAs block (Statement s) → ReadsAs block (Fault f) → ⊥
tree_and_fault block s f r (inl none) = none.1 r.0 r.1
tree_and_fault block s f r (inr out) = let same =
    ap said (one_tree block r.0 out.1.0 r.1 out.1.1) in let within = r.2 in let outside = out.1.2 in
    cc

one_fault : (block : List Token) (f g : faults.Fault) → ReadsAs block (Fault f)
    → ReadsAs block (Fault g) → f ≡ g
one_fault block f g (inl p) (inl q) = p.0 ∙ sym q.0
one_fault block f g (inl p) (inr q) = absurd (p.1 q.1.0 q.1.1)
one_fault block f g (inr p) (inl q) = absurd (q.1 p.1.0 p.1.1)
one_fault block f g (inr p) (inr q) = p.0 ∙ sym q.0

within_is : (s t : statements.Statement) → Within s ≡ Within t → s ≡ t
within_is s t h = cc

one_read : (block : List Token) (o p : Outcome) → ReadsAs block o → ReadsAs block p → o ≡ p
one_read block (Statement s) (Statement t) r q =
    ap Statement (within_is s t (sym r.2 ∙ ap said (one_tree block r.0 q.0 r.1 q.1) ∙ q.2))
one_read block (Statement s) (Fault f) r q = absurd (tree_and_fault block s f r q)
one_read block (Fault f) (Statement s) r q = absurd (tree_and_fault block s f q r)
one_read block (Fault f) (Fault g) r q = ap Fault (one_fault block f g r q)

one_at : (line : Option ℕ) (block : List Token) (o p : Outcome) → GivesAt line block o
    → GivesAt line block p → o ≡ p
one_at (Some line) block o p g h = g ∙ sym h
one_at None block o p g h = one_read block o p g h

pub one_outcome : (block : List Token) (o p : Outcome) → Gives block o → Gives block p → o ≡ p
one_outcome block o p g h = one_at (fault_line block) block o p g h

-- whatever the blocks give, they give nothing else
one_giving : (blocks : List (List Token)) (os ps : List Outcome) → AllGive blocks os
    → AllGive blocks ps → os ≡ ps
one_giving [] os ps g h = g ∙ sym h
one_giving (block ∷ blocks) [] ps g h = absurd g
one_giving (block ∷ blocks) (o ∷ os) [] g h = absurd h
one_giving (block ∷ blocks) (o ∷ os) (p ∷ ps) g h =
    let first = one_at (fault_line block) block o p g.0 h.0 in
    let others = one_giving blocks os ps g.1 h.1 in
    (λ i. first i ∷ others i)

one_order : (xs ys zs : List faults.Fault) → AreByLine xs ys → AreByLine xs zs → ys ≡ zs
one_order = one_by_key (λ f. f.place.line) nat_cmp nat_cmp_total

one_coming : (os : List Outcome) (p q : Parsed) → ComeTo os p → ComeTo os q → p ≡ q
one_coming os p q c d =
    let directives = c.directives ∙ sym d.directives in
    let settings = c.settings ∙ sym d.settings in
    let faults = one_order _ p.faults q.faults c.faults d.faults in
    λ i. record { directives = directives i; settings = settings i; faults = faults i }

pub one_text : (text : List ℕ) (p q : Parsed) → IsParsed text p → IsParsed text q → p ≡ q
one_text text p q r s =
    let same : r.0 ≡ s.0 = one_list text r.0 s.0 r.2 s.2 in
    let outcomes : r.1 ≡ s.1 =
    one_giving (blocks s.0) r.1 s.1 (subst (λ ts. AllGive (blocks ts) r.1) same r.3) s.3 in
    one_coming s.1 p q (subst (λ os. ComeTo os p) outcomes r.4) s.4
