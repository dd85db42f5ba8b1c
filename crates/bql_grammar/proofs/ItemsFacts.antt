-- How lists of literals are read.
use Rattle.std.proofs.Common.{◌≡◌, ℕ, zero, suc, ◌<◌, ◌++◌, ◌∷◌, [], List, Some, None, refl}
use Rattle.std.proofs.Common.{arith, ap, ◌∙◌}
use Rattle.theory.specs.Form.{Form, Reads, HasNone, made, alone, snoc}
use Rattle.theory.proofs.FormFacts.{reads_made}
use Rattle.bql_lexer.specs.declared.kind.Kind.TheVariants as kind
use Rattle.bql_lexer.specs.declared.token.Token.{Token}
use Rattle.bql_tree.specs.Call.{listed}
use Rattle.bql_grammar.specs.Expression.{token, then, literal, counted, literals, list}
use Rattle.bql_grammar.specs.Front as fronts
use Rattle.bql_grammar.specs.Front.{front, of_kind}
use Rattle.bql_tree.specs.Part as parts
use Rattle.bql_tree.specs.Part.{Part, part_of, parts_in}
use Rattle.bql_tree.specs.declared.part.Part as pieces
use Rattle.bql_tree.proofs.CallFacts.{parts_more}
use Rattle.bql_tree.specs.declared.tree.Leaf.{Leaf}
use Rattle.bql_grammar.proofs.FormFacts.{reads_then, none_then_first, none_then, reads_behind}
use Rattle.bql_grammar.proofs.FormFacts.{none_behind, none_here, none_of_nothing}

-- A literal.

pub literal_read : (ts : List Token) (found : Token × Leaf) (rest : List Token)
    → front fronts.literal ts ≡ Some (found, rest)
    → Reads literal ts (parts.leaf found.0 found.1) rest
literal_read ts found rest at =
    reads_behind fronts.literal (λ found. made (parts.leaf found.0 found.1)) ts found rest _ rest
    (λ v rest. refl) at (reads_made (parts.leaf found.0 found.1) rest)

pub no_literal : (ts : List Token) → front fronts.literal ts ≡ None → HasNone literal ts
no_literal ts none = none_here fronts.literal (λ found. made (parts.leaf found.0 found.1)) ts none

-- What stands behind COUNT and its parenthesis.

pub counted_read : (name : Token) (ts : List Token) (star : Token) (mid : List Token)
    (close : Token) (rest : List Token) → front (of_kind kind.Star) ts ≡ Some (star, mid)
    → front (of_kind kind.CloseParenthesis) mid ≡ Some (close, rest)
    → Reads (counted name) ts (parts.rows name close) rest
counted_read name ts star mid close rest at close_at =
    reads_behind (of_kind kind.Star)
    (λ star. then (token kind.CloseParenthesis) (λ close. made (parts.rows name close)))
    ts star mid _ rest (λ v rest. refl) at
    (reads_behind (of_kind kind.CloseParenthesis) (λ close. made (parts.rows name close))
    mid close rest _ rest (λ v rest. refl) close_at (reads_made (parts.rows name close) rest))

-- The first part of a list that was empty.
pub parts_first : (ps : List pieces.Part) (p : pieces.Part) (qs : List pieces.Part) → ps ≡ []
    → qs ≡ ps ++ p ∷ [] → parts_in qs ≡ alone (part_of p)
parts_first ps p qs none e =
    parts_more ps p qs e ∙ ap (λ xs. snoc (parts_in xs) (part_of p)) none

-- Lists.

abbrev shut : Part → List Part → Form Token Part
shut left items = then (token kind.CloseParenthesis) (λ close. made (listed left items close))

abbrev opened : Part → Form Token Part
opened left = then (token kind.OpenParenthesis) (λ opening. then literals (shut left))

pub no_items : (room : ℕ) (left : Part) (ts : List Token) (word : Token) (mid : List Token)
    (opening : Token) (in_it : List Token) → front (of_kind kind.In) ts ≡ Some (word, mid)
    → front (of_kind kind.OpenParenthesis) mid ≡ Some (opening, in_it)
    → HasNone literals in_it → HasNone (list room left) ts
no_items zero left ts word mid opening in_it at open_at none = none_of_nothing ts
no_items (suc room) left ts word mid opening in_it at open_at none =
    none_behind (of_kind kind.In) (λ word. opened left) ts word mid (λ v rest. refl) at
    (none_behind (of_kind kind.OpenParenthesis) (λ opening. then literals (shut left)) mid opening
    in_it (λ v rest. refl) open_at (none_then_first literals (shut left) in_it
    (λ rest. refl) none))

pub items_not_shut : (room : ℕ) (left : Part) (ts : List Token) (word : Token) (mid : List Token)
    (opening : Token) (in_it : List Token) (items : List Part) (rest : List Token)
    → front (of_kind kind.In) ts ≡ Some (word, mid)
    → front (of_kind kind.OpenParenthesis) mid ≡ Some (opening, in_it)
    → Reads literals in_it items rest → front (of_kind kind.CloseParenthesis) rest ≡ None
    → HasNone (list room left) ts
items_not_shut zero left ts word mid opening in_it items rest at open_at r none = none_of_nothing ts
items_not_shut (suc room) left ts word mid opening in_it items rest at open_at r none =
    none_behind (of_kind kind.In) (λ word. opened left) ts word mid (λ v rest. refl) at
    (none_behind (of_kind kind.OpenParenthesis) (λ opening. then literals (shut left)) mid opening
    in_it (λ v rest. refl) open_at
    (none_then literals (shut left) in_it items rest (λ rest. refl) (λ v rest. refl) r
    (none_here (of_kind kind.CloseParenthesis) (λ close. made (listed left items close)) rest
    none)))

pub list_read : (room : ℕ) (left : Part) (ts : List Token) (word : Token) (mid : List Token)
    (opening : Token) (in_it : List Token) (items : List Part) (rest : List Token) (close : Token)
    (more : List Token) → 0 < room
    → front (of_kind kind.In) ts ≡ Some (word, mid) → front (of_kind kind.OpenParenthesis) mid
    ≡ Some (opening, in_it) → Reads literals in_it items rest
    → front (of_kind kind.CloseParenthesis) rest ≡ Some (close, more)
    → Reads (list room left) ts (listed left items close) more
list_read zero left ts word mid opening in_it items rest close more some at open_at r shut_at =
    absurd (omega (arith, some))
list_read (suc room) left ts word mid opening in_it items rest close more some at open_at r shut_at
    =
    reads_behind (of_kind kind.In) (λ word. opened left) ts word mid _ more (λ v rest. refl) at
    (reads_behind (of_kind kind.OpenParenthesis) (λ opening. then literals (shut left)) mid opening
    in_it _ more (λ v rest. refl) open_at
    (reads_then literals (shut left) in_it items rest _ more (λ rest. refl) (λ v rest. refl) r
    (reads_behind (of_kind kind.CloseParenthesis) (λ close. made (listed left items close)) rest
    close more _ more (λ v rest. refl) shut_at (reads_made (listed left items close) more))))
