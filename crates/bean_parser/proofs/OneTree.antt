-- A block has at most one tree.
use Rattle.std.proofs.Common.{◌≡◌, Bool, List, [], ◌∷◌, refl, sym, ◌∙◌, ap, subst}
use Rattle.theory.proofs.OneReading.{one_value}
use Rattle.bean_lexer.specs.declared.token.Token.{Token}
use Rattle.bean_grammar.proofs.MarkFacts.{one_some_marks}
use Rattle.bean_grammar.proofs.MetadataFacts.{one_entry}
use Rattle.bean_postings.proofs.PostingFacts.{one_posting}
use Rattle.bean_grammar.specs.Mark.{some_marks}
use Rattle.bean_grammar.specs.Metadata.{entry}
use Rattle.bean_postings.specs.Posting.{posting}
use Rattle.bean_parser.specs.Block.{Line, lines}
use Rattle.bean_parser.specs.Grammar.{takes_postings, Tree, Dated, Undated, HaveTree, HasTree}
use Rattle.bean_parser.specs.Under.{IsLine, AreLines}
use Rattle.bean_parser.specs.declared.under.LineKind.{LineKind}
use Rattle.bean_parser.specs.declared.under.LineKind.TheVariants as kinds
use Rattle.bean_directives.proofs.FirstLineFacts.{dated_or_undated}
use Rattle.bean_parser.proofs.LineFacts.{entry_told, marks_begin, posting_begins, both}
use Rattle.bean_directives.proofs.OneHeadFacts.{one_head}
use Rattle.bean_directives.proofs.OneUndatedFacts.{one_undated}

-- a line says one thing
one_line : (in_transaction : Bool) (l : Line) (k j : LineKind) → IsLine in_transaction l k
    → IsLine in_transaction l j → k ≡ j
one_line in_transaction l (kinds.Entry e) (kinds.Entry f) h i =
    ap kinds.Entry (one_value entry l.lexemes e f one_entry refl h i)
one_line in_transaction l (kinds.Entry e) (kinds.Marks ms) h i =
    absurd (both _ (entry_told l.lexemes e [] h) (marks_begin l.lexemes ms i.1).1)
one_line in_transaction l (kinds.Entry e) (kinds.Posting p) h i =
    absurd (both _ (entry_told l.lexemes e [] h) (posting_begins l.number l.lexemes p i.1).1)
one_line in_transaction l (kinds.Marks ms) (kinds.Entry e) h i =
    absurd (both _ (entry_told l.lexemes e [] i) (marks_begin l.lexemes ms h.1).1)
one_line in_transaction l (kinds.Marks ms) (kinds.Marks ns) h i =
    ap kinds.Marks (one_value some_marks l.lexemes ms ns one_some_marks refl h.1 i.1)
one_line in_transaction l (kinds.Marks ms) (kinds.Posting p) h i =
    absurd (both _ (marks_begin l.lexemes ms h.1).0 (posting_begins l.number l.lexemes p i.1).0)
one_line in_transaction l (kinds.Posting p) (kinds.Entry e) h i =
    absurd (both _ (entry_told l.lexemes e [] i) (posting_begins l.number l.lexemes p h.1).1)
one_line in_transaction l (kinds.Posting p) (kinds.Marks ms) h i =
    absurd (both _ (marks_begin l.lexemes ms i.1).0 (posting_begins l.number l.lexemes p h.1).0)
one_line in_transaction l (kinds.Posting p) (kinds.Posting q) h i =
    ap kinds.Posting
    (one_value (posting l.number) l.lexemes p q (one_posting l.number) refl h.1 i.1)

same_lines : (in_transaction : Bool) (ls : List Line) (ks js : List LineKind)
    → AreLines in_transaction ls ks → AreLines in_transaction ls js → ks ≡ js
same_lines in_transaction [] ks js h i = h ∙ sym i
same_lines in_transaction (l ∷ ls) [] js h i = absurd h
same_lines in_transaction (l ∷ ls) (k ∷ ks) [] h i = absurd i
same_lines in_transaction (l ∷ ls) (k ∷ ks) (j ∷ js) h i =
    let first = one_line in_transaction l k j h.0 i.0 in
    let others = same_lines in_transaction ls ks js h.1 i.1 in
    (λ n. first n ∷ others n)

have_one : (ls : List Line) (t u : Tree) → HaveTree ls t → HaveTree ls u → t ≡ u
have_one [] t u h i = absurd h
have_one (l ∷ ls) (Dated m d k ks) (Dated n e j js) h i =
    let line = h.0 ∙ sym i.0 in
    let head = one_head l.lexemes d k e j h.1 i.1 in
    let under =
    same_lines (takes_postings k) ls ks js h.2
    (subst (λ x. AreLines (takes_postings x) ls js) (sym head.1) i.2) in
    (λ p. Dated (line p) (head.0 p) (head.1 p) (under p))
have_one (l ∷ ls) (Dated m d k ks) (Undated n j) h i =
    absurd (dated_or_undated l.lexemes d k j h.1 i.1)
have_one (l ∷ ls) (Undated n j) (Dated m d k ks) h i =
    absurd (dated_or_undated l.lexemes d k j i.1 h.1)
have_one (l ∷ ls) (Undated m k) (Undated n j) h i =
    let line = h.0 ∙ sym i.0 in
    let kind = one_undated l.lexemes k j h.1 i.1 in
    (λ p. Undated (line p) (kind p))

pub one_tree : (block : List Token) (t u : Tree) → HasTree block t → HasTree block u → t ≡ u
one_tree block t u h i = have_one (lines block) t u h.1 i.1
