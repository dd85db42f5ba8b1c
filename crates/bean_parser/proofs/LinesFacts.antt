-- The lines under a first one, one after the other.
use Rattle.std.proofs.Common.{◌≡◌, ℕ, Bool, List, [], ◌∷◌, ◌++◌, Option, Some, None, map, refl, sym}
use Rattle.std.proofs.Common.{◌∙◌, ap, subst, append_assoc}
use Rattle.std.proofs.lemmas.List.{append-nil}
use Rattle.theory.specs.Cut.{cut_before}
use Rattle.bean_lexer.specs.declared.token.Token.{Token}
use Rattle.bean_parser.specs.Block.{Line, line_of, lines, begins_line}
use Rattle.bean_base.specs.declared.days.Day as days
use Rattle.bean_grammar.specs.declared.ranged.Ranged.{Ranged}
use Rattle.bean_directives.specs.declared.directive.DirectiveKind.{DirectiveKind}
use Rattle.bean_parser.specs.Grammar.{dated, takes_postings}
use Rattle.bean_parser.specs.Reading.{ReadsDated, ReadsLine, ReadsLines, InLines}
use Rattle.bean_parser.specs.declared.statement.Statement.{Statement}
use Rattle.bean_parser.specs.Under.{IsLine, AreLines, no_lines, with_line, with_lines}
use Rattle.bean_parser.specs.declared.under.Body.{Body}
use Rattle.bean_parser.specs.declared.under.LineKind.{LineKind}

pub lines_begin : (in_transaction : Bool) (ls : List Line) (b : Body) → b ≡ no_lines
    → InLines in_transaction ls ls b
lines_begin in_transaction ls b none =
    record { read = []; whole = λ us h. h; only = λ ws h. (ws, h); said = none }

-- the cut of tokens is the cut of their lines
next_line : (rest line after : List Token)
    → cut_before begins_line rest ≡ line ∷ cut_before begins_line after
    → lines rest ≡ line_of line ∷ lines after
next_line rest line after e = ap (map line_of) e

pub with_one_more : (b : Body) (ks : List LineKind) (k : LineKind)
    → with_lines b (ks ++ k ∷ []) ≡ with_line (with_lines b ks) k
with_one_more b [] k = refl
with_one_more b (j ∷ ks) k = with_one_more (with_line b j) ks k

behind_first : (in_transaction : Bool) (line : Line) (after : List Line) (us : List LineKind)
    → AreLines in_transaction (line ∷ after) us
    → (vs : List LineKind) × AreLines in_transaction after vs
behind_first in_transaction line after [] h = absurd h
behind_first in_transaction line after (u ∷ us) h = (us, h.1)

pub line_more :
    (in_transaction : Bool) (ls : List Line) (rest line after : List Token) (b b' : Body)
    (k : LineKind) → InLines in_transaction ls (lines rest) b
    → cut_before begins_line rest ≡ line ∷ cut_before begins_line after
    → IsLine in_transaction (line_of line) k → b' ≡ with_line b k
    → InLines in_transaction ls (lines after) b'
line_more in_transaction ls rest line after b b' k p cut is added =
    let at = next_line rest line after cut in
    record {
      read = p.read ++ k ∷ [];
      whole = λ us h.
          let first : AreLines in_transaction (line_of line ∷ lines after) (k ∷ us) = (is, h) in
          let all : AreLines in_transaction ls (p.read ++ (k ∷ us)) =
          p.whole (k ∷ us) (subst (λ x. AreLines in_transaction x (k ∷ us)) (sym at) first) in
          subst (AreLines in_transaction ls) (sym (append_assoc p.read (k ∷ []) us)) all;
      only = λ ws h. let o = p.only ws h in
          behind_first in_transaction (line_of line) (lines after) o.0
          (subst (λ x. AreLines in_transaction x o.0) at o.1);
      said = added ∙ ap (λ x. with_line x k) p.said ∙ sym (with_one_more no_lines p.read k);
    }

none_at : (in_transaction : Bool) (line : Line) (after : List Line)
    → ReadsLine in_transaction line None → (us : List LineKind)
    → AreLines in_transaction (line ∷ after) us → ⊥
none_at in_transaction line after none [] h = h
none_at in_transaction line after none (u ∷ us) h = none u h.0

pub line_none : (in_transaction : Bool) (ls : List Line) (rest line after : List Token) (b : Body)
    → InLines in_transaction ls (lines rest) b
    → cut_before begins_line rest ≡ line ∷ cut_before begins_line after
    → ReadsLine in_transaction (line_of line) None → (ws : List LineKind)
    → AreLines in_transaction ls ws → ⊥
line_none in_transaction ls rest line after b p cut none ws h =
    let o = p.only ws h in
    none_at in_transaction (line_of line) (lines after) none o.0
    (subst (λ x. AreLines in_transaction x o.0) (next_line rest line after cut) o.1)

pub lines_end : (in_transaction : Bool) (ls : List Line) (rest : List Token) (b : Body)
    → InLines in_transaction ls (lines rest) b → rest ≡ [] → ReadsLines in_transaction ls (Some b)
lines_end in_transaction ls rest b p end = (
  p.read,
  subst (AreLines in_transaction ls) (append-nil p.read)
      (p.whole [] (subst (λ x. AreLines in_transaction (lines x) []) (sym end) refl)),
  p.said,
)

pub no_kind : (in_transaction : Bool) (l : Line) (o : Option LineKind)
    → ((k : LineKind) → o ≡ Some k → ⊥) → ReadsLine in_transaction l o
    → ReadsLine in_transaction l None
no_kind in_transaction l None none r = r
no_kind in_transaction l (Some k) none r = absurd (none k refl)

-- what a head says with lines under it
pub body_read :
    (line : ℕ) (d : Ranged days.Day) (k : Ranged DirectiveKind) (ls : List Line) (b : Body)
    (v : Ranged Statement) → ReadsLines (takes_postings k) ls (Some b) → v ≡ dated line d k b
    → ReadsDated line d k ls (Some v)
body_read line d k ls b v read is = (read.0, read.1, is ∙ ap (dated line d k) read.2)

-- the same, where a test says whether lines stand under a transaction
pub lines_read : (t s : Bool) (ls : List Line) (o : Option Body) → t ≡ s → ReadsLines t ls o
    → ReadsLines s ls o
lines_read t s ls o same read = subst (λ x. ReadsLines x ls o) same read
