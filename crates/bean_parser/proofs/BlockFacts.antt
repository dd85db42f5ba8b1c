-- A block, from its first line and those under it.
use Rattle.std.proofs.Common.{◌≡◌, ℕ, suc, arith, ◌==◌, true, false, List, [], ◌∷◌, length, map}
use Rattle.std.proofs.Common.{Option, Some, None, Result, Ok, Err, refl, sym, ◌∙◌, ap, subst}
use Rattle.std.proofs.lemmas.Bool.Decides.{nat_tests}
use Rattle.std.specs.Prelude.{IfOk}
use Rattle.theory.specs.Cut.{cut_before}
use Rattle.theory.proofs.CutFacts.{first_cut}
use Rattle.bean_base.specs.declared.days.Day as days
use Rattle.bean_lexer.specs.declared.token.Token.{Token}
use Rattle.bean_grammar.specs.declared.ranged.Ranged.{Ranged}
use Rattle.bean_grammar.specs.Lexeme.{lexemes}
use Rattle.bean_parser.specs.Block.{Line, line_of, lines, first_line, begins_line, is_in_column_one}
use Rattle.bean_parser.specs.Grammar.{takes_postings, Tree, Dated, Undated, HaveTree}
use Rattle.bean_directives.specs.Head.{IsHead, IsNoHead}
use Rattle.bean_parser.specs.Reading.{ReadsDated, ReadsUndated, ReadsBlock}
use Rattle.bean_directives.specs.Undated.{IsUndated}
use Rattle.bean_parser.specs.Under.{AreLines}
use Rattle.bean_directives.specs.declared.directive.DirectiveKind.{DirectiveKind}
use Rattle.bean_parser.specs.declared.statement.Statement.{Statement}
use Rattle.bean_parser.specs.declared.under.LineKind.{LineKind}
use Rattle.bean_directives.specs.declared.undated.UndatedKind.{UndatedKind}
use Rattle.bean_directives.proofs.FirstLineFacts.{dated_or_undated}
use Rattle.bean_directives.proofs.OneHeadFacts.{one_head}

-- where tokens stand, lines stand
pub some_lines : (tokens : List Token) → (length tokens == 0) ≡ false → lines tokens ≡ [] → ⊥
some_lines [] some e = cc
some_lines (t ∷ ts) some e = let cut = ap (map line_of) (first_cut begins_line t ts) in cc

not_empty : (n : ℕ) → (suc n == 0) ≡ true → ⊥
not_empty n e = absurd (grind (arith, nat_tests))

pub no_lines_of : (tokens : List Token) → (length tokens == 0) ≡ true → lines tokens ≡ []
no_lines_of [] empty = refl
no_lines_of (t ∷ ts) empty = absurd (not_empty (length ts) empty)

-- the first line of a block and those under it
cut_lines : (block line under : List Token)
    → cut_before begins_line block ≡ line ∷ cut_before begins_line under
    → lines block ≡ line_of line ∷ lines under
cut_lines block line under cut = ap (map line_of) cut

-- where the first line is a head

of_head : (line : List Token) (under : List Line) (d : Ranged days.Day) (k : Ranged DirectiveKind)
    → IsHead (lexemes line) d k → (t : Tree) → HaveTree (line_of line ∷ under) t
    → (ks : List LineKind) × AreLines (takes_postings k) under ks
of_head line under d k is (Dated n e j ks) h =
    let same = one_head (lexemes line) d k e j is h.1 in
    (ks, subst (λ x. AreLines (takes_postings x) under ks) (sym same.1) h.2)
of_head line under d k is (Undated n j) h = absurd (dated_or_undated (lexemes line) d k j is h.1)

pub dated_is :
    (block line under : List Token) (d : Ranged days.Day) (k : Ranged DirectiveKind) (n : ℕ)
    (o : Option (Ranged Statement)) → is_in_column_one block ≡ true
    → cut_before begins_line block ≡ line ∷ cut_before begins_line under
    → first_line line ≡ first_line block → IsHead (lexemes line) d k → n ≡ first_line block
    → ReadsDated n d k (lines under) o → ReadsBlock block o
dated_is block line under d k n (Some v) column cut number is at r =
    let have : HaveTree (line_of line ∷ lines under) (Dated n d k r.0) =
    (at ∙ sym number, is, r.1) in (
      Dated n d k
          r.0,
      (
        column,
        subst (λ ls. HaveTree ls (Dated n d k r.0))
            (sym (cut_lines block line under cut)) have,
      ),
      r.2,
    )
dated_is block line under d k n None column cut number is at r = λ t h.
    let have : HaveTree (line_of line ∷ lines under) t =
    subst (λ ls. HaveTree ls t) (cut_lines block line under cut) h.1 in
    let found = of_head line (lines under) d k is t have in
    r found.0 found.1

-- where it is none

of_line : (line : List Token) (under : List Line) → IsNoHead (lexemes line) → (t : Tree)
    → HaveTree (line_of line ∷ under) t
    → (k : Ranged UndatedKind) × IsUndated (lexemes line) k × (under ≡ [])
of_line line under none (Dated n e j ks) h = absurd (none e j h.1)
of_line line under none (Undated n k) h = (k, h.1, h.2)

pub undated_is_block : (block line under : List Token) (n : ℕ) (o : Option (Ranged Statement))
    → is_in_column_one block ≡ true
    → cut_before begins_line block ≡ line ∷ cut_before begins_line under
    → first_line line ≡ first_line block → IsNoHead (lexemes line) → n ≡ first_line block
    → ReadsUndated n line under o → ReadsBlock block o
undated_is_block block line under n (Some v) column cut number none at r =
    let have : HaveTree (line_of line ∷ lines under) (Undated n r.0) =
    (at ∙ sym number, r.1, r.2) in (
      Undated n
          r.0,
      (
        column,
        subst (λ ls. HaveTree ls (Undated n r.0))
            (sym (cut_lines block line under cut)) have,
      ),
      r.3,
    )
undated_is_block block line under n None column cut number none at r = λ t h.
    let have : HaveTree (line_of line ∷ lines under) t =
    subst (λ ls. HaveTree ls t) (cut_lines block line under cut) h.1 in
    let found = of_line line (lines under) none t have in
    r found.0 found.1 found.2

pub if_ok : {A E : Type 0} (r : Result A E) (P Q : A → Type 0) → ((x : A) → P x → Q x) → IfOk r P
    → IfOk r Q
if_ok (Ok x) P Q more p = more x p
if_ok (Err e) P Q more p = p
