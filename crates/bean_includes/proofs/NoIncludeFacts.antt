-- A text of which no line begins with the word `include` has no include line.
use Rattle.std.proofs.Common.{◌≡◌, ℕ, zero, suc, ◌+◌, ◌<◌, ◌≤◌, ◌^◌, ⊎_elim, inl, inr, cond, Bool, true}
use Rattle.std.proofs.Common.{false, nat_eq, List, [], ◌∷◌, Option, Some, None, length, get_or, take}
use Rattle.std.proofs.Common.{drop, arith, refl, sym, ◌∙◌, ap, codes, length-drop}
use Rattle.std.proofs.Common.{is_some, length-take-le, MatchBool}
use Rattle.std.proofs.lemmas.List.{get_or-drop, get_or-take}
use Rattle.std.specs.Cmp.Lexicographic.{pointwise}
use Rattle.std.specs.List.{starts_with}
use Rattle.memchr.specs.Find.{FindsNeedle, OccursAt}
use Rattle.bean_lexer.proofs.ColumnOneFacts.{begins_line}
use Rattle.bean_lexer.proofs.SomeTokensFacts.{some_tokens}
use Rattle.bean_lexer.proofs.WordFacts.{spelled}
use Rattle.bean_lexer.specs.KindForm.{is_of}
use Rattle.bean_lexer.specs.TokenForm.{keyword_spelling}
use Rattle.bean_lexer.specs.Tokens.{IsToken, TokensFrom}
use Rattle.bean_lexer.specs.declared.kind.Keyword as words
use Rattle.bean_lexer.specs.declared.kind.Keyword.TheVariants as word
use Rattle.bean_lexer.specs.declared.kind.Kind.{Kind}
use Rattle.bean_lexer.specs.declared.kind.Kind.TheVariants as kinds
use Rattle.bean_lexer.specs.declared.kind.Place.{Place}
use Rattle.bean_lexer.specs.declared.kind.Place.TheVariants as places
use Rattle.bean_lexer.specs.declared.token.Token.{Token}
use Rattle.bean_grammar.specs.Lexeme.{Lexeme, begins_with_keyword, lexeme_at, lexemes}
use Rattle.bean_parser.specs.Block.{begins_block, begins_block_at, blocks, fault_line}
use Rattle.bean_parser.specs.Block.{is_in_column_one}
use Rattle.bean_includes.specs.Includes.{AreIncludeLines, AreIncludesOf, IsIncludeOf, HasIncludeWord}
use Rattle.bean_includes.specs.Includes.{include_in}
use Rattle.bean_parser.specs.Outcome.{GivesAt}
use Rattle.bean_parser.specs.declared.block.Outcome.{Outcome}
use Rattle.bean_parser.specs.declared.block.Outcome.TheVariants as outcome
use Rattle.bean_parser.specs.declared.statement.Statement.TheVariants as statement
use Rattle.bean_includes.proofs.IncludesFacts.{gives_none}
use Rattle.theory.specs.Cut.{put_before}

-- The word stands in the first column: so a line begins with it.

word_of : (kind : Kind) (bs : List ℕ) (others : List Lexeme)
    → begins_with_keyword word.Include (lexeme_at kind bs ∷ others) ≡ true
    → (w : words.Keyword) × (kind ≡ kinds.Keyword w) × (keyword_spelling w ≡ codes "include")
word_of (kinds.Keyword w) bs others h = (w, refl, spelled (keyword_spelling w) (codes "include") h)
word_of kinds.Day bs others h = absurd (cc)
word_of _ bs others h = absurd (cc)

word_stands :
    (bs : List ℕ) (kind : Kind) (n : ℕ) (w : words.Keyword) → IsToken bs kind n
    → kind ≡ kinds.Keyword w → keyword_spelling w ≡ codes "include"
    → (7 ≤ length bs) × (take 7 bs ≡ codes "include")
word_stands bs kind n w token is spelling =
    ⊎_elim
    (λ long.
    let inside = long.inside in
    let front : take n bs ≡ codes "include" =
    spelled (take n bs) (keyword_spelling w)
    (ap (λ k. is_of k (take n bs)) (sym is) ∙ long.of_kind) ∙ spelling in
    let len : n ≡ 7 = sym (length-take-le n bs inside) ∙ ap length front in
    let far : 7 ≤ length bs = omega arith in
    (far, ap (λ k. take k bs) (sym len) ∙ front))
    (λ fault. let e = fault.is_fault in absurd (cc)) token

behind_feed : (text : List ℕ) (start k : ℕ) → start ≡ suc k → get_or text k 0 ≡ 10
    → start < length text
    → (7 ≤ length (drop start text)) × (take 7 (drop start text) ≡ codes "include")
    → OccursAt text (10 ∷ codes "include") k
behind_feed text start k at feed inside stands = record {
  fits = let l = length-drop start text in let far = stands.0 in omega arith;
  reads = reads;
}
  where
    reads : (j : ℕ) → j < length (10 ∷ codes "include")
        → get_or text (k + j) 0 ≡ get_or (10 ∷ codes "include") j 0
    reads zero low = let e : k + 0 ≡ k = omega arith in ap (λ i. get_or text i 0) e ∙ feed
    reads (suc i) low =
        let e : k + suc i ≡ start + i = omega arith in
        let less : i < 7 = omega arith in
        ap (λ j. get_or text j 0) e ∙ sym (get_or-drop start text i 0)
        ∙ sym (get_or-take 7 (drop start text) i 0 less)
        ∙ ap (λ l. get_or l i 0) stands.1

has_word :
    (text : List ℕ) (at : ℕ) (t : Token) (others : List Lexeme) (ts : List Token)
    → TokensFrom text at (t ∷ ts) → t.place ≡ places.ColumnOne
    → begins_with_keyword word.Include (lexeme_at t.kind t.text ∷ others) ≡ true
    → HasIncludeWord text
has_word text at t others ts from place is =
    let w = word_of t.kind t.text others is in
    let stands = word_stands (drop t.start text) t.kind (length t.text) w.0 from.5 w.1 w.2 in
    ⊎_elim
    (λ zero_at.
    let e : t.start ≡ 0 = from.0 ∙ zero_at in
    inl (ap (λ k. starts_with nat_eq (drop k text) (codes "include")) (sym e)
    ∙ ap (λ l. pointwise nat_eq (codes "include") l) stands.1))
    (λ feed. inr (
      feed.0,
      behind_feed text t.start feed.0 (from.0 ∙ feed.1) feed.2 from.1 stands,
    ))
    (begins_line text at (sym from.2 ∙ place))

-- No block begins with the word in the first column: so none gives an include line.

abbrev IsNone : Token → Type 0
IsNone t = t.place ≡ places.ColumnOne
    → begins_with_keyword word.Include (lexeme_at t.kind t.text ∷ []) ≡ true → ⊥

abbrev AreNone : List Token → Type 0
AreNone [] = Unit {0}
AreNone (t ∷ ts) = IsNone t × AreNone ts

abbrev FirstIsNone : List Token → Type 0
FirstIsNone [] = Unit {0}
FirstIsNone (t ∷ ts) = IsNone t

abbrev FirstsAreNone : List (List Token) → Type 0
FirstsAreNone [] = Unit {0}
FirstsAreNone (block ∷ blocks) = FirstIsNone block × FirstsAreNone blocks

are_none : (text : List ℕ) (at : ℕ) (ts : List Token) → (HasIncludeWord text → ⊥)
    → TokensFrom text at ts → AreNone ts
are_none text at [] no_word from = tt
are_none text at (t ∷ ts) no_word from = (
  λ place is. no_word (has_word text at t [] ts from place is),
  are_none text (t.start + length t.text) ts no_word from.6,
)

cut_by : (b : Bool) (t y : Token) (ys : List Token) (parts : List (List Token)) → IsNone t
    → FirstsAreNone ((y ∷ ys) ∷ parts)
    → FirstsAreNone (cond b ((t ∷ []) ∷ ((y ∷ ys) ∷ parts)) ((t ∷ (y ∷ ys)) ∷ parts))
cut_by true t y ys parts first others = (first, others)
cut_by false t y ys parts first others = (first, others.1)

cut : (t : Token) (parts : List (List Token)) → IsNone t → FirstsAreNone parts
    → FirstsAreNone (put_before begins_block t parts)
cut t [] first others = (first, tt)
cut t ([] ∷ parts) first others = (first, others.1)
cut t ((y ∷ ys) ∷ parts) first others = cut_by (begins_block y) t y ys parts first others

firsts_are_none : (ts : List Token) → AreNone ts → FirstsAreNone (blocks ts)
firsts_are_none [] none = tt
firsts_are_none (t ∷ ts) none = cut t (blocks ts) none.0 (firsts_are_none ts none.1)

no_tree_at : (block : List Token) → is_in_column_one block ≡ false → (line : Option ℕ) (o : Outcome)
    → GivesAt line block o → include_in o ≡ None
no_tree_at block out (Some line) o g = ap include_in g
no_tree_at block out None (outcome.Statement (statement.Undated u)) r =
    let has : is_in_column_one block ≡ true = r.1.0 in
    let both : false ≡ true = sym out ∙ has in
    absurd (cc)
no_tree_at block out None (outcome.Statement (statement.Directive d)) r = refl
no_tree_at block out None (outcome.Fault f) r = refl

in_first_column : (p : Place) → begins_block_at p ≡ true → p ≡ places.ColumnOne
in_first_column places.ColumnOne h = refl
in_first_column places.Indented h = absurd (cc)
in_first_column places.Inside h = absurd (cc)

block_by : (t : Token) (ts : List Token) (in_one is : Bool) → is_in_column_one (t ∷ ts) ≡ in_one
    → begins_with_keyword word.Include (lexemes (t ∷ ts)) ≡ is → IsNone t
    → IsIncludeOf (t ∷ ts) None
block_by t ts in_one false e h none = gives_none (t ∷ ts) h
block_by t ts false true e h none = λ o g. no_tree_at (t ∷ ts) e (fault_line (t ∷ ts)) o g
block_by t ts true true e h none =
    absurd (none (in_first_column t.place e) (alone t.kind t.text (lexemes ts) h))
  where
    alone : (kind : Kind) (bs : List ℕ) (others : List Lexeme)
        → begins_with_keyword word.Include (lexeme_at kind bs ∷ others) ≡ true
        → begins_with_keyword word.Include (lexeme_at kind bs ∷ []) ≡ true
    alone (kinds.Keyword w) bs others h = h
    alone kinds.Day bs others h = h
    alone _ bs others h = h

block_none : (block : List Token) → FirstIsNone block → IsIncludeOf block None
block_none [] none = gives_none [] refl
block_none (t ∷ ts) none = block_by t ts _ _ refl refl none

blocks_none : (parts : List (List Token)) → FirstsAreNone parts → AreIncludesOf parts []
blocks_none [] none = refl
blocks_none (block ∷ parts) none =
    (None, [], block_none block none.0, blocks_none parts none.1, refl)

pub none_without_word : (text : List ℕ) → length text < 2 ^ 64 → (HasIncludeWord text → ⊥)
    → AreIncludeLines text []
none_without_word text small no_word =
    let found = some_tokens text small in (
      found.0,
      found.1,
      blocks_none (blocks found.0)
          (firsts_are_none found.0 (are_none text 0 found.0 no_word found.1)),
    )

-- The search finds the word behind a line feed, or there is none.

pub searched :
    (text : List ℕ) (found : Option ℕ) → starts_with nat_eq text (codes "include") ≡ false
    → FindsNeedle text (10 ∷ codes "include") 0 found
    → MatchBool (is_some found) (HasIncludeWord text) (HasIncludeWord text → ⊥)
searched text (Some at) front finds = inr (at, finds.1)
searched text None front finds = λ has. ⊎_elim
    (λ begins. let both : false ≡ true = sym front ∙ begins in absurd (cc))
    (λ stands. let fits = stands.1.fits in
    finds stands.0 (omega arith) (omega arith) stands.1) has
