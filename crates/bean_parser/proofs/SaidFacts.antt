-- What a transaction says, line by line.
use Rattle.std.proofs.Common.{◌≡◌, ℕ, List, [], ◌∷◌, ◌++◌, map, length, refl, sym, ◌∙◌}
use Rattle.std.proofs.Common.{ap, subst, append_assoc, arith, Option, Some, None}
use Rattle.std.proofs.lemmas.List.{append-nil, length-append}
use Rattle.bean_grammar.specs.declared.mark.Mark.{Mark}
use Rattle.bean_grammar.specs.declared.metadata.MetaEntry.{MetaEntry}
use Rattle.bean_postings.specs.declared.posting.Posting.{Posting}
use Rattle.bean_directives.specs.declared.directive.Directive.{Directive}
use Rattle.bean_directives.specs.declared.directive.DirectiveKind.TheVariants as kinds
use Rattle.bean_directives.specs.declared.transaction.Transaction.{Transaction}
use Rattle.bean_lexer.specs.ToCome.{EndsLines}
use Rattle.bean_lexer.specs.declared.lexer.Lexer.{Lexer}
use Rattle.bean_lexer.specs.declared.token.Token.{Token}
use Rattle.bean_parser.specs.Plain.{HasSaid, IsFirstLine, TakesPostings, TakesUnder, marked}
use Rattle.bean_parser.specs.Under.{all_before, no_lines, postings_in, said_posting, under_posting}
use Rattle.bean_parser.specs.Under.{with_entry, with_line, with_lines, with_posting}
use Rattle.bean_parser.specs.declared.under.Body.{Body}
use Rattle.bean_parser.specs.declared.under.LineKind.{LineKind}
use Rattle.bean_parser.proofs.UnderFacts.{both_taken}

pub with_both : (b : Body) (ks js : List LineKind)
    → with_lines b (ks ++ js) ≡ with_lines (with_lines b ks) js
with_both b [] js = refl
with_both b (k ∷ ks) js = with_both (with_line b k) ks js

pub head_says : (line : List Token) (d : Directive) (others : List Posting)
    → (head : IsFirstLine line d) → HasSaid d head.transaction others no_lines d others
head_says line d others head = record {
  day = refl;
  line = refl;
  metadata = head.bare;
  kind =
      head.kind
      ∙ ap (λ ms. kinds.Transaction (record head.transaction { marks = ms }))
      (sym (append-nil head.transaction.marks));
  postings = sym (append-nil others);
  apart = λ none. refl;
  in_range = refl;
}

-- Postings.

pub posting_said :
    (head : Directive) (t : Transaction) (others : List Posting) (b : Body) (d : Directive)
    (all all' : List Posting) (p : Posting) → HasSaid head t others b d all → all' ≡ all ++ p ∷ []
    → HasSaid head t others (with_posting b p) d all'
posting_said head t others b d all all' p said added = record {
  day = said.day;
  line = said.line;
  metadata = said.metadata;
  kind = said.kind;
  postings = added ∙ ap (λ ps. ps ++ p ∷ []) said.postings
      ∙ append_assoc others (postings_in b) (p ∷ []);
  apart = λ none. absurd (cc);
  in_range = said.in_range;
}

pub postings_said :
    (head : Directive) (t : Transaction) (others : List Posting) (b : Body) (d : Directive)
    (all all' ps : List Posting) → HasSaid head t others b d all → all' ≡ all ++ ps
    → HasSaid head t others (with_lines b (map said_posting ps)) d all'
postings_said head t others b d all all' [] said added =
    subst (HasSaid head t others b d) (sym (added ∙ append-nil all)) said
postings_said head t others b d all all' (p ∷ ps) said added =
    postings_said head t others (with_posting b p) d (all ++ p ∷ []) all' ps
    (posting_said head t others b d all (all ++ p ∷ []) p said refl)
    (added ∙ sym (append_assoc all (p ∷ []) ps))

-- Tags and links.

pub marks_said :
    (head : Directive) (t : Transaction) (others : List Posting) (b : Body) (d d' : Directive)
    (all : List Posting) (ms : List Mark) → HasSaid head t others b d all
    → d' ≡ record d { kind = marked ms d.kind }
    → HasSaid head t others (record b { marks = b.marks ++ ms }) d' all
marks_said head t others b d d' all ms said is = record {
  day = ap (λ x. x.day) is ∙ said.day;
  line = ap (λ x. x.line) is ∙ said.line;
  metadata = ap (λ x. x.metadata) is ∙ said.metadata;
  kind = ap (λ x. x.kind) is ∙ ap (marked ms) said.kind
      ∙ ap (λ x. kinds.Transaction (record t { marks = x })) (append_assoc t.marks b.marks ms);
  postings = said.postings;
  apart = said.apart;
  in_range = said.in_range;
}

-- Entries.

too_many : (others ps : List Posting) (n : ℕ) (p : Posting) → length others ≡ n
    → length (others ++ (ps ++ p ∷ [])) ≡ n → ⊥
too_many others ps n p own all =
    let outer = length-append others (ps ++ p ∷ []) in
    let inner = length-append ps (p ∷ []) in
    omega (arith, own, all, outer, inner)

above_by :
    (head : Directive) (t : Transaction) (others : List Posting) (b : Body) (d d' : Directive)
    (all : List Posting) (e : MetaEntry) (n : ℕ) (o : Option Posting) → b.last ≡ o
    → HasSaid head t others b d all
    → length others ≡ n → length all ≡ n → d' ≡ record d { metadata = d.metadata ++ e ∷ [] }
    → HasSaid head t others (with_entry b o e) d' all
above_by head t others b d d' all e n None at said own few is = record {
  day = ap (λ x. x.day) is ∙ said.day;
  line = ap (λ x. x.line) is ∙ said.line;
  metadata = ap (λ x. x.metadata) is ∙ ap (λ ms. ms ++ e ∷ []) said.metadata;
  kind = ap (λ x. x.kind) is ∙ said.kind;
  postings = said.postings;
  apart = said.apart;
  in_range = said.in_range;
}
above_by head t others b d d' all e n (Some p) at said own few is =
    absurd
    (too_many others b.before n p own
    (sym (ap length (said.postings ∙ ap (λ o. others ++ all_before b.before o) at)) ∙ few))

-- to the directive, which has no postings
pub entry_above :
    (head : Directive) (t : Transaction) (others : List Posting) (b : Body) (d d' : Directive)
    (all : List Posting) (e : MetaEntry) (n : ℕ) → HasSaid head t others b d all
    → length others ≡ n → length all ≡ n → d' ≡ record d { metadata = d.metadata ++ e ∷ [] }
    → HasSaid head t others (with_entry b b.last e) d' all
entry_above head t others b d d' all e n said own few is =
    above_by head t others b d d' all e n b.last refl said own few is

last_same : (xs ys : List Posting) (x y : Posting) → xs ++ x ∷ [] ≡ ys ++ y ∷ []
    → (xs ≡ ys) × (x ≡ y)
last_same [] [] x y e = (refl, cc)
last_same [] (v ∷ []) x y e = absurd (cc)
last_same [] (v ∷ (w ∷ ys)) x y e = absurd (cc)
last_same (u ∷ []) [] x y e = absurd (cc)
last_same (u ∷ (w ∷ xs)) [] x y e = absurd (cc)
last_same (u ∷ xs) (v ∷ ys) x y e =
    let rest : xs ++ x ∷ [] ≡ ys ++ y ∷ [] = cc in
    let first : u ≡ v = cc in
    let same = last_same xs ys x y rest in
    ((λ i. first i ∷ same.0 i), same.1)

below_by :
    (head : Directive) (t : Transaction) (others : List Posting) (b : Body) (d : Directive)
    (all all' before : List Posting) (last last' : Posting) (e : MetaEntry) (n : ℕ)
    (o : Option Posting) → b.last ≡ o
    → HasSaid head t others b d all → length others ≡ n → (length all ≡ n → ⊥)
    → all ≡ before ++ last ∷ [] → last' ≡ under_posting last e → all' ≡ before ++ last' ∷ []
    → HasSaid head t others (with_entry b o e) d all'
below_by head t others b d all all' before last last' e n None at said own some is changed put =
    let none : postings_in b ≡ [] = ap (all_before b.before) at ∙ said.apart at in
    absurd (some (ap length (said.postings ∙ ap (λ ps. others ++ ps) none ∙ append-nil others) ∙ own))
below_by head t others b d all all' before last last' e n (Some p) at said own some is changed put =
    let whole : (others ++ b.before) ++ p ∷ [] ≡ before ++ last ∷ [] =
    append_assoc others b.before (p ∷ []) ∙ ap (λ o. others ++ all_before b.before o) (sym at)
    ∙ sym said.postings ∙ is in
    let same = last_same (others ++ b.before) before p last whole in record {
      day = said.day;
      line = said.line;
      metadata = said.metadata;
      kind = said.kind;
      postings = put
          ∙ (λ i. sym same.0 i ++ (changed ∙ ap (λ x. under_posting x e) (sym same.1)) i ∷ [])
          ∙ append_assoc others b.before (under_posting p e ∷ []);
      apart = λ none. absurd (cc);
      in_range = said.in_range;
    }

-- to the last posting
pub entry_below :
    (head : Directive) (t : Transaction) (others : List Posting) (b : Body) (d : Directive)
    (all all' before : List Posting) (last last' : Posting) (e : MetaEntry) (n : ℕ)
    → HasSaid head t others b d all → length others ≡ n → (length all ≡ n → ⊥)
    → all ≡ before ++ last ∷ [] → last' ≡ under_posting last e → all' ≡ before ++ last' ∷ []
    → HasSaid head t others (with_entry b b.last e) d all'
entry_below head t others b d all all' before last last' e n said own some is changed put =
    below_by head t others b d all all' before last last' e n b.last refl said own some is changed put

-- Lines, one after the other.

pub lines_more :
    (head : Directive) (t : Transaction) (others : List Posting) (before at mid after : Lexer)
    (ks : List LineKind) (ps : List Posting) (k : LineKind) (d : Directive) (all : List Posting)
    → TakesUnder before at ks → TakesUnder at mid (map said_posting ps)
    → TakesUnder mid after (k ∷ [])
    → HasSaid head t others (with_line (with_lines (with_lines no_lines ks) (map said_posting ps)) k) d all
    → (js : List LineKind) × TakesUnder before after js
    × HasSaid head t others (with_lines no_lines js) d all
lines_more head t others before at mid after ks ps k d all taken postings line said =
    let js = map said_posting ps in
    let same = with_both no_lines (ks ++ js) (k ∷ []) ∙ ap (λ b. with_line b k) (with_both no_lines ks js)
    in (
      (ks ++ js) ++ k ∷ [],
      both_taken before mid after (ks ++ js) (k ∷ []) (both_taken before at mid ks js taken postings)
          line,
      subst (λ b. HasSaid head t others b d all) (sym same) said,
    )

pub lines_end :
    (head : Directive) (t : Transaction) (others : List Posting) (before at after : Lexer)
    (ks : List LineKind) (ps : List Posting) (d : Directive) (all all' : List Posting)
    → TakesUnder before at ks → TakesPostings None ps at after
    → HasSaid head t others (with_lines no_lines ks) d all → all' ≡ all ++ ps
    → (js : List LineKind) × TakesUnder before after js × EndsLines after
    × HasSaid head t others (with_lines no_lines js) d all'
lines_end head t others before at after ks ps d all all' taken postings said added =
    let js = map said_posting ps in (
      ks ++ js,
      both_taken before at after ks js taken postings.0,
      postings.1,
      subst (λ b. HasSaid head t others b d all') (sym (with_both no_lines ks js))
          (postings_said head t others (with_lines no_lines ks) d all all' ps said added),
    )
