-- The include lines of a text, block by block.
use Rattle.std.proofs.Common.{◌≡◌, ℕ, Bool, true, false, List, [], ◌∷◌, ◌++◌, Option, Some, None}
use Rattle.std.proofs.Common.{refl, sym, ap, ◌∙◌, subst, append_assoc, cond, map}
use Rattle.std.proofs.lemmas.List.{append-nil}
use Rattle.std.specs.List.{flat_map}
use Rattle.std.specs.Prelude.{codes}
use Rattle.std.specs.Str.{bytes_eq}
use Rattle.theory.proofs.CutFacts.{first_cut}
use Rattle.theory.specs.Form.{Is}
use Rattle.bean_base.specs.declared.days.Day as days
use Rattle.bean_lexer.proofs.OneListOfTokensFacts.{one_list}
use Rattle.bean_lexer.specs.Tokens.{AreTokens}
use Rattle.bean_lexer.specs.declared.kind.Keyword.TheVariants as keyword
use Rattle.bean_lexer.specs.declared.kind.Sign.TheVariants as sign
use Rattle.bean_lexer.specs.declared.token.Token.{Token}
use Rattle.bean_grammar.specs.Lexeme.{Lexeme, Day, Number, Text, Account, Currency, Tag, Link, Key}
use Rattle.bean_grammar.specs.Lexeme.{Keyword, Sign, Fault, begins_with_keyword, lexeme_of, lexemes}
use Rattle.bean_grammar.specs.declared.metadata.MetaEntry.{MetaEntry}
use Rattle.bean_grammar.specs.declared.ranged.Ranged.{Ranged}
use Rattle.bean_grammar.specs.declared.ranged.Ranged.TheVariants.{Within, Outside}
use Rattle.bean_grammar.specs.Ranged.{ranged_map2}
use Rattle.bean_directives.proofs.FirstLineFacts.{behind_word}
use Rattle.bean_directives.specs.Undated.{option_of, plugin_of, pop_key_of, pop_tag_of, push_entry_of}
use Rattle.bean_directives.specs.Undated.{push_tag_of, undated_behind}
use Rattle.bean_directives.specs.declared.directive.Directive as directives
use Rattle.bean_directives.specs.declared.directive.DirectiveKind.{DirectiveKind}
use Rattle.bean_directives.specs.declared.undated.Setting.{Setting}
use Rattle.bean_directives.specs.declared.undated.SettingKind.TheVariants as setting
use Rattle.bean_directives.specs.declared.undated.Undated as undated_blocks
use Rattle.bean_directives.specs.declared.undated.UndatedKind.{UndatedKind}
use Rattle.bean_directives.specs.declared.undated.UndatedKind.TheVariants as undated
use Rattle.bean_parser.specs.Block.{begins_line, blocks, fault_line, line_of}
use Rattle.bean_lexer.specs.ToCome.{ToCome}
use Rattle.bean_parser.specs.Taking.{TakesBlock}
use Rattle.bean_parser.specs.Grammar.{Dated, Undated, HasTree, HaveTree, Tree, in_body, said}
use Rattle.bean_includes.specs.Includes.{AddsInclude, AreIncludeLines, AreIncludesOf, IsIncludeOf}
use Rattle.bean_includes.specs.Includes.{HasOneListOfIncludes, IncludesAreSettings, with_first}
use Rattle.bean_includes.specs.Includes.{include_in, include_of, includes_among}
use Rattle.bean_parser.specs.Outcome.{AllGive, Gives, GivesAt}
use Rattle.bean_parser.specs.Parsed.{settings_in, settings_of}
use Rattle.bean_parser.specs.declared.block.Outcome.{Outcome}
use Rattle.bean_parser.specs.declared.block.Outcome.TheVariants as outcome
use Rattle.bean_includes.specs.declared.includes.IncludeLine.{IncludeLine}
use Rattle.bean_lexer.specs.declared.lexer.Lexer.{Lexer}
use Rattle.bean_parser.specs.declared.statement.Statement.TheVariants as statement
use Rattle.bean_parser.proofs.OneReadingFacts.{one_outcome}

-- A block that doesn't begin with the word `include` gives no include line.

within_is : (j k : UndatedKind) → Within j ≡ Within k → j ≡ k
within_is j k h = cc

option_gives : (b c d : Bool) (value : List ℕ) (line : ℕ) → include_of line
    (cond b (undated.Setting (setting.Title value))
    (cond c (undated.Setting (setting.OperatingCurrency value))
    (cond d (undated.Setting (setting.BookingMethod value)) undated.Ignored))) ≡ None
option_gives true c d value line = refl
option_gives false true d value line = refl
option_gives false false true value line = refl
option_gives false false false value line = refl

no_option : (k : UndatedKind) (name value : List ℕ) (line : ℕ) → Within k ≡ option_of name value
    → include_of line k ≡ None
no_option k name value line h =
    ap (include_of line) (within_is k _ h)
    ∙ option_gives (bytes_eq name (codes "title")) (bytes_eq name (codes "operating_currency"))
    (bytes_eq name (codes "booking_method")) value line

no_entry : (k : UndatedKind) (e : Ranged MetaEntry) (line : ℕ) → Within k ≡ push_entry_of e
    → include_of line k ≡ None
no_entry k (Within e) line h = ap (include_of line) (within_is k _ h)
no_entry k Outside line h = cc

-- what is made of a part
made_of : {V W : Type 0} (f g : V → W) (v : V) (w : W) → g ≡ f → w ≡ g v → w ≡ f v
made_of f g v w same is = is ∙ ap (λ h. h v) same

NoInclude : Lexeme → Type 0
NoInclude l =
    (others rest : List Lexeme) → begins_with_keyword keyword.Include (l ∷ others) ≡ false
    → (k : UndatedKind) (line : ℕ) → Is (undated_behind l) rest (Within k)
    → include_of line k ≡ None

other_word : (l : Lexeme) → NoInclude l
unfolding NoInclude
other_word (Day bs) = λ others rest b k line h. absurd h
other_word (Number bs) = λ others rest b k line h. absurd h
other_word (Text bs) = λ others rest b k line h. absurd h
other_word (Account bs) = λ others rest b k line h. absurd h
other_word (Currency bs) = λ others rest b k line h. absurd h
other_word (Tag bs) = λ others rest b k line h. absurd h
other_word (Link bs) = λ others rest b k line h. absurd h
other_word (Key bs) = λ others rest b k line h. absurd h
other_word (Sign sign.Star) = λ others rest b k line h. absurd h
other_word (Sign sign.Bang) = λ others rest b k line h. absurd h
other_word (Sign sign.Comma) = λ others rest b k line h. absurd h
other_word (Sign sign.Plus) = λ others rest b k line h. absurd h
other_word (Sign sign.Minus) = λ others rest b k line h. absurd h
other_word (Sign sign.OpenParenthesis) = λ others rest b k line h. absurd h
other_word (Sign sign.CloseParenthesis) = λ others rest b k line h. absurd h
other_word (Sign sign.OpenBrace) = λ others rest b k line h. absurd h
other_word (Sign sign.CloseBrace) = λ others rest b k line h. absurd h
other_word (Sign sign.OpenBraces) = λ others rest b k line h. absurd h
other_word (Sign sign.CloseBraces) = λ others rest b k line h. absurd h
other_word (Sign sign.At) = λ others rest b k line h. absurd h
other_word (Sign sign.AtAt) = λ others rest b k line h. absurd h
other_word (Sign sign.Tilde) = λ others rest b k line h. absurd h
other_word (Sign sign.Hash) = λ others rest b k line h. absurd h
other_word (Keyword keyword.Open) = λ others rest b k line h. absurd h
other_word (Keyword keyword.Close) = λ others rest b k line h. absurd h
other_word (Keyword keyword.Commodity) = λ others rest b k line h. absurd h
other_word (Keyword keyword.Txn) = λ others rest b k line h. absurd h
other_word (Keyword keyword.Balance) = λ others rest b k line h. absurd h
other_word (Keyword keyword.Pad) = λ others rest b k line h. absurd h
other_word (Keyword keyword.Note) = λ others rest b k line h. absurd h
other_word (Keyword keyword.Document) = λ others rest b k line h. absurd h
other_word (Keyword keyword.Price) = λ others rest b k line h. absurd h
other_word (Keyword keyword.Event) = λ others rest b k line h. absurd h
other_word (Keyword keyword.Query) = λ others rest b k line h. absurd h
other_word (Keyword keyword.Custom) = λ others rest b k line h. absurd h
other_word (Keyword keyword.Option) = λ others rest b k line h.
    no_option k h.3.1 h.1 line
    (made_of (option_of h.3.1) h.0 h.1 _ (h.3.5 ∙ ap (λ g. g h.3.1) h.3.3.0) h.5)
other_word (Keyword keyword.Include) = λ others rest b k line h. cc
other_word (Keyword keyword.Plugin) = λ others rest b k line h.
    ap (include_of line) (within_is k _
    (made_of (plugin_of h.3.1) h.0 h.1 _ (h.3.5 ∙ ap (λ g. g h.3.1) h.3.3.0) h.5))
other_word (Keyword keyword.PushTag) = λ others rest b k line h.
    ap (include_of line) (within_is k _ (made_of push_tag_of h.0 h.1 _ h.3.0 h.5))
other_word (Keyword keyword.PopTag) = λ others rest b k line h.
    ap (include_of line) (within_is k _ (made_of pop_tag_of h.0 h.1 _ h.3.0 h.5))
other_word (Keyword keyword.PushMeta) = λ others rest b k line h.
    no_entry k h.1 line (made_of push_entry_of h.0 h.1 _ h.3.0 h.5)
other_word (Keyword keyword.PopMeta) = λ others rest b k line h.
    ap (include_of line) (within_is k _ (made_of pop_key_of h.0 h.1 _ h.3.0 h.5))
other_word (Keyword keyword.True) = λ others rest b k line h. absurd h
other_word (Keyword keyword.False) = λ others rest b k line h. absurd h
other_word Fault = λ others rest b k line h. absurd h

-- what has a day is a directive
no_undated :
    (b : Bool) (day : Ranged days.Day) (kind : Ranged DirectiveKind)
    (f : days.Day → DirectiveKind → directives.Directive) (u : undated_blocks.Undated)
    → in_body b (ranged_map2 (λ d k. statement.Directive (f d k)) day kind)
    ≡ Within (statement.Undated u) → ⊥
no_undated true (Within d) (Within k) f u h = cc
no_undated true (Within d) Outside f u h = cc
no_undated true Outside kind f u h = cc
no_undated false day kind f u h = cc

undated_is : (u v : undated_blocks.Undated)
    → Within (statement.Undated u) ≡ Within (statement.Undated v) → v ≡ u
undated_is u v h = cc

in_tree : (block : List Token) → begins_with_keyword keyword.Include (lexemes block) ≡ false
    → (u : undated_blocks.Undated) (t : Tree) → HasTree block t
    → said t ≡ Within (statement.Undated u) → include_of u.line u.kind ≡ None
unfolding NoInclude
in_tree [] b u t has is = let e : false ≡ true = has.0 in cc
in_tree (t ∷ ts) b u (Dated line day kind ks) has is = absurd (no_undated _ day kind _ u is)
in_tree (t ∷ ts) b u (Undated line Outside) has is = cc
in_tree (t ∷ ts) b u (Undated line (Within k)) has is =
    let cut = ap (map line_of) (first_cut begins_line t ts) in
    let first = subst (λ ls. HaveTree ls (Undated line (Within k))) cut has.1 in
    let behind = behind_word _ (lexeme_of t) _ (Within k) refl first.1 in
    ap (λ (v : undated_blocks.Undated). include_of v.line v.kind)
    (undated_is record { line = line; kind = k } u is)
    ∙ other_word (lexeme_of t) (lexemes ts) _ b k line behind

gives_none_at :
    (block : List Token) → begins_with_keyword keyword.Include (lexemes block) ≡ false
    → (line : Option ℕ) (o : Outcome) → GivesAt line block o → include_in o ≡ None
gives_none_at block b (Some line) o g = ap include_in g
gives_none_at block b None (outcome.Statement (statement.Undated u)) r =
    in_tree block b u r.0 r.1 r.2
gives_none_at block b None (outcome.Statement (statement.Directive d)) r = refl
gives_none_at block b None (outcome.Fault f) r = refl

pub gives_none : (block : List Token)
    → begins_with_keyword keyword.Include (lexemes block) ≡ false → IsIncludeOf block None
gives_none block b = λ o g. gives_none_at block b (fault_line block) o g

-- What a block gives tells its include line.

pub given : (block : List Token) (o : Outcome) → Gives block o → IsIncludeOf block (include_in o)
given block o g = by (include_in o) refl
  where
    by : (found : Option IncludeLine) → include_in o ≡ found → IsIncludeOf block found
    by (Some include) is = (o, g, is)
    by None is = λ p h. ap include_in (one_outcome block p o h g) ∙ is

one_include : (block : List Token) (a b : Option IncludeLine) → IsIncludeOf block a
    → IsIncludeOf block b → a ≡ b
one_include block (Some i) (Some j) p q =
    sym p.2 ∙ ap include_in (one_outcome block p.0 q.0 p.1 q.1) ∙ q.2
one_include block (Some i) None p q = sym p.2 ∙ q p.0 p.1
one_include block None (Some j) p q = sym (p q.0 q.1) ∙ q.2
one_include block None None p q = refl

one_list_of : (blocks : List (List Token)) (xs ys : List IncludeLine) → AreIncludesOf blocks xs
    → AreIncludesOf blocks ys → xs ≡ ys
one_list_of [] xs ys p q = p ∙ sym q
one_list_of (block ∷ blocks) xs ys p q =
    let first = one_include block p.0 q.0 p.2 q.2 in
    let others = one_list_of blocks p.1 q.1 p.3 q.3 in
    p.4 ∙ (λ i. with_first (first i) (others i)) ∙ sym q.4

pub one_list_of_includes : (text : List ℕ) → HasOneListOfIncludes text
one_list_of_includes text found others p q =
    let same : p.0 ≡ q.0 = one_list text p.0 q.0 p.1 q.1 in
    one_list_of (blocks q.0) found others
    (subst (λ ts. AreIncludesOf (blocks ts) found) same p.2) q.2

-- They are those among the settings.

behind_kind : (line : ℕ) (k : UndatedKind) (others : List Setting)
    → includes_among (settings_of line k ++ others)
    ≡ with_first (include_of line k) (includes_among others)
behind_kind line (undated.Setting s) others = refl
behind_kind line undated.Ignored others = refl
behind_kind line (undated.Bound b) others = refl

behind : (o : Outcome) (others : List Setting) → includes_among (settings_in o ++ others)
    ≡ with_first (include_in o) (includes_among others)
behind (outcome.Statement (statement.Undated u)) others = behind_kind u.line u.kind others
behind (outcome.Statement (statement.Directive d)) others = refl
behind (outcome.Fault f) others = refl

among : (blocks : List (List Token)) (os : List Outcome) (found : List IncludeLine)
    → AllGive blocks os → AreIncludesOf blocks found
    → found ≡ includes_among (flat_map settings_in os)
among [] os found g are = are ∙ sym (ap (λ os. includes_among (flat_map settings_in os)) g)
among (block ∷ blocks) [] found g are = absurd g
among (block ∷ blocks) (o ∷ os) found g are =
    let first = one_include block are.0 (include_in o) are.2 (given block o g.0) in
    let others = among blocks os are.1 g.1 are.3 in
    are.4 ∙ (λ i. with_first (first i) (others i)) ∙ sym (behind o (flat_map settings_in os))

pub includes_are_settings : (text : List ℕ) → IncludesAreSettings text
includes_are_settings text p found is are =
    let same : are.0 ≡ is.0 = one_list text are.0 is.0 are.1 is.2 in
    among (blocks is.0) is.1 found is.3
    (subst (λ ts. AreIncludesOf (blocks ts) found) same are.2)
    ∙ ap includes_among (sym is.4.settings)

-- Some blocks were read: the include lines of those that are still to be read complete the text's.

abbrev pub IsRead : List ℕ → Lexer → List IncludeLine → Type 0
IsRead text lexer found =
    (ts : List Token) → ToCome lexer ts → (more : List IncludeLine)
    → AreIncludesOf (blocks ts) more → AreIncludeLines text (found ++ more)

pub begun : (text : List ℕ) (lexer : Lexer)
    → ((ts : List Token) → ToCome lexer ts → AreTokens text ts) → IsRead text lexer []
begun text lexer h = λ ts to_come more are. (ts, h ts to_come, are)

first_and : (one : Option IncludeLine) (more : List IncludeLine)
    → with_first one more ≡ with_first one [] ++ more
first_and (Some include) more = refl
first_and None more = refl

pub one_more :
    (text : List ℕ) (before after : Lexer) (block : List Token) (old new : List IncludeLine)
    → IsRead text before old → TakesBlock true before block after → AddsInclude block old new
    → IsRead text after new
one_more text before after block old new p takes adds = λ ts to_come more are.
    let taken = takes ts to_come in
    let one = adds.0 in
    let next : AreIncludesOf (blocks (block ++ ts)) (with_first one more) =
    subst (λ bs. AreIncludesOf bs (with_first one more)) (sym taken.1)
    (one, more, adds.1, are, refl) in
    let same : old ++ with_first one more ≡ new ++ more =
    ap (λ xs. old ++ xs) (first_and one more) ∙ sym (append_assoc old (with_first one []) more)
    ∙ ap (λ xs. xs ++ more) (sym adds.2) in
    subst (AreIncludeLines text) same (p (block ++ ts) taken.0 (with_first one more) next)

pub ended : (text : List ℕ) (lexer : Lexer) (found : List IncludeLine)
    → IsRead text lexer found → ToCome lexer [] → AreIncludeLines text found
ended text lexer found p at =
    subst (AreIncludeLines text) (append-nil found) (p [] at [] refl)
