-- A text has one list of tokens, and is a query of the grammar in one way.
use Rattle.std.proofs.Common.{◌≡◌, ℕ, ◌-◌, ◌<◌, ◌≤◌, true, false, List, [], ◌∷◌, ◌++◌, length}
use Rattle.std.proofs.Common.{refl, sym, ap, ◌∙◌, subst, arith, inl, inr, length-drop}
use Rattle.std.specs.List.{prefix_len}
use Rattle.theory.specs.Form.{Reads}
use Rattle.bql_lexer.proofs.TokenFacts.{token_shortens}
use Rattle.bql_lexer.specs.Token.{behind_white, is_white, token_at}
use Rattle.bql_lexer.specs.Tokens.{IsToken, TokensFrom, AreTokens}
use Rattle.bql_lexer.specs.declared.found.Found.{Found}
use Rattle.bql_lexer.specs.declared.kind.Kind.{Kind}
use Rattle.bql_lexer.specs.declared.token.Token.{Token}
use Rattle.bql_tree.specs.Cause.{outside_profile}
use Rattle.bql_grammar.specs.Grammar.{query}
use Rattle.bql_parser.specs.Parse.{IsQuery, IsOutside, Stops, StopsAt, Meets, is_left}
use Rattle.bql_parser.specs.declared.cause.QueryCause.TheVariants as cause
use Rattle.bql_grammar.specs.Read.{Read}

abbrev token_of : List ℕ → ℕ → ℕ → Kind → Token
token_of text start end kind = record { text = text; start = start; end = end; kind = kind }

same_token : (n : ℕ) (behind : List ℕ) (found : Found) (t u : Token) → IsToken n behind found t
    → IsToken n behind found u → t ≡ u
same_token n behind found t u p q =
    ap (λ bs. token_of bs t.start t.end t.kind) (p.text ∙ sym q.text)
    ∙ ap (λ i. token_of u.text i t.end t.kind) (p.start ∙ sym q.start)
    ∙ ap (λ i. token_of u.text u.start i t.kind) (p.end ∙ sym q.end)
    ∙ ap (λ k. token_of u.text u.start u.end k) (p.kind ∙ sym q.kind)

no_more : (bs : List ℕ) → bs ≡ [] → 0 < length bs → ⊥
no_more bs e some = let none = ap length e in absurd (omega (arith, none, some))

tokens_from : (n : ℕ) (bs : List ℕ) (ts us : List Token) → TokensFrom n bs ts
    → TokensFrom n bs us → ts ≡ us
tokens_from n bs [] [] p q = refl
tokens_from n bs [] (u ∷ us) p q = absurd (no_more (behind_white bs) p q.0)
tokens_from n bs (t ∷ ts) [] p q = absurd (no_more (behind_white bs) q p.0)
tokens_from n bs (t ∷ ts) (u ∷ us) p q =
    let found = token_at (behind_white bs) in
    ap (λ x. x ∷ ts) (same_token n (behind_white bs) found t u p.1 q.1)
    ∙ ap (λ xs. u ∷ xs) (tokens_from n found.rest ts us p.2 q.2)

pub read_once : (text : List ℕ) (r s : Read) → IsQuery text r → IsQuery text s → r ≡ s
read_once text r s p q =
    let same = tokens_from (length text) text q.0 p.0 q.1 p.1 in
    (p.2.only s [] (subst (λ ts. Reads (query text) ts s []) same q.2).read refl).0

pub never_outside : (text : List ℕ) (r : Read) (ts : List Token) → IsQuery text r
    → IsOutside text ts → ⊥
never_outside text r ts p q =
    let same = tokens_from (length text) text p.0 ts p.1 q.tokens in
    q.none r (subst (λ ts. Reads (query text) ts r []) same p.2).read

-- Tokens begin at places of their own.

white_no_longer : (bs : List ℕ) → length (behind_white bs) ≤ length bs
white_no_longer bs =
    let cut = length-drop (prefix_len is_white bs) bs in omega (arith, cut)

-- no token begins before the text that is left, and each begins in the text
in_text : (n : ℕ) (bs : List ℕ) (before : List Token) (t : Token) (behind : List Token)
    → length bs ≤ n → TokensFrom n bs (before ++ t ∷ behind)
    → (n - length bs ≤ t.start) × (t.start < n)
in_text n bs [] t behind fits p =
    let white = white_no_longer bs in
    let some = p.0 in
    let start = p.1.start in
    (omega (arith, white, fits, start), omega (arith, white, fits, some, start))
in_text n bs (b ∷ before) t behind fits p =
    let found = token_at (behind_white bs) in
    let white = white_no_longer bs in
    let shorter = token_shortens (behind_white bs) p.0 in
    let inner = in_text n found.rest before t behind (omega (arith, white, shorter, fits)) p.2 in
    let later = inner.0 in
    (omega (arith, white, shorter, later), inner.1)

-- a token of what is behind the first begins behind it
begins_later : (n : ℕ) (bs : List ℕ) (t : Token) (before : List Token) (u : Token)
    (behind : List Token) → length bs ≤ n → TokensFrom n bs (t ∷ before ++ u ∷ behind)
    → t.start < u.start
begins_later n bs t before u behind fits p =
    let found = token_at (behind_white bs) in
    let white = white_no_longer bs in
    let shorter = token_shortens (behind_white bs) p.0 in
    let later =
    (in_text n found.rest before u behind (omega (arith, white, shorter, fits)) p.2).0 in
    let start = p.1.start in
    omega (arith, white, shorter, fits, later, start)

same_start : (t u : Token) → t.start ≡ u.start → t.start < u.start → ⊥
same_start t u e less = omega (arith, e, less)

-- by the place of a token one knows which it is
one_token : (n : ℕ) (bs : List ℕ) (before : List Token) (t : Token) (behind before' : List Token)
    (u : Token) (behind' : List Token) → length bs ≤ n → TokensFrom n bs (before ++ t ∷ behind)
    → before ++ t ∷ behind ≡ before' ++ u ∷ behind' → t.start ≡ u.start
    → (before ≡ before') × (t ≡ u)
one_token n bs [] t behind [] u behind' fits p same at = (refl, cc)
one_token n bs [] t behind (b ∷ before') u behind' fits p same at =
    let is : t ≡ b = cc in
    absurd (same_start t u at
    (subst (λ s. s.start < u.start) (sym is)
    (begins_later n bs b before' u behind' fits (subst (TokensFrom n bs) same p))))
one_token n bs (b ∷ before) t behind [] u behind' fits p same at =
    let is : b ≡ u = cc in
    absurd (same_start u t (sym at)
    (subst (λ s. s.start < t.start) is (begins_later n bs b before t behind fits p)))
one_token n bs (b ∷ before) t behind (b' ∷ before') u behind' fits p same at =
    let found = token_at (behind_white bs) in
    let white = white_no_longer bs in
    let shorter = token_shortens (behind_white bs) p.0 in
    let first : b ≡ b' = cc in
    let rest = one_token n found.rest before t behind before' u behind'
    (omega (arith, white, shorter, fits)) p.2 (cc) at in
    (ap (λ x. x ∷ before) first ∙ ap (λ xs. b' ∷ xs) rest.0, rest.1)

-- Where a text stops, it is Q1 or Q3 there, but not both.

one_test : (text : List ℕ) (ts : List Token) (place : ℕ) (p : Meets ts place is_left false)
    (q : Meets ts place is_left true) → AreTokens text ts → ⊥
one_test text ts place p q tokens =
    let same = one_token (length text) text p.0 p.1 p.2.behind q.0 q.1 q.2.behind (omega arith)
    (subst (TokensFrom (length text) text) p.2.cut tokens) (sym p.2.cut ∙ q.2.cut)
    (p.2.starts ∙ sym q.2.starts) in
    let one = ap (λ b. is_left b p.1) same.0 ∙ ap (is_left q.0) same.1 in
    cc (sym p.3 ∙ one ∙ q.3)

not_at_end : (text : List ℕ) (ts : List Token) (place : ℕ) → Meets ts place is_left true
    → AreTokens text ts → place ≡ length text → ⊥
not_at_end text ts place q tokens at =
    let inside = (in_text (length text) text q.0 q.1 q.2.behind (omega arith)
    (subst (TokensFrom (length text) text) q.2.cut tokens)).1 in
    let starts = q.2.starts in
    omega (arith, inside, starts, at)

one_kind : (text : List ℕ) (ts : List Token) (place : ℕ) → AreTokens text ts
    → Stops text ts (cause.Syntax place) → Stops text ts (cause.Part (outside_profile place)) → ⊥
one_kind text ts place tokens (inl p) q = one_test text ts place p q.1 tokens
one_kind text ts place tokens (inr e) q = not_at_end text ts place q.1 tokens e.0

pub never_both : (text : List ℕ) (place : ℕ) → StopsAt text (cause.Syntax place)
    → StopsAt text (cause.Part (outside_profile place)) → ⊥
never_both text place p q =
    let same = tokens_from (length text) text q.0 p.0 q.1.tokens p.1.tokens in
    one_kind text p.0 place p.1.tokens p.2
    (subst (λ ts. Stops text ts (cause.Part (outside_profile place))) same q.2)
