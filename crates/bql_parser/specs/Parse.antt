-- Texts of queries.
use Rattle.std.specs.Prelude.{◌≡◌, ℕ, ◌||◌, ◌&&◌, Bool, true, false, List, [], ◌∷◌, ◌++◌, length}
use Rattle.std.specs.Prelude.{Result, Ok, Err, ◌⊎◌}
use Rattle.theory.specs.Form.{Reads, Is, IsNone}
use Rattle.bql_lexer.specs.Kind.{same_kind}
use Rattle.bql_lexer.specs.Tokens.{AreTokens}
use Rattle.bql_lexer.specs.declared.kind.Kind.TheVariants as kind
use Rattle.bql_lexer.specs.declared.token.Token.{Token}
use Rattle.bql_grammar.specs.Beginning.{Before}
use Rattle.bql_grammar.specs.Nesting as nesting
use Rattle.bql_grammar.specs.Nesting.{wanting, through, is_full}
use Rattle.bql_grammar.specs.declared.stuck.Stuck.{Stuck}
use Rattle.bql_grammar.specs.declared.stuck.Stuck.TheVariants.{OutOfMemory, At}
use Rattle.bql_tree.specs.Cause.{outside_profile}
use Rattle.bql_tree.specs.Function.{is_left_out}
use Rattle.bql_tree.specs.declared.cause.PartCause.{PartCause}
use Rattle.refusals.specs.declared.refusal.Refusal.{Refusal}
use Rattle.refusals.specs.declared.refusal.Refusal.TheVariants as refusal
use Rattle.bql_parser.specs.Answer.{query_of}
use Rattle.bql_parser.specs.Asked.{Asked}
use Rattle.bql_grammar.specs.Grammar.{query}
use Rattle.bql_grammar.specs.Read.{Read}
use Rattle.bql_parser.specs.Settled.{answer}
use Rattle.bql_parser.specs.declared.cause.QueryCause.{QueryCause}
use Rattle.bql_parser.specs.declared.cause.QueryCause.TheVariants as cause
use Rattle.bql_parser.specs.declared.query.Query.{Query}

-- the text is a query of the grammar, and is read so alone
abbrev pub IsQuery : List ℕ → Read → Type 0
IsQuery text r = (ts : List Token) × AreTokens text ts × Reads (query text) ts r []

-- the text is outside the grammar; these are its tokens
pub record IsOutside (text : List ℕ) (ts : List Token) : Type 0 where
  pub tokens : AreTokens text ts
  pub none : IsNone (query text) ts

-- some query of the grammar begins with the tokens
abbrev pub BeginsAQuery : List Token → Type 0
BeginsAQuery before =
    (text : List ℕ) × (tail : List Token) × (r : Read) × Is (query text) (before ++ tail) r

-- a parenthesis, a sign or NOT
abbrev pub nests : Token → Bool
nests t =
    same_kind t.kind kind.OpenParenthesis || same_kind t.kind kind.Plus
    || same_kind t.kind kind.Minus || same_kind t.kind kind.Not

-- the token stands inside 200 others behind these: parentheses that are not closed, and signs and
-- NOTs whose operand still goes on
abbrev pub is_deep : List Token → Token → Bool
is_deep before t = is_full (through (wanting []) before) (t ∷ [])

-- what the profile leaves out; and what nests, inside 200 others
abbrev pub is_left : List Token → Token → Bool
is_left before t =
    same_kind t.kind kind.Slash || (same_kind t.kind kind.Name && is_left_out t.text)
    || (is_deep before t && nests t)

-- the token stands at the place, behind these
pub record StandsAt (ts : List Token) (place : ℕ) (before : List Token) (t : Token) : Type 0 where
  pub behind : List Token
  pub cut : ts ≡ before ++ t ∷ behind
  pub starts : t.start ≡ place

-- a token stands at the place, of which the test says this, and those before it begin a query
abbrev pub Meets : List Token → ℕ → (List Token → Token → Bool) → Bool → Type 0
Meets ts place test is =
    (before : List Token) × (t : Token) × StandsAt ts place before t × (test before t ≡ is)
    × BeginsAQuery before

-- why a text is none, whose tokens are these: Q3 where the token is left, and else Q1; at the
-- text's end where they all begin a query
abbrev pub Stops : List ℕ → List Token → QueryCause → Type 0
Stops text ts (cause.Syntax place) =
    Meets ts place is_left false ⊎ ((place ≡ length text) × BeginsAQuery ts)
Stops text ts (cause.Part c) = (c ≡ outside_profile c.place) × Meets ts c.place is_left true

-- what is told of a text whose reader stopped so
abbrev pub IsRefusalBy : List ℕ → List Token → Stuck → Refusal QueryCause → Type 0
IsRefusalBy text ts (At left is_deep) (refusal.Refused c) =
    nesting.Stops (wanting []) ts left is_deep → Before BeginsAQuery ts left → Stops text ts c
IsRefusalBy text ts OutOfMemory refusal.OutOfMemory = Unit {0}
IsRefusalBy text ts stuck refused = ⊥

-- the query that is found, or the least cause
abbrev pub IsAnswered : Result Asked PartCause → Result Query (Refusal QueryCause) → Type 0
IsAnswered found (Ok q) = found ≡ Ok (query_of q)
IsAnswered found (Err (refusal.Refused (cause.Part c))) = found ≡ Err c
IsAnswered found (Err e) = ⊥

-- the text is a query of the grammar with this as its least cause
abbrev pub HasCause : List ℕ → PartCause → Type 0
HasCause text c = (r : Read) × IsQuery text r × (answer text r ≡ Err c)

-- the text is outside the grammar, and stops there
abbrev pub StopsAt : List ℕ → QueryCause → Type 0
StopsAt text c = (ts : List Token) × IsOutside text ts × Stops text ts c

-- the text is a query of the grammar without a cause, and this one; or it is refused for the cause
abbrev pub Parses : List ℕ → Result Query (Refusal QueryCause) → Type 0
Parses text (Ok q) = (r : Read) × IsQuery text r × (answer text r ≡ Ok (query_of q))
Parses text (Err (refusal.Refused (cause.Part c))) =
    HasCause text c ⊎ StopsAt text (cause.Part c)
Parses text (Err (refusal.Refused (cause.Syntax place))) = StopsAt text (cause.Syntax place)
Parses text (Err refusal.OutOfMemory) = Unit {0}
