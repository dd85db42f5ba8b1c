-- What is open behind some tokens: parentheses that are not closed, and signs and NOTs whose
-- operand still goes on.
use Rattle.std.specs.Prelude.{◌≡◌, ℕ, ◌+◌, Bool, true, false, nat_le, List, [], ◌∷◌, ◌++◌, length}
use Rattle.limits.specs.declared.counts.TheConstants.{MOST_NESTED}
use Rattle.bql_lexer.specs.declared.kind.Kind.{Kind}
use Rattle.bql_lexer.specs.declared.kind.Kind.TheVariants as kind
use Rattle.bql_lexer.specs.declared.token.Token.{Token}
use Rattle.bql_grammar.specs.Front.{begins, of_kind}
use Rattle.bql_grammar.specs.declared.stuck.Stuck.{Stuck}
use Rattle.bql_grammar.specs.declared.stuck.Stuck.TheVariants.{OutOfMemory, At}
use Rattle.bql_tree.specs.declared.level.Level.{Level}
use Rattle.bql_tree.specs.declared.level.Level.TheVariants as level

-- what nests
pub data Open : Type 0 where
  Parenthesis : Open
  Sign : Open
  Denial : Open

-- what the last token does: an operand is wanted behind it, or it ends one; behind a name a
-- parenthesis would begin its arguments
pub data Last : Type 0 where
  Wants : Last
  Names : Last
  Ends : Last

-- where one stands behind some tokens: in what, the latest first, and behind what
pub record Standing : Type 0 where
  pub within : List Open
  pub last : Last

abbrev pub behind : List Open → Last → Standing
behind within last = record { within = within; last = last }

abbrev pub wanting : List Open → Standing
wanting within = behind within Wants

-- What ends with an operand.

-- the signs before it
abbrev pub unsigned : List Open → List Open
unsigned (Sign ∷ within) = unsigned within
unsigned within = within

-- the signs and NOTs before it
abbrev pub enclosing : List Open → List Open
enclosing (Sign ∷ within) = enclosing within
enclosing (Denial ∷ within) = enclosing within
enclosing within = within

-- what was open before the parenthesis that closes
abbrev pub outside : List Open → List Open
outside (Parenthesis ∷ within) = within
outside (o ∷ within) = outside within
outside [] = []

-- What a token does.

pub data Role : Type 0 where
  Opens : Role
  Closes : Role
  Signs : Role
  Denies : Role
  IsName : Role
  IsLiteral : Role
  Joins : Role
  Parts : Role

-- comparisons and IN join what stands behind them to the operand of a NOT, as sums and products do;
-- all else ends it
abbrev pub role : Kind → Role
role kind.OpenParenthesis = Opens
role kind.CloseParenthesis = Closes
role kind.Plus = Signs
role kind.Minus = Signs
role kind.Not = Denies
role kind.Name = IsName
role kind.Number = IsLiteral
role kind.Text = IsLiteral
role kind.Day = IsLiteral
role kind.True = IsLiteral
role kind.False = IsLiteral
role kind.Null = IsLiteral
role kind.Star = Joins
role kind.Equal = Joins
role kind.NotEqual = Joins
role kind.Less = Joins
role kind.LessOrEqual = Joins
role kind.Greater = Joins
role kind.GreaterOrEqual = Joins
role kind.Tilde = Joins
role kind.In = Joins
role k = Parts

-- a plus or minus is a sign where an operand is wanted, and else an operator
abbrev pub signed : Last → List Open → Standing
signed Wants within = wanting (Sign ∷ within)
signed Names within = wanting (unsigned within)
signed Ends within = wanting (unsigned within)

abbrev pub after : Role → List Open → Last → Standing
after Opens within last = wanting (Parenthesis ∷ within)
after Closes within last = behind (outside within) Ends
after Signs within last = signed last within
after Denies within last = wanting (Denial ∷ within)
after IsName within last = behind within Names
after IsLiteral within last = behind within Ends
after Joins within last = wanting (unsigned within)
after Parts within last = wanting (enclosing within)

abbrev pub step : Standing → Token → Standing
step p t = after (role t.kind) p.within p.last

abbrev pub through : Standing → List Token → Standing
through p [] = p
through p (t ∷ ts) = through (step p t) ts

-- In how many others the next of some tokens stands.

-- it is in the signs and NOTs whose operand it goes on with
abbrev pub still_open : Last → Bool → List Open → List Open
still_open Wants call within = within
still_open Names true within = within
still_open Names false within = enclosing within
still_open Ends call within = enclosing within

abbrev pub others : Standing → List Token → ℕ
others p ts = length (still_open p.last (begins (of_kind kind.OpenParenthesis) ts) p.within)

-- the next token stands inside 200 others or more
abbrev pub is_full : Standing → List Token → Bool
is_full p ts = nat_le MOST_NESTED (others p ts)

-- Reading stops where so many tokens are left, and this says whether that is inside 200 others.
pub record Stops (p : Standing) (ts : List Token) (left : ℕ) (is_deep : Bool) : Type 0 where
  pub passed : List Token
  pub rest : List Token
  pub cut : ts ≡ passed ++ rest
  pub are_left : length rest ≡ left
  pub full : is_deep ≡ is_full (through p passed) rest

-- what an operand of a level begins in: in no sign, and in no NOT either
abbrev pub bound : Level → List Open → List Open
bound level.Or = enclosing
bound level.And = enclosing
bound level.Sum = unsigned
bound level.Product = unsigned

abbrev pub all : List Open → List Open
all within = within

-- where a reader stops that begins with so much room, in whatever is open there
abbrev pub IsInside : (List Open → List Open) → ℕ → List Token → Stuck → Type 0
IsInside ends room ts OutOfMemory = Unit {0}
IsInside ends room ts (At left is_deep) =
    (within : List Open) → ends within ≡ within → length within + room ≡ MOST_NESTED
    → Stops (wanting within) ts left is_deep

-- the same of a reader of IN and a list behind an operand
abbrev pub IsInsideList : ℕ → List Token → Stuck → Type 0
IsInsideList room ts OutOfMemory = Unit {0}
IsInsideList room ts (At left is_deep) =
    (p : Standing) → begins (of_kind kind.In) ts ≡ true → length (unsigned p.within) + room ≡ MOST_NESTED
    → Stops p ts left is_deep
