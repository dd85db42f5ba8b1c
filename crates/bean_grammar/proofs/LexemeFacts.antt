-- Lexemes are told apart by what they are and what they hold.
use Rattle.std.proofs.Common.{◌≡◌, ℕ, true, false, List, ◌∷◌, refl, ◌∙◌, ap}
use denote.Enum.Bare.{sameb, same_true, same_false}
use Rattle.theory.proofs.FormFacts.{IsExact}
use Rattle.bean_lexer.specs.contracts.kind.Keyword as keyword_type
use Rattle.bean_lexer.specs.contracts.kind.Sign as sign_type
use Rattle.bean_lexer.specs.declared.kind.Kind.{Kind}
use Rattle.bean_lexer.specs.declared.kind.Kind.TheVariants as kind
use Rattle.bean_lexer.specs.declared.kind.Keyword as keywords
use Rattle.bean_lexer.specs.declared.kind.Sign as signs
use Rattle.bean_lexer.proofs.WordFacts.{spelled, not_both}
use Rattle.bean_lexer.proofs.OneListOfTokensFacts.{one_keyword, one_sign}
use Rattle.bean_grammar.specs.Lexeme.{Lexeme, Day, Number, Text, Account, Currency, Tag, Link, Key}
use Rattle.bean_grammar.specs.Lexeme.{Keyword, Sign}
use Rattle.bean_grammar.specs.Lexeme.{plus_or_minus, lexeme_at}
use Rattle.bean_grammar.specs.Lexeme.{same_keyword, same_sign, begins_with_keyword}
use Rattle.bean_grammar.specs.Lexeme.{begins_with_sign}

-- words and signs that are not `==` are spelled in two ways
another_spelling : (a b : keywords.Keyword) → sameb keyword_type.the_type a b ≡ false
    → same_keyword a b ≡ false
another_spelling a b e =
    not_both _ (λ same. same_false keyword_type.the_type a b e (one_keyword a b (spelled _ _ same)))

another_mark : (a b : signs.Sign) → sameb sign_type.the_type a b ≡ false → same_sign a b ≡ false
another_mark a b e =
    not_both _ (λ same. same_false sign_type.the_type a b e (one_sign a b (spelled _ _ same)))

pub that_keyword :
    (k : Kind) (bs : List ℕ) (rest ls : List Lexeme) (found sought : keywords.Keyword)
    → ls ≡ lexeme_at k bs ∷ rest → k ≡ kind.Keyword found
    → sameb keyword_type.the_type found sought ≡ true
    → ls ≡ Keyword sought ∷ rest
that_keyword k bs rest ls found sought at is test =
    at ∙ ap (λ x. lexeme_at x bs ∷ rest) is
    ∙ ap (λ x. Keyword x ∷ rest) (same_true keyword_type.the_type tt found sought test)

pub another_keyword :
    (k : Kind) (bs : List ℕ) (rest ls : List Lexeme) (found sought : keywords.Keyword)
    → ls ≡ lexeme_at k bs ∷ rest → k ≡ kind.Keyword found
    → sameb keyword_type.the_type found sought ≡ false
    → begins_with_keyword sought ls ≡ false
another_keyword k bs rest ls found sought at is test =
    ap (begins_with_keyword sought) (at ∙ ap (λ x. lexeme_at x bs ∷ rest) is)
    ∙ another_spelling found sought test

no_keyword_at : (k : Kind) (bs : List ℕ) (rest : List Lexeme) (sought : keywords.Keyword)
    → ((x : keywords.Keyword) → k ≡ kind.Keyword x → ⊥)
    → begins_with_keyword sought (lexeme_at k bs ∷ rest) ≡ false
no_keyword_at (kind.Keyword found) bs rest sought none = absurd (none found refl)
no_keyword_at kind.Day bs rest sought none = refl
no_keyword_at _ bs rest sought none = refl

pub no_keyword : (k : Kind) (bs : List ℕ) (rest ls : List Lexeme) (sought : keywords.Keyword)
    → ls ≡ lexeme_at k bs ∷ rest → ((x : keywords.Keyword) → k ≡ kind.Keyword x → ⊥)
    → begins_with_keyword sought ls ≡ false
no_keyword k bs rest ls sought at none =
    ap (begins_with_keyword sought) at ∙ no_keyword_at k bs rest sought none

pub that_sign : (k : Kind) (bs : List ℕ) (rest ls : List Lexeme) (found sought : signs.Sign)
    → ls ≡ lexeme_at k bs ∷ rest → k ≡ kind.Sign found
    → sameb sign_type.the_type found sought ≡ true
    → ls ≡ Sign sought ∷ rest
that_sign k bs rest ls found sought at is test =
    at ∙ ap (λ x. lexeme_at x bs ∷ rest) is
    ∙ ap (λ x. Sign x ∷ rest) (same_true sign_type.the_type tt found sought test)

pub another_sign : (k : Kind) (bs : List ℕ) (rest ls : List Lexeme) (found sought : signs.Sign)
    → ls ≡ lexeme_at k bs ∷ rest → k ≡ kind.Sign found
    → sameb sign_type.the_type found sought ≡ false
    → begins_with_sign sought ls ≡ false
another_sign k bs rest ls found sought at is test =
    ap (begins_with_sign sought) (at ∙ ap (λ x. lexeme_at x bs ∷ rest) is)
    ∙ another_mark found sought test

no_sign_at : (k : Kind) (bs : List ℕ) (rest : List Lexeme) (sought : signs.Sign)
    → ((x : signs.Sign) → k ≡ kind.Sign x → ⊥)
    → begins_with_sign sought (lexeme_at k bs ∷ rest) ≡ false
no_sign_at (kind.Sign found) bs rest sought none = absurd (none found refl)
no_sign_at kind.Day bs rest sought none = refl
no_sign_at _ bs rest sought none = refl

pub no_sign : (k : Kind) (bs : List ℕ) (rest ls : List Lexeme) (sought : signs.Sign)
    → ls ≡ lexeme_at k bs ∷ rest → ((x : signs.Sign) → k ≡ kind.Sign x → ⊥)
    → begins_with_sign sought ls ≡ false
no_sign k bs rest ls sought at none =
    ap (begins_with_sign sought) at ∙ no_sign_at k bs rest sought none

-- Lexemes with different contents are different.

pub exact_day : IsExact Day
exact_day a b e = cc

pub exact_number : IsExact Number
exact_number a b e = cc

pub exact_text : IsExact Text
exact_text a b e = cc

pub exact_account : IsExact Account
exact_account a b e = cc

pub exact_currency : IsExact Currency
exact_currency a b e = cc

pub exact_tag : IsExact Tag
exact_tag a b e = cc

pub exact_link : IsExact Link
exact_link a b e = cc

pub exact_key : IsExact Key
exact_key a b e = cc

pub exact_plus_or_minus : IsExact plus_or_minus
exact_plus_or_minus true true e = refl
exact_plus_or_minus true false e = cc
exact_plus_or_minus false true e = cc
exact_plus_or_minus false false e = refl
