-- Worked values of the definitions.
use Rattle.std.proofs.Common.{◌≡◌, pos, negsuc, [], ◌∷◌, true, None, refl, inl}
use Rattle.std.specs.Prelude.{codes}
use Rattle.bean_lexer.specs.declared.kind.Kind.TheVariants as kind
use Rattle.bean_lexer.specs.declared.kind.Keyword.TheVariants as keyword
use Rattle.bean_lexer.specs.declared.kind.Sign.TheVariants as sign
use Rattle.bean_grammar.specs.declared.metadata.Value.TheVariants as value_kind
use Rattle.bean_grammar.specs.Exact.{times, plus, minus, signed, written}
use Rattle.bean_grammar.specs.Expression.{in_ledger, product, factor}
use Rattle.bean_grammar.specs.Lexeme.{Tag, Link, Key, Number, Sign, Keyword, Currency, lexeme_at}
use Rattle.bean_grammar.specs.Mark as mark_rule
use Rattle.bean_grammar.specs.declared.mark.Mark.TheVariants as marks
use Rattle.bean_grammar.specs.Metadata.{all_values, entry_of}
use Rattle.theory.specs.Form.{Is}
use Rattle.bean_grammar.specs.Literal.{text_of}
use Rattle.bean_grammar.specs.declared.ranged.Ranged.TheVariants.{Within, Outside}

-- "a \"b\"" stands for a "b"
text_with_quotes : text_of (codes "\"a \\\"b\\\"\"") ≡ codes "a \"b\""
text_with_quotes = refl

empty_text : text_of (codes "\"\"") ≡ []
empty_text = refl

-- a tag and a link without their signs, a key without its colon
a_tag : lexeme_at kind.Tag (codes "#a/b.c-d_e") ≡ Tag (codes "a/b.c-d_e")
a_tag = refl

a_link : lexeme_at kind.Link (codes "^invoice.7") ≡ Link (codes "invoice.7")
a_link = refl

a_key : lexeme_at kind.Key (codes "place:") ≡ Key (codes "place")
a_key = refl

-- 1 + 2.50 * 2
six : plus (written (codes "1")) (times (written (codes "2.50")) (written (codes "2")))
    ≡ Within record { count = pos 600; places = 2 }
six = refl

-- a product has the decimals of both
too_many_decimals : times (written (codes "0.00001")) (written (codes "0.00001")) ≡ Outside
too_many_decimals = refl

-- partial sums count, from left to right
too_wide_on_the_way :
    minus (plus (written (codes "900000000000")) (written (codes "900000000000")))
    (written (codes "900000000000")) ≡ Outside
too_wide_on_the_way = refl

half_less :
    minus (written (codes "1.5")) (written (codes "0.25"))
    ≡ Within record { count = pos 125; places = 2 }
half_less = refl

minus_seven : signed true (written (codes "7")) ≡ Within record { count = negsuc 6; places = 0 }
minus_seven = refl

-- 2 * 3, with no room for signs and parentheses
two_by_three :
    Is (product in_ledger 0) (Number (codes "2") ∷ Sign sign.Star ∷ Number (codes "3") ∷ [])
    (Within record { count = pos 6; places = 0 })
unfolding factor
two_by_three = (
  written (codes "2"),
  written (codes "3")
      ∷ [],
  _,
  (written, codes "2", _, (refl, refl), refl, refl),
  (_, (_, refl, (written, codes "3", _, (refl, refl), refl, refl)), refl),
  refl,
)

-- an entry with no value
empty_entry :
    entry_of (codes "place") None
    ≡ Within record { key = codes "place"; value = value_kind.Nothing }
empty_entry = refl

-- #a ^b
two_marks :
    Is mark_rule.some_marks (Tag (codes "a") ∷ Link (codes "b") ∷ [])
    (marks.Tag (codes "a") ∷ marks.Link (codes "b") ∷ [])
two_marks = (marks.Tag (codes "a"), marks.Link (codes "b") ∷ [], _, refl, (_, refl, refl), refl)

-- TRUE USD, two values
two_values :
    Is all_values (Keyword keyword.True ∷ Currency (codes "USD") ∷ [])
    (Within (value_kind.Truth true ∷ value_kind.Currency (codes "USD") ∷ []))
two_values = (
  Within [],
  Within (value_kind.Truth true) ∷ Within (value_kind.Currency (codes "USD"))
      ∷ [],
  _,
  (refl, refl),
  (
    _,
    inl (Keyword keyword.True, refl, (true, refl, refl)),
    (
      _,
      inl
          (Currency (codes "USD"), refl, refl),
      refl,
    ),
  ),
  refl,
)
