use Rattle.std.proofs.Common.{◌+◌, ◌*◌, ◌<◌, ◌≡◌, false, length}
use Rattle.theory.proofs.RowFacts.{InRow}
use Rattle.bean_grammar.specs.Lexeme.{lexemes, begins_with_sign}
use Rattle.bean_grammar.specs.Expression.{exactly, product, sum}
use Rattle.exact_numbers.specs.Exact.{product_of}
use Rattle.bean_lexer.specs.declared.kind.Sign.TheVariants.{Star}
use Rattle.bean_grammar.proofs.ExpressionFacts.{another_factor, another_product, with_product}
use Rattle.bean_directives.proofs.worth.+worth.Given as goal

abbrev pub decreases-factor : goal.decreases-factor
decreases-factor l = 3 * l.room

abbrev pub decreases-product : goal.decreases-product
decreases-product l = 3 * l.room + 1

abbrev pub decreases-sum : goal.decreases-sum
decreases-sum l = 3 * l.room + 2

abbrev pub invariant-product-loop-after : goal.invariant-product-loop-after
invariant-product-loop-after l = record {
  shorter : length l.rest < length l.tokens;
  read : InRow (product exactly l.room) (another_factor exactly l.room) product_of
      (lexemes l.tokens) l.value (lexemes l.rest);
}

abbrev pub decreases-product-loop-after : goal.decreases-product-loop-after
decreases-product-loop-after l = length l.rest

abbrev pub invariant-sum-loop-is_minus : goal.invariant-sum-loop-is_minus
invariant-sum-loop-is_minus l = record {
  shorter : length l.rest < length l.tokens;
  ends : begins_with_sign Star (lexemes l.rest) ≡ false;
  read : InRow (sum exactly l.room) (another_product exactly l.room) (with_product exactly)
      (lexemes l.tokens) l.value (lexemes l.rest);
}

abbrev pub decreases-sum-loop-is_minus : goal.decreases-sum-loop-is_minus
decreases-sum-loop-is_minus l = length l.rest
