use Rattle.std.proofs.Common.{arith, ap}
use Rattle.theory.proofs.RowFacts.{row_begins, row_goes_on, row_is_read, none_in_row, no_row}
use Rattle.bean_lexer.specs.declared.kind.Sign.TheVariants.{Star}
use Rattle.bean_grammar.specs.Lexeme.{begins_with_sign, begins_with_plus_or_minus}
use Rattle.bean_grammar.specs.Expression.{in_ledger, product, sum, factor}
use Rattle.bean_grammar.specs.Exact.{times}
use Rattle.bean_grammar.proofs.ExpressionFacts.{another_factor, another_product, with_product}
use Rattle.bean_grammar.proofs.ExpressionFacts.{product_ends, factor_separates, factor_told}
use Rattle.bean_grammar.proofs.ExpressionFacts.{factor_begins, sum_ends, product_separates}
use Rattle.bean_grammar.proofs.ExpressionFacts.{product_told, product_begins, reads_another}
use Rattle.bean_grammar.proofs.ExpressionFacts.{none_another, present_sign, signed_factor}
use Rattle.bean_grammar.proofs.ExpressionFacts.{no_room_for_sign, none_behind_sign, group_factor}
use Rattle.bean_grammar.proofs.ExpressionFacts.{no_room_for_group, none_in_group, not_shut}
use Rattle.bean_grammar.proofs.ExpressionFacts.{literal_factor, no_factor_here, reads_star}
use Rattle.bean_grammar.proofs.ExpressionFacts.{none_star, sum_stops}
use Rattle.bean_grammar.proofs.expression.+expression.Goals as goal

pub factor-returns-then-room-eq0-clause-read : goal.factor-returns-then-room-eq0-clause-read
factor-returns-then-room-eq0-clause-read t c =
    no_room_for_sign in_ledger _ _ _ _ c.in-Some.ensures.front c.if-room-eq0.true

pub factor-returns-in_err-value-clause-read : goal.factor-returns-in_err-value-clause-read
factor-returns-in_err-value-clause-read t c =
    rw c.from_residual.ensures
    (none_behind_sign in_ledger _ _ _ _ c.in-Some.ensures.front c.in_err-value.ensures.read)

pub factor-returns-in-Some-clause-read : goal.factor-returns-in-Some-clause-read
factor-returns-in-Some-clause-read t c =
    rw c.signed.ensures
    (signed_factor in_ledger _ _ _ _ _ _ c.in-Some.ensures.front (omega arith)
    c.in_ok-value.ensures.read)

pub factor-returns-then-room-eq0-2-clause-read : goal.factor-returns-then-room-eq0-2-clause-read
factor-returns-then-room-eq0-2-clause-read t c =
    no_room_for_group in_ledger _ _ _ c.in-Some-after_sign.ensures.front c.if-room-eq0-2.true

pub factor-returns-in_err-value-2-clause-read : goal.factor-returns-in_err-value-2-clause-read
factor-returns-in_err-value-2-clause-read t c =
    rw c.from_residual-in_err-value-2.ensures
    (none_in_group in_ledger _ _ _ c.in-Some-after_sign.ensures.front c.in_err-value-2.ensures.read)

pub factor-returns-in_err-rest-clause-read : goal.factor-returns-in_err-rest-clause-read
factor-returns-in_err-rest-clause-read t c =
    rw c.from_residual-in_err-rest.ensures
    (not_shut in_ledger _ _ _ _ _ c.in-Some-after_sign.ensures.front c.in_ok-value-2.ensures.read
    c.in_err-rest.ensures.front)

pub factor-returns-in-Some-after_sign-clause-read :
    goal.factor-returns-in-Some-after_sign-clause-read
factor-returns-in-Some-after_sign-clause-read t c =
    group_factor in_ledger _ _ _ _ _ _ c.in-Some-after_sign.ensures.front (omega arith)
    c.in_ok-value-2.ensures.read c.in_ok-rest.ensures.front

pub factor-returns-in_err-written-clause-read : goal.factor-returns-in_err-written-clause-read
factor-returns-in_err-written-clause-read t c =
    rw c.from_residual-in_err-written.ensures
    (no_factor_here in_ledger _ _ c.in_default.ensures.front c.in_default-after_sign.ensures.front
    c.in_err-written.ensures.front)

pub factor-returns-clause-read : goal.factor-returns-clause-read
factor-returns-clause-read t c =
    rw c.number_of.ensures (literal_factor in_ledger _ _ _ _ c.in_ok-written.ensures.front)

pub product-returns-in_err-value-clause-read : goal.product-returns-in_err-value-clause-read
product-returns-in_err-value-clause-read t c =
    rw c.from_residual.ensures
    (no_row (begins_with_sign Star) (factor in_ledger _) (λ v. v) (another_factor in_ledger _) times
    _ (factor_begins in_ledger _) c.in_err-value.ensures.read)

pub product-loop-after-init : goal.product-loop-after-init
product-loop-after-init t c = record {
  shorter = omega (arith, c.in_ok-value.ensures.shorter);
  read = row_begins (begins_with_sign Star) (factor in_ledger _) (λ v. v)
      (another_factor in_ledger _) times _ _ _ (factor_begins in_ledger _)
      c.in_ok-value.ensures.read;
}

pub product-returns-in_err-right-clause-read : goal.product-returns-in_err-right-clause-read
product-returns-in_err-right-clause-read t c =
    rw c.from_residual-in_err-right.ensures
    (none_in_row (begins_with_sign Star) (product in_ledger _) (another_factor in_ledger _) times _
    _ _ (product_ends in_ledger _) (factor_separates in_ledger _) c.loop-after.invariant.read
    (ap (begins_with_sign Star) c.in-Some.ensures.front)
    (none_star in_ledger _ _ _ c.in-Some.ensures.front c.in_err-right.ensures.read))

pub product-loop-after-preserved : goal.product-loop-after-preserved
product-loop-after-preserved t c = record {
  shorter =
      omega (
        arith,
        c.in-Some.ensures.shorter,
        c.in_ok-right.ensures.shorter,
        c.loop-after.invariant.shorter,
      );
  read = rw c.times-value.ensures
      (row_goes_on (begins_with_sign Star) (product in_ledger _) (another_factor in_ledger _) times
      _ _ _ _ _ (product_ends in_ledger _) (factor_separates in_ledger _)
      (factor_told in_ledger _) c.loop-after.invariant.read
      (reads_star in_ledger _ _ _ _ _ c.in-Some.ensures.front c.in_ok-right.ensures.read));
}

pub product-returns-clause-read : goal.product-returns-clause-read
product-returns-clause-read t c =
    row_is_read (begins_with_sign Star) (product in_ledger _) (another_factor in_ledger _) times _ _
    _ (factor_told in_ledger _) c.loop-after.invariant.read c.in_default.ensures.front

pub sum-returns-in_err-value-clause-read : goal.sum-returns-in_err-value-clause-read
sum-returns-in_err-value-clause-read t c =
    rw c.from_residual.ensures
    (no_row begins_with_plus_or_minus (product in_ledger _) (λ v. v) (another_product in_ledger _)
    (with_product in_ledger) _ (product_begins in_ledger _) c.in_err-value.ensures.read)

pub sum-loop-is_minus-init : goal.sum-loop-is_minus-init
sum-loop-is_minus-init t c = record {
  shorter = omega (arith, c.in_ok-value.ensures.shorter);
  ends = c.in_ok-value.ensures.ends;
  read = row_begins begins_with_plus_or_minus (product in_ledger _) (λ v. v)
      (another_product in_ledger _) (with_product in_ledger) _ _ _ (product_begins in_ledger _)
      c.in_ok-value.ensures.read;
}

pub sum-returns-in_err-right-clause-read : goal.sum-returns-in_err-right-clause-read
sum-returns-in_err-right-clause-read t c =
    rw c.from_residual-in_err-right.ensures
    (none_in_row begins_with_plus_or_minus (sum in_ledger _) (another_product in_ledger _)
    (with_product in_ledger) _ _ _ (sum_ends in_ledger _) (product_separates in_ledger _)
    c.loop-is_minus.invariant.read (present_sign _ _ _ c.in-Some.ensures.front)
    (none_another in_ledger _ _ _ _ c.in-Some.ensures.front c.in_err-right.ensures.read))

pub sum-loop-is_minus-preserved : goal.sum-loop-is_minus-preserved
sum-loop-is_minus-preserved t c = record {
  shorter =
      omega (
        arith,
        c.in-Some.ensures.shorter,
        c.in_ok-right.ensures.shorter,
        c.loop-is_minus.invariant.shorter,
      );
  ends = c.in_ok-right.ensures.ends;
  read = rw c.joined-value.ensures
      (row_goes_on begins_with_plus_or_minus (sum in_ledger _) (another_product in_ledger _)
      (with_product in_ledger) _ _ _ _ _ (sum_ends in_ledger _) (product_separates in_ledger _)
      (product_told in_ledger _) c.loop-is_minus.invariant.read
      (reads_another in_ledger _ _ _ _ _ _ c.in-Some.ensures.front c.in_ok-right.ensures.read));
}

pub sum-returns-clause-read : goal.sum-returns-clause-read
sum-returns-clause-read t c =
    row_is_read begins_with_plus_or_minus (sum in_ledger _) (another_product in_ledger _)
    (with_product in_ledger) _ _ _ (product_told in_ledger _) c.loop-is_minus.invariant.read
    c.in_default.ensures.front

pub sum-returns-clause-ends : goal.sum-returns-clause-ends
sum-returns-clause-ends t c =
    sum_stops in_ledger _ _ c.loop-is_minus.invariant.ends c.in_default.ensures.front
