use Rattle.std.proofs.Common.{ap, not}
use Rattle.plain_machine.specs.Pool.{operation_of}
use Rattle.query_values.specs.Unary as operation
use Rattle.query_values.specs.declared.value.Value.TheVariants.{Truth}
use Rattle.query_sections.proofs.OperationFacts.{operated, operand_may, operation_held}
use Rattle.query_sections.proofs.unary.applied.Goals as goal

pub align-requires-clause-applies : goal.align-requires-clause-applies
align-requires-clause-applies c =
    operand_may c.args.pool.now c.args.op (operation.Align c.in-Align.places) c.args.x.now c.requires.fine
    (ap (operation_of c.args.pool.now) c.in-Align.is)

pub align-requires-clause-held : goal.align-requires-clause-held
align-requires-clause-held c =
    operation_held c.args.pool.now c.args.op (operation.Align c.in-Align.places) c.args.x.now c.requires.fine
    (ap (operation_of c.args.pool.now) c.in-Align.is)

pub abs-requires : goal.abs-requires
abs-requires c =
    operation_held c.args.pool.now c.args.op operation.Abs c.args.x.now c.requires.fine
    (ap (operation_of c.args.pool.now) c.in-Abs.is)

pub units-requires : goal.units-requires
units-requires c = record {
  applies =
      operand_may c.args.pool.now c.args.op operation.Units c.args.x.now c.requires.fine
      (ap (operation_of c.args.pool.now) c.in-Units.is);
}

pub cost-requires-clause-applies : goal.cost-requires-clause-applies
cost-requires-clause-applies c =
    operand_may c.args.pool.now c.args.op operation.Cost c.args.x.now c.requires.fine
    (ap (operation_of c.args.pool.now) c.in-Cost.is)

pub cost-requires-clause-held : goal.cost-requires-clause-held
cost-requires-clause-held c =
    operation_held c.args.pool.now c.args.op operation.Cost c.args.x.now c.requires.fine
    (ap (operation_of c.args.pool.now) c.in-Cost.is)

pub returns-in-Align-clause-value : goal.returns-in-Align-clause-value
returns-in-Align-clause-value c =
    operated c.args.pool.now c.args.op (operation.Align c.in-Align.places) c.args.x.now _ c.requires.fine
    (ap (operation_of c.args.pool.now) c.in-Align.is) c.align.ensures

pub returns-in-Abs-clause-value : goal.returns-in-Abs-clause-value
returns-in-Abs-clause-value c =
    operated c.args.pool.now c.args.op operation.Abs c.args.x.now _ c.requires.fine
    (ap (operation_of c.args.pool.now) c.in-Abs.is) c.abs.ensures

pub returns-in-Year-clause-value : goal.returns-in-Year-clause-value
returns-in-Year-clause-value c =
    operated c.args.pool.now c.args.op operation.Year c.args.x.now _ c.requires.fine
    (ap (operation_of c.args.pool.now) c.in-Year.is) c.year.ensures

pub returns-in-Month-clause-value : goal.returns-in-Month-clause-value
returns-in-Month-clause-value c =
    operated c.args.pool.now c.args.op operation.Month c.args.x.now _ c.requires.fine
    (ap (operation_of c.args.pool.now) c.in-Month.is) c.month.ensures

pub returns-in-Day-clause-value : goal.returns-in-Day-clause-value
returns-in-Day-clause-value c =
    operated c.args.pool.now c.args.op operation.Day c.args.x.now _ c.requires.fine
    (ap (operation_of c.args.pool.now) c.in-Day.is) c.day.ensures

pub returns-in-Parent-clause-value : goal.returns-in-Parent-clause-value
returns-in-Parent-clause-value c =
    operated c.args.pool.now c.args.op operation.Parent c.args.x.now _ c.requires.fine
    (ap (operation_of c.args.pool.now) c.in-Parent.is) c.parent.ensures

pub returns-in-Leaf-clause-value : goal.returns-in-Leaf-clause-value
returns-in-Leaf-clause-value c =
    operated c.args.pool.now c.args.op operation.Leaf c.args.x.now _ c.requires.fine
    (ap (operation_of c.args.pool.now) c.in-Leaf.is) c.leaf.ensures

pub returns-in-Length-clause-value : goal.returns-in-Length-clause-value
returns-in-Length-clause-value c =
    operated c.args.pool.now c.args.op operation.Length c.args.x.now _ c.requires.fine
    (ap (operation_of c.args.pool.now) c.in-Length.is) c.length.ensures

pub returns-in-Number-clause-value : goal.returns-in-Number-clause-value
returns-in-Number-clause-value c =
    operated c.args.pool.now c.args.op operation.Number c.args.x.now _ c.requires.fine
    (ap (operation_of c.args.pool.now) c.in-Number.is) c.number.ensures

pub returns-in-Currency-clause-value : goal.returns-in-Currency-clause-value
returns-in-Currency-clause-value c =
    operated c.args.pool.now c.args.op operation.Currency c.args.x.now _ c.requires.fine
    (ap (operation_of c.args.pool.now) c.in-Currency.is) c.currency.ensures

pub returns-in-RootRank-clause-value : goal.returns-in-RootRank-clause-value
returns-in-RootRank-clause-value c =
    operated c.args.pool.now c.args.op operation.RootRank c.args.x.now _ c.requires.fine
    (ap (operation_of c.args.pool.now) c.in-RootRank.is) c.root_rank.ensures

pub returns-in-Not-clause-value : goal.returns-in-Not-clause-value
returns-in-Not-clause-value c =
    operated c.args.pool.now c.args.op operation.Not c.args.x.now _ c.requires.fine
    (ap (operation_of c.args.pool.now) c.in-Not.is) (ap (λ b. Truth (not b)) c.is_true.ensures)

pub returns-in-IsNull-clause-value : goal.returns-in-IsNull-clause-value
returns-in-IsNull-clause-value c =
    operated c.args.pool.now c.args.op operation.IsNull c.args.x.now _ c.requires.fine
    (ap (operation_of c.args.pool.now) c.in-IsNull.is) (ap Truth c.is_null.ensures)
