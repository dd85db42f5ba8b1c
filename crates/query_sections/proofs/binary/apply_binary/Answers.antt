use Rattle.std.proofs.Common.{ap, not}
use Rattle.query_values.specs.declared.operation.Binary.TheVariants as binary
use Rattle.query_values.specs.declared.value.Value.TheVariants.{Truth}
use Rattle.query_sections.proofs.OperationFacts.{joined, joined_held, operands_may}
use Rattle.query_sections.proofs.binary.apply_binary.Goals as goal

pub add-requires-clause-applies : goal.add-requires-clause-applies
add-requires-clause-applies c =
    operands_may c.args.op binary.Add c.args.x.now c.args.y.now c.requires c.in-Add.is

pub add-requires-clause-held : goal.add-requires-clause-held
add-requires-clause-held c =
    joined_held c.args.op binary.Add c.args.x.now c.args.y.now c.requires c.in-Add.is

pub sub-requires-clause-applies : goal.sub-requires-clause-applies
sub-requires-clause-applies c =
    operands_may c.args.op binary.Sub c.args.x.now c.args.y.now c.requires c.in-Sub.is

pub sub-requires-clause-held : goal.sub-requires-clause-held
sub-requires-clause-held c =
    joined_held c.args.op binary.Sub c.args.x.now c.args.y.now c.requires c.in-Sub.is

pub mul-requires : goal.mul-requires
mul-requires c =
    joined_held c.args.op binary.Mul c.args.x.now c.args.y.now c.requires c.in-Mul.is

pub returns-in-Add : goal.returns-in-Add
returns-in-Add c =
    joined c.args.op binary.Add c.args.x.now c.args.y.now _ c.requires c.in-Add.is
    c.add.ensures

pub returns-in-Sub : goal.returns-in-Sub
returns-in-Sub c =
    joined c.args.op binary.Sub c.args.x.now c.args.y.now _ c.requires c.in-Sub.is
    c.sub.ensures

pub returns-in-Mul : goal.returns-in-Mul
returns-in-Mul c =
    joined c.args.op binary.Mul c.args.x.now c.args.y.now _ c.requires c.in-Mul.is
    c.mul.ensures

pub returns-in-Equal : goal.returns-in-Equal
returns-in-Equal c =
    joined c.args.op binary.Equal c.args.x.now c.args.y.now _ c.requires c.in-Equal.is
    (ap Truth c.equal.ensures)

pub returns-in-NotEqual : goal.returns-in-NotEqual
returns-in-NotEqual c =
    joined c.args.op binary.NotEqual c.args.x.now c.args.y.now _ c.requires c.in-NotEqual.is
    (ap (λ b. Truth (not b)) c.equal-in-NotEqual.ensures)

pub returns-in-Less : goal.returns-in-Less
returns-in-Less c =
    joined c.args.op binary.Less c.args.x.now c.args.y.now _ c.requires c.in-Less.is
    (ap Truth c.less.ensures)

pub returns-in-AtMost : goal.returns-in-AtMost
returns-in-AtMost c =
    joined c.args.op binary.AtMost c.args.x.now c.args.y.now _ c.requires c.in-AtMost.is
    (ap Truth c.at_most.ensures)

pub returns-in-Greater : goal.returns-in-Greater
returns-in-Greater c =
    joined c.args.op binary.Greater c.args.x.now c.args.y.now _ c.requires c.in-Greater.is
    (ap Truth c.less-in-Greater.ensures)

pub returns-in-AtLeast : goal.returns-in-AtLeast
returns-in-AtLeast c =
    joined c.args.op binary.AtLeast c.args.x.now c.args.y.now _ c.requires c.in-AtLeast.is
    (ap Truth c.at_most-in-AtLeast.ensures)

pub returns-in-InSet : goal.returns-in-InSet
returns-in-InSet c =
    joined c.args.op binary.InSet c.args.x.now c.args.y.now _ c.requires c.in-InSet.is
    (ap Truth c.in_set.ensures)
