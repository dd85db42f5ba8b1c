use Rattle.std.proofs.Common.{sym, ap, subst, ◌∙◌, arith, Err}
use Rattle.query_code.specs.QueryFile.{refused, whole}
use Rattle.query_file.specs.FieldReading.{Fails}
use Rattle.query_code.proofs.QueryFileFacts.{is_file, file_is}
use Rattle.query_file.proofs.decoding.decode.Goals as goal

pub invariant_of-result : goal.invariant_of-result
invariant_of-result c =
    record {
      has_file =
          (is_file c.args.bytes.now _ (λ i. omega (arith, c.type_inv.bytes i))
          c.in-Ok.ensures).fits;
    }

pub returns-in-Ok-clause-found : goal.returns-in-Ok-clause-found
returns-in-Ok-clause-found c =
    is_file c.args.bytes.now _ (λ i. omega (arith, c.type_inv.bytes i)) c.in-Ok.ensures

pub returns-in-Ok-clause-only : goal.returns-in-Ok-clause-only
returns-in-Ok-clause-only c =
    λ query is. ap (refused c.args.bytes.now)
    (sym (file_is c.args.bytes.now query is) ∙ c.in-Ok.ensures)

pub returns-in-Err-Refused-clause-only : goal.returns-in-Err-Refused-clause-only
returns-in-Err-Refused-clause-only c =
    λ query is. ap (refused c.args.bytes.now)
    (sym (file_is c.args.bytes.now query is)
    ∙ subst (λ fault. Fails fault (whole c.args.bytes.now)) c.in-Err-Refused.field-0-is
    c.in-Err-Refused.ensures) ∙ ap Err (sym c.cause_of.ensures)
