-- A program for worked values, here and in the crates above.
use Rattle.std.proofs.Common.{[], ◌∷◌, None, codes, false}
use Rattle.limits.specs.declared.bounds.Version.TheVariants.{First}
use Rattle.query_values.specs.declared.operation.Aggregate.TheVariants.{CountRows}
use Rattle.query_code.specs.declared.instruction.Push.TheVariants as push
use Rattle.query_code.specs.declared.instruction.Instruction.TheVariants.{Push}
use Rattle.query_code.specs.declared.program.Mode.TheVariants.{Grouped}
use Rattle.query_code.specs.declared.program.Parts.{Parts}

-- SELECT count(*), grouped without keys
abbrev pub counted : Parts
counted = record {
  bounds = record { schema = First; postings = 1000000; units_digits = 20; value_digits = 28 };
  mode = Grouped;
  output = record {
    is_distinct = false;
    is_descending = false;
    limit = None;
    targets =
        codes "count(*)" ∷ [];
    hidden = 0;
    order = [];
  };
  code = record {
    keys = 0;
    aggregates = CountRows ∷ [];
    pool = [];
    filter = Push push.True ∷ [];
    row = [];
    last = Push (push.LoadAggregate 0) ∷ [];
  };
}
