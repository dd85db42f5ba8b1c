use Rattle.std.proofs.Common.{refl, sym, ◌∙◌}
use Rattle.bql_types.proofs.ItemFacts.{none_told}
use Rattle.bql_types.proofs.typing.type_query.Goals as goal

pub invariant_of-result : goal.invariant_of-result
invariant_of-result c = record {
  within = c.requires;
  has_type = none_told _ (sym c.in_ok-cause.ensures ∙ c.in-None.is);
}

pub returns-in-None : goal.returns-in-None
returns-in-None c = (none_told _ (sym c.in_ok-cause.ensures ∙ c.in-None.is), refl, refl)
