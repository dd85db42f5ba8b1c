-- What postings have beside their account and their units.
use Rattle.std.specs.Prelude.{ℕ, ◌≡◌, [], ◌∷◌, ◌++◌, Option, None}
use Rattle.bean_base.specs.declared.flags.Flag as flags
use Rattle.bean_postings.specs.declared.cost.Cost as costs
use Rattle.bean_postings.specs.declared.cost.Cost.TheVariants as cost_kind
use Rattle.bean_postings.specs.declared.details.DetailParts.{DetailParts}
use Rattle.bean_grammar.specs.declared.metadata.MetaEntry.{MetaEntry}
use Rattle.bean_postings.specs.declared.price.Price as prices
use Rattle.bean_postings.specs.declared.price.Price.TheVariants as price_kind

-- what a posting's own line has; entries are no part of it
abbrev pub on_line : ℕ → Option flags.Flag → costs.Cost → prices.Price → DetailParts
on_line line flag cost price =
    record { cost = cost; price = price; metadata = []; line = line; flag = flag }

-- a line that has nothing but its number
abbrev pub alone : ℕ → DetailParts
alone line = on_line line None cost_kind.Absent price_kind.Absent

-- nothing but the line
pub record IsLineAlone (d : DetailParts) : Type 0 where
  pub cost : d.cost ≡ cost_kind.Absent
  pub price : d.price ≡ price_kind.Absent
  pub metadata : d.metadata ≡ []
  pub flag : d.flag ≡ None

-- with one more entry under the posting
abbrev pub with_entry : DetailParts → MetaEntry → DetailParts
with_entry parts e = record parts { metadata = parts.metadata ++ e ∷ [] }
