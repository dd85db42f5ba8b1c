-- Worked values of the definitions.
use Rattle.std.proofs.Common.{◌≡◌, true, false, Some, None, refl}
use Rattle.std.specs.Prelude.{codes}
use Rattle.bean_postings.specs.declared.cost.Cost.TheVariants as cost_kind
use Rattle.bean_postings.specs.declared.cost_part.CostPart.TheVariants as part_kind
use Rattle.bean_postings.specs.declared.posting.Units.TheVariants as units_kind
use Rattle.bean_postings.specs.declared.price.Price.TheVariants as price_kind
use Rattle.bean_postings.specs.Cost.{cost_of}
use Rattle.bean_postings.specs.CostPart.{no_parts, number_part_of, put}
use Rattle.bean_postings.specs.Details.{on_line}
use Rattle.bean_postings.specs.Posting.{is_outside_profile, posting_of, units_of}
use Rattle.bean_postings.specs.Price.{price_of}
use Rattle.bean_grammar.specs.declared.ranged.Ranged.TheVariants.{Within, Outside}

-- two parts of one form, and of two forms
two_labels :
    put (put (Some no_parts) (part_kind.Label (codes "a"))) (part_kind.Label (codes "b")) ≡ None
two_labels = refl

two_forms :
    put (put (Some no_parts) (part_kind.Label (codes "a"))) part_kind.Merge
    ≡ Some record {
      amount = None;
      day = None;
      label = Some (codes "a");
      number = None;
      currency =
          None;
      merge = Some true;
      compound = None;
    }
two_forms = refl

-- {} is a lot, {{}} is outside the profile, and so is {*}
empty_lot :
    cost_of false no_parts
    ≡ Within (cost_kind.Lot record { amount = None; day = None; label = None })
empty_lot = refl

empty_total : cost_of true no_parts ≡ Within cost_kind.OutsideProfile
empty_total = refl

star_cost : cost_of false record no_parts { merge = Some true } ≡ Within cost_kind.OutsideProfile
star_cost = refl

-- a number out of range counts before the profile
wide_compound : cost_of false record no_parts { compound = Some false } ≡ Outside
wide_compound = refl

-- # alone, a currency alone, and nothing
hash_alone : number_part_of None (Some None) None ≡ Some (part_kind.Compound true)
hash_alone = refl

currency_part : number_part_of None None (Some (codes "USD")) ≡ Some part_kind.CurrencyAlone
currency_part = refl

no_part : number_part_of None None None ≡ None
no_part = refl

-- units and prices of which nothing, or a currency alone, is written
no_units : units_of record { number = None; currency = None } ≡ Within units_kind.Missing
no_units = refl

currency_units :
    units_of record { number = None; currency = Some (codes "USD") }
    ≡ Within (units_kind.Currency (codes "USD"))
currency_units = refl

bare_price :
    price_of true record { number = None; currency = None } ≡ Within price_kind.OutsideProfile
bare_price = refl

wide_price : price_of false record { number = Some Outside; currency = None } ≡ Outside
wide_price = refl

-- an account alone before a cost
missing_before_cost :
    is_outside_profile record {
      account = codes "Assets:Inv";
      units = units_kind.Missing;
      details =
          on_line 7 None (cost_kind.Lot record { amount = None; day = None; label = None })
          price_kind.Absent;
    } ≡ true
missing_before_cost = refl

missing_alone :
    is_outside_profile record {
      account = codes "Assets:Inv";
      units = units_kind.Missing;
      details = on_line 7 None cost_kind.Absent price_kind.Absent;
    } ≡ false
missing_alone = refl

-- a price out of range leaves no posting
no_posting :
    posting_of 4 None (codes "Assets:Cash") (Within units_kind.Missing) (Within cost_kind.Absent)
    Outside ≡ Outside
no_posting = refl
