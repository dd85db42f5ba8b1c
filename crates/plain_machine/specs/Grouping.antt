-- The groups that members make: each with keys and inputs, one after the other.
use Rattle.std.specs.Prelude.{◌≡◌, List, [], ◌∷◌, map, Option, Some, option_and_then}
use Rattle.std.specs.List.{AllByRecursion}
use Rattle.query_values.specs.declared.operation.Aggregate.{Aggregate}
use Rattle.query_values.specs.declared.value.Value.{Value}
use Rattle.query_rows.specs.Grouping.{distinct_keys, members_of}
use Rattle.plain_machine.specs.Gathering.{Keeping, Group, put}

abbrev pub Member : Type 0
Member = List Value × List Value

module _ {X : Type 0} (keep : Keeping X) where
  -- the groups with these members more
  abbrev pub put_all : List (Group X) → List Member → Option (List (Group X))
  put_all groups [] = Some groups
  put_all groups (m ∷ members) =
      option_and_then (λ more. put_all more members) (put keep groups m.0 m.1)

  -- what inputs come to, one after the other
  abbrev pub come_to : X → List (List Value) → Option X
  come_to x [] = Some x
  come_to x (i ∷ inputs) = option_and_then (λ y. come_to y inputs) (keep.add x i)

abbrev pub keys_of : Member → List Value
keys_of m = m.0

-- the inputs of the members with these keys
abbrev pub inputs_under : List Value → List Member → List (List Value)
inputs_under keys members = map (λ m. m.1) (members_of keys_of members keys)

-- The distinct keys in order of first appearance, each with what the inputs of its members come to.
pub record AreGroups {X : Type 0} (keep : Keeping X) (members : List Member)
    (groups : List (Group X)) : Type 0 where
  pub keys : map (λ g. g.0) groups ≡ distinct_keys keys_of members
  pub each :
      AllByRecursion (λ g. come_to keep keep.start (inputs_under g.0 members) ≡ Some g.1) groups

abbrev pub MakesGroups : {X : Type 0} → (List Aggregate → Keeping X) → Type 0
MakesGroups {X} keeping =
    (aggregates : List Aggregate) (members : List Member) (groups : List (Group X))
    → put_all (keeping aggregates) [] members ≡ Some groups
    → AreGroups (keeping aggregates) members groups
