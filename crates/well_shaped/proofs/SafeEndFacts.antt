-- What a row section leaves of shaped values is kept, as rows or in groups.
use Rattle.std.proofs.Common.{◌≡◌, ℕ, suc, ◌+◌, ◌≤◌, List, [], ◌∷◌, ◌++◌, length, take}
use Rattle.std.proofs.Common.{drop, reverse, Option, Some, None, cond, refl, sym}
use Rattle.std.proofs.Common.{ap, ◌∙◌, subst, length-append}
use Rattle.std.specs.Prelude.{option_map}
use Rattle.std.specs.List.{AllByRecursion}
use Rattle.std.proofs.lemmas.Bool.{eq-eqb}
use Rattle.std.proofs.lemmas.List.{length-reverse}
use Rattle.query_values.specs.declared.value.Value.{Value}
use Rattle.query_rows.specs.Shape.{LiesIn}
use Rattle.query_rows.specs.declared.shape.Shape.{Shape}
use Rattle.query_code.specs.QueryFile.{is_grouped}
use Rattle.query_code.specs.declared.program.Mode.{Mode}
use Rattle.query_code.specs.declared.program.Mode.TheVariants.{Plain, Grouped}
use Rattle.query_code.specs.declared.program.Output.{Output}
use Rattle.query_code.specs.declared.program.Parts.{Parts}
use Rattle.plain_machine.specs.Gathering.{Group, Keeping, all_inputs, inputs_of, put}
use Rattle.plain_machine.specs.PlainMachine.{Kept, width_of, row_of, with_row, with_groups}
use Rattle.plain_machine.specs.PlainMachine.{grouped_with, kept_with}
use Rattle.well_shaped.proofs.FrameFacts.{as_many}
use Rattle.well_shaped.specs.Ends.{AreRow}
use Rattle.well_shaped.specs.Program.{AreGrouped, EndsWell}
use Rattle.well_shaped.specs.StateShape.{AreEach}
use Rattle.well_shaped.proofs.GatheringFacts.{Gives, GroupLies, as_many_inputs, gives_on}
use Rattle.well_shaped.proofs.GatheringFacts.{groups_later, one_behind, put_lies}
use Rattle.well_shaped.proofs.OrderFacts.{AreRows}

abbrev pub Inputs : Type 0
Inputs = List (List Value)

-- ---- rows

pub row_there : (o : Output) (row : List Shape) → AreRow o row → (stack : List Value)
    → AreEach LiesIn (reverse stack) row → row_of o stack ≡ Some (reverse stack)
row_there o row is stack lie =
    let many : length stack ≡ width_of o =
    sym (length-reverse stack) ∙ as_many LiesIn (reverse stack) row lie ∙ is.as_many in
    ap (λ t. cond t (Some (reverse stack)) None) (eq-eqb (length stack) (width_of o) many)

-- ---- keys, and inputs behind them

module _ {A B : Type 0} (R : A → B → Type 0) where
  pub front_each : (ys zs : List B) (xs : List A) → AreEach R xs (ys ++ zs)
      → AreEach R (take (length ys) xs) ys
  front_each [] zs [] each = tt
  front_each [] zs (x ∷ xs) each = tt
  front_each (y ∷ ys) zs [] each = absurd each
  front_each (y ∷ ys) zs (x ∷ xs) each = (each.0, front_each ys zs xs each.1)

  pub back_each : (ys zs : List B) (xs : List A) → AreEach R xs (ys ++ zs)
      → AreEach R (drop (length ys) xs) zs
  back_each [] zs xs each = each
  back_each (y ∷ ys) zs [] each = absurd each
  back_each (y ∷ ys) zs (x ∷ xs) each = back_each ys zs xs each.1

module _ {p : Parts} {values : List Shape} (ends : AreGrouped p values) where
  abbrev pub MemberLies : ℕ → Group Inputs → Type 0
  MemberLies = GroupLies p.code.aggregates ends.keys ends.handed.inputs

  -- the values that a row leaves, as keys and inputs
  values_are : (vs : List Value) → AreEach LiesIn vs values
      → AreEach LiesIn vs (ends.keys ++ ends.handed.inputs)
  values_are vs lie = subst (λ ss. AreEach LiesIn vs ss) ends.handed.are lie

  keys_lie : (vs : List Value) → AreEach LiesIn vs values
      → AreEach LiesIn (take p.code.keys vs) ends.keys
  keys_lie vs lie =
      subst (λ k. AreEach LiesIn (take k vs) ends.keys) ends.handed.as_many
      (front_each LiesIn ends.keys ends.handed.inputs vs (values_are vs lie))

  inputs_lie : (vs : List Value) → AreEach LiesIn vs values
      → AreEach LiesIn (drop p.code.keys vs) ends.handed.inputs
  inputs_lie vs lie =
      subst (λ k. AreEach LiesIn (drop k vs) ends.handed.inputs) ends.handed.as_many
      (back_each LiesIn ends.keys ends.handed.inputs vs (values_are vs lie))

  as_many_values : (vs : List Value) → AreEach LiesIn vs values
      → length vs ≡ p.code.keys + inputs_of p.code.aggregates
  as_many_values vs lie =
      as_many LiesIn vs (ends.keys ++ ends.handed.inputs) (values_are vs lie)
      ∙ length-append ends.keys ends.handed.inputs
      ∙ ap (λ k. k + length ends.handed.inputs) ends.handed.as_many
      ∙ ap (λ k. p.code.keys + k)
      (as_many_inputs p.bounds.postings p.code.aggregates ends.handed.inputs ends.totals
      ends.handed.gather)

-- ---- what is kept

-- rows of the answer, or groups of at most k members
abbrev pub RestLies : (mode : Mode) (p : Parts) (values : List Shape) → EndsWell mode p values → ℕ
    → List (Group Inputs) → List (List Value) → Type 0
RestLies Plain p values ends k groups rows = (groups ≡ []) × AreRows values rows
RestLies Grouped p values ends k groups rows =
    AllByRecursion (MemberLies ends k) groups × (rows ≡ [])

pub none_kept : (mode : Mode) (p : Parts) (values : List Shape) (ends : EndsWell mode p values)
    → RestLies mode p values ends 0 [] []
none_kept Plain p values ends = (refl, tt)
none_kept Grouped p values ends = (tt, refl)

pub rest_later : (mode : Mode) (p : Parts) (values : List Shape) (ends : EndsWell mode p values)
    (k l : ℕ) → k ≤ l → (groups : List (Group Inputs)) (rows : List (List Value))
    → RestLies mode p values ends k groups rows → RestLies mode p values ends l groups rows
rest_later Plain p values ends k l low groups rows lies = lies
rest_later Grouped p values ends k l low groups rows lies =
    (groups_later p.code.aggregates ends.keys ends.handed.inputs k l low groups lies.0, lies.1)

-- the rest, and the running inventory as it was
pub record KeepsOn (mode : Mode) (p : Parts) (values : List Shape) (ends : EndsWell mode p values)
    (k : ℕ) (old new : Kept Inputs) : Type 0 where
  pub rest : RestLies mode p values ends k new.groups new.rows
  pub running : new.running ≡ old.running

module _ (p : Parts) (values : List Shape) (k : ℕ) (room : suc k ≤ p.bounds.postings)
    (kept : Kept Inputs) (stack : List Value) (lie : AreEach LiesIn (reverse stack) values) where
  abbrev keep : Keeping Inputs
  keep = all_inputs p.code.aggregates

  row_kept : (ends : AreRow p.output values) → RestLies Plain p values ends k kept.groups kept.rows
      → Gives (KeepsOn Plain p values ends (suc k) kept)
      (option_map (with_row kept) (row_of p.output stack))
  row_kept ends lies =
      subst (λ o. Gives (KeepsOn Plain p values ends (suc k) kept) (option_map (with_row kept) o))
      (sym (row_there p.output values ends stack lie))
      (record {
        rest = (
          lies.0,
          one_behind (λ row. AreEach LiesIn row values) kept.rows (reverse stack) lies.1
              lie,
        );
        running = refl;
      })

  member_kept : (ends : AreGrouped p values)
      → RestLies Grouped p values ends k kept.groups kept.rows
      → Gives (KeepsOn Grouped p values ends (suc k) kept)
      (grouped_with keep p kept (reverse stack))
  member_kept ends lies =
      subst
      (λ t. Gives (KeepsOn Grouped p values ends (suc k) kept)
      (cond t (option_map (with_groups kept) groups) None))
      (sym (eq-eqb (length vs) (p.code.keys + inputs_of p.code.aggregates)
      (as_many_values ends vs lie)))
      (gives_on (AllByRecursion (MemberLies ends (suc k)))
      (KeepsOn Grouped p values ends (suc k) kept) (with_groups kept)
      (λ more all. record { rest = (all, lies.1); running = refl }) groups
      (put_lies p.bounds.postings p.code.aggregates ends.keys ends.handed.inputs ends.totals
      ends.handed.gather k room kept.groups (take p.code.keys vs) (drop p.code.keys vs)
      (keys_lie ends vs lie) (inputs_lie ends vs lie) lies.0))
    where
      vs : List Value
      vs = reverse stack

      groups : Option (List (Group Inputs))
      groups = put keep kept.groups (take p.code.keys vs) (drop p.code.keys vs)

  abbrev kept_in : Mode → Option (Kept Inputs)
  kept_in mode =
      cond (is_grouped mode) (grouped_with keep p kept (reverse stack))
      (option_map (with_row kept) (row_of p.output stack))

  -- what a row section leaves is kept
  pub keeps_on : (mode : Mode) → p.mode ≡ mode → (ends : EndsWell mode p values)
      → RestLies mode p values ends k kept.groups kept.rows
      → Gives (KeepsOn mode p values ends (suc k) kept) (kept_with keep p kept stack)
  keeps_on Plain same ends lies =
      subst (λ m. Gives (KeepsOn Plain p values ends (suc k) kept) (kept_in m)) (sym same)
      (row_kept ends lies)
  keeps_on Grouped same ends lies =
      subst (λ m. Gives (KeepsOn Grouped p values ends (suc k) kept) (kept_in m)) (sym same)
      (member_kept ends lies)
