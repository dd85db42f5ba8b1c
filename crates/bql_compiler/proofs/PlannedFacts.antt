-- What is known of the plan of a small query that has a type: it can be lowered, and its columns
-- have room.
use Rattle.std.proofs.Common.{ℕ, ◌+◌, ◌≤◌, ◌<◌, Bool, true, false, cond, List, [], ◌∷◌, ◌++◌}
use Rattle.std.proofs.Common.{length, Option, Some, None, ap, ⊎_elim, arith}
use Rattle.std.proofs.lemmas.Bool.{cases_lt}
use Rattle.std.proofs.lemmas.List.{length-map}
use Rattle.std.specs.Prelude.{IfSome}
use Rattle.std.specs.Option.{is_some}
use Rattle.limits.specs.declared.bounds.Bounds.{Bounds}
use Rattle.limits.specs.declared.counts.TheConstants.{MOST_VALUES}
use Rattle.bql_code.specs.Code.{all_depth}
use Rattle.bql_code.specs.Core.{Core}
use Rattle.bql_lowering.specs.Lowered.{Gathered, all_lowered, lowered, of_a_row}
use Rattle.bql_parser.specs.Asked.{Asked}
use Rattle.bql_parser.specs.Small.{IsSmall, IsSmallTarget}
use Rattle.bql_plan.specs.Plan.{plan, shown}
use Rattle.bql_compiler.specs.Program.{IsTooDeep, depth_of, gathered_of, inputs_in, sections_of}
use Rattle.bql_tree.specs.Tree.{Tree}
use Rattle.bql_types.specs.Typing.{IsTyped, grouping_of}
use Rattle.bql_compiler.proofs.SchemeListFacts.{each_is}
use Rattle.bql_compiler.proofs.QueryFacts.{IsOfRows, IsShown, IsTypedTree, inputs_typed, is_planned}
use Rattle.bql_compiler.proofs.QueryFacts.{typed_shape}
use Rattle.bql_compiler.proofs.RowFacts.{order_within, shown_many}
use Rattle.bql_compiler.specs.Lowers.{CanBeLowered, Lowers}
use Rattle.bql_compiler.specs.Output.{HasRoom, HasShortName}

some_is : {A : Type 0} (P Q : A → Type 0) → ((x : A) → P x → Q x) → (o : Option A) → IfSome o P
    → IfSome o Q
some_is P Q f None h = tt
some_is P Q f (Some x) h = f x h

lowers : (b : Bounds) (t : Tree ℕ) → IsTypedTree b t → Lowers b t
lowers b t h = (h.small, ap is_some (typed_shape b t h).1)

pub can_be_lowered : (b : Bounds) (q : Asked) → IsTyped b q → IsSmall q
    → CanBeLowered b q (plan q)
can_be_lowered b q typed small =
    let p = is_planned b q typed small in
    let g = grouping_of q in
    let row = λ (t : Tree ℕ) (h : IsOfRows b t). lowers b t h.typed in
    record {
      from = some_is (IsOfRows b) (Lowers b) row q.filters.from p.from;
      filter = some_is (IsOfRows b) (Lowers b) row q.filters.filter p.filter;
      shown = each_is (IsShown b g) (Lowers b) (λ t h. lowers b t h.typed) (shown q) p.shown;
      keys = each_is (IsOfRows b) (Lowers b) row g.keys p.keys;
      inputs =
          each_is (IsTypedTree b) (Lowers b) (lowers b) (inputs_in (plan q).aggregates)
          (inputs_typed b g (plan q).aggregates p.aggregates);
      few = p.few;
    }

-- ---- columns

pub not_above : (most n : ℕ) → ¬ (most < n) → n ≤ most
not_above most n h = ⊎_elim (λ above. absurd (h above)) (λ within. within) (cases_lt most n)

-- each value that is left has stood on the stack
depth_many : (below : ℕ) (xs : List Core) → below + length xs ≤ all_depth below xs
depth_many below [] = omega arith
depth_many below (x ∷ xs) = let h = depth_many (below + 1) xs in omega (arith, h)

lowered_many : (b : Bounds) (g : Gathered) (ts : List (Tree ℕ)) (most : ℕ)
    → all_depth 0 (all_lowered b g ts) ≤ most → length ts ≤ most
lowered_many b g ts most h =
    let n = depth_many 0 (all_lowered b g ts) in
    let m = length-map ts (lowered b g) in
    omega (arith, h, n, m)

pub few_shown : (b : Bounds) (q : Asked) → ¬ IsTooDeep b q → length (shown q) ≤ MOST_VALUES
few_shown b q shallow =
    let s = sections_of b q (plan q) in
    let within = not_above MOST_VALUES (depth_of s) shallow in
    by (grouping_of q).is_aggregating (omega (arith, within)) (omega (arith, within))
  where
    by : (is : Bool)
        → all_depth 0 (cond is
        (all_lowered b of_a_row ((grouping_of q).keys ++ inputs_in (plan q).aggregates))
        (all_lowered b of_a_row (shown q)))
        ≤ MOST_VALUES
        → all_depth 0 (cond is (all_lowered b (gathered_of (plan q)) (shown q)) []) ≤ MOST_VALUES
        → length (shown q) ≤ MOST_VALUES
    by true row last = lowered_many b (gathered_of (plan q)) (shown q) MOST_VALUES last
    by false row last = lowered_many b of_a_row (shown q) MOST_VALUES row

pub has_room : (b : Bounds) (q : Asked) → IsTyped b q → IsSmall q → ¬ IsTooDeep b q
    → HasRoom q (plan q)
has_room b q typed small shallow = record {
  some = small.some;
  names = each_is IsSmallTarget HasShortName (λ t h. h.0) q.targets small.targets;
  targets = shown_many q;
  shown = few_shown b q shallow;
  order = order_within b q typed;
}
