-- Of sections that have their least state shapes, or have none, to the whole program.
use Rattle.std.proofs.Common.{◌≡◌, ℕ, suc, ◌≤◌, List, [], ◌∷◌, ◌++◌, length, reverse, max}
use Rattle.std.proofs.Common.{Option, Some, None, refl, sym, ap, ◌∙◌, subst, inl, inr, ⊎_elim}
use Rattle.std.proofs.Common.{arith}
use Rattle.std.proofs.lemmas.Bool.{cases_lt}
use Rattle.std.proofs.lemmas.Grind.{reverse_onto}
use Rattle.query_rows.specs.ColumnShape.{AreBounds}
use Rattle.query_rows.specs.Shape.{IsBelow}
use Rattle.query_rows.specs.declared.shape.Shape.{Shape}
use Rattle.query_rows.specs.declared.shape.Shape.TheVariants.{Truth}
use Rattle.query_code.specs.declared.program.Code.{Code}
use Rattle.query_code.specs.declared.program.Mode.TheVariants.{Plain, Grouped}
use Rattle.query_code.specs.declared.program.Parts.{Parts}
use Rattle.query_code.specs.declared.instruction.Instruction.{Instruction}
use Rattle.query_code.specs.declared.program.Constant.{Constant}
use Rattle.plain_machine.specs.SectionRun.{Acts, State}
use Rattle.well_shaped.proofs.BelowFacts.{loads_themselves}
use Rattle.well_shaped.proofs.EndFacts.{filter_below, row_below, groups_below}
use Rattle.query_values.specs.declared.operation.Aggregate.{Aggregate}
use Rattle.query_values.specs.declared.operation.Aggregate.TheVariants.{CountRows}
use Rattle.well_shaped.specs.Ends.{AreRow, HandsOver, cons_if, gathered}
use Rattle.well_shaped.specs.Laws.{AreLoadsBelow, HandsOverLess}
use Rattle.well_shaped.specs.Places.{HasDepth, Leaves}
use Rattle.well_shaped.specs.Program.{AreGrouped, EndsWell, HasDepthInLast, HasDepthSomewhere}
use Rattle.well_shaped.specs.Program.{IsDepth, IsWellShaped}
use Rattle.well_shaped.specs.Sections.{Loads, filter_loads, last_loads}
use Rattle.well_shaped.specs.Sections.{row_acts, row_loads, shape_acts}
use Rattle.well_shaped.specs.StateShape.{AreEach, IsStateBelow}
use Rattle.verify_programs.specs.Passing.{HasNone, IsLeast}
use Rattle.verify_programs.specs.Depths.{EndHas, FilterHas, IsRowLeast, LastHas}

-- ---- lists

module _ {A B : Type 0} (R : A → B → Type 0) where
  joined : (xs us : List A) (ys vs : List B) → AreEach R xs ys → AreEach R us vs
      → AreEach R (xs ++ us) (ys ++ vs)
  joined [] us [] vs each more = more
  joined [] us (y ∷ ys) vs each more = absurd each
  joined (x ∷ xs) us [] vs each more = absurd each
  joined (x ∷ xs) us (y ∷ ys) vs each more = (each.0, joined xs us ys vs each.1 more)

  reversed : (xs : List A) (ys : List B) → AreEach R xs ys → AreEach R (reverse xs) (reverse ys)
  reversed [] [] each = tt
  reversed [] (y ∷ ys) each = absurd each
  reversed (x ∷ xs) [] each = absurd each
  reversed (x ∷ xs) (y ∷ ys) each =
      subst (λ l. AreEach R l (reverse (y ∷ ys))) (sym (reverse_onto xs x []))
      (subst (λ l. AreEach R (reverse xs ++ x ∷ []) l) (sym (reverse_onto ys y []))
      (joined (reverse xs) (x ∷ []) (reverse ys) (y ∷ []) (reversed xs ys each.1) (each.0, tt)))

heads_same : (x y : Shape) (xs ys : List Shape) → x ∷ xs ≡ y ∷ ys → x ≡ y
heads_same x y xs ys e = cc

tails_same : (x y : Shape) (xs ys : List Shape) → x ∷ xs ≡ y ∷ ys → xs ≡ ys
tails_same x y xs ys e = cc

fronts_same : (k j a b : List Shape) → length k ≡ length j → k ++ a ≡ j ++ b → (k ≡ j) × (a ≡ b)
fronts_same [] [] a b h e = (refl, e)
fronts_same [] (y ∷ j) a b h e = absurd (omega (arith, h))
fronts_same (x ∷ k) [] a b h e = absurd (omega (arith, h))
fronts_same (x ∷ k) (y ∷ j) a b h e =
    let rest = fronts_same k j a b (omega (arith, h)) (tails_same x y (k ++ a) (j ++ b) e) in (
      subst (λ z. x ∷ k ≡ z ∷ j) (heads_same x y (k ++ a) (j ++ b) e)
          (ap (λ l. x ∷ l) rest.0),
      rest.1,
    )

some_same : {A : Type 0} (x y : A) → Some x ≡ Some y → x ≡ y
some_same x y e = cc

none_some : {A : Type 0} (x : A) → None ≡ Some x → ⊥
none_some x e = cc

-- ---- what is handed over

handed_once : (n : ℕ) (c : Code) (values k t j u : List Shape) → HandsOver n c values k t
    → HandsOver n c values j u → (k ≡ j) × (t ≡ u)
handed_once n c values k t j u a b =
    let same = fronts_same k j a.inputs b.inputs (a.as_many ∙ sym b.as_many) (sym a.are ∙ b.are) in (
      same.0,
      some_same t u (sym a.gather ∙ (ap (gathered n c.aggregates) same.1 ∙ b.gather)),
    )

cons_many : (s : Option Shape) (o : Option (List Shape)) (totals : List Shape) (k : ℕ)
    → ((ts : List Shape) → o ≡ Some ts → length ts ≡ k) → cons_if s o ≡ Some totals
    → length totals ≡ suc k
cons_many None o totals k h e = absurd (none_some totals e)
cons_many (Some x) None totals k h e = absurd (none_some totals e)
cons_many (Some x) (Some ts) totals k h e =
    subst (λ l. length l ≡ suc k) (some_same (x ∷ ts) totals e) (ap suc (h ts refl))

totals_many : (n : ℕ) (aggregates : List Aggregate) (inputs totals : List Shape)
    → gathered n aggregates inputs ≡ Some totals → length totals ≡ length aggregates
totals_many n [] [] totals e = sym (ap length (some_same [] totals e))
totals_many n [] (s ∷ inputs) totals e = absurd (none_some totals e)
totals_many n (CountRows ∷ aggregates) inputs totals e =
    cons_many _ (gathered n aggregates inputs) totals (length aggregates)
    (λ ts h. totals_many n aggregates inputs ts h) e
totals_many n (a ∷ aggregates) [] totals e = absurd (none_some totals e)
totals_many n (a ∷ aggregates) (s ∷ inputs) totals e =
    cons_many _ (gathered n aggregates inputs) totals (length aggregates)
    (λ ts h. totals_many n aggregates inputs ts h) e

pub many_totals : (n : ℕ) (c : Code) (values keys totals : List Shape)
    → HandsOver n c values keys totals → length totals ≡ length c.aggregates
many_totals n c values keys totals handed =
    totals_many n c.aggregates handed.inputs totals handed.gather

-- ---- sections

module _ (l more : Loads) (p : Parts) where
  ends_below : (code : List Instruction) (end : State Shape) (depth : ℕ)
      → IsLeast p.code.pool l code end depth → AreLoadsBelow l more → (values : List Shape)
      → Leaves (shape_acts p.code.pool more) code values → AreEach IsBelow (reverse end.stack) values
  ends_below code end depth is less values shaped =
      let below : IsStateBelow end (shaped.at (length code)) =
      subst (λ (s : State Shape). IsStateBelow s (shaped.at (length code))) is.ends
      (is.least more shaped.at less shaped.given (length code) (omega arith)) in
      subst (λ vs. AreEach IsBelow (reverse end.stack) vs) shaped.left
      (reversed IsBelow end.stack (shaped.at (length code)).stack below.stacks)

module _ (pool : List Constant) (l : Loads) (code : List Instruction) (end : State Shape)
    (depth : ℕ) (is : IsLeast pool l code end depth) where
  abbrev leaves : (values : List Shape) → reverse end.stack ≡ values → Leaves (shape_acts pool l) code values
  leaves values e = record {
    at = is.at;
    given = is.given;
    left = ap (λ (s : State Shape). reverse s.stack) is.ends ∙ e;
  }

  meets : (values : List Shape) (e : reverse end.stack ≡ values) → HasDepth (leaves values e) depth
  meets values e = record { place = is.deepest; within = is.within; deep = is.met }

  no_deeper : (values : List Shape) (e : reverse end.stack ≡ values) (other : ℕ)
      → HasDepth (leaves values e) other → other ≤ depth
  no_deeper values e other has =
      let most = is.greatest has.place has.within in
      let deep = has.deep in
      omega (arith, most, deep)

-- ---- programs

module _ (p : Parts) where
  pub filter_found : (end : State Shape) (depth : ℕ)
      → IsLeast p.code.pool (filter_loads p.bounds) p.code.filter end depth
      → reverse end.stack ≡ Truth ∷ [] → FilterHas p depth
  filter_found end depth is e = record {
    shaped = leaves p.code.pool (filter_loads p.bounds) p.code.filter end depth is (Truth ∷ []) e;
    met = meets p.code.pool (filter_loads p.bounds) p.code.filter end depth is (Truth ∷ []) e;
    greatest = no_deeper p.code.pool (filter_loads p.bounds) p.code.filter end depth is
        (Truth ∷ []) e;
  }

  pub no_filter : HasNone p.code.pool (filter_loads p.bounds) p.code.filter → IsWellShaped p → ⊥
  no_filter none w =
      none (filter_loads p.bounds) w.filter.at (loads_themselves (filter_loads p.bounds))
      w.filter.given

  pub filter_amiss : (end : State Shape) (depth : ℕ)
      → IsLeast p.code.pool (filter_loads p.bounds) p.code.filter end depth
      → (reverse end.stack ≡ Truth ∷ [] → ⊥) → IsWellShaped p → ⊥
  filter_amiss end depth is other w =
      other (filter_below (reverse end.stack)
      (ends_below (filter_loads p.bounds) (filter_loads p.bounds) p p.code.filter end depth is
      (loads_themselves (filter_loads p.bounds)) (Truth ∷ []) w.filter))

  pub no_row : HasNone p.code.pool (row_loads p.mode p.bounds) p.code.row → IsWellShaped p → ⊥
  no_row none w =
      none (row_loads p.mode p.bounds) w.row.at (loads_themselves (row_loads p.mode p.bounds))
      w.row.given

  module _ (end : State Shape) (depth : ℕ) (is : IsRowLeast p end depth) where
    row_below_others : (w : IsWellShaped p) → AreEach IsBelow (reverse end.stack) w.values
    row_below_others w =
        ends_below (row_loads p.mode p.bounds) (row_loads p.mode p.bounds) p p.code.row end depth is
        (loads_themselves (row_loads p.mode p.bounds)) w.values w.row

    -- ---- where postings aren't grouped

    pub plain_found : p.mode ≡ Plain → AreRow p.output (reverse end.stack)
        → EndHas p p.mode (reverse end.stack) 0
    plain_found e row =
        subst (λ m. EndHas p m (reverse end.stack) 0) (sym e)
        (record { ends = row; met = inr refl; greatest = λ other has. absurd has })

    pub plain_amiss : p.mode ≡ Plain → (AreRow p.output (reverse end.stack) → ⊥)
        → IsWellShaped p → ⊥
    plain_amiss e none w =
        none (row_below p.output (reverse end.stack) w.values (row_below_others w)
        (subst (λ m. EndsWell m p w.values) e w.ends))

    -- ---- where they are

    module _ (e : p.mode ≡ Grouped) where
      grouped_ends : (w : IsWellShaped p) → AreGrouped p w.values
      grouped_ends w = subst (λ m. EndsWell m p w.values) e w.ends

      less : (w : IsWellShaped p)
          → HandsOverLess p.bounds.postings p.code (reverse end.stack) (grouped_ends w).keys
          (grouped_ends w).totals
      less w =
          groups_below p.bounds.postings p.code (reverse end.stack) w.values (grouped_ends w).keys
          (grouped_ends w).totals (row_below_others w) (grouped_ends w).handed

      pub none_handed : ((keys totals : List Shape)
          → HandsOver p.bounds.postings p.code (reverse end.stack) keys totals → ⊥)
          → IsWellShaped p → ⊥
      none_handed none w = none (less w).less_keys (less w).less_totals (less w).handed

      module _ (keys totals : List Shape)
          (handed : HandsOver p.bounds.postings p.code (reverse end.stack) keys totals) where
        loads_less : (w : IsWellShaped p)
            → AreLoadsBelow (last_loads keys totals)
            (last_loads (grouped_ends w).keys (grouped_ends w).totals)
        loads_less w =
            let same = handed_once p.bounds.postings p.code (reverse end.stack)
            (less w).less_keys (less w).less_totals keys totals (less w).handed handed in
            record {
              posting = refl;
              balance = tt;
              keys = subst (λ ks. AreEach IsBelow ks (grouped_ends w).keys) same.0
                  (less w).keys_below;
              aggregates = subst (λ ts. AreEach IsBelow ts (grouped_ends w).totals) same.1
                  (less w).totals_below;
            }

        pub no_last : HasNone p.code.pool (last_loads keys totals) p.code.last → IsWellShaped p → ⊥
        no_last none w =
            none (last_loads (grouped_ends w).keys (grouped_ends w).totals) (grouped_ends w).last.at
            (loads_less w) (grouped_ends w).last.given

        module _ (last : State Shape) (deep : ℕ)
            (least : IsLeast p.code.pool (last_loads keys totals) p.code.last last deep) where
          pub last_amiss : (AreRow p.output (reverse last.stack) → ⊥) → IsWellShaped p → ⊥
          last_amiss none w =
              none (row_below p.output (reverse last.stack) (grouped_ends w).row
              (ends_below (last_loads keys totals)
              (last_loads (grouped_ends w).keys (grouped_ends w).totals) p p.code.last last deep least
              (loads_less w) (grouped_ends w).row (grouped_ends w).last) (grouped_ends w).is_row)

          pub last_found : AreRow p.output (reverse last.stack) → LastHas p keys totals deep
          last_found row = record {
            row = reverse last.stack;
            shaped = leaves p.code.pool (last_loads keys totals) p.code.last last deep least
                (reverse last.stack) refl;
            is_row = row;
            met = meets p.code.pool (last_loads keys totals) p.code.last last deep least
                (reverse last.stack) refl;
            greatest = no_deeper p.code.pool (last_loads keys totals) p.code.last last deep least
                (reverse last.stack) refl;
          }

        pub grouped_found : (deep : ℕ) → LastHas p keys totals deep
            → EndHas p p.mode (reverse end.stack) deep
        grouped_found deep has =
            subst (λ m. EndHas p m (reverse end.stack) deep) (sym e)
            (record {
              ends = record {
                keys = keys;
                totals = totals;
                handed = handed;
                row = has.row;
                last = has.shaped;
                is_row = has.is_row;
              };
              met = inl has.met;
              greatest = has.greatest;
            })

    -- ---- the whole

    deep_in : {m : Acts Shape} {code : List Instruction} {values : List Shape}
        (shaped : Leaves m code values) (a b : ℕ) → a ≡ b → HasDepth shaped a → HasDepth shaped b
    deep_in shaped a b same has = subst (λ d. HasDepth shaped d) same has

    module _ (bounds : AreBounds p.bounds) (f b : ℕ) (filter : FilterHas p f)
        (behind : EndHas p p.mode (reverse end.stack) b) where
      abbrev row_leaves : Leaves (row_acts p) p.code.row (reverse end.stack)
      row_leaves =
          leaves p.code.pool (row_loads p.mode p.bounds) p.code.row end depth is (reverse end.stack)
          refl

      abbrev shaped : IsWellShaped p
      shaped = record {
        bounds = bounds;
        filter = filter.shaped;
        values = reverse end.stack;
        row = row_leaves;
        ends = behind.ends;
      }

      row_met : HasDepth row_leaves depth
      row_met =
          meets p.code.pool (row_loads p.mode p.bounds) p.code.row end depth is (reverse end.stack)
          refl

      met_somewhere : HasDepthSomewhere shaped (max (max f depth) b)
      met_somewhere =
          ⊎_elim (λ more. ⊎_elim
          (λ has. inr (inr (subst (λ d. HasDepthInLast p.mode p (reverse end.stack) behind.ends d)
          (omega (arith, more)) has)))
          (λ zero. absurd (omega (arith, more, zero))) behind.met)
          (λ few. ⊎_elim
          (λ row. inr (inl (deep_in row_leaves depth (max (max f depth) b) (omega (arith, few, row))
          row_met)))
          (λ first. inl (deep_in filter.shaped f (max (max f depth) b) (omega (arith, few, first))
          filter.met)) (cases_lt f depth))
          (cases_lt (max f depth) b)

      pub whole : IsDepth p (max (max f depth) b)
      whole = record {
        shaped = shaped;
        met = met_somewhere;
        greatest = λ other has. ⊎_elim (λ first. let g = filter.greatest other first in
            omega (arith, g))
            (λ rest. ⊎_elim (λ row. let g = no_deeper p.code.pool (row_loads p.mode p.bounds)
            p.code.row end depth is (reverse end.stack) refl other row in omega (arith, g))
            (λ last. let g = behind.greatest other last in omega (arith, g)) rest) has;
      }
