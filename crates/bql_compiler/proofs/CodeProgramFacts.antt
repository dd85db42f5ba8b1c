-- Sections that compute what has shapes make a well shaped program.
use Rattle.std.proofs.Common.{◌≡◌, ◌⊎◌, ℕ, ◌+◌, ◌≤◌, max, List, [], ◌∷◌, ◌++◌, reverse, refl, sym, ap, ◌∙◌}
use Rattle.std.proofs.Common.{subst, inl, inr, ⊎_elim, arith}
use Rattle.std.proofs.lemmas.List.{append-nil, reverse-reverse}
use Rattle.std.proofs.lemmas.Bool.{cases_lt}
use Rattle.limits.specs.declared.counts.TheConstants.{MOST_VALUES}
use Rattle.bql_code.specs.Code.{code, all_code, depth, all_depth}
use Rattle.bql_code.specs.Core.{Core}
use Rattle.query_code.specs.declared.instruction.Instruction.{Instruction}
use Rattle.query_code.specs.declared.program.Mode.{Mode}
use Rattle.query_code.specs.declared.program.Mode.TheVariants.{Plain, Grouped}
use Rattle.query_code.specs.declared.program.Parts.{Parts}
use Rattle.query_rows.specs.declared.shape.Shape.{Shape}
use Rattle.query_rows.specs.declared.shape.Shape.TheVariants.{Truth}
use Rattle.well_shaped.specs.Program.{EndsWell, HasDepthInLast, HasDepthSomewhere, IsDepth}
use Rattle.well_shaped.specs.Program.{IsWellShaped}
use Rattle.well_shaped.specs.Sections.{Loads, filter_acts, filter_loads, last_loads}
use Rattle.well_shaped.specs.Sections.{row_acts, row_loads, shape_acts}
use Rattle.bql_compiler.specs.CoreShape.{HasShape, HaveShapes}
use Rattle.bql_compiler.specs.Shaped.{IsCodeOf, EndsIn, HasShapes, depth_of}
use Rattle.bql_compiler.proofs.CoreFacts.{all_laid, core_laid}
use Rattle.bql_compiler.proofs.CodeSectionFacts.{IsSection, is_section}

-- twice turned round
turned : (ss : List Shape) → reverse (reverse ss ++ []) ≡ ss
turned ss = ap reverse (append-nil (reverse ss)) ∙ reverse-reverse ss

one_section : (p : Parts) (l : Loads) (e : Core) (s : Shape) (c : List Instruction)
    → HasShape p.code.pool l e s → depth e ≤ MOST_VALUES → c ≡ code p.code.pool 0 e
    → IsSection (shape_acts p.code.pool l) c (s ∷ []) (depth e)
one_section p l e s c h room is =
    let z : 0 + depth e ≡ depth e = omega arith in
    subst (λ c. IsSection (shape_acts p.code.pool l) c (s ∷ []) (depth e)) (sym is)
    (subst (IsSection (shape_acts p.code.pool l) (code p.code.pool 0 e) (s ∷ [])) z
    (is_section (shape_acts p.code.pool l) (code p.code.pool 0 e) (s ∷ []) (0 + depth e)
    (core_laid p.code.pool l e s h 0 [] (omega (arith, room))) (s ∷ []) refl))

all_section : (p : Parts) (l : Loads) (es : List Core) (ss : List Shape) (c : List Instruction)
    → HaveShapes p.code.pool l es ss → all_depth 0 es ≤ MOST_VALUES
    → c ≡ all_code p.code.pool 0 es
    → IsSection (shape_acts p.code.pool l) c ss (all_depth 0 es)
all_section p l es ss c h room is =
    subst (λ c. IsSection (shape_acts p.code.pool l) c ss (all_depth 0 es)) (sym is)
    (is_section (shape_acts p.code.pool l) (all_code p.code.pool 0 es) (reverse ss ++ [])
    (all_depth 0 es) (all_laid p.code.pool l es ss h 0 [] room) ss (turned ss))

-- what is said of the last section: shapes, its depth where there is one, and no greater
record IsEnd (p : Parts) (mode : Mode) (values : List Shape) (most : ℕ) : Type 0 where
  ends : EndsWell mode p values
  met : (most ≡ 0) ⊎ HasDepthInLast mode p values ends most
  greatest : (other : ℕ) → HasDepthInLast mode p values ends other → other ≤ most

module _ (p : Parts) (filter : Core) (row last : List Core) (is : IsCodeOf p filter row last)
    (room : depth_of filter row last ≤ MOST_VALUES) where
  an_end : (mode : Mode) (values : List Shape) → EndsIn mode p values last
      → IsEnd p mode values (all_depth 0 last)
  an_end Plain values e = record {
    ends = e.0;
    met = inl (ap (all_depth 0) e.1);
    greatest = λ other h. absurd h;
  }
  an_end Grouped values e =
      let section =
      all_section p (last_loads e.keys e.totals) last e.shown p.code.last e.shapes
      (omega (arith, room)) is.lasts in
      record {
        ends = record {
          keys = e.keys;
          totals = e.totals;
          handed = e.handed;
          row = e.shown;
          last = section.leaves;
          is_row = e.is_row;
        };
        met = inr section.met;
        greatest = section.greatest;
      }

  module _ (has : HasShapes p filter row last) where
    filters : IsSection (filter_acts p) p.code.filter (Truth ∷ []) (depth filter)
    filters =
        one_section p (filter_loads p.bounds) filter Truth p.code.filter has.filters
        (omega (arith, room)) is.filters

    rows : IsSection (row_acts p) p.code.row has.values (all_depth 0 row)
    rows =
        all_section p (row_loads p.mode p.bounds) row has.values p.code.row has.rows
        (omega (arith, room)) is.rows

    lasts : IsEnd p p.mode has.values (all_depth 0 last)
    lasts = an_end p.mode has.values has.ends

    abbrev shaped : IsWellShaped p
    shaped = record {
      bounds = has.bounds;
      filter = filters.leaves;
      values = has.values;
      row = rows.leaves;
      ends = lasts.ends;
    }

    abbrev f : ℕ
    f = depth filter

    abbrev r : ℕ
    r = all_depth 0 row

    abbrev l : ℕ
    l = all_depth 0 last

    at : (n : ℕ) → n ≡ max f (max r l) → HasDepthSomewhere shaped n
        → HasDepthSomewhere shaped (max f (max r l))
    at n e h = subst (HasDepthSomewhere shaped) e h

    of_last : max f r ≤ l → (l ≡ 0) ⊎ HasDepthInLast p.mode p has.values lasts.ends l
        → HasDepthSomewhere shaped (max f (max r l))
    of_last h (inl none) = at f (omega (arith, h, none)) (inl filters.met)
    of_last h (inr some) = at l (omega (arith, h)) (inr (inr some))

    met : HasDepthSomewhere shaped (max f (max r l))
    met =
        ⊎_elim
        (λ h. ⊎_elim (λ k. of_last (omega (arith, h, k)) lasts.met)
        (λ k. at r (omega (arith, h, k)) (inr (inl rows.met))) (cases_lt r l))
        (λ h. ⊎_elim (λ k. of_last (omega (arith, h, k)) lasts.met)
        (λ k. at f (omega (arith, h, k)) (inl filters.met)) (cases_lt f l)) (cases_lt f r)

    by : (other : ℕ) → HasDepthSomewhere shaped other → other ≤ max f (max r l)
    by other (inl h) = omega (arith, filters.greatest other h)
    by other (inr (inl h)) = omega (arith, rows.greatest other h)
    by other (inr (inr h)) = omega (arith, lasts.greatest other h)

    pub is_depth : IsDepth p (depth_of filter row last)
    is_depth = record { shaped = shaped; met = met; greatest = λ other h. by other h }
