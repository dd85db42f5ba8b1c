-- The shape of what a section computes, where it may load what it loads.
use Rattle.std.specs.Prelude.{◌≡◌, List, [], ◌∷◌, Some, ⊤}
use Rattle.bql_code.specs.Code.{load_of, change_of}
use Rattle.bql_code.specs.Core.{Core, loading, changing, joining, both, either}
use Rattle.query_code.specs.declared.program.Constant.{Constant}
use Rattle.query_rows.specs.declared.shape.Shape.{Shape}
use Rattle.query_rows.specs.declared.shape.Shape.TheVariants.{Truth}
use Rattle.well_shaped.specs.Sections.{Loads, shape_acts}

module _ (pool : List Constant) (l : Loads) where
  -- by the rule of its operation, of the shapes of its operands
  abbrev pub HasShape : Core → Shape → Type 0
  HasShape (loading op) s = (shape_acts pool l).push (load_of pool op) ≡ Some s
  HasShape (changing op x) s =
      (a : Shape) × HasShape x a × ((shape_acts pool l).unary (change_of pool op) a ≡ Some s)
  HasShape (joining op x y) s =
      (a : Shape) × (b : Shape) × HasShape x a × HasShape y b
      × ((shape_acts pool l).binary op a b ≡ Some s)
  HasShape (both x y) s = HasShape x Truth × HasShape y Truth × (s ≡ Truth)
  HasShape (either x y) s = HasShape x Truth × HasShape y Truth × (s ≡ Truth)

  -- each its own
  abbrev pub HaveShapes : List Core → List Shape → Type 0
  HaveShapes [] [] = ⊤
  HaveShapes [] (s ∷ ss) = ⊥
  HaveShapes (x ∷ xs) [] = ⊥
  HaveShapes (x ∷ xs) (s ∷ ss) = HasShape x s × HaveShapes xs ss
