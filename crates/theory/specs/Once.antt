-- Lists in which each item stands once, in order.
use Rattle.std.specs.Prelude.{List, [], ◌∷◌}
use Rattle.std.specs.declared.cmp.Ordering.{Ordering}
use Rattle.std.specs.declared.cmp.Ordering.TheVariants.{Less, Equal, Greater}

abbrev pub placed : {X : Type 0} → Ordering → X → X → List X → List X → List X
placed Less x y ys rest = x ∷ y ∷ ys
placed Equal x y ys rest = y ∷ ys
placed Greater x y ys rest = y ∷ rest

-- the item in its place among the others, unless it is one of them
abbrev pub put_once : {X : Type 0} → (X → X → Ordering) → X → List X → List X
put_once cmp x [] = x ∷ []
put_once cmp x (y ∷ ys) = placed (cmp x y) x y ys (put_once cmp x ys)

-- the items in order, each once
abbrev pub once_in_order : {X : Type 0} → (X → X → Ordering) → List X → List X
once_in_order cmp [] = []
once_in_order cmp (x ∷ xs) = put_once cmp x (once_in_order cmp xs)
