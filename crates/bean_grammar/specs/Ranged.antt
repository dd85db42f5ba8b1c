-- Values in the range of a ledger or outside it.
use Rattle.std.specs.Prelude.{Bool, true, false, Option, Some, None}
use Rattle.bean_grammar.specs.declared.ranged.Ranged.{Ranged}
use Rattle.bean_grammar.specs.declared.ranged.Ranged.TheVariants.{Within, Outside}

-- what is made of a value is in range where the value is
abbrev pub ranged_map : {V W : Type 0} → (V → W) → Ranged V → Ranged W
ranged_map f (Within v) = Within (f v)
ranged_map f Outside = Outside

-- what is made of two values is in range where both are
abbrev pub ranged_map2 : {U V W : Type 0} → (U → V → W) → Ranged U → Ranged V → Ranged W
ranged_map2 f (Within u) (Within v) = Within (f u v)
ranged_map2 f (Within u) Outside = Outside
ranged_map2 f Outside v = Outside

abbrev pub ranged_map3 : {T U V W : Type 0} → (T → U → V → W) → Ranged T → Ranged U → Ranged V
    → Ranged W
ranged_map3 f (Within t) u v = ranged_map2 (f t) u v
ranged_map3 f Outside u v = Outside

-- what is read of two values that are in range may be out of it
abbrev pub ranged_bind2 : {U V W : Type 0} → (U → V → Ranged W) → Ranged U → Ranged V → Ranged W
ranged_bind2 f (Within u) (Within v) = f u v
ranged_bind2 f (Within u) Outside = Outside
ranged_bind2 f Outside v = Outside

-- what isn't there is in range
abbrev pub option_within : {V : Type 0} → Option (Ranged V) → Ranged (Option V)
option_within None = Within None
option_within (Some v) = ranged_map Some v

-- a value that isn't there, or one in range
abbrev pub none_outside : {V : Type 0} → Option (Ranged V) → Bool
none_outside None = true
none_outside (Some (Within v)) = true
none_outside (Some Outside) = false
