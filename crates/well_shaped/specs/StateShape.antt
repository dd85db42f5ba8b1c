-- One relation on values, or on what is known of them, carried to a stack and slots.
use Rattle.std.specs.Prelude.{◌≡◌, true, List, [], ◌∷◌, Option, Some, None, ⊤}
use Rattle.query_values.specs.declared.operation.Binary.{Binary}
use Rattle.query_values.specs.declared.value.Value.{Value}
use Rattle.query_rows.specs.Shape.{IsBelow, LiesIn}
use Rattle.query_rows.specs.declared.shape.Shape.{Shape}
use Rattle.query_code.specs.declared.instruction.Instruction.{Instruction}
use Rattle.query_code.specs.declared.instruction.Push.{Push}
use Rattle.query_code.specs.declared.instruction.Unary.{Unary}
use Rattle.plain_machine.specs.SectionRun.{Acts, State, effect}

module _ {A B : Type 0} (R : A → B → Type 0) where
  -- where there is something on the right, there is on the left, and they are related: what is
  -- unset is above all
  abbrev pub IfSet : Option A → Option B → Type 0
  IfSet x None = ⊤
  IfSet None (Some y) = ⊥
  IfSet (Some x) (Some y) = R x y

  -- as many, and each related to the one at its place
  abbrev pub AreEach : List A → List B → Type 0
  AreEach [] [] = ⊤
  AreEach [] (y ∷ ys) = ⊥
  AreEach (x ∷ xs) [] = ⊥
  AreEach (x ∷ xs) (y ∷ ys) = R x y × AreEach xs ys

-- the values of two stacks, and of slots that are set on the right
pub record AreStates {A B : Type 0} (R : A → B → Type 0) (s : State A) (t : State B) : Type 0 where
  pub stacks : AreEach R s.stack t.stack
  pub slots : AreEach (IfSet R) s.slots t.slots

-- One state shape is below another where each shape is, slot by slot too; a slot that is unset is
-- above all.
abbrev pub IsStateBelow : State Shape → State Shape → Type 0
IsStateBelow = AreStates IsBelow

-- a state is of a state shape
abbrev pub StateLiesIn : State Value → State Shape → Type 0
StateLiesIn = AreStates LiesIn

-- ---- what is kept by instructions

-- What instructions do on the right they do on the left, and what they give is related.
pub record AreActs {A B : Type 0} (R : A → B → Type 0) (m : Acts A) (n : Acts B) : Type 0 where
  pub push : (op : Push) → IfSet R (m.push op) (n.push op)
  pub unary : (op : Unary) (x : A) (y : B) → R x y → IfSet R (m.unary op x) (n.unary op y)
  pub binary : (op : Binary) (x u : A) (y v : B) → R x y → R u v
      → IfSet R (m.binary op x u) (n.binary op y v)
  pub test : (x : A) (y : B) → R x y → n.is_test y ≡ true → m.is_test x ≡ true

-- then so does each instruction with whole states
abbrev pub KeepStates : {A B : Type 0} → (A → B → Type 0) → Type 0
KeepStates {A} {B} R =
    (m : Acts A) (n : Acts B) → AreActs R m n → (i : Instruction) (s : State A) (t : State B)
    → AreStates R s t → IfSet (AreStates R) (effect m i s) (effect n i t)
