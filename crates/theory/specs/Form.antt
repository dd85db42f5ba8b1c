-- Forms of a grammar: what may be read at the front of a list of lexemes.
use Rattle.std.specs.Prelude.{◌≡◌, ◌||◌, Bool, false, List, [], ◌∷◌, ◌++◌, Option, Some, None, ◌⊎◌}

-- Which values the fronts of lexemes may be read as, before which rests, and which
-- rests could carry one on.
pub record Form (L V : Type 0) : Type 1 where
  pub reads : List L → V → List L → Type 0
  pub goes_on : List L → Bool

-- one lexeme, with what it holds
abbrev pub word : {L V : Type 0} → (V → L) → Form L V
word make = record { reads = λ ls v rest. ls ≡ make v ∷ rest; goes_on = λ rest. false }

-- no lexeme, standing for a value
abbrev pub made : {L V : Type 0} → V → Form L V
made v = record { reads = λ ls w rest. (w ≡ v) × (ls ≡ rest); goes_on = λ rest. false }

infixl 20 ◌<+>◌
-- what the first stands for is applied to what the next one does
abbrev pub ◌<+>◌ : {L V W : Type 0} → Form L (V → W) → Form L V → Form L W
◌<+>◌ {L} {V} {W} f a = record {
  reads = λ ls w rest. (g : V → W) × (v : V) × (mid : List L)
      × f.reads ls g mid × a.reads mid v rest × (w ≡ g v);
  goes_on = λ rest. f.goes_on rest || a.goes_on rest;
}

-- behind a lexeme of its own, and before one
abbrev pub behind : {L V : Type 0} → L → Form L V → Form L V
behind {L} l a = record {
  reads = λ ls v rest. (mid : List L) × (ls ≡ l ∷ mid) × a.reads mid v rest;
  goes_on = a.goes_on;
}

abbrev pub closed : {L V : Type 0} → L → Form L V → Form L V
closed l a = record { reads = λ ls v rest. a.reads ls v (l ∷ rest); goes_on = λ rest. false }

-- the same, standing for something else, where it stands for something
abbrev pub checked : {L V W : Type 0} → (V → Option W) → Form L V → Form L W
checked {L} {V} f a = record {
  reads = λ ls w rest. (v : V) × a.reads ls v rest × (f v ≡ Some w);
  goes_on = a.goes_on;
}

-- the same, standing for what is related to it
abbrev pub related : {L V W : Type 0} → (V → W → Type 0) → Form L V → Form L W
related {L} {V} R a = record {
  reads = λ ls w rest. (v : V) × a.reads ls v rest × R v w;
  goes_on = a.goes_on;
}

abbrev pub DueRead : {L V : Type 0} → (List L → Bool) → Form L V → List L → Option V → List L
    → Type 0
DueRead begins a ls None rest = (ls ≡ rest) × (begins rest ≡ false)
DueRead begins a ls (Some v) rest = a.reads ls v rest

-- one where the test says that one begins, and else none
abbrev pub due : {L V : Type 0} → (List L → Bool) → Form L V → Form L (Option V)
due begins a = record { reads = DueRead begins a; goes_on = a.goes_on }

-- one of two forms
abbrev pub either : {L V : Type 0} → Form L V → Form L V → Form L V
either a b = record {
  reads = λ ls v rest. a.reads ls v rest ⊎ b.reads ls v rest;
  goes_on = λ rest. a.goes_on rest || b.goes_on rest;
}

-- where no rest carries it on
abbrev pub ending : {L V : Type 0} → Form L V → Form L V
ending a = record {
  reads = λ ls v rest. a.reads ls v rest × (a.goes_on rest ≡ false);
  goes_on = λ rest. false;
}

-- some, one behind the other
abbrev pub ItemsRead : {L V : Type 0} → Form L V → List L → List V → List L → Type 0
ItemsRead a ls [] rest = ls ≡ rest
ItemsRead {L} a ls (v ∷ vs) rest = (mid : List L) × a.reads ls v mid × ItemsRead a mid vs rest

abbrev pub steps : {S V : Type 0} → (S → V → S) → S → List V → S
steps step s [] = s
steps step s (v ∷ vs) = steps step (step s v) vs

-- one, and others behind it, put together from left to right; the test tells what begins another
abbrev pub row : {L U V S : Type 0}
    → (List L → Bool) → Form L U → (U → S) → Form L V → (S → V → S) → Form L S
row {L} {U} {V} begins a start b step = record {
  reads = λ ls s rest. (u : U) × (vs : List V) × (mid : List L)
      × a.reads ls u mid × ItemsRead b mid vs rest × (s ≡ steps step (start u) vs);
  goes_on = λ rest. begins rest || (b.goes_on rest || a.goes_on rest);
}

abbrev pub snoc : {V : Type 0} → List V → V → List V
snoc vs v = vs ++ v ∷ []

abbrev pub alone : {V : Type 0} → V → List V
alone v = v ∷ []

-- any number of them
abbrev pub many : {L V : Type 0} → (List L → Bool) → Form L V → Form L (List V)
many {L} {V} begins a = row begins (made []) (λ s. s) a snoc

-- one or more, with a separator
abbrev pub separated : {L V : Type 0} → (List L → Bool) → L → Form L V → Form L (List V)
separated begins l a = row begins a alone (behind l a) snoc

abbrev pub pair : {V W : Type 0} → V → W → V × W
pair v w = (v, w)

-- operators between them, grouped to the left
abbrev pub chain : {L V O : Type 0}
    → (List L → Bool) → Form L O → Form L V → (O → V → V → V) → Form L V
chain begins operator a join =
    row begins a (λ v. v) (made pair <+> operator <+> a) (λ v p. join p.0 v p.1)

-- A front of the lexemes is read so, and no other is, but where the rest would carry it on.
pub record Reads {L V : Type 0} (form : Form L V) (lexemes : List L) (value : V) (rest : List L)
    : Type 0 where
  pub read : form.reads lexemes value rest
  pub only : (v : V) (after : List L) → form.reads lexemes v after → form.goes_on after ≡ false
      → (value ≡ v) × (rest ≡ after)

-- no front of the lexemes is of the form
abbrev pub HasNone : {L V : Type 0} → Form L V → List L → Type 0
HasNone {L} {V} form lexemes =
    (v : V) (after : List L) → form.reads lexemes v after → form.goes_on after ≡ false → ⊥

-- all the lexemes are of the form, and stand for the value
abbrev pub Is : {L V : Type 0} → Form L V → List L → V → Type 0
Is form lexemes value = form.reads lexemes value []

abbrev pub IsNone : {L V : Type 0} → Form L V → List L → Type 0
IsNone {L} {V} form lexemes = (v : V) → form.reads lexemes v [] → ⊥

-- what nothing carries on is the only reading
abbrev pub IsUnambiguous : {L V : Type 0} → Form L V → Type 0
IsUnambiguous {L} {V} form =
    (lexemes : List L) (v : V) (rest : List L) → form.reads lexemes v rest
    → form.goes_on rest ≡ false
    → Reads form lexemes v rest
