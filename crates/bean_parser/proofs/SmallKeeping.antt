-- What forms keep: where P holds of each lexeme, S holds of what is read, and P of each lexeme that
-- is left.
use Rattle.std.proofs.Common.{◌⊎◌, inl, inr, ◌≡◌, Bool, List, [], ◌∷◌, Option, Some, None, IfSome}
use Rattle.std.proofs.Common.{sym, subst}
use Rattle.std.specs.List.{AllByRecursion}
use Rattle.theory.specs.Form.{Form, word, made, ◌<+>◌, behind, closed, checked, related, DueRead}
use Rattle.theory.specs.Form.{due, either, ending, ItemsRead, steps, row, pair, chain, Is}
use Rattle.bean_parser.proofs.ShortFacts.{Any}

pub record Keeps {L V : Type 0} (P : L → Type 0) (S : V → Type 0) (form : Form L V) : Type 0 where
  pub keeps : (ls : List L) (v : V) (rest : List L) → AllByRecursion P ls → form.reads ls v rest
      → S v × AllByRecursion P rest

pub keeps_word : {L V : Type 0} {P : L → Type 0} {S : V → Type 0} (make : V → L)
    → ((v : V) → P (make v) → S v) → Keeps P S (word make)
keeps_word {P = P} make h = record {
  keeps = λ ls v rest all at. let parts = subst (AllByRecursion P) at all in (h v parts.0, parts.1);
}

pub keeps_made : {L V : Type 0} {P : L → Type 0} {S : V → Type 0} (v : V) → S v → Keeps P S (made v)
keeps_made {P = P} {S = S} v h = record {
  keeps = λ ls w rest all at. (subst S (sym at.0) h, subst (AllByRecursion P) at.1 all);
}

-- the second form's part stands first, since it says what is kept of it
pub keeps_applied :
    {L V W : Type 0} {P : L → Type 0} {T : V → Type 0} {S : W → Type 0} (f : Form L (V → W))
    (a : Form L V) → Keeps P T a → Keeps P (λ g. (v : V) → T v → S (g v)) f → Keeps P S (f <+> a)
keeps_applied {S = S} f a next first = record {
  keeps = λ ls w rest all p.
      let g = first.keeps ls p.0 p.2 all p.3 in
      let v = next.keeps p.2 p.1 rest g.1 p.4 in
      (subst S (sym p.5) (g.0 p.1 v.0), v.1);
}

pub keeps_behind : {L V : Type 0} {P : L → Type 0} {S : V → Type 0} (l : L) (a : Form L V)
    → Keeps P S a → Keeps P S (behind l a)
keeps_behind {P = P} l a h = record {
  keeps = λ ls v rest all p. h.keeps p.0 v rest (subst (AllByRecursion P) p.1 all).1 p.2;
}

pub keeps_closed : {L V : Type 0} {P : L → Type 0} {S : V → Type 0} (l : L) (a : Form L V)
    → Keeps P S a → Keeps P S (closed l a)
keeps_closed l a h = record {
  keeps = λ ls v rest all p. let k = h.keeps ls v (l ∷ rest) all p in (k.0, k.1.1);
}

pub keeps_checked :
    {L V W : Type 0} {P : L → Type 0} {T : V → Type 0} {S : W → Type 0} (f : V → Option W)
    (a : Form L V) → Keeps P T a → ((v : V) (w : W) → T v → f v ≡ Some w → S w)
    → Keeps P S (checked f a)
keeps_checked f a h go = record {
  keeps = λ ls w rest all p.
      let k = h.keeps ls p.0 rest all p.1 in (go p.0 w k.0 p.2, k.1);
}

pub keeps_related :
    {L V W : Type 0} {P : L → Type 0} {T : V → Type 0} {S : W → Type 0} (R : V → W → Type 0)
    (a : Form L V) → Keeps P T a → ((v : V) (w : W) → T v → R v w → S w) → Keeps P S (related R a)
keeps_related R a h go = record {
  keeps = λ ls w rest all p.
      let k = h.keeps ls p.0 rest all p.1 in (go p.0 w k.0 p.2, k.1);
}

due_read :
    {L V : Type 0} {P : L → Type 0} {S : V → Type 0} (begins : List L → Bool) (a : Form L V)
    → Keeps P S a → (ls : List L) (o : Option V) (rest : List L) → AllByRecursion P ls
    → DueRead begins a ls o rest → IfSome o S × AllByRecursion P rest
due_read {P = P} begins a h ls None rest all p = (tt, subst (AllByRecursion P) p.0 all)
due_read begins a h ls (Some v) rest all p = h.keeps ls v rest all p

pub keeps_due :
    {L V : Type 0} {P : L → Type 0} {S : V → Type 0} (begins : List L → Bool) (a : Form L V)
    → Keeps P S a → Keeps P (λ o. IfSome o S) (due begins a)
keeps_due begins a h = record { keeps = due_read begins a h }

either_read :
    {L V : Type 0} {P : L → Type 0} {S : V → Type 0} (a b : Form L V) → Keeps P S a → Keeps P S b
    → (ls : List L) (v : V) (rest : List L) → AllByRecursion P ls
    → a.reads ls v rest ⊎ b.reads ls v rest → S v × AllByRecursion P rest
either_read a b h k ls v rest all (inl p) = h.keeps ls v rest all p
either_read a b h k ls v rest all (inr p) = k.keeps ls v rest all p

pub keeps_either : {L V : Type 0} {P : L → Type 0} {S : V → Type 0} (a b : Form L V) → Keeps P S a
    → Keeps P S b → Keeps P S (either a b)
keeps_either a b h k = record { keeps = either_read a b h k }

pub keeps_ending : {L V : Type 0} {P : L → Type 0} {S : V → Type 0} (a : Form L V) → Keeps P S a
    → Keeps P S (ending a)
keeps_ending a h = record { keeps = λ ls v rest all p. h.keeps ls v rest all p.0 }

items_read :
    {L V S : Type 0} {P : L → Type 0} {U : V → Type 0} {T : S → Type 0} (b : Form L V)
    (step : S → V → S) → Keeps P U b → ((s : S) (v : V) → T s → U v → T (step s v))
    → (ls : List L) (vs : List V) (rest : List L) (s : S) → AllByRecursion P ls → T s
    → ItemsRead b ls vs rest → T (steps step s vs) × AllByRecursion P rest
items_read {P = P} b step h go ls [] rest s all held p = (held, subst (AllByRecursion P) p all)
items_read b step h go ls (v ∷ vs) rest s all held p =
    let k = h.keeps ls v p.0 all p.1 in
    items_read b step h go p.0 vs rest (step s v) k.1 (go s v held k.0) p.2

pub keeps_row :
    {L W V S : Type 0} {P : L → Type 0} {R : W → Type 0} {U : V → Type 0} {T : S → Type 0}
    (begins : List L → Bool) (a : Form L W) (start : W → S) (b : Form L V) (step : S → V → S)
    → Keeps P R a → Keeps P U b → ((w : W) → R w → T (start w))
    → ((s : S) (v : V) → T s → U v → T (step s v)) → Keeps P T (row begins a start b step)
keeps_row {T = T} begins a start b step first next begun go = record {
  keeps = λ ls s rest all p.
      let k = first.keeps ls p.0 p.2 all p.3 in
      let m = items_read b step next go p.2 p.1 rest (start p.0) k.1 (begun p.0 k.0) p.4 in
      (subst T (sym p.5) m.0, m.1);
}

-- nothing is said of the operands, and nothing of what comes of them
pub keeps_chain :
    {L V O : Type 0} {P : L → Type 0} (begins : List L → Bool) (operator : Form L O) (a : Form L V)
    (join : O → V → V → V) → Keeps P Any operator → Keeps P Any a
    → Keeps P Any (chain begins operator a join)
keeps_chain {P = P} begins operator a join h k =
    let pairs : Keeps P Any (made pair <+> operator <+> a) =
    keeps_applied (made pair <+> operator) a k
    (keeps_applied (made pair) operator h (keeps_made pair (λ o one v two. tt))) in
    keeps_row begins a (λ v. v) (made pair <+> operator <+> a) (λ v p. join p.0 v p.1) k pairs
    (λ w held. tt) (λ s v held one. tt)

-- of a whole
pub kept : {L V : Type 0} {P : L → Type 0} {S : V → Type 0} (form : Form L V) (ls : List L) (v : V)
    → Keeps P S form → AllByRecursion P ls → Is form ls v → S v
kept form ls v h all is = (h.keeps ls v [] all is).0
