-- Laws of forms: what is read part by part is read as a whole.
use Rattle.std.proofs.Common.{◌⊎◌, inl, inr, ◌≡◌, Bool, true, false, ◌||◌, List, [], ◌∷◌, Option}
use Rattle.std.proofs.Common.{Some, None, refl, sym, ◌∙◌, ap, subst}
use Rattle.theory.specs.Form.{Form, word, made, ◌<+>◌, behind, closed, checked, related}
use Rattle.theory.specs.Form.{DueRead, due, either, ending, Reads, HasNone, Is, IsNone}

-- different contents make different lexemes
abbrev pub IsExact : {L V : Type 0} → (V → L) → Type 0
IsExact {L} {V} make = (a b : V) → make a ≡ make b → a ≡ b

pub either_false : (a b : Bool) → (a || b) ≡ false → (a ≡ false) × (b ≡ false)
either_false true b e = (e, absurd (cc))
either_false false b e = (refl, e)

pub reads_word : {L V : Type 0} (make : V → L) (ls : List L) (v : V) (rest : List L) → IsExact make
    → ls ≡ make v ∷ rest → Reads (word make) ls v rest
reads_word make ls v rest exact at =
    record { read = at; only = λ w after e ends. (exact v w (cc), cc) }

pub reads_made : {L V : Type 0} (v : V) (ls : List L) → Reads (made v) ls v ls
reads_made v ls = record { read = (refl, refl); only = λ w after e ends. (sym e.0, e.1) }

-- what is read behind the first form doesn't carry it on
abbrev pub Follows : {L U V : Type 0} → Form L U → Form L V → Type 0
Follows {L} {U} {V} a b = (ls : List L) (v : V) (rest : List L) → b.reads ls v rest
    → a.goes_on rest ≡ false → b.goes_on rest ≡ false → a.goes_on ls ≡ false

pub applied_value : {V W : Type 0} (g h : V → W) (v w : V) → g ≡ h → v ≡ w → g v ≡ h w
applied_value g h v w e f = ap (λ x. x v) e ∙ ap h f

pub reads_applied :
    {L V W : Type 0} (f : Form L (V → W)) (a : Form L V) (ls : List L) (g : V
    → W) (mid : List L) (v : V) (rest : List L)
    → Follows f a → Reads f ls g mid → Reads a mid v rest → Reads (f <+> a) ls (g v) rest
reads_applied f a ls g mid v rest follows r s = record {
  read = (g, v, mid, r.read, s.read, refl);
  only = λ w after p ends.
      let both_end = either_false (f.goes_on after) (a.goes_on after) ends in
      let o = r.only p.0 p.2 p.3 (follows p.2 p.1 after p.4 both_end.0 both_end.1) in
      let q = s.only p.1 after (subst (λ m. a.reads m p.1 after) (sym o.1) p.4) both_end.1 in
      (applied_value g p.0 v p.1 o.0 q.0 ∙ sym p.5, q.1);
}

pub none_first : {L V W : Type 0} (f : Form L (V → W)) (a : Form L V) (ls : List L) → Follows f a
    → HasNone f ls → HasNone (f <+> a) ls
none_first f a ls follows none w after p ends =
    let both_end = either_false (f.goes_on after) (a.goes_on after) ends in
    none p.0 p.2 p.3 (follows p.2 p.1 after p.4 both_end.0 both_end.1)

pub none_next :
    {L V W : Type 0} (f : Form L (V → W)) (a : Form L V) (ls : List L) (g : V → W) (mid : List L)
    → Follows f a → Reads f ls g mid → HasNone a mid → HasNone (f <+> a) ls
none_next f a ls g mid follows r none w after p ends =
    let both_end = either_false (f.goes_on after) (a.goes_on after) ends in
    let o = r.only p.0 p.2 p.3 (follows p.2 p.1 after p.4 both_end.0 both_end.1) in
    none p.1 after (subst (λ m. a.reads m p.1 after) (sym o.1) p.4) both_end.1

pub reads_behind : {L V : Type 0} (l : L) (a : Form L V) (ls mid : List L) (v : V) (rest : List L)
    → ls ≡ l ∷ mid → Reads a mid v rest → Reads (behind l a) ls v rest
reads_behind l a ls mid v rest at r = record {
  read = (mid, at, r.read);
  only = λ w after p ends. r.only w after (subst (λ m. a.reads m w after) (cc (p.1, at)) p.2) ends;
}

pub none_behind : {L V : Type 0} (l : L) (a : Form L V) (ls mid : List L) → ls ≡ l ∷ mid
    → HasNone a mid → HasNone (behind l a) ls
none_behind l a ls mid at none w after p ends =
    none w after (subst (λ m. a.reads m w after) (cc (p.1, at)) p.2) ends

-- the lexeme carries nothing on
abbrev pub Stops : {L V : Type 0} → L → Form L V → Type 0
Stops {L} l a = (rest : List L) → a.goes_on (l ∷ rest) ≡ false

pub reads_closed : {L V : Type 0} (l : L) (a : Form L V) (ls : List L) (v : V) (rest more : List L)
    → Stops l a → Reads a ls v rest → rest ≡ l ∷ more → Reads (closed l a) ls v more
reads_closed l a ls v rest more stops r at = record {
  read = subst (λ m. a.reads ls v m) at r.read;
  only = λ w after p ends. let o = r.only w (l ∷ after) p (stops after) in (o.0, cc (o.1, at));
}

pub none_closed : {L V : Type 0} (l : L) (a : Form L V) (ls : List L) → Stops l a → HasNone a ls
    → HasNone (closed l a) ls
none_closed l a ls stops none w after p ends = none w (l ∷ after) p (stops after)

pub not_closed : {L V : Type 0} (l : L) (a : Form L V) (ls : List L) (v : V) (rest : List L)
    → Stops l a → Reads a ls v rest → ((more : List L) → rest ≡ l ∷ more → ⊥)
    → HasNone (closed l a) ls
not_closed l a ls v rest stops r absent w after p ends =
    absent after ((r.only w (l ∷ after) p (stops after)).1)

same_some : {V : Type 0} (v w : V) (o : Option V) → o ≡ Some v → o ≡ Some w → v ≡ w
same_some v w o e f = cc

pub reads_checked :
    {L V W : Type 0} (f : V → Option W) (a : Form L V) (ls : List L) (v : V) (w : W) (rest : List L)
    → Reads a ls v rest → f v ≡ Some w → Reads (checked f a) ls w rest
reads_checked f a ls v w rest r at = record {
  read = (v, r.read, at);
  only = λ x after p ends. let o = r.only p.0 after p.1 ends in
      (same_some w x (f v) at (ap f o.0 ∙ p.2), o.1);
}

pub none_checked : {L V W : Type 0} (f : V → Option W) (a : Form L V) (ls : List L) → HasNone a ls
    → HasNone (checked f a) ls
none_checked f a ls none w after p ends = none p.0 after p.1 ends

pub not_checked :
    {L V W : Type 0} (f : V → Option W) (a : Form L V) (ls : List L) (v : V) (rest : List L)
    → Reads a ls v rest → f v ≡ None → HasNone (checked f a) ls
not_checked f a ls v rest r at w after p ends = let o = r.only p.0 after p.1 ends in let e =
    ap f o.0 in cc (e, at, p.2)

pub reads_related :
    {L V W : Type 0} (R : V → W
    → Type 0) (a : Form L V) (ls : List L) (v : V) (w : W) (rest : List L) → Reads a ls v rest
    → R v w → ((x : W) → R v x → w ≡ x) → Reads (related R a) ls w rest
reads_related R a ls v w rest r is one = record {
  read = (v, r.read, is);
  only = λ x after p ends. let o = r.only p.0 after p.1 ends in
      (one x (subst (λ u. R u x) (sym o.0) p.2), o.1);
}

pub none_related : {L V W : Type 0} (R : V → W → Type 0) (a : Form L V) (ls : List L) → HasNone a ls
    → HasNone (related R a) ls
none_related R a ls none w after p ends = none p.0 after p.1 ends

-- the test tells what begins with the form, and what doesn't
abbrev pub Tells : {L V : Type 0} → (List L → Bool) → Form L V → Type 0
Tells {L} {V} begins a = (ls : List L) (v : V) (rest : List L) → a.reads ls v rest
    → begins ls ≡ true

abbrev pub Avoids : {L V : Type 0} → (List L → Bool) → Form L V → Type 0
Avoids {L} {V} begins a = (ls : List L) (v : V) (rest : List L) → a.reads ls v rest
    → begins ls ≡ false

only_due :
    {L V : Type 0} (begins : List L → Bool) (a : Form L V) (ls : List L) (v : V) (rest : List L)
    → begins ls ≡ true → Reads a ls v rest
    → (o : Option V) (after : List L) → DueRead begins a ls o after → a.goes_on after ≡ false
    → (Some v ≡ o) × (rest ≡ after)
only_due begins a ls v rest present r None after e ends = absurd (cc (present, ap begins e.0, e.1))
only_due begins a ls v rest present r (Some w) after e ends = let o = r.only w after e ends in
    (ap Some o.0, o.1)

pub reads_due :
    {L V : Type 0} (begins : List L → Bool) (a : Form L V) (ls : List L) (v : V) (rest : List L)
    → begins ls ≡ true → Reads a ls v rest → Reads (due begins a) ls (Some v) rest
reads_due begins a ls v rest present r =
    record { read = r.read; only = only_due begins a ls v rest present r }

only_not_due : {L V : Type 0} (begins : List L → Bool) (a : Form L V) (ls : List L) → Tells begins a
    → begins ls ≡ false
    → (o : Option V) (after : List L) → DueRead begins a ls o after → a.goes_on after ≡ false
    → (None ≡ o) × (ls ≡ after)
only_not_due begins a ls tells absent None after e ends = (refl, e.0)
only_not_due begins a ls tells absent (Some w) after e ends =
    absurd (cc (tells ls w after e, absent))

pub reads_not_due : {L V : Type 0} (begins : List L → Bool) (a : Form L V) (ls : List L)
    → Tells begins a → begins ls ≡ false → Reads (due begins a) ls None ls
reads_not_due begins a ls tells absent =
    record { read = (refl, absent); only = only_not_due begins a ls tells absent }

pub none_due : {L V : Type 0} (begins : List L → Bool) (a : Form L V) (ls : List L)
    → begins ls ≡ true → HasNone a ls → HasNone (due begins a) ls
none_due begins a ls present none None after e ends = cc (present, ap begins e.0, e.1)
none_due begins a ls present none (Some w) after e ends = none w after e ends

only_left :
    {L V : Type 0} (begins : List L → Bool) (a b : Form L V) (ls : List L) (v : V) (rest : List L)
    → Avoids begins b → begins ls ≡ true → Reads a ls v rest
    → (w : V) (after : List L) → a.reads ls w after ⊎ b.reads ls w after
    → (a.goes_on after || b.goes_on after) ≡ false → (v ≡ w) × (rest ≡ after)
only_left begins a b ls v rest avoids present r w after (inl p) ends =
    r.only w after p (either_false (a.goes_on after) (b.goes_on after) ends).0
only_left begins a b ls v rest avoids present r w after (inr p) ends =
    absurd (cc (present, avoids ls w after p))

pub reads_left :
    {L V : Type 0} (begins : List L → Bool) (a b : Form L V) (ls : List L) (v : V) (rest : List L)
    → Avoids begins b → begins ls ≡ true → Reads a ls v rest → Reads (either a b) ls v rest
reads_left begins a b ls v rest avoids present r =
    record { read = inl r.read; only = only_left begins a b ls v rest avoids present r }

only_right :
    {L V : Type 0} (begins : List L → Bool) (a b : Form L V) (ls : List L) (v : V) (rest : List L)
    → Tells begins a → begins ls ≡ false → Reads b ls v rest
    → (w : V) (after : List L) → a.reads ls w after ⊎ b.reads ls w after
    → (a.goes_on after || b.goes_on after) ≡ false → (v ≡ w) × (rest ≡ after)
only_right begins a b ls v rest tells absent r w after (inl p) ends =
    absurd (cc (absent, tells ls w after p))
only_right begins a b ls v rest tells absent r w after (inr p) ends =
    r.only w after p (either_false (a.goes_on after) (b.goes_on after) ends).1

pub reads_right :
    {L V : Type 0} (begins : List L → Bool) (a b : Form L V) (ls : List L) (v : V) (rest : List L)
    → Tells begins a → begins ls ≡ false → Reads b ls v rest → Reads (either a b) ls v rest
reads_right begins a b ls v rest tells absent r =
    record { read = inr r.read; only = only_right begins a b ls v rest tells absent r }

pub none_left : {L V : Type 0} (begins : List L → Bool) (a b : Form L V) (ls : List L)
    → Avoids begins b → begins ls ≡ true → HasNone a ls → HasNone (either a b) ls
none_left begins a b ls avoids present none w after (inl p) ends =
    none w after p (either_false (a.goes_on after) (b.goes_on after) ends).0
none_left begins a b ls avoids present none w after (inr p) ends = cc (present, avoids ls w after p)

pub none_right : {L V : Type 0} (begins : List L → Bool) (a b : Form L V) (ls : List L)
    → Tells begins a → begins ls ≡ false → HasNone b ls → HasNone (either a b) ls
none_right begins a b ls tells absent none w after (inl p) ends = cc (absent, tells ls w after p)
none_right begins a b ls tells absent none w after (inr p) ends =
    none w after p (either_false (a.goes_on after) (b.goes_on after) ends).1

pub reads_ending : {L V : Type 0} (a : Form L V) (ls : List L) (v : V) (rest : List L)
    → Reads a ls v rest → a.goes_on rest ≡ false → Reads (ending a) ls v rest
reads_ending a ls v rest r stops =
    record { read = (r.read, stops); only = λ w after p ends. r.only w after p.0 p.1 }

pub none_ending : {L V : Type 0} (a : Form L V) (ls : List L) → HasNone a ls → HasNone (ending a) ls
none_ending a ls none w after p ends = none w after p.0 p.1

pub not_ending : {L V : Type 0} (a : Form L V) (ls : List L) (v : V) (rest : List L)
    → Reads a ls v rest → a.goes_on rest ≡ true → HasNone (ending a) ls
not_ending a ls v rest r more w after p ends = let o = r.only w after p.0 p.1 in let e =
    ap a.goes_on o.1 in cc (e, more, p.1)

-- Alternatives none of which is there.

pub none_either : {L V : Type 0} (a b : Form L V) (ls : List L) → HasNone a ls → HasNone b ls
    → HasNone (either a b) ls
none_either a b ls none_a none_b v after (inl p) ends =
    none_a v after p (either_false (a.goes_on after) (b.goes_on after) ends).0
none_either a b ls none_a none_b v after (inr p) ends =
    none_b v after p (either_false (a.goes_on after) (b.goes_on after) ends).1

-- Whole lines.

pub is_all : {L V : Type 0} (a : Form L V) (ls : List L) (v : V) (rest : List L) → Reads a ls v rest
    → rest ≡ [] → Is a ls v
is_all a ls v rest r at = subst (λ m. a.reads ls v m) at r.read

pub none_whole : {L V : Type 0} (a : Form L V) (ls : List L) → a.goes_on [] ≡ false → HasNone a ls
    → IsNone a ls
none_whole a ls ends none v p = none v [] p ends

pub more_than_whole : {L V : Type 0} (a : Form L V) (ls : List L) (v : V) (l : L) (rest : List L)
    → a.goes_on [] ≡ false → Reads a ls v (l ∷ rest) → IsNone a ls
more_than_whole a ls v l rest ends r w p = cc ((r.only w [] p ends).1)
