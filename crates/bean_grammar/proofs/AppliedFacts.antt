-- Forms behind what their values are put into, where no rest carries on what stands before.
use Rattle.std.proofs.Common.{Option, Some, None, MatchOption, subst, ◌≡◌, false, List, refl}
use Rattle.theory.specs.Form.{Form, Reads, HasNone, IsUnambiguous, made, ◌<+>◌}
use Rattle.theory.proofs.FormFacts.{reads_made, reads_applied, none_first, none_next}
use Rattle.theory.proofs.OneReading.{one_made, one_applied}

-- a form that no rest carries on
abbrev pub IsFixed : {L V : Type 0} → Form L V → Type 0
IsFixed {L} a = (rest : List L) → a.goes_on rest ≡ false

pub reads_first : {L V W : Type 0} (f : V → W) (a : Form L V) (ls : List L) (v : V) (rest : List L)
    → Reads a ls v rest → Reads (made f <+> a) ls (f v) rest
reads_first f a ls v rest r =
    reads_applied (made f) a ls f ls v rest (λ ls v rest p e f. refl) (reads_made f ls) r

pub no_first : {L V W : Type 0} (f : V → W) (a : Form L V) (ls : List L) → HasNone a ls
    → HasNone (made f <+> a) ls
no_first f a ls none = none_next (made f) a ls f ls (λ ls v rest p e f. refl) (reads_made f ls) none

pub one_first : {L V W : Type 0} (f : V → W) (a : Form L V) → IsUnambiguous a
    → IsUnambiguous (made f <+> a)
one_first f a one = one_applied (made f) a (λ ls v rest p e f. refl) (one_made f) one

pub reads_next :
    {L V W : Type 0} (f : Form L (V → W)) (a : Form L V) (ls : List L) (g : V
    → W) (mid : List L) (v : V) (rest : List L)
    → IsFixed f → Reads f ls g mid → Reads a mid v rest → Reads (f <+> a) ls (g v) rest
reads_next f a ls g mid v rest fixed r s =
    reads_applied f a ls g mid v rest (λ ls v rest p e g. fixed ls) r s

pub no_next :
    {L V W : Type 0} (f : Form L (V → W)) (a : Form L V) (ls : List L) (g : V → W) (mid : List L)
    → IsFixed f → Reads f ls g mid → HasNone a mid → HasNone (f <+> a) ls
no_next f a ls g mid fixed r none = none_next f a ls g mid (λ ls v rest p e g. fixed ls) r none

pub none_before : {L V W : Type 0} (f : Form L (V → W)) (a : Form L V) (ls : List L) → IsFixed f
    → HasNone f ls → HasNone (f <+> a) ls
none_before f a ls fixed none = none_first f a ls (λ ls v rest p e g. fixed ls) none

pub one_next : {L V W : Type 0} (f : Form L (V → W)) (a : Form L V) → IsFixed f → IsUnambiguous f
    → IsUnambiguous a → IsUnambiguous (f <+> a)
one_next f a fixed one_f one_a = one_applied f a (λ ls v rest p e g. fixed ls) one_f one_a

-- what is known of an option that is there, or isn't

pub when_some : {A : Type 0} (o : Option A) (v : A) (N : Type 0) (P : A → Type 0) → o ≡ Some v
    → MatchOption o N P → P v
when_some o v N P e m = subst (λ o. MatchOption o N P) e m

pub when_none : {A : Type 0} (o : Option A) (N : Type 0) (P : A → Type 0) → o ≡ None
    → MatchOption o N P → N
when_none o N P e m = subst (λ o. MatchOption o N P) e m
