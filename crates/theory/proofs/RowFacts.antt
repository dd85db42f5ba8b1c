-- Laws of rows: what a loop over their items keeps.
use Rattle.std.proofs.Common.{◌≡◌, Bool, true, false, ◌||◌, List, [], ◌∷◌, Option, None, refl, sym}
use Rattle.std.proofs.Common.{◌∙◌, ap, subst}
use Rattle.theory.specs.Form.{Form, checked, ItemsRead, steps, row, Reads, HasNone}
use Rattle.theory.proofs.FormFacts.{either_false, Tells}

-- where another item begins, nothing carries the last on
abbrev pub Separates : {L V : Type 0} → Form L V → Type 0
Separates {L} {V} b = (ls : List L) (v : V) (rest : List L) → b.reads ls v rest
    → b.goes_on ls ≡ false

pub items_follow : {L V : Type 0} (b : Form L V) (vs : List V) (ls rest : List L) → Separates b
    → ItemsRead b ls vs rest → b.goes_on rest ≡ false → b.goes_on ls ≡ false
items_follow b [] ls rest sep p ends = ap b.goes_on p ∙ ends
items_follow b (v ∷ vs) ls rest sep p ends = sep ls v p.0 p.1

-- the whole ends only where its items do
abbrev pub EndsItems : {L V S : Type 0} → (List L → Bool) → Form L V → Form L S → Type 0
EndsItems {L} begins b whole = (rest : List L) → whole.goes_on rest ≡ false
    → (begins rest ≡ false) × (b.goes_on rest ≡ false)

-- Some items are read: whatever items are read from the rest complete the whole, and each reading
-- of the whole goes on so.
pub record InRow {L V S : Type 0} (whole : Form L S) (b : Form L V) (step : S → V → S)
    (ls : List L) (s : S) (rest : List L) : Type 0 where
  pub goes : (vs : List V) (after : List L) → ItemsRead b rest vs after
      → whole.reads ls (steps step s vs) after
  pub only : (t : S) (after : List L) → whole.reads ls t after → whole.goes_on after ≡ false
      → (vs : List V) × ItemsRead b rest vs after × (t ≡ steps step s vs)

pub row_ends :
    {L U V S : Type 0} (begins : List L → Bool) (a : Form L U) (start : U
    → S) (b : Form L V) (step : S → V → S) → EndsItems begins b (row begins a start b step)
row_ends begins a start b step rest e =
    let p = either_false (begins rest) (b.goes_on rest || a.goes_on rest) e in
    (p.0, (either_false (b.goes_on rest) (a.goes_on rest) p.1).0)

-- behind the first, items don't carry it on
abbrev pub BeginsRow : {L U V : Type 0} → Form L U → Form L V → Type 0
BeginsRow {L} {U} {V} a b = (ls : List L) (v : V) (rest : List L) → b.reads ls v rest
    → a.goes_on ls ≡ false

pub first_ends : {L U V : Type 0} (a : Form L U) (b : Form L V) (vs : List V) (ls rest : List L)
    → BeginsRow a b → ItemsRead b ls vs rest → a.goes_on rest ≡ false → a.goes_on ls ≡ false
first_ends a b [] ls rest begins p ends = ap a.goes_on p ∙ ends
first_ends a b (v ∷ vs) ls rest begins p ends = begins ls v p.0 p.1

pub row_begins :
    {L U V S : Type 0} (begins : List L → Bool) (a : Form L U) (start : U
    → S) (b : Form L V) (step : S → V → S) (ls : List L) (u : U) (rest : List L)
    → BeginsRow a b → Reads a ls u rest → InRow (row begins a start b step) b step ls (start u) rest
row_begins begins a start b step ls u rest follows r = record {
  goes = λ vs after p. (u, vs, rest, r.read, p, refl);
  only = λ t after p ends.
      let e = either_false (begins after) (b.goes_on after || a.goes_on after) ends in
      let f = either_false (b.goes_on after) (a.goes_on after) e.1 in
      let o = r.only p.0 p.2 p.3 (first_ends a b p.1 p.2 after follows p.4 f.1) in (
        p.1,
        subst (λ m. ItemsRead b m p.1 after) (sym o.1) p.4,
        p.5
            ∙ sym (ap (λ x. steps step (start x) p.1) o.0),
      );
}

next_item :
    {L V S : Type 0} (begins : List L → Bool) (b : Form L V) (step : S → V
    → S) (rest : List L) (s : S) (v : V) (more : List L) (t : S) (after : List L) → Separates b
    → Tells begins b → Reads b rest v more
    → (vs : List V) → ItemsRead b rest vs after → begins after ≡ false → b.goes_on after ≡ false
    → t ≡ steps step s vs
    → (ws : List V) × ItemsRead b more ws after × (t ≡ steps step (step s v) ws)
next_item begins b step rest s v more t after sep tells r [] p stops ends e =
    absurd (cc (tells rest v more r.read, ap begins p, stops))
next_item begins b step rest s v more t after sep tells r (w ∷ ws) p stops ends e =
    let o = r.only w p.0 p.1 (items_follow b ws p.0 after sep p.2 ends) in (
      ws,
      subst (λ m. ItemsRead b m ws after) (sym o.1) p.2,
      e
          ∙ sym (ap (λ x. steps step (step s x) ws) o.0),
    )

pub row_goes_on :
    {L V S : Type 0} (begins : List L → Bool) (whole : Form L S) (b : Form L V) (step : S → V
    → S) (ls : List L) (s : S) (rest : List L) (v : V) (more : List L)
    → EndsItems begins b whole → Separates b → Tells begins b → InRow whole b step ls s rest
    → Reads b rest v more → InRow whole b step ls (step s v) more
row_goes_on begins whole b step ls s rest v more stops sep tells p r = record {
  goes = λ vs after q. p.goes (v ∷ vs) after (more, r.read, q);
  only = λ t after q ends.
      let o = p.only t after q ends in
      let e = stops after ends in
      next_item begins b step rest s v more t after sep tells r o.0 o.1 e.0 e.1 o.2;
}

last_item :
    {L V S : Type 0} (begins : List L → Bool) (b : Form L V) (step : S → V
    → S) (rest : List L) (s t : S) (after : List L) → Tells begins b → begins rest ≡ false
    → (vs : List V) → ItemsRead b rest vs after → t ≡ steps step s vs → (s ≡ t) × (rest ≡ after)
last_item begins b step rest s t after tells absent [] p e = (sym e, p)
last_item begins b step rest s t after tells absent (v ∷ vs) p e =
    absurd (cc (tells rest v p.0 p.1, absent))

pub row_is_read :
    {L V S : Type 0} (begins : List L → Bool) (whole : Form L S) (b : Form L V) (step : S → V
    → S) (ls : List L) (s : S) (rest : List L)
    → Tells begins b → InRow whole b step ls s rest → begins rest ≡ false → Reads whole ls s rest
row_is_read begins whole b step ls s rest tells p absent = record {
  read = p.goes [] rest refl;
  only = λ t after q ends. let o = p.only t after q ends in
      last_item begins b step rest s t after tells absent o.0 o.1 o.2;
}

no_item : {L V : Type 0} (begins : List L → Bool) (b : Form L V) (rest after : List L) → Separates b
    → begins rest ≡ true → HasNone b rest → begins after ≡ false → b.goes_on after ≡ false
    → (vs : List V) → ItemsRead b rest vs after → ⊥
no_item begins b rest after sep present none stops ends [] p = cc (ap begins p, present, stops)
no_item begins b rest after sep present none stops ends (v ∷ vs) p =
    none v p.0 p.1 (items_follow b vs p.0 after sep p.2 ends)

pub none_in_row :
    {L V S : Type 0} (begins : List L → Bool) (whole : Form L S) (b : Form L V) (step : S → V
    → S) (ls : List L) (s : S) (rest : List L)
    → EndsItems begins b whole → Separates b → InRow whole b step ls s rest → begins rest ≡ true
    → HasNone b rest → HasNone whole ls
none_in_row begins whole b step ls s rest stops sep p present none t after q ends =
    let o = p.only t after q ends in let e = stops after ends in
    no_item begins b rest after sep present none e.0 e.1 o.0 o.1

pub no_row :
    {L U V S : Type 0} (begins : List L → Bool) (a : Form L U) (start : U
    → S) (b : Form L V) (step : S → V → S) (ls : List L) → BeginsRow a b → HasNone a ls
    → HasNone (row begins a start b step) ls
no_row begins a start b step ls follows none t after p ends =
    let e = either_false (begins after) (b.goes_on after || a.goes_on after) ends in
    let f = either_false (b.goes_on after) (a.goes_on after) e.1 in
    none p.0 p.2 p.3 (first_ends a b p.1 p.2 after follows p.4 f.1)

-- rows whose state counts for nothing

pub lost_row :
    {L V W S : Type 0} (f : S → Option W) (whole : Form L S) (b : Form L V) (step : S → V
    → S) (ls : List L) (s : S) (rest : List L)
    → InRow whole b step ls s rest → ((vs : List V) → f (steps step s vs) ≡ None)
    → HasNone (checked f whole) ls
lost_row f whole b step ls s rest p lost w after q ends = let o = p.only q.0 after q.1 ends in
    let e = ap f o.2 in cc (e, lost o.0, q.2)
