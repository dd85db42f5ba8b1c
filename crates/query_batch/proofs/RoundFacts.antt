-- After enough rounds each run of a batch has ended.
use Rattle.std.proofs.Common.{◌≡◌, inl, inr, ℕ, zero, suc, ◌+◌, ◌<◌, ◌≤◌, Bool, true, false, List, [], ◌∷◌, ◌++◌}
use Rattle.std.proofs.Common.{length, Some, refl, sym, ap, ◌∙◌, subst, arith}
use Rattle.std.specs.Prelude.{◌⊎◌, All, ◌||◌, max, nat_le, get_or, slice_get, slice_set, take}
use Rattle.std.specs.List.{AllByRecursion, list_all, list_any}
use Rattle.std.proofs.lemmas.Bool.{and_parts, leb-true}
use Rattle.std.proofs.lemmas.List.{length-map, take_all, take_more}
use Rattle.std.proofs.lemmas.List.Elements.{recursion_from_All}
use Rattle.plain_machine.specs.Answer.{NeverFaults}
use Rattle.posting_table.specs.Ledger.{Ledger}
use Rattle.posting_table.specs.Rows.{row_of, rows_of}
use Rattle.query_batch.specs.Batch.{AreJoined}
use Rattle.query_batch.specs.Members.{IsTurnedMember, JoinsIn}
use Rattle.query_batch.specs.declared.member.Member.{Member}
use Rattle.query_batch.specs.declared.member.Member.TheVariants as member
use Rattle.query_code.specs.declared.program.Parts.{Parts}
use Rattle.query_machine.specs.Run.{At, Ended, Failed, Place, Run}
use Rattle.query_machine.specs.Starts.{IsOutside, IsWithin}
use Rattle.query_machine.specs.Turns.{HasEnded, IsTurned, Moves, RunsEnd, StandsAfter, told_at}
use Rattle.query_machine.specs.declared.turn.Turn.{Turn}
use Rattle.query_rows.specs.Fits.{row_fits}
use Rattle.query_rows.specs.Row.{Row}
use Rattle.verified_program.specs.declared.checked.Checked.{Checked}
use Rattle.query_batch.specs.Rounds.{AreAllTurned, AreRounds, EndsAt, GoesOn, HaveEnded, IsBrief}
use Rattle.query_batch.specs.Rounds.{IsEnd, IsTurnTold, is_going, is_going_at, is_told_going}

-- ---- how long runs may be

weaker : (c : Checked) (postings most n : ℕ) → most ≤ n → IsBrief postings most c
    → IsBrief postings n c
weaker c postings most n few brief within =
    let b = brief within in omega (arith, few, b)

weaker_all : (postings most n : ℕ) (programs : List Checked) → most ≤ n
    → AllByRecursion (IsBrief postings most) programs → AllByRecursion (IsBrief postings n) programs
weaker_all postings most n [] few brief = tt
weaker_all postings most n (c ∷ programs) few brief =
    (weaker c postings most n few brief.0, weaker_all postings most n programs few brief.1)

one_more : (postings n : ℕ) (programs : List Checked) (c : Checked)
    → AllByRecursion (IsBrief postings n) programs → IsBrief postings n c
    → AllByRecursion (IsBrief postings n) (programs ++ c ∷ [])
one_more postings n [] c are is = (is, tt)
one_more postings n (p ∷ programs) c are is = (are.0, one_more postings n programs c are.1 is)

pub brief_next : (postings old found new i : ℕ) (programs : List Checked) (c : Checked)
    → i < length programs → c ≡ get_or programs i c → new ≡ max found old
    → AllByRecursion (IsBrief postings old) (take i programs) → IsBrief postings found c
    → AllByRecursion (IsBrief postings new) (take (i + 1) programs)
brief_next postings old found new i programs c there at most are is =
    let up : old ≤ new = omega (arith, most) in
    let down : found ≤ new = omega (arith, most) in
    subst (AllByRecursion (IsBrief postings new))
    (ap (λ x. take i programs ++ x ∷ []) at ∙ sym (take_more programs i c there))
    (one_more postings new (take i programs) c
    (weaker_all postings old new (take i programs) up are) (weaker c postings found new down is))

-- ---- whether a run can go on

going_at : (place : Place) → is_told_going (told_at place) ≡ is_going_at place
going_at (At steps) = refl
going_at (Ended answer) = refl
going_at Failed = refl

going_as_told : (k : ℕ) (before after : Member) (told : Turn) → IsTurnedMember k before after told
    → is_told_going told ≡ is_going after
going_as_told k (member.Run old) (member.Run new) told is =
    ap is_told_going is.tells ∙ going_at new.place
going_as_told k (member.Run old) member.OutsideBounds told is = absurd is
going_as_told k member.OutsideBounds (member.Run new) told is = absurd is
going_as_told k member.OutsideBounds member.OutsideBounds told is = ap is_told_going is

or_none : (b : Bool) → b ≡ (b || false)
or_none true = refl
or_none false = refl

or_joins : (a b c : Bool) → ((a || b) || c) ≡ (a || (b || c))
or_joins true b c = refl
or_joins false b c = refl

-- any of the first runs goes on, with one more that had a turn
any_next : (i : ℕ) (runs : List Member) (before after : Member) → slice_get runs i ≡ Some before
    → (list_any is_going (take i runs) || is_going after)
    ≡ list_any is_going (take (suc i) (slice_set runs i after))
any_next i [] before after was = let e = was in absurd cc
any_next zero (m ∷ runs) before after was = or_none (is_going after)
any_next (suc i) (m ∷ runs) before after was =
    or_joins (is_going m) (list_any is_going (take i runs)) (is_going after)
    ∙ ap (λ b. is_going m || b) (any_next i runs before after was)

pub any_told : (i k : ℕ) (now new : List Member) (any goes : Bool)
    → any ≡ list_any is_going (take i now) → IsTurnTold i k now new goes
    → (any || goes) ≡ list_any is_going (take (i + 1) new)
any_told i k now new any goes so_far (told, turn, tells) =
    let more : suc i ≡ i + 1 = omega arith in
    ap (λ b. b || goes) so_far
    ∙ ap (λ b. list_any is_going (take i now) || b)
    (tells ∙ going_as_told k turn.before turn.after told turn.turned)
    ∙ any_next i now turn.before turn.after turn.was
    ∙ ap (λ n. list_any is_going (take n (slice_set now i turn.after))) more
    ∙ ap (λ runs. list_any is_going (take (i + 1) runs)) (sym turn.is)

-- ---- a round, run by run

-- the first i runs had a turn
abbrev pub AreTurnedTo : ℕ → ℕ → List Member → List Member → Type 0
AreTurnedTo zero k old new = new ≡ old
AreTurnedTo (suc i) k [] [] = Unit {0}
AreTurnedTo (suc i) k [] (new ∷ after) = ⊥
AreTurnedTo (suc i) k (old ∷ before) [] = ⊥
AreTurnedTo (suc i) k (old ∷ before) (new ∷ after) =
    ((told : Turn) × IsTurnedMember k old new told) × AreTurnedTo i k before after

first_turned : (k : ℕ) (runs : List Member) (before after : Member) (told : Turn)
    → slice_get runs 0 ≡ Some before → IsTurnedMember k before after told
    → AreTurnedTo 1 k runs (slice_set runs 0 after)
first_turned k [] before after told was turned = let e = was in absurd cc
first_turned k (m ∷ runs) before after told was turned =
    let e = was in
    let same : m ≡ before = cc in
    ((told, subst (λ x. IsTurnedMember k x after told) (sym same) turned), refl)

turned_next : (i k : ℕ) (old now : List Member) (before after : Member) (told : Turn)
    → AreTurnedTo i k old now → slice_get now i ≡ Some before → IsTurnedMember k before after told
    → AreTurnedTo (suc i) k old (slice_set now i after)
turned_next zero k old now before after told are was turned =
    subst (λ runs. AreTurnedTo 1 k runs (slice_set now 0 after)) are
    (first_turned k now before after told was turned)
turned_next (suc i) k [] [] before after told are was turned = let e = was in absurd cc
turned_next (suc i) k [] (n ∷ now) before after told are was turned = absurd are
turned_next (suc i) k (m ∷ old) [] before after told are was turned = absurd are
turned_next (suc i) k (m ∷ old) (n ∷ now) before after told are was turned =
    (are.0, turned_next i k old now before after told are.1 was turned)

pub as_long : (i k : ℕ) (old new : List Member) → AreTurnedTo i k old new
    → length new ≡ length old
as_long zero k old new same = ap length same
as_long (suc i) k [] [] are = refl
as_long (suc i) k [] (n ∷ new) are = absurd are
as_long (suc i) k (m ∷ old) [] are = absurd are
as_long (suc i) k (m ∷ old) (n ∷ new) are = ap (λ x. suc x) (as_long i k old new are.1)

pub takes_next : (i k : ℕ) (old now new : List Member) (goes : Bool) → AreTurnedTo i k old now
    → IsTurnTold i k now new goes → AreTurnedTo (i + 1) k old new
takes_next i k old now new goes are (told, takes, tells) =
    let more : suc i ≡ i + 1 = omega arith in
    subst (λ n. AreTurnedTo n k old new) more
    (subst (λ runs. AreTurnedTo (suc i) k old runs) (sym takes.is)
    (turned_next i k old now takes.before takes.after told are takes.was takes.turned))

all_turned : (k : ℕ) (old new : List Member) → AreTurnedTo (length old) k old new
    → AreAllTurned k old new
all_turned k [] [] are = tt
all_turned k [] (n ∷ new) are = let e = are in absurd cc
all_turned k (m ∷ old) [] are = absurd are
all_turned k (m ∷ old) (n ∷ new) are = (are.0, all_turned k old new are.1)

-- and the count of them is that of all
pub any_of_all : (n k : ℕ) (old new : List Member) (any : Bool) → n ≡ length old
    → AreTurnedTo n k old new → any ≡ list_any is_going (take n new) → any ≡ list_any is_going new
any_of_all n k old new any all are so_far =
    let long = as_long n k old new are in
    so_far ∙ ap (λ runs. list_any is_going runs) (take_all n new (omega (arith, long, all)))

pub round_ends : (n k : ℕ) (old new : List Member) → n ≡ length old → AreTurnedTo n k old new
    → AreAllTurned k old new
round_ends n k old new all are =
    all_turned k old new (subst (λ i. AreTurnedTo i k old new) all are)

-- ---- rounds

pub round_next : (n k : ℕ) (old mid new : List Member) → AreRounds n k old mid
    → AreAllTurned k mid new → AreRounds (n + 1) k old new
round_next n k old mid new are turned =
    let more : suc n ≡ n + 1 = omega arith in
    subst (λ m. AreRounds m k old new) more (mid, are, turned)

pub stops : (n most k : ℕ) (old mid new : List Member) (any : Bool) → AreRounds n k old mid
    → AreAllTurned k mid new → any ≡ list_any is_going new → any ≡ false → GoesOn most k old new
stops n most k old mid new any are turned goes none =
    (n + 1, round_next n k old mid new are turned, inr (sym goes ∙ none))

pub all_rounds : (n most k : ℕ) (old new : List Member) → n ≤ most → most ≤ n
    → AreRounds n k old new → GoesOn most k old new
all_rounds n most k old new few enough are =
    let all : n ≡ most = omega (arith, few, enough) in (n, are, inl all)

-- ---- the runs of programs

-- how brief they are, by the count of postings
pub all_brief : (l : Ledger) (postings most : ℕ) (programs : List Checked)
    → postings ≡ length l.rows → All (IsBrief postings most) programs
    → AllByRecursion (IsBrief (length (rows_of l)) most) programs
all_brief l postings most programs count are =
    recursion_from_All (IsBrief (length (rows_of l)) most) programs
    (subst (λ n. All (IsBrief n most) programs) (count ∙ sym (length-map l.rows row_of)) are)

module _ (l : Ledger) where
  -- So many steps or more were given to the run of a program, which never faults.
  pub record IsGiven (n : ℕ) (c : Checked) (r : Run) : Type 0 where
    pub parts : r.parts ≡ c.program.parts
    pub ledger : r.ledger ≡ l
    pub within : IsWithin c l
    pub never_faults : NeverFaults c.program.parts (rows_of l)
    pub given : ℕ
    pub enough : n ≤ given
    pub stands : StandsAfter c.program.parts (rows_of l) given r.place

  abbrev pub HasTurned : ℕ → Checked → Member → Type 0
  HasTurned n c (member.Run r) = IsGiven n c r
  HasTurned n c member.OutsideBounds = IsOutside c l

  abbrev pub HaveTurned : ℕ → List Checked → List Member → Type 0
  HaveTurned n [] [] = Unit {0}
  HaveTurned n [] (m ∷ runs) = ⊥
  HaveTurned n (c ∷ programs) [] = ⊥
  HaveTurned n (c ∷ programs) (m ∷ runs) = HasTurned n c m × HaveTurned n programs runs

  moves_on : (p : Parts) (rows : List Row) (given k : ℕ) (old new : Place)
      → StandsAfter p rows given old → Moves p rows k old new
      → StandsAfter p rows (given + k) new
  moves_on p rows given k (At steps) new stands moves =
      subst (λ n. StandsAfter p rows (n + k) new) stands.0 moves
  moves_on p rows given k (Ended answer) new stands moves =
      let few = stands.1 in
      subst (StandsAfter p rows (given + k)) (sym moves) (stands.0, omega (arith, few))
  moves_on p rows given k Failed new stands moves =
      subst (StandsAfter p rows (given + k)) (sym moves) tt

  -- the moves of the run, as those of its program
  moves_of : (k : ℕ) (c : Checked) (old new : Run) (told : Turn) → IsTurned k old new told
      → old.parts ≡ c.program.parts → old.ledger ≡ l
      → Moves c.program.parts (rows_of l) k old.place new.place
  moves_of k c old new told is parts ledger =
      subst (λ p. Moves p (rows_of l) k old.place new.place) parts
      (subst (λ x. Moves old.parts (rows_of x) k old.place new.place) ledger is.moves)

  first_turn : (n k : ℕ) (c : Checked) (m after : Member) (told : Turn) → n ≤ k → JoinsIn l c m
      → IsTurnedMember k m after told → HasTurned n c after
  first_turn n k c (member.Run old) (member.Run new) told few joins is =
      let begun = ap (λ (r : Run). r.place) joins.is in
      let sum : 0 + k ≡ k = omega arith in record {
        parts = is.parts ∙ ap (λ (r : Run). r.parts) joins.is;
        ledger = is.ledger ∙ ap (λ (r : Run). r.ledger) joins.is;
        within = joins.within;
        never_faults = joins.never_faults;
        given = k;
        enough = few;
        stands = subst (λ given. StandsAfter c.program.parts (rows_of l) given new.place) sum
            (subst (λ place. Moves c.program.parts (rows_of l) k place new.place) begun
            (moves_of k c old new told is (ap (λ (r : Run). r.parts) joins.is)
            (ap (λ (r : Run). r.ledger) joins.is)));
      }
  first_turn n k c (member.Run old) member.OutsideBounds told few joins is = absurd is
  first_turn n k c member.OutsideBounds (member.Run new) told few joins is = absurd is
  first_turn n k c member.OutsideBounds member.OutsideBounds told few joins is = joins

  pub first_turns : (n k : ℕ) (programs : List Checked) (old new : List Member) → n ≤ k
      → AreJoined l programs old → AreAllTurned k old new → HaveTurned n programs new
  first_turns n k [] [] [] few joined turned = tt
  first_turns n k [] [] (m ∷ new) few joined turned = absurd turned
  first_turns n k [] (m ∷ old) new few joined turned = absurd joined
  first_turns n k (c ∷ programs) [] new few joined turned = absurd joined
  first_turns n k (c ∷ programs) (m ∷ old) [] few joined turned = absurd turned
  first_turns n k (c ∷ programs) (m ∷ old) (x ∷ new) few joined turned = (
    first_turn n k c m x turned.0.0 few joined.0 turned.0.1,
    first_turns n k programs old new few joined.1 turned.1,
  )

  next_turn : (n k : ℕ) (c : Checked) (m after : Member) (told : Turn) → 1 ≤ k → HasTurned n c m
      → IsTurnedMember k m after told → HasTurned (suc n) c after
  next_turn n k c (member.Run old) (member.Run new) told some has is =
      let enough = has.enough in record {
        parts = is.parts ∙ has.parts;
        ledger = is.ledger ∙ has.ledger;
        within = has.within;
        never_faults = has.never_faults;
        given = has.given + k;
        enough = omega (arith, enough, some);
        stands = moves_on c.program.parts (rows_of l) has.given k old.place new.place has.stands
            (moves_of k c old new told is has.parts has.ledger);
      }
  next_turn n k c (member.Run old) member.OutsideBounds told some has is = absurd is
  next_turn n k c member.OutsideBounds (member.Run new) told some has is = absurd is
  next_turn n k c member.OutsideBounds member.OutsideBounds told some has is = has

  next_turns : (n k : ℕ) (programs : List Checked) (old new : List Member) → 1 ≤ k
      → HaveTurned n programs old → AreAllTurned k old new → HaveTurned (suc n) programs new
  next_turns n k [] [] [] some have turned = tt
  next_turns n k [] [] (m ∷ new) some have turned = absurd turned
  next_turns n k [] (m ∷ old) new some have turned = absurd have
  next_turns n k (c ∷ programs) [] new some have turned = absurd have
  next_turns n k (c ∷ programs) (m ∷ old) [] some have turned = absurd turned
  next_turns n k (c ∷ programs) (m ∷ old) (x ∷ new) some have turned = (
    next_turn n k c m x turned.0.0 some have.0 turned.0.1,
    next_turns n k programs old new some have.1 turned.1,
  )

  pub rounds_turn : (n k : ℕ) (programs : List Checked) (old new : List Member) → 1 ≤ k
      → HaveTurned 0 programs old → AreRounds n k old new → HaveTurned n programs new
  rounds_turn zero k programs old new some have are =
      subst (HaveTurned 0 programs) (sym are) have
  rounds_turn (suc n) k programs old new some have are =
      next_turns n k programs are.0 new some
      (rounds_turn n k programs old are.0 some have are.1) are.2

  -- ---- the end

  few_rows : (c : Checked) → IsWithin c l
      → length (rows_of l) ≤ c.program.parts.bounds.postings
  few_rows c within =
      leb-true (length (rows_of l)) c.program.parts.bounds.postings
      (and_parts (nat_le (length (rows_of l)) c.program.parts.bounds.postings)
      (list_all (row_fits c.program.parts.bounds) (rows_of l)) within).0

  ends_at : (c : Checked) (given : ℕ) (place : Place)
      → StandsAfter c.program.parts (rows_of l) given place → HasEnded place → EndsAt l c place
  ends_at c given (At steps) stands ended = ended
  ends_at c given (Ended answer) stands ended = stands.0
  ends_at c given Failed stands ended = tt

  -- after as many steps as there may be, or where it can't go on
  is_end : RunsEnd → (n : ℕ) (c : Checked) (m : Member)
      → IsBrief (length (rows_of l)) n c ⊎ (is_going m ≡ false) → HasTurned n c m → IsEnd l c m
  is_end end n c (member.Run r) (inl brief) has =
      let enough = has.enough in
      let few = brief (few_rows c has.within) in (
        has.within,
        ends_at c has.given r.place has.stands
            (end c.program.parts (rows_of l) has.given r.place has.never_faults
            (omega (arith, enough, few)) has.stands),
      )
  is_end end n c (member.Run r) (inr stopped) has =
      (has.within, ends_at c has.given r.place has.stands (has_ended r.place stopped))
    where
      has_ended : (place : Place) → is_going_at place ≡ false → HasEnded place
      has_ended (At steps) e = let f = e in absurd cc
      has_ended (Ended answer) e = tt
      has_ended Failed e = tt
  is_end end n c member.OutsideBounds brief has = has

  or_left : (a b : Bool) → (a || b) ≡ false → a ≡ false
  or_left false b e = refl
  or_left true b e = let f = e in absurd cc

  or_right : (a b : Bool) → (a || b) ≡ false → b ≡ false
  or_right false b e = e
  or_right true b e = let f = e in absurd cc

  enough_turns : RunsEnd → (n most : ℕ) (programs : List Checked) (runs : List Member)
      → most ≤ n → AllByRecursion (IsBrief (length (rows_of l)) most) programs
      → HaveTurned n programs runs → HaveEnded l programs runs
  enough_turns end n most [] [] few brief have = tt
  enough_turns end n most [] (m ∷ runs) few brief have = absurd have
  enough_turns end n most (c ∷ programs) [] few brief have = absurd have
  enough_turns end n most (c ∷ programs) (m ∷ runs) few brief have = (
    is_end end n c m (inl (weaker c (length (rows_of l)) most n few brief.0)) have.0,
    enough_turns end n most programs runs few brief.1 have.1,
  )

  none_goes : RunsEnd → (n : ℕ) (programs : List Checked) (runs : List Member)
      → list_any is_going runs ≡ false → HaveTurned n programs runs → HaveEnded l programs runs
  none_goes end n [] [] stopped have = tt
  none_goes end n [] (m ∷ runs) stopped have = absurd have
  none_goes end n (c ∷ programs) [] stopped have = absurd have
  none_goes end n (c ∷ programs) (m ∷ runs) stopped have = (
    is_end end n c m (inr (or_left (is_going m) (list_any is_going runs) stopped)) have.0,
    none_goes end n programs runs (or_right (is_going m) (list_any is_going runs) stopped)
        have.1,
  )

  -- a round, and then rounds until none can go on or as many as there may be
  pub all_end : RunsEnd → (k most : ℕ) (programs : List Checked) (begun first last : List Member)
      → 1 ≤ k → AllByRecursion (IsBrief (length (rows_of l)) most) programs
      → AreJoined l programs begun → AreAllTurned k begun first → GoesOn most k first last
      → HaveEnded l programs last
  all_end end k most programs begun first last some brief joined turned goes =
      by goes.2
    where
      have : HaveTurned goes.0 programs last
      have = rounds_turn goes.0 k programs first last some
          (first_turns 0 k programs begun first (omega (arith, some)) joined turned) goes.1

      by : (goes.0 ≡ most) ⊎ (list_any is_going last ≡ false) → HaveEnded l programs last
      by (inl as_many) =
          enough_turns end goes.0 most programs last (omega (arith, as_many)) brief have
      by (inr stopped) = none_goes end goes.0 programs last stopped have
