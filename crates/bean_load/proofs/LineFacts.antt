-- What comes of include lines, by the checks that they pass.
use Rattle.std.proofs.Common.{◌≡◌, ℕ, zero, suc, ◌-◌, arith, Bool, true, false, List, [], ◌∷◌, ◌++◌}
use Rattle.std.proofs.Common.{length, Result, Ok, Err, refl, sym, ap, ◌∙◌, subst, append_assoc}
use Rattle.std.specs.Bool.{MatchBool}
use Rattle.std.specs.Prelude.{IsErrAnd}
use Rattle.std.specs.Str.{is_utf8}
use Rattle.std.specs.String.{string_bytes}
use Rattle.stores.specs.Reading.{Reading}
use Rattle.stores.specs.Source.{Gave}
use Rattle.stores.specs.declared.source.Source.{Ghosts as SourceOf}
use Rattle.stores.specs.declared.source.SourceFault.{SourceFault}
use Rattle.stores.specs.declared.source.SourceFault.TheVariants as source
use Rattle.stores.proofs.GaveFacts.{gave_behind, gave_none}
use Rattle.bean_load.specs.Asking.{Asks, IsTold}
use Rattle.bean_load.specs.Following.{Follows}
use Rattle.bean_load.specs.Gathered.{Gathered, is_full, is_too_large, was_asked, with_asked}
use Rattle.bean_load.specs.Gathered.{with_bytes, with_fault, with_file, with_part}
use Rattle.bean_load.specs.Gathering.{AnswerComes, LineComes, LinesCome, Stands, TextBelow}
use Rattle.bean_load.specs.Gathering.{TextComes, gone_on}
use Rattle.bean_load.specs.Include.{AreIncludes, Include}
use Rattle.refusals.specs.declared.refusal.Refusal.{Refusal}
use Rattle.bean_load.specs.declared.cause.LoadCause.{LoadCause}
use Rattle.bean_load.specs.declared.cause.LoadCause.TheVariants.{Unreadable, NotUtf8, TooLarge}
use Rattle.refusals.specs.declared.refusal.Refusal.TheVariants.{OutOfMemory, Refused}
use Rattle.bean_load.specs.declared.gathering.SourceAnswer.TheVariants as asked

pub by_true : (b : Bool) (P Q : Type 0) → b ≡ true → P → MatchBool b P Q
by_true b P Q is p = subst (λ (c : Bool). MatchBool c P Q) (sym is) p

pub by_false : (b : Bool) (P Q : Type 0) → b ≡ false → Q → MatchBool b P Q
by_false b P Q is q = subst (λ (c : Bool). MatchBool c P Q) (sym is) q

-- The steps of a line.

repeated : (room file : ℕ) (line : Include) (s : Gathered) (rest : List Reading)
    → was_asked line.name s ≡ true
    → LineComes room file line s rest rest (Ok (with_fault file line.line s))
repeated room file line s rest h = by_true (was_asked line.name s) _ _ h (refl, refl)

no_room : (room file : ℕ) (line : Include) (s : Gathered) (rest : List Reading)
    → was_asked line.name s ≡ false → is_full room s ≡ true
    → LineComes room file line s rest rest (Err (Refused TooLarge))
no_room room file line s rest h k =
    by_false (was_asked line.name s) _ _ h (by_true (is_full room s) _ _ k (refl, refl))

abbrev AnswerOf : ℕ → ℕ → Include → Gathered → Result (List ℕ) SourceFault → List Reading
    → List Reading → Result Gathered (Refusal LoadCause) → Type 0
AnswerOf room file line s answer left rest result = AnswerComes
    (Ok (with_fault file line.line (with_asked line.name s)))
    (λ bytes. Ok (with_fault file line.line (with_bytes line.name bytes s)))
    (λ bytes. Stands (TextBelow room) file line bytes (with_bytes line.name bytes s)) s answer left
    rest result

asked_for :
    (room file : ℕ) (line : Include) (s : Gathered) (answer : Result (List ℕ) SourceFault)
    (left rest : List Reading) (result : Result Gathered (Refusal LoadCause))
    → was_asked line.name s ≡ false → is_full room s ≡ false
    → AnswerOf room file line s answer left rest result
    → LineComes room file line s ((line.name, answer) ∷ left) rest result
asked_for room file line s answer left rest result h k comes =
    by_false (was_asked line.name s) _ _ h
    (by_false (is_full room s) _ _ k (answer, left, refl, comes))

too_large : (room file : ℕ) (line : Include) (s : Gathered) (bytes : List ℕ) (rest : List Reading)
    → is_too_large (length bytes) s ≡ true
    → AnswerOf room file line s (Ok bytes) rest rest (Err (Refused TooLarge))
too_large room file line s bytes rest h = by_true (is_too_large (length bytes) s) _ _ h (refl, refl)

no_text : (room file : ℕ) (line : Include) (s : Gathered) (bytes : List ℕ) (rest : List Reading)
    → is_too_large (length bytes) s ≡ false → is_utf8 bytes ≡ false
    → AnswerOf room file line s (Ok bytes) rest rest
    (Ok (with_fault file line.line (with_bytes line.name bytes s)))
no_text room file line s bytes rest h k =
    by_false (is_too_large (length bytes) s) _ _ h (by_false (is_utf8 bytes) _ _ k (refl, refl))

below : (room : ℕ) (name bytes : List ℕ) (s t : Gathered) (todo rest : List Reading)
    (end : Result Gathered (Refusal LoadCause)) → is_full room s ≡ false
    → TextComes (room - 1) name bytes t todo rest end → TextBelow room name bytes t todo rest end
unfolding TextBelow
below zero name bytes s t todo rest end h comes = cc
below (suc room) name bytes s t todo rest end h comes =
    let same : suc room - 1 ≡ room = omega arith in
    subst (λ r. TextComes r name bytes t todo rest end) same comes

stands : (room file : ℕ) (line : Include) (s : Gathered) (bytes : List ℕ) (todo rest : List Reading)
    (end : Result Gathered (Refusal LoadCause))
    → is_full room s ≡ false → is_too_large (length bytes) s ≡ false → is_utf8 bytes ≡ true
    → TextComes (room - 1) line.name bytes (with_bytes line.name bytes s) todo rest end
    → AnswerOf room file line s (Ok bytes) todo rest (gone_on file line.line end)
stands room file line s bytes todo rest end full large utf8 comes =
    by_false (is_too_large (length bytes) s) _ _ large (by_true (is_utf8 bytes) _ _ utf8 (
      end,
      below room line.name bytes s (with_bytes line.name bytes s) todo rest end full
          comes,
      refl,
    ))

-- Calls.

pub lacking :
    {S T : Type 0} (s : SourceOf S) (a b : S) (readings : List Reading) (Come : List Reading
    → List Reading → Result Gathered (Refusal LoadCause) → Type 0) (after : Gathered) (result :
    Result T (Refusal LoadCause))
    → Gave s a b readings → IsErrAnd result (λ fault. fault ≡ OutOfMemory)
    → Follows s a b Come after result
lacking s a b readings Come after (Ok x) gave h = absurd h
lacking {T = T} s a b readings Come after (Err fault) gave h =
    subst (λ f. Follows {T = T} s a b Come after (Err f)) (sym h) (readings, gave)

pub failing :
    {S T : Type 0} (s : SourceOf S) (a b : S) (Come : List Reading → List Reading
    → Result Gathered (Refusal LoadCause) → Type 0) (after before : Gathered) (fault : Refusal LoadCause) (result :
    Result T (Refusal LoadCause))
    → Follows {T = T} s a b Come before (Err fault) → IsErrAnd result (λ f. f ≡ fault)
    → Follows s a b Come after result
failing s a b Come after before fault (Ok x) follows h = absurd h
failing {T = T} s a b Come after before (Refused Unreadable) (Err f) follows h =
    subst (λ f. Follows {T = T} s a b Come after (Err f)) (sym h) follows
failing {T = T} s a b Come after before (Refused NotUtf8) (Err f) follows h =
    subst (λ f. Follows {T = T} s a b Come after (Err f)) (sym h) follows
failing {T = T} s a b Come after before (Refused TooLarge) (Err f) follows h =
    subst (λ f. Follows {T = T} s a b Come after (Err f)) (sym h) follows
failing {T = T} s a b Come after before OutOfMemory (Err f) follows h =
    subst (λ f. Follows {T = T} s a b Come after (Err f)) (sym h) follows

pub was_repeated :
    {S : Type 0} (s : SourceOf S) (a : S) (room file : ℕ) (line : Include) (before after : Gathered)
    → was_asked line.name before ≡ true → after ≡ with_fault file line.line before
    → (readings : List Reading) × Gave s a a readings
    × ((rest : List Reading) → LineComes room file line before (readings ++ rest) rest (Ok after))
was_repeated s a room file line before after h is = (
  [],
  gave_none s a,
  λ rest.
      subst (λ z. LineComes room file line before rest rest (Ok z)) (sym is)
      (repeated room file line before rest h),
)

pub was_full :
    {S : Type 0} (s : SourceOf S) (a : S) (room file : ℕ) (line : Include) (before : Gathered)
    → was_asked line.name before ≡ false → is_full room before ≡ true
    → (readings : List Reading) × Gave s a a readings
    × ((rest : List Reading)
    → LineComes room file line before (readings ++ rest) rest (Err (Refused TooLarge)))
was_full s a room file line before h k =
    ([], gave_none s a, λ rest. no_room room file line before rest h k)

pub ask_failed :
    {S : Type 0} (s : SourceOf S) (a b : S) (room file : ℕ) (line : Include)
    (before mid after : Gathered) (fault : Refusal LoadCause)
    → was_asked line.name before ≡ false → is_full room before ≡ false
    → Asks s a b line.name before mid (Err fault)
    → Follows {T = Unit} s a b (LineComes room file line before) after (Err fault)
ask_failed s a b room file line before mid after (Refused Unreadable) h k asks = absurd asks
ask_failed s a b room file line before mid after (Refused NotUtf8) h k asks = absurd asks
ask_failed s a b room file line before mid after (Refused TooLarge) h k asks = (
  (line.name, Ok asks.0) ∷ [],
  asks.1,
  λ rest. asked_for room file line before (Ok asks.0) rest rest (Err (Refused TooLarge)) h k
      (too_large room file line before asks.0 rest asks.2),
)
ask_failed s a b room file line before mid after OutOfMemory h k asks = asks

-- what is known of a text that was told
pub record Told {S : Type 0} (s : SourceOf S) (a b : S) (name : List ℕ) (before mid : Gathered)
    (bytes : List ℕ) : Type 0 where
  pub gave : Gave s a b ((name, Ok bytes) ∷ [])
  pub fits : is_too_large (length bytes) before ≡ false
  pub utf8 : is_utf8 bytes ≡ true
  pub known : mid ≡ with_bytes name bytes before

pub told_text :
    {S : Type 0} (s : SourceOf S) (a b : S) (name : List ℕ) (before mid : Gathered) (text : _)
    → Asks s a b name before mid (Ok (asked.Text text))
    → Told s a b name before mid (string_bytes text)
told_text s a b name before mid text asks = from asks.0 asks.1 asks.2
  where
    from : (answer : Result (List ℕ) SourceFault) → Gave s a b ((name, answer) ∷ [])
        → IsTold name before answer (asked.Text text) mid
        → Told s a b name before mid (string_bytes text)
    from (Ok bytes) gave told = record {
      gave = subst (λ bs. Gave s a b ((name, Ok bs) ∷ [])) (sym told.1.0) gave;
      fits = subst (λ bs. is_too_large (length bs) before ≡ false) (sym told.1.0) told.0;
      utf8 = subst (λ bs. is_utf8 bs ≡ true) (sym told.1.0) told.1.1;
      known = subst (λ bs. mid ≡ with_bytes name bs before) (sym told.1.0) told.2;
    }
    from (Err source.Failed) gave told = absurd told
    from (Err source.OutOfMemory) gave told = absurd told

pub gave_more :
    {S : Type 0} (s : SourceOf S) (a b c : S) (name bytes : List ℕ) (before mid : Gathered)
    (readings : List Reading) → Told s a b name before mid bytes → Gave s b c readings
    → Gave s a c ((name, Ok bytes) ∷ readings)
gave_more s a b c name bytes before mid readings told more =
    gave_behind s a b c ((name, Ok bytes) ∷ []) readings told.gave more

line_of_text :
    {S : Type 0} (s : SourceOf S) (a b c : S) (room file : ℕ) (line : Include)
    (before mid : Gathered) (bytes : List ℕ) (end : Result Gathered (Refusal LoadCause))
    → was_asked line.name before ≡ false → is_full room before ≡ false
    → Told s a b line.name before mid bytes
    → (readings : List Reading) × Gave s b c readings
    × ((rest : List Reading) → TextComes (room - 1) line.name bytes mid (readings ++ rest) rest end)
    → (readings : List Reading) × Gave s a c readings
    × ((rest : List Reading)
    → LineComes room file line before (readings ++ rest) rest (gone_on file line.line end))
line_of_text s a b c room file line before mid bytes end h k told text = (
  (line.name, Ok bytes) ∷ text.0,
  gave_more s a b c line.name bytes before mid text.0 told text.1,
  λ rest. asked_for room file line before (Ok bytes) (text.0 ++ rest) rest
      (gone_on file line.line end) h k
      (stands room file line before bytes (text.0 ++ rest) rest end k told.fits told.utf8
      (subst (λ z. TextComes (room - 1) line.name bytes z (text.0 ++ rest) rest end) told.known
      (text.2 rest))),
)

pub text_failed :
    {S : Type 0} (s : SourceOf S) (a b c : S) (room file : ℕ) (line : Include)
    (before mid after last : Gathered) (bytes : List ℕ) (fault : Refusal LoadCause)
    → was_asked line.name before ≡ false → is_full room before ≡ false
    → Told s a b line.name before mid bytes
    → Follows {T = Unit} s b c (TextComes (room - 1) line.name bytes mid) after (Err fault)
    → Follows {T = Unit} s a c (LineComes room file line before) last (Err fault)
text_failed s a b c room file line before mid after last bytes (Refused Unreadable) h k told text =
    line_of_text s a b c room file line before mid bytes (Err (Refused Unreadable)) h k told text
text_failed s a b c room file line before mid after last bytes (Refused NotUtf8) h k told text =
    line_of_text s a b c room file line before mid bytes (Err (Refused NotUtf8)) h k told text
text_failed s a b c room file line before mid after last bytes (Refused TooLarge) h k told text =
    line_of_text s a b c room file line before mid bytes (Err (Refused TooLarge)) h k told text
text_failed s a b c room file line before mid after last bytes OutOfMemory h k told text = (
  (line.name, Ok bytes)
      ∷ text.0,
  gave_more s a b c line.name bytes before mid text.0 told text.1,
)

pub text_stood :
    {S : Type 0} (s : SourceOf S) (a b c : S) (room file : ℕ) (line : Include)
    (before mid after last : Gathered) (bytes : List ℕ)
    → was_asked line.name before ≡ false → is_full room before ≡ false
    → Told s a b line.name before mid bytes
    → Follows {T = Unit} s b c (TextComes (room - 1) line.name bytes mid) after (Ok tt)
    → last ≡ with_part file line.line after
    → Follows {T = Unit} s a c (LineComes room file line before) last (Ok tt)
text_stood s a b c room file line before mid after last bytes h k told text is =
    let done = line_of_text s a b c room file line before mid bytes (Ok after) h k told text in (
      done.0,
      done.1,
      λ rest.
          subst (λ z. LineComes room file line before (done.0 ++ rest) rest (Ok z)) (sym is)
          (done.2 rest),
    )

pub told_no_text :
    {S : Type 0} (s : SourceOf S) (a b : S) (room file : ℕ) (line : Include)
    (before mid after : Gathered)
    → was_asked line.name before ≡ false → is_full room before ≡ false
    → Asks s a b line.name before mid (Ok asked.NotUtf8) → after ≡ with_fault file line.line mid
    → (readings : List Reading) × Gave s a b readings
    × ((rest : List Reading) → LineComes room file line before (readings ++ rest) rest (Ok after))
told_no_text s a b room file line before mid after h k asks is = from asks.0 asks.1 asks.2
  where
    from : (answer : Result (List ℕ) SourceFault) → Gave s a b ((line.name, answer) ∷ [])
        → IsTold line.name before answer asked.NotUtf8 mid
        → (readings : List Reading) × Gave s a b readings
        × ((rest : List Reading)
        → LineComes room file line before (readings ++ rest) rest (Ok after))
    from (Ok bytes) gave told = (
      (line.name, Ok bytes) ∷ [],
      gave,
      λ rest. subst
          (λ z. LineComes room file line before ((line.name, Ok bytes) ∷ rest) rest (Ok z))
          (ap (with_fault file line.line) (sym told.2) ∙ sym is)
          (asked_for room file line before (Ok bytes) rest rest _ h k
          (no_text room file line before bytes rest told.0 told.1)),
    )
    from (Err source.Failed) gave told = absurd told
    from (Err source.OutOfMemory) gave told = absurd told

pub told_nothing :
    {S : Type 0} (s : SourceOf S) (a b : S) (room file : ℕ) (line : Include)
    (before mid after : Gathered)
    → was_asked line.name before ≡ false → is_full room before ≡ false
    → Asks s a b line.name before mid (Ok asked.Failed) → after ≡ with_fault file line.line mid
    → (readings : List Reading) × Gave s a b readings
    × ((rest : List Reading) → LineComes room file line before (readings ++ rest) rest (Ok after))
told_nothing s a b room file line before mid after h k asks is = from asks.0 asks.1 asks.2
  where
    from : (answer : Result (List ℕ) SourceFault) → Gave s a b ((line.name, answer) ∷ [])
        → IsTold line.name before answer asked.Failed mid
        → (readings : List Reading) × Gave s a b readings
        × ((rest : List Reading)
        → LineComes room file line before (readings ++ rest) rest (Ok after))
    from (Ok bytes) gave told = absurd told.1
    from (Err source.Failed) gave told = (
      (line.name, Err source.Failed) ∷ [],
      gave,
      λ rest. subst
          (λ z. LineComes room file line before ((line.name, Err source.Failed) ∷ rest) rest (Ok z))
          (ap (with_fault file line.line) (sym told) ∙ sym is)
          (asked_for room file line before (Err source.Failed) rest rest _ h k (refl, refl)),
    )
    from (Err source.OutOfMemory) gave told = absurd told

-- The lines of a text.

-- what comes of the lines that are left completes what came of those before them
abbrev pub Continues : {S : Type 0} → SourceOf S → S → S → ℕ → ℕ → List Include → Gathered
    → List Include → Gathered → Type 0
Continues s a b room file lines before left now =
    (readings : List Reading) × Gave s a b readings
    × ((todo rest : List Reading) (result : Result Gathered (Refusal LoadCause))
    → LinesCome room file left now todo rest result
    → LinesCome room file lines before (readings ++ todo) rest result)

pub begins :
    {S : Type 0} (s : SourceOf S) (a : S) (room file : ℕ) (lines : List Include) (before : Gathered)
    → Continues s a a room file lines before lines before
begins s a room file lines before = ([], gave_none s a, λ todo rest result comes. comes)

pub goes_on :
    {S : Type 0} (s : SourceOf S) (a b c : S) (room file : ℕ) (lines : List Include)
    (before now after : Gathered) (line : Include) (left : List Include)
    → Continues s a b room file lines before (line ∷ left) now
    → Follows {T = Unit} s b c (LineComes room file line now) after (Ok tt)
    → Continues s a c room file lines before left after
goes_on s a b c room file lines before now after line left so_far one = (
  so_far.0 ++ one.0,
  gave_behind s a b c so_far.0 one.0 so_far.1 one.1,
  λ todo rest result comes.
      subst (λ rs. LinesCome room file lines before rs rest result)
      (sym (append_assoc so_far.0 one.0 todo))
      (so_far.2 (one.0 ++ todo) rest result (Ok after, todo, one.2 todo, comes)),
)

lines_end :
    {S : Type 0} (s : SourceOf S) (a b c : S) (room file : ℕ) (lines : List Include)
    (before now : Gathered) (line : Include) (left : List Include) (fault : Refusal LoadCause)
    → Continues s a b room file lines before (line ∷ left) now
    → (readings : List Reading) × Gave s b c readings
    × ((rest : List Reading) → LineComes room file line now (readings ++ rest) rest (Err fault))
    → (readings : List Reading) × Gave s a c readings
    × ((rest : List Reading) → LinesCome room file lines before (readings ++ rest) rest (Err fault))
lines_end s a b c room file lines before now line left fault so_far one = (
  so_far.0 ++ one.0,
  gave_behind s a b c so_far.0 one.0 so_far.1 one.1,
  λ rest. subst (λ rs. LinesCome room file lines before rs rest (Err fault))
      (sym (append_assoc so_far.0 one.0 rest))
      (so_far.2 (one.0 ++ rest) rest (Err fault) (Err fault, rest, one.2 rest, (refl, refl))),
)

pub line_failed :
    {S : Type 0} (s : SourceOf S) (a b c : S) (room file : ℕ) (lines : List Include)
    (before now after last : Gathered) (line : Include) (left : List Include) (fault : Refusal LoadCause)
    → Continues s a b room file lines before (line ∷ left) now
    → Follows {T = Unit} s b c (LineComes room file line now) after (Err fault)
    → Follows {T = Unit} s a c (LinesCome room file lines before) last (Err fault)
line_failed s a b c room file lines before now after last line left (Refused Unreadable) so_far one =
    lines_end s a b c room file lines before now line left (Refused Unreadable) so_far one
line_failed s a b c room file lines before now after last line left (Refused NotUtf8) so_far one =
    lines_end s a b c room file lines before now line left (Refused NotUtf8) so_far one
line_failed s a b c room file lines before now after last line left (Refused TooLarge) so_far one =
    lines_end s a b c room file lines before now line left (Refused TooLarge) so_far one
line_failed s a b c room file lines before now after last line left OutOfMemory so_far one =
    (so_far.0 ++ one.0, gave_behind s a b c so_far.0 one.0 so_far.1 one.1)

pub all_came :
    {S : Type 0} (s : SourceOf S) (a b : S) (room file : ℕ) (lines : List Include)
    (before now : Gathered)
    → Continues s a b room file lines before [] now
    → (readings : List Reading) × Gave s a b readings
    × ((rest : List Reading) → LinesCome room file lines before (readings ++ rest) rest (Ok now))
all_came s a b room file lines before now so_far =
    (so_far.0, so_far.1, λ rest. so_far.2 rest rest (Ok now) (refl, refl))

-- A text.

pub text_came :
    {S T : Type 0} (s : SourceOf S) (a b : S) (room : ℕ) (name bytes : List ℕ)
    (lines : List Include) (before after : Gathered) (result : Result T (Refusal LoadCause))
    → AreIncludes name bytes lines
    → Follows s a b (LinesCome room (length before.files) lines (with_file name bytes before)) after
    result
    → Follows s a b (TextComes room name bytes before) after result
text_came s a b room name bytes lines before after (Ok x) are come =
    (come.0, come.1, λ rest. (lines, are, come.2 rest))
text_came s a b room name bytes lines before after (Err (Refused Unreadable)) are come =
    (come.0, come.1, λ rest. (lines, are, come.2 rest))
text_came s a b room name bytes lines before after (Err (Refused NotUtf8)) are come =
    (come.0, come.1, λ rest. (lines, are, come.2 rest))
text_came s a b room name bytes lines before after (Err (Refused TooLarge)) are come =
    (come.0, come.1, λ rest. (lines, are, come.2 rest))
text_came s a b room name bytes lines before after (Err OutOfMemory) are come = come
