-- Each text that is gathered has at most as many bytes as a text may have, and so have all.
use Rattle.std.proofs.Common.{◌≡◌, ◌+◌, ◌≤◌, ◌++◌, arith, ℕ, zero, suc, Bool, true, false, ◌||◌, MatchBool, nat_lt, List}
use Rattle.std.proofs.Common.{[], ◌∷◌, length, Result, Ok, Err, refl, sym, subst}
use Rattle.std.proofs.lemmas.Bool.{ltb-false}
use Rattle.std.specs.List.{AllByRecursion}
use Rattle.std.specs.Str.{is_utf8}
use Rattle.stores.specs.Reading.{Reading}
use Rattle.stores.specs.declared.source.SourceFault.{SourceFault}
use Rattle.stores.specs.declared.source.SourceFault.TheVariants as source
use Rattle.refusals.specs.declared.refusal.Refusal.TheVariants.{Refused}
use Rattle.bean_load.specs.Following.{IsGathered, texts_in}
use Rattle.bean_load.specs.Gathered.{Gathered, is_full, is_too_large, nothing, texts_of, was_asked}
use Rattle.bean_load.specs.Gathered.{with_asked, with_bytes, with_fault, with_file}
use Rattle.bean_load.specs.Gathering.{Step, Ends, AsksFor, BytesCome, AnswerComes, gone_on, Stands}
use Rattle.bean_load.specs.Gathering.{LineBy, Then, LinesBy, TextBy, TextBelow, LineComes}
use Rattle.bean_load.specs.Gathering.{TextComes, Comes}
use Rattle.bean_load.specs.Include.{Include}
use Rattle.bean_load.specs.Texts.{File, Texts}
use Rattle.refusals.specs.declared.refusal.Refusal.{Refusal}
use Rattle.bean_load.specs.declared.cause.LoadCause.{LoadCause}
use Rattle.bean_load.specs.declared.cause.LoadCause.TheVariants.{Unreadable, NotUtf8, TooLarge}
use Rattle.bean_load.specs.declared.gathering.TheConstants.{DEEPEST}
use Rattle.bean_loaded.specs.declared.loaded.TheConstants.{LARGEST_LEDGER}
use Rattle.bean_directives.specs.SmallPart.{most, IsShort}
use Rattle.bean_load.specs.Small.{AreLimited, bytes_in}
use Rattle.theory.proofs.AllFacts.{all_pushed}

-- The texts are short, and all bytes, with so many of a text that isn't there yet, were counted.
record HasRead (n : ℕ) (s : Gathered) : Type 0 where
  each : AllByRecursion (λ f. IsShort f.text) s.files
  read : bytes_in s.files + n ≤ s.read
  all : s.read ≤ LARGEST_LEDGER

abbrev HasShort : Gathered → Type 0
HasShort s = HasRead 0 s

abbrev EndsShort : Result Gathered (Refusal LoadCause) → Type 0
EndsShort (Ok s) = HasShort s
EndsShort (Err fault) = Unit {0}

-- of texts that are short it comes to no others
abbrev Stays : Step → Type 0
Stays step =
    (s : Gathered) (todo rest : List Reading) (result : Result Gathered (Refusal LoadCause)) → HasShort s
    → step s todo rest result → EndsShort result

ends : (end : Result Gathered (Refusal LoadCause)) (todo rest : List Reading)
    (result : Result Gathered (Refusal LoadCause)) → EndsShort end → Ends end todo rest result
    → EndsShort result
ends end todo rest result h e = subst EndsShort (sym e.1) h

second_false : (a b : Bool) → (a || b) ≡ false → b ≡ false
second_false true b e = absurd (cc)
second_false false b e = e

first_false : (a b : Bool) → (a || b) ≡ false → a ≡ false
first_false true b e = e
first_false false b e = refl

not_large : (s : Gathered) (bytes : List ℕ) → is_too_large (length bytes) s ≡ false → IsShort bytes
not_large s bytes h = ltb-false most (length bytes) (first_false (nat_lt most (length bytes)) _ h)

fits : (s : Gathered) (bytes : List ℕ) → is_too_large (length bytes) s ≡ false
    → s.read + length bytes ≤ LARGEST_LEDGER
fits s bytes h =
    ltb-false LARGEST_LEDGER (s.read + length bytes)
    (second_false _ (nat_lt LARGEST_LEDGER (s.read + length bytes)) h)

-- a text that is asked for is counted
counted : (s : Gathered) (name bytes : List ℕ) → is_too_large (length bytes) s ≡ false → HasShort s
    → HasRead (length bytes) (with_bytes name bytes s)
counted s name bytes h short = record {
  each = short.each;
  read = let read = short.read in omega (arith, read);
  all = fits s bytes h;
}

less_read : (n : ℕ) (s : Gathered) → HasRead n s → HasShort s
less_read n s h = record {
  each = h.each;
  read = let read = h.read in omega (arith, read);
  all = h.all;
}

-- What an answer comes to.

abbrev Reads : Type 1
Reads = List ℕ → List Reading → List Reading → Result Gathered (Refusal LoadCause) → Type 0

bytes_end :
    (no_text : List ℕ → Result Gathered (Refusal LoadCause)) (Text : Reads) (s : Gathered) (bytes : List ℕ)
    (todo rest : List Reading) (result : Result Gathered (Refusal LoadCause))
    → (is_too_large (length bytes) s ≡ false → EndsShort (no_text bytes))
    → (is_too_large (length bytes) s ≡ false → Text bytes todo rest result → EndsShort result)
    → BytesCome no_text Text s bytes todo rest result → EndsShort result
bytes_end no_text Text s bytes todo rest result h go =
    by (is_too_large (length bytes) s) refl (is_utf8 bytes)
  where
    by : (b : Bool) → is_too_large (length bytes) s ≡ b → (u : Bool)
        → MatchBool b (Ends (Err (Refused TooLarge)) todo rest result)
        (MatchBool u (Text bytes todo rest result) (Ends (no_text bytes) todo rest result))
        → EndsShort result
    by true is u e = ends (Err (Refused TooLarge)) todo rest result tt e
    by false is true t = go is t
    by false is false e = ends (no_text bytes) todo rest result (h is) e

answer_end :
    (unread : Result Gathered (Refusal LoadCause)) (no_text : List ℕ → Result Gathered (Refusal LoadCause))
    (Text : Reads) (s : Gathered) (answer : Result (List ℕ) SourceFault) (todo rest : List Reading)
    (result : Result Gathered (Refusal LoadCause)) → EndsShort unread
    → ((bytes : List ℕ) → is_too_large (length bytes) s ≡ false → EndsShort (no_text bytes))
    → ((bytes : List ℕ) → is_too_large (length bytes) s ≡ false → Text bytes todo rest result
    → EndsShort result)
    → AnswerComes unread no_text Text s answer todo rest result → EndsShort result
answer_end unread no_text Text s (Ok bytes) todo rest result h k go c =
    bytes_end no_text Text s bytes todo rest result (k bytes) (go bytes) c
answer_end unread no_text Text s (Err source.Failed) todo rest result h k go c =
    ends unread todo rest result h c
answer_end unread no_text Text s (Err source.OutOfMemory) todo rest result h k go c = absurd c

-- What a line, some lines and a text come to.

abbrev TextStays : (List ℕ → List ℕ → Step) → Type 0
TextStays Text =
    (name bytes : List ℕ) (s : Gathered) (todo rest : List Reading)
    (result : Result Gathered (Refusal LoadCause)) → IsShort bytes → HasRead (length bytes) s
    → Text name bytes s todo rest result → EndsShort result

gone_short : (file line : ℕ) (end : Result Gathered (Refusal LoadCause)) → EndsShort end
    → EndsShort (gone_on file line end)
gone_short file line (Ok s) h = record { each = h.each; read = h.read; all = h.all }
gone_short file line (Err fault) h = tt

line_stays : (Text : List ℕ → List ℕ → Step) (room file : ℕ) (line : Include) → TextStays Text
    → Stays (LineBy Text room file line)
line_stays Text room file line h s todo rest result short =
    by (was_asked line.name s) (is_full room s)
  where
    stands : (left : List Reading) (bytes : List ℕ) → is_too_large (length bytes) s ≡ false
        → Stands Text file line bytes (with_bytes line.name bytes s) left rest result
        → EndsShort result
    stands left bytes b p =
        subst EndsShort (sym p.2)
        (gone_short file line.line p.0
        (h line.name bytes (with_bytes line.name bytes s) left rest p.0 (not_large s bytes b)
        (counted s line.name bytes b short) p.1))

    same : (t : Gathered) → t.files ≡ s.files → t.read ≡ s.read → HasShort t
    same t f r = record {
      each = subst (AllByRecursion (λ f. IsShort f.text)) (sym f) short.each;
      read = subst (λ fs. bytes_in fs + 0 ≤ t.read) (sym f)
          (subst (λ n. bytes_in s.files + 0 ≤ n) (sym r) short.read);
      all = subst (λ n. n ≤ LARGEST_LEDGER) (sym r) short.all;
    }

    unread : (bytes : List ℕ) → is_too_large (length bytes) s ≡ false
        → HasShort (with_fault file line.line (with_bytes line.name bytes s))
    unread bytes b =
        let known =
        less_read (length bytes) (with_bytes line.name bytes s) (counted s line.name bytes b short) in
        record { each = known.each; read = known.read; all = known.all }

    by : (a f : Bool)
        → MatchBool a (Ends (Ok (with_fault file line.line s)) todo rest result)
        (MatchBool f (Ends (Err (Refused TooLarge)) todo rest result)
        (AsksFor line.name todo (λ answer left. AnswerComes
        (Ok (with_fault file line.line (with_asked line.name s)))
        (λ bytes. Ok (with_fault file line.line (with_bytes line.name bytes s)))
        (λ bytes. Stands Text file line bytes (with_bytes line.name bytes s)) s answer left rest
        result)))
        → EndsShort result
    by true f e =
        ends (Ok (with_fault file line.line s)) todo rest result
        (same (with_fault file line.line s) refl refl) e
    by false true e = ends (Err (Refused TooLarge)) todo rest result tt e
    by false false p =
        answer_end (Ok (with_fault file line.line (with_asked line.name s)))
        (λ bytes. Ok (with_fault file line.line (with_bytes line.name bytes s)))
        (λ bytes. Stands Text file line bytes (with_bytes line.name bytes s)) s p.0 p.1 rest result
        (same (with_fault file line.line (with_asked line.name s)) refl refl) unread (stands p.1)
        p.3

then_stays : (Next : Step) → Stays Next → (mid : Result Gathered (Refusal LoadCause))
    (left rest : List Reading) (result : Result Gathered (Refusal LoadCause)) → EndsShort mid
    → Then Next mid left rest result → EndsShort result
then_stays Next h (Ok s) left rest result short p = h s left rest result short p
then_stays Next h (Err fault) left rest result short p = ends (Err fault) left rest result tt p

lines_stay : (Line : Include → Step) → ((line : Include) → Stays (Line line))
    → (lines : List Include) → Stays (LinesBy Line lines)
lines_stay Line h [] s todo rest result short e = ends (Ok s) todo rest result short e
lines_stay Line h (line ∷ lines) s todo rest result short p =
    then_stays (LinesBy Line lines) (lines_stay Line h lines) p.0 p.1 rest result
    (h line s todo p.1 p.0 short p.2) p.3

bytes_pushed : (files : List File) (f : File)
    → bytes_in (files ++ f ∷ []) ≡ bytes_in files + length f.text
bytes_pushed [] f = omega arith
bytes_pushed (g ∷ files) f = let rest = bytes_pushed files f in omega (arith, rest)

text_stays : (Line : ℕ → Include → Step) → ((file : ℕ) (line : Include) → Stays (Line file line))
    → TextStays (TextBy Line)
text_stays Line h name bytes s todo rest result b short p =
    lines_stay (Line (length s.files)) (h (length s.files)) p.0 (with_file name bytes s) todo rest
    result
    record {
      each = all_pushed (λ f. IsShort f.text) s.files record { name = name; text = bytes } short.each
          b;
      read =
          let more = bytes_pushed s.files record { name = name; text = bytes } in
          let read = short.read in omega (arith, more, read);
      all = short.all;
    }
    p.2

below_stays : (room : ℕ) → TextStays (TextBelow room)
unfolding TextBelow
below_stays zero = λ name bytes s todo rest result b short p. absurd p
below_stays (suc room) =
    text_stays (LineBy (TextBelow room) room)
    (λ file line. line_stays (TextBelow room) room file line (below_stays room))

empty : HasShort nothing
empty = record { each = tt; read = omega arith; all = omega arith }

comes_short : (name : List ℕ) (readings : List Reading) (result : Result Gathered (Refusal LoadCause))
    → Comes name readings result → EndsShort result
comes_short name readings result p =
    answer_end (Err (Refused Unreadable)) (λ bytes. Err (Refused NotUtf8))
    (λ bytes todo rest end.
    TextComes DEEPEST name bytes (with_bytes name bytes nothing) todo rest end) nothing p.0 p.1 []
    result tt (λ bytes b. tt)
    (λ bytes b t.
    text_stays (LineComes DEEPEST)
    (λ file line.
    line_stays (TextBelow DEEPEST) DEEPEST file line (below_stays DEEPEST)) name bytes
    (with_bytes name bytes nothing) p.1 [] result (not_large nothing bytes b)
    (counted nothing name bytes b empty) t) p.3

texts_limited : (end : Result Gathered (Refusal LoadCause)) (texts : Texts) → EndsShort end
    → Ok texts ≡ texts_in end → AreLimited texts.files
texts_limited (Ok s) texts h e =
    let same : texts ≡ texts_of s = cc in
    subst (λ t. AreLimited t.files) (sym same)
    (record {
      each = h.each;
      all =
          let read = h.read in
          let all : s.read ≤ LARGEST_LEDGER = h.all in omega (arith, read, all);
    })
texts_limited (Err fault) texts h e = absurd (cc)

pub gathered_limited : (name : List ℕ) (readings : List Reading) (texts : Texts)
    → IsGathered name readings (Ok texts) → AreLimited texts.files
gathered_limited name readings texts h =
    texts_limited h.0 texts (comes_short name readings h.0 h.1) h.2
