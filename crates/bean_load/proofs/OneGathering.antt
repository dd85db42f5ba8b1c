-- What the source answers decides which texts a ledger has.
use Rattle.std.proofs.Common.{◌≡◌, ℕ, zero, suc, Bool, true, false, List, [], ◌∷◌, length, Result}
use Rattle.std.proofs.Common.{Ok, Err, map, sym, ap, ◌∙◌, subst}
use Rattle.std.specs.Bool.{MatchBool}
use Rattle.std.specs.Str.{is_utf8}
use Rattle.stores.specs.Reading.{Reading}
use Rattle.stores.specs.declared.source.SourceFault.{SourceFault}
use Rattle.stores.specs.declared.source.SourceFault.TheVariants as source
use Rattle.refusals.specs.declared.refusal.Refusal.TheVariants.{Refused}
use Rattle.bean_load.specs.Following.{HasOneGathering, texts_in}
use Rattle.bean_load.specs.Gathered.{Gathered, is_full, is_too_large, nothing, was_asked}
use Rattle.bean_load.specs.Gathered.{with_asked, with_bytes, with_fault, with_file}
use Rattle.bean_load.specs.Gathering.{AnswerComes, AsksFor, Ends, LineBy, LinesBy, Stands, Step}
use Rattle.bean_load.specs.Gathering.{TextBelow, TextBy, TextComes, Then, gone_on}
use Rattle.bean_load.specs.Include.{AreIncludes, Include, include_of}
use Rattle.refusals.specs.declared.refusal.Refusal.{Refusal}
use Rattle.bean_load.specs.declared.cause.LoadCause.{LoadCause}
use Rattle.bean_load.specs.declared.cause.LoadCause.TheVariants.{TooLarge, Unreadable, NotUtf8}
use Rattle.bean_load.specs.declared.gathering.TheConstants.{DEEPEST}
use Rattle.bean_includes.proofs.IncludesFacts.{one_list_of_includes}

abbrev Are : List Reading → List Reading → Result Gathered (Refusal LoadCause) → Result Gathered (Refusal LoadCause)
    → Type 0
Are rest others result other = (rest ≡ others) × (result ≡ other)

abbrev IsOne : (List Reading → List Reading → Result Gathered (Refusal LoadCause) → Type 0) → Type 0
IsOne Come = (todo rest others : List Reading) (result other : Result Gathered (Refusal LoadCause))
    → Come todo rest result → Come todo others other → Are rest others result other

one_end : (end : Result Gathered (Refusal LoadCause)) → IsOne (Ends end)
one_end end todo rest others result other h k = (sym h.0 ∙ k.0, h.1 ∙ sym k.1)

one_bool : (b : Bool) (P Q P' Q' R : Type 0) → (P → P' → R) → (Q → Q' → R) → MatchBool b P Q
    → MatchBool b P' Q' → R
one_bool true P Q P' Q' R f g h k = f h k
one_bool false P Q P' Q' R f g h k = g h k

answer_in : List Reading → Result (List ℕ) SourceFault
answer_in [] = Err source.Failed
answer_in (reading ∷ rest) = reading.1

behind_in : List Reading → List Reading
behind_in [] = []
behind_in (reading ∷ rest) = rest

one_asked :
    (name : List ℕ) (todo : List Reading) (N M : Result (List ℕ) SourceFault → List Reading
    → Type 0) (R : Type 0)
    → ((answer : Result (List ℕ) SourceFault) (left : List Reading) → N answer left → M answer left
    → R) → AsksFor name todo N → AsksFor name todo M → R
unfolding answer_in behind_in
one_asked name todo N M R f h k =
    let same : k.0 ≡ h.0 = ap answer_in (sym k.2 ∙ h.2) in
    let more : k.1 ≡ h.1 = ap behind_in (sym k.2 ∙ h.2) in
    f h.0 h.1 h.3 (subst (λ left. M h.0 left) more (subst (λ answer. M answer k.1) same k.3))

one_answer : (unread : Result Gathered (Refusal LoadCause)) (no_text : List ℕ → Result Gathered (Refusal LoadCause))
    (Text : List ℕ → List Reading → List Reading → Result Gathered (Refusal LoadCause)
    → Type 0) (s : Gathered) → ((bytes : List ℕ) → IsOne (Text bytes))
    → (answer : Result (List ℕ) SourceFault) → IsOne (AnswerComes unread no_text Text s answer)
one_answer unread no_text Text s one (Ok bytes) todo rest others result other h k =
    one_bool (is_too_large (length bytes) s) _ _ _ _ (Are rest others result other)
    (one_end (Err (Refused TooLarge)) todo rest others result other)
    (one_bool (is_utf8 bytes) _ _ _ _ (Are rest others result other)
    (one bytes todo rest others result other)
    (one_end (no_text bytes) todo rest others result other)) h k
one_answer unread no_text Text s one (Err source.Failed) todo rest others result other h k =
    one_end unread todo rest others result other h k
one_answer unread no_text Text s one (Err source.OutOfMemory) todo rest others result other h k =
    absurd h

abbrev AreOne : (List ℕ → List ℕ → Step) → Type 0
AreOne Text = (name bytes : List ℕ) (s : Gathered) → IsOne (Text name bytes s)

one_line : (Text : List ℕ → List ℕ → Step) → AreOne Text
    → (room file : ℕ) (line : Include) (s : Gathered) → IsOne (LineBy Text room file line s)
one_line Text one room file line s todo rest others result other h k =
    one_bool (was_asked line.name s) _ _ _ _ (Are rest others result other)
    (one_end (Ok (with_fault file line.line s)) todo rest others result other)
    (one_bool (is_full room s) _ _ _ _ (Are rest others result other)
    (one_end (Err (Refused TooLarge)) todo rest others result other)
    (one_asked line.name todo _ _ (Are rest others result other) (λ answer left.
    one_answer (Ok (with_fault file line.line (with_asked line.name s)))
    (λ bytes. Ok (with_fault file line.line (with_bytes line.name bytes s)))
    (λ bytes. Stands Text file line bytes (with_bytes line.name bytes s)) s stands answer left rest
    others result other))) h k
  where
    stands : (bytes : List ℕ) → IsOne (Stands Text file line bytes (with_bytes line.name bytes s))
    stands bytes todo rest others result other h k =
        let same =
        one line.name bytes (with_bytes line.name bytes s) todo rest others h.0 k.0 h.1 k.1 in
        (same.0, h.2 ∙ ap (gone_on file line.line) same.1 ∙ sym k.2)

one_then : (Next : Step) → ((s : Gathered) → IsOne (Next s)) → (mid : Result Gathered (Refusal LoadCause))
    → IsOne (Then Next mid)
one_then Next one (Ok s) todo rest others result other h k = one s todo rest others result other h k
one_then Next one (Err fault) todo rest others result other h k =
    one_end (Err fault) todo rest others result other h k

one_lines : (Line : Include → Step) → ((line : Include) (s : Gathered) → IsOne (Line line s))
    → (lines : List Include) (s : Gathered) → IsOne (LinesBy Line lines s)
one_lines Line one [] s todo rest others result other h k =
    one_end (Ok s) todo rest others result other h k
one_lines Line one (line ∷ lines) s todo rest others result other h k =
    let same = one line s todo k.1 h.1 k.0 h.0 k.2 h.2 in
    one_then (LinesBy Line lines) (one_lines Line one lines) h.0 h.1 rest others result other h.3
    (subst (λ mid. Then (LinesBy Line lines) mid h.1 others other) same.1
    (subst (λ left. Then (LinesBy Line lines) k.0 left others other) same.0 k.3))

one_includes : (name bytes : List ℕ) (xs ys : List Include) → AreIncludes name bytes xs
    → AreIncludes name bytes ys → xs ≡ ys
one_includes name bytes xs ys h k =
    h.2 ∙ ap (map (include_of name)) (one_list_of_includes bytes h.0 k.0 h.1 k.1) ∙ sym k.2

one_text : (Line : ℕ → Include → Step)
    → ((file : ℕ) (line : Include) (s : Gathered) → IsOne (Line file line s)) → AreOne (TextBy Line)
one_text Line one name bytes s todo rest others result other h k =
    let same = one_includes name bytes k.0 h.0 k.1 h.1 in
    one_lines (Line (length s.files)) (one (length s.files)) h.0 (with_file name bytes s) todo rest
    others result other h.2
    (subst (λ lines. LinesBy (Line (length s.files)) lines (with_file name bytes s) todo others
    other) same k.2)

one_below : (room : ℕ) → AreOne (TextBelow room)
unfolding TextBelow
one_below zero name bytes s todo rest others result other h k = absurd h
one_below (suc room) name bytes s todo rest others result other h k =
    one_text (LineBy (TextBelow room) room) (one_line (TextBelow room) (one_below room) room) name
    bytes s todo rest others result other h k

one_top : (room : ℕ) → AreOne (TextComes room)
one_top room =
    one_text (LineBy (TextBelow room) room) (one_line (TextBelow room) (one_below room) room)

pub one_gathering : HasOneGathering
one_gathering name readings a b h k =
    let same = one_asked name readings _ _ (Are [] [] h.0 k.0) (λ answer left.
    one_answer (Err (Refused Unreadable)) (λ bytes. Err (Refused NotUtf8))
    (λ bytes todo rest end.
    TextComes DEEPEST name bytes (with_bytes name bytes nothing) todo rest end) nothing
    (λ bytes. one_top DEEPEST name bytes (with_bytes name bytes nothing)) answer left [] [] h.0 k.0)
    h.1 k.1 in
    h.2 ∙ ap texts_in same.1 ∙ sym k.2
