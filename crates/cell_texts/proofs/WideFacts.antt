-- A text takes no more columns of a terminal than it has bytes.
use Rattle.std.proofs.Common.{◌≡◌, ℕ, ◌+◌, ◌≤◌, ◌<◌, Bool, true, false, cond, ◌==◌, nat_le, ◌&&◌, List, [], ◌∷◌, ◌++◌, Option, Some, None}
use Rattle.std.proofs.Common.{refl, sym, ap, ◌∙◌, arith, length, map, length-append, encode_utf8, chars}
use Rattle.std.specs.Char.{len_utf8, is_control}
use Rattle.std.specs.List.{flat_map}
use Rattle.std.specs.Str.{IsUtf8}
use Rattle.std.proofs.lemmas.Bool.Decides.{nat_tests}
use Rattle.std.proofs.Math.Utf8.{scalar, scalars, encodes}
use Rattle.std.proofs.lemmas.Str.{chars-encodes, encodes-chars, length-encode, scalars-chars}
use Rattle.std.proofs.lemmas.Bool.{and_parts}
use Rattle.ucd_bidi.specs.JoiningType.{joining_type, joining_type_eq}
use Rattle.ucd_bidi.specs.declared.JoiningType.TheVariants.{Transparent}
use Rattle.unicode_width.specs.declared.kind.Kind.{Kind}
use Rattle.unicode_width.specs.declared.kind.Kind.TheVariants as kinds
use Rattle.unicode_width.specs.declared.state.After.{After}
use Rattle.unicode_width.specs.declared.state.After.TheVariants.{Nothing, LineFeed, EmojiModifier, RegionalIndicator, RegionalIndicators, Emoji, ZwjEmoji, KeycapZwjEmoji, IndicatorZwj, EvenIndicatorsZwj, OddIndicatorsZwj, TagEnd, TagDigit1, TagDigit2, TagDigit3, TagLetter1, TagLetter2, TagLetter3, TagLetter4, TagLetter5, TagLetter6, KiratE, KiratAi, Alef, Solidus, SolidusAlef, Lamed, ZwjLamed, Ya, ZwjYa, VowelZwjYa, Tifinagh, ZwjTifinagh, JoinerTifinagh, LisuTone, OrkhonI, ZwjOrkhonI, KhmerLetter}
use Rattle.unicode_width.specs.declared.state.State.{State}
use Rattle.unicode_width.specs.declared.state.Change.{Change}
use Rattle.unicode_width.specs.declared.state.Change.TheVariants.{Less, Same, One, Three}
use Rattle.unicode_width.specs.Kind.{kind, is_ligature_transparent, is_text_presentation_base}
use Rattle.cell_texts.specs.CellText.{clean_text, shown_character as shown}
use Rattle.cell_texts.specs.Width.{text_width}
use Rattle.unicode_width.specs.Width.{plain, single, of_kind, alone, before_alef, joins, Reading, added, joined_or, if_kept, is_lam, skips_marks, is_kept, is_line_feed, is_quote, is_quote_selector, is_plain, past_selectors, in_context, past_emoji, step, read_before, str_width}

-- how many bytes a character has: as many at least as its number asks for
record HasBytes (c n : ℕ) : Type 0 where
  pub one : 1 ≤ n
  pub two : 160 < c → 2 ≤ n
  pub three : 0x17D8 ≤ c → 3 ≤ n
  pub four : 0x1F1E6 ≤ c → 4 ≤ n

has_bytes : (c : ℕ) → HasBytes c (len_utf8 c)
has_bytes c = record {
  one = grind (arith, nat_tests);
  two = λ h. grind (arith, nat_tests);
  three = λ h. grind (arith, nat_tests);
  four = λ h. grind (arith, nat_tests);
}

-- what a selector, which takes no column itself, gives to the character before it
abbrev owed : State → ℕ
owed s = cond s.emoji 1 0

abbrev IsWithin : ℕ → Reading → Type 0
IsWithin n r = r.0 + owed r.1 ≤ n

within_either : (b : Bool) (n : ℕ) (r q : Reading) → IsWithin n r → IsWithin n q → IsWithin n (cond b r q)
within_either true n r q first second = first
within_either false n r q first second = second

single_within : (c n : ℕ) → 2 ≤ n → HasBytes c n → IsWithin n (single false c)
single_within c n two has = grind (arith, nat_tests, has.three)

kind_within : (c n : ℕ) (k : Kind) → 2 ≤ n → HasBytes c n → IsWithin n (of_kind false c k)
kind_within c n kinds.Zero two has = omega (arith, two)
kind_within c n kinds.Narrow two has = omega (arith, two)
kind_within c n kinds.Wide two has = omega (arith, two)
kind_within c n kinds.Ambiguous two has = omega (arith, two)
kind_within c n kinds.Alef two has = omega (arith, two)
kind_within c n kinds.KhmerLetter two has = omega (arith, two)
kind_within c n kinds.TifinaghConsonant two has = omega (arith, two)
kind_within c n kinds.LisuTone two has = omega (arith, two)
kind_within c n kinds.RegionalIndicator two has = omega (arith, two)
kind_within c n kinds.EmojiModifier two has = omega (arith, two)
kind_within c n kinds.Emoji two has = omega (arith, two)
kind_within c n kinds.Single two has = single_within c n two has

alone_within : (c n : ℕ) → 2 ≤ n → HasBytes c n → IsWithin n (alone false c)
unfolding alone
alone_within c n two has = kind_within c n (kind c) two has

-- what a join adds
abbrev IsSmall : ℕ → Option (Change × After) → Type 0
IsSmall n None = Unit {0}
IsSmall n (Some (Three, next)) = 3 ≤ n
IsSmall n (Some (_, next)) = Unit {0}

small_either : (b : Bool) (n : ℕ) (j k : Option (Change × After)) → IsSmall n j → IsSmall n k → IsSmall n (cond b j k)
small_either true n j k first second = first
small_either false n j k first second = second

flags_small : (c n : ℕ) → HasBytes c n → IsSmall n (joins false EvenIndicatorsZwj c)
unfolding joins
flags_small c n has = grind (arith, nat_tests, has.four)

alef_small : (n : ℕ) (b c : Bool) → IsSmall n (cond b (Some (Same, Nothing)) (cond c (Some (Same, Alef)) None))
alef_small n true c = tt
alef_small n false true = tt
alef_small n false false = tt

joins_small : (after : After) (c n : ℕ) → HasBytes c n → IsSmall n (joins false after c)
unfolding joins before_alef
joins_small Nothing c n has = grind arith
joins_small LineFeed c n has = grind arith
joins_small EmojiModifier c n has = grind arith
joins_small RegionalIndicator c n has = grind arith
joins_small RegionalIndicators c n has = grind arith
joins_small Emoji c n has = grind arith
joins_small ZwjEmoji c n has = grind arith
joins_small KeycapZwjEmoji c n has = grind arith
joins_small IndicatorZwj c n has = grind arith
joins_small EvenIndicatorsZwj c n has = flags_small c n has
joins_small OddIndicatorsZwj c n has = grind arith
joins_small TagEnd c n has = grind arith
joins_small TagDigit1 c n has = grind arith
joins_small TagDigit2 c n has = grind arith
joins_small TagDigit3 c n has = grind arith
joins_small TagLetter1 c n has = grind arith
joins_small TagLetter2 c n has = grind arith
joins_small TagLetter3 c n has = grind arith
joins_small TagLetter4 c n has = grind arith
joins_small TagLetter5 c n has = grind arith
joins_small TagLetter6 c n has = grind arith
joins_small KiratE c n has = grind arith
joins_small KiratAi c n has = grind arith
joins_small Alef c n has = alef_small n (is_lam c) (((alone false c).0 == 0) && joining_type_eq (joining_type c) Transparent)
joins_small Solidus c n has = grind arith
joins_small SolidusAlef c n has = grind arith
joins_small Lamed c n has = grind arith
joins_small ZwjLamed c n has = grind arith
joins_small Ya c n has = grind arith
joins_small ZwjYa c n has = grind arith
joins_small VowelZwjYa c n has = grind arith
joins_small Tifinagh c n has = grind arith
joins_small ZwjTifinagh c n has = grind arith
joins_small JoinerTifinagh c n has = grind arith
joins_small LisuTone c n has = grind arith
joins_small OrkhonI c n has = grind arith
joins_small ZwjOrkhonI c n has = grind arith
joins_small KhmerLetter c n has = grind arith

joined_within : (total n : ℕ) (j : Option (Change × After)) (own : ℕ × State) → 1 ≤ n → IsSmall n j
    → IsWithin n own → IsWithin (total + n) (joined_or total j own)
joined_within total n None own one small rest = omega (arith, rest)
joined_within total n (Some (Less, next)) own one small rest = omega arith
joined_within total n (Some (Same, next)) own one small rest = omega arith
joined_within total n (Some (One, next)) own one small rest = omega (arith, one)
joined_within total n (Some (Three, next)) own one small rest = omega (arith, small)

-- nothing is owed by what is kept of a state by which nothing is
kept_owes_none : (s : State) → s.emoji ≡ false → (if_kept s).emoji ≡ false
kept_owes_none s none = by (is_kept s.after)
  where
    by : (b : Bool) → (cond b s plain).emoji ≡ false
    by true = none
    by false = refl

past_selectors_within : (c total n : ℕ) (after : After) → 2 ≤ n → HasBytes c n
    → IsWithin (total + n) (past_selectors false c total after)
unfolding past_selectors
past_selectors_within c total n after two has =
    within_either (skips_marks after && (c == 0x200D)) (total + n) _ _ (omega arith)
    (within_either (skips_marks after && is_ligature_transparent c) (total + n) _ _ (omega arith)
    (joined_within total n (joins false after c) (alone false c) (omega (arith, two))
    (joins_small after c n has) (alone_within c n two has)))

in_context_within : (c total n : ℕ) (s : State) → s.emoji ≡ false → 2 ≤ n → HasBytes c n
    → IsWithin (total + n) (in_context false c total s)
unfolding in_context
in_context_within c total n s none two has =
    let keeps : owed (if_kept s) ≡ 0 = ap (λ b. cond b 1 0) (kept_owes_none s none) in
    within_either (c == 0xFE0F) (total + n) _ _ (omega (arith, two))
    (within_either (is_quote_selector false c) (total + n) _ _ (omega (arith, keeps, two))
    (within_either (c == 0xFE0E) (total + n) _ _ (omega (arith, keeps, two))
    (within_either (s.text && is_text_presentation_base c) (total + n) _ _ (omega (arith, two))
    (within_either (s.quote && is_quote c) (total + n) _ _ (omega (arith, two))
    (past_selectors_within c total n s.after two has)))))

past_emoji_within : (c total n : ℕ) (s : State) → s.emoji ≡ false → HasBytes c n
    → IsWithin (total + n) (past_emoji false c total s)
unfolding past_emoji
past_emoji_within c total n s none has =
    let one = has.one in
    within_either (c == 0x0A) (total + n) _ _ (omega (arith, one))
    (within_either ((c == 0x0D) && is_line_feed s.after) (total + n) _ _ (omega arith)
    (by (nat_le c 0xA0) refl))
  where
    by : (b : Bool) → nat_le c 0xA0 ≡ b
        → IsWithin (total + n) (cond b (total + 1, plain) (cond (is_plain s) (added total (alone false c)) (in_context false c total s)))
    by true h = omega (arith, has.one)
    by false h =
        let two : 2 ≤ n = has.two (let e : 160 < c = grind (arith, nat_tests, h) in e) in
        within_either (is_plain s) (total + n) _ _ (omega (arith, alone_within c n two has))
        (in_context_within c total n s none two has)

step_within : (c n total : ℕ) (s : State) → HasBytes c n
    → IsWithin (total + owed s + n) (step false c (total, s))
unfolding step
step_within c n total s has = by s.emoji refl
  where
    plainly : s.emoji ≡ false → IsWithin (total + owed s + n) (past_emoji false c total s)
    plainly none =
        let w = past_emoji_within c total n s none has in omega (arith, w)

    kept : s.emoji ≡ true → IsWithin (total + owed s + n) (past_emoji false c total (record (if_kept s) { emoji = false }))
    kept some =
        let w = past_emoji_within c total n (record (if_kept s) { emoji = false }) refl has in omega (arith, w)

    by : (b : Bool) → s.emoji ≡ b → IsWithin (total + owed s + n) (step false c (total, s))
    by false h = grind (arith, plainly h)
    by true h = grind (arith, kept h, has.one)

-- control characters are shown as a space, which has no more bytes
shown_bytes : (c : ℕ) → HasBytes (shown c) (len_utf8 c)
shown_bytes c = by (is_control c)
  where
    by : (b : Bool) → HasBytes (cond b 32 c) (len_utf8 c)
    by true = record {
      one = (has_bytes c).one;
      two = λ h. absurd (omega (arith, h));
      three = λ h. absurd (omega (arith, h));
      four = λ h. absurd (omega (arith, h));
    }
    by false = has_bytes c

read_within : (cs : List ℕ) → IsWithin (length (flat_map encode_utf8 cs)) (read_before false (map shown cs) (0, plain))
read_within [] = omega arith
read_within (c ∷ cs) =
    let r = read_before false (map shown cs) (0, plain) in
    let rest = read_within cs in
    let here = step_within (shown c) (len_utf8 c) r.0 r.1 (shown_bytes c) in
    omega (arith, rest, here, length-append (encode_utf8 c) (flat_map encode_utf8 cs), length-encode c)

scalars_shown : (cs : List ℕ) → scalars cs ≡ true → scalars (map shown cs) ≡ true
scalars_shown [] h = refl
scalars_shown (c ∷ cs) h =
    let parts = and_parts (scalar c) (scalars cs) h in
    λ k. by (is_control c) parts.0 k && scalars_shown cs parts.1 k
  where
    by : (b : Bool) → scalar c ≡ true → scalar (cond b 32 c) ≡ true
    by true own = refl
    by false own = own

encodes_flat : (cs : List ℕ) → encodes cs ≡ flat_map encode_utf8 cs
encodes_flat [] = refl
encodes_flat (c ∷ cs) = ap (λ l. encode_utf8 c ++ l) (encodes_flat cs)

encodes_shown : (cs : List ℕ) → encodes (map shown cs) ≡ flat_map (λ c. encode_utf8 (shown c)) cs
encodes_shown [] = refl
encodes_shown (c ∷ cs) = ap (λ l. encode_utf8 (shown c) ++ l) (encodes_shown cs)

-- it takes no more columns than it has bytes
pub clean_within : (bs : List ℕ) → IsUtf8 bs → text_width (clean_text bs) ≤ length bs
unfolding str_width
clean_within bs utf8 =
    let cs = chars bs in
    let spelt : flat_map encode_utf8 cs ≡ bs = sym (encodes_flat cs) ∙ encodes-chars bs utf8 in
    let seen : chars (clean_text bs) ≡ map shown cs =
    ap chars (sym (encodes_shown cs)) ∙ chars-encodes (map shown cs) (scalars_shown cs (scalars-chars bs utf8)) in
    let read = read_within cs in
    omega (arith, read, ap length spelt, ap (λ l. (read_before false l (0, plain)).0) seen)
