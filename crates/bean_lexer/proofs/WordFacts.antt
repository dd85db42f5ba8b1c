-- Words and signs at the front.
use Rattle.std.proofs.Common.{◌≡◌, ◌≢◌, ℕ, ◌+◌, ◌-◌, ◌<◌, ◌≤◌, ◌&&◌, cond, if◌then◌else◌, Bool}
use Rattle.std.proofs.Common.{true, false, nat_eq, nat_lt, List, [], ◌∷◌, ◌++◌, Some, None, length}
use Rattle.std.proofs.Common.{get_or, take, drop, arith, sym, ap, subst, ◌∙◌, refl, length-take}
use Rattle.std.proofs.Common.{length-take-le, IsUtf8, ⊎_elim, lit<, Option}
use Rattle.std.proofs.str.Laws.{order}
use Rattle.std.proofs.lemmas.Bool.Decides.{nat_tests}
use Rattle.std.proofs.lemmas.Slice.Eq.{bytes_eq-Decides}
use Rattle.std.proofs.lemmas.List.{take-append-drop, get_or-take}
use Rattle.std.proofs.lemmas.List.Folds.{list_all_at}
use Rattle.std.proofs.lemmas.Str.{IsCharBoundary-after_ascii}
use Rattle.std.specs.List.{list_all, find, starts_with, prefix_len}
use Rattle.std.specs.Char.{is_ascii_lowercase, is_ascii_uppercase}
use Rattle.std.specs.Str.{bytes_eq, IsCharBoundary}
use Rattle.bean_lexer.specs.TokenForm.{keyword_spelling, sign_spelling, is_in_key}
use Rattle.bean_lexer.specs.Lookahead.{begins_other, sign_of, doubled_sign_of, doubled_sign_at}
use Rattle.bean_lexer.specs.Lookahead.{keyword_at, has_colon}
use Rattle.bean_lexer.specs.Tokens.{NoneOf, NoneLonger, IsLongestToken, IsFaultToken, fault_len}
use Rattle.bean_lexer.specs.Tokens.{goes_on_character, text_reach}
use Rattle.bean_lexer.specs.declared.kind.TheConstants.{WORDS}
use Rattle.bean_lexer.specs.declared.kind.Kind.TheVariants as kinds
use Rattle.bean_lexer.specs.declared.kind.Keyword.{Keyword}
use Rattle.bean_lexer.specs.declared.kind.Keyword.TheVariants as words
use Rattle.bean_lexer.specs.declared.kind.Sign.{Sign}
use Rattle.bean_lexer.specs.declared.kind.Sign.TheVariants as signs
use Rattle.bean_lexer.proofs.FirstByteFacts.{is_truth, head_of, head_is, none_of, at_small, at_hash}
use Rattle.bean_lexer.proofs.FirstByteFacts.{at_other, sign_head}
use Rattle.bean_lexer.proofs.NameFacts.{within_key, no_key, key_front}

pub not_both : (t : Bool) → (t ≡ true → ⊥) → t ≡ false
not_both true h = absurd (h refl)
not_both false h = refl

pub spelled : (xs cs : List ℕ) → bytes_eq xs cs ≡ true → xs ≡ cs
spelled xs cs h = (bytes_eq-Decides xs cs).0 h

pub spells : (xs cs : List ℕ) → xs ≡ cs → bytes_eq xs cs ≡ true
spells xs cs h = (bytes_eq-Decides xs cs).1 h

-- each word in small letters is found where it stands
which : (word : Keyword) (ys : List ℕ) → is_truth word ≡ false
    → keyword_at (keyword_spelling word ++ ys) ≡ Some word
which words.True ys h = absurd (cc)
which words.False ys h = absurd (cc)
which words.Open ys h = refl
which _ ys h = refl

found_by : (p : Keyword → Bool) (x : Keyword) (xs : List Keyword) (word : Keyword) (t : Bool)
    → p x ≡ t → (find p xs ≡ Some word → p word ≡ true) → cond t (Some x) (find p xs) ≡ Some word
    → p word ≡ true
found_by p x xs word true e rest h = let same : x ≡ word = cc in ap p (sym same) ∙ e
found_by p x xs word false e rest h = rest h

found_passes : (p : Keyword → Bool) (xs : List Keyword) (word : Keyword) → find p xs ≡ Some word
    → p word ≡ true
found_passes p [] word h = absurd (cc)
found_passes p (x ∷ xs) word h = found_by p x xs word (p x) refl (found_passes p xs word) h

in_key : (word : Keyword) → list_all is_in_key (keyword_spelling word) ≡ true
in_key words.Open = refl
in_key _ = refl

truth_begins : (word : Keyword) (b : ℕ) → is_truth word ≡ true → is_ascii_lowercase b ≡ true
    → nat_eq b (head_of word) ≡ false
truth_begins word b t h =
    let u : is_ascii_uppercase (head_of word) ≡ true =
    ap (λ s. if s then is_ascii_uppercase (head_of word) else
    is_ascii_lowercase (head_of word)) (sym t) ∙ head_is word in
    grind (arith, nat_tests)

-- no word is longer than a key
pub no_word_past_key : (bs : List ℕ) (word : Keyword) (m : ℕ) → prefix_len is_in_key bs < m
    → m ≤ length bs → bytes_eq (take m bs) (keyword_spelling word) ≡ false
no_word_past_key bs word m past high =
    not_both (bytes_eq (take m bs) (keyword_spelling word)) (λ is.
    let w = within_key bs m high
    (ap (list_all is_in_key) (spelled (take m bs) (keyword_spelling word) is) ∙ in_key word) in
    absurd (omega arith))

pub key_token : (bs : List ℕ) (e : ℕ) → is_ascii_lowercase (get_or bs 0 0) ≡ true
    → e ≡ prefix_len is_in_key bs → e < length bs → get_or bs e 0 ≡ 58
    → IsLongestToken bs kinds.Key (e + 1)
key_token bs e small is inside colon =
    let key = key_front bs e small is inside colon in
    record {
      inside = key.inside;
      of_kind = key.of_form;
      longest =
          at_small bs (e + 1) small key.longest
          (λ word m low high. no_word_past_key bs word m (omega arith) high);
    }

word_found : (bs : List ℕ) (m : ℕ) (word : Keyword) → is_truth word ≡ false
    → bytes_eq (take m bs) (keyword_spelling word) ≡ true → keyword_at bs ≡ Some word
word_found bs m word small is =
    let e : bs ≡ keyword_spelling word ++ drop m bs =
    sym (take-append-drop m bs)
    ∙ ap (λ l. l ++ drop m bs) (spelled (take m bs) (keyword_spelling word) is) in
    ap keyword_at e ∙ which word (drop m bs) small

other_word_by : (bs : List ℕ) (word other : Keyword) (m : ℕ) (t : Bool) → is_truth other ≡ t
    → is_ascii_lowercase (get_or bs 0 0) ≡ true → keyword_at bs ≡ Some word
    → length (keyword_spelling word) < m → m ≤ length bs
    → bytes_eq (take m bs) (keyword_spelling other) ≡ false
other_word_by bs word other m true e small found low high =
    none_of (kinds.Keyword other) bs 0 (truth_begins other (get_or bs 0 0) e small) m (omega arith)
    high
other_word_by bs word other m false e small found low high =
    not_both (bytes_eq (take m bs) (keyword_spelling other)) (λ is.
    let again = word_found bs m other e is in
    let same : word ≡ other = cc in
    let l = length-take-le m bs high in
    let s = ap length (spelled (take m bs) (keyword_spelling other) is) in
    let t = ap (λ w. length (keyword_spelling w)) same in
    absurd (omega arith))

starts_inside : (bs cs : List ℕ) → starts_with nat_eq bs cs ≡ true
    → (length cs ≤ length bs) × (take (length cs) bs ≡ cs)
starts_inside bs cs h =
    let e = spelled cs (take (length cs) bs) h in
    let l = ap length e in
    let t = length-take (length cs) bs in
    (omega arith, sym e)

pub word_token : (bs : List ℕ) (word : Keyword) → is_ascii_lowercase (get_or bs 0 0) ≡ true
    → (prefix_len is_in_key bs < length bs → get_or bs (prefix_len is_in_key bs) 0 ≢ 58)
    → keyword_at bs ≡ Some word
    → IsLongestToken bs (kinds.Keyword word) (length (keyword_spelling word))
word_token bs word small key found =
    let starts =
    starts_inside bs (keyword_spelling word)
    (found_passes (λ w. starts_with nat_eq bs (keyword_spelling w)) WORDS word found) in
    record {
      inside = starts.0;
      of_kind = spells (take (length (keyword_spelling word)) bs) (keyword_spelling word) starts.1;
      longest =
          at_small bs (length (keyword_spelling word)) small
          (λ m low high. no_key bs m key (omega arith) high)
          (λ other m low high.
          other_word_by bs word other m (is_truth other) refl small found low high);
    }

no_word_by : (bs : List ℕ) (other : Keyword) (m : ℕ) (t : Bool) → is_truth other ≡ t
    → is_ascii_lowercase (get_or bs 0 0) ≡ true → keyword_at bs ≡ None → 0 < m → m ≤ length bs
    → bytes_eq (take m bs) (keyword_spelling other) ≡ false
no_word_by bs other m true e small none low high =
    none_of (kinds.Keyword other) bs 0 (truth_begins other (get_or bs 0 0) e small) m low high
no_word_by bs other m false e small none low high =
    not_both (bytes_eq (take m bs) (keyword_spelling other)) (λ is. let again =
    word_found bs m other e is in absurd (cc))

ascii_fault : (b : ℕ) (bs : List ℕ) → nat_eq b 34 ≡ false → nat_lt b 128 ≡ true
    → 1 ≡ fault_len (b ∷ bs)
ascii_fault b bs quote ascii =
    sym (ap (λ t. cond t (1 + text_reach false bs)
    (cond (nat_lt b 128) 1 (1 + prefix_len goes_on_character bs))) quote
    ∙ ap (λ t. cond t 1 (1 + prefix_len goes_on_character bs)) ascii)

pub ascii_reach : (bs : List ℕ) → 0 < length bs → nat_eq (get_or bs 0 0) 34 ≡ false
    → nat_lt (get_or bs 0 0) 128 ≡ true → 1 ≡ fault_len bs
ascii_reach [] some quote ascii = absurd (omega arith)
ascii_reach (b ∷ bs) some quote ascii = ascii_fault b bs quote ascii

pub word_fault : (bs : List ℕ) → 0 < length bs → is_ascii_lowercase (get_or bs 0 0) ≡ true
    → (prefix_len is_in_key bs < length bs → get_or bs (prefix_len is_in_key bs) 0 ≢ 58)
    → keyword_at bs ≡ None → IsFaultToken bs kinds.Fault 1
word_fault bs some small key none = record {
  is_fault = refl;
  none = at_small bs 0 small (λ m low high. no_key bs m key low high)
      (λ other m low high. no_word_by bs other m (is_truth other) refl small none low high);
  reach = ascii_reach bs some (grind (arith, nat_tests)) (grind (arith, nat_tests));
}

-- signs of one and of two bytes
sign_len : (sign : Sign) → length (sign_spelling sign) ≤ 2
sign_len signs.Star = omega arith
sign_len _ = omega arith

no_longer_sign : (sign : Sign) (bs : List ℕ) (m : ℕ) → 2 < m → m ≤ length bs
    → bytes_eq (take m bs) (sign_spelling sign) ≡ false
no_longer_sign sign bs m low high =
    not_both (bytes_eq (take m bs) (sign_spelling sign)) (λ is.
    let l = length-take-le m bs high in
    let s = ap length (spelled (take m bs) (sign_spelling sign) is) in
    let t = sign_len sign in
    absurd (omega arith))

two_bytes : (sign : Sign) (b c : ℕ) (bs : List ℕ) → doubled_sign_at (b ∷ c ∷ bs) ≡ None
    → bytes_eq (b ∷ c ∷ []) (sign_spelling sign) ≡ false
two_bytes signs.OpenBraces b c bs h = grind (arith, nat_tests)
two_bytes signs.CloseBraces b c bs h = grind (arith, nat_tests)
two_bytes signs.AtAt b c bs h = grind (arith, nat_tests)
two_bytes _ b c bs h = grind (arith, nat_tests)

no_second_sign : (sign : Sign) (bs : List ℕ) (m : ℕ) → doubled_sign_at bs ≡ None → m ≡ 2
    → m ≤ length bs → bytes_eq (take m bs) (sign_spelling sign) ≡ false
no_second_sign sign [] m h e high = absurd (omega arith)
no_second_sign sign (b ∷ []) m h e high = absurd (omega arith)
no_second_sign sign (b ∷ c ∷ bs) m h e high =
    ap (λ k. bytes_eq (take k (b ∷ c ∷ bs)) (sign_spelling sign)) e ∙ two_bytes sign b c bs h

pub no_long_sign : (sign : Sign) (bs : List ℕ) (m : ℕ) → doubled_sign_at bs ≡ None → 1 < m
    → m ≤ length bs → bytes_eq (take m bs) (sign_spelling sign) ≡ false
no_long_sign sign bs m h low high =
    ⊎_elim (λ two. no_second_sign sign bs m h (omega arith) high)
    (λ more. no_longer_sign sign bs m more high) (order m 3)

doubled_front : (bs : List ℕ) (sign : Sign) (b : ℕ) → 1 < length bs → get_or bs 0 0 ≡ b
    → get_or bs 1 0 ≡ b → sign_spelling sign ≡ b ∷ b ∷ [] → take 2 bs ≡ sign_spelling sign
doubled_front [] sign b h e f s = absurd (omega arith)
doubled_front (x ∷ []) sign b h e f s = absurd (omega arith)
doubled_front (x ∷ y ∷ bs) sign b h e f s = ap (λ k. k ∷ y ∷ []) e ∙ ap (λ k. b ∷ k ∷ []) f ∙ sym s

doubled_by : (a b : Bool) (bs : List ℕ) (sign : Sign) → nat_lt 1 (length bs) ≡ a
    → nat_eq (get_or bs 1 0) (get_or bs 0 0) ≡ b
    → cond (a && b) (doubled_sign_of (get_or bs 0 0)) None ≡ Some sign
    → (1 < length bs) × (get_or bs 1 0 ≡ get_or bs 0 0)
    × (doubled_sign_of (get_or bs 0 0) ≡ Some sign)
doubled_by true true bs sign e f h = (grind (arith, nat_tests), grind (arith, nat_tests), h)
doubled_by true false bs sign e f h = absurd (cc)
doubled_by false b bs sign e f h = absurd (cc)

doubled_spelling_by : (b : ℕ) (sign : Sign) (o c a : Bool) → nat_eq b 123 ≡ o → nat_eq b 125 ≡ c
    → nat_eq b 64 ≡ a
    → cond o (Some signs.OpenBraces)
    (cond c (Some signs.CloseBraces) (cond a (Some signs.AtAt) None)) ≡ Some sign
    → sign_spelling sign ≡ b ∷ b ∷ []
doubled_spelling_by b sign true c a e f g h =
    let same : signs.OpenBraces ≡ sign = cc in let byte : b ≡ 123 = grind (arith, nat_tests) in
    ap sign_spelling (sym same) ∙ ap (λ k. k ∷ k ∷ []) (sym byte)
doubled_spelling_by b sign false true a e f g h =
    let same : signs.CloseBraces ≡ sign = cc in let byte : b ≡ 125 = grind (arith, nat_tests) in
    ap sign_spelling (sym same) ∙ ap (λ k. k ∷ k ∷ []) (sym byte)
doubled_spelling_by b sign false false true e f g h =
    let same : signs.AtAt ≡ sign = cc in let byte : b ≡ 64 = grind (arith, nat_tests) in
    ap sign_spelling (sym same) ∙ ap (λ k. k ∷ k ∷ []) (sym byte)
doubled_spelling_by b sign false false false e f g h = absurd (cc)

doubled_spelling : (b : ℕ) (sign : Sign) → doubled_sign_of b ≡ Some sign
    → sign_spelling sign ≡ b ∷ b ∷ []
doubled_spelling b sign h = doubled_spelling_by b sign _ _ _ refl refl refl h

doubled_parts : (bs : List ℕ) (sign : Sign) → doubled_sign_at bs ≡ Some sign
    → (1 < length bs) × (get_or bs 1 0 ≡ get_or bs 0 0)
    × (doubled_sign_of (get_or bs 0 0) ≡ Some sign)
doubled_parts bs sign h =
    doubled_by (nat_lt 1 (length bs)) (nat_eq (get_or bs 1 0) (get_or bs 0 0)) bs sign refl refl h

none_if : (t : Bool) (s : Option Sign) → s ≡ None → cond t s None ≡ None
none_if true s h = h
none_if false s h = refl

-- two bytes are no sign where the first is none that can be doubled
pub not_doubled : (bs : List ℕ) (b : ℕ) → get_or bs 0 0 ≡ b → doubled_sign_of b ≡ None
    → doubled_sign_at bs ≡ None
not_doubled bs b first none = none_if _ _ (ap doubled_sign_of first ∙ none)

pub doubled_token : (bs : List ℕ) (sign : Sign) → begins_other (get_or bs 0 0) ≡ true
    → doubled_sign_at bs ≡ Some sign → IsLongestToken bs (kinds.Sign sign) 2
doubled_token bs sign other h =
    let parts = doubled_parts bs sign h in
    record {
      inside = omega (arith, parts.0);
      of_kind =
          spells (take 2 bs) (sign_spelling sign)
          (doubled_front bs sign (get_or bs 0 0) parts.0 refl parts.1
          (doubled_spelling (get_or bs 0 0) sign parts.2));
      longest = at_other bs 2 other (λ s m low high. no_longer_sign s bs m low high);
    }

single_front : (bs : List ℕ) (sign : Sign) → 0 < length bs → sign_spelling sign ≡ get_or bs 0 0 ∷ []
    → take 1 bs ≡ sign_spelling sign
single_front [] sign some s = absurd (omega arith)
single_front (b ∷ bs) sign some s = sym s

pub sign_token : (bs : List ℕ) (sign : Sign) → 0 < length bs → begins_other (get_or bs 0 0) ≡ true
    → doubled_sign_at bs ≡ None → sign_spelling sign ≡ get_or bs 0 0 ∷ []
    → IsLongestToken bs (kinds.Sign sign) 1
sign_token bs sign some other single h = record {
  inside = omega arith;
  of_kind = spells (take 1 bs) (sign_spelling sign) (single_front bs sign some h);
  longest = at_other bs 1 other (λ s m low high. no_long_sign s bs m single low high);
}

no_head : (sign : Sign) (b : ℕ) → sign_of b ≡ None → nat_eq b 35 ≡ false
    → nat_eq b (sign_head sign) ≡ false
no_head signs.Hash b h e = e
no_head signs.Star b h e = grind (arith, nat_tests)
no_head _ b h e = grind (arith, nat_tests)

pub no_sign_at : (bs : List ℕ) (n : ℕ) → begins_other (get_or bs 0 0) ≡ true
    → sign_of (get_or bs 0 0) ≡ None → NoneLonger bs n
no_sign_at bs n other h =
    at_other bs n other
    (λ s. none_of (kinds.Sign s) bs n (no_head s (get_or bs 0 0) h (grind (arith, nat_tests))))

character_reach_cons : (b : ℕ) (bs : List ℕ) → nat_eq b 34 ≡ false
    → cond (nat_lt b 128) 1 (1 + prefix_len goes_on_character bs) ≡ fault_len (b ∷ bs)
character_reach_cons b bs quote =
    sym (ap (λ t. cond t (1 + text_reach false bs)
    (cond (nat_lt b 128) 1 (1 + prefix_len goes_on_character bs))) quote)

pub character_fault : (bs : List ℕ) (n : ℕ) → 0 < length bs → begins_other (get_or bs 0 0) ≡ true
    → sign_of (get_or bs 0 0) ≡ None
    → n ≡ (if nat_lt (get_or bs 0 0) 128 then 1 else 1 + prefix_len goes_on_character (drop 1 bs))
    → IsFaultToken bs kinds.Fault n
character_fault [] n some other h is = absurd (omega arith)
character_fault (b ∷ bs) n some other h is = record {
  is_fault = refl;
  none = no_sign_at (b ∷ bs) 0 other h;
  reach = is ∙ character_reach_cons b bs (grind (arith, nat_tests));
}

-- the sign # alone
hash_front : (bs : List ℕ) → 0 < length bs → get_or bs 0 0 ≡ 35
    → take 1 bs ≡ sign_spelling signs.Hash
hash_front [] some h = absurd (omega arith)
hash_front (b ∷ bs) some h = ap (λ k. k ∷ []) h

no_doubled_hash : (bs : List ℕ) → get_or bs 0 0 ≡ 35 → doubled_sign_at bs ≡ None
no_doubled_hash bs h = grind (arith, nat_tests)

pub hash_token : (bs : List ℕ) → 0 < length bs → get_or bs 0 0 ≡ 35 → NoneOf kinds.Tag bs 1
    → IsLongestToken bs (kinds.Sign signs.Hash) 1
hash_token bs some hash tag = record {
  inside = omega arith;
  of_kind = spells (take 1 bs) (sign_spelling signs.Hash) (hash_front bs some hash);
  longest =
      at_hash bs 1 hash tag
      (λ s m low high. no_long_sign s bs m (no_doubled_hash bs hash) low high);
}

pub no_sign_past : (bs : List ℕ) (n : ℕ) → get_or bs 0 0 ≡ 35 → 1 < n → (s : Sign)
    → NoneOf (kinds.Sign s) bs n
no_sign_past bs n hash more s =
    λ m low high. no_long_sign s bs m (no_doubled_hash bs hash) (omega arith) high

-- behind the bytes of a key stands no colon
pub no_colon_at_end : (bs : List ℕ) → has_colon bs (prefix_len is_in_key bs) ≡ false
    → prefix_len is_in_key bs < length bs → get_or bs (prefix_len is_in_key bs) 0 ≢ 58
no_colon_at_end bs none low = λ colon.
    let t : has_colon bs (prefix_len is_in_key bs) ≡ true = grind (arith, nat_tests) in
    absurd (cc)

pub key_at : (bs : List ℕ) (e : ℕ) → is_ascii_lowercase (get_or bs 0 0) ≡ true
    → e ≡ 0 + prefix_len is_in_key (drop 0 bs) → has_colon bs e ≡ true
    → IsLongestToken bs kinds.Key (e + 1)
key_at bs e small is colon =
    let low : e < length bs = grind (arith, nat_tests) in
    let at : get_or bs e 0 ≡ 58 = grind (arith, nat_tests) in
    key_token bs e small (omega arith) low at

pub key_boundary : (bs : List ℕ) (e : ℕ) → has_colon bs e ≡ true → IsUtf8 bs
    → IsCharBoundary bs (e + 1)
key_boundary bs e colon utf8 =
    let low : e < length bs = grind (arith, nat_tests) in
    let at : get_or bs e 0 ≡ 58 = grind (arith, nat_tests) in
    IsCharBoundary-after_ascii bs e utf8 low (omega (arith, at))

word_some : (word : Keyword) → 0 < length (keyword_spelling word)
word_some words.Open = omega arith
word_some _ = omega arith

key_byte_ascii : (b : ℕ) → is_in_key b ≡ true → b < 128
key_byte_ascii b h = grind (arith, nat_tests)

byte_by : (xs : List ℕ) (k : ℕ) (t : Bool) → is_in_key (get_or xs k 0) ≡ t → k < length xs
    → list_all is_in_key xs ≡ true → get_or xs k 0 < 128
byte_by xs k true e h all = key_byte_ascii (get_or xs k 0) e
byte_by xs k false e h all = let n = list_all_at is_in_key xs k 0 h e in absurd (cc)

-- behind a word a character begins
pub word_boundary : (bs : List ℕ) (word : Keyword) → keyword_at bs ≡ Some word → IsUtf8 bs
    → IsCharBoundary bs (length (keyword_spelling word))
word_boundary bs word found utf8 =
    let n = length (keyword_spelling word) in
    let starts =
    starts_inside bs (keyword_spelling word)
    (found_passes (λ w. starts_with nat_eq bs (keyword_spelling w)) WORDS word found) in
    let some = word_some word in
    let e : n - 1 + 1 ≡ n = omega arith in
    let inside = starts.0 in
    let same : get_or bs (n - 1) 0 ≡ get_or (keyword_spelling word) (n - 1) 0 =
    sym (get_or-take n bs (n - 1) 0 (omega arith)) ∙ ap (λ l. get_or l (n - 1) 0) starts.1 in
    let ascii : get_or (keyword_spelling word) (n - 1) 0 < 128 =
    byte_by (keyword_spelling word) (n - 1)
    (is_in_key (get_or (keyword_spelling word) (n - 1) 0)) refl (omega arith) (in_key word) in
    subst (IsCharBoundary bs) e
    (IsCharBoundary-after_ascii bs (n - 1) utf8 (omega arith) (omega arith))

doubled_ascii : (b : ℕ) (sign : Sign) (o c a : Bool) → nat_eq b 123 ≡ o → nat_eq b 125 ≡ c
    → nat_eq b 64 ≡ a
    → cond o (Some signs.OpenBraces)
    (cond c (Some signs.CloseBraces) (cond a (Some signs.AtAt) None)) ≡ Some sign → b < 128
doubled_ascii b sign true c a e f g h = grind (arith, nat_tests)
doubled_ascii b sign false true a e f g h = grind (arith, nat_tests)
doubled_ascii b sign false false true e f g h = grind (arith, nat_tests)
doubled_ascii b sign false false false e f g h = absurd (cc)

sign_ascii : (sign : Sign) → sign_head sign < 128
sign_ascii signs.Star = lit< tt
sign_ascii _ = lit< tt

pub doubled_boundary : (bs : List ℕ) (sign : Sign) → doubled_sign_at bs ≡ Some sign → IsUtf8 bs
    → IsCharBoundary bs 2
doubled_boundary bs sign h utf8 =
    let parts = doubled_parts bs sign h in
    let low : 1 < length bs = parts.0 in
    let b : get_or bs 0 0 < 128 = doubled_ascii (get_or bs 0 0) sign _ _ _ refl refl refl parts.2 in
    IsCharBoundary-after_ascii bs 1 utf8 low (omega (arith, parts.1))

pub sign_boundary : (bs : List ℕ) (sign : Sign) → 0 < length bs
    → sign_spelling sign ≡ get_or bs 0 0 ∷ [] → IsUtf8 bs → IsCharBoundary bs 1
sign_boundary bs sign some h utf8 =
    let first : sign_head sign ≡ get_or bs 0 0 = ap (λ l. get_or l 0 0) h in
    let low = sign_ascii sign in
    IsCharBoundary-after_ascii bs 0 utf8 some (omega arith)
