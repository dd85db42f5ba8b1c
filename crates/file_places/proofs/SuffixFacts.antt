-- The code of a program is the last thing in its file.
use Rattle.std.proofs.Common.{◌≡◌, ℕ, zero, suc, ◌+◌, ◌≤◌, List, [], ◌∷◌, ◌++◌, length, take, drop}
use Rattle.std.proofs.Common.{min, refl, sym, ap, ◌∙◌, subst, append_assoc, length-append, length-drop, arith, ◌-◌}
use Rattle.std.specs.Prelude.{codes}
use Rattle.std.proofs.lemmas.Grind.{common_steps}
use Rattle.query_code.specs.ByteForm.{Form, all_written, byte, counted}
use Rattle.query_code.specs.InstructionForm.{instruction, word}
use Rattle.query_code.specs.QueryFile.{IsFile, aggregate, bounds, code, constant, file, mode}
use Rattle.query_code.specs.QueryFile.{only, output, parts, section, version, versioned}
use Rattle.query_code.specs.declared.instruction.Instruction.{Instruction}
use Rattle.query_code.specs.declared.program.Code.{Code}
use Rattle.query_code.specs.declared.program.Mode.{Mode}
use Rattle.query_code.specs.declared.program.Parts.{Parts}
use Rattle.file_places.specs.Places.{IsPlace, from_filter, from_last, from_pool, from_row}

-- bytes end in these
pub record IsSuffix (bytes rest : List ℕ) : Type 0 where
  pub front : List ℕ
  pub is : bytes ≡ front ++ rest

behind : (a b rest : List ℕ) → IsSuffix b rest → IsSuffix (a ++ b) rest
behind a b rest s = record {
  front = a ++ s.front;
  is = ap (λ l. a ++ l) s.is ∙ sym (append_assoc a s.front rest);
}

then : (a b c : List ℕ) → IsSuffix a b → IsSuffix b c → IsSuffix a c
then a b c s t = record {
  front = s.front ++ t.front;
  is = s.is ∙ (ap (λ l. s.front ++ l) t.is ∙ sym (append_assoc s.front t.front c));
}

-- ---- rows of one form

module _ {A : Type 0} (a : Form A) where
  cut : (xs : List A) (n : ℕ)
      → all_written a xs ≡ all_written a (take n xs) ++ all_written a (drop n xs)
  cut xs zero = refl
  cut [] (suc n) = refl
  cut (x ∷ xs) (suc n) =
      ap (λ l. a.written x ++ l) (cut xs n)
      ∙ sym (append_assoc (a.written x) (all_written a (take n xs)) (all_written a (drop n xs)))

  behind_some : (xs : List A) (n : ℕ) (rest : List ℕ)
      → IsSuffix (all_written a xs ++ rest) (all_written a (drop n xs) ++ rest)
  behind_some xs n rest = record {
    front = all_written a (take n xs);
    is = ap (λ l. l ++ rest) (cut xs n)
        ∙ append_assoc (all_written a (take n xs)) (all_written a (drop n xs)) rest;
  }

-- ---- the file

-- with an empty front
whole : (bytes : List ℕ) → IsSuffix bytes bytes
whole bytes = record { front = []; is = refl }

sections_end : (m : Mode) (c : Code)
    → section.written c.filter ++ (section.written c.row ++ section.written c.last)
    ≡ word.written (length c.filter) ++ from_filter c 0
unfolding section
sections_end m c = simp append_assoc

code_ends : (m : Mode) (c : Code) → IsSuffix ((code m).written c) (from_pool c 0)
unfolding code section
code_ends m c =
    behind (byte.written c.keys) _ (from_pool c 0)
    (behind ((counted (only m byte) aggregate).written c.aggregates) _ (from_pool c 0)
    (subst (λ l. IsSuffix l (from_pool c 0)) (simp append_assoc)
    (behind (word.written (length c.pool)) (from_pool c 0) (from_pool c 0) (whole (from_pool c 0)))))

file_ends : (p : Parts) → IsSuffix (file.written p) (from_pool p.code 0)
unfolding file versioned parts
file_ends p =
    behind (codes "BQLC") _ (from_pool p.code 0)
    (behind (version.written p.bounds.schema) _ (from_pool p.code 0)
    (behind ((bounds p.bounds.schema).written p.bounds) _ (from_pool p.code 0)
    (behind (mode.written p.mode) _ (from_pool p.code 0)
    (behind (output.written p.output) _ (from_pool p.code 0) (code_ends p.mode p.code)))))

-- ---- parts of the code

in_pool : (c : Code) (n : ℕ) → IsSuffix (from_pool c 0) (from_pool c n)
in_pool c n = behind_some constant c.pool n (word.written (length c.filter) ++ from_filter c 0)

filter_in_pool : (c : Code) → IsSuffix (from_pool c 0) (from_filter c 0)
filter_in_pool c =
    behind (all_written constant c.pool) (word.written (length c.filter) ++ from_filter c 0)
    (from_filter c 0)
    (behind (word.written (length c.filter)) (from_filter c 0) (from_filter c 0)
    (whole (from_filter c 0)))

in_filter : (c : Code) (n : ℕ) → IsSuffix (from_filter c 0) (from_filter c n)
in_filter c n = behind_some instruction c.filter n (word.written (length c.row) ++ from_row c 0)

row_in_filter : (c : Code) → IsSuffix (from_filter c 0) (from_row c 0)
row_in_filter c =
    behind (all_written instruction c.filter) (word.written (length c.row) ++ from_row c 0)
    (from_row c 0)
    (behind (word.written (length c.row)) (from_row c 0) (from_row c 0) (whole (from_row c 0)))

in_row : (c : Code) (n : ℕ) → IsSuffix (from_row c 0) (from_row c n)
in_row c n = behind_some instruction c.row n (word.written (length c.last) ++ from_last c 0)

last_in_row : (c : Code) → IsSuffix (from_row c 0) (from_last c 0)
last_in_row c =
    behind (all_written instruction c.row) (word.written (length c.last) ++ from_last c 0)
    (from_last c 0)
    (behind (word.written (length c.last)) (from_last c 0) (from_last c 0) (whole (from_last c 0)))

in_last : (c : Code) (n : ℕ) → IsSuffix (from_last c 0) (from_last c n)
in_last c n = record { front = all_written instruction (take n c.last); is = cut instruction c.last n }

-- ---- in the bytes of a file

module _ (bytes : List ℕ) (p : Parts) (is : IsFile bytes p) where
  pub pool_ends : (n : ℕ) → IsSuffix bytes (from_pool p.code n)
  pool_ends n =
      then bytes (from_pool p.code 0) (from_pool p.code n)
      (subst (λ l. IsSuffix l (from_pool p.code 0)) (sym is.written) (file_ends p))
      (in_pool p.code n)

  filter_begins : IsSuffix bytes (from_filter p.code 0)
  filter_begins =
      then bytes (from_pool p.code 0) (from_filter p.code 0) (pool_ends 0) (filter_in_pool p.code)

  pub filter_ends : (n : ℕ) → IsSuffix bytes (from_filter p.code n)
  filter_ends n =
      then bytes (from_filter p.code 0) (from_filter p.code n) filter_begins (in_filter p.code n)

  row_begins : IsSuffix bytes (from_row p.code 0)
  row_begins =
      then bytes (from_filter p.code 0) (from_row p.code 0) filter_begins (row_in_filter p.code)

  pub row_ends : (n : ℕ) → IsSuffix bytes (from_row p.code n)
  row_ends n = then bytes (from_row p.code 0) (from_row p.code n) row_begins (in_row p.code n)

  pub last_ends : (n : ℕ) → IsSuffix bytes (from_last p.code n)
  last_ends n =
      then bytes (from_last p.code 0) (from_last p.code n)
      (then bytes (from_row p.code 0) (from_last p.code 0) row_begins (last_in_row p.code))
      (in_last p.code n)

-- ---- lengths

abbrev pub code_bytes : List Instruction → ℕ
code_bytes steps = length (all_written instruction steps)

counted_length : (a : List ℕ) (n : ℕ) (rest : List ℕ)
    → length (a ++ (word.written n ++ rest)) ≡ length a + (2 + length rest)
counted_length a n rest =
    let both = length-append a (word.written n ++ rest) in omega (arith, both)

pub row_length : (c : Code) (n : ℕ)
    → length (from_row c n) ≡ code_bytes (drop n c.row) + (2 + length (from_last c 0))
row_length c n =
    counted_length (all_written instruction (drop n c.row)) (length c.last) (from_last c 0)

pub filter_length : (c : Code) (n : ℕ)
    → length (from_filter c n) ≡ code_bytes (drop n c.filter) + (2 + length (from_row c 0))
filter_length c n =
    counted_length (all_written instruction (drop n c.filter)) (length c.row) (from_row c 0)

pub pool_length : (c : Code) (n : ℕ)
    → length (from_pool c n)
    ≡ length (all_written constant (drop n c.pool)) + (2 + length (from_filter c 0))
pool_length c n =
    counted_length (all_written constant (drop n c.pool)) (length c.filter) (from_filter c 0)

-- ---- places

pub shorter : (bytes rest : List ℕ) → IsSuffix bytes rest → length rest ≤ length bytes
shorter bytes rest s =
    let both = ap length s.is ∙ length-append s.front rest in omega (arith, both)

drop_front : (front rest : List ℕ) → drop (length front) (front ++ rest) ≡ rest
drop_front [] rest = refl
drop_front (b ∷ front) rest = drop_front front rest

pub is_place : (bytes rest : List ℕ) (place : ℕ) → IsSuffix bytes rest
    → place + length rest ≡ length bytes → IsPlace bytes rest place
is_place bytes rest place s e =
    let both = ap length s.is ∙ length-append s.front rest in
    let same : length s.front ≡ place = omega (arith, both, e) in
    record {
      within = omega (arith, e);
      rest_is = ap (drop place) s.is
          ∙ subst (λ k. drop k (s.front ++ rest) ≡ rest) same (drop_front s.front rest);
    }

pub drop_within : {A : Type 0} (xs : List A) (n : ℕ) → drop (min n (length xs)) xs ≡ drop n xs
drop_within [] n = grind (arith, common_steps)
drop_within (x ∷ xs) zero = let none : min 0 (suc (length xs)) ≡ 0 = omega arith in rw none refl
drop_within (x ∷ xs) (suc n) =
    let less : min (suc n) (suc (length xs)) ≡ suc (min n (length xs)) = omega arith in
    rw less (drop_within xs n)

-- ---- from what stands behind

place_length : (bytes rest : List ℕ) (place : ℕ) → IsPlace bytes rest place
    → place + length rest ≡ length bytes
place_length bytes rest place is =
    let within = is.within in
    let same = sym (ap length is.rest_is) ∙ length-drop place bytes in
    omega (arith, within, same)

module _ (bytes rest behind_rest : List ℕ) (len place : ℕ) (ends : IsSuffix bytes rest)
    (long : length rest ≡ len + (2 + length behind_rest)) (is : IsPlace bytes behind_rest place)
  where
    pub has_room : len + 2 ≤ place
    has_room =
        let most = shorter bytes rest ends in
        let all = place_length bytes behind_rest place is in
        omega (arith, most, all, long)

    pub place_before : IsPlace bytes rest (place - 2 - len)
    place_before =
        let room = has_room in
        let all = place_length bytes behind_rest place is in
        is_place bytes rest (place - 2 - len) ends (omega (arith, room, all, long))

-- what is left of a list behind its first n items, as code takes it
pub left_behind : {A : Type 0} (xs all back : List A) (n mid : ℕ) → all ≡ xs → back ≡ drop mid all
    → mid ≡ min n (length all) → back ≡ drop n xs
left_behind xs all back n mid same is at =
    is ∙ (ap (λ k. drop k all) at ∙ (drop_within all n ∙ ap (drop n) same))
