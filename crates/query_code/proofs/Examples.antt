-- What some bytes are, computed.
use Rattle.std.proofs.Common.{◌≡◌, ℕ, List, [], ◌∷◌, ◌++◌, Ok, Err, codes, refl}
use Rattle.std.specs.Str.{is_utf8, chars}
use Rattle.query_code.specs.declared.cause.FileCauseKind.TheVariants.{Magic, Version, Truncated}
use Rattle.query_code.specs.declared.cause.FileCauseKind.TheVariants.{TrailingBytes, BadField, NotUtf8}
use Rattle.query_code.proofs.WorkedProgram.{counted}
use Rattle.query_code.specs.ByteForm.{read_all}
use Rattle.query_code.specs.InstructionForm.{instruction, operand_cases, word_cases}
use Rattle.query_code.specs.QueryFile.{whole, decoded, parts, bounds, flag, limit, mode, output}
use Rattle.query_code.specs.TextForm.{text}
use Rattle.query_code.specs.QueryFile.{columns, code, file, section, constant, aggregate, version, versioned}

-- up to the mode, with the bounds 1000000, 20 and 28
front : List ℕ
front = 66 ∷ 81 ∷ 76 ∷ 67 ∷ 0 ∷ 1 ∷ 0 ∷ 15 ∷ 66 ∷ 64 ∷ 20 ∷ 28 ∷ []

-- SELECT count(*)
count_rows : List ℕ
count_rows =
    front
    ++ 1 ∷ 0 ∷ 0 ∷ 0 ∷ 1 ∷ 0 ∷ 8 ∷ codes "count(*)"
    ++ 0 ∷ 0 ∷ 0 ∷ 1 ∷ 0 ∷ 0 ∷ 0 ∷ 0 ∷ 1 ∷ 0 ∷ 0 ∷ 0 ∷ 0 ∷ 1 ∷ 7 ∷ 0 ∷ []

a_file : decoded count_rows ≡ Ok counted
unfolding front count_rows whole file versioned version parts bounds mode flag limit output columns text code
    aggregate section instruction operand_cases word_cases constant read_all is_utf8 chars
    lib.Utf8.encode
a_file = refl

not_a_file : decoded (65 ∷ 81 ∷ 76 ∷ 67 ∷ []) ≡ Err (record { kind = Magic; place = 0 })
unfolding whole file versioned version parts
not_a_file = refl

cut_magic : decoded (66 ∷ 88 ∷ []) ≡ Err (record { kind = Truncated; place = 2 })
unfolding whole file versioned version parts
cut_magic = refl

other_version :
    decoded (66 ∷ 81 ∷ 76 ∷ 67 ∷ 0 ∷ 3 ∷ []) ≡ Err (record { kind = Version; place = 4 })
unfolding whole file versioned version
other_version = refl

no_mode : decoded (front ++ 2 ∷ []) ≡ Err (record { kind = BadField; place = 12 })
unfolding front whole file versioned version parts bounds mode
no_mode = refl

no_text :
    decoded (front ++ 0 ∷ 0 ∷ 0 ∷ 0 ∷ 1 ∷ 0 ∷ 2 ∷ 255 ∷ 65 ∷ [])
    ≡ Err (record { kind = NotUtf8; place = 19 })
unfolding front whole file versioned version parts bounds mode flag limit output columns text read_all is_utf8 chars
    lib.Utf8.encode
no_text = refl

one_byte_more : decoded (count_rows ++ 7 ∷ []) ≡ Err (record { kind = TrailingBytes; place = 43 })
unfolding front count_rows whole file versioned version parts bounds mode flag limit output columns text code
    aggregate section instruction operand_cases word_cases constant read_all is_utf8 chars
    lib.Utf8.encode
one_byte_more = refl
