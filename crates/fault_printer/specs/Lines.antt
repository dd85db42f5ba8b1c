-- The lines that tell faults.
use Rattle.std.specs.Prelude.{ℕ, Bool, true, false, List, [], ◌++◌, codes, Option, Some, None}
use Rattle.std.specs.Prelude.{slice_get}
use Rattle.std.specs.Fmt.{decimal}
use Rattle.std.specs.List.{flat_map, list_any}
use Rattle.bean_base.specs.Fault.{text_of}
use Rattle.bean_base.specs.declared.fault.Fault.{Fault}
use Rattle.bean_base.specs.declared.fault.FaultKind.{FaultKind}
use Rattle.bean_base.specs.declared.fault.FaultKind.TheVariants.{Ignored}
use Rattle.bean_load.specs.Texts.{File}

abbrev pub name_in : Option File → List ℕ
name_in (Some file) = file.name
name_in None = []

-- the name of a file by its number
abbrev pub name_of : List File → ℕ → List ℕ
name_of files number = name_in (slice_get files number)

-- NAME:NUMBER: TEXT
abbrev pub line_by : List ℕ → List ℕ → List ℕ → List ℕ
line_by name number text = name ++ codes ":" ++ number ++ codes ": " ++ text ++ codes "\n"

-- FILE:LINE: CODE TEXT
abbrev pub line_of : List File → Fault → List ℕ
line_of files f = line_by (name_of files f.place.file) (decimal f.place.line) (text_of f.kind)

abbrev pub lines_of : List File → List Fault → List ℕ
lines_of files fs = flat_map (line_of files) fs

abbrev pub is_serious_kind : FaultKind → Bool
is_serious_kind Ignored = false
is_serious_kind other = true

abbrev pub is_serious : Fault → Bool
is_serious f = is_serious_kind f.kind

-- one says more than that a line is ignored
abbrev pub are_serious : List Fault → Bool
are_serious fs = list_any is_serious fs
