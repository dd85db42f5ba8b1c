-- The same program in the second version.
use Rattle.std.specs.Prelude.{◌≡◌, ℕ, List, ◌∷◌, ◌++◌, take, drop}
use Rattle.limits.specs.declared.bounds.Bounds.{Bounds}
use Rattle.limits.specs.declared.bounds.Version.TheVariants.{Second}
use Rattle.query_code.specs.QueryFile.{file}
use Rattle.query_code.specs.declared.program.Parts.{Parts}

-- all but the schema stays
abbrev pub bounds_upgraded : Bounds → Bounds
bounds_upgraded b = record {
  schema = Second;
  postings = b.postings;
  units_digits = b.units_digits;
  value_digits = b.value_digits;
}

abbrev pub upgraded : Parts → Parts
upgraded p = record {
  bounds = bounds_upgraded p.bounds;
  mode = p.mode;
  output = p.output;
  code = p.code;
}

-- a file with another version: the magic, the two bytes of the version, and what is behind them
abbrev pub with_version_2 : List ℕ → List ℕ
with_version_2 bytes = take 4 bytes ++ 0 ∷ 2 ∷ drop 6 bytes

-- the file of the same program in the second version differs in the version alone
abbrev pub FilesDifferInVersion : Type 0
FilesDifferInVersion = (p : Parts) → file.written (upgraded p) ≡ with_version_2 (file.written p)
