-- Places in reading order. A text is read in parts, and what an include line gives stands between
-- two of them.
use Rattle.std.specs.Prelude.{ℕ, ◌+◌, ◌==◌, List, [], ◌∷◌, fold, nat_lt, if◌then◌else◌}
use Rattle.bean_directives.specs.declared.directive.Directive.{Directive}
use Rattle.bean_directives.specs.declared.undated.Setting.{Setting}
use Rattle.bean_load.specs.declared.placed.Own.{Own}
use Rattle.bean_loaded.specs.declared.placed.Placed.{Placed}
use Rattle.bean_load.specs.declared.texts.Part.{Part}

-- the parts of a text, of those from the nth on
abbrev pub parts_of : ℕ → ℕ → List Part → List Own
parts_of file n [] = []
parts_of file n (p ∷ ps) =
    if p.file == file then record { behind = p.behind; number = n } ∷ parts_of file (n + 1) ps else
    parts_of file (n + 1) ps

abbrev pub later : ℕ → ℕ → Own → ℕ
later line number part = if nat_lt part.behind line then part.number else number

-- a line stands in the last part of its text that begins before it
abbrev pub part_at : List Own → ℕ → ℕ
part_at own line = fold (later line) 0 own

abbrev pub placed_directive : ℕ → List Own → Directive → Placed Directive
placed_directive file own d = record { file = file; part = part_at own d.line; item = d }

abbrev pub placed_setting : ℕ → List Own → Setting → Placed Setting
placed_setting file own s = record { file = file; part = part_at own s.line; item = s }
