use Rattle.std.proofs.Common.{◌≡◌, ◌++◌, encode_utf8}
use Rattle.std.specs.List.{flat_map}
use Rattle.std.specs.String.{string_bytes}
use Rattle.cell_texts.specs.CellText.{shown_character}
use Rattle.cell_texts.proofs.cells.add_clean.Given as goal

abbrev pub invariant-loop-c : goal.invariant-loop-c
invariant-loop-c l =
    string_bytes l.clean
    ≡ string_bytes l.initial.clean ++ flat_map (λ c. encode_utf8 (shown_character c)) l.yielded
