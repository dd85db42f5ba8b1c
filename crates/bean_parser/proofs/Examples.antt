-- Worked values of the definitions.
use Rattle.std.proofs.Common.{◌≡◌, [], ◌∷◌, false, refl}
use Rattle.std.specs.Prelude.{codes}
use Rattle.bean_grammar.specs.declared.metadata.Value.TheVariants as value
use Rattle.bean_grammar.specs.declared.ranged.Ranged.TheVariants.{Within, Outside}
use Rattle.bean_parser.specs.Under.{no_lines, with_lines}
use Rattle.bean_parser.specs.declared.under.LineKind.TheVariants as lines

-- what is out of range leaves the rest as it was
outside : with_lines no_lines (lines.Entry Outside ∷ []) ≡ record no_lines { is_in_range = false }
outside = refl

-- an entry without a posting above it is the directive's own
own_entry :
    with_lines no_lines (lines.Entry (Within record { key = codes "k"; value = value.Nothing })
    ∷ []) ≡ record no_lines { metadata = record { key = codes "k"; value = value.Nothing } ∷ [] }
own_entry = refl
