-- What the sections of a program stand for.
use Rattle.std.specs.Prelude.{Option}
use Rattle.std.specs.Option.{option_map}
use Rattle.bql_code.specs.Core as scheme
use Rattle.bql_code.specs.Kept.{core_of, cores_of}
use Rattle.bql_code.specs.declared.computed.Core.{Core}
use Rattle.bql_compiler.specs.Program as rule
use Rattle.bql_compiler.specs.declared.sections.Sections.{Sections}

-- what is computed, if anything is
abbrev pub core_if : Option Core → Option scheme.Core
core_if o = option_map core_of o

abbrev pub sections_of : Sections → rule.Sections
sections_of s = record {
  filter = core_of s.filter;
  row = cores_of s.row.items;
  last = cores_of s.last.items;
}
