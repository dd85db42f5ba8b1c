-- What the structs of expressions stand for.
use Rattle.std.specs.Prelude.{List, map}
use Rattle.query_code.specs.declared.program.Constant.{Constant}
use Rattle.bql_code.specs.Core.{truth, constant, column, entry, key, aggregate, loading, changing}
use Rattle.bql_code.specs.Core.{joining, both, either, plainly, matching, some_matching, among}
use Rattle.bql_code.specs.Core as kept
use Rattle.bql_code.specs.declared.computed.Change.{Change}
use Rattle.bql_code.specs.declared.computed.Change.TheVariants as changes
use Rattle.bql_code.specs.declared.computed.Core.{Core}
use Rattle.bql_code.specs.declared.computed.Core.TheVariants as cores
use Rattle.bql_code.specs.declared.computed.Load.{Load}
use Rattle.bql_code.specs.declared.computed.Load.TheVariants as loads
use Rattle.bql_code.specs.declared.entry.Entry.{Entry}
use Rattle.bql_code.specs.Literals.{constant_of}

abbrev pub load_of : Load → kept.Load
load_of (loads.Truth b) = truth b
load_of (loads.Constant c) = constant (constant_of c.literal)
load_of (loads.Column c) = column c
load_of (loads.Metadata owner k) = entry owner k.text
load_of (loads.Key k) = key k
load_of (loads.Aggregate a) = aggregate a

abbrev pub change_of : Change → kept.Change
change_of (changes.Plain op) = plainly op
change_of (changes.Matches p) = matching p.text
change_of (changes.SomeMatch p) = some_matching p.text
change_of (changes.Among c) = among (constant_of c.literal)

abbrev pub core_of : Core → kept.Core
core_of (cores.Load l) = loading (load_of l)
core_of (cores.Change' op p x) = changing (change_of op) (core_of x)
core_of (cores.Join' op p x q y) = joining op (core_of x) (core_of y)
core_of (cores.And' p x q y) = both (core_of x) (core_of y)
core_of (cores.Or' p x q y) = either (core_of x) (core_of y)

abbrev pub cores_of : List Core → List kept.Core
cores_of xs = map core_of xs

abbrev pub entry_of : Entry → Constant
entry_of e = constant_of e.literal

abbrev pub constants_of : List Entry → List Constant
constants_of es = map entry_of es
