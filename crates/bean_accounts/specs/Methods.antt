-- The method of each account, as it is kept.
use Rattle.std.specs.Prelude.{ℕ, List, unwrap_or}
use Rattle.std.specs.Str.{bytes_eq}
use Rattle.indexmap.specs.IndexMap.{get}
use Rattle.bean_reductions.specs.declared.reduction.Method.{Method}
use Rattle.bean_accounts.specs.declared.methods.Methods.{Methods}

abbrev pub method_in : Methods → List ℕ → Method
method_in ms a = unwrap_or (get bytes_eq ms.methods a) ms.otherwise
