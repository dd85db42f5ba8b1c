-- The names of booking methods.
use Rattle.std.specs.Prelude.{ℕ, List, Option, Some, None, codes, if◌then◌else◌}
use Rattle.std.specs.Str.{bytes_eq}
use Rattle.bean_reductions.specs.declared.reduction.Method as methods
use Rattle.bean_reductions.specs.declared.reduction.Method.TheVariants as method

abbrev pub method_named : List ℕ → Option methods.Method
method_named name =
    if bytes_eq name (codes "STRICT") then Some method.Strict
    else if bytes_eq name (codes "FIFO") then Some method.Fifo
    else if bytes_eq name (codes "LIFO") then Some method.Lifo
    else if bytes_eq name (codes "NONE") then Some method.None
    else None
