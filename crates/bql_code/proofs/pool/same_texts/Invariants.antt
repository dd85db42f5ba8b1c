use Rattle.std.proofs.Common.{◌≡◌, drop, map}
use Rattle.std.specs.Cmp.Lexicographic.{pointwise}
use Rattle.bql_code.specs.Literals.{text_of}
use Rattle.bql_code.specs.Pool.{same_text}
use Rattle.bql_code.proofs.pool.same_texts.Given as goal

-- all are the same where those that are left are
abbrev pub invariant-loop-i : goal.invariant-loop-i
invariant-loop-i l =
    pointwise same_text (map text_of (drop l.i l.a)) (map text_of (drop l.i l.b))
    ≡ pointwise same_text (map text_of l.a) (map text_of l.b)
