-- What is due of the text of a query: why it is refused, or what is due of the query.
use Rattle.std.specs.Prelude.{◌≡◌, ◌⊎◌, [], Err}
use Rattle.bql_parser.specs.Asked.{Asked}
use Rattle.clap.specs.Walk.{Text}
use Rattle.limits.specs.declared.bounds.Bounds.{Bounds}
use Rattle.query_files.specs.Texts.{IsCompilable, IsRefused}
use Rattle.query_files.specs.declared.cause.TextCause.{TextCause}
use Rattle.bq.specs.Due.{Due}
use Rattle.endings.specs.declared.refusal.Cause.TheVariants as cause

-- the text is no query that has a program by these bounds, and nothing is asked of the store; or this
-- is due of the query
abbrev pub about_program_of : Bounds → (Asked → Due) → Text → Due
about_program_of b Of text readings end =
    ((readings ≡ []) × (c : TextCause) × IsRefused b text c × (end ≡ Err (cause.Text c)))
    ⊎ ((q : Asked) × IsCompilable b text q × Of q readings end)
