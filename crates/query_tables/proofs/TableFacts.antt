-- The table of what a run answers.
use Rattle.std.proofs.Common.{◌≡◌, ◌⊎◌, ℕ, List, length, All, true, sym, ap, ◌∙◌, subst}
use Rattle.std.proofs.Common.{inl, inr}
use Rattle.bql_parser.specs.Asked.{Asked}
use Rattle.bql_compiler.specs.Carried.{Carries}
use Rattle.limits.specs.declared.bounds.Bounds.{Bounds}
use Rattle.plain_machine.proofs.AnswerFacts.{one_answer, within_budget}
use Rattle.plain_machine.specs.Answer as plain
use Rattle.plain_machine.specs.Answer.{Answers}
use Rattle.posting_table.specs.Decimals.{decimals_of}
use Rattle.posting_table.specs.Ledger.{Ledger}
use Rattle.posting_table.specs.Rows.{rows_of}
use Rattle.well_shaped.proofs.SafetyFacts.{safely_where_it_fits}
use Rattle.query_answer.specs.declared.answer.Answer.{Answer}
use Rattle.query_code.specs.QueryFile.{file}
use Rattle.query_code.specs.Upgrade.{upgraded}
use Rattle.query_code.specs.declared.program.Parts.{Parts}
use Rattle.query_machine.specs.RunOf.{IsRunOf}
use Rattle.query_rows.specs.Fits.{fits}
use Rattle.query_rows.specs.Row.{Row}
use Rattle.query_rows.specs.Shaped.{IsShaped}
use Rattle.query_tables.specs.Table.{IsTableOf, IsTableOfQuery}
use Rattle.plain_machine.proofs.UpgradeAnswerFacts.{upgrade_answers}
use Rattle.plain_machine.proofs.ShownFacts.{rows_are_wide}
use Rattle.plain_machine.specs.Widths.{AreWide}
use Rattle.table_printer.specs.Table.{table_text}
use Rattle.well_shaped.specs.Program.{IsDepth}

-- ---- what is printed

pub rows_are_whole : (p : Parts) (rows : List Row) (a : Answer) → IsRunOf p rows a
    → All (λ row. length row ≡ length a.headers) a.rows
rows_are_whole p rows a is =
    subst (λ names. All (λ row. length row ≡ length names) a.rows) (sym is.headers)
    (subst (AreWide (length p.output.targets)) (sym is.rows)
    (rows_are_wide p rows is.plain is.answers))

-- ---- the table

table_of_query : (b : Bounds) (q : Asked) (p : Parts) (l : Ledger) (a : plain.Answer)
    (text : List ℕ) → Carries b p q → Answers p (rows_of l) a
    → text ≡ table_text p.output.targets a.final (decimals_of l.decimals)
    → IsTableOfQuery b q l text
table_of_query b q p l a text carries is table = record {
  rows = a.final;
  answers = carries.answers (rows_of l) a is;
  table = table
      ∙ ap (λ names. table_text names a.final (decimals_of l.decimals)) carries.names;
}

-- of a program, or of its upgrade
pub tables_of_queries : (p : Parts) (l : Ledger) (a : plain.Answer) (text : List ℕ)
    → Answers p (rows_of l) a
    → text ≡ table_text p.output.targets a.final (decimals_of l.decimals)
    → (b : Bounds) (q : Asked) → Carries b p q ⊎ Carries b (upgraded p) q
    → IsTableOfQuery b q l text
tables_of_queries p l a text is table b q (inl carries) =
    table_of_query b q p l a text carries is table
tables_of_queries p l a text is table b q (inr carries) =
    table_of_query b q (upgraded p) l a text carries (upgrade_answers p (rows_of l) a is) table

module _ (p : Parts) (depth : ℕ) (l : Ledger) (has : ∥ file.fits p ∥₁) (is : ∥ IsDepth p depth ∥₁)
    (within : fits p.bounds (rows_of l) ≡ true) (shaped : All (IsShaped p.bounds) (rows_of l)) where
  pub is_table : (a : Answer) → IsRunOf p (rows_of l) a → (text : List ℕ)
      → text ≡ table_text a.headers a.rows (decimals_of l.decimals) → IsTableOf p depth l text
  is_table a run text printed = record {
    within = within;
    safe = safely_where_it_fits p depth (rows_of l) has is within shaped;
    answer = run.plain;
    answers = run.answers;
    brief = within_budget p (rows_of l) run.plain run.answers;
    table = table;
    means = tables_of_queries p l run.plain text run.answers table;
  }
    where
      table : text ≡ table_text p.output.targets run.plain.final (decimals_of l.decimals)
      table =
          printed ∙ ap (λ names. table_text names a.rows (decimals_of l.decimals)) run.headers
          ∙ ap (λ rows. table_text p.output.targets rows (decimals_of l.decimals)) run.rows

pub one_table : (p : Parts) (depth : ℕ) (l : Ledger) (a b : List ℕ) → IsTableOf p depth l a
    → IsTableOf p depth l b → a ≡ b
one_table p depth l a b x y =
    x.table
    ∙ ap (λ (it : plain.Answer). table_text p.output.targets it.final (decimals_of l.decimals))
    (one_answer p (rows_of l) x.answer y.answer x.answers y.answers)
    ∙ sym y.table
