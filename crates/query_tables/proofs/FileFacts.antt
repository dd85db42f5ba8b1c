-- What bytes answer that are the file of a program.
use Rattle.std.proofs.Common.{◌≡◌, ◌⊎◌, ℕ, List, true, false, sym, ap, ◌∙◌, subst, inl, inr}
use Rattle.std.proofs.Common.{Result, Ok, Err}
use Rattle.std.specs.Prelude.{IfOk}
use Rattle.bql_parser.specs.Answer.{query_of}
use Rattle.bql_parser.specs.declared.query.Query.{Query}
use Rattle.bql_compiler.specs.Carried.{Carries}
use Rattle.bql_compiler.proofs.CarriedFacts.{carries}
use Rattle.limits.specs.declared.bounds.Bounds.{Bounds}
use Rattle.posting_table.specs.Ledger.{Ledger}
use Rattle.posting_table.specs.Rows.{rows_of}
use Rattle.query_code.proofs.QueryFileFacts.{same_program}
use Rattle.query_code.specs.QueryFile.{IsFile}
use Rattle.query_code.specs.Upgrade.{upgraded}
use Rattle.query_code.specs.declared.program.Parts.{Parts}
use Rattle.query_machine.specs.declared.cause.RunCause.TheVariants.{OutsideBounds}
use Rattle.query_rows.specs.Fits.{fits}
use Rattle.query_tables.specs.Headline.{AreCompiled, ComesTo, RunsChecked}
use Rattle.query_tables.specs.Table.{IsTableOfQuery}
use Rattle.query_tables.specs.declared.cause.AnswerCause.{AnswerCause}
use Rattle.query_tables.specs.declared.cause.AnswerCause.TheVariants.{NotAccepted, NotRun}
use Rattle.refusals.specs.declared.refusal.Refusal.{Refusal}
use Rattle.refusals.specs.declared.refusal.Refusal.TheVariants.{OutOfMemory, Refused}

module _ (bytes : List ℕ) (b : Bounds) (q : Query) (are : AreCompiled bytes b q) (p : Parts)
    (is : IsFile bytes p) where
  same : are.program ≡ p
  same = same_program bytes are.program p are.is_file is

  carried : Carries b p (query_of q) ⊎ Carries b (upgraded p) (query_of q)
  carried =
      elim are.is_compiled [
        | inl e ↦ inl (subst (λ p. Carries b p (query_of q)) (sym e ∙ same)
            (carries b q are.is_typed))
        | inr e ↦ inr (subst (λ p. Carries b p (query_of q)) (sym e ∙ ap upgraded same)
            (carries b q are.is_typed))
      ]

  -- what the compiler made means its query
  pub means_query : (depth : ℕ) (l : Ledger) (r : Result (List ℕ) (Refusal AnswerCause))
      → RunsChecked p depth l r
      → IfOk r (λ text. IsTableOfQuery b (query_of q) l text)
  means_query depth l (Ok text) ran = ran.means b (query_of q) carried
  means_query depth l (Err refusal) ran = tt

-- a run of the program that was checked is a run of any whose file the bytes are
pub comes_to : (bytes : List ℕ) (p q : Parts) (depth : ℕ) (l : Ledger)
    (r : Result (List ℕ) (Refusal AnswerCause)) → IsFile bytes p → IsFile bytes q
    → RunsChecked p depth l r → ComesTo q l r
comes_to bytes p q depth l (Ok text) x y ran =
    subst (λ p. fits p.bounds (rows_of l) ≡ true) (same_program bytes p q x y) ran.within
comes_to bytes p q depth l (Err OutOfMemory) x y ran = tt
comes_to bytes p q depth l (Err (Refused (NotAccepted cause))) x y ran = absurd ran
comes_to bytes p q depth l (Err (Refused (NotRun OutsideBounds))) x y ran =
    subst (λ p. fits p.bounds (rows_of l) ≡ false) (same_program bytes p q x y) ran
