-- The texts of shaped rows.
use Rattle.std.proofs.Common.{ℕ, List, [], ◌∷◌, Bool, true, false, cond, Option, Some, None}
use Rattle.std.specs.Prelude.{bytes_eq}
use Rattle.limits.specs.declared.bounds.Bounds.{Bounds}
use Rattle.query_values.specs.Order.{is_null}
use Rattle.query_rows.specs.Shape.{LiesIn}
use Rattle.query_rows.specs.declared.shape.Shape.TheVariants.{Text}
use Rattle.query_rows.specs.Row.{MetaText, Row, text_under, text_or_null, posting_text}
use Rattle.query_rows.specs.Row.{transaction_text}
use Rattle.query_rows.specs.Shaped.{AreShort, IsShortIfThere, IsShaped, TextsLieIn}

found : (key : List ℕ) (es : List MetaText) → AreShort es → IsShortIfThere (text_under key es)
found key [] short = tt
found key (e ∷ es) short = by (bytes_eq key e.key) (found key es short.1)
  where
    by : (b : Bool) → IsShortIfThere (text_under key es)
        → IsShortIfThere (cond b e.text (text_under key es))
    by true rest = short.0
    by false rest = rest

lies : (text : Option (List ℕ)) → IsShortIfThere text → LiesIn (text_or_null text) Text
lies None short = tt
lies (Some text) short = short

pub texts_lie : (b : Bounds) (r : Row) → IsShaped b r → TextsLieIn r
texts_lie b r is = record { posting = posting; transaction = transaction; any = any }
  where
    posting : (key : List ℕ) → LiesIn (posting_text key r) Text
    posting key = lies (text_under key r.posting_entries) (found key r.posting_entries is.posting_texts)

    transaction : (key : List ℕ) → LiesIn (transaction_text key r) Text
    transaction key =
        lies (text_under key r.transaction_entries)
        (found key r.transaction_entries is.transaction_texts)

    any : (key : List ℕ) → LiesIn (cond (is_null (posting_text key r)) (transaction_text key r) (posting_text key r)) Text
    any key = by (is_null (posting_text key r))
      where
        by : (b : Bool) → LiesIn (cond b (transaction_text key r) (posting_text key r)) Text
        by true = transaction key
        by false = posting key
