-- The sum of the first currency, which is kept by itself, and those of the others.
use Rattle.std.proofs.Common.{◌≡◌, ℕ, ℤ, true, false, cond, List, ◌∷◌, Option, Some, None}
use Rattle.std.proofs.Common.{sym, ap, ◌∙◌, subst, true≢false}
use Rattle.std.proofs.lemmas.Slice.Eq.{bytes_eq-Decides}
use Rattle.std.specs.Str.{bytes_eq}
use Rattle.indexmap.specs.IndexMap.{insert_entry}
use Rattle.bean_interp.specs.Kept.{AreKept, comes_first, sums_in}
use Rattle.bean_interp.specs.Residual.{Weighed}
use Rattle.bean_interp.specs.Sums.{AreNarrow, IsNarrow}
use Rattle.bean_interp.specs.declared.sums.First.{First}
use Rattle.bean_interp.proofs.EntryFacts.{all_insert}

pub set_first : (o : Option First) (es now : List Weighed) (k : List ℕ) (n : ℤ)
    → comes_first o k ≡ true → AreKept o es → sums_in o es ≡ now
    → sums_in (Some (record { currency = k; sum = n })) es ≡ insert_entry bytes_eq now k n
set_first None es now k n first kept view =
    ap (λ ws. (k, n) ∷ ws) kept ∙ ap (λ ws. insert_entry bytes_eq ws k n) view
set_first (Some f) es now k n first kept view =
    ap (λ c. (c, n) ∷ es) ((bytes_eq-Decides k f.currency).0 first)
    ∙ sym
    (ap (λ b. cond b ((f.currency, n) ∷ es) ((f.currency, f.sum) ∷ insert_entry bytes_eq es k n))
    first)
    ∙ ap (λ ws. insert_entry bytes_eq ws k n) view

pub set_other : (o : Option First) (es more now : List Weighed) (k : List ℕ) (n : ℤ)
    → comes_first o k ≡ false → more ≡ insert_entry bytes_eq es k n → sums_in o es ≡ now
    → sums_in o more ≡ insert_entry bytes_eq now k n
set_other None es more now k n other is view = absurd (true≢false other)
set_other (Some f) es more now k n other is view =
    ap (λ ws. (f.currency, f.sum) ∷ ws) is
    ∙ sym
    (ap (λ b. cond b ((f.currency, n) ∷ es) ((f.currency, f.sum) ∷ insert_entry bytes_eq es k n))
    other)
    ∙ ap (λ ws. insert_entry bytes_eq ws k n) view

pub kept_other : (o : Option First) (es more : List Weighed) (k : List ℕ) (n : ℤ) → IsNarrow n
    → comes_first o k ≡ false → more ≡ insert_entry bytes_eq es k n → AreKept o es
    → AreKept o more
kept_other None es more k n narrow other is kept = absurd (true≢false other)
kept_other (Some f) es more k n narrow other is kept =
    (kept.0, subst AreNarrow (sym is) (all_insert IsNarrow es k n kept.1 narrow))
