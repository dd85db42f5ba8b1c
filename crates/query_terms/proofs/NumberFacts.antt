-- Each column has a number of its own.
use Rattle.std.proofs.Common.{◌≡◌, true, ℕ, zero, suc, ◌+◌, List, [], ◌∷◌, map, Some, refl, ap}
use Rattle.std.proofs.Common.{◌∙◌, arith}
use Rattle.std.specs.Prelude.{slice_get, option_map, ⊤}
use Rattle.std.proofs.lemmas.Option.{slice_get-map}
use Rattle.limits.specs.declared.bounds.Version.TheVariants.{Second}
use Rattle.query_terms.specs.Column.{is_in, number, numbered}
use Rattle.query_terms.specs.declared.column.TheConstants.{COLUMNS}
use Rattle.query_terms.specs.declared.column.Column.{Column}
use Rattle.query_terms.specs.declared.column.Column.TheVariants as column

pub has_number : (c : Column) → numbered (number c) ≡ Some c
has_number column.Date = refl
has_number column.Year = refl
has_number column.Month = refl
has_number column.Day = refl
has_number column.Flag = refl
has_number column.Payee = refl
has_number column.Narration = refl
has_number column.Tags = refl
has_number column.Links = refl
has_number column.Account = refl
has_number column.PostingFlag = refl
has_number column.Number = refl
has_number column.Currency = refl
has_number column.CostNumber = refl
has_number column.CostCurrency = refl
has_number column.CostDate = refl
has_number column.CostLabel = refl
has_number column.Position = refl
has_number column.Weight = refl
has_number column.Balance = refl
has_number column.Lineno = refl
has_number column.Accounts = refl
has_number column.Price = refl

-- the second schema has all columns
pub second_has_all : (c : Column) → is_in Second c ≡ true
second_has_all column.Date = refl
second_has_all column.Year = refl
second_has_all column.Month = refl
second_has_all column.Day = refl
second_has_all column.Flag = refl
second_has_all column.Payee = refl
second_has_all column.Narration = refl
second_has_all column.Tags = refl
second_has_all column.Links = refl
second_has_all column.Account = refl
second_has_all column.PostingFlag = refl
second_has_all column.Number = refl
second_has_all column.Currency = refl
second_has_all column.CostNumber = refl
second_has_all column.CostCurrency = refl
second_has_all column.CostDate = refl
second_has_all column.CostLabel = refl
second_has_all column.Position = refl
second_has_all column.Weight = refl
second_has_all column.Balance = refl
second_has_all column.Lineno = refl
second_has_all column.Accounts = refl
second_has_all column.Price = refl

-- numbers one after the other
abbrev AreFrom : ℕ → List ℕ → Type 0
AreFrom k [] = ⊤
AreFrom k (n ∷ ns) = (n ≡ k) × AreFrom (k + 1) ns

counted : (k : ℕ) (ns : List ℕ) → AreFrom k ns → (i m : ℕ) → slice_get ns i ≡ Some m → m ≡ k + i
counted k [] are i m e = cc
counted k (n ∷ ns) are zero m e =
    let first : n ≡ m = cc in let same : n ≡ k = are.0 in omega (arith, first, same)
counted k (n ∷ ns) are (suc i) m e = let h = counted (k + 1) ns are.1 i m e in omega (arith, h)

in_order : AreFrom 0 (map number COLUMNS)
in_order = (
  refl,
  (
    refl,
    (
      refl,
      (
        refl,
        (
          refl,
          (
            refl,
            (
              refl,
              (
                refl,
                (
                  refl,
                  (
                    refl,
                    (
                      refl,
                      (
                        refl,
                        (
                          refl,
                          (refl, (refl, (refl, (refl, (refl, (refl, (refl, (refl, (refl, (refl, tt)))))))))),
                        ),
                      ),
                    ),
                  ),
                ),
              ),
            ),
          ),
        ),
      ),
    ),
  ),
)

pub is_number : (n : ℕ) (c : Column) → numbered n ≡ Some c → number c ≡ n
is_number n c e =
    let h = counted 0 (map number COLUMNS) in_order n (number c)
    (slice_get-map number COLUMNS n ∙ ap (option_map number) e) in
    omega (arith, h)
