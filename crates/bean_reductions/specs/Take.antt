-- What a reduction takes.
use Rattle.std.specs.Prelude.{◌≡◌, ◌≤◌, ◌<◌, ℕ, ℤ, pos, neg_ℤ, List, map, length, sum_by, suc}
use Rattle.std.specs.Prelude.{slice_index_or, if◌then◌else◌}
use Rattle.std.specs.declared.cmp.Ordering.{Ordering}
use Rattle.std.specs.Int.Signed.{lt_z}
use Rattle.std.specs.Ordering.{int_cmp}
use Rattle.theory.specs.Arrangement.{IsArrangedByKey}
use Rattle.bean_base.specs.Day.{number}
use Rattle.bean_base.specs.declared.num.Num.{Num}
use Rattle.bean_lots.specs.declared.lot.Lot.{Lot}
use Rattle.bean_reductions.specs.declared.reduction.Method.{Method}
use Rattle.bean_reductions.specs.declared.reduction.Method.TheVariants.{Lifo}

-- earliest days first, under LIFO latest
abbrev pub order_of : Method → ℤ → ℤ → Ordering
order_of Lifo a b = int_cmp b a
order_of _ a b = int_cmp a b

abbrev pub day_of : Lot × ℕ → ℤ
day_of c = number c.0.day

abbrev pub units_of : Lot × ℕ → ℕ
units_of c = c.1

-- q has the candidates cs by day, and those of one day in order of entry
abbrev pub IsQueue : Method → List (Lot × ℕ) → List (Lot × ℕ) → Type 0
IsQueue m cs q = IsArrangedByKey day_of (order_of m) cs q

-- the first candidates of the queue are taken, each gives some of what is held of it, each but the
-- last all of it, and together they give the want
pub record AreTakes (q : List (Lot × ℕ)) (want : ℕ) (ts : List (Lot × ℕ)) : Type 0 where
  pub few : length ts ≤ length q
  pub lots : (k : ℕ) (d : Lot × ℕ) → k < length ts
      → (slice_index_or ts k d).0 ≡ (slice_index_or q k d).0
  pub some : (k : ℕ) (d : Lot × ℕ) → k < length ts → 0 < (slice_index_or ts k d).1
  pub held : (k : ℕ) (d : Lot × ℕ) → k < length ts
      → (slice_index_or ts k d).1 ≤ (slice_index_or q k d).1
  pub whole : (k : ℕ) (d : Lot × ℕ) → suc k < length ts
      → (slice_index_or ts k d).1 ≡ (slice_index_or q k d).1
  pub total : sum_by units_of ts ≡ want

-- a count with the sign of the want
abbrev pub with_sign : ℤ → ℕ → ℤ
with_sign want n = if lt_z want (pos 0) then neg_ℤ (pos n) else pos n

-- takes as they are answered, with the sign of the want, in counts of 10^-8
abbrev pub signed_take : ℤ → Lot × ℕ → Lot × ℤ × ℕ
signed_take want t = (t.0, with_sign want t.1, 8)

abbrev pub signed_takes : ℤ → List (Lot × ℕ) → List (Lot × ℤ × ℕ)
signed_takes want ts = map (signed_take want) ts

-- a take as it is answered, with the count and the places of its number
abbrev pub take_counts : Lot × Num → Lot × ℤ × ℕ
take_counts t = (t.0, t.1.count, t.1.places)
