-- Why a query has no program, from what is found of its sections.
use Rattle.std.proofs.Common.{◌≡◌, ℕ, ◌≤◌, ◌<◌, ◌⊎◌, inl, inr, true, false, List, length, refl, sym, ap, ◌∙◌}
use Rattle.std.proofs.Common.{subst}
use Rattle.std.specs.List.{list_any}
use Rattle.limits.specs.declared.bounds.Bounds.{Bounds}
use Rattle.limits.specs.declared.counts.TheConstants.{LONGEST_SECTION, MOST_ITEMS}
use Rattle.bql_parser.specs.Asked.{Asked}
use Rattle.bql_plan.specs.Plan.{Plan, plan}
use Rattle.bql_compiler.specs.Program.{IsTooLong, Sections, of_groups, parts_of, pool_of}
use Rattle.query_code.specs.declared.program.Constant.{Constant}
use Rattle.refusals.specs.declared.refusal.Refusal.{Refusal}
use Rattle.refusals.specs.declared.refusal.Refusal.TheVariants.{OutOfMemory, Refused}
use Rattle.bql_compiler.specs.declared.cause.CompileCause.{CompileCause}
use Rattle.bql_compiler.specs.declared.cause.CompileCause.TheVariants.{TooLong, NotBuilt, TooDeep}
use Rattle.bql_compiler.specs.Limits.{HaveRoom, IsCause, IsNotBuiltOf, IsRefusal, IsStopped, IsWithin}
use Rattle.bql_compiler.specs.Limits.{IsWithoutRoom, are_shallow, are_short, code_in, is_pattern}
use Rattle.bql_compiler.specs.Limits.{sections_in}
use Rattle.bql_compiler.proofs.LimitFacts.{not_too_deep, not_too_long, too_deep, too_large, too_long}

-- so many are gathered, and they are few
pub few_counted : (q : Asked) (p : Plan) → p ≡ plan q → (n : ℕ) → n ≡ length (of_groups p p.aggregates)
    → n ≤ MOST_ITEMS → length (of_groups (plan q) (plan q).aggregates) ≤ MOST_ITEMS
few_counted q p e n is few =
    subst (λ p. length (of_groups p p.aggregates) ≤ MOST_ITEMS) e
    (subst (λ n. n ≤ MOST_ITEMS) is few)

module _ (b : Bounds) (q : Asked) (s : Sections) (are : s ≡ sections_in b q) where
  pub long_refusal : (r : Refusal CompileCause) → IsWithoutRoom r s → IsRefusal b q r
  long_refusal OutOfMemory h = tt
  long_refusal (Refused cause) h = subst (IsCause b q) (sym h.0) (by h.1)
    where
      by : (are_short s ≡ false) ⊎ (LONGEST_SECTION < length (pool_of s))
          → IsTooLong (parts_of b q)
      by (inl k) = too_long b q (ap are_short (sym are) ∙ k)
      by (inr k) =
          too_large b q (subst (λ s. LONGEST_SECTION < length (pool_of s)) are k)

  -- ---- where there is room

  module _ (few : length (of_groups (plan q) (plan q).aggregates) ≤ MOST_ITEMS) (room : HaveRoom s)
    where
      isnt_long : ¬ IsTooLong (parts_of b q)
      isnt_long =
          not_too_long b q few (ap are_short (sym are) ∙ room.code)
          (subst (λ s. length (pool_of s) ≤ LONGEST_SECTION) are room.pool)

      pub is_within : are_shallow s ≡ true → IsWithin b q
      is_within h = (isnt_long, not_too_deep b q (ap are_shallow (sym are) ∙ h))

      pub stopped_refusal : (pool : List Constant) → pool ≡ pool_of s → (r : Refusal CompileCause)
          → IsStopped r pool s → IsRefusal b q r
      stopped_refusal pool is OutOfMemory h = tt
      stopped_refusal pool is (Refused TooLong) h = absurd h
      stopped_refusal pool is (Refused NotBuilt) h =
          (isnt_long, ap (list_any is_pattern) (sym (is ∙ ap pool_of are)) ∙ h)
      stopped_refusal pool is (Refused TooDeep) h =
          (isnt_long, too_deep b q (ap are_shallow (sym are) ∙ h))

-- what keeps within the limits is refused for a pattern alone
pub only_patterns : (b : Bounds) (q : Asked) (r : Refusal CompileCause) → IsRefusal b q r
    → IsWithin b q → IsNotBuiltOf r (code_in b q).pool
only_patterns b q OutOfMemory h within = tt
only_patterns b q (Refused TooLong) h within = absurd (within.0 h)
only_patterns b q (Refused NotBuilt) h within = (refl, h.1)
only_patterns b q (Refused TooDeep) h within = absurd (within.1 h.1)
