-- The tables hold what their classes say of each byte.
use Rattle.std.proofs.Common.{◌≡◌, ℕ, zero, suc, add-zero, ◌+◌, ◌<◌, ◌&&◌, not, Bool, true, false}
use Rattle.std.proofs.Common.{List, [], ◌∷◌, length, get_or, arith, sym, ap, ◌∙◌, refl, rules}
use Rattle.bean_base.specs.Name.{is_in_component}
use Rattle.bean_lexer.specs.Gap.{begins_token}
use Rattle.byte_runs.specs.declared.tables.TheConstants.{COMPONENT_BYTES, TOKEN_STARTS}
use Rattle.byte_runs.specs.declared.tables.TheConstants.{PLAIN_TEXT_BYTES}
use Rattle.bean_lexer.specs.Lookahead.{is_in_plain_text}
use Rattle.bean_lexer.proofs.OneListOfTokensFacts.{two_true}

abbrev pub same : Bool → Bool → Bool
same true b = b
same false b = not b

same_is : (a b : Bool) → same a b ≡ true → a ≡ b
same_is true true h = refl
same_is true false h = absurd (search (rules, h))
same_is false true h = absurd (search (rules, h))
same_is false false h = refl

-- a table's entries from a byte on are what a class says
abbrev pub agrees : (ℕ → Bool) → List Bool → ℕ → Bool
agrees p [] b = true
agrees p (t ∷ ts) b = same t (p b) && agrees p ts (b + 1)

agrees_at : (p : ℕ → Bool) (ts : List Bool) (b i : ℕ) → agrees p ts b ≡ true → i < length ts
    → get_or ts i false ≡ p (b + i)
agrees_at p [] b i h low = absurd (omega arith)
agrees_at p (t ∷ ts) b zero h low =
    same_is t (p b) (two_true (same t (p b)) (agrees p ts (b + 1)) h).0 ∙ ap p (sym (add-zero b))
agrees_at p (t ∷ ts) b (suc i) h low =
    let e : b + 1 + i ≡ b + suc i = omega arith in
    agrees_at p ts (b + 1) i (two_true (same t (p b)) (agrees p ts (b + 1)) h).1 (omega arith)
    ∙ ap p e

entry : (p : ℕ → Bool) (ts : List Bool) (b : ℕ) → agrees p ts 0 ≡ true → b < length ts
    → get_or ts b false ≡ p b
entry p ts b h low = let e : 0 + b ≡ b = omega arith in agrees_at p ts 0 b h low ∙ ap p e

pub component_bytes : (b : ℕ) → b < 256 → get_or COMPONENT_BYTES b false ≡ is_in_component b
component_bytes b low = entry is_in_component COMPONENT_BYTES b refl low

pub token_starts : (b : ℕ) → b < 256 → get_or TOKEN_STARTS b false ≡ begins_token b
token_starts b low = entry begins_token TOKEN_STARTS b refl low

pub plain_text_bytes : (b : ℕ) → b < 256 → get_or PLAIN_TEXT_BYTES b false ≡ is_in_plain_text b
plain_text_bytes b low = entry is_in_plain_text PLAIN_TEXT_BYTES b refl low
