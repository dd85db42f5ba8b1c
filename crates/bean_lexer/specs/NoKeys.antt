-- Where no key begins.
use Rattle.std.specs.Prelude.{◌≡◌, ℕ, ◌+◌, ◌<◌, false, List, length, drop}
use Rattle.std.specs.List.{prefix_len}
use Rattle.bean_lexer.specs.Lookahead.{has_colon}
use Rattle.bean_lexer.specs.TokenForm.{is_in_key}

-- no colon stands behind what goes on as a key does, wherever more than so many bytes are left
abbrev pub NoKeys : List ℕ → ℕ → Type 0
NoKeys bs left =
    (at : ℕ) → at + left < length bs
    → has_colon (drop at bs) (prefix_len is_in_key (drop at bs)) ≡ false
