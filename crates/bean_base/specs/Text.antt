-- What a quoted text stands for.
use Rattle.std.specs.Prelude.{ℕ, ◌==◌, List, [], ◌∷◌, if◌then◌else◌}
use Rattle.bean_base.specs.Character.{tab, line_feed, backslash, letter_n, letter_t}

-- what a backslash and this character stand for: a line feed, a tab, or the character itself
abbrev pub escaped : ℕ → ℕ
escaped c = if c == letter_n then line_feed else if c == letter_t then tab else c

-- what stands between the quotes, with its escapes read
abbrev pub read_text : List ℕ → List ℕ
read_text [] = []
read_text (b ∷ []) = b ∷ []
read_text (b ∷ c ∷ bs) = if b == backslash then escaped c ∷ read_text bs else b ∷ read_text (c ∷ bs)
