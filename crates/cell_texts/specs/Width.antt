-- How wide texts are, and how they fill columns.
use Rattle.std.specs.Prelude.{ℕ, ◌-◌, Bool, false, List, ◌++◌, chars, replicate, if◌then◌else◌}
use Rattle.bean_base.specs.Character.{space}
use Rattle.unicode_width.specs.Width.{str_width}

-- how many columns of a terminal a text takes
abbrev pub text_width : List ℕ → ℕ
text_width text = str_width false (chars text)

-- the text of that width, filled up to the column's
abbrev pub filled : Bool → ℕ → ℕ → List ℕ → List ℕ
filled is_right column width text =
    if is_right then replicate (column - width) space ++ text else
    text ++ replicate (column - width) space
