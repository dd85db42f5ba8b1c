-- Tags and links.
use Rattle.std.specs.Prelude.{Bool, true, false, List, ◌∷◌}
use Rattle.theory.specs.Form.{Form, word, many, row, alone, snoc}
use Rattle.bean_grammar.specs.declared.mark.Mark as marks_declared
use Rattle.bean_grammar.specs.declared.mark.Mark.TheVariants.{Tag, Link}
use Rattle.bean_grammar.specs.Lexeme as lexeme
use Rattle.bean_grammar.specs.Lexeme.{Lexeme}

abbrev pub written : marks_declared.Mark → Lexeme
written (Tag bs) = lexeme.Tag bs
written (Link bs) = lexeme.Link bs

abbrev pub begins_with_mark : List Lexeme → Bool
begins_with_mark (lexeme.Tag bs ∷ rest) = true
begins_with_mark (lexeme.Link bs ∷ rest) = true
begins_with_mark rest = false

abbrev pub mark : Form Lexeme marks_declared.Mark
mark = word written

-- any number of tags and links
abbrev pub marks : Form Lexeme (List marks_declared.Mark)
marks = many begins_with_mark mark

-- one or more
abbrev pub some_marks : Form Lexeme (List marks_declared.Mark)
some_marks = row begins_with_mark mark alone mark snoc
