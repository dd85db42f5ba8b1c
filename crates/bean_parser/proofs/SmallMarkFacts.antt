-- Each tag and each link takes a lexeme.
use Rattle.std.proofs.Common.{◌≡◌, ℕ, ◌+◌, ◌≤◌, List, [], ◌∷◌, length, Option, Some, None, arith}
use Rattle.std.proofs.Common.{ap, length-append}
use Rattle.theory.specs.Form.{DueRead, ItemsRead, steps, snoc, alone}
use Rattle.bean_grammar.specs.declared.mark.Mark.{Mark}
use Rattle.bean_grammar.specs.Lexeme.{Lexeme, begins_with_text}
use Rattle.bean_grammar.specs.Literal.{text}
use Rattle.bean_grammar.specs.Mark.{mark, marks, some_marks}
use Rattle.bean_directives.specs.Head.{words}
use Rattle.bean_directives.specs.declared.transaction.PayeeAndNarration.{PayeeAndNarration}

items_no_more : (ls : List Lexeme) (ms : List Mark) (rest : List Lexeme) → ItemsRead mark ls ms rest
    → length ms ≤ length ls
items_no_more ls [] rest p = omega arith
items_no_more ls (m ∷ ms) rest p =
    let k = items_no_more p.0 ms rest p.2 in
    let e = ap length p.1 in
    omega arith

all_put : (s ms : List Mark) → length (steps snoc s ms) ≡ length s + length ms
all_put s [] = omega arith
all_put s (m ∷ ms) =
    let k = all_put (snoc s m) ms in
    let e = length-append s (m ∷ []) in
    omega arith

pub marks_no_more : (ls : List Lexeme) (ms : List Mark) (rest : List Lexeme)
    → marks.reads ls ms rest → length ms ≤ length ls
marks_no_more ls ms rest p =
    let k = items_no_more p.2 p.1 rest p.4 in
    let e = ap length p.5 in
    let put = all_put p.0 p.1 in
    let none = ap length p.3.0 in
    let same = ap length p.3.1 in
    omega arith

pub some_marks_no_more : (ls : List Lexeme) (ms : List Mark) (rest : List Lexeme)
    → some_marks.reads ls ms rest → length ms ≤ length ls
some_marks_no_more ls ms rest p =
    let k = items_no_more p.2 p.1 rest p.4 in
    let e = ap length p.5 in
    let put = all_put (alone p.0) p.1 in
    let first = ap length p.3 in
    omega arith

text_no_longer : (ls : List Lexeme) (o : Option (List ℕ)) (rest : List Lexeme)
    → DueRead begins_with_text text ls o rest → length rest ≤ length ls
text_no_longer ls None rest p = let e = ap length p.0 in omega arith
text_no_longer ls (Some bs) rest p =
    let same = ap length p.3.1 in
    let first = ap length p.4 in
    omega arith

pub words_no_longer : (ls : List Lexeme) (w : PayeeAndNarration) (rest : List Lexeme)
    → words.reads ls w rest → length rest ≤ length ls
words_no_longer ls w rest p =
    let same = ap length p.3.3.1 in
    let first = text_no_longer p.3.2 p.3.1 p.2 p.3.4 in
    let next = text_no_longer p.2 p.1 rest p.4 in
    omega arith
