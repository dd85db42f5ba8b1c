-- How tags and links are read.
use Rattle.std.proofs.Common.{◌≡◌, true, false, List, [], ◌∷◌, ◌++◌, refl, sym, ◌∙◌, ap, subst}
use Rattle.theory.specs.Form.{Form, Reads, Is, IsNone, IsUnambiguous, made, ItemsRead, steps, snoc}
use Rattle.theory.specs.Form.{alone}
use Rattle.theory.proofs.FormFacts.{IsExact, Tells, reads_word, reads_made, is_all}
use Rattle.theory.proofs.RowFacts.{Separates, BeginsRow, EndsItems, InRow, row_ends, row_begins}
use Rattle.theory.proofs.RowFacts.{row_goes_on, row_is_read}
use Rattle.theory.proofs.OneReading.{one_word, one_made, one_row}
use Rattle.bean_grammar.specs.declared.mark.Mark as declared_mark
use Rattle.bean_grammar.specs.declared.mark.Mark.TheVariants.{Tag, Link}
use Rattle.bean_grammar.specs.Lexeme.{Lexeme}
use Rattle.bean_grammar.specs.Mark.{written, begins_with_mark, mark, marks, some_marks}
use Rattle.bean_grammar.proofs.LexemeFacts.{exact_tag, exact_link}

exact_mark : IsExact written
exact_mark (Tag a) (Tag b) e = ap Tag (exact_tag a b e)
exact_mark (Tag a) (Link b) e = absurd (cc)
exact_mark (Link a) (Tag b) e = absurd (cc)
exact_mark (Link a) (Link b) e = ap Link (exact_link a b e)

mark_begins : (m : declared_mark.Mark) (rest : List Lexeme)
    → begins_with_mark (written m ∷ rest) ≡ true
mark_begins (Tag bs) rest = refl
mark_begins (Link bs) rest = refl

pub mark_there : (ls : List Lexeme) (m : declared_mark.Mark) (rest : List Lexeme)
    → ls ≡ written m ∷ rest → begins_with_mark ls ≡ true
mark_there ls m rest at = ap begins_with_mark at ∙ mark_begins m rest

mark_told : Tells begins_with_mark mark
mark_told ls m rest p = mark_there ls m rest p

marks_separate : Separates mark
marks_separate ls m rest p = refl

abbrev no_marks : Form Lexeme (List declared_mark.Mark)
no_marks = made []

marks_begin : BeginsRow no_marks mark
marks_begin ls m rest p = refl

marks_end : EndsItems begins_with_mark mark marks
marks_end = row_ends begins_with_mark no_marks (λ ms. ms) mark snoc

abbrev pub InMarks : List Lexeme → List declared_mark.Mark → List Lexeme → Type 0
InMarks ls ms rest = InRow marks mark snoc ls ms rest

pub first_marks : (ls : List Lexeme) (items : List declared_mark.Mark) → items ≡ []
    → InMarks ls items ls
first_marks ls items e =
    subst (λ x. InMarks ls x ls) (sym e)
    (row_begins begins_with_mark no_marks (λ ms. ms) mark snoc ls [] ls marks_begin
    (reads_made [] ls))

pub mark_pushed :
    (ls : List Lexeme) (items items' : List declared_mark.Mark) (rest : List Lexeme)
    (m : declared_mark.Mark) (more : List Lexeme)
    → items' ≡ items ++ m ∷ [] → InMarks ls items rest → rest ≡ written m ∷ more
    → InMarks ls items' more
mark_pushed ls items items' rest m more pushed i at =
    subst (λ x. InMarks ls x more) (sym pushed)
    (row_goes_on begins_with_mark marks mark snoc ls items rest m more marks_end marks_separate
    mark_told i (reads_word written rest m more exact_mark at))

pub marks_read : (ls : List Lexeme) (ms : List declared_mark.Mark) (rest : List Lexeme)
    → InMarks ls ms rest → begins_with_mark rest ≡ false → Reads marks ls ms rest
marks_read ls ms rest i absent =
    row_is_read begins_with_mark marks mark snoc ls ms rest mark_told i absent

pub one_marks : IsUnambiguous marks
one_marks =
    one_row begins_with_mark no_marks (λ ms. ms) mark snoc marks_begin marks_separate mark_told
    (one_made []) (one_word written exact_mark)

-- One or more.

some_begins : BeginsRow mark mark
some_begins ls m rest p = refl

pub one_some_marks : IsUnambiguous some_marks
one_some_marks =
    one_row begins_with_mark mark alone mark snoc some_begins marks_separate mark_told
    (one_word written exact_mark) (one_word written exact_mark)

-- one or more are any number, and any number are one or more where one begins

some_are_marks : (ls : List Lexeme) (ms : List declared_mark.Mark) (rest : List Lexeme)
    → some_marks.reads ls ms rest → marks.reads ls ms rest
some_are_marks ls ms rest p = ([], p.0 ∷ p.1, ls, (refl, refl), (p.2, p.3, p.4), p.5)

marks_are_some : (ls mid : List Lexeme) (ms start vs : List declared_mark.Mark) (rest : List Lexeme)
    → begins_with_mark ls ≡ true → begins_with_mark rest ≡ false
    → start ≡ [] → ls ≡ mid → ItemsRead mark mid vs rest → ms ≡ steps snoc start vs
    → some_marks.reads ls ms rest
marks_are_some ls mid ms start [] rest present absent e at p s =
    absurd (let f = ap begins_with_mark (at ∙ p) in cc)
marks_are_some ls mid ms start (v ∷ vs) rest present absent e at p s =
    (v, vs, p.0, at ∙ p.1, p.2, s ∙ ap (λ x. steps snoc (snoc x v) vs) e)

pub some_marks_are : (ls : List Lexeme) (ms : List declared_mark.Mark) (rest : List Lexeme)
    → begins_with_mark ls ≡ true → Reads marks ls ms rest → rest ≡ [] → Is some_marks ls ms
some_marks_are ls ms rest present r end =
    let p = is_all marks ls ms rest r end in
    marks_are_some ls p.2 ms p.0 p.1 [] present refl p.3.0 p.3.1 p.4 p.5

pub no_mark_begins : (ls : List Lexeme) → begins_with_mark ls ≡ false → IsNone some_marks ls
no_mark_begins ls absent ms p = let present = mark_told ls p.0 p.2 p.3 in cc (present, absent)

pub more_than_marks :
    (ls : List Lexeme) (ms : List declared_mark.Mark) (rest : List Lexeme) (l : Lexeme)
    (more : List Lexeme) → Reads marks ls ms rest → rest ≡ l ∷ more → IsNone some_marks ls
more_than_marks ls ms rest l more r at ns p = let end =
    (r.only ns [] (some_are_marks ls ns [] p) refl).1 in cc (end, at)
