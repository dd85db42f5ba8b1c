use Rattle.std.proofs.Common.{◌≡◌, ◌+◌, ◌++◌, ◌∷◌, [], ℕ, List, length, arith, ap, sym, subst, ◌∙◌}
use Rattle.std.proofs.Common.{append_assoc}
use Rattle.query_code.specs.TextForm.{text, texts_in, AreTexts, AreTwoParts}
use Rattle.query_code.proofs.TextListFacts.{number_is, one_more_are, one_more_text, fits_text}
use Rattle.query_code.proofs.TextListSearch.{one_more_behind}
use Rattle.query_code.proofs.text_list.TextList.push.Goals as goal

pub put_text-requires : goal.put_text-requires
put_text-requires c = fits_text c.args.added.now c.requires.short c.utf8.added

pub overflow_add-self : goal.overflow_add-self
overflow_add-self c =
    let is = number_is c.self.inside.len _ c.self.inside.are_texts in
    let seen = ap length c.self.view_is in
    let few = c.requires.few in
    omega (arith, is, seen, few)

-- what is kept, with the text behind it
kept : (lent added new t : List ℕ) → new ≡ added ++ text.written t
    → (lent ++ added) ++ text.written t ≡ lent ++ new
kept lent added new t is =
    append_assoc lent added (text.written t) ∙ ap (λ (bs : List ℕ). lent ++ bs) (sym is)

pub invariant_of-self-inside-2 : goal.invariant_of-self-inside-2
invariant_of-self-inside-2 c = (
  subst (λ bs. ∥ AreTexts (c.self.inside.len + 1) bs ∥₁)
      (kept c.self.inside.lent.now c.self.inside.added.items c.put_text.new.out.items
      c.args.added.now (c.in_ok-put_text.ensures.ok))
      (one_more_are c.self.inside.len _ c.args.added.now c.self.inside.are_texts
      (fits_text c.args.added.now c.requires.short c.utf8.added)),
  (
    subst (λ bs. ∥ AreTwoParts (c.self.inside.len + 1) c.self.inside.lent.now bs ∥₁)
        (sym c.in_ok-put_text.ensures.ok)
        (one_more_behind c.self.inside.len c.self.inside.lent.now c.self.inside.added.items
        c.args.added.now c.self.inside.are_two_parts
        (fits_text c.args.added.now c.requires.short c.utf8.added)),
    tt,
  ),
)

pub returns : goal.returns
returns c =
    ap (texts_in (c.self.inside.len + 1))
    (sym (kept c.self.inside.lent.now c.self.inside.added.items c.put_text.new.out.items
    c.args.added.now (c.in_ok-put_text.ensures.ok)))
    ∙ one_more_text c.self.inside.len _ c.args.added.now c.self.inside.are_texts
    (fits_text c.args.added.now c.requires.short c.utf8.added)
    ∙ ap (λ (ts : List (List ℕ)). ts ++ c.args.added.now ∷ []) c.self.view_is
