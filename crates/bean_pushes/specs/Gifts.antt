-- What is given, as it stands apart from the directives that it is given to.
use Rattle.std.specs.Prelude.{ℕ, suc, List, [], ◌∷◌}
use Rattle.bean_directives.specs.Given.{with_given}
use Rattle.bean_directives.specs.declared.directive.Directive.{Directive}
use Rattle.bean_grammar.specs.declared.mark.Mark.{Mark}
use Rattle.bean_grammar.specs.declared.metadata.MetaEntry.{MetaEntry}
use Rattle.bean_pushes.specs.declared.gifts.Gifts.{Gifts}
use Rattle.given_items.specs.Given.{given_at}
use Rattle.given_items.specs.declared.given.GivenItem.{GivenItem}

-- each transaction gets what is given at its place; the list's first has the place i
abbrev pub with_items_from : ℕ → List (GivenItem Mark) → List (GivenItem MetaEntry) → List Directive
    → List Directive
with_items_from i ts es [] = []
with_items_from i ts es (d ∷ ds) =
    with_given (given_at i ts) (given_at i es) d ∷ with_items_from (suc i) ts es ds

abbrev pub with_items : List (GivenItem Mark) → List (GivenItem MetaEntry) → List Directive
    → List Directive
with_items ts es ds = with_items_from 0 ts es ds

abbrev pub with_gifts : Gifts → List Directive → List Directive
with_gifts g ds = with_items g.tags.items g.entries.items ds
