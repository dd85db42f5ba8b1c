-- The same is found of a directive, whichever pushes it is given, where of each name the first is the
-- same.
use Rattle.std.proofs.Common.{◌≡◌, ◌⊎◌, inl, inr, ℕ, suc, ◌||◌, Bool, true, false, cond, List, []}
use Rattle.std.proofs.Common.{◌∷◌, ◌++◌, Option, Some, None, is_some, refl, sym, ◌∙◌, ap, subst}
use Rattle.std.proofs.lemmas.List.{append_assoc, append-nil}
use Rattle.std.proofs.lemmas.List.Folds.{find-append, list_any-append}
use Rattle.std.specs.List.{list_any}
use Rattle.std.specs.Option.{option_or}
use Rattle.std.specs.Prelude.{filter}
use Rattle.std.specs.Str.{bytes_eq}
use Rattle.bean_directives.specs.declared.directive.Directive.{Directive}
use Rattle.bean_directives.specs.declared.directive.DirectiveKind.{DirectiveKind}
use Rattle.bean_directives.specs.declared.directive.DirectiveKind.TheVariants as kinds
use Rattle.bean_directives.specs.declared.transaction.Transaction.{Transaction}
use Rattle.bean_directives.specs.declared.undated.Pushed.{Pushed}
use Rattle.bean_directives.specs.declared.undated.Pushed.TheVariants as pushed
use Rattle.bean_directives.specs.declared.undated.PushName.{PushName}
use Rattle.bean_directives.specs.declared.undated.PushName.TheVariants as names
use Rattle.bean_grammar.specs.declared.mark.Mark.{Mark}
use Rattle.bean_grammar.specs.declared.mark.Mark.TheVariants as mark
use Rattle.bean_grammar.specs.declared.metadata.MetaEntry.{MetaEntry}
use Rattle.bean_directives.specs.Given.{entries_behind, with_pushed, with_tag}
use Rattle.bean_pushes.specs.Scope.{name_of, with_pushes}
use Rattle.push_laws.proofs.FirstFacts.{first_of, same_first}
use Rattle.push_laws.proofs.GivenFacts.{each_at, each_given, given, latest_given, with_each_is}
use Rattle.push_laws.proofs.GivenFacts.{with_pushes_is}
use Rattle.push_laws.proofs.PopFacts.{has_pop}
use Rattle.push_laws.specs.Alike.{AreAlike, GiveTheSame, HaveTheirPops, IsAlike, entry_of}
use Rattle.push_laws.specs.Alike.{is_link, is_tag}

-- ---- what some pushes add

abbrev tags_in : List Pushed → List Mark
tags_in [] = []
tags_in (pushed.Tag t ∷ ps) = mark.Tag t ∷ tags_in ps
tags_in (pushed.Entry e ∷ ps) = tags_in ps

abbrev entries_in : List Pushed → List MetaEntry
entries_in [] = []
entries_in (pushed.Tag t ∷ ps) = entries_in ps
entries_in (pushed.Entry e ∷ ps) = e ∷ entries_in ps

abbrev entry_in : Option Pushed → Option MetaEntry
entry_in None = None
entry_in (Some (pushed.Tag t)) = None
entry_in (Some (pushed.Entry e)) = Some e

module _ (tag : List ℕ) where
  tag_by : (b : Bool) (p : Pushed) (o : Option Pushed) → (b || is_some o) ≡ is_some (cond b (Some p) o)
  tag_by true p o = refl
  tag_by false p o = refl

  tags_are : (ps : List Pushed)
      → list_any (is_tag tag) (tags_in ps) ≡ is_some (first_of (names.Tag tag) ps)
  tags_are [] = refl
  tags_are (pushed.Tag t ∷ ps) =
      ap (λ r. bytes_eq t tag || r) (tags_are ps)
      ∙ tag_by (bytes_eq t tag) (pushed.Tag t) (first_of (names.Tag tag) ps)
  tags_are (pushed.Entry e ∷ ps) = tags_are ps

module _ (key : List ℕ) where
  entry_by : (b : Bool) (e : MetaEntry) (o : Option Pushed)
      → cond b (Some e) (entry_in o) ≡ entry_in (cond b (Some (pushed.Entry e)) o)
  entry_by true e o = refl
  entry_by false e o = refl

  entries_are : (ps : List Pushed) → entry_of key (entries_in ps) ≡ entry_in (first_of (names.Key key) ps)
  entries_are [] = refl
  entries_are (pushed.Tag t ∷ ps) = entries_are ps
  entries_are (pushed.Entry e ∷ ps) =
      ap (cond (bytes_eq e.key key) (Some e)) (entries_are ps)
      ∙ entry_by (bytes_eq e.key key) e (first_of (names.Key key) ps)

no_links : (ps : List Pushed) → filter is_link (tags_in ps) ≡ []
no_links [] = refl
no_links (pushed.Tag t ∷ ps) = no_links ps
no_links (pushed.Entry e ∷ ps) = no_links ps

links_stay : (marks : List Mark) (ps : List Pushed)
    → filter is_link (marks ++ tags_in ps) ≡ filter is_link marks
links_stay [] ps = no_links ps
links_stay (m ∷ marks) ps = ap (λ r. cond (is_link m) (m ∷ r) r) (links_stay marks ps)

-- ---- a transaction

abbrev made : Directive → Transaction → List Mark → List MetaEntry → Directive
made d t marks entries =
    record d { kind = kinds.Transaction record t { marks = marks }; metadata = entries }

given_made : (d : Directive) (t : Transaction) (ps : List Pushed) (marks : List Mark)
    (entries : List MetaEntry)
    → given ps (made d t marks entries) ≡ made d t (marks ++ tags_in ps) (entries ++ entries_in ps)
given_made d t [] marks entries =
    λ j. made d t (sym (append-nil marks) j) (sym (append-nil entries) j)
given_made d t (pushed.Tag x ∷ ps) marks entries =
    given_made d t ps (marks ++ mark.Tag x ∷ []) entries
    ∙ ap (λ ms. made d t ms (entries ++ entries_in ps)) (append_assoc marks (mark.Tag x ∷ []) (tags_in ps))
given_made d t (pushed.Entry e ∷ ps) marks entries =
    given_made d t ps marks (entries ++ e ∷ [])
    ∙ ap (made d t (marks ++ tags_in ps)) (append_assoc entries (e ∷ []) (entries_in ps))

module _ (d : Directive) (t : Transaction) (ps qs : List Pushed)
    (same : (name : PushName) → first_of name ps ≡ first_of name qs) where
  alike_made : (marks : List Mark) (entries : List MetaEntry)
      → IsAlike (made d t (marks ++ tags_in ps) (entries ++ entries_in ps))
      (made d t (marks ++ tags_in qs) (entries ++ entries_in qs))
  alike_made marks entries = record {
    tags = λ tag.
        list_any-append (is_tag tag) marks (tags_in ps)
        ∙ ap (λ b. list_any (is_tag tag) marks || b)
        (tags_are tag ps ∙ ap is_some (same (names.Tag tag)) ∙ sym (tags_are tag qs))
        ∙ sym (list_any-append (is_tag tag) marks (tags_in qs));
    entries = λ key.
        find-append (λ e. bytes_eq e.key key) entries (entries_in ps)
        ∙ ap (option_or (entry_of key entries))
        (entries_are key ps ∙ ap entry_in (same (names.Key key)) ∙ sym (entries_are key qs))
        ∙ sym (find-append (λ e. bytes_eq e.key key) entries (entries_in qs));
    others =
        ap (λ ms. record d { kind = kinds.Transaction record t { marks = ms }; metadata = [] })
        (links_stay marks ps ∙ sym (links_stay marks qs));
  }

-- ---- any directive

-- nothing is given to it
abbrev TakesNothing : DirectiveKind → Type 0
TakesNothing k =
    ((tag : List ℕ) → with_tag tag k ≡ k)
    × ((es : List MetaEntry) (e : MetaEntry) → entries_behind k es (e ∷ []) ≡ es)

abbrev Sort : DirectiveKind → Type 0
Sort k = ((t : Transaction) × (k ≡ kinds.Transaction t)) ⊎ TakesNothing k

sort_of : (k : DirectiveKind) → Sort k
sort_of (kinds.Open x) = inr ((λ tag. refl), (λ es e. refl))
sort_of (kinds.Close x) = inr ((λ tag. refl), (λ es e. refl))
sort_of (kinds.Commodity x) = inr ((λ tag. refl), (λ es e. refl))
sort_of (kinds.Transaction t) = inl (t, refl)
sort_of (kinds.Balance x) = inr ((λ tag. refl), (λ es e. refl))
sort_of (kinds.Pad x) = inr ((λ tag. refl), (λ es e. refl))
sort_of (kinds.Note x) = inr ((λ tag. refl), (λ es e. refl))
sort_of (kinds.Document x) = inr ((λ tag. refl), (λ es e. refl))
sort_of (kinds.Price x) = inr ((λ tag. refl), (λ es e. refl))
sort_of (kinds.Event x) = inr ((λ tag. refl), (λ es e. refl))
sort_of (kinds.Query x) = inr ((λ tag. refl), (λ es e. refl))
sort_of (kinds.Custom x) = inr ((λ tag. refl), (λ es e. refl))

one_taken : (p : Pushed) (d : Directive) → TakesNothing d.kind → with_pushed p d ≡ d
one_taken (pushed.Tag tag) d none = ap (λ k. record d { kind = k }) (none.0 tag)
one_taken (pushed.Entry e) d none = ap (λ es. record d { metadata = es }) (none.1 d.metadata e)

none_taken : (ps : List Pushed) (d : Directive) → TakesNothing d.kind → given ps d ≡ d
none_taken [] d none = refl
none_taken (p ∷ ps) d none = ap (given ps) (one_taken p d none) ∙ none_taken ps d none

alike_self : (d : Directive) → IsAlike d d
alike_self d = record { tags = λ tag. refl; entries = λ key. refl; others = refl }

alike : (ps qs : List Pushed) (d : Directive)
    → ((name : PushName) → first_of name ps ≡ first_of name qs)
    → IsAlike (given ps d) (given qs d)
alike ps qs d same = by (sort_of d.kind)
  where
    by : Sort d.kind → IsAlike (given ps d) (given qs d)
    by (inl (t, is)) =
        let own : d ≡ made d t t.marks d.metadata = ap (λ k. record d { kind = k }) is in
        subst (λ x. IsAlike (given ps x) (given qs x)) (sym own)
        (subst (λ x. IsAlike x (given qs (made d t t.marks d.metadata)))
        (sym (given_made d t ps t.marks d.metadata))
        (subst (λ x. IsAlike (made d t (t.marks ++ tags_in ps) (d.metadata ++ entries_in ps)) x)
        (sym (given_made d t qs t.marks d.metadata))
        (alike_made d t ps qs same t.marks d.metadata)))
    by (inr none) =
        subst (λ x. IsAlike x (given qs d)) (sym (none_taken ps d none))
        (subst (λ x. IsAlike d x) (sym (none_taken qs d none)) (alike_self d))

each_alike : (F G : ℕ → List Pushed) (i : ℕ) (ds : List Directive)
    → ((j : ℕ) (name : PushName) → first_of name (F j) ≡ first_of name (G j))
    → AreAlike (each_at F i ds) (each_at G i ds)
each_alike F G i [] same = tt
each_alike F G i (d ∷ ds) same =
    (alike (F i) (G i) d (same i), each_alike F G (suc i) ds same)

pub give_the_same : GiveTheSame
give_the_same bs ds order =
    subst (λ xs. AreAlike xs (with_pushes [] bs ds)) (sym (with_each_is bs ds))
    (subst (λ xs. AreAlike (each_at (each_given bs) 0 ds) xs) (sym (with_pushes_is [] bs ds))
    (each_alike (each_given bs) (latest_given [] bs) 0 ds (λ j name. same_first name j bs order)))

pub have_their_pops : HaveTheirPops
have_their_pops p bs = has_pop (name_of p) bs 0
