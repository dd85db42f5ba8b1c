-- Directives of which the same is found, and that pushes lead to such.
use Rattle.std.specs.Prelude.{◌≡◌, ℕ, ◌≤◌, Bool, true, false, List, [], ◌∷◌, Option, ⊤}
use Rattle.std.specs.Prelude.{filter, find, is_some, nat_lt}
use Rattle.std.specs.List.{AllByRecursion, flat_map, list_any}
use Rattle.std.specs.Str.{bytes_eq}
use Rattle.bean_directives.specs.declared.directive.Directive.{Directive}
use Rattle.bean_directives.specs.declared.directive.DirectiveKind.{DirectiveKind}
use Rattle.bean_directives.specs.declared.directive.DirectiveKind.TheVariants as kinds
use Rattle.bean_directives.specs.declared.undated.Pushed.{Pushed}
use Rattle.bean_grammar.specs.declared.mark.Mark.{Mark}
use Rattle.bean_grammar.specs.declared.mark.Mark.TheVariants as mark
use Rattle.bean_grammar.specs.declared.metadata.MetaEntry.{MetaEntry}
use Rattle.bean_parser.specs.Parsed.{ComeTo, all_bounds, directives_in}
use Rattle.bean_pushes.specs.Scope.{name_of, pops_left, with_pushes}
use Rattle.bean_parser.specs.declared.block.Outcome.{Outcome}
use Rattle.bean_parser.specs.declared.parse.Parsed.{Parsed}
use Rattle.bean_pushes.specs.declared.scope.PlacedBound.{PlacedBound}
use Rattle.push_laws.specs.EachPush.{pop_of, with_each}

-- ---- what is found of a directive

abbrev pub is_tag : List ℕ → Mark → Bool
is_tag tag (mark.Tag t) = bytes_eq t tag
is_tag tag (mark.Link l) = false

abbrev pub is_link : Mark → Bool
is_link (mark.Tag t) = false
is_link (mark.Link l) = true

-- whether it has a tag
abbrev pub has_tag : List ℕ → DirectiveKind → Bool
has_tag tag (kinds.Transaction t) = list_any (is_tag tag) t.marks
has_tag tag kind = false

-- the entry of a key: the first
abbrev pub entry_of : List ℕ → List MetaEntry → Option MetaEntry
entry_of key entries = find (λ e. bytes_eq e.key key) entries

abbrev pub untagged : DirectiveKind → DirectiveKind
untagged (kinds.Transaction t) = kinds.Transaction record t { marks = filter is_link t.marks }
untagged kind = kind

-- all but tags and entries
abbrev pub others_of : Directive → Directive
others_of d = record d { kind = untagged d.kind; metadata = [] }

-- Two directives have the same tags, whatever their order and however often; the same entry of each
-- key; and all else the same.
pub record IsAlike (a b : Directive) : Type 0 where
  pub tags : (tag : List ℕ) → has_tag tag a.kind ≡ has_tag tag b.kind
  pub entries : (key : List ℕ) → entry_of key a.metadata ≡ entry_of key b.metadata
  pub others : others_of a ≡ others_of b

abbrev pub AreAlike : List Directive → List Directive → Type 0
AreAlike [] [] = ⊤
AreAlike [] (b ∷ ys) = ⊥
AreAlike (a ∷ xs) [] = ⊥
AreAlike (a ∷ xs) (b ∷ ys) = IsAlike a b × AreAlike xs ys

-- ---- the laws

-- bounds as a text has them: none behind one has a place before it
abbrev pub InOrder : List PlacedBound → Type 0
InOrder [] = ⊤
InOrder (b ∷ bs) = AllByRecursion (λ (c : PlacedBound). b.place ≤ c.place) bs × InOrder bs

-- given from push to push, of each name the latest that is open, transactions are as where each
-- push gives up to its own pop
abbrev pub GiveTheSame : Type 0
GiveTheSame = (bs : List PlacedBound) (ds : List Directive) → InOrder bs
    → AreAlike (with_each bs ds) (with_pushes [] bs ds)

-- so the directives of a text are as where each of its pushes gives up to its own pop
abbrev pub TextsGiveTheSame : Type 0
TextsGiveTheSame = (os : List Outcome) (p : Parsed) → ComeTo os p
    → AreAlike (with_each (all_bounds 0 os) (flat_map directives_in os)) p.directives

-- a push has a pop that takes it back exactly where pops are left for it behind
abbrev pub HaveTheirPops : Type 0
HaveTheirPops = (p : Pushed) (bs : List PlacedBound)
    → is_some (pop_of (name_of p) 0 bs) ≡ nat_lt 0 (pops_left (name_of p) bs)
