-- What the settings from one on say completes what is known of those before it.
use Rattle.std.proofs.Common.{◌≡◌, List, [], ◌∷◌, ◌++◌, sym, ap, ◌∙◌, append_assoc}
use Rattle.std.specs.Prelude.{fold}
use Rattle.std.specs.List.{flat_map}
use Rattle.std.proofs.lemmas.List.{append-nil}
use Rattle.bean_directives.specs.declared.undated.Setting.{Setting}
use Rattle.bean_load.specs.Loaded.{title_behind, title_in, operating_of, method_of}
use Rattle.bean_load.specs.Loading.{AddsSetting, AreBooks}
use Rattle.bean_load.specs.declared.loaded.Books.{Books}
use Rattle.bean_loaded.specs.declared.placed.Placed.{Placed}

pub record Completes (all : List (Placed Setting)) (books : Books) (rest : List (Placed Setting)) :
    Type 0 where
  pub title : fold (λ title s. title_behind title s.item.kind) books.title rest ≡ title_in all
  pub operating :
      books.operating.items ++ flat_map (λ s. operating_of s.item.kind) rest
      ≡ flat_map (λ s. operating_of s.item.kind) all
  pub methods :
      books.methods.items ++ flat_map (λ s. method_of s.file s.item.line s.item.kind) rest
      ≡ flat_map (λ s. method_of s.file s.item.line s.item.kind) all

moved : {A : Type 0} (old new mine others whole : List A) → new ≡ old ++ mine
    → old ++ (mine ++ others) ≡ whole → new ++ others ≡ whole
moved old new mine others whole is was =
    ap (λ xs. xs ++ others) is ∙ append_assoc old mine others ∙ was

pub one_more :
    (all : List (Placed Setting)) (old new : Books) (s : Placed Setting)
    (rest : List (Placed Setting)) → Completes all old (s ∷ rest) → AddsSetting s old new
    → Completes all new rest
one_more all old new s rest before adds = record {
  title = ap (λ t. fold (λ title s. title_behind title s.item.kind) t rest) adds.title
      ∙ before.title;
  operating =
      moved old.operating.items new.operating.items (operating_of s.item.kind)
      (flat_map (λ s. operating_of s.item.kind) rest) _ adds.operating before.operating;
  methods =
      moved old.methods.items new.methods.items (method_of s.file s.item.line s.item.kind)
      (flat_map (λ s. method_of s.file s.item.line s.item.kind) rest) _ adds.methods before.methods;
}

pub are_books : (all : List (Placed Setting)) (books : Books) → Completes all books []
    → AreBooks all books
are_books all books done = record {
  title = done.title;
  operating = sym (append-nil books.operating.items) ∙ done.operating;
  methods = sym (append-nil books.methods.items) ∙ done.methods;
}
