-- What a directive is given once it was read.
use Rattle.std.specs.Prelude.{ℕ, List, [], ◌∷◌, ◌++◌}
use Rattle.bean_directives.specs.declared.directive.Directive.{Directive}
use Rattle.bean_directives.specs.declared.directive.DirectiveKind.{DirectiveKind}
use Rattle.bean_directives.specs.declared.directive.DirectiveKind.TheVariants as kinds
use Rattle.bean_directives.specs.declared.undated.Pushed.{Pushed}
use Rattle.bean_directives.specs.declared.undated.Pushed.TheVariants as pushed
use Rattle.bean_grammar.specs.declared.mark.Mark.{Mark}
use Rattle.bean_grammar.specs.declared.mark.Mark.TheVariants as mark
use Rattle.bean_grammar.specs.declared.metadata.MetaEntry.{MetaEntry}
use Rattle.bean_postings.specs.declared.posting.Posting.{Posting}

abbrev pub kind_with : List Posting → DirectiveKind → DirectiveKind
kind_with ps (kinds.Transaction t) = kinds.Transaction record t { postings = ps }
kind_with ps kind = kind

-- a transaction has these postings; what is none has no postings
abbrev pub with_postings : List Posting → Directive → Directive
with_postings ps d = record d { kind = kind_with ps d.kind }

-- What is pushed goes behind a transaction's own tags and entries, and to no other directive.

abbrev pub with_tag : List ℕ → DirectiveKind → DirectiveKind
with_tag tag (kinds.Transaction t) =
    kinds.Transaction record t { marks = t.marks ++ mark.Tag tag ∷ [] }
with_tag tag kind = kind

abbrev pub entries_behind : DirectiveKind → List MetaEntry → List MetaEntry → List MetaEntry
entries_behind (kinds.Transaction t) own given = own ++ given
entries_behind kind own given = own

abbrev pub marks_behind : List Mark → DirectiveKind → DirectiveKind
marks_behind given (kinds.Transaction t) = kinds.Transaction record t { marks = t.marks ++ given }
marks_behind given kind = kind

abbrev pub with_given : List Mark → List MetaEntry → Directive → Directive
with_given marks entries d =
    record d {
      kind = marks_behind marks d.kind;
      metadata = entries_behind d.kind d.metadata entries;
    }

abbrev pub with_pushed : Pushed → Directive → Directive
with_pushed (pushed.Tag tag) d = record d { kind = with_tag tag d.kind }
with_pushed (pushed.Entry e) d =
    record d { metadata = entries_behind d.kind d.metadata (e ∷ []) }
