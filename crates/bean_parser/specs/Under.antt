-- The lines under a directive's first one, and what each adds to those above it.
use Rattle.std.specs.Prelude.{◌≡◌, Bool, true, false, List, [], ◌∷◌, ◌++◌, Option, Some, None}
use Rattle.theory.specs.Form.{Is}
use Rattle.bean_grammar.specs.declared.metadata.MetaEntry.{MetaEntry}
use Rattle.bean_postings.specs.declared.posting.Posting.{Posting}
use Rattle.bean_grammar.specs.declared.ranged.Ranged.TheVariants.{Within, Outside}
use Rattle.bean_postings.specs.Details as below
use Rattle.bean_grammar.specs.Mark.{some_marks}
use Rattle.bean_grammar.specs.Metadata.{entry}
use Rattle.bean_postings.specs.Posting.{posting}
use Rattle.bean_parser.specs.Block.{Line}
use Rattle.bean_parser.specs.declared.under.Body.{Body}
use Rattle.bean_parser.specs.declared.under.LineKind.{LineKind}
use Rattle.bean_parser.specs.declared.under.LineKind.TheVariants as kinds

-- under a transaction stand entries, tags and links, and postings; under other directives entries
abbrev pub IsLine : Bool → Line → LineKind → Type 0
IsLine in_transaction l (kinds.Entry e) = Is entry l.lexemes e
IsLine in_transaction l (kinds.Marks ms) = (in_transaction ≡ true) × Is some_marks l.lexemes ms
IsLine in_transaction l (kinds.Posting p) =
    (in_transaction ≡ true) × Is (posting l.number) l.lexemes p

abbrev pub AreLines : Bool → List Line → List LineKind → Type 0
AreLines in_transaction [] ks = ks ≡ []
AreLines in_transaction (l ∷ ls) [] = ⊥
AreLines in_transaction (l ∷ ls) (k ∷ ks) =
    IsLine in_transaction l k × AreLines in_transaction ls ks

-- What each line adds to those above it.

abbrev pub no_lines : Body
no_lines = record { metadata = []; marks = []; before = []; last = None; is_in_range = true }

abbrev pub under_posting : Posting → MetaEntry → Posting
under_posting p e = record p { details = below.with_entry p.details e }

-- an entry belongs to the posting above it, or to the directive where no posting precedes
abbrev pub with_entry : Body → Option Posting → MetaEntry → Body
with_entry b None e = record b { metadata = b.metadata ++ e ∷ [] }
with_entry b (Some p) e = record b { last = Some (under_posting p e) }

abbrev pub all_before : List Posting → Option Posting → List Posting
all_before ps None = ps
all_before ps (Some p) = ps ++ p ∷ []

abbrev pub with_posting : Body → Posting → Body
with_posting b p = record b { before = all_before b.before b.last; last = Some p }

abbrev pub with_line : Body → LineKind → Body
with_line b (kinds.Entry (Within e)) = with_entry b b.last e
with_line b (kinds.Entry Outside) = record b { is_in_range = false }
with_line b (kinds.Marks ms) = record b { marks = b.marks ++ ms }
with_line b (kinds.Posting (Within p)) = with_posting b p
with_line b (kinds.Posting Outside) = record b { is_in_range = false }

abbrev pub with_lines : Body → List LineKind → Body
with_lines b [] = b
with_lines b (k ∷ ks) = with_lines (with_line b k) ks

-- what a line says that is a posting in range
abbrev pub said_posting : Posting → LineKind
said_posting p = kinds.Posting (Within p)

abbrev pub postings_in : Body → List Posting
postings_in b = all_before b.before b.last
