-- What is pushed is small where its lexemes are short.
use Rattle.std.proofs.Common.{ℕ, Bool, true, false, cond, List, subst, codes}
use Rattle.std.specs.List.{AllByRecursion}
use Rattle.std.specs.Str.{bytes_eq}
use Rattle.theory.specs.Form.{Form, word, made, ◌<+>◌, due}
use Rattle.bean_lexer.specs.declared.kind.Keyword as keywords
use Rattle.bean_lexer.specs.declared.kind.Keyword.TheVariants as keyword
use Rattle.bean_grammar.specs.declared.ranged.Ranged.{Ranged}
use Rattle.bean_grammar.specs.Lexeme.{Lexeme, Tag, Key, Keyword, begins_with_text}
use Rattle.bean_grammar.specs.Literal.{text}
use Rattle.bean_grammar.specs.Metadata.{entry}
use Rattle.bean_directives.specs.Undated as undated
use Rattle.bean_directives.specs.Undated.{option_of, option, include_of, include, plugin_of, plugin}
use Rattle.bean_directives.specs.Undated.{push_tag_of, push_tag, pop_tag_of, pop_tag, push_entry_of}
use Rattle.bean_directives.specs.Undated.{push_entry, pop_key_of, pop_key, undated_behind, IsUndated}
use Rattle.bean_directives.specs.declared.undated.Bound.{Bound}
use Rattle.bean_directives.specs.declared.undated.Bound.TheVariants as bounds
use Rattle.bean_directives.specs.declared.undated.Pushed.{Pushed}
use Rattle.bean_directives.specs.declared.undated.Pushed.TheVariants as pushed
use Rattle.bean_directives.specs.declared.undated.SettingKind.TheVariants as settings
use Rattle.bean_directives.specs.declared.undated.UndatedKind.{UndatedKind}
use Rattle.bean_directives.specs.declared.undated.UndatedKind.TheVariants as kinds
use Rattle.bean_directives.specs.SmallPart.{IsShort, IsShortEntry}
use Rattle.bean_parser.proofs.SmallKeeping.{keeps_made, keeps_applied, keeps_due, kept}
use Rattle.bean_parser.proofs.ShortFacts.{WhenWithin, mapped}
use Rattle.bean_parser.proofs.SmallLineFacts.{IsShortLexeme, Gives, text_kept, tag_kept, key_kept}
use Rattle.bean_parser.proofs.SmallLineFacts.{entry_kept}

abbrev pub IsShortPushed : Pushed → Type 0
IsShortPushed (pushed.Tag name) = IsShort name
IsShortPushed (pushed.Entry e) = IsShortEntry e

abbrev pub IsShortBound : Bound → Type 0
IsShortBound (bounds.Push p) = IsShortPushed p
IsShortBound (bounds.Pop n) = Unit {0}

abbrev pub IsShortUndated : UndatedKind → Type 0
IsShortUndated (kinds.Bound b) = IsShortBound b
IsShortUndated k = Unit {0}

abbrev GivesUndated : Form Lexeme (Ranged UndatedKind) → Type 0
GivesUndated form = Gives (WhenWithin IsShortUndated) form

nothing_kept : GivesUndated undated.nothing
nothing_kept = record { keeps = λ ls v rest all p. absurd p }

chosen : (b : Bool) (k l : UndatedKind) → IsShortUndated k → IsShortUndated l
    → IsShortUndated (cond b k l)
chosen true k l h i = h
chosen false k l h i = i

option_short : (name value : List ℕ) → WhenWithin IsShortUndated (option_of name value)
option_short name value =
    let method =
    chosen (bytes_eq name (codes "booking_method")) (kinds.Setting (settings.BookingMethod value))
    kinds.Ignored tt tt in
    let operating =
    chosen (bytes_eq name (codes "operating_currency"))
    (kinds.Setting (settings.OperatingCurrency value))
    (cond (bytes_eq name (codes "booking_method")) (kinds.Setting (settings.BookingMethod value))
    kinds.Ignored) tt method in
    chosen (bytes_eq name (codes "title")) (kinds.Setting (settings.Title value))
    (cond (bytes_eq name (codes "operating_currency"))
    (kinds.Setting (settings.OperatingCurrency value))
    (cond (bytes_eq name (codes "booking_method")) (kinds.Setting (settings.BookingMethod value))
    kinds.Ignored)) tt operating

option_kept : GivesUndated option
option_kept =
    keeps_applied (made option_of <+> text) text text_kept
    (keeps_applied (made option_of) text text_kept
    (keeps_made option_of (λ name n value v. option_short name value)))

include_kept : GivesUndated include
include_kept =
    keeps_applied (made include_of) text text_kept (keeps_made include_of (λ name n. tt))

plugin_kept : GivesUndated plugin
plugin_kept =
    keeps_applied (made plugin_of <+> text) (due begins_with_text text)
    (keeps_due begins_with_text text text_kept)
    (keeps_applied (made plugin_of) text text_kept
    (keeps_made plugin_of (λ name n value v. tt)))

push_tag_kept : GivesUndated push_tag
push_tag_kept =
    keeps_applied (made push_tag_of) (word Tag) tag_kept (keeps_made push_tag_of (λ name n. n))

pop_tag_kept : GivesUndated pop_tag
pop_tag_kept =
    keeps_applied (made pop_tag_of) (word Tag) tag_kept (keeps_made pop_tag_of (λ name n. tt))

push_entry_kept : GivesUndated push_entry
push_entry_kept =
    keeps_applied (made push_entry_of) entry entry_kept
    (keeps_made push_entry_of
    (λ e h.
    mapped IsShortUndated (λ x. kinds.Bound (bounds.Push (pushed.Entry x))) e h (λ x k. k)))

pop_key_kept : GivesUndated pop_key
pop_key_kept =
    keeps_applied (made pop_key_of) (word Key) key_kept (keeps_made pop_key_of (λ key k. tt))

keyword_kept : (k : keywords.Keyword) → GivesUndated (undated_behind (Keyword k))
keyword_kept keyword.Option = option_kept
keyword_kept keyword.Include = include_kept
keyword_kept keyword.Plugin = plugin_kept
keyword_kept keyword.PushTag = push_tag_kept
keyword_kept keyword.PopTag = pop_tag_kept
keyword_kept keyword.PushMeta = push_entry_kept
keyword_kept keyword.PopMeta = pop_key_kept
keyword_kept _ = nothing_kept

behind_kept : (l : Lexeme) → GivesUndated (undated_behind l)
behind_kept (Keyword k) = keyword_kept k
behind_kept _ = nothing_kept

pub undated_short : (ls : List Lexeme) (k : Ranged UndatedKind) → AllByRecursion IsShortLexeme ls
    → IsUndated ls k → WhenWithin IsShortUndated k
undated_short ls k all h =
    let rest = subst (AllByRecursion IsShortLexeme) h.2 all in
    kept (undated_behind h.0) h.1 k (behind_kept h.0) rest.1 h.3
