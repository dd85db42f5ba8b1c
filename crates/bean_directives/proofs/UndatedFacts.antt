-- What the rules of lines without a day read.
use Rattle.std.proofs.Common.{◌≡◌, ℕ, Bool, false, List, Option, refl, sym}
use Rattle.std.specs.Prelude.{codes, if◌then◌else◌}
use Rattle.std.specs.Str.{bytes_eq}
use Rattle.theory.specs.Form.{Reads, HasNone, made, ◌<+>◌, due}
use Rattle.bean_grammar.proofs.AppliedFacts.{reads_first, no_first, reads_next}
use Rattle.bean_grammar.specs.declared.metadata.MetaEntry.{MetaEntry}
use Rattle.bean_grammar.specs.declared.ranged.Ranged.{Ranged}
use Rattle.bean_grammar.specs.declared.ranged.Ranged.TheVariants.{Within}
use Rattle.bean_grammar.specs.Lexeme.{Lexeme, begins_with_text}
use Rattle.bean_grammar.specs.Literal.{text}
use Rattle.bean_grammar.specs.Metadata.{entry}
use Rattle.bean_directives.specs.declared.undated.UndatedKind.{UndatedKind}
use Rattle.bean_directives.specs.declared.undated.UndatedKind.TheVariants as kinds
use Rattle.bean_directives.specs.declared.undated.SettingKind.TheVariants as settings
use Rattle.bean_directives.specs.Undated.{option_of, option, plugin_of, plugin, push_entry_of}
use Rattle.bean_directives.specs.Undated.{push_entry}

pub reads_option :
    (ls : List Lexeme) (n : List ℕ) (mid : List Lexeme) (t : List ℕ) (rest : List Lexeme)
    → Reads text ls n mid → Reads text mid t rest → Reads option ls (option_of n t) rest
reads_option ls n mid t rest q r =
    reads_next (made option_of <+> text) text ls (option_of n) mid t rest (λ r. refl)
    (reads_first option_of text ls n mid q) r

pub reads_plugin :
    (ls : List Lexeme) (n : List ℕ) (mid : List Lexeme) (t : Option (List ℕ)) (rest : List Lexeme)
    → Reads text ls n mid → Reads (due begins_with_text text) mid t rest
    → Reads plugin ls (plugin_of n t) rest
reads_plugin ls n mid t rest q r =
    reads_next (made plugin_of <+> text) (due begins_with_text text) ls (plugin_of n) mid t rest
    (λ r. refl) (reads_first plugin_of text ls n mid q) r

pub reads_push_entry : (ls : List Lexeme) (e : Ranged MetaEntry) (rest : List Lexeme)
    → Reads entry ls e rest → Reads push_entry ls (push_entry_of e) rest
reads_push_entry ls e rest r = reads_first push_entry_of entry ls e rest r

pub none_push_entry : (ls : List Lexeme) → HasNone entry ls → HasNone push_entry ls
none_push_entry ls none = no_first push_entry_of entry ls none

-- Options.

abbrev chosen : Bool → Bool → Bool → List ℕ → Ranged UndatedKind
chosen is_title is_currency is_method value =
    Within (if is_title then kinds.Setting (settings.Title value)
    else if is_currency then kinds.Setting (settings.OperatingCurrency value)
    else if is_method then kinds.Setting (settings.BookingMethod value)
    else kinds.Ignored)

pub ignored : (name value : List ℕ) → bytes_eq name (codes "title") ≡ false
    → bytes_eq name (codes "operating_currency") ≡ false
    → bytes_eq name (codes "booking_method") ≡ false
    → Within kinds.Ignored ≡ option_of name value
ignored name value e f g = λ i. chosen (sym e i) (sym f i) (sym g i) value
