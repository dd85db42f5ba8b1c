-- What the texts of a ledger say together.
use Rattle.std.specs.Prelude.{◌≡◌, ℕ, ◌+◌, List, [], ◌∷◌, ◌++◌, Option, Some, None, fold, map}
use Rattle.std.specs.List.{flat_map}
use Rattle.bean_base.specs.declared.fault.Fault.{Fault}
use Rattle.bean_directives.specs.declared.directive.Directive.{Directive}
use Rattle.bean_directives.specs.declared.undated.Setting.{Setting}
use Rattle.bean_directives.specs.declared.undated.SettingKind.{SettingKind}
use Rattle.bean_directives.specs.declared.undated.SettingKind.TheVariants as kind
use Rattle.bean_loaded.specs.Loaded.{Loaded}
use Rattle.bean_load.specs.Order.{AreInOrder, AreSettingsInOrder}
use Rattle.bean_load.specs.Placed.{parts_of, placed_directive, placed_setting}
use Rattle.bean_load.specs.Texts.{File, Texts}
use Rattle.bean_loaded.specs.declared.loaded.MethodLine.{MethodLine}
use Rattle.bean_loaded.specs.declared.placed.Placed.{Placed}
use Rattle.bean_load.specs.declared.texts.Part.{Part}
use Rattle.bean_parser.specs.Parsed.{IsParsed}
use Rattle.bean_parser.specs.declared.parse.Parsed.{Parsed}

-- each text says its own
abbrev pub AreParsed : List File → List Parsed → Type 0
AreParsed [] parsed = parsed ≡ []
AreParsed (f ∷ fs) [] = ⊥
AreParsed (f ∷ fs) (p ∷ ps) = IsParsed f.text p × AreParsed fs ps

-- What texts say, those from the nth on, with its places.

abbrev pub directives_in : List Part → ℕ → List Parsed → List (Placed Directive)
directives_in parts n [] = []
directives_in parts n (p ∷ ps) =
    map (placed_directive n (parts_of n 0 parts)) p.directives ++ directives_in parts (n + 1) ps

abbrev pub settings_in : List Part → ℕ → List Parsed → List (Placed Setting)
settings_in parts n [] = []
settings_in parts n (p ∷ ps) =
    map (placed_setting n (parts_of n 0 parts)) p.settings ++ settings_in parts (n + 1) ps

abbrev pub fault_in : ℕ → Fault → Fault
fault_in n f = record f { place = record f.place { file = n } }

abbrev pub faults_in : ℕ → List Parsed → List Fault
faults_in n [] = []
faults_in n (p ∷ ps) = map (fault_in n) p.faults ++ faults_in (n + 1) ps

-- a later title stands in place of an earlier one
abbrev pub title_behind : Option (List ℕ) → SettingKind → Option (List ℕ)
title_behind title (kind.Title t) = Some t
title_behind title other = title

abbrev pub title_in : List (Placed Setting) → Option (List ℕ)
title_in settings = fold (λ title s. title_behind title s.item.kind) None settings

abbrev pub operating_of : SettingKind → List (List ℕ)
operating_of (kind.OperatingCurrency c) = c ∷ []
operating_of other = []

abbrev pub method_of : ℕ → ℕ → SettingKind → List MethodLine
method_of file line (kind.BookingMethod m) =
    record { place = record { file = file; line = line }; method = m } ∷ []
method_of file line other = []

pub record IsLoaded (texts : Texts) (l : Loaded) : Type 0 where
  pub parsed : List Parsed
  pub settings : List (Placed Setting)
  pub are_parsed : AreParsed texts.files parsed
  pub in_order : AreSettingsInOrder (settings_in texts.parts 0 parsed) settings
  pub directives : AreInOrder (directives_in texts.parts 0 parsed) l.directives
  pub faults : l.faults ≡ faults_in 0 parsed ++ texts.faults
  pub title : l.title ≡ title_in settings
  pub operating : l.operating ≡ flat_map (λ s. operating_of s.item.kind) settings
  pub methods : l.methods ≡ flat_map (λ s. method_of s.file s.item.line s.item.kind) settings
