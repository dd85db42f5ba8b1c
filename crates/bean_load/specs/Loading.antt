-- What is kept of texts that were read.
use Rattle.std.specs.Prelude.{◌≡◌, ℕ, List, ◌++◌, map}
use Rattle.std.specs.List.{flat_map}
use Rattle.bean_directives.specs.declared.undated.Setting.{Setting}
use Rattle.bean_load.specs.Loaded.{AreParsed, IsLoaded, directives_in, settings_in}
use Rattle.bean_loaded.specs.Loaded.{Loaded}
use Rattle.bean_load.specs.Loaded.{faults_in, fault_in, title_behind, title_in, operating_of}
use Rattle.bean_load.specs.Loaded.{method_of}
use Rattle.bean_load.specs.Placed.{placed_directive, placed_setting}
use Rattle.bean_load.specs.Texts.{Texts}
use Rattle.bean_load.specs.Turns.{AreCodesIf}
use Rattle.bean_load.specs.declared.loaded.Books.{Books}
use Rattle.bean_load.specs.declared.loaded.Read.{Read}
use Rattle.bean_load.specs.declared.placed.Own.{Own}
use Rattle.bean_loaded.specs.declared.placed.Placed.{Placed}
use Rattle.bean_parser.specs.declared.parse.Parsed.{Parsed}

-- what a text says goes behind what the texts before it say
pub record AddsParsed (file : ℕ) (own : List Own) (p : Parsed) (old new : Read) : Type 0 where
  pub directives :
      new.directives.items ≡ old.directives.items ++ map (placed_directive file own) p.directives
  pub settings : new.settings.items ≡ old.settings.items ++ map (placed_setting file own) p.settings
  pub faults : new.faults.items ≡ old.faults.items ++ map (fault_in file) p.faults
  pub codes : AreCodesIf old.directives.items old.codes → AreCodesIf new.directives.items new.codes

-- what all the texts say
pub record AreRead (texts : Texts) (read : Read) : Type 0 where
  pub parsed : List Parsed
  pub are_parsed : AreParsed texts.files parsed
  pub directives : read.directives.items ≡ directives_in texts.parts 0 parsed
  pub settings : read.settings.items ≡ settings_in texts.parts 0 parsed
  pub faults : read.faults.items ≡ faults_in 0 parsed

-- a setting goes behind those before it
pub record AddsSetting (s : Placed Setting) (old new : Books) : Type 0 where
  pub title : new.title ≡ title_behind old.title s.item.kind
  pub operating : new.operating.items ≡ old.operating.items ++ operating_of s.item.kind
  pub methods : new.methods.items ≡ old.methods.items ++ method_of s.file s.item.line s.item.kind

-- what settings in reading order say
pub record AreBooks (settings : List (Placed Setting)) (books : Books) : Type 0 where
  pub title : books.title ≡ title_in settings
  pub operating : books.operating.items ≡ flat_map (λ s. operating_of s.item.kind) settings
  pub methods :
      books.methods.items ≡ flat_map (λ s. method_of s.file s.item.line s.item.kind) settings

abbrev pub HasOneLoading : Type 0
HasOneLoading = (texts : Texts) (a b : Loaded) → IsLoaded texts a → IsLoaded texts b → a ≡ b
