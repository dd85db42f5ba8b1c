-- What the texts from one on say completes what is read of those before it.
use Rattle.std.proofs.Common.{◌≡◌, ℕ, ◌+◌, List, [], ◌∷◌, ◌++◌, map, refl, sym, ap, ◌∙◌}
use Rattle.std.proofs.Common.{append_assoc}
use Rattle.std.proofs.lemmas.List.{append-nil, map_push}
use Rattle.bean_directives.specs.declared.directive.Directive.{Directive}
use Rattle.bean_load.specs.declared.placed.Own.{Own}
use Rattle.bean_loaded.specs.declared.placed.Placed.{Placed}
use Rattle.bean_load.specs.Loaded.{AreParsed, directives_in, settings_in, faults_in, fault_in}
use Rattle.bean_load.specs.Loading.{AddsParsed, AreRead}
use Rattle.bean_load.specs.Placed.{parts_of, placed_directive, placed_setting}
use Rattle.bean_load.specs.Texts.{File, Texts}
use Rattle.bean_load.specs.declared.loaded.Read.{Read}
use Rattle.bean_parser.specs.Parsed.{IsParsed}
use Rattle.bean_parser.specs.declared.parse.Parsed.{Parsed}

pub record Completes (texts : Texts) (n : ℕ) (read : Read) (rest : List Parsed) : Type 0 where
  pub parsed : List Parsed
  pub are_parsed : AreParsed texts.files parsed
  pub directives :
      read.directives.items ++ directives_in texts.parts n rest ≡ directives_in texts.parts 0 parsed
  pub settings :
      read.settings.items ++ settings_in texts.parts n rest ≡ settings_in texts.parts 0 parsed
  pub faults : read.faults.items ++ faults_in n rest ≡ faults_in 0 parsed

-- whatever is still to be read, of these texts
abbrev pub IsCompleted : Texts → ℕ → Read → List File → Type 0
IsCompleted texts n read files = (rest : List Parsed) → AreParsed files rest
    → Completes texts n read rest

pub begun : (texts : Texts) (read : Read) → read.directives.items ≡ [] → read.settings.items ≡ []
    → read.faults.items ≡ [] → IsCompleted texts 0 read texts.files
begun texts read d s f = λ rest are. record {
  parsed = rest;
  are_parsed = are;
  directives = ap (λ xs. xs ++ directives_in texts.parts 0 rest) d;
  settings = ap (λ xs. xs ++ settings_in texts.parts 0 rest) s;
  faults = ap (λ xs. xs ++ faults_in 0 rest) f;
}

moved : {A : Type 0} (old new mine others whole : List A) → new ≡ old ++ mine
    → old ++ (mine ++ others) ≡ whole → new ++ others ≡ whole
moved old new mine others whole is was =
    ap (λ xs. xs ++ others) is ∙ append_assoc old mine others ∙ was

-- one directive more is placed
pub one_placed :
    (file : ℕ) (own : List Own) (ds : List Directive) (d : Directive)
    (old out new : List (Placed Directive)) (p : Placed Directive)
    → out ≡ old ++ map (placed_directive file own) ds → p ≡ placed_directive file own d
    → new ≡ out ++ p ∷ [] → new ≡ old ++ map (placed_directive file own) (ds ++ d ∷ [])
one_placed file own ds d old out new p was is added =
    added ∙ ap (λ x. out ++ x ∷ []) is ∙ ap (λ l. l ++ placed_directive file own d ∷ []) was
    ∙ append_assoc old (map (placed_directive file own) ds) (placed_directive file own d ∷ [])
    ∙ ap (λ l. old ++ l) (sym (map_push (placed_directive file own) ds d))

pub one_more :
    (texts : Texts) (n : ℕ) (old new : Read) (file : File) (files : List File) (p : Parsed)
    → IsCompleted texts n old (file ∷ files) → IsParsed file.text p
    → AddsParsed n (parts_of n 0 texts.parts) p old new → IsCompleted texts (n + 1) new files
one_more texts n old new file files p before is adds = λ rest are.
    let done = before (p ∷ rest) (is, are) in record {
      parsed = done.parsed;
      are_parsed = done.are_parsed;
      directives =
          moved old.directives.items new.directives.items
          (map (placed_directive n (parts_of n 0 texts.parts)) p.directives)
          (directives_in texts.parts (n + 1) rest) _ adds.directives done.directives;
      settings =
          moved old.settings.items new.settings.items
          (map (placed_setting n (parts_of n 0 texts.parts)) p.settings)
          (settings_in texts.parts (n + 1) rest) _ adds.settings done.settings;
      faults = moved old.faults.items new.faults.items (map (fault_in n) p.faults)
          (faults_in (n + 1) rest) _ adds.faults done.faults;
    }

pub all_read : (texts : Texts) (n : ℕ) (read : Read) → IsCompleted texts n read []
    → AreRead texts read
all_read texts n read completed =
    let done = completed [] refl in record {
      parsed = done.parsed;
      are_parsed = done.are_parsed;
      directives = sym (append-nil read.directives.items) ∙ done.directives;
      settings = sym (append-nil read.settings.items) ∙ done.settings;
      faults = sym (append-nil read.faults.items) ∙ done.faults;
    }
