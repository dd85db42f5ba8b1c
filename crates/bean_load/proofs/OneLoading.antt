-- Texts say one thing together.
use Rattle.std.proofs.Common.{◌≡◌, List, [], ◌∷◌, ◌++◌, sym, ap, ◌∙◌, subst}
use Rattle.std.specs.List.{flat_map}
use Rattle.std.specs.Ordering.{nat_cmp}
use Rattle.std.proofs.lemmas.Cmp.{nat_cmp_total}
use Rattle.theory.proofs.ArrangementFacts.{one_by_key}
use Rattle.bean_load.specs.Loaded.{AreParsed, directives_in, settings_in, faults_in, title_in}
use Rattle.bean_load.specs.Loaded.{operating_of, method_of}
use Rattle.bean_load.specs.Loading.{HasOneLoading}
use Rattle.bean_load.proofs.OrderFacts.{key_total}
use Rattle.bean_load.specs.Order.{AreInOrder, AreSettingsInOrder, key_of, key_cmp}
use Rattle.bean_load.specs.Texts.{File}
use Rattle.bean_loaded.specs.declared.placed.Placed.{Placed}
use Rattle.bean_directives.specs.declared.directive.Directive.{Directive}
use Rattle.bean_directives.specs.declared.undated.Setting.{Setting}
use Rattle.bean_parser.proofs.OneReadingFacts.{one_text as one_reading}
use Rattle.bean_parser.specs.declared.parse.Parsed.{Parsed}

one_parsing : (files : List File) (ps qs : List Parsed) → AreParsed files ps → AreParsed files qs
    → ps ≡ qs
one_parsing [] ps qs h k = h ∙ sym k
one_parsing (f ∷ fs) [] qs h k = absurd h
one_parsing (f ∷ fs) (p ∷ ps) [] h k = absurd k
one_parsing (f ∷ fs) (p ∷ ps) (q ∷ qs) h k =
    ap (λ r. r ∷ ps) (one_reading f.text p q h.0 k.0)
    ∙ ap (λ rs. q ∷ rs) (one_parsing fs ps qs h.1 k.1)

one_order : (xs ys zs : List (Placed Directive)) → AreInOrder xs ys → AreInOrder xs zs → ys ≡ zs
one_order = one_by_key key_of key_cmp key_total

one_settings : (xs ys zs : List (Placed Setting)) → AreSettingsInOrder xs ys
    → AreSettingsInOrder xs zs → ys ≡ zs
one_settings = one_by_key (λ s. s.part) nat_cmp nat_cmp_total

pub one_loading : HasOneLoading
one_loading texts a b h k =
    let parsed = one_parsing texts.files h.parsed k.parsed h.are_parsed k.are_parsed in
    let settings =
    one_settings (settings_in texts.parts 0 k.parsed) h.settings k.settings
    (subst (λ ps. AreSettingsInOrder (settings_in texts.parts 0 ps) h.settings) parsed
    h.in_order) k.in_order in
    let directives =
    one_order (directives_in texts.parts 0 k.parsed) a.directives b.directives
    (subst (λ ps. AreInOrder (directives_in texts.parts 0 ps) a.directives) parsed h.directives)
    k.directives in
    let faults : a.faults ≡ b.faults =
    h.faults ∙ ap (λ ps. faults_in 0 ps ++ texts.faults) parsed ∙ sym k.faults in
    let title : a.title ≡ b.title = h.title ∙ ap title_in settings ∙ sym k.title in
    let operating : a.operating ≡ b.operating =
    h.operating ∙ ap (flat_map (λ s. operating_of s.item.kind)) settings ∙ sym k.operating in
    let methods : a.methods ≡ b.methods =
    h.methods ∙ ap (flat_map (λ s. method_of s.file s.item.line s.item.kind)) settings
    ∙ sym k.methods in
    λ i. record {
      directives = directives i;
      faults = faults i;
      title = title i;
      operating =
          operating i;
      methods = methods i;
    }
