-- What is kept of blocks, one after the other.
use Rattle.std.proofs.Common.{◌≡◌, ℕ, ◌+◌, List, [], ◌∷◌, ◌++◌, length, refl, sym, ◌∙◌}
use Rattle.std.proofs.Common.{ap, subst}
use Rattle.std.proofs.Common.{append_assoc, arith}
use Rattle.std.proofs.lemmas.List.{append-nil}
use Rattle.std.specs.List.{flat_map}
use Rattle.bean_parser.specs.Gathered.{AddsBlock, IsGathered, undated_at}
use Rattle.bean_parser.specs.Parsed.{directives_in, settings_in, faults_in, bounds_in, all_bounds}
use Rattle.bean_base.specs.declared.fault.Fault as faults
use Rattle.bean_base.specs.declared.fault.FaultKind.TheVariants.{Ignored}
use Rattle.bean_parser.specs.Outcome.{fault_at}
use Rattle.bean_parser.specs.Taken.{TakesDirective}
use Rattle.bean_lexer.specs.declared.lexer.Lexer.{Lexer}
use Rattle.bean_parser.specs.declared.block.Outcome.{Outcome}
use Rattle.bean_parser.specs.declared.block.Outcome.TheVariants as outcome
use Rattle.bean_directives.specs.declared.directive.Directive as directives
use Rattle.bean_parser.specs.declared.statement.Statement.{Statement}
use Rattle.bean_parser.specs.declared.statement.Statement.TheVariants as statement
use Rattle.bean_directives.specs.declared.undated.Bound.{Bound}
use Rattle.bean_directives.specs.declared.undated.SettingKind.{SettingKind}
use Rattle.bean_directives.specs.declared.undated.UndatedKind.{UndatedKind}
use Rattle.bean_directives.specs.declared.undated.UndatedKind.TheVariants as kind
use Rattle.bean_parser.specs.declared.parse.Gathered.{Gathered}

one_more : {A B : Type 0} (f : A → List B) (xs : List A) (x : A)
    → flat_map f (xs ++ x ∷ []) ≡ flat_map f xs ++ f x
one_more f [] x = append-nil (f x)
one_more f (y ∷ ys) x =
    ap (λ r. f y ++ r) (one_more f ys x) ∙ sym (append_assoc (f y) (flat_map f ys) (f x))

length_append : {A : Type 0} (xs ys : List A) → length (xs ++ ys) ≡ length xs + length ys
length_append [] ys = omega arith
length_append (x ∷ xs) ys = let e = length_append xs ys in omega (arith, e)

bounds_more : (place : ℕ) (os : List Outcome) (o : Outcome)
    → all_bounds place (os ++ o ∷ [])
    ≡ all_bounds place os ++ bounds_in (place + length (flat_map directives_in os)) o
bounds_more place [] o = append-nil (bounds_in place o) ∙ ap (λ n. bounds_in n o) (omega arith)
bounds_more place (p ∷ os) o =
    let here = bounds_in place p in
    let next = place + length (directives_in p) in
    let far :
    next + length (flat_map directives_in os)
    ≡ place + length (directives_in p ++ flat_map directives_in os) =
    omega (arith, length_append (directives_in p) (flat_map directives_in os)) in
    ap (λ r. here ++ r) (bounds_more next os o ∙ ap (λ n. all_bounds next os ++ bounds_in n o) far)
    ∙ sym (append_assoc here (all_bounds next os)
    (bounds_in (place + length (directives_in p ++ flat_map directives_in os)) o))

bounds_from_first : (os : List Outcome) (o : Outcome)
    → all_bounds 0 (os ++ o ∷ [])
    ≡ all_bounds 0 os ++ bounds_in (length (flat_map directives_in os)) o
bounds_from_first os o =
    let n = length (flat_map directives_in os) in
    let same : 0 + n ≡ n = omega arith in
    bounds_more 0 os o ∙ ap (λ k. all_bounds 0 os ++ bounds_in k o) same

-- what a block adds
pub record Adds (o : Outcome) (g g' : Gathered) : Type 0 where
  pub directives : g'.directives ≡ g.directives ++ directives_in o
  pub settings : g'.settings.items ≡ g.settings.items ++ settings_in o
  pub bounds : g'.bounds.items ≡ g.bounds.items ++ bounds_in (length g.directives) o
  pub faults : g'.faults.items ≡ g.faults.items ++ faults_in o

pub gathered_more : (os : List Outcome) (o : Outcome) (g g' : Gathered) → Adds o g g'
    → IsGathered os g → IsGathered (os ++ o ∷ []) g'
gathered_more os o g g' a is = record {
  directives =
      a.directives ∙ ap (λ x. x ++ directives_in o) is.directives
      ∙ sym (one_more directives_in os o);
  settings =
      a.settings ∙ ap (λ x. x ++ settings_in o) is.settings ∙ sym (one_more settings_in os o);
  bounds = a.bounds ∙ (λ i. is.bounds i ++ bounds_in (length (is.directives i)) o)
      ∙ sym (bounds_from_first os o);
  faults = a.faults ∙ ap (λ x. x ++ faults_in o) is.faults ∙ sym (one_more faults_in os o);
}

-- what each kind of block adds

pub fault_adds : (os : List Outcome) (o : Outcome) (f : faults.Fault) (g g' : Gathered)
    → o ≡ outcome.Fault f → g'.directives ≡ g.directives
    → g'.settings.items ≡ g.settings.items → g'.bounds.items ≡ g.bounds.items
    → g'.faults.items ≡ g.faults.items ++ f ∷ [] → IsGathered os g → IsGathered (os ++ o ∷ []) g'
fault_adds os o f g g' is ds ss bs fs h =
    subst (λ x. IsGathered (os ++ x ∷ []) g') (sym is)
    (gathered_more os (outcome.Fault f) g g' record {
      directives =
          ds ∙ sym (append-nil g.directives);
      settings = ss ∙ sym (append-nil g.settings.items);
      bounds = bs ∙ sym (append-nil g.bounds.items);
      faults = fs;
    } h)

pub directive_adds :
    (os : List Outcome) (s : Statement) (d : directives.Directive) (g g' : Gathered)
    → s ≡ statement.Directive d → g'.directives ≡ g.directives ++ d ∷ []
    → g'.settings.items ≡ g.settings.items
    → g'.bounds.items ≡ g.bounds.items → g'.faults.items ≡ g.faults.items → IsGathered os g
    → IsGathered (os ++ outcome.Statement s ∷ []) g'
directive_adds os s d g g' is ds ss bs fs h =
    subst (λ x. IsGathered (os ++ outcome.Statement x ∷ []) g') (sym is)
    (gathered_more os (outcome.Statement (statement.Directive d)) g g' record {
      directives =
          ds;
      settings = ss ∙ sym (append-nil g.settings.items);
      bounds =
          bs ∙ sym (append-nil g.bounds.items);
      faults = fs ∙ sym (append-nil g.faults.items);
    } h)

pub setting_adds :
    (os : List Outcome) (line : ℕ) (u : UndatedKind) (k : SettingKind) (g g' : Gathered)
    → u ≡ kind.Setting k → g'.directives ≡ g.directives
    → g'.settings.items ≡ g.settings.items ++ record { line = line; kind = k } ∷ []
    → g'.bounds.items ≡ g.bounds.items → g'.faults.items ≡ g.faults.items → IsGathered os g
    → IsGathered (os ++ undated_at line u ∷ []) g'
setting_adds os line u k g g' is ds ss bs fs h =
    subst (λ x. IsGathered (os ++ undated_at line x ∷ []) g') (sym is)
    (gathered_more os (undated_at line (kind.Setting k)) g g' record {
      directives =
          ds ∙ sym (append-nil g.directives);
      settings = ss;
      bounds =
          bs ∙ sym (append-nil g.bounds.items);
      faults = fs ∙ sym (append-nil g.faults.items);
    } h)

pub ignored_adds : (os : List Outcome) (line : ℕ) (u : UndatedKind) (g g' : Gathered)
    → u ≡ kind.Ignored → g'.directives ≡ g.directives
    → g'.settings.items ≡ g.settings.items
    → g'.bounds.items ≡ g.bounds.items
    → g'.faults.items ≡ g.faults.items ++ fault_at Ignored line ∷ [] → IsGathered os g
    → IsGathered (os ++ undated_at line u ∷ []) g'
ignored_adds os line u g g' is ds ss bs fs h =
    subst (λ x. IsGathered (os ++ undated_at line x ∷ []) g') (sym is)
    (gathered_more os (undated_at line kind.Ignored) g g' record {
      directives =
          ds ∙ sym (append-nil g.directives);
      settings = ss ∙ sym (append-nil g.settings.items);
      bounds = bs ∙ sym (append-nil g.bounds.items);
      faults = fs;
    } h)

pub bound_adds : (os : List Outcome) (line : ℕ) (u : UndatedKind) (b : Bound) (g g' : Gathered)
    → u ≡ kind.Bound b → g'.directives ≡ g.directives
    → g'.settings.items ≡ g.settings.items
    → g'.bounds.items ≡ g.bounds.items
    ++ record { line = line; place = length g.directives; bound = b } ∷ []
    → g'.faults.items ≡ g.faults.items → IsGathered os g
    → IsGathered (os ++ undated_at line u ∷ []) g'
bound_adds os line u b g g' is ds ss bs fs h =
    subst (λ x. IsGathered (os ++ undated_at line x ∷ []) g') (sym is)
    (gathered_more os (undated_at line (kind.Bound b)) g g' record {
      directives =
          ds ∙ sym (append-nil g.directives);
      settings = ss ∙ sym (append-nil g.settings.items);
      bounds = bs;
      faults = fs ∙ sym (append-nil g.faults.items);
    } h)

-- what a transaction adds that is read line by line, and that nothing is added

pub transaction_adds :
    (before after : Lexer) (d : directives.Directive) (g g' : Gathered) → TakesDirective d before after
    → g'.directives ≡ g.directives ++ d ∷ [] → g'.settings.items ≡ g.settings.items
    → g'.bounds.items ≡ g.bounds.items → g'.faults.items ≡ g.faults.items
    → AddsBlock before g after g'
transaction_adds before after d g g' taken ds ss bs fs = record {
  block = taken.0;
  outcome = outcome.Statement (statement.Directive d);
  taken = taken.1;
  gives = taken.2;
  adds = λ os h. directive_adds os (statement.Directive d) d g g' refl ds ss bs fs h;
}

pub none_added : (os : List Outcome) (g g' : Gathered) → g'.directives ≡ g.directives
    → g'.settings.items ≡ g.settings.items → g'.bounds.items ≡ g.bounds.items
    → g'.faults.items ≡ g.faults.items → IsGathered os g → IsGathered os g'
none_added os g g' ds ss bs fs h = record {
  directives = ds ∙ h.directives;
  settings = ss ∙ h.settings;
  bounds = bs ∙ h.bounds;
  faults = fs ∙ h.faults;
}
