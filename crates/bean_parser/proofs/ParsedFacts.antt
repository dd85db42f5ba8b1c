-- A text, block by block.
use Rattle.std.proofs.Common.{◌≡◌, ℕ, true, List, [], ◌∷◌, ◌++◌, refl, sym, ◌∙◌, subst}
use Rattle.std.proofs.Common.{append_assoc}
use Rattle.std.proofs.lemmas.List.{append-nil}
use Rattle.bean_base.specs.declared.fault.Fault as faults
use Rattle.bean_lexer.specs.Tokens.{AreTokens}
use Rattle.bean_lexer.specs.declared.token.Token.{Token}
use Rattle.bean_parser.specs.Block.{blocks}
use Rattle.bean_lexer.specs.ToCome.{ToCome}
use Rattle.bean_parser.specs.Taking.{TakesBlock}
use Rattle.bean_parser.specs.Gathered.{AddsBlock, IsGathered}
use Rattle.bean_parser.specs.Outcome.{Gives, AllGive}
use Rattle.bean_parser.specs.Parsed.{IsParsed, ComeTo, AreByLine}
use Rattle.bean_pushes.specs.Scope.{unmatched, with_pushes}
use Rattle.bean_parser.specs.declared.block.Outcome.{Outcome}
use Rattle.bean_directives.specs.declared.directive.Directive as directives
use Rattle.bean_parser.specs.declared.parse.Gathered.{Gathered}
use Rattle.bean_parser.specs.declared.parse.Parsed.{Parsed}
use Rattle.bean_lexer.specs.declared.lexer.Lexer.{Lexer}
use Rattle.bean_directives.specs.declared.undated.Setting as settings

-- what a text's blocks give begins with some outcomes
abbrev pub Begins : List ℕ → List Outcome → Type 0
Begins text os = (tokens : List Token) × AreTokens text tokens × AllGive (blocks tokens) os

-- Some blocks are read: what the tokens give that are still to be read completes what the text
-- gives.
pub record InText (text : List ℕ) (lexer : Lexer) (g : Gathered) : Type 0 where
  pub outcomes : List Outcome
  pub whole : (ts : List Token) → ToCome lexer ts → (more : List Outcome)
      → AllGive (blocks ts) more → Begins text (outcomes ++ more)
  pub gathered : IsGathered outcomes g

pub text_begins : (text : List ℕ) (lexer : Lexer) (g : Gathered)
    → ((ts : List Token) → ToCome lexer ts → AreTokens text ts) → IsGathered [] g
    → InText text lexer g
text_begins text lexer g h none =
    record {
      outcomes = [];
      whole = λ ts to_come more give. (ts, h ts to_come, give);
      gathered =
          none;
    }

pub block_more :
    (text : List ℕ) (before after : Lexer) (block : List Token) (o : Outcome)
    (g g' : Gathered) → InText text before g → TakesBlock true before block after → Gives block o
    → ((os : List Outcome) → IsGathered os g → IsGathered (os ++ o ∷ []) g') → InText text after g'
block_more text before after block o g g' p takes gives adds = record {
  outcomes = p.outcomes ++ o ∷ [];
  whole = λ ts to_come more give.
      let taken = takes ts to_come in
      let next : AllGive (blocks (block ++ ts)) (o ∷ more) =
      subst (λ bs. AllGive bs (o ∷ more)) (sym taken.1) (gives, give) in
      subst (Begins text) (sym (append_assoc p.outcomes (o ∷ []) more))
      (p.whole (block ++ ts) taken.0 (o ∷ more) next);
  gathered = adds p.outcomes p.gathered;
}

pub next_more : (text : List ℕ) (before after : Lexer) (g g' : Gathered) → InText text before g
    → AddsBlock before g after g' → InText text after g'
next_more text before after g g' p next =
    block_more text before after next.block next.outcome g g' p next.taken next.gives next.adds

pub text_ends : (text : List ℕ) (lexer : Lexer) (g : Gathered) (parsed : Parsed)
    → InText text lexer g → ToCome lexer []
    → ((os : List Outcome) → IsGathered os g → ComeTo os parsed) → IsParsed text parsed
text_ends text lexer g parsed p at come =
    let all : Begins text p.outcomes =
    subst (Begins text) (append-nil p.outcomes) (p.whole [] at [] refl) in
    (all.0, p.outcomes, all.1, all.2, come p.outcomes p.gathered)

-- what is kept comes to what is parsed
pub come_to :
    (os : List Outcome) (g : Gathered) (ds : List directives.Directive) (ss : List settings.Setting)
    (fs all : List faults.Fault) → IsGathered os g
    → ds ≡ with_pushes [] g.bounds.items g.directives
    → ss ≡ g.settings.items → all ≡ g.faults.items ++ unmatched [] g.bounds.items → AreByLine all fs
    → ComeTo os record { directives = ds; settings = ss; faults = fs }
come_to os g ds ss fs all is given same added by_line = record {
  directives = given ∙ (λ i. with_pushes [] (is.bounds i) (is.directives i));
  settings = same ∙ is.settings;
  faults = subst (λ x. AreByLine x fs) (added ∙ (λ i. is.faults i ++ unmatched [] (is.bounds i)))
      by_line;
}
