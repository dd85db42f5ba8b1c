-- First lines: what they are, and that they are nothing else.
use Rattle.std.proofs.Common.{◌≡◌, ℕ, false, List, [], ◌∷◌, refl, sym, ◌∙◌, subst}
use Rattle.theory.specs.Form.{Reads, HasNone, Is}
use Rattle.theory.proofs.FormFacts.{is_all, none_whole, more_than_whole}
use Rattle.bean_base.specs.declared.days.Day as days
use Rattle.bean_lexer.specs.declared.kind.Keyword.TheVariants as keyword
use Rattle.bean_lexer.specs.declared.kind.Sign.TheVariants as sign
use Rattle.bean_grammar.specs.declared.ranged.Ranged.{Ranged}
use Rattle.bean_grammar.specs.Lexeme.{Lexeme, Day, Number, Text, Account, Currency, Tag, Link, Key}
use Rattle.bean_grammar.specs.Lexeme.{Keyword, Sign, Fault}
use Rattle.bean_grammar.specs.Literal.{day}
use Rattle.bean_directives.specs.Head.{kind_behind, IsHead, IsNoHead}
use Rattle.bean_directives.specs.Undated.{undated_behind, IsUndated, IsNotUndated}
use Rattle.bean_directives.specs.declared.directive.DirectiveKind.{DirectiveKind}
use Rattle.bean_directives.specs.declared.undated.UndatedKind.{UndatedKind}

pub kind_ends : (l : Lexeme) → (kind_behind l).goes_on [] ≡ false
kind_ends (Day bs) = refl
kind_ends (Number bs) = refl
kind_ends (Text bs) = refl
kind_ends (Account bs) = refl
kind_ends (Currency bs) = refl
kind_ends (Tag bs) = refl
kind_ends (Link bs) = refl
kind_ends (Key bs) = refl
kind_ends (Sign sign.Star) = refl
kind_ends (Sign sign.Bang) = refl
kind_ends (Sign sign.Comma) = refl
kind_ends (Sign sign.Plus) = refl
kind_ends (Sign sign.Minus) = refl
kind_ends (Sign sign.OpenParenthesis) = refl
kind_ends (Sign sign.CloseParenthesis) = refl
kind_ends (Sign sign.OpenBrace) = refl
kind_ends (Sign sign.CloseBrace) = refl
kind_ends (Sign sign.OpenBraces) = refl
kind_ends (Sign sign.CloseBraces) = refl
kind_ends (Sign sign.At) = refl
kind_ends (Sign sign.AtAt) = refl
kind_ends (Sign sign.Tilde) = refl
kind_ends (Sign sign.Hash) = refl
kind_ends (Keyword keyword.Open) = refl
kind_ends (Keyword keyword.Close) = refl
kind_ends (Keyword keyword.Commodity) = refl
kind_ends (Keyword keyword.Txn) = refl
kind_ends (Keyword keyword.Balance) = refl
kind_ends (Keyword keyword.Pad) = refl
kind_ends (Keyword keyword.Note) = refl
kind_ends (Keyword keyword.Document) = refl
kind_ends (Keyword keyword.Price) = refl
kind_ends (Keyword keyword.Event) = refl
kind_ends (Keyword keyword.Query) = refl
kind_ends (Keyword keyword.Custom) = refl
kind_ends (Keyword keyword.Option) = refl
kind_ends (Keyword keyword.Include) = refl
kind_ends (Keyword keyword.Plugin) = refl
kind_ends (Keyword keyword.PushTag) = refl
kind_ends (Keyword keyword.PopTag) = refl
kind_ends (Keyword keyword.PushMeta) = refl
kind_ends (Keyword keyword.PopMeta) = refl
kind_ends (Keyword keyword.True) = refl
kind_ends (Keyword keyword.False) = refl
kind_ends Fault = refl

pub undated_ends : (l : Lexeme) → (undated_behind l).goes_on [] ≡ false
undated_ends (Day bs) = refl
undated_ends (Number bs) = refl
undated_ends (Text bs) = refl
undated_ends (Account bs) = refl
undated_ends (Currency bs) = refl
undated_ends (Tag bs) = refl
undated_ends (Link bs) = refl
undated_ends (Key bs) = refl
undated_ends (Sign sign.Star) = refl
undated_ends (Sign sign.Bang) = refl
undated_ends (Sign sign.Comma) = refl
undated_ends (Sign sign.Plus) = refl
undated_ends (Sign sign.Minus) = refl
undated_ends (Sign sign.OpenParenthesis) = refl
undated_ends (Sign sign.CloseParenthesis) = refl
undated_ends (Sign sign.OpenBrace) = refl
undated_ends (Sign sign.CloseBrace) = refl
undated_ends (Sign sign.OpenBraces) = refl
undated_ends (Sign sign.CloseBraces) = refl
undated_ends (Sign sign.At) = refl
undated_ends (Sign sign.AtAt) = refl
undated_ends (Sign sign.Tilde) = refl
undated_ends (Sign sign.Hash) = refl
undated_ends (Keyword keyword.Open) = refl
undated_ends (Keyword keyword.Close) = refl
undated_ends (Keyword keyword.Commodity) = refl
undated_ends (Keyword keyword.Txn) = refl
undated_ends (Keyword keyword.Balance) = refl
undated_ends (Keyword keyword.Pad) = refl
undated_ends (Keyword keyword.Note) = refl
undated_ends (Keyword keyword.Document) = refl
undated_ends (Keyword keyword.Price) = refl
undated_ends (Keyword keyword.Event) = refl
undated_ends (Keyword keyword.Query) = refl
undated_ends (Keyword keyword.Custom) = refl
undated_ends (Keyword keyword.Option) = refl
undated_ends (Keyword keyword.Include) = refl
undated_ends (Keyword keyword.Plugin) = refl
undated_ends (Keyword keyword.PushTag) = refl
undated_ends (Keyword keyword.PopTag) = refl
undated_ends (Keyword keyword.PushMeta) = refl
undated_ends (Keyword keyword.PopMeta) = refl
undated_ends (Keyword keyword.True) = refl
undated_ends (Keyword keyword.False) = refl
undated_ends Fault = refl

same_list : (l m : Lexeme) (ls ms : List Lexeme) → l ∷ ls ≡ m ∷ ms → (l ≡ m) × (ls ≡ ms)
same_list l m ls ms e = (cc, cc)

not_empty : (l : Lexeme) (ls : List Lexeme) → [] ≡ l ∷ ls → ⊥
not_empty l ls e = cc

-- Heads.

-- a head goes on as it was read
behind_day :
    (ls : List Lexeme) (d : Ranged days.Day) (mid : List Lexeme) (e : Ranged days.Day)
    (k : Ranged DirectiveKind) → Reads day ls d mid → (h : IsHead ls e k)
    → (d ≡ e) × (l : Lexeme) × (rest : List Lexeme) × (mid ≡ l ∷ rest) × Is (kind_behind l) rest k
behind_day ls d mid e k r h = let o = r.only e h.0 h.3 refl in (o.0, h.1, h.2, o.1 ∙ h.4, h.5)

pub head_without_day : (ls : List Lexeme) → HasNone day ls → IsNoHead ls
head_without_day ls none d k h = none d h.0 h.3 refl

pub head_ends_early : (ls : List Lexeme) (d : Ranged days.Day) (mid : List Lexeme)
    → Reads day ls d mid → mid ≡ [] → IsNoHead ls
head_ends_early ls d mid r end e k h = let b = behind_day ls d mid e k r h in
    not_empty b.1 b.2 (sym end ∙ b.3)

-- what is behind the lexeme of a head is of its kind
pub behind_kind :
    (ls : List Lexeme) (d : Ranged days.Day) (mid : List Lexeme) (l : Lexeme) (rest : List Lexeme)
    (e : Ranged days.Day) (k : Ranged DirectiveKind)
    → Reads day ls d mid → mid ≡ l ∷ rest → IsHead ls e k → (d ≡ e) × Is (kind_behind l) rest k
behind_kind ls d mid l rest e k r at h =
    let b = behind_day ls d mid e k r h in
    let same = same_list b.1 l b.2 rest (sym b.3 ∙ at) in (
      b.0,
      subst (λ m. (kind_behind m).reads rest k []) same.0
          (subst (λ m. (kind_behind b.1).reads m k []) same.1 b.4),
    )

pub head_of_no_kind :
    (ls : List Lexeme) (d : Ranged days.Day) (mid : List Lexeme) (l : Lexeme) (rest : List Lexeme)
    → Reads day ls d mid → mid ≡ l ∷ rest → HasNone (kind_behind l) rest → IsNoHead ls
head_of_no_kind ls d mid l rest r at none e k h =
    none_whole (kind_behind l) rest (kind_ends l) none k (behind_kind ls d mid l rest e k r at h).1

pub head_goes_on :
    (ls : List Lexeme) (d : Ranged days.Day) (mid : List Lexeme) (l : Lexeme) (rest : List Lexeme)
    (v : Ranged DirectiveKind) (after : List Lexeme) (m : Lexeme) (more : List Lexeme)
    → Reads day ls d mid → mid ≡ l ∷ rest → Reads (kind_behind l) rest v after → after ≡ m ∷ more
    → IsNoHead ls
head_goes_on ls d mid l rest v after m more r at s next e k h =
    more_than_whole (kind_behind l) rest v m more (kind_ends l)
    (subst (λ x. Reads (kind_behind l) rest v x) next s) k
    (behind_kind ls d mid l rest e k r at h).1

pub head_is :
    (ls : List Lexeme) (d : Ranged days.Day) (mid : List Lexeme) (l : Lexeme) (rest : List Lexeme)
    (k : Ranged DirectiveKind) (after : List Lexeme)
    → Reads day ls d mid → mid ≡ l ∷ rest → Reads (kind_behind l) rest k after → after ≡ []
    → IsHead ls d k
head_is ls d mid l rest k after r at s end =
    (mid, l, rest, r.read, at, is_all (kind_behind l) rest k after s end)

-- Lines without a day.

pub behind_word : (ls : List Lexeme) (l : Lexeme) (rest : List Lexeme) (k : Ranged UndatedKind)
    → ls ≡ l ∷ rest → IsUndated ls k → Is (undated_behind l) rest k
behind_word ls l rest k at h =
    let same = same_list h.0 l h.1 rest (sym h.2 ∙ at) in
    subst (λ m. (undated_behind m).reads rest k []) same.0
    (subst (λ m. (undated_behind h.0).reads m k []) same.1 h.3)

pub undated_ends_early : (ls : List Lexeme) → ls ≡ [] → IsNotUndated ls
undated_ends_early ls end k h = not_empty h.0 h.1 (sym end ∙ h.2)

pub undated_of_no_kind : (ls : List Lexeme) (l : Lexeme) (rest : List Lexeme) → ls ≡ l ∷ rest
    → HasNone (undated_behind l) rest → IsNotUndated ls
undated_of_no_kind ls l rest at none k h =
    none_whole (undated_behind l) rest (undated_ends l) none k (behind_word ls l rest k at h)

pub undated_goes_on :
    (ls : List Lexeme) (l : Lexeme) (rest : List Lexeme) (v : Ranged UndatedKind)
    (after : List Lexeme) (m : Lexeme) (more : List Lexeme)
    → ls ≡ l ∷ rest → Reads (undated_behind l) rest v after → after ≡ m ∷ more → IsNotUndated ls
undated_goes_on ls l rest v after m more at s next k h =
    more_than_whole (undated_behind l) rest v m more (undated_ends l)
    (subst (λ x. Reads (undated_behind l) rest v x) next s) k (behind_word ls l rest k at h)

pub undated_is :
    (ls : List Lexeme) (l : Lexeme) (rest : List Lexeme) (k : Ranged UndatedKind)
    (after : List Lexeme)
    → ls ≡ l ∷ rest → Reads (undated_behind l) rest k after → after ≡ [] → IsUndated ls k
undated_is ls l rest k after at s end = (l, rest, at, is_all (undated_behind l) rest k after s end)

-- One reading.

cannot_be_day : (bs : List ℕ) (l : Lexeme) (rest more : List Lexeme) → Day bs ∷ rest ≡ l ∷ more
    → (k : Ranged UndatedKind) → Is (undated_behind l) more k → ⊥
cannot_be_day bs l rest more e k h =
    subst (λ m. (undated_behind m).reads more k []) (sym (same_list (Day bs) l rest more e).0) h

pub dated_or_undated :
    (ls : List Lexeme) (d : Ranged days.Day) (k : Ranged DirectiveKind) (j : Ranged UndatedKind)
    → IsHead ls d k → IsUndated ls j → ⊥
dated_or_undated ls d k j h u = cannot_be_day h.3.0 u.0 h.0 u.1 (sym h.3.1 ∙ u.2) j u.3
