-- Worked values of the definitions.
use Rattle.std.proofs.Common.{◌≡◌, [], ◌∷◌, Some, None, refl}
use Rattle.std.specs.Prelude.{codes}
use Rattle.theory.specs.Form.{Is}
use Rattle.bean_lexer.specs.declared.kind.Sign.TheVariants as sign
use Rattle.bean_grammar.specs.declared.ranged.Ranged.TheVariants.{Within}
use Rattle.bean_grammar.specs.Lexeme.{Account, Sign}
use Rattle.bean_directives.specs.Head.{words_of, close_of, close_line, kind_behind, nothing}
use Rattle.bean_directives.specs.Head.{ranged_option}
use Rattle.bean_directives.specs.Undated.{option_of}
use Rattle.bean_directives.specs.declared.undated.SettingKind.TheVariants as settings
use Rattle.bean_directives.specs.declared.undated.UndatedKind.TheVariants as kinds

-- one text is the narration, and of two the first is the payee
one_text : words_of (Some (codes "Bread")) None ≡ record { payee = None; narration = codes "Bread" }
one_text = refl

two_texts :
    words_of (Some (codes "Shop")) (Some (codes "Bread"))
    ≡ record { payee = Some (codes "Shop"); narration = codes "Bread" }
two_texts = refl

no_text : words_of None None ≡ record { payee = None; narration = [] }
no_text = refl

-- close Assets:Cash
closing_line : Is close_line (Account (codes "Assets:Cash") ∷ []) (close_of (codes "Assets:Cash"))
closing_line = (close_of, codes "Assets:Cash", _, (refl, refl), refl, refl)

-- behind a comma there is no directive
no_kind : kind_behind (Sign sign.Comma) ≡ nothing
no_kind = refl

-- a tolerance that isn't written is in range
no_tolerance : ranged_option None ≡ Within None
no_tolerance = refl

title : option_of (codes "title") (codes "Home")
    ≡ Within (kinds.Setting (settings.Title (codes "Home")))
title = refl

other_option : option_of (codes "titel") (codes "Home") ≡ Within kinds.Ignored
other_option = refl
