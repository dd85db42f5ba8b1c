-- What is of a kind.
use Rattle.std.specs.Prelude.{ℕ, Bool, true, false, List}
use Rattle.std.specs.Str.{bytes_eq}
use Rattle.bean_base.specs.Numeral.{is_number}
use Rattle.bean_base.specs.Name.{is_account, is_currency}
use Rattle.bean_base.specs.Day.{is_day_form}
use Rattle.bean_lexer.specs.TokenForm.{is_text, is_tag, is_link, is_key, keyword_spelling}
use Rattle.bean_lexer.specs.TokenForm.{sign_spelling}
use Rattle.bean_lexer.specs.declared.kind.Kind.{Kind}
use Rattle.bean_lexer.specs.declared.kind.Kind.TheVariants as kind

-- the form of a kind; a fault has none
abbrev pub is_of : Kind → List ℕ → Bool
is_of kind.Day bs = is_day_form bs
is_of kind.Number bs = is_number bs
is_of kind.Text bs = is_text bs
is_of kind.Account bs = is_account bs
is_of kind.Currency bs = is_currency bs
is_of kind.Tag bs = is_tag bs
is_of kind.Link bs = is_link bs
is_of kind.Key bs = is_key bs
is_of (kind.Keyword word) bs = bytes_eq bs (keyword_spelling word)
is_of (kind.Sign sign) bs = bytes_eq bs (sign_spelling sign)
is_of kind.Fault bs = false

-- what a token of a kind may be: a fault is anything
abbrev pub may_be : Kind → List ℕ → Bool
may_be kind.Day bs = is_of kind.Day bs
may_be kind.Number bs = is_of kind.Number bs
may_be kind.Text bs = is_of kind.Text bs
may_be kind.Account bs = is_of kind.Account bs
may_be kind.Currency bs = is_of kind.Currency bs
may_be kind.Tag bs = is_of kind.Tag bs
may_be kind.Link bs = is_of kind.Link bs
may_be kind.Key bs = is_of kind.Key bs
may_be (kind.Keyword word) bs = is_of (kind.Keyword word) bs
may_be (kind.Sign sign) bs = is_of (kind.Sign sign) bs
may_be kind.Fault bs = true
