-- A line that is an account, a number and a currency, or an account alone, is a posting.
use Rattle.std.proofs.Common.{◌≡◌, ℕ, ℤ, List, [], ◌∷◌, Some, None, ap, Bool}
use Rattle.theory.specs.Form.{Reads, Is}
use Rattle.bean_base.specs.declared.num.Num.{Num}
use Rattle.bean_lexer.specs.declared.kind.Sign.TheVariants.{OpenBrace, OpenBraces}
use Rattle.bean_grammar.specs.declared.ranged.Ranged.{Ranged}
use Rattle.bean_grammar.specs.declared.ranged.Ranged.TheVariants.{Within}
use Rattle.bean_grammar.specs.Amount.{amount_parts_of}
use Rattle.bean_grammar.specs.Exact.{exact, signed, written}
use Rattle.bean_grammar.proofs.NumberFacts.{small_is_worth}
use Rattle.bean_grammar.specs.Ranged.{ranged_map}
use Rattle.bean_grammar.specs.Expression.{expression, begins_with_expression}
use Rattle.bean_grammar.specs.Lexeme.{Lexeme, Account, Currency, begins_with_sign}
use Rattle.bean_grammar.specs.Lexeme.{begins_with_currency}
use Rattle.bean_grammar.proofs.AmountFacts.{reads_amount_parts, reads_currency_due}
use Rattle.bean_grammar.proofs.AmountFacts.{reads_no_currency}
use Rattle.bean_grammar.proofs.ExpressionFacts.{reads_number_due, reads_no_number}
use Rattle.bean_postings.specs.declared.cost.Cost.TheVariants as costs
use Rattle.bean_postings.specs.declared.price.Price.TheVariants as prices
use Rattle.bean_postings.specs.Posting.{begins_with_flag_sign, posting, posting_of, units_by}
use Rattle.bean_postings.specs.Price.{begins_with_price}
use Rattle.bean_postings.proofs.CostFacts.{absent_cost}
use Rattle.bean_postings.proofs.PostingFacts.{reads_no_flag, reads_addressed, reads_units}
use Rattle.bean_postings.proofs.PostingFacts.{reads_posted, reads_with_cost, posting_is}
use Rattle.bean_postings.proofs.PriceFacts.{absent_price}

pub plain_posting :
    (line : ℕ) (ls : List Lexeme) (bs : List ℕ) (mid : List Lexeme) (n : Ranged Num)
    (more : List Lexeme) (cs : List ℕ) (rest : List Lexeme)
    → ls ≡ Account bs ∷ mid → Reads expression mid n more → more ≡ Currency cs ∷ rest → rest ≡ []
    → Is (posting line) ls
    (posting_of line None bs (units_by (Some n) (Some cs)) (Within costs.Absent)
    (Within prices.Absent))
plain_posting line ls bs mid n more cs rest account number currency end =
    let address =
    reads_addressed line ls None ls bs mid (reads_no_flag ls (ap begins_with_flag_sign account))
    account in
    let units =
    reads_units mid _ rest
    (reads_amount_parts mid (Some n) more (Some cs) rest (reads_number_due mid n more number)
    (reads_currency_due more cs rest currency)) in
    let cost =
    absent_cost rest (ap (begins_with_sign OpenBrace) end) (ap (begins_with_sign OpenBraces) end) in
    posting_is line ls None bs _ (Within costs.Absent) rest (Within prices.Absent) rest
    (reads_with_cost line ls None bs _ rest (Within costs.Absent) rest
    (reads_posted line ls None bs mid _ rest address units) cost)
    (absent_price rest (ap begins_with_price end)) end

-- the same of a number whose count and decimals are known
pub small_posting :
    (line : ℕ) (ls : List Lexeme) (bs : List ℕ) (mid : List Lexeme) (minus : Bool)
    (ds : List ℕ) (more : List Lexeme) (cs : List ℕ) (rest : List Lexeme) (n : Num) (count : ℤ) (places : ℕ)
    → n.count ≡ count → n.places ≡ places
    → signed minus (written ds) ≡ Within (record { count = count; places = places })
    → ls ≡ Account bs ∷ mid
    → ((m : Ranged Num) → ranged_map exact m ≡ signed minus (written ds)
    → Reads expression mid m more)
    → more ≡ Currency cs ∷ rest → rest ≡ []
    → Is (posting line) ls
    (posting_of line None bs (units_by (Some (Within n)) (Some cs)) (Within costs.Absent)
    (Within prices.Absent))
small_posting line ls bs mid minus ds more cs rest n count places is so_many worth account number currency
    end =
    plain_posting line ls bs mid (Within n) more cs rest account
    (number (Within n) (small_is_worth n minus ds count places is so_many worth)) currency end

pub lone_account :
    (line : ℕ) (ls : List Lexeme) (bs : List ℕ) (rest : List Lexeme)
    → ls ≡ Account bs ∷ rest → rest ≡ []
    → Is (posting line) ls
    (posting_of line None bs (units_by None None) (Within costs.Absent) (Within prices.Absent))
lone_account line ls bs rest account end =
    let address =
    reads_addressed line ls None ls bs rest (reads_no_flag ls (ap begins_with_flag_sign account))
    account in
    let units =
    reads_units rest (amount_parts_of None None) rest
    (reads_amount_parts rest None rest None rest
    (reads_no_number rest (ap begins_with_expression end))
    (reads_no_currency rest (ap begins_with_currency end))) in
    let cost =
    absent_cost rest (ap (begins_with_sign OpenBrace) end) (ap (begins_with_sign OpenBraces) end) in
    posting_is line ls None bs (units_by None None) (Within costs.Absent) rest (Within prices.Absent) rest
    (reads_with_cost line ls None bs (units_by None None) rest (Within costs.Absent) rest
    (reads_posted line ls None bs rest (units_by None None) rest address units) cost)
    (absent_price rest (ap begins_with_price end)) end
