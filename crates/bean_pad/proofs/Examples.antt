-- The definitions at worked values. The latest step stands first.
use Rattle.std.proofs.Common.{◌≡◌, ◌<◌, ◌≤◌, ◌^◌, ℕ, ℤ, pos, negsuc, Bool, true, false, List, []}
use Rattle.std.proofs.Common.{◌∷◌, map, None, Some, codes, refl, arith}
use Rattle.std.specs.Int.RustNames.{unsigned_abs}
use Rattle.bean_base.proofs.WorkedDays.{january_3}
use Rattle.bean_base.specs.Decimal.{IsLedger}
use Rattle.bean_base.specs.declared.fault.Fault as faults
use Rattle.bean_base.specs.declared.fault.FaultKind.{FaultKind}
use Rattle.bean_base.specs.declared.fault.FaultKind.TheVariants.{BalanceFails, UnusedPad, PadAtCost}
use Rattle.bean_base.specs.declared.num.Num.{Num}
use Rattle.bean_pad.specs.Held.{is_within}
use Rattle.bean_pad.specs.Note.{noted_pads}
use Rattle.bean_pad.specs.Outcome.{count_in}
use Rattle.bean_pad.specs.Padded.{faults_with}
use Rattle.bean_pad.specs.Tolerance.{tolerance_by}
use Rattle.bean_pad.specs.declared.note.NotedPad.{NotedPad}
use Rattle.bean_base.specs.declared.span.Place.{Place}
use Rattle.bean_pad.specs.declared.step.Step.{Step}
use Rattle.bean_pad.specs.declared.step.Step.TheVariants as step

is_ledger : (count : ℤ) → unsigned_abs count ≤ 100000 → IsLedger count 2
is_ledger count few = (omega arith, omega (arith, few))

is_small : (count : ℤ) → unsigned_abs count ≤ 100000 → unsigned_abs count < 10 ^ 20
is_small count few = omega (arith, few)

-- numbers with two decimals
abbrev cents : (count : ℤ) → unsigned_abs count ≤ 100000 → Num
cents count few =
    record { count = count; places = 2; in_range = is_ledger count few; small = is_small count few }

few_30 : 3000 ≤ 100000
few_30 = omega arith

few_100 : 10000 ≤ 100000
few_100 = omega arith

few_100_01 : 10001 ≤ 100000
few_100_01 = omega arith

few_100_02 : 10002 ≤ 100000
few_100_02 = omega arith

few_150 : 15000 ≤ 100000
few_150 = omega arith

few_5 : 500 ≤ 100000
few_5 = omega arith

abbrev cash : List ℕ
cash = codes "Assets:Cash"

abbrev equity : List ℕ
equity = codes "Equity:Open"

abbrev usd : List ℕ
usd = codes "USD"

abbrev eur : List ℕ
eur = codes "EUR"

abbrev posting : List ℕ → List ℕ → Num → Step
posting account currency number =
    step.Posting account (record { number = number; currency = currency })

abbrev on_line : ℕ → Place
on_line line = record { file = 0; line = line }

abbrev pad : ℕ → List ℕ → Step
pad line account =
    step.Pad (record { account = account; source = equity }) january_3 (on_line line)

abbrev balance : ℕ → List ℕ → List ℕ → Num → Bool → Step
balance line account currency number is_at_cost =
    step.Balance
    (record { account = account; currency = currency; number = number; tolerance = None })
    (on_line line) is_at_cost

-- what is padded, in counts of 10^-8, pad by pad
abbrev paddings : List Step → List (List (List ℕ × ℤ))
paddings past =
    map (λ (p : NotedPad). map (λ n. (n.currency, count_in n.outcome)) p.notes) (noted_pads past)

abbrev faults_in : List Step → List (FaultKind × ℕ)
faults_in past = map (λ (f : faults.Fault). (f.kind, f.place.line)) (faults_with (noted_pads past) past)

-- 30.00 USD are held, and there is a pad
abbrev start : List Step
start = pad 6 cash ∷ posting equity usd (cents (negsuc 2999) few_30)
    ∷ posting cash usd (cents (pos 3000) few_30) ∷ []

abbrev padded : List Step
padded = balance 7 cash usd (cents (pos 10000) few_100) false ∷ start

-- the first balance pads 70.00 USD
the_first_is_padded : paddings padded ≡ ((usd, pos 7000000000) ∷ []) ∷ []
the_first_is_padded = refl

and_holds : faults_in padded ≡ []
and_holds = refl

-- the second fails, unless it is within a unit of its last decimal
abbrev second : Num → List Step
second number = balance 8 cash usd number false ∷ padded

the_second_pads_nothing :
    paddings (second (cents (pos 15000) few_150)) ≡ ((usd, pos 7000000000) ∷ []) ∷ []
the_second_pads_nothing = refl

the_second_fails : faults_in (second (cents (pos 15000) few_150)) ≡ (BalanceFails, 8) ∷ []
the_second_fails = refl

a_cent_is_within : faults_in (second (cents (pos 10001) few_100_01)) ≡ []
a_cent_is_within = refl

two_cents_are_out : faults_in (second (cents (pos 10002) few_100_02)) ≡ (BalanceFails, 8) ∷ []
two_cents_are_out = refl

-- a pad without a balance
nothing_comes_of_it : faults_in start ≡ (UnusedPad, 6) ∷ []
nothing_comes_of_it = refl

-- one pad, two currencies
abbrev two_currencies : List Step
two_currencies =
    balance 8 cash usd (cents (pos 10000) few_100) false
    ∷ balance 7 cash eur (cents (pos 500) few_5) false ∷ pad 6 cash ∷ []

each_currency_is_padded :
    paddings two_currencies ≡ ((eur, pos 500000000) ∷ (usd, pos 10000000000) ∷ []) ∷ []
each_currency_is_padded = refl

both_hold : faults_in two_currencies ≡ []
both_hold = refl

-- of two pads the later one waits
abbrev two_pads : List Step
two_pads = balance 8 cash usd (cents (pos 10000) few_100) false ∷ pad 7 cash ∷ pad 6 cash ∷ []

the_later_waits : paddings two_pads ≡ [] ∷ ((usd, pos 10000000000) ∷ []) ∷ []
the_later_waits = refl

the_earlier_is_unused : faults_in two_pads ≡ (UnusedPad, 6) ∷ []
the_earlier_is_unused = refl

-- what was padded before counts
abbrev padded_again : List Step
padded_again = balance 9 cash usd (cents (pos 15000) few_150) false ∷ pad 8 cash ∷ padded

only_the_rest_is_padded :
    paddings padded_again ≡ ((usd, pos 7000000000) ∷ []) ∷ ((usd, pos 5000000000) ∷ []) ∷ []
only_the_rest_is_padded = refl

-- a lot of the currency is held
abbrev at_cost : List Step
at_cost = balance 7 cash usd (cents (pos 10000) few_100) true ∷ start

no_padding_at_cost : paddings at_cost ≡ ((usd, pos 0) ∷ []) ∷ []
no_padding_at_cost = refl

a_pad_at_cost : faults_in at_cost ≡ (PadAtCost, 6) ∷ (BalanceFails, 7) ∷ []
a_pad_at_cost = refl

-- a balance counts what the accounts below hold; what is padded on one of them counts in the end
abbrev of_all_assets : List Step
of_all_assets =
    balance 8 (codes "Assets:Bank") usd (cents (pos 3000) few_30) false
    ∷ posting (codes "Assets:Bank:Savings") usd (cents (pos 3000) few_30) ∷ []

accounts_below_count : faults_in of_all_assets ≡ []
accounts_below_count = refl

is_no_account_below : is_within (codes "Assets:Bank") (codes "Assets:Banker") ≡ false
is_no_account_below = refl

-- a whole number has no tolerance, unless one is written
whole : (n : Num) → n.places ≡ 0 → tolerance_by n None ≡ pos 0
whole n is = rw is refl

a_cent : tolerance_by (cents (pos 500) few_5) None ≡ pos 1000000
a_cent = refl

written_out : tolerance_by (cents (pos 500) few_5) (Some (cents (pos 3000) few_30)) ≡ pos 3000000000
written_out = refl
