-- The bounds that words give are bounds, and the steps at least one.
use Rattle.std.proofs.Common.{◌≡◌, ℕ, ◌≤◌, Bool, true, false, List, [], ◌∷◌, Option, Some, None, refl, subst}
use Rattle.std.proofs.Common.{arith}
use Rattle.std.specs.Prelude.{◌^◌, ◌-◌, codes, if◌then◌else◌}
use Rattle.std.specs.Option.{option_and_then, option_map}
use Rattle.std.specs.Str.Parse.{digits_value, without_leading_plus}
use Rattle.std.proofs.lemmas.Bool.{leb-true}
use Rattle.clap.specs.Faults.{fault_of}
use Rattle.clap.specs.Kinds.{Kinds}
use Rattle.clap.specs.Simple.{subcommand_of}
use Rattle.clap.specs.ValueTests.{is_unsigned_in}
use Rattle.clap.specs.Walk.{Row, Text, all_of, first_of}
use Rattle.clap.specs.declared.builder.value_parser.ValueParser.TheVariants as vp
use Rattle.clap.proofs.ValueTestLemmas.{accepts-Accepts}
use Rattle.limits.specs.declared.bounds.Bounds.{Bounds}
use Rattle.limits.specs.declared.counts.TheConstants.{MOST_POSTINGS, MOST_UNITS_DIGITS}
use Rattle.limits.specs.declared.counts.TheConstants.{MOST_VALUE_DIGITS}
use Rattle.query_rows.specs.ColumnShape.{AreBounds, widest}
use Rattle.requests.specs.Batch as several
use Rattle.requests.specs.Batch.{steps_in}
use Rattle.requests.specs.Names.{check}
use Rattle.requests.specs.Commands.{asked_by, named, program, request_by, request_in, request_without}
use Rattle.requests.specs.Compile.{Words, bound_in, bound_of, bounds_in, bounds_of, number_in}
use Rattle.requests.specs.Compile.{words_of}
use Rattle.requests.specs.Names.{list}
use Rattle.requests.specs.Names.{query}
use Rattle.requests.specs.Names.{run}
use Rattle.requests.specs.Names.{show}
use Rattle.requests.specs.Names.{upgrade}
use Rattle.requests.specs.Names.{verify}
use Rattle.requests.specs.declared.words.Name.{Name}
use Rattle.requests.specs.declared.words.Name.TheVariants as names
use Rattle.requests.specs.declared.words.Request.{Request}
use Rattle.requests.specs.declared.words.Request.TheVariants as request

-- from 1 to the most
abbrev IsIn : ℕ → ℕ → Type 0
IsIn most n = (1 ≤ n) × (n ≤ most)

-- where there is one, it is
abbrev AreIn : ℕ → Option ℕ → Type 0
AreIn most (Some n) = IsIn most n
AreIn most None = Unit {0}

chosen : (most n : ℕ) (b : Bool) → (b ≡ true → IsIn most n)
    → AreIn most (if b then Some n else None)
chosen most n true is = is refl
chosen most n false is = tt

number_is : (most : ℕ) (text : Text) → AreIn most (number_in most text)
number_is most text =
    chosen most (digits_value 10 (without_leading_plus text)) (is_unsigned_in 1 most text)
    (λ e. let a = accepts-Accepts false (vp.Unsigned 1 most) text e in (a.2, a.3))

bound_is : (most : ℕ) → 1 ≤ most → (text : Option Text) → AreIn most (bound_of most text)
bound_is most some None = (some, omega (arith))
bound_is most some (Some text) = number_is most text

-- bounds, where there are any
abbrev AreSome : Option Bounds → Type 0
AreSome (Some b) = AreBounds b
AreSome None = Unit {0}

put_together :
    (n d e : Option ℕ) → AreIn MOST_POSTINGS n → AreIn MOST_UNITS_DIGITS d
    → AreIn MOST_VALUE_DIGITS e
    → AreSome
    (option_and_then (λ x. option_and_then (λ y. option_map (λ z. bounds_of x y z) e) d) n)
put_together (Some n) (Some d) (Some e) x y z = record {
  some_postings = x.0;
  postings = x.1;
  some_units = y.0;
  units = y.1;
  some_value = z.0;
  value = z.1;
}
put_together (Some n) (Some d) None x y z = tt
put_together (Some n) None e x y z = tt
put_together None d e x y z = tt

bounds_are : (rows : List Row) → AreSome (bounds_in rows)
bounds_are rows =
    put_together (bound_in (codes "postings") MOST_POSTINGS rows)
    (bound_in (codes "digits") MOST_UNITS_DIGITS rows)
    (bound_in (codes "value-digits") MOST_VALUE_DIGITS rows)
    (bound_is MOST_POSTINGS (omega (arith)) (first_of (codes "postings") rows))
    (bound_is MOST_UNITS_DIGITS (omega (arith)) (first_of (codes "digits") rows))
    (bound_is MOST_VALUE_DIGITS (omega (arith)) (first_of (codes "value-digits") rows))

steps_is : (text : Option Text)
    → AreIn (2 ^ 64 - 1) (option_and_then (number_in (2 ^ 64 - 1)) text)
steps_is None = tt
steps_is (Some text) = number_is (2 ^ 64 - 1) text

-- what is asked for has bounds where it has some, and some steps
abbrev HasBounds : Option Request → Type 0
HasBounds (Some (request.Compile text file b)) = AreBounds b
HasBounds (Some (request.Batch steps ledger files)) = 1 ≤ steps
HasBounds _ = Unit {0}

compiling : (text file : Option Text) (b : Option Bounds) → AreSome b
    → HasBounds (option_map (λ (w : Words). request.Compile w.text w.file w.bounds)
    (option_and_then (λ t. option_and_then (λ f. option_map (words_of t f) b) file) text))
compiling (Some t) (Some f) (Some b) are = are
compiling (Some t) (Some f) None are = tt
compiling (Some t) None b are = tt
compiling None file b are = tt

batching : (steps : Option ℕ) (ledger : Option Text) (files : Option (List Text))
    → AreIn (2 ^ 64 - 1) steps
    → HasBounds (option_map (λ (w : several.Words). request.Batch w.steps w.ledger w.files)
    (option_and_then (λ n. option_and_then (λ l. option_map (several.words_of n l) files) ledger) steps))
batching (Some n) (Some l) (Some fs) is = is.0
batching (Some n) (Some l) None is = tt
batching (Some n) None files is = tt
batching None ledger files is = tt

one_word : (make : Text → Request) → ((w : Text) → HasBounds (Some (make w))) → (word : Option Text)
    → HasBounds (option_map make word)
one_word make has (Some w) = has w
one_word make has None = tt

two_words : (make : Text × Text → Request) → ((w : Text × Text) → HasBounds (Some (make w)))
    → (words : Option (Text × Text)) → HasBounds (option_map make words)
two_words make has (Some w) = has w
two_words make has None = tt

by_name : (name : Name) (rows : List Row) → HasBounds (request_by name rows)
by_name names.List rows = one_word request.List (λ w. tt) (list.words_in rows)
by_name names.Check rows = one_word request.Check (λ w. tt) (check.words_in rows)
by_name names.Show rows = one_word request.Show (λ w. tt) (show.words_in rows)
by_name names.Verify rows = one_word request.Verify (λ w. tt) (verify.words_in rows)
by_name names.Upgrade rows =
    two_words (λ (w : Text × Text). request.Upgrade w.0 w.1) (λ w. tt) (upgrade.words_in rows)
by_name names.Run rows =
    two_words (λ (w : Text × Text). request.Run w.0 w.1) (λ w. tt) (run.words_in rows)
by_name names.Query rows =
    two_words (λ (w : Text × Text). request.Query w.0 w.1) (λ w. tt) (query.words_in rows)
by_name names.Compile rows =
    compiling (first_of (codes "TEXT") rows) (first_of (codes "FILE") rows) (bounds_in rows)
    (bounds_are rows)
by_name names.Batch rows =
    batching (steps_in rows) (first_of (codes "LEDGER") rows) (all_of (codes "FILE") rows)
    (steps_is (first_of (codes "K") rows))

after : {X : Type 0} (f : X → Option Request) → ((x : X) → HasBounds (f x)) → (o : Option X)
    → HasBounds (option_and_then f o)
after f has (Some x) = has x
after f has None = tt

by_text : (p : Text × List Row) → HasBounds (asked_by p)
by_text p = after (λ name. request_by name p.1) (λ name. by_name name p.1) (named p.0)

without : (faults : Kinds) (words : List Text) → HasBounds (request_without faults words)
without [] words = after asked_by by_text (subcommand_of program words)
without (fault ∷ faults) words = tt

pub bounds_asked : (words : List Text) (text file : Text) (b : Bounds)
    → request_in words ≡ Some (request.Compile text file b) → AreBounds b
bounds_asked words text file b is =
    subst HasBounds is (without (fault_of program words) words)

pub steps_asked : (words : List Text) (steps : ℕ) (ledger : Text) (files : List Text)
    → request_in words ≡ Some (request.Batch steps ledger files) → 1 ≤ steps
steps_asked words steps ledger files is =
    subst HasBounds is (without (fault_of program words) words)

pub widest_are : AreBounds widest
widest_are = record {
  some_postings = leb-true _ _ refl;
  postings = leb-true _ _ refl;
  some_units = leb-true _ _ refl;
  units = leb-true _ _ refl;
  some_value = leb-true _ _ refl;
  value = leb-true _ _ refl;
}
