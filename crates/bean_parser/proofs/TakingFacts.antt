-- Taking a block off a lexer.
use Rattle.std.proofs.Common.{◌≡◌, ◌<◌, ◌≤◌, Bool, true, false, List, [], ◌∷◌, ◌++◌}
use Rattle.std.proofs.Common.{arith, refl, sym, ◌∙◌, ap, subst, append_assoc}
use Rattle.std.proofs.lemmas.List.{append-nil}
use Rattle.bean_lexer.specs.ToCome.{ToCome, EndsLines, BeginInColumnOne, is_column_one}
use Rattle.bean_lexer.specs.declared.kind.Place.{Place}
use Rattle.bean_lexer.specs.declared.kind.Place.TheVariants.{ColumnOne, Indented, Inside}
use Rattle.bean_lexer.specs.declared.token.Token.{Token}
use Rattle.bean_lexer.specs.declared.lexer.Lexer.{Lexer}
use Rattle.bean_parser.specs.Block.{begins_block, begins_block_at, begins_line, begins_line_at, blocks}
use Rattle.bean_parser.specs.Taking.{NoneOf, Starts, TakesBlock, TakesInside, TakesFirst, TakesOthers}
use Rattle.bean_parser.specs.Taking.{left_of}
use Rattle.theory.specs.Cut.{cut_before, put_before}
use Rattle.theory.proofs.CutFacts.{first_cut, put_true, put_false}

-- Parts of tokens.

cut_at : (begins : Token → Bool) (x : Token) (ts : List Token) → Starts begins ts
    → cut_before begins (x ∷ ts) ≡ (x ∷ []) ∷ cut_before begins ts
cut_at begins x [] starts = refl
cut_at begins x (u ∷ us) starts =
    let first = first_cut begins u us in
    ap (put_before begins x) first
    ∙ (put_true begins x u _ _ starts ∙ ap (λ parts. (x ∷ []) ∷ parts) (sym first))

-- a token and others that begin no part are one, if there the next begins
pub cut_off : (begins : Token → Bool) (x : Token) (others ts : List Token) → NoneOf begins others
    → Starts begins ts
    → cut_before begins (x ∷ (others ++ ts)) ≡ (x ∷ others) ∷ cut_before begins ts
cut_off begins x [] ts none starts = cut_at begins x ts starts
cut_off begins x (y ∷ ys) ts none starts =
    ap (put_before begins x) (cut_off begins y ys ts none.1 starts)
    ∙ put_false begins x y ys (cut_before begins ts) none.0

put_more_by : (begins : Token → Bool) (x y : Token) (a : List Token) (r more : List (List Token))
    (b : Bool) → begins y ≡ b
    → put_before begins x ((y ∷ a) ∷ (r ++ more)) ≡ put_before begins x ((y ∷ a) ∷ r) ++ more
put_more_by begins x y a r more true e =
    put_true begins x y a (r ++ more) e ∙ ap (λ parts. parts ++ more) (sym (put_true begins x y a r e))
put_more_by begins x y a r more false e =
    put_false begins x y a (r ++ more) e
    ∙ ap (λ parts. parts ++ more) (sym (put_false begins x y a r e))

-- what is cut before the first of other tokens
pub cut_append : (begins : Token → Bool) (xs ys : List Token) → Starts begins ys
    → cut_before begins (xs ++ ys) ≡ cut_before begins xs ++ cut_before begins ys
cut_append begins [] ys starts = refl
cut_append begins (x ∷ []) ys starts = cut_at begins x ys starts
cut_append begins (x ∷ (z ∷ xs)) ys starts =
    let first = first_cut begins z xs in
    ap (put_before begins x) (cut_append begins (z ∷ xs) ys starts)
    ∙ ap (λ parts. put_before begins x (parts ++ cut_before begins ys)) first
    ∙ put_more_by begins x z _ _ (cut_before begins ys) (begins z) refl
    ∙ ap (λ parts. put_before begins x parts ++ cut_before begins ys) (sym first)

pub none_of_both : (begins : Token → Bool) (xs ys : List Token) → NoneOf begins xs
    → NoneOf begins ys → NoneOf begins (xs ++ ys)
none_of_both begins [] ys none more = more
none_of_both begins (x ∷ xs) ys none more = (none.0, none_of_both begins xs ys none.1 more)

-- Where tokens stand.

column_begins : (place : Place) → begins_block_at place ≡ is_column_one place
column_begins ColumnOne = refl
column_begins Indented = refl
column_begins Inside = refl

inside_line : (place : Place) → begins_line_at place ≡ false → begins_block_at place ≡ false
inside_line Inside none = refl
inside_line Indented none = refl
inside_line ColumnOne none = absurd (cc)

pub no_block_begins : (ts : List Token) → NoneOf begins_line ts → NoneOf begins_block ts
no_block_begins [] none = tt
no_block_begins (t ∷ ts) none = (inside_line t.place none.0, no_block_begins ts none.1)

pub starts_block : (ts : List Token) → BeginInColumnOne ts → Starts begins_block ts
starts_block [] begin = tt
starts_block (t ∷ ts) begin = column_begins t.place ∙ begin

-- Tokens of one line.

pub inside_begins : (lexer : Lexer) (old : List Token) → TakesInside lexer old lexer old
inside_begins lexer old =
    record {
      others = [];
      put = sym (append-nil old);
      inside = tt;
      to_come = λ ts h. h;
      no_longer = omega arith;
    }

pub inside_more :
    (before : Lexer) (old : List Token) (at after : Lexer) (new new' : List Token) (t : Token)
    → TakesInside before old at new → ((ts : List Token) → ToCome after ts → ToCome at (t ∷ ts))
    → t.place ≡ Inside → left_of after < left_of at → new' ≡ new ++ t ∷ []
    → TakesInside before old after new'
inside_more before old at after new new' t taken next inside shorter pushed =
    let fewer = taken.no_longer in
    record {
      others = taken.others ++ t ∷ [];
      put = pushed ∙ ap (λ xs. xs ++ t ∷ []) taken.put ∙ append_assoc old taken.others (t ∷ []);
      inside = none_of_both begins_line taken.others (t ∷ []) taken.inside (ap begins_line_at inside, tt);
      to_come =
          λ ts h. subst (ToCome before) (sym (append_assoc taken.others (t ∷ []) ts))
          (taken.to_come (t ∷ ts) (next ts h));
      no_longer = omega (arith, fewer, shorter);
    }

pub line_taken :
    (before mid after : Lexer) (first : Token) (old line : List Token)
    → ((ts : List Token) → ToCome mid ts → ToCome before (first ∷ ts)) → left_of mid < left_of before
    → old ≡ first ∷ [] → TakesInside mid old after line → TakesFirst before line after
line_taken before mid after first old line next shorter one taken =
    let fewer = taken.no_longer in
    let is : line ≡ first ∷ taken.others = taken.put ∙ ap (λ xs. xs ++ taken.others) one in
    record {
      first = first;
      others = taken.others;
      is = is;
      inside = taken.inside;
      to_come = λ ts h. subst (λ xs. ToCome before (xs ++ ts)) (sym is)
          (next (taken.others ++ ts) (taken.to_come ts h));
      shorter = omega (arith, fewer, shorter);
    }

-- The other tokens of a block: what is kept while they are taken.

pub record Taking (before : Lexer) (old : List Token) (at : Lexer) (new : List Token) : Type 0 where
  pub others : List Token
  pub put : new ≡ old ++ others
  pub none_begins : NoneOf begins_block others
  pub to_come : (ts : List Token) → ToCome at ts → ToCome before (others ++ ts)
  pub no_longer : left_of at ≤ left_of before

pub taking_starts : (lexer : Lexer) (old : List Token) → Taking lexer old lexer old
taking_starts lexer old =
    record {
      others = [];
      put = sym (append-nil old);
      none_begins = tt;
      to_come = λ ts h. h;
      no_longer = omega arith;
    }

pub taking_more :
    (before : Lexer) (old : List Token) (at after : Lexer) (new new' : List Token) (t : Token)
    → Taking before old at new → ((ts : List Token) → ToCome after ts → ToCome at (t ∷ ts))
    → is_column_one t.place ≡ false → left_of after < left_of at → new' ≡ new ++ t ∷ []
    → Taking before old after new'
taking_more before old at after new new' t taking next none shorter pushed =
    let fewer = taking.no_longer in
    record {
      others = taking.others ++ t ∷ [];
      put = pushed ∙ ap (λ xs. xs ++ t ∷ []) taking.put ∙ append_assoc old taking.others (t ∷ []);
      none_begins = none_of_both begins_block taking.others (t ∷ []) taking.none_begins
          (column_begins t.place ∙ none, tt);
      to_come =
          λ ts h. subst (ToCome before) (sym (append_assoc taking.others (t ∷ []) ts))
          (taking.to_come (t ∷ ts) (next ts h));
      no_longer = omega (arith, fewer, shorter);
    }

pub taking_ends : (before : Lexer) (old : List Token) (at after : Lexer) (new : List Token)
    → Taking before old at new → EndsLines at → after ≡ at → TakesOthers before old after new
taking_ends before old at after new taking ends same =
    subst (λ l. TakesOthers before old l new) (sym same) (record {
      others = taking.others;
      put = taking.put;
      none_begins = taking.none_begins;
      ends = ends;
      to_come = taking.to_come;
      no_longer = taking.no_longer;
    })

-- the next block, from its first line and the others
pub block_taken : (before mid after : Lexer) (line block : List Token)
    → TakesFirst before line mid → TakesOthers mid line after block
    → TakesBlock true before block after
block_taken before mid after line block first rest = λ ts h.
    let all = first.others ++ rest.others in
    let block_is : block ≡ first.first ∷ all =
    rest.put ∙ ap (λ xs. xs ++ rest.others) first.is in
    let none = none_of_both begins_block first.others rest.others
    (no_block_begins first.others first.inside) rest.none_begins in
    let cut : blocks (first.first ∷ (all ++ ts)) ≡ (first.first ∷ all) ∷ blocks ts =
    cut_off begins_block first.first all ts none (starts_block ts (rest.ends ts h)) in
    let whole : ToCome before (line ++ (rest.others ++ ts)) =
    first.to_come (rest.others ++ ts) (rest.to_come ts h) in
    let put : line ++ (rest.others ++ ts) ≡ block ++ ts =
    sym (append_assoc line rest.others ts) ∙ ap (λ xs. xs ++ ts) (sym rest.put) in (
      subst (ToCome before) put whole,
      subst (λ xs. blocks (xs ++ ts) ≡ xs ∷ blocks ts) (sym block_is) cut,
    )

pub block_shorter : (before mid after : Lexer) (line block : List Token)
    → TakesFirst before line mid → TakesOthers mid line after block → left_of after < left_of before
block_shorter before mid after line block first rest =
    let fewer = rest.no_longer in
    let shorter = first.shorter in
    omega (arith, fewer, shorter)
