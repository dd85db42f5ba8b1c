-- What is given, as it stands apart, beside what pushes give one after the other.
use Rattle.std.proofs.Common.{◌≡◌, ℕ, zero, suc, ◌+◌, ◌<◌, ◌≤◌, ◌&&◌, Bool, true, false, nat_le, nat_lt}
use Rattle.std.proofs.Common.{List, [], ◌∷◌, ◌++◌, length, get_or, refl, sym, ◌∙◌, ap, arith}
use Rattle.std.proofs.lemmas.Bool.Decides.{nat_tests}
use Rattle.std.proofs.lemmas.List.{append-nil, append_assoc}
use Rattle.std.proofs.Math.ListN.{set}
use Rattle.std.specs.Prelude.{if◌then◌else◌}
use Rattle.bean_directives.specs.Given.{entries_behind, marks_behind, with_given, with_pushed, with_tag}
use Rattle.bean_directives.specs.declared.directive.Directive.{Directive}
use Rattle.bean_directives.specs.declared.directive.DirectiveKind.{DirectiveKind}
use Rattle.bean_directives.specs.declared.directive.DirectiveKind.TheVariants as kinds
use Rattle.bean_directives.specs.declared.undated.Pushed.TheVariants as pushed
use Rattle.bean_grammar.specs.declared.mark.Mark.{Mark}
use Rattle.bean_grammar.specs.declared.mark.Mark.TheVariants as mark
use Rattle.bean_grammar.specs.declared.metadata.MetaEntry.{MetaEntry}
use Rattle.bean_pushes.specs.Gifts.{with_items, with_items_from}
use Rattle.bean_pushes.specs.Scope.{given_between}
use Rattle.given_items.specs.Given.{given_at, is_given_at}
use Rattle.given_items.specs.declared.given.GivenItem.{GivenItem}

-- ---- what is given at one place

no_marks : (k : DirectiveKind) → marks_behind [] k ≡ k
no_marks (kinds.Transaction t) =
    ap (λ ms. kinds.Transaction record t { marks = ms }) (append-nil t.marks)
no_marks _ = refl

no_entries : (k : DirectiveKind) (own : List MetaEntry) → entries_behind k own [] ≡ own
no_entries (kinds.Transaction t) own = append-nil own
no_entries _ own = refl

none_given : (d : Directive) → with_given [] [] d ≡ d
none_given d =
    let k = no_marks d.kind in
    let es = no_entries d.kind d.metadata in
    λ j. record d { kind = k j; metadata = es j }

more_marks : (tag : List ℕ) (ms : List Mark) (k : DirectiveKind)
    → marks_behind (ms ++ mark.Tag tag ∷ []) k ≡ with_tag tag (marks_behind ms k)
more_marks tag ms (kinds.Transaction t) =
    ap (λ xs. kinds.Transaction record t { marks = xs })
    (sym (append_assoc t.marks ms (mark.Tag tag ∷ [])))
more_marks tag ms _ = refl

tag_more : (tag : List ℕ) (ms : List Mark) (es : List MetaEntry) (d : Directive)
    → with_given (ms ++ mark.Tag tag ∷ []) es d
    ≡ with_pushed (pushed.Tag tag) (with_given ms es d)
tag_more tag ms es d =
    ap (λ k. record d { kind = k; metadata = entries_behind d.kind d.metadata es })
    (more_marks tag ms d.kind)

more_entries : (e : MetaEntry) (ms : List Mark) (es own : List MetaEntry) (k : DirectiveKind)
    → entries_behind k own (es ++ e ∷ [])
    ≡ entries_behind (marks_behind ms k) (entries_behind k own es) (e ∷ [])
more_entries e ms es own (kinds.Transaction t) = sym (append_assoc own es (e ∷ []))
more_entries e ms es own _ = refl

entry_more : (e : MetaEntry) (ms : List Mark) (es : List MetaEntry) (d : Directive)
    → with_given ms (es ++ e ∷ []) d ≡ with_pushed (pushed.Entry e) (with_given ms es d)
entry_more e ms es d =
    ap (λ xs. record d { kind = marks_behind ms d.kind; metadata = xs })
    (more_entries e ms es d.metadata d.kind)

-- ---- one item more

abbrev if_given : {T : Type 0} → Bool → T → List T → List T
if_given b x xs = if b then x ∷ xs else xs

first_more : {T : Type 0} → (b : Bool) (x : T) (xs ys zs : List T) → ys ≡ xs ++ zs
    → if_given b x ys ≡ if_given b x xs ++ zs
first_more true x xs ys zs is = ap (λ l. x ∷ l) is
first_more false x xs ys zs is = is

given_more : {T : Type 0} → (i : ℕ) (gs : List (GivenItem T)) (g : GivenItem T)
    → given_at i (gs ++ g ∷ []) ≡ given_at i gs ++ if_given (is_given_at i g) g.item []
given_more i [] g = refl
given_more i (h ∷ gs) g =
    first_more (is_given_at i h) h.item (given_at i gs) (given_at i (gs ++ g ∷ []))
    (if_given (is_given_at i g) g.item []) (given_more i gs g)

maybe_tag : (b : Bool) (tag : List ℕ) (ms : List Mark) (es : List MetaEntry) (d : Directive)
    → with_given (ms ++ if_given b (mark.Tag tag) []) es d
    ≡ (if b then with_pushed (pushed.Tag tag) (with_given ms es d) else with_given ms es d)
maybe_tag true tag ms es d = tag_more tag ms es d
maybe_tag false tag ms es d = ap (λ l. with_given l es d) (append-nil ms)

maybe_entry : (b : Bool) (e : MetaEntry) (ms : List Mark) (es : List MetaEntry) (d : Directive)
    → with_given ms (es ++ if_given b e []) d
    ≡ (if b then with_pushed (pushed.Entry e) (with_given ms es d) else with_given ms es d)
maybe_entry true e ms es d = entry_more e ms es d
maybe_entry false e ms es d = ap (λ l. with_given ms l d) (append-nil es)

tag_from : (i : ℕ) (ts : List (GivenItem Mark)) (es : List (GivenItem MetaEntry)) (tag : List ℕ)
    (from to : ℕ) (ds : List Directive)
    → with_items_from i (ts ++ record { item = mark.Tag tag; from = from; to = to } ∷ []) es ds
    ≡ given_between (pushed.Tag tag) from to i (with_items_from i ts es ds)
tag_from i ts es tag from to [] = refl
tag_from i ts es tag from to (d ∷ ds) =
    let first =
    ap (λ l. with_given l (given_at i es) d)
    (given_more i ts (record { item = mark.Tag tag; from = from; to = to }))
    ∙ maybe_tag (nat_le from i && nat_lt i to) tag (given_at i ts) (given_at i es) d in
    let others = tag_from (suc i) ts es tag from to ds in
    λ j. first j ∷ others j

pub tag_added : (ts : List (GivenItem Mark)) (es : List (GivenItem MetaEntry)) (tag : List ℕ)
    (from to : ℕ) (ds : List Directive)
    → with_items (ts ++ record { item = mark.Tag tag; from = from; to = to } ∷ []) es ds
    ≡ given_between (pushed.Tag tag) from to 0 (with_items ts es ds)
tag_added ts es tag from to ds = tag_from 0 ts es tag from to ds

entry_from : (i : ℕ) (ts : List (GivenItem Mark)) (es : List (GivenItem MetaEntry)) (e : MetaEntry)
    (from to : ℕ) (ds : List Directive)
    → with_items_from i ts (es ++ record { item = e; from = from; to = to } ∷ []) ds
    ≡ given_between (pushed.Entry e) from to i (with_items_from i ts es ds)
entry_from i ts es e from to [] = refl
entry_from i ts es e from to (d ∷ ds) =
    let first =
    ap (λ l. with_given (given_at i ts) l d)
    (given_more i es (record { item = e; from = from; to = to }))
    ∙ maybe_entry (nat_le from i && nat_lt i to) e (given_at i ts) (given_at i es) d in
    let others = entry_from (suc i) ts es e from to ds in
    λ j. first j ∷ others j

pub entry_added : (ts : List (GivenItem Mark)) (es : List (GivenItem MetaEntry)) (e : MetaEntry)
    (from to : ℕ) (ds : List Directive)
    → with_items ts (es ++ record { item = e; from = from; to = to } ∷ []) ds
    ≡ given_between (pushed.Entry e) from to 0 (with_items ts es ds)
entry_added ts es e from to ds = entry_from 0 ts es e from to ds

-- ---- nothing

nothing_from : (i : ℕ) (ds : List Directive) → with_items_from i [] [] ds ≡ ds
nothing_from i [] = refl
nothing_from i (d ∷ ds) =
    let first = none_given d in let others = nothing_from (suc i) ds in λ j. first j ∷ others j

pub nothing_given : (ds : List Directive) → with_items [] [] ds ≡ ds
nothing_given ds = nothing_from 0 ds

-- ---- directive after directive: those from a place on are still to be given to

abbrev chosen : Bool → List Mark → List MetaEntry → Directive → Directive
chosen b ms es d = if b then with_given ms es d else d

abbrev pub left_from : ℕ → ℕ → List (GivenItem Mark) → List (GivenItem MetaEntry) → List Directive
    → List Directive
left_from k i ts es [] = []
left_from k i ts es (d ∷ ds) =
    chosen (nat_le k i) (given_at i ts) (given_at i es) d ∷ left_from k (suc i) ts es ds

le_true : (a b : ℕ) → a ≤ b → nat_le a b ≡ true
le_true a b h = grind (arith, nat_tests)

le_false : (a b : ℕ) → b < a → nat_le a b ≡ false
le_false a b h = grind (arith, nat_tests)

module _ (ts : List (GivenItem Mark)) (es : List (GivenItem MetaEntry)) where
  here : (k i : ℕ) (d : Directive) → k ≤ i
      → chosen (nat_le k i) (given_at i ts) (given_at i es) d
      ≡ with_given (given_at i ts) (given_at i es) d
  here k i d h = ap (λ b. chosen b (given_at i ts) (given_at i es) d) (le_true k i h)

  before : (k i : ℕ) (d : Directive) → i < k
      → chosen (nat_le k i) (given_at i ts) (given_at i es) d ≡ d
  before k i d h = ap (λ b. chosen b (given_at i ts) (given_at i es) d) (le_false k i h)

  all_from : (i : ℕ) (ds : List Directive) → left_from 0 i ts es ds ≡ with_items_from i ts es ds
  all_from i [] = refl
  all_from i (d ∷ ds) =
      let first = here 0 i d (omega arith) in
      let others = all_from (suc i) ds in
      λ j. first j ∷ others j

  pub all_left : (ds : List Directive) → left_from 0 0 ts es ds ≡ with_items ts es ds
  all_left ds = all_from 0 ds

  pub none_left : (k i : ℕ) (ds : List Directive) → i + length ds ≤ k → left_from k i ts es ds ≡ ds
  none_left k i [] past = refl
  none_left k i (d ∷ ds) past =
      let first = before k i d (omega (arith, past)) in
      let others = none_left k (suc i) ds (omega (arith, past)) in
      λ j. first j ∷ others j

  -- behind the first place the next is as good
  next_left : (k i : ℕ) (ds : List Directive) → k < i → left_from (suc k) i ts es ds ≡ left_from k i ts es ds
  next_left k i [] behind = refl
  next_left k i (d ∷ ds) behind =
      let a = here (suc k) i d (omega (arith, behind)) in
      let b = here k i d (omega (arith, behind)) in
      let others = next_left k (suc i) ds (omega (arith, behind)) in
      λ j. (a ∙ sym b) j ∷ others j

  left_at : (k i n : ℕ) (ds : List Directive) (e x : Directive) → k ≡ i + n → n < length ds
      → x ≡ with_given (given_at k ts) (given_at k es) (get_or ds n e)
      → left_from (suc k) i ts es (set ds n x) ≡ left_from k i ts es ds
  left_at k i n [] e x at inside is = absurd (omega (arith, inside))
  left_at k i zero (d ∷ ds) e x at inside is =
      let same : k ≡ i = omega (arith, at) in
      let left = before (suc k) i x (omega (arith, at)) in
      let right = here k i d (omega (arith, at)) in
      let first = left ∙ is ∙ ap (λ p. with_given (given_at p ts) (given_at p es) d) same ∙ sym right in
      let others = next_left k (suc i) ds (omega (arith, at)) in
      λ j. first j ∷ others j
  left_at k i (suc n) (d ∷ ds) e x at inside is =
      let left = before (suc k) i d (omega (arith, at)) in
      let right = before k i d (omega (arith, at)) in
      let others = left_at k (suc i) n ds e x (omega (arith, at)) (omega (arith, inside)) is in
      λ j. (left ∙ sym right) j ∷ others j

  pub left_next : (k next : ℕ) (ds : List Directive) (e x : Directive) → next ≡ suc k → k < length ds
      → x ≡ with_given (given_at k ts) (given_at k es) (get_or ds k e)
      → left_from next 0 ts es (set ds k x) ≡ left_from k 0 ts es ds
  left_next k next ds e x after inside is =
      ap (λ n. left_from n 0 ts es (set ds k x)) after ∙ left_at k 0 k ds e x (omega arith) inside is
