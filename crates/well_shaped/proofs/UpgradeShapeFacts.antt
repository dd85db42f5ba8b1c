-- The shapes of a program are shapes of its upgrade.
use Rattle.std.proofs.Common.{◌≡◌, ℕ, ◌≤◌, Bool, true, false, cond, List, [], Option, Some, None}
use Rattle.std.proofs.Common.{refl, sym, ap, ◌∙◌, inl, inr, arith}
use Rattle.std.specs.Prelude.{option_map, option_and_then}
use Rattle.limits.specs.Version.{most_postings}
use Rattle.limits.specs.declared.bounds.Bounds.{Bounds}
use Rattle.limits.specs.declared.bounds.Version.{Version}
use Rattle.limits.specs.declared.bounds.Version.TheVariants.{First, Second}
use Rattle.query_terms.proofs.NumberFacts.{second_has_all}
use Rattle.query_terms.specs.Column.{is_in, numbered}
use Rattle.query_rows.specs.ColumnShape.{AreBounds, column_shape}
use Rattle.query_terms.specs.declared.column.Column.{Column}
use Rattle.query_terms.specs.declared.column.Column.TheVariants as column
use Rattle.query_code.specs.Upgrade.{bounds_upgraded, upgraded}
use Rattle.query_code.specs.declared.instruction.Instruction.{Instruction}
use Rattle.query_code.specs.declared.instruction.Instruction.TheVariants as instruction
use Rattle.query_code.specs.declared.instruction.Push.{Push}
use Rattle.query_code.specs.declared.instruction.Push.TheVariants as push
use Rattle.query_code.specs.declared.program.Constant.{Constant}
use Rattle.query_code.specs.declared.program.Mode.{Mode}
use Rattle.query_code.specs.declared.program.Mode.TheVariants.{Plain, Grouped}
use Rattle.query_code.specs.declared.program.Parts.{Parts}
use Rattle.query_rows.specs.Shape.{fitting}
use Rattle.query_rows.specs.declared.shape.Shape.{Shape}
use Rattle.query_rows.specs.declared.shape.Shape.TheVariants as shape
use Rattle.plain_machine.specs.Pool.{key_at}
use Rattle.plain_machine.specs.SectionRun.{State, effect, with_slots, with_top}
use Rattle.well_shaped.specs.Places.{AreGiven, HasDepth, Leaves}
use Rattle.well_shaped.specs.Program.{EndsWell, HasDepthInLast, HasDepthSomewhere}
use Rattle.well_shaped.specs.Program.{IsDepth, IsWellShaped}
use Rattle.well_shaped.specs.Sections.{Loads, balance_in, filter_loads, given, loaded, push_of}
use Rattle.well_shaped.specs.Sections.{row_loads, shape_acts, shape_by, shape_of}

-- ---- columns

-- their shapes don't ask for the schema
same_shape : (b : Bounds) (c : Column)
    → column_shape (bounds_upgraded b) c ≡ column_shape b c
same_shape b column.Date = refl
same_shape b column.Year = refl
same_shape b column.Month = refl
same_shape b column.Day = refl
same_shape b column.Flag = refl
same_shape b column.Payee = refl
same_shape b column.Narration = refl
same_shape b column.Tags = refl
same_shape b column.Links = refl
same_shape b column.Account = refl
same_shape b column.PostingFlag = refl
same_shape b column.Number = refl
same_shape b column.Currency = refl
same_shape b column.CostNumber = refl
same_shape b column.CostCurrency = refl
same_shape b column.CostDate = refl
same_shape b column.CostLabel = refl
same_shape b column.Position = refl
same_shape b column.Weight = refl
same_shape b column.Balance = refl
same_shape b column.Lineno = refl
same_shape b column.Accounts = refl
same_shape b column.Price = refl

-- a column of the first schema is one of the second
known : (b : Bounds) (c : Column) (s : Shape) → shape_by c b ≡ Some s
    → shape_by c (bounds_upgraded b) ≡ Some s
known b c s e =
    ap (λ is. cond is (Some (column_shape (bounds_upgraded b) c)) None) (second_has_all c)
    ∙ ap Some (same_shape b c) ∙ by (is_in b.schema c) e
  where
    by : (is : Bool) → cond is (Some (column_shape b c)) None ≡ Some s
        → Some (column_shape b c) ≡ Some s
    by true e = e
    by false e = cc

-- the same is loaded, and a column more perhaps
abbrev loads_upgraded : Loads → Loads
loads_upgraded l = record {
  posting = option_map bounds_upgraded l.posting;
  balance = l.balance;
  keys = l.keys;
  aggregates = l.aggregates;
}

posting_kept : (posting : Option Bounds) (c : Column) (s : Shape)
    → option_and_then (shape_by c) posting ≡ Some s
    → option_and_then (shape_by c) (option_map bounds_upgraded posting) ≡ Some s
posting_kept None c s e = e
posting_kept (Some b) c s e = known b c s e

column_kept : (l : Loads) (c : Column) (s : Shape) → shape_of l c ≡ Some s
    → shape_of (loads_upgraded l) c ≡ Some s
column_kept l column.Date s e = posting_kept l.posting column.Date s e
column_kept l column.Year s e = posting_kept l.posting column.Year s e
column_kept l column.Month s e = posting_kept l.posting column.Month s e
column_kept l column.Day s e = posting_kept l.posting column.Day s e
column_kept l column.Flag s e = posting_kept l.posting column.Flag s e
column_kept l column.Payee s e = posting_kept l.posting column.Payee s e
column_kept l column.Narration s e = posting_kept l.posting column.Narration s e
column_kept l column.Tags s e = posting_kept l.posting column.Tags s e
column_kept l column.Links s e = posting_kept l.posting column.Links s e
column_kept l column.Account s e = posting_kept l.posting column.Account s e
column_kept l column.PostingFlag s e = posting_kept l.posting column.PostingFlag s e
column_kept l column.Number s e = posting_kept l.posting column.Number s e
column_kept l column.Currency s e = posting_kept l.posting column.Currency s e
column_kept l column.CostNumber s e = posting_kept l.posting column.CostNumber s e
column_kept l column.CostCurrency s e = posting_kept l.posting column.CostCurrency s e
column_kept l column.CostDate s e = posting_kept l.posting column.CostDate s e
column_kept l column.CostLabel s e = posting_kept l.posting column.CostLabel s e
column_kept l column.Position s e = posting_kept l.posting column.Position s e
column_kept l column.Weight s e = posting_kept l.posting column.Weight s e
column_kept l column.Balance s e = e
column_kept l column.Lineno s e = posting_kept l.posting column.Lineno s e
column_kept l column.Accounts s e = posting_kept l.posting column.Accounts s e
column_kept l column.Price s e = posting_kept l.posting column.Price s e

numbered_kept : (l : Loads) (o : Option Column) (s : Shape)
    → option_and_then (shape_of l) o ≡ Some s
    → option_and_then (shape_of (loads_upgraded l)) o ≡ Some s
numbered_kept l None s e = e
numbered_kept l (Some c) s e = column_kept l c s e

text_kept : (posting : Option Bounds) (key : Option (List ℕ))
    → option_and_then (λ k. option_map (λ b. shape.Text) (option_map bounds_upgraded posting)) key
    ≡ option_and_then (λ k. option_map (λ b. shape.Text) posting) key
text_kept None key = refl
text_kept (Some b) key = refl

loaded_kept : (pool : List Constant) (l : Loads) (op : Push) (s : Shape)
    → loaded pool l op ≡ Some s → loaded pool (loads_upgraded l) op ≡ Some s
loaded_kept pool l push.True s e = e
loaded_kept pool l push.False s e = e
loaded_kept pool l (push.Const i) s e = e
loaded_kept pool l (push.LoadColumn n) s e = numbered_kept l (numbered n) s e
loaded_kept pool l (push.LoadKey k) s e = e
loaded_kept pool l (push.LoadAggregate a) s e = e
loaded_kept pool l (push.Meta i) s e = text_kept l.posting (key_at pool i) ∙ e
loaded_kept pool l (push.EntryMeta i) s e = text_kept l.posting (key_at pool i) ∙ e
loaded_kept pool l (push.AnyMeta i) s e = text_kept l.posting (key_at pool i) ∙ e

push_kept : (pool : List Constant) (l : Loads) (op : Push) (s : Shape)
    → push_of pool l op ≡ Some s → push_of pool (loads_upgraded l) op ≡ Some s
push_kept pool l op s e = by (loaded pool l op) refl e
  where
    by : (o : Option Shape) → loaded pool l op ≡ o
        → option_and_then (λ s. given (fitting s)) o ≡ Some s
        → push_of pool (loads_upgraded l) op ≡ Some s
    by None is e = cc
    by (Some u) is e =
        ap (option_and_then (λ s. given (fitting s))) (loaded_kept pool l op u is) ∙ e

-- ---- sections

-- what is loaded on the left is loaded on the right
abbrev AreKept : List Constant → Loads → Loads → Type 0
AreKept pool l k = (op : Push) (s : Shape) → push_of pool l op ≡ Some s → push_of pool k op ≡ Some s

module _ (pool : List Constant) (l k : Loads) (kept : AreKept pool l k) where
  -- an instruction that can do its work does the same
  effect_kept : (i : Instruction) (s t : State Shape)
      → effect (shape_acts pool l) i s ≡ Some t → effect (shape_acts pool k) i s ≡ Some t
  effect_kept (instruction.Push op) s t e = by (push_of pool l op) refl e
    where
      by : (o : Option Shape) → push_of pool l op ≡ o
          → with_slots s.slots (with_top o s.stack) ≡ Some t
          → effect (shape_acts pool k) (instruction.Push op) s ≡ Some t
      by None is e = cc
      by (Some u) is e = ap (λ o. with_slots s.slots (with_top o s.stack)) (kept op u is) ∙ e
  effect_kept (instruction.Unary op) s t e = e
  effect_kept (instruction.Binary op) s t e = e
  effect_kept (instruction.LoadSlot k) s t e = e
  effect_kept (instruction.StoreSlot k) s t e = e
  effect_kept (instruction.Jump to) s t e = e
  effect_kept (instruction.JumpIfFalse to) s t e = e

  given_kept : (code : List Instruction) (at : ℕ → State Shape)
      → AreGiven (shape_acts pool l) code at → AreGiven (shape_acts pool k) code at
  given_kept code at are = record {
    begins = are.begins;
    works = λ p i e.
        let w = are.works p i e in
        record {
          gives = w.gives;
          applies = effect_kept i (at p) w.gives w.applies;
          covered = w.covered;
          leads_on = w.leads_on;
        };
    led_to = are.led_to;
  }

  abbrev leaves_kept : (code : List Instruction) (values : List Shape)
      → Leaves (shape_acts pool l) code values → Leaves (shape_acts pool k) code values
  leaves_kept code values a = record {
    at = a.at;
    given = given_kept code a.at a.given;
    left = a.left;
  }

  depth_kept : (code : List Instruction) (values : List Shape)
      (a : Leaves (shape_acts pool l) code values) (d : ℕ) → HasDepth a d
      → HasDepth (leaves_kept code values a) d
  depth_kept code values a d h = record { place = h.place; within = h.within; deep = h.deep }

  depth_was : (code : List Instruction) (values : List Shape)
      (a : Leaves (shape_acts pool l) code values) (d : ℕ) → HasDepth (leaves_kept code values a) d
      → HasDepth a d
  depth_was code values a d h = record { place = h.place; within = h.within; deep = h.deep }

-- ---- programs

bounds_kept : (b : Bounds) → AreBounds b → AreBounds (bounds_upgraded b)
bounds_kept b are = record {
  some_postings = are.some_postings;
  postings = by b.schema are.postings;
  some_units = are.some_units;
  units = are.units;
  some_value = are.some_value;
  value = are.value;
}
  where
    by : (v : Version) → b.postings ≤ most_postings v → b.postings ≤ most_postings Second
    by First h = omega (arith, h)
    by Second h = h

-- the running inventory has its shape by the same numbers
balance_kept : (mode : Mode) (b : Bounds)
    → balance_in mode b ≡ balance_in mode (bounds_upgraded b)
balance_kept Plain b = refl
balance_kept Grouped b = refl

module _ (p : Parts) where
  filter_kept : AreKept p.code.pool (filter_loads p.bounds) (filter_loads (bounds_upgraded p.bounds))
  filter_kept = push_kept p.code.pool (filter_loads p.bounds)

  row_kept : AreKept p.code.pool (row_loads p.mode p.bounds)
      (row_loads p.mode (bounds_upgraded p.bounds))
  row_kept op s e =
      ap (λ balance. push_of p.code.pool record {
        posting = Some (bounds_upgraded p.bounds);
        balance = balance;
        keys = [];
        aggregates = [];
      } op) (sym (balance_kept p.mode p.bounds))
      ∙ push_kept p.code.pool (row_loads p.mode p.bounds) op s e

  abbrev ends_kept : (mode : Mode) (values : List Shape) → EndsWell mode p values
      → EndsWell mode (upgraded p) values
  ends_kept Plain values ends = ends
  ends_kept Grouped values ends = record {
    keys = ends.keys;
    totals = ends.totals;
    handed = ends.handed;
    row = ends.row;
    last = ends.last;
    is_row = ends.is_row;
  }

  abbrev shaped_kept : IsWellShaped p → IsWellShaped (upgraded p)
  shaped_kept is = record {
    bounds = bounds_kept p.bounds is.bounds;
    filter = leaves_kept p.code.pool (filter_loads p.bounds)
        (filter_loads (bounds_upgraded p.bounds)) filter_kept p.code.filter _ is.filter;
    values = is.values;
    row = leaves_kept p.code.pool (row_loads p.mode p.bounds)
        (row_loads p.mode (bounds_upgraded p.bounds)) row_kept p.code.row is.values is.row;
    ends = ends_kept p.mode is.values is.ends;
  }

  last_met : (mode : Mode) (values : List Shape) (ends : EndsWell mode p values) (d : ℕ)
      → HasDepthInLast mode p values ends d
      → HasDepthInLast mode (upgraded p) values (ends_kept mode values ends) d
  last_met Plain values ends d h = h
  last_met Grouped values ends d h = record { place = h.place; within = h.within; deep = h.deep }

  last_was : (mode : Mode) (values : List Shape) (ends : EndsWell mode p values) (d : ℕ)
      → HasDepthInLast mode (upgraded p) values (ends_kept mode values ends) d
      → HasDepthInLast mode p values ends d
  last_was Plain values ends d h = h
  last_was Grouped values ends d h = record { place = h.place; within = h.within; deep = h.deep }

  met : (is : IsWellShaped p) (d : ℕ) → HasDepthSomewhere is d
      → HasDepthSomewhere (shaped_kept is) d
  met is d (inl h) =
      inl (depth_kept p.code.pool (filter_loads p.bounds)
      (filter_loads (bounds_upgraded p.bounds)) filter_kept p.code.filter _ is.filter d h)
  met is d (inr (inl h)) =
      inr (inl (depth_kept p.code.pool (row_loads p.mode p.bounds)
      (row_loads p.mode (bounds_upgraded p.bounds)) row_kept p.code.row is.values is.row d h))
  met is d (inr (inr h)) = inr (inr (last_met p.mode is.values is.ends d h))

  was : (is : IsWellShaped p) (d : ℕ) → HasDepthSomewhere (shaped_kept is) d
      → HasDepthSomewhere is d
  was is d (inl h) =
      inl (depth_was p.code.pool (filter_loads p.bounds)
      (filter_loads (bounds_upgraded p.bounds)) filter_kept p.code.filter _ is.filter d h)
  was is d (inr (inl h)) =
      inr (inl (depth_was p.code.pool (row_loads p.mode p.bounds)
      (row_loads p.mode (bounds_upgraded p.bounds)) row_kept p.code.row is.values is.row d h))
  was is d (inr (inr h)) = inr (inr (last_was p.mode is.values is.ends d h))

pub is_depth : (p : Parts) (depth : ℕ) → IsDepth p depth → IsDepth (upgraded p) depth
is_depth p depth is = record {
  shaped = shaped_kept p is.shaped;
  met = met p is.shaped depth is.met;
  greatest = λ other h. is.greatest other (was p is.shaped other h);
}
