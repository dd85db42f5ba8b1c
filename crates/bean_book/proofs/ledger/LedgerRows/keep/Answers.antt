use Rattle.std.proofs.Common.{ap, arith, length, refl, ◌∙◌}
use Rattle.std.proofs.lemmas.Result.{on_ok_weaker}
use Rattle.bean_book.proofs.TakenFacts.{kept_count, kept_more}
use Rattle.bean_book.proofs.ledger.LedgerRows.keep.Goals as goal

pub push_kept-requires-clause-tame : goal.push_kept-requires-clause-tame
push_kept-requires-clause-tame c =
    let room = c.requires.room in record {
      small = c.requires.small;
      few = let few = room.2 in omega (arith, few);
    }

pub push_kept-requires-clause-room : goal.push_kept-requires-clause-room
push_kept-requires-clause-room c =
    let room = c.requires.room in
    let few = room.2 in
    let rows = ap length room.1.rows ∙ kept_count c.args.details room.0 in omega (arith, few, rows)

pub returns : goal.returns
returns c = λ ds so_far.
    on_ok_weaker c.push_kept.result
    (λ adds. kept_more c.args.details ds c.args.kept.now c.args.self.now _ so_far adds refl) c.push_kept.ensures
