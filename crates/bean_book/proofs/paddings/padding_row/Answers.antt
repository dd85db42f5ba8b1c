use Rattle.std.proofs.Common.{None, arith}
use Rattle.bean_book.proofs.PaddingFacts.{same, weighed}
use Rattle.bean_book.proofs.paddings.padding_row.Goals as goal

pub returns : goal.returns
returns c =
    let small = c.requires.small in
    let entry = c.in_ok-share.ensures in
    let count = same c.args.count (omega (arith, small)) in
    let weight = weighed c.args.count small in
    λ i. record {
      entry = entry i;
      account = c.lend.ensures i;
      position = record {
        key = record { currency = c.lend-2.ensures i; lot = None };
        count = count i;
      };
      weight = record { count = weight i; currency = c.lend-3.ensures i };
      price = None;
      metadata = c.empty.ensures i;
      line = c.args.noted.now.place.line;
      flag = None;
    }
