use Rattle.std.proofs.Common.{◌+◌, get_or, Err, drop, refl, arith}
use Rattle.aea_io.proofs.Printing.{prints_then, prints_stopped, prints_failed, prints_as, prints_none}
use Rattle.aea_session.proofs.LookingOver.{numbers_text, text_next, text_around, text_all}
use Rattle.aea_session.proofs.patrol.print_numbers.Goals as goal

pub loop-k-init : goal.loop-k-init
loop-k-init g c = record {
  printed = prints_none (g.O.Sink.state c.args.out.now) c.args.page.now tt;
  within = omega arith;
}

pub returns-in_err-print : goal.returns-in_err-print
returns-in_err-print g c =
    let xs = c.args.numbers.now in
    let k = c.loop-k.k in
    let below = c.loop-k-test.true in
    prints_failed {T = Unit {0}} {q = c.print.new.page} {e = c.in_err-print.field-0.0} c.from_residual.ensures.0
    (rw (text_around xs k (get_or xs k 0) below refl)
    (prints_stopped {T = Unit {0}} {result = Err c.in_err-print.field-0.0} (numbers_text (drop (k + 1) xs)) refl
    (prints_then c.loop-k.invariant.printed (rw c.to_be_bytes-bytes.ensures at c.in_err-print.ensures))))

pub loop-k-preserved : goal.loop-k-preserved
loop-k-preserved g c =
    let below = c.loop-k-test.true in
    record {
      printed = rw (text_next c.args.numbers.now c.loop-k.k (get_or c.args.numbers.now c.loop-k.k 0) below refl)
          (prints_then c.loop-k.invariant.printed (prints_as tt (rw c.to_be_bytes-bytes.ensures at c.in_ok-print.ensures)));
      within = omega (arith, below);
    }

pub returns : goal.returns
returns g c =
    let past = c.loop-k-test.false in
    rw (text_all c.args.numbers.now c.loop-k.k past) at c.loop-k.invariant.printed
