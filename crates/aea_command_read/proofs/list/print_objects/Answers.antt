use Rattle.std.proofs.Common.{◌+◌, ◌≤◌, length, Err, drop, refl, arith}
use Rattle.std.specs.FinMap.{entries, len-entries}
use Rattle.aea_io.proofs.Printing.{prints_then, prints_stopped, prints_failed, prints_as}
use Rattle.aea_command_read.proofs.ListLemmas.Lines.{lines_for, lines_next, lines_around, lines_all}
use Rattle.aea_command_read.proofs.list.print_objects.Goals as goal

pub returns-in_err-print_object : goal.returns-in_err-print_object
returns-in_err-print_object g c =
    let all = entries c.args.catalog.now.objects in
    let k = c.loop-k.k in
    prints_failed {T = Unit {0}} {q = c.print_object.new.page} {e = c.in_err-print_object.field-0.0} c.from_residual.ensures.0
    (rw (lines_around all k (c.in-Some.name.now, c.in-Some.object) c.in-Some.ensures.entry)
    (prints_stopped {T = Unit {0}} {result = Err c.in_err-print_object.field-0.0} (lines_for (drop (k + 1) all)) refl
    (prints_then c.loop-k.invariant.printed c.in_err-print_object.ensures)))

pub loop-k-preserved : goal.loop-k-preserved
loop-k-preserved g c = record {
  printed = rw (lines_next (entries c.args.catalog.now.objects) c.loop-k.k (c.in-Some.name.now, c.in-Some.object) c.in-Some.ensures.entry)
      (prints_then c.loop-k.invariant.printed (prints_as tt c.in_ok-print_object.ensures));
  within = let below = c.loop-k-test.true in omega (arith, below, c.len-many.ensures);
}

pub returns : goal.returns
returns g c =
    let past = c.loop-k-test.false in
    let all = entries c.args.catalog.now.objects in
    let most : length all ≤ c.loop-k.k = omega (arith, past, c.len-many.ensures, len-entries c.args.catalog.now.objects) in
    rw (lines_all all c.loop-k.k most) at c.loop-k.invariant.printed
