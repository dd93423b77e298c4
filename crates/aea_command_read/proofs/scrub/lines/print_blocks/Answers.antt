use Rattle.std.proofs.Common.{◌+◌, Err, refl, sym, ◌∙◌, ap, drop, arith}
use Rattle.std.specs.Prelude.{filter}
use Rattle.std.specs.List.{flat_map}
use Rattle.aea_lattice.specs.Blocks.{blocks_count, blocks_of}
use Rattle.aea_io.proofs.Printing.{prints_then, prints_stopped, prints_failed, prints_as}
use Rattle.aea_command_read.specs.Scrub.{damaged_line}
use Rattle.aea_command_read.proofs.ScrubLemmas.Skipping.{all_of}
use Rattle.aea_command_read.proofs.ScrubLemmas.DamagedLines.{IsNextBlock, lines_next, count_next, lines_around}
use Rattle.aea_command_read.proofs.scrub.lines.print_blocks.Goals as goal

pub returns-in_err-print_line-clause-prints : goal.returns-in_err-print_line-clause-prints
returns-in_err-print_line-clause-prints g c is_damaged are =
    let l = c.args.lattice.now in
    let b = c.block.result in
    let k = c.in-Some.k in
    let rest = flat_map damaged_line (filter is_damaged (drop (k + 1) (blocks_of l))) in
    let next : IsNextBlock l c.args.damaged.now c.loop-k.from k b = record {
      same = c.requires;
      next = c.in-Some.ensures.found;
      block = c.block.ensures.block;
      number = c.block.ensures.number;
      place = c.block.ensures.place;
    } in
    prints_failed {T = Unit {0}} {q = c.print_line.new.page} {e = c.in_err-print_line.field-0.0} c.from_residual.ensures.0
    (rw (lines_around l c.args.damaged.now is_damaged c.loop-k.from k b are next)
    (prints_stopped {T = Unit {0}} {result = Err c.in_err-print_line.field-0.0} rest refl
    (prints_then (c.loop-k.invariant.printed is_damaged are) c.in_err-print_line.ensures)))

pub loop-k-preserved : goal.loop-k-preserved
loop-k-preserved g c =
    let l = c.args.lattice.now in
    let b = c.block.result in
    let k = c.in-Some.k in
    let next : IsNextBlock l c.args.damaged.now c.loop-k.from k b = record {
      same = c.requires;
      next = c.in-Some.ensures.found;
      block = c.block.ensures.block;
      number = c.block.ensures.number;
      place = c.block.ensures.place;
    } in
    let later = next.next.later in
    record {
      printed = λ is_damaged are.
          rw (lines_next l c.args.damaged.now is_damaged c.loop-k.from k b are next)
          (prints_then (c.loop-k.invariant.printed is_damaged are) (prints_as tt c.in_ok-print_line.ensures));
      counted = λ is_damaged are.
          ap (λ n. n + 1) (c.loop-k.invariant.counted is_damaged are)
          ∙ sym (count_next l c.args.damaged.now is_damaged c.loop-k.from k b are next);
      within = let below = next.next.inside in let count = ap blocks_count c.requires in omega arith;
      small = let i = c.loop-k.invariant.small in omega arith;
    }

pub returns-clause-prints : goal.returns-clause-prints
returns-clause-prints g c is_damaged are =
    let all = all_of c.args.lattice.now c.args.damaged.now is_damaged c.loop-k.from c.requires are c.in_default.ensures.none c.loop-k.invariant.within in
    prints_as {T = Unit {0}} c.loop-k.count
    (rw all at (c.loop-k.invariant.printed is_damaged are))

pub returns-clause-count : goal.returns-clause-count
returns-clause-count g c is_damaged are =
    let all = all_of c.args.lattice.now c.args.damaged.now is_damaged c.loop-k.from c.requires are c.in_default.ensures.none c.loop-k.invariant.within in
    rw all at (c.loop-k.invariant.counted is_damaged are)
