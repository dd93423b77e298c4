use Rattle.std.proofs.Common.{◌≡◌, List, Some, Ok, Err, refl, sym, ◌∙◌, ap, subst, arith}
use Rattle.std.proofs.lemmas.Bool.{or_left}
use Rattle.std.specs.Prelude.{IsTrue, IsErr, ◌||◌}
use Rattle.aea_lattice.specs.Closure.{is_among}
use Rattle.aea_view.specs.Marked.{Marked, is_marked}
use Rattle.aea_gauss.specs.declared.fates.Fate.{Fate}
use Rattle.aea_restore.specs.Given.{block_summed, blocks_summed, CanSum}
use Rattle.aea_restore.proofs.Planned.{sum_more}
use Rattle.aea_restore.proofs.Loops.{none_given, marks_next, item_given, items_some, goes_both, torn_both, stays_both}
use Rattle.aea_restore.specs.declared.fault.RestoreFault.TheVariants.{DiskFault}
use Rattle.aea_restore.specs.Repairs.{IsLeft}
use Rattle.aea_restore.proofs.Ordered.{each_none, each_next, clash_next, order_stop, order_end, sum_of_lattice}
use Rattle.aea_restore.proofs.Items.{item_has, take_whole}
use Rattle.aea_archive.proofs.Writes.{cells_none, cells_both, cells_less_as}
use Rattle.aea_restore.proofs.stage.restore_sums.Goals as goal

pub loop-k-init : goal.loop-k-init
loop-k-init g c = record {
  lattice = c.requires.lattice;
  sum = c.requires.sum;
  read = c.requires.read;
  write = c.requires.write;
  done = λ d has. none_given block_summed (is_marked c.args.marks.now) c.args.fates.now d;
  way = λ revealed known first way. way;
  drawn = λ revealed known first all. all;
  each = λ known first way. each_none g.D.Disk.reveals c.args.ledger.now known (is_marked c.args.marks.now) first c.args.fates.now;
  writes = cells_none g.D.Disk.reveals ⊥ c.args.ledger.now.shape c.args.ledger.now.lattice.n (IsLeft (λ d. IsTrue (is_among (blocks_summed c.args.fates.now) d))) (g.D.Disk.state c.args.disk.now) (λ none. none);
}

pub restore_fate-requires-clause-can : goal.restore_fate-requires-clause-can
restore_fate-requires-clause-can g c =
    sum_more c.args.ledger.now.lattice (is_marked c.args.marks.now) (is_marked c.loop-k.marks) c.in-Some.fate.now
    (λ d has is. c.loop-k.invariant.done d has ∙ or_left (is_marked c.args.marks.now d) _ is)
    (item_has (CanSum c.args.ledger.now.lattice (is_marked c.args.marks.now)) c.args.fates.now c.in-Some.fate.now c.loop-k.k c.in-Some.ensures c.requires.can)

pub returns-in-Err-clause-some : goal.returns-in-Err-clause-some
returns-in-Err-clause-some g c =
    let same = c.restore_fate.ensures.same (subst IsErr (sym c.in-Err.is) refl) in
    items_some block_summed c.args.ledger.now.lattice c.args.fates.now c.loop-k.k c.args.marks.now c.restore_fate.new.marks (λ d has. ap (λ (m : Marked). is_marked m d) same ∙ c.loop-k.invariant.done d has)

pub returns-in-Err-clause-way : goal.returns-in-Err-clause-way
returns-in-Err-clause-way g c fine revealed =
    goes_both c.args.ledger.now (is_marked c.args.marks.now) (is_marked c.loop-k.marks) (is_marked c.restore_fate.new.marks) (g.D.Disk.state c.args.disk.now).files (g.D.Disk.state c.loop-k.disk).files (g.D.Disk.state c.restore_fate.new.disk).files
    (c.loop-k.invariant.way revealed) (c.restore_fate.ensures.way (λ bad. fine (sym c.in-Err.is ∙ bad)) revealed)

pub returns-in-Err-clause-torn : goal.returns-in-Err-clause-torn
returns-in-Err-clause-torn g c is revealed =
    torn_both c.args.ledger.now (λ d. IsTrue (is_among (block_summed c.in-Some.fate.now) d)) (λ d. IsTrue (is_among (blocks_summed c.args.fates.now) d)) (is_marked c.args.marks.now) (is_marked c.loop-k.marks) (is_marked c.restore_fate.new.marks) (g.D.Disk.state c.args.disk.now).files (g.D.Disk.state c.loop-k.disk).files (g.D.Disk.state c.restore_fate.new.disk).files
    (λ d one. item_given block_summed c.args.fates.now c.in-Some.fate.now c.loop-k.k d c.in-Some.ensures one) (c.loop-k.invariant.way revealed) (c.restore_fate.ensures.torn (c.in-Err.is ∙ is) revealed)

pub returns-in-Err-clause-drawn : goal.returns-in-Err-clause-drawn
returns-in-Err-clause-drawn g c revealed =
    stays_both c.args.ledger.now (is_marked c.args.marks.now) (is_marked c.loop-k.marks) (is_marked c.restore_fate.new.marks) (g.D.Disk.state c.args.disk.now).files (g.D.Disk.state c.loop-k.disk).files (g.D.Disk.state c.restore_fate.new.disk).files
    (c.loop-k.invariant.drawn revealed) (c.restore_fate.ensures.drawn revealed)

pub returns-in-Err-clause-order : goal.returns-in-Err-clause-order
returns-in-Err-clause-order g c known first way =
    let v = c.args.ledger.now in
    let same = c.restore_fate.ensures.same (subst IsErr (sym c.in-Err.is) refl) in
    order_stop g.D.Disk.reveals v known (is_marked c.args.marks.now) (is_marked c.restore_fate.new.marks) first c.args.fates.now (Err c.in-Err.fault) c.loop-k.k (omega (arith, c.loop-k-test.true, c.len-k-end.ensures)) (λ ok. absurd (let e = ok in cc))
    (λ d has. ap (λ (m : Marked). is_marked m d) same ∙ c.loop-k.invariant.done d has)
    (c.loop-k.invariant.each known first way)
    (λ d kept computed is.
    let found = c.restore_fate.ensures.found d kept computed (c.in-Err.is ∙ is) in
    clash_next g.D.Disk.reveals v known (is_marked c.args.marks.now) (is_marked c.loop-k.marks) first (g.D.Disk.state c.loop-k.disk).files c.args.fates.now c.loop-k.k found.0 d found.1 kept computed (c.in-Some.ensures ∙ ap Some found.2)
    (λ a has. c.loop-k.invariant.done a has) (sum_of_lattice v.lattice (is_marked c.args.marks.now) c.in-Some.fate.now found.0 found.1 found.2 (item_has (CanSum c.args.ledger.now.lattice (is_marked c.args.marks.now)) c.args.fates.now c.in-Some.fate.now c.loop-k.k c.in-Some.ensures c.requires.can))
    found.3 found.4 (λ revealed. c.loop-k.invariant.way revealed known first (way revealed)))

pub returns-in-Err-clause-other : goal.returns-in-Err-clause-other
returns-in-Err-clause-other g c d revealed computed is = c.restore_fate.ensures.other d revealed computed (c.in-Err.is ∙ is)

pub returns-in-Err-clause-clash : goal.returns-in-Err-clause-clash
returns-in-Err-clause-clash g c d revealed computed is reveals known first all =
    let clash = c.restore_fate.ensures.clash d revealed computed (c.in-Err.is ∙ is) reveals known first (c.loop-k.invariant.drawn reveals known first all) in
    let one = clash.0 in
    (item_given block_summed c.args.fates.now c.in-Some.fate.now c.loop-k.k d c.in-Some.ensures one, clash.1)

pub returns-in-Err-clause-writes : goal.returns-in-Err-clause-writes
returns-in-Err-clause-writes g c =
    cells_less_as g.D.Disk.reveals (c.restore_fate.result ≡ Err DiskFault) _ c.args.ledger.now.shape c.args.ledger.now.lattice.n (IsLeft (λ d. IsTrue (is_among (blocks_summed c.args.fates.now) d))) (IsLeft (λ d. IsTrue (is_among (blocks_summed c.args.fates.now) d))) (g.D.Disk.state c.args.disk.now) (g.D.Disk.state c.restore_fate.new.disk) (λ d left. left) (λ is. c.in-Err.is ∙ is) (λ is. sym c.in-Err.is ∙ is)
    (cells_both g.D.Disk.reveals ⊥ (c.restore_fate.result ≡ Err DiskFault) c.args.ledger.now.shape c.args.ledger.now.lattice.n (IsLeft (λ d. IsTrue (is_among (blocks_summed c.args.fates.now) d))) (IsLeft (λ d. IsTrue (is_among (blocks_summed c.args.fates.now) d))) (λ d. IsTrue (is_among (block_summed c.in-Some.fate.now) d) → ⊥) (g.D.Disk.state c.args.disk.now) (g.D.Disk.state c.loop-k.disk) (g.D.Disk.state c.restore_fate.new.disk)
    (λ none. none) (λ d left. left) (λ d left one. left (item_given block_summed c.args.fates.now c.in-Some.fate.now c.loop-k.k d c.in-Some.ensures one)) c.loop-k.invariant.writes c.restore_fate.ensures.writes)

pub loop-k-preserved : goal.loop-k-preserved
loop-k-preserved g c = record {
  lattice = c.restore_fate.ensures.lattice;
  sum = c.restore_fate.auto.sum ∙ c.loop-k.invariant.sum;
  read = c.restore_fate.auto.read ∙ c.loop-k.invariant.read;
  write = c.restore_fate.auto.write ∙ c.loop-k.invariant.write;
  done = marks_next block_summed c.args.ledger.now.lattice (is_marked c.args.marks.now) (is_marked c.loop-k.marks) (is_marked c.restore_fate.new.marks) c.args.fates.now c.in-Some.fate.now c.loop-k.k c.in-Some.ensures c.loop-k.invariant.done c.in-Ok.ensures.done;
  way = λ revealed. goes_both c.args.ledger.now (is_marked c.args.marks.now) (is_marked c.loop-k.marks) (is_marked c.restore_fate.new.marks) (g.D.Disk.state c.args.disk.now).files (g.D.Disk.state c.loop-k.disk).files (g.D.Disk.state c.restore_fate.new.disk).files
      (c.loop-k.invariant.way revealed) (c.restore_fate.ensures.way (λ bad. absurd (let is = c.in-Ok.is in cc)) revealed);
  drawn = λ revealed. stays_both c.args.ledger.now (is_marked c.args.marks.now) (is_marked c.loop-k.marks) (is_marked c.restore_fate.new.marks) (g.D.Disk.state c.args.disk.now).files (g.D.Disk.state c.loop-k.disk).files (g.D.Disk.state c.restore_fate.new.disk).files
      (c.loop-k.invariant.drawn revealed) (c.restore_fate.ensures.drawn revealed);
  each = λ known first way.
      each_next g.D.Disk.reveals c.args.ledger.now known (is_marked c.args.marks.now) (is_marked c.loop-k.marks) first (g.D.Disk.state c.loop-k.disk).files c.args.fates.now c.loop-k.k c.in-Some.fate.now c.in-Some.ensures (λ d has. c.loop-k.invariant.done d has)
      (λ b es one. sum_of_lattice c.args.ledger.now.lattice (is_marked c.args.marks.now) c.in-Some.fate.now b es one (item_has (CanSum c.args.ledger.now.lattice (is_marked c.args.marks.now)) c.args.fates.now c.in-Some.fate.now c.loop-k.k c.in-Some.ensures c.requires.can))
      c.in-Ok.ensures.judged
      (λ revealed. c.loop-k.invariant.way revealed known first (way revealed)) (c.loop-k.invariant.each known first way);
  writes = cells_less_as g.D.Disk.reveals (c.restore_fate.result ≡ Err DiskFault) ⊥ c.args.ledger.now.shape c.args.ledger.now.lattice.n (IsLeft (λ d. IsTrue (is_among (blocks_summed c.args.fates.now) d))) (IsLeft (λ d. IsTrue (is_among (blocks_summed c.args.fates.now) d))) (g.D.Disk.state c.args.disk.now) (g.D.Disk.state c.restore_fate.new.disk) (λ d left. left) (λ none. absurd none) (λ is. absurd (let e = sym c.in-Ok.is ∙ is in cc))
      (cells_both g.D.Disk.reveals ⊥ (c.restore_fate.result ≡ Err DiskFault) c.args.ledger.now.shape c.args.ledger.now.lattice.n (IsLeft (λ d. IsTrue (is_among (blocks_summed c.args.fates.now) d))) (IsLeft (λ d. IsTrue (is_among (blocks_summed c.args.fates.now) d))) (λ d. IsTrue (is_among (block_summed c.in-Some.fate.now) d) → ⊥) (g.D.Disk.state c.args.disk.now) (g.D.Disk.state c.loop-k.disk) (g.D.Disk.state c.restore_fate.new.disk)
      (λ none. none) (λ d left. left) (λ d left one. left (item_given block_summed c.args.fates.now c.in-Some.fate.now c.loop-k.k d c.in-Some.ensures one)) c.loop-k.invariant.writes c.restore_fate.ensures.writes);
}

pub returns-clause-done : goal.returns-clause-done
returns-clause-done g c d has = c.loop-k.invariant.done d has ∙ ap (λ (fs : List Fate). is_marked c.args.marks.now d || is_among (blocks_summed fs) d) (take_whole c.args.fates.now c.loop-k.k (omega (arith, c.loop-k-test.false, c.len-k-end.ensures)))

pub returns-clause-some : goal.returns-clause-some
returns-clause-some g c = items_some block_summed c.args.ledger.now.lattice c.args.fates.now c.loop-k.k c.args.marks.now c.loop-k.marks c.loop-k.invariant.done

pub returns-clause-order : goal.returns-clause-order
returns-clause-order g c known first way =
    order_end g.D.Disk.reveals c.args.ledger.now known (is_marked c.args.marks.now) (is_marked c.loop-k.marks) first c.args.fates.now (Ok tt) c.loop-k.k (omega (arith, c.loop-k-test.false, c.len-k-end.ensures))
    (λ d has. c.loop-k.invariant.done d has) (c.loop-k.invariant.each known first way) (λ d kept computed is. cc)

pub returns-clause-writes : goal.returns-clause-writes
returns-clause-writes g c =
    cells_less_as g.D.Disk.reveals ⊥ _ c.args.ledger.now.shape c.args.ledger.now.lattice.n (IsLeft (λ d. IsTrue (is_among (blocks_summed c.args.fates.now) d))) (IsLeft (λ d. IsTrue (is_among (blocks_summed c.args.fates.now) d))) (g.D.Disk.state c.args.disk.now) (g.D.Disk.state c.loop-k.disk) (λ d left. left) (λ is. absurd (let e = is in cc)) (λ none. absurd none) c.loop-k.invariant.writes
