use Rattle.std.proofs.Common.{◌≡◌, [], ◌∷◌, List, map, false, Ok, Err, refl, sym, ◌∙◌, ap, subst, arith}
use Rattle.std.specs.Prelude.{IsTrue, IsErr}
use Rattle.std.proofs.lemmas.List.{length-map}
use Rattle.aea_lattice.specs.declared.blocks.BlockId.{BlockId}
use Rattle.aea_lattice.specs.Closure.{is_among}
use Rattle.aea_view.specs.Marked.{Marked, is_marked}
use Rattle.aea_peel.specs.declared.plan.Step.{Step}
use Rattle.aea_peel.specs.Plans.{blocks_given, is_had}
use Rattle.aea_restore.proofs.Parts.{step_gives, give_more}
use Rattle.aea_restore.proofs.Loops.{steps_first, steps_next, step_given, steps_some, goes_both, torn_both, stays_both}
use Rattle.aea_restore.specs.declared.fault.RestoreFault.TheVariants.{DiskFault}
use Rattle.aea_restore.specs.Judged.{IsComputed}
use Rattle.aea_restore.specs.InOrder.{sum_of}
use Rattle.aea_restore.specs.Repairs.{IsLeft}
use Rattle.aea_restore.proofs.Ordered.{IsOfLattice, each_none, each_next, clash_next, order_stop, order_end, sum_item, had_steps, step_at}
use Rattle.aea_restore.proofs.Items.{got_some, take_whole}
use Rattle.aea_archive.proofs.Writes.{cells_none, cells_both, cells_less_as}
use Rattle.aea_restore.proofs.steps.restore_steps.Goals as goal

pub loop-k-init : goal.loop-k-init
loop-k-init g c = record {
  lattice = c.requires.lattice;
  sum = c.requires.sum;
  read = c.requires.read;
  write = c.requires.write;
  done = λ d has. steps_first (is_marked c.args.marks.now) c.args.steps.now d;
  way = λ revealed known first way. way;
  drawn = λ revealed known first all. all;
  each = λ known first way. each_none g.D.Disk.reveals c.args.ledger.now known (is_marked c.args.marks.now) first (map sum_of c.args.steps.now);
  writes = cells_none g.D.Disk.reveals ⊥ c.args.ledger.now.shape c.args.ledger.now.lattice.n (IsLeft (λ d. IsTrue (is_among (blocks_given c.args.steps.now) d))) (g.D.Disk.state c.args.disk.now) (λ none. none);
}

pub unreachable-requires : goal.unreachable-requires
unreachable-requires g c = got_some c.args.steps.now c.loop-k.k (omega (arith, c.loop-k-test.true, c.len-k-end.ensures)) (sym c.get.ensures ∙ c.in_default.is)

pub restore_step-requires-clause-block : goal.restore_step-requires-clause-block
restore_step-requires-clause-block g c = (c.requires.plan.fresh c.in-Some.step.block (step_given c.args.steps.now c.in-Some.step c.loop-k.k (sym c.get.ensures ∙ c.in-Some.is))).0

pub restore_step-requires-clause-gives : goal.restore_step-requires-clause-gives
restore_step-requires-clause-gives g c =
    give_more c.args.ledger.now.lattice _ (is_marked c.loop-k.marks) c.in-Some.step.block (c.in-Some.step.by ∷ []) (λ d has is. c.loop-k.invariant.done d has ∙ is)
    (step_gives c.args.ledger.now.lattice _ c.in-Some.step.block c.in-Some.step.by (c.requires.plan.forced c.loop-k.k c.in-Some.step (sym c.get.ensures ∙ c.in-Some.is)))

pub returns-in-Err-clause-some : goal.returns-in-Err-clause-some
returns-in-Err-clause-some g c =
    let same = c.restore_step.ensures.same (subst IsErr (sym c.in-Err.is) refl) in
    steps_some c.args.ledger.now.lattice c.args.steps.now c.loop-k.k c.args.marks.now c.restore_step.new.marks (λ d has. ap (λ (m : Marked). is_marked m d) same ∙ c.loop-k.invariant.done d has)

pub returns-in-Err-clause-way : goal.returns-in-Err-clause-way
returns-in-Err-clause-way g c fine revealed =
    goes_both c.args.ledger.now (is_marked c.args.marks.now) (is_marked c.loop-k.marks) (is_marked c.restore_step.new.marks) (g.D.Disk.state c.args.disk.now).files (g.D.Disk.state c.loop-k.disk).files (g.D.Disk.state c.restore_step.new.disk).files
    (c.loop-k.invariant.way revealed) (c.restore_step.ensures.way (λ bad. fine (sym c.in-Err.is ∙ bad)) revealed)

pub returns-in-Err-clause-torn : goal.returns-in-Err-clause-torn
returns-in-Err-clause-torn g c is revealed =
    torn_both c.args.ledger.now (λ d. d ≡ c.in-Some.step.block) (λ d. IsTrue (is_among (blocks_given c.args.steps.now) d)) (is_marked c.args.marks.now) (is_marked c.loop-k.marks) (is_marked c.restore_step.new.marks) (g.D.Disk.state c.args.disk.now).files (g.D.Disk.state c.loop-k.disk).files (g.D.Disk.state c.restore_step.new.disk).files
    (λ d one. subst (λ (e : BlockId). IsTrue (is_among (blocks_given c.args.steps.now) e)) (sym one) (step_given c.args.steps.now c.in-Some.step c.loop-k.k (sym c.get.ensures ∙ c.in-Some.is))) (c.loop-k.invariant.way revealed) (c.restore_step.ensures.torn (c.in-Err.is ∙ is) revealed)

pub returns-in-Err-clause-drawn : goal.returns-in-Err-clause-drawn
returns-in-Err-clause-drawn g c revealed =
    stays_both c.args.ledger.now (is_marked c.args.marks.now) (is_marked c.loop-k.marks) (is_marked c.restore_step.new.marks) (g.D.Disk.state c.args.disk.now).files (g.D.Disk.state c.loop-k.disk).files (g.D.Disk.state c.restore_step.new.disk).files
    (c.loop-k.invariant.drawn revealed) (c.restore_step.ensures.drawn revealed)

pub returns-in-Err-clause-order : goal.returns-in-Err-clause-order
returns-in-Err-clause-order g c known first way =
    let v = c.args.ledger.now in
    let same = c.restore_step.ensures.same (subst IsErr (sym c.in-Err.is) refl) in
    order_stop g.D.Disk.reveals v known (is_marked c.args.marks.now) (is_marked c.restore_step.new.marks) first (map sum_of c.args.steps.now) (Err c.in-Err.fault) c.loop-k.k (omega (arith, c.loop-k-test.true, c.len-k-end.ensures, length-map c.args.steps.now sum_of)) (λ ok. absurd (let e = ok in cc))
    (λ d has. ap (λ (m : Marked). is_marked m d) same ∙ c.loop-k.invariant.done d has ∙ had_steps (is_marked c.args.marks.now) c.args.steps.now c.loop-k.k d)
    (c.loop-k.invariant.each known first way)
    (λ d kept computed is.
    let found = c.restore_step.ensures.found d kept computed (c.in-Err.is ∙ is) in
    clash_next g.D.Disk.reveals v known (is_marked c.args.marks.now) (is_marked c.loop-k.marks) first (g.D.Disk.state c.loop-k.disk).files (map sum_of c.args.steps.now) c.loop-k.k c.in-Some.step.block d (c.in-Some.step.by ∷ []) kept computed (step_at c.args.steps.now c.in-Some.step c.loop-k.k (sym c.get.ensures ∙ c.in-Some.is))
    (λ a has. c.loop-k.invariant.done a has ∙ had_steps (is_marked c.args.marks.now) c.args.steps.now c.loop-k.k a)
    ((c.requires.plan.fresh c.in-Some.step.block (step_given c.args.steps.now c.in-Some.step c.loop-k.k (sym c.get.ensures ∙ c.in-Some.is))).0, (step_gives c.args.ledger.now.lattice _ c.in-Some.step.block c.in-Some.step.by (c.requires.plan.forced c.loop-k.k c.in-Some.step (sym c.get.ensures ∙ c.in-Some.is))).valid)
    found.0 found.1 (λ revealed. c.loop-k.invariant.way revealed known first (way revealed)))

pub returns-in-Err-clause-other : goal.returns-in-Err-clause-other
returns-in-Err-clause-other g c d revealed computed is = c.restore_step.ensures.other d revealed computed (c.in-Err.is ∙ is)

pub returns-in-Err-clause-clash : goal.returns-in-Err-clause-clash
returns-in-Err-clause-clash g c d revealed computed is reveals known first all =
    let clash = c.restore_step.ensures.clash d revealed computed (c.in-Err.is ∙ is) reveals known first (c.loop-k.invariant.drawn reveals known first all) in
    let one = clash.0 in
    (subst (λ (e : BlockId). IsTrue (is_among (blocks_given c.args.steps.now) e)) (sym one) (step_given c.args.steps.now c.in-Some.step c.loop-k.k (sym c.get.ensures ∙ c.in-Some.is)), clash.1)

pub returns-in-Err-clause-writes : goal.returns-in-Err-clause-writes
returns-in-Err-clause-writes g c =
    cells_less_as g.D.Disk.reveals (c.restore_step.result ≡ Err DiskFault) _ c.args.ledger.now.shape c.args.ledger.now.lattice.n (IsLeft (λ d. IsTrue (is_among (blocks_given c.args.steps.now) d))) (IsLeft (λ d. IsTrue (is_among (blocks_given c.args.steps.now) d))) (g.D.Disk.state c.args.disk.now) (g.D.Disk.state c.restore_step.new.disk) (λ d left. left) (λ is. c.in-Err.is ∙ is) (λ is. sym c.in-Err.is ∙ is)
    (cells_both g.D.Disk.reveals ⊥ (c.restore_step.result ≡ Err DiskFault) c.args.ledger.now.shape c.args.ledger.now.lattice.n (IsLeft (λ d. IsTrue (is_among (blocks_given c.args.steps.now) d))) (IsLeft (λ d. IsTrue (is_among (blocks_given c.args.steps.now) d))) (λ d. d ≡ c.in-Some.step.block → ⊥) (g.D.Disk.state c.args.disk.now) (g.D.Disk.state c.loop-k.disk) (g.D.Disk.state c.restore_step.new.disk)
    (λ none. none) (λ d left. left) (λ d left one. left (subst (λ (e : BlockId). IsTrue (is_among (blocks_given c.args.steps.now) e)) (sym one) (step_given c.args.steps.now c.in-Some.step c.loop-k.k (sym c.get.ensures ∙ c.in-Some.is)))) c.loop-k.invariant.writes c.restore_step.ensures.writes)

pub loop-k-preserved : goal.loop-k-preserved
loop-k-preserved g c = record {
  lattice = c.restore_step.ensures.lattice;
  sum = c.restore_step.auto.sum ∙ c.loop-k.invariant.sum;
  read = c.restore_step.auto.read ∙ c.loop-k.invariant.read;
  write = c.restore_step.auto.write ∙ c.loop-k.invariant.write;
  done = steps_next c.args.ledger.now.lattice (is_marked c.args.marks.now) (is_marked c.loop-k.marks) (is_marked c.restore_step.new.marks) c.args.steps.now c.in-Some.step c.loop-k.k (sym c.get.ensures ∙ c.in-Some.is) c.loop-k.invariant.done c.in-Ok.ensures.done;
  way = λ revealed. goes_both c.args.ledger.now (is_marked c.args.marks.now) (is_marked c.loop-k.marks) (is_marked c.restore_step.new.marks) (g.D.Disk.state c.args.disk.now).files (g.D.Disk.state c.loop-k.disk).files (g.D.Disk.state c.restore_step.new.disk).files
      (c.loop-k.invariant.way revealed) (c.restore_step.ensures.way (λ bad. absurd (let is = c.in-Ok.is in cc)) revealed);
  drawn = λ revealed. stays_both c.args.ledger.now (is_marked c.args.marks.now) (is_marked c.loop-k.marks) (is_marked c.restore_step.new.marks) (g.D.Disk.state c.args.disk.now).files (g.D.Disk.state c.loop-k.disk).files (g.D.Disk.state c.restore_step.new.disk).files
      (c.loop-k.invariant.drawn revealed) (c.restore_step.ensures.drawn revealed);
  each = λ known first way.
      each_next g.D.Disk.reveals c.args.ledger.now known (is_marked c.args.marks.now) (is_marked c.loop-k.marks) first (g.D.Disk.state c.loop-k.disk).files (map sum_of c.args.steps.now) c.loop-k.k (sum_of c.in-Some.step) (step_at c.args.steps.now c.in-Some.step c.loop-k.k (sym c.get.ensures ∙ c.in-Some.is))
      (λ d has. c.loop-k.invariant.done d has ∙ had_steps (is_marked c.args.marks.now) c.args.steps.now c.loop-k.k d)
      (λ b es one. sum_item (IsOfLattice c.args.ledger.now.lattice) c.in-Some.step.block b (c.in-Some.step.by ∷ []) es one ((c.requires.plan.fresh c.in-Some.step.block (step_given c.args.steps.now c.in-Some.step c.loop-k.k (sym c.get.ensures ∙ c.in-Some.is))).0, (step_gives c.args.ledger.now.lattice _ c.in-Some.step.block c.in-Some.step.by (c.requires.plan.forced c.loop-k.k c.in-Some.step (sym c.get.ensures ∙ c.in-Some.is))).valid))
      (λ b es one. sum_item (λ a ds. is_marked c.loop-k.marks a ≡ false → IsComputed g.D.Disk.reveals c.args.ledger.now (g.D.Disk.state c.loop-k.disk).files (is_marked c.loop-k.marks) a ds) c.in-Some.step.block b (c.in-Some.step.by ∷ []) es one c.in-Ok.ensures.judged)
      (λ revealed. c.loop-k.invariant.way revealed known first (way revealed)) (c.loop-k.invariant.each known first way);
  writes = cells_less_as g.D.Disk.reveals (c.restore_step.result ≡ Err DiskFault) ⊥ c.args.ledger.now.shape c.args.ledger.now.lattice.n (IsLeft (λ d. IsTrue (is_among (blocks_given c.args.steps.now) d))) (IsLeft (λ d. IsTrue (is_among (blocks_given c.args.steps.now) d))) (g.D.Disk.state c.args.disk.now) (g.D.Disk.state c.restore_step.new.disk) (λ d left. left) (λ none. absurd none) (λ is. absurd (let e = sym c.in-Ok.is ∙ is in cc))
      (cells_both g.D.Disk.reveals ⊥ (c.restore_step.result ≡ Err DiskFault) c.args.ledger.now.shape c.args.ledger.now.lattice.n (IsLeft (λ d. IsTrue (is_among (blocks_given c.args.steps.now) d))) (IsLeft (λ d. IsTrue (is_among (blocks_given c.args.steps.now) d))) (λ d. d ≡ c.in-Some.step.block → ⊥) (g.D.Disk.state c.args.disk.now) (g.D.Disk.state c.loop-k.disk) (g.D.Disk.state c.restore_step.new.disk)
      (λ none. none) (λ d left. left) (λ d left one. left (subst (λ (e : BlockId). IsTrue (is_among (blocks_given c.args.steps.now) e)) (sym one) (step_given c.args.steps.now c.in-Some.step c.loop-k.k (sym c.get.ensures ∙ c.in-Some.is)))) c.loop-k.invariant.writes c.restore_step.ensures.writes);
}

pub returns-clause-done : goal.returns-clause-done
returns-clause-done g c d has = c.loop-k.invariant.done d has ∙ ap (λ (ss : List Step). is_had (is_marked c.args.marks.now) ss d) (take_whole c.args.steps.now c.loop-k.k (omega (arith, c.loop-k-test.false, c.len-k-end.ensures)))

pub returns-clause-some : goal.returns-clause-some
returns-clause-some g c = steps_some c.args.ledger.now.lattice c.args.steps.now c.loop-k.k c.args.marks.now c.loop-k.marks c.loop-k.invariant.done

pub returns-clause-order : goal.returns-clause-order
returns-clause-order g c known first way =
    order_end g.D.Disk.reveals c.args.ledger.now known (is_marked c.args.marks.now) (is_marked c.loop-k.marks) first (map sum_of c.args.steps.now) (Ok tt) c.loop-k.k (omega (arith, c.loop-k-test.false, c.len-k-end.ensures, length-map c.args.steps.now sum_of))
    (λ d has. c.loop-k.invariant.done d has ∙ had_steps (is_marked c.args.marks.now) c.args.steps.now c.loop-k.k d) (c.loop-k.invariant.each known first way) (λ d kept computed is. cc)

pub returns-clause-writes : goal.returns-clause-writes
returns-clause-writes g c =
    cells_less_as g.D.Disk.reveals ⊥ _ c.args.ledger.now.shape c.args.ledger.now.lattice.n (IsLeft (λ d. IsTrue (is_among (blocks_given c.args.steps.now) d))) (IsLeft (λ d. IsTrue (is_among (blocks_given c.args.steps.now) d))) (g.D.Disk.state c.args.disk.now) (g.D.Disk.state c.loop-k.disk) (λ d left. left) (λ is. absurd (let e = is in cc)) (λ none. absurd none) c.loop-k.invariant.writes
