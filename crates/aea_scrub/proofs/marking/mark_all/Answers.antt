use Rattle.std.proofs.Common.{◌≡◌, ◌<◌, ◌≤◌, refl, sym, ap, ◌∙◌, subst, arith}
use Rattle.std.specs.Prelude.{◌↔◌, IsTrue, IsErr}
use Rattle.std.proofs.lemmas.Bool.Decides.{nat_tests}
use Rattle.aea_lattice.specs.declared.grid.Lattice.{Lattice}
use Rattle.aea_lattice.specs.Blocks.{HasBlock, blocks_count, number_of}
use Rattle.aea_disk.specs.Files.{Files}
use Rattle.aea_disk.proofs.Frames.{ok_fine, reads_none, reads_both, reads_as}
use Rattle.aea_archive.specs.Blocks.{IsIntactBy}
use Rattle.aea_scrub.proofs.Scanned.{marked_none, marked_next, marked_all, marks_reveal}
use Rattle.aea_scrub.proofs.marking.mark_all.Goals as goal

pub loop-k-init : goal.loop-k-init
loop-k-init g c = record {
  within = omega arith;
  lattice = c.requires.lattice;
  whole = c.requires.whole;
  buffer = c.requires.buffer;
  intact = λ revealed. marked_none c.args.ledger.now (g.D.Disk.state c.args.disk.now).files c.args.marks.now;
  reads = reads_none g.D.Disk.reveals ⊥ (g.D.Disk.state c.args.disk.now) (λ none. none);
}

pub returns-in-Err-clause-reads : goal.returns-in-Err-clause-reads
returns-in-Err-clause-reads g c =
    reads_as g.D.Disk.reveals (IsErr c.is_block_intact.result) _ (g.D.Disk.state c.args.disk.now) (g.D.Disk.state c.is_block_intact.new.disk) (λ is. subst IsErr (sym c.in-Err.is) refl) (λ _. refl)
    (reads_both g.D.Disk.reveals ⊥ (IsErr c.is_block_intact.result) (g.D.Disk.state c.args.disk.now) (g.D.Disk.state c.loop-k.disk) (g.D.Disk.state c.is_block_intact.new.disk) (λ none. none) c.loop-k.invariant.reads c.is_block_intact.ensures.reads)

pub loop-k-preserved : goal.loop-k-preserved
loop-k-preserved g c =
    let v = c.args.ledger.now in
    let old = g.D.Disk.state c.args.disk.now in
    let mid = g.D.Disk.state c.loop-k.disk in
    let new = g.D.Disk.state c.is_block_intact.new.disk in
    let reveals = g.D.Disk.reveals in
    let b = c.block-b.result in
    let same = c.lattice-lattice.ensures.value in
    let lt : c.loop-k.k < c.blocks-count.result = grind (arith, nat_tests, c.loop-k-test.true) in
    let inside : HasBlock v.lattice b = subst (λ (l : Lattice). HasBlock l b) same c.block-b.ensures.block in
    let number : number_of v.lattice b ≡ c.loop-k.k = subst (λ (l : Lattice). number_of l b ≡ c.loop-k.k) same c.block-b.ensures.number in
    record {
      within = omega (arith, lt);
      lattice = c.set.ensures.lattice ∙ c.loop-k.invariant.lattice;
      whole = c.set.ensures.whole;
      buffer = c.is_block_intact.auto.cell ∙ c.loop-k.invariant.buffer;
      intact = λ revealed. marked_next v old.files c.loop-k.marks c.set.new.self b c.in-Ok.intact c.loop-k.k
          c.loop-k.invariant.lattice c.set.ensures.lattice c.loop-k.invariant.whole inside number c.set.ensures.marks
          (subst (λ (f : Files). IsTrue c.in-Ok.intact ↔ IsIntactBy v.shape v.digests f b) (c.loop-k.invariant.reads.contents revealed) (c.in-Ok.ensures.intact revealed))
          (c.loop-k.invariant.intact revealed);
      reads = reads_as reveals (IsErr c.is_block_intact.result) ⊥ old new (λ none. absurd none) (ok_fine c.in-Ok.is) (reads_both reveals ⊥ (IsErr c.is_block_intact.result) old mid new (λ none. none) c.loop-k.invariant.reads c.is_block_intact.ensures.reads);
    }

pub returns-clause-intact : goal.returns-clause-intact
returns-clause-intact g c revealed =
    let v = c.args.ledger.now in
    let past : c.blocks-count.result ≤ c.loop-k.k = grind (arith, nat_tests, c.loop-k-test.false) in
    let count : c.blocks-count.result ≡ blocks_count v.lattice = c.blocks-count.ensures.count ∙ ap blocks_count c.lattice-lattice.ensures.value in
    marked_all v (g.D.Disk.state c.args.disk.now).files c.loop-k.marks c.loop-k.k (omega (arith, past, count)) (c.loop-k.invariant.intact revealed)

pub returns-clause-survivors : goal.returns-clause-survivors
returns-clause-survivors g c revealed =
    marks_reveal c.args.ledger.now c.lattice-lattice.result (g.D.Disk.state c.args.disk.now).files c.loop-k.marks
    c.lattice-lattice.ensures.value c.lattice-lattice.ensures.of_shape (returns-clause-intact g c revealed)
