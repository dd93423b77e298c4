use Rattle.std.proofs.Common.{length, refl, sym, ◌∙◌, ap, subst, arith}
use Rattle.std.specs.Prelude.{All, IsErr}
use Rattle.std.proofs.lemmas.List.Elements.{All-head, All-tail}
use Rattle.aea_lattice.specs.Blocks.{HasBlock}
use Rattle.aea_disk.specs.Files.{Files}
use Rattle.aea_disk.proofs.Frames.{ok_fine, reads_none, reads_both, reads_as}
use Rattle.aea_archive.specs.Blocks.{IsIntactBy}
use Rattle.aea_fetch.proofs.Loops.{HasSeen, seen_none, seen_more, seen_one, seen_first, seen_all}
use Rattle.aea_fetch.proofs.check.check_blocks.Goals as goal

pub loop-b-init : goal.loop-b-init
loop-b-init g c =
    let v = c.args.ledger.now in
    record {
      inside = c.requires.inside;
      buffer = c.requires.buffer;
      seen = seen_none g.D.Disk.reveals (IsIntactBy v.shape v.digests (g.D.Disk.state c.args.disk.now).files) c.args.blocks;
      reads = reads_none g.D.Disk.reveals ⊥ (g.D.Disk.state c.args.disk.now) (λ none. none);
    }

pub is_block_intact-requires-clause-block : goal.is_block_intact-requires-clause-block
is_block_intact-requires-clause-block g c =
    let l = c.args.ledger.now.lattice in
    All-head (HasBlock l) c.in-Some.b c.next.new.self (subst (All (HasBlock l)) c.in-Some.ensures c.loop-b.invariant.inside)

pub loop-b-smaller : goal.loop-b-smaller
loop-b-smaller g c = let long = ap length c.in-Some.ensures in omega (arith, long)

pub loop-b-preserved : goal.loop-b-preserved
loop-b-preserved g c =
    let v = c.args.ledger.now in
    let old = g.D.Disk.state c.args.disk.now in
    let good = IsIntactBy v.shape v.digests old.files in
    record {
      inside = All-tail (HasBlock v.lattice) c.in-Some.b c.next.new.self (subst (All (HasBlock v.lattice)) c.in-Some.ensures c.loop-b.invariant.inside);
      buffer = c.is_block_intact.auto.cell ∙ c.loop-b.invariant.buffer;
      seen = seen_more g.D.Disk.reveals good c.args.blocks c.next.new.self c.in-Some.b (subst (HasSeen g.D.Disk.reveals good c.args.blocks) c.in-Some.ensures c.loop-b.invariant.seen)
          (λ revealed. subst (λ (f : Files). IsIntactBy v.shape v.digests f c.in-Some.b) (c.loop-b.invariant.reads.contents revealed) ((c.in-Ok-true.ensures.intact revealed).0 c.in-Ok-true.field-0-test));
      reads = reads_as g.D.Disk.reveals (IsErr c.is_block_intact.result) ⊥ old (g.D.Disk.state c.is_block_intact.new.disk) (λ none. absurd none) (ok_fine c.in-Ok-true.is)
          (reads_both g.D.Disk.reveals ⊥ (IsErr c.is_block_intact.result) old (g.D.Disk.state c.loop-b.disk) (g.D.Disk.state c.is_block_intact.new.disk) (λ none. none) c.loop-b.invariant.reads c.is_block_intact.ensures.reads);
    }

pub returns-in-Ok-false-clause-found : goal.returns-in-Ok-false-clause-found
returns-in-Ok-false-clause-found g c =
    let v = c.args.ledger.now in
    let old = g.D.Disk.state c.args.disk.now in
    let good = IsIntactBy v.shape v.digests old.files in
    let seen = subst (HasSeen g.D.Disk.reveals good c.args.blocks) c.in-Some.ensures c.loop-b.invariant.seen in (
      seen_one g.D.Disk.reveals good c.args.blocks c.next.new.self c.in-Some.b seen,
      λ revealed.
          seen_first g.D.Disk.reveals good c.args.blocks c.next.new.self c.in-Some.b seen revealed
          (subst (λ (f : Files). IsIntactBy v.shape v.digests f c.in-Some.b → ⊥) (c.loop-b.invariant.reads.contents revealed) (λ is. absurd (let one = (c.in-Ok-false.ensures.intact revealed).1 is in let other = c.in-Ok-false.field-0-test in cc))),
    )

pub returns-in-Ok-false-clause-reads : goal.returns-in-Ok-false-clause-reads
returns-in-Ok-false-clause-reads g c =
    reads_as g.D.Disk.reveals (IsErr c.is_block_intact.result) _ (g.D.Disk.state c.args.disk.now) (g.D.Disk.state c.is_block_intact.new.disk) (λ is. let e = is in cc) (λ is. cc)
    (reads_both g.D.Disk.reveals ⊥ (IsErr c.is_block_intact.result) (g.D.Disk.state c.args.disk.now) (g.D.Disk.state c.loop-b.disk) (g.D.Disk.state c.is_block_intact.new.disk) (λ none. none) c.loop-b.invariant.reads c.is_block_intact.ensures.reads)

pub returns-in-Err-clause-reads : goal.returns-in-Err-clause-reads
returns-in-Err-clause-reads g c =
    reads_as g.D.Disk.reveals (IsErr c.is_block_intact.result) _ (g.D.Disk.state c.args.disk.now) (g.D.Disk.state c.is_block_intact.new.disk) (λ is. subst IsErr (sym c.in-Err.is) refl) (λ _. refl)
    (reads_both g.D.Disk.reveals ⊥ (IsErr c.is_block_intact.result) (g.D.Disk.state c.args.disk.now) (g.D.Disk.state c.loop-b.disk) (g.D.Disk.state c.is_block_intact.new.disk) (λ none. none) c.loop-b.invariant.reads c.is_block_intact.ensures.reads)

pub returns-clause-found : goal.returns-clause-found
returns-clause-found g c revealed =
    let v = c.args.ledger.now in
    let good = IsIntactBy v.shape v.digests (g.D.Disk.state c.args.disk.now).files in
    seen_all g.D.Disk.reveals good c.args.blocks (subst (HasSeen g.D.Disk.reveals good c.args.blocks) c.in_default.ensures.0 c.loop-b.invariant.seen) revealed

pub returns-clause-reads : goal.returns-clause-reads
returns-clause-reads g c =
    reads_as g.D.Disk.reveals ⊥ _ (g.D.Disk.state c.args.disk.now) (g.D.Disk.state c.loop-b.disk) (λ is. let e = is in cc) (λ none. absurd none) c.loop-b.invariant.reads
