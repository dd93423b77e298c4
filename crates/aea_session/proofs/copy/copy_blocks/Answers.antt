use Rattle.std.proofs.Common.{◌≡◌, ℕ, ◌-◌, List, length, refl, ◌∙◌, ap, subst, arith, Err}
use Rattle.std.specs.Prelude.{All}
use Rattle.std.proofs.lemmas.List.Elements.{All-head, All-tail}
use Rattle.aea_lattice.specs.declared.blocks.BlockId.{BlockId}
use Rattle.aea_lattice.specs.declared.shape.Shape.{Shape}
use Rattle.aea_lattice.specs.Blocks.{HasBlock}
use Rattle.aea_disk.proofs.Frames.{reads_none, reads_both, reads_as}
use Rattle.aea_fetch.specs.Payloads.{IsPayload}
use Rattle.aea_fetch.specs.declared.fault.GetFault.TheVariants.{DiskFault}
use Rattle.aea_fetch.proofs.Broken.{payload_wide}
use Rattle.aea_fetch.proofs.Loops.{HasReached, reached_none, reached_more, reached_all}
use Rattle.aea_session.proofs.Copied.{copied_at, broken_there}
use Rattle.aea_session.proofs.copy.copy_blocks.Goals as goal

pub loop-b-init : goal.loop-b-init
loop-b-init g c =
    let v = c.args.ledger.now in
    let files = (g.D.Disk.state c.args.disk.now).files in
    let reveals = g.D.Disk.reveals in
    record {
      buffer = c.requires.buffer;
      inside = c.requires.inside;
      reached = reached_none (IsPayload reveals v.shape v.digests files) v.shape.block (payload_wide reveals v.shape v.digests files) c.args.blocks c.args.most (g.O.Sink.state c.args.out.now) c.args.page.now;
      still = refl;
      reads = reads_none reveals ⊥ (g.D.Disk.state c.args.disk.now) (λ none. none);
    }

pub copy_block-requires-clause-block : goal.copy_block-requires-clause-block
copy_block-requires-clause-block g c =
    let l = c.args.ledger.now.lattice in
    All-head (HasBlock l) c.in-Some.b c.next.new.self (subst (All (HasBlock l)) c.in-Some.ensures c.loop-b.invariant.inside)

pub loop-b-smaller : goal.loop-b-smaller
loop-b-smaller g c = let long = ap length c.in-Some.ensures in omega (arith, long)

pub loop-b-preserved : goal.loop-b-preserved
loop-b-preserved g c =
    let v = c.args.ledger.now in
    let reveals = g.D.Disk.reveals in
    let old = g.D.Disk.state c.args.disk.now in
    let mid = g.D.Disk.state c.loop-b.disk in
    let new = g.D.Disk.state c.copy_block.new.disk in
    let sink = g.O.Sink.state c.args.out.now in
    let here = g.O.Sink.state c.loop-b.out in
    let later = g.O.Sink.state c.copy_block.new.out in
    let has = IsPayload reveals v.shape v.digests old.files in
    let bad = c.copy_block.result ≡ Err DiskFault in
    let reached = subst (λ (bs : List BlockId). HasReached has v.shape.block c.args.blocks bs c.args.most c.loop-b.left sink c.args.page.now here c.loop-b.page) c.in-Some.ensures c.loop-b.invariant.reached in
    let size : c.block-size.result ≡ v.shape.block = c.block-size.ensures ∙ ap (λ (s : Shape). s.block) c.shape.ensures.value in
    record {
      buffer = c.copy_block.ensures.buffer;
      inside = All-tail (HasBlock v.lattice) c.in-Some.b c.next.new.self (subst (All (HasBlock v.lattice)) c.in-Some.ensures c.loop-b.invariant.inside);
      reached = reached_more has v.shape.block (payload_wide reveals v.shape v.digests old.files) c.args.blocks c.next.new.self c.in-Some.b c.args.most c.loop-b.left c.left_behind-left.result sink here later c.args.page.now c.loop-b.page c.copy_block.new.page reached
          (copied_at reveals v.shape v.digests old.files mid.files c.loop-b.invariant.reads.contents _ c.loop-b.left here later c.loop-b.page c.copy_block.new.page c.in-Ok.ensures.copied)
          (c.left_behind-left.ensures ∙ ap (λ (n : ℕ). c.loop-b.left - n) size);
      still = c.copy_block.ensures.still (λ failed. let ok = c.in-Ok.is in cc) ∙ c.loop-b.invariant.still;
      reads = reads_as reveals bad ⊥ old new (λ none. absurd none) (λ is. let ok = c.in-Ok.is in cc)
          (reads_both reveals ⊥ bad old mid new (λ none. none) c.loop-b.invariant.reads c.copy_block.ensures.reads);
    }

pub returns-in-Err-clause-broken : goal.returns-in-Err-clause-broken
returns-in-Err-clause-broken g c =
    let v = c.args.ledger.now in
    let reveals = g.D.Disk.reveals in
    let old = g.D.Disk.state c.args.disk.now in
    let mid = g.D.Disk.state c.loop-b.disk in
    let sink = g.O.Sink.state c.args.out.now in
    let here = g.O.Sink.state c.loop-b.out in
    let later = g.O.Sink.state c.copy_block.new.out in
    let has = IsPayload reveals v.shape v.digests old.files in
    let reached = subst (λ (bs : List BlockId). HasReached has v.shape.block c.args.blocks bs c.args.most c.loop-b.left sink c.args.page.now here c.loop-b.page) c.in-Some.ensures c.loop-b.invariant.reached in
    broken_there reveals v.shape v.digests old.files mid.files c.loop-b.invariant.reads.contents c.args.blocks c.next.new.self c.in-Some.b c.args.most c.loop-b.left sink here later c.args.page.now c.loop-b.page c.in-Err.fault
    reached c.in-Err.ensures.broken

pub returns-in-Err-clause-still : goal.returns-in-Err-clause-still
returns-in-Err-clause-still g c other = c.copy_block.ensures.still (λ is. let same = c.in-Err.is in other (let e = is in cc)) ∙ c.loop-b.invariant.still

pub returns-in-Err-clause-reads : goal.returns-in-Err-clause-reads
returns-in-Err-clause-reads g c =
    let bad = c.copy_block.result ≡ Err DiskFault in
    reads_as g.D.Disk.reveals bad _ (g.D.Disk.state c.args.disk.now) (g.D.Disk.state c.copy_block.new.disk) (λ is. let same = c.in-Err.is in let e = is in cc) (λ is. let same = c.in-Err.is in let e = is in cc)
    (reads_both g.D.Disk.reveals ⊥ bad (g.D.Disk.state c.args.disk.now) (g.D.Disk.state c.loop-b.disk) (g.D.Disk.state c.copy_block.new.disk) (λ none. none) c.loop-b.invariant.reads c.copy_block.ensures.reads)

pub returns-clause-copied : goal.returns-clause-copied
returns-clause-copied g c =
    let v = c.args.ledger.now in
    let files = (g.D.Disk.state c.args.disk.now).files in
    let has = IsPayload g.D.Disk.reveals v.shape v.digests files in
    let sink = g.O.Sink.state c.args.out.now in
    let here = g.O.Sink.state c.loop-b.out in
    reached_all has v.shape.block (payload_wide g.D.Disk.reveals v.shape v.digests files) c.args.blocks c.args.most c.loop-b.left sink here c.args.page.now c.loop-b.page
    (subst (λ (bs : List BlockId). HasReached has v.shape.block c.args.blocks bs c.args.most c.loop-b.left sink c.args.page.now here c.loop-b.page) c.in_default.ensures.0 c.loop-b.invariant.reached)

pub returns-clause-reads : goal.returns-clause-reads
returns-clause-reads g c =
    reads_as g.D.Disk.reveals ⊥ _ (g.D.Disk.state c.args.disk.now) (g.D.Disk.state c.loop-b.disk) (λ is. let e = is in cc) (λ none. absurd none) c.loop-b.invariant.reads
