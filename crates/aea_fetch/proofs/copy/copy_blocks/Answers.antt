use Rattle.std.proofs.Common.{◌≡◌, ℕ, ◌-◌, List, length, refl, sym, ◌∙◌, ap, subst, arith, Ok}
use Rattle.std.specs.Prelude.{All, Result}
use Rattle.std.proofs.lemmas.List.Elements.{All-head, All-tail}
use Rattle.aea_lattice.specs.declared.blocks.BlockId.{BlockId}
use Rattle.aea_lattice.specs.declared.shape.Shape.{Shape}
use Rattle.aea_lattice.specs.Blocks.{HasBlock}
use Rattle.aea_disk.proofs.Frames.{reads_none, reads_both, reads_as}
use Rattle.aea_fetch.specs.Copies.{IsWide, IsPayloadFault}
use Rattle.aea_fetch.specs.declared.source.SendFault.{SendFault}
use Rattle.aea_fetch.specs.declared.source.SendFault.TheVariants.{Output}
use Rattle.aea_fetch.proofs.Firsts.{all_at}
use Rattle.aea_fetch.proofs.Loops.{HasReached, reached_none, reached_more, reached_cut, reached_one, reached_all}
use Rattle.aea_fetch.proofs.copy.copy_blocks.Goals as goal

-- a call that did not fail, failed by no payload
fine : {F : Type 0} (kind : F → Type 0) {result : Result (Unit {0}) (SendFault F)} {v : Unit {0}} → result ≡ Ok v → IsPayloadFault kind result → ⊥
fine kind same is = subst (IsPayloadFault kind) same is

pub loop-b-init : goal.loop-b-init
loop-b-init g c =
    let v = c.args.ledger.now in
    record {
      ready = λ d is. is;
      inside = c.requires.inside;
      reached = reached_none (IsWide v.shape.block (g.P.PayloadSource.has g.D.Disk.reveals v (g.D.Disk.state c.args.disk.now).files)) v.shape.block (λ b p is. is.1) c.args.blocks c.args.most (g.O.Sink.state c.args.out.now) c.args.page.now;
      still = refl;
      reads = reads_none g.D.Disk.reveals ⊥ (g.D.Disk.state c.args.disk.now) (λ none. none);
    }

pub copy_block-requires-clause-block : goal.copy_block-requires-clause-block
copy_block-requires-clause-block g c =
    let l = c.args.ledger.now.lattice in
    All-head (HasBlock l) c.in-Some.b c.next.new.self (subst (All (HasBlock l)) c.in-Some.ensures c.loop-b.invariant.inside)

pub copy_block-requires-clause-ready : goal.copy_block-requires-clause-ready
copy_block-requires-clause-ready g c =
    let v = c.args.ledger.now in
    let files = (g.D.Disk.state c.args.disk.now).files in
    let has = IsWide v.shape.block (g.P.PayloadSource.has g.D.Disk.reveals v files) in
    let ready = g.P.PayloadSource.ready c.args.payloads.now g.D.Disk.reveals v files in
    let sink = g.O.Sink.state c.args.out.now in
    let here = g.O.Sink.state c.loop-b.out in
    let reached = subst (λ (bs : List BlockId). HasReached has v.shape.block c.args.blocks bs c.args.most c.loop-b.left sink c.args.page.now here c.loop-b.page) c.in-Some.ensures c.loop-b.invariant.reached in
    let one = reached_one has v.shape.block (λ b p is. is.1) c.args.blocks c.next.new.self c.in-Some.b c.args.most c.loop-b.left sink here c.args.page.now c.loop-b.page reached in
    c.loop-b.invariant.ready c.in-Some.b (all_at ready one.before one.after c.in-Some.b (subst (All ready) one.are c.requires.ready))

pub loop-b-smaller : goal.loop-b-smaller
loop-b-smaller g c = let long = ap length c.in-Some.ensures in omega (arith, long)

pub loop-b-preserved : goal.loop-b-preserved
loop-b-preserved g c =
    let v = c.args.ledger.now in
    let reveals = g.D.Disk.reveals in
    let kind = g.P.PayloadSource.is_disk in
    let old = g.D.Disk.state c.args.disk.now in
    let mid = g.D.Disk.state c.loop-b.disk in
    let sink = g.O.Sink.state c.args.out.now in
    let here = g.O.Sink.state c.loop-b.out in
    let later = g.O.Sink.state c.copy_block.new.out in
    let has = IsWide v.shape.block (g.P.PayloadSource.has reveals v old.files) in
    let reached = subst (λ (bs : List BlockId). HasReached has v.shape.block c.args.blocks bs c.args.most c.loop-b.left sink c.args.page.now here c.loop-b.page) c.in-Some.ensures c.loop-b.invariant.reached in
    let size : c.block-size.result ≡ v.shape.block = c.block-size.ensures ∙ ap (λ (s : Shape). s.block) c.shape.ensures.value in
    record {
      ready = λ d is. c.copy_block.ensures.ready d (c.loop-b.invariant.ready d is);
      inside = All-tail (HasBlock v.lattice) c.in-Some.b c.next.new.self (subst (All (HasBlock v.lattice)) c.in-Some.ensures c.loop-b.invariant.inside);
      reached = reached_more has v.shape.block (λ b p is. is.1) c.args.blocks c.next.new.self c.in-Some.b c.args.most c.loop-b.left c.left_behind-left.result sink here later c.args.page.now c.loop-b.page c.copy_block.new.page reached
          (c.in-Ok.ensures.copied old.files c.loop-b.invariant.reads.contents)
          (c.left_behind-left.ensures ∙ ap (λ (n : ℕ). c.loop-b.left - n) size);
      still = c.copy_block.ensures.still (λ failed. let ok = c.in-Ok.is in cc) ∙ c.loop-b.invariant.still;
      reads = reads_as reveals (IsPayloadFault kind c.copy_block.result) ⊥ old (g.D.Disk.state c.copy_block.new.disk) (λ none. absurd none) (fine kind c.in-Ok.is)
          (reads_both reveals ⊥ (IsPayloadFault kind c.copy_block.result) old mid (g.D.Disk.state c.copy_block.new.disk) (λ none. none) c.loop-b.invariant.reads c.copy_block.ensures.reads);
    }

pub returns-in-Err-clause-cut : goal.returns-in-Err-clause-cut
returns-in-Err-clause-cut g c =
    let v = c.args.ledger.now in
    let old = g.D.Disk.state c.args.disk.now in
    let sink = g.O.Sink.state c.args.out.now in
    let here = g.O.Sink.state c.loop-b.out in
    let later = g.O.Sink.state c.copy_block.new.out in
    let has = IsWide v.shape.block (g.P.PayloadSource.has g.D.Disk.reveals v old.files) in
    let reached = subst (λ (bs : List BlockId). HasReached has v.shape.block c.args.blocks bs c.args.most c.loop-b.left sink c.args.page.now here c.loop-b.page) c.in-Some.ensures c.loop-b.invariant.reached in
    reached_cut has v.shape.block (λ b p is. is.1) c.args.blocks c.next.new.self c.in-Some.b c.args.most c.loop-b.left sink here later c.args.page.now c.loop-b.page (c.in-Err.fault ≡ Output) reached
    (c.in-Err.ensures.cut old.files c.loop-b.invariant.reads.contents)

pub returns-in-Err-clause-why : goal.returns-in-Err-clause-why
returns-in-Err-clause-why g c fault is =
    let v = c.args.ledger.now in
    let old = g.D.Disk.state c.args.disk.now in
    let sink = g.O.Sink.state c.args.out.now in
    let here = g.O.Sink.state c.loop-b.out in
    let has = IsWide v.shape.block (g.P.PayloadSource.has g.D.Disk.reveals v old.files) in
    let reached = subst (λ (bs : List BlockId). HasReached has v.shape.block c.args.blocks bs c.args.most c.loop-b.left sink c.args.page.now here c.loop-b.page) c.in-Some.ensures c.loop-b.invariant.reached in (
      c.in-Some.b,
      reached_one has v.shape.block (λ b p is. is.1) c.args.blocks c.next.new.self c.in-Some.b c.args.most c.loop-b.left sink here c.args.page.now c.loop-b.page reached,
      c.copy_block.ensures.why fault (c.in-Err.is ∙ is) old.files c.loop-b.invariant.reads.contents,
    )

pub returns-in-Err-clause-reads : goal.returns-in-Err-clause-reads
returns-in-Err-clause-reads g c =
    let kind = g.P.PayloadSource.is_disk in
    let mine = IsPayloadFault kind c.copy_block.result in
    reads_as g.D.Disk.reveals mine _ (g.D.Disk.state c.args.disk.now) (g.D.Disk.state c.copy_block.new.disk) (λ is. subst (IsPayloadFault kind) (sym c.in-Err.is) is) (λ is. subst (IsPayloadFault kind) c.in-Err.is is)
    (reads_both g.D.Disk.reveals ⊥ mine (g.D.Disk.state c.args.disk.now) (g.D.Disk.state c.loop-b.disk) (g.D.Disk.state c.copy_block.new.disk) (λ none. none) c.loop-b.invariant.reads c.copy_block.ensures.reads)

pub returns-clause-copied : goal.returns-clause-copied
returns-clause-copied g c =
    let v = c.args.ledger.now in
    let files = (g.D.Disk.state c.args.disk.now).files in
    let has = IsWide v.shape.block (g.P.PayloadSource.has g.D.Disk.reveals v files) in
    let sink = g.O.Sink.state c.args.out.now in
    let here = g.O.Sink.state c.loop-b.out in
    reached_all has v.shape.block (λ b p is. is.1) c.args.blocks c.args.most c.loop-b.left sink here c.args.page.now c.loop-b.page
    (subst (λ (bs : List BlockId). HasReached has v.shape.block c.args.blocks bs c.args.most c.loop-b.left sink c.args.page.now here c.loop-b.page) c.in_default.ensures.0 c.loop-b.invariant.reached)

pub returns-clause-reads : goal.returns-clause-reads
returns-clause-reads g c =
    reads_as g.D.Disk.reveals ⊥ _ (g.D.Disk.state c.args.disk.now) (g.D.Disk.state c.loop-b.disk) (λ is. absurd is) (λ none. absurd none) c.loop-b.invariant.reads
