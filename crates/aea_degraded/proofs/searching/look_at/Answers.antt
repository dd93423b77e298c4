use Rattle.std.proofs.Common.{◌≡◌, true, length, ◌∙◌, ap, subst, arith, Err}
use Rattle.std.specs.Prelude.{All}
use Rattle.std.proofs.lemmas.List.Elements.{All-head, All-tail}
use Rattle.aea_lattice.specs.Blocks.{HasBlock}
use Rattle.aea_view.specs.Marked.{is_marked}
use Rattle.aea_disk.proofs.Frames.{reads_none, reads_both, reads_as}
use Rattle.aea_fetch.proofs.Loops.{HasSeen, seen_none, seen_more, seen_all}
use Rattle.aea_search.specs.declared.searching.SearchFault.TheVariants.{DiskFault}
use Rattle.aea_search.proofs.Going.{goes_none, goes_both}
use Rattle.aea_degraded.proofs.Looked.{seen_later}
use Rattle.aea_degraded.proofs.searching.look_at.Goals as goal

pub loop-b-init : goal.loop-b-init
loop-b-init g c = record {
  inside = c.requires.inside;
  buffer = c.requires.buffer;
  same = c.requires.same;
  seen = seen_none (Unit {0}) (λ b. is_marked c.args.search.now.read b ≡ true) c.args.blocks;
  all = c.requires.inside;
  goes = goes_none g.D.Disk.reveals c.args.ledger.now (g.D.Disk.state c.args.disk.now).files c.args.search.now;
  reads = reads_none g.D.Disk.reveals ⊥ (g.D.Disk.state c.args.disk.now) (λ none. none);
}

pub look-requires-clause-block : goal.look-requires-clause-block
look-requires-clause-block g c =
    let l = c.args.ledger.now.lattice in
    All-head (HasBlock l) c.in-Some.b c.next.new.self (subst (All (HasBlock l)) c.in-Some.ensures c.loop-b.invariant.inside)

pub loop-b-smaller : goal.loop-b-smaller
loop-b-smaller g c = let long = ap length c.in-Some.ensures in omega (arith, long)

pub loop-b-preserved : goal.loop-b-preserved
loop-b-preserved g c =
    let v = c.args.ledger.now in
    let l = v.lattice in
    let old = g.D.Disk.state c.args.disk.now in
    let mid = g.D.Disk.state c.loop-b.disk in
    let looks = c.look.ensures.looks in
    let seen = subst (HasSeen (Unit {0}) (λ b. is_marked c.loop-b.search.read b ≡ true) c.args.blocks) c.in-Some.ensures c.loop-b.invariant.seen in
    record {
      inside = All-tail (HasBlock l) c.in-Some.b c.next.new.self (subst (All (HasBlock l)) c.in-Some.ensures c.loop-b.invariant.inside);
      buffer = c.look.auto.cell ∙ c.loop-b.invariant.buffer;
      same = looks.goes.same ∙ c.loop-b.invariant.same;
      seen = seen_more (Unit {0}) (λ b. is_marked c.look.new.self.read b ≡ true) c.args.blocks c.next.new.self c.in-Some.b
          (seen_later (Unit {0}) (HasBlock l) (λ b. is_marked c.loop-b.search.read b ≡ true) (λ b. is_marked c.look.new.self.read b ≡ true) (λ b has is. looks.goes.read b has is) c.args.blocks _ c.loop-b.invariant.all seen)
          (λ revealed. c.in-Ok.ensures.read);
      all = c.loop-b.invariant.all;
      goes = goes_both g.D.Disk.reveals v old.files mid.files c.args.search.now c.loop-b.search c.look.new.self c.loop-b.invariant.reads.contents c.loop-b.invariant.goes looks.goes;
      reads = reads_as g.D.Disk.reveals (c.look.result ≡ Err DiskFault) ⊥ old (g.D.Disk.state c.look.new.disk) (λ none. absurd none) (λ is. absurd (let ok = c.in-Ok.is in cc))
          (reads_both g.D.Disk.reveals ⊥ (c.look.result ≡ Err DiskFault) old mid (g.D.Disk.state c.look.new.disk) (λ none. none) c.loop-b.invariant.reads looks.reads);
    }

pub returns-in-Err-clause-goes : goal.returns-in-Err-clause-goes
returns-in-Err-clause-goes g c =
    goes_both g.D.Disk.reveals c.args.ledger.now (g.D.Disk.state c.args.disk.now).files (g.D.Disk.state c.loop-b.disk).files c.args.search.now c.loop-b.search c.look.new.self c.loop-b.invariant.reads.contents c.loop-b.invariant.goes c.look.ensures.looks.goes

pub returns-in-Err-clause-reads : goal.returns-in-Err-clause-reads
returns-in-Err-clause-reads g c =
    let mine = c.look.result ≡ Err DiskFault in
    reads_as g.D.Disk.reveals mine _ (g.D.Disk.state c.args.disk.now) (g.D.Disk.state c.look.new.disk) (λ is. c.in-Err.is ∙ (let h : c.in-Err.fault ≡ DiskFault = (let e = is in cc) in ap Err h)) (λ is. cc)
    (reads_both g.D.Disk.reveals ⊥ mine (g.D.Disk.state c.args.disk.now) (g.D.Disk.state c.loop-b.disk) (g.D.Disk.state c.look.new.disk) (λ none. none) c.loop-b.invariant.reads c.look.ensures.looks.reads)

pub returns-clause-read : goal.returns-clause-read
returns-clause-read g c =
    seen_all (Unit {0}) (λ b. is_marked c.loop-b.search.read b ≡ true) c.args.blocks (subst (HasSeen (Unit {0}) (λ b. is_marked c.loop-b.search.read b ≡ true) c.args.blocks) c.in_default.ensures.0 c.loop-b.invariant.seen) tt

pub returns-clause-reads : goal.returns-clause-reads
returns-clause-reads g c =
    reads_as g.D.Disk.reveals ⊥ _ (g.D.Disk.state c.args.disk.now) (g.D.Disk.state c.loop-b.disk) (λ is. let e = is in cc) (λ none. absurd none) c.loop-b.invariant.reads
