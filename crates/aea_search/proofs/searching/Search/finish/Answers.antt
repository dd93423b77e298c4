use Rattle.std.proofs.Common.{◌≡◌, ◌+◌, ◌∷◌, length, sym, subst, ap, ◌∙◌, arith}
use Rattle.aea_disk.proofs.Frames.{reads_none, reads_both, reads_as}
use Rattle.aea_view.specs.Marked.{Marked, unmarked}
use Rattle.aea_search.specs.Searches.{IsGoneAround}
use Rattle.aea_search.proofs.Waiting.{first_still, one_first}
use Rattle.aea_search.proofs.Going.{ok_no_fault, goes_none, goes_both, goes_as}
use Rattle.aea_lattice.specs.declared.grid.Lattice.{Lattice}
use Rattle.aea_search.proofs.searching.Search.finish.Goals as goal

pub loop-b-init : goal.loop-b-init
loop-b-init g c = record {
  same = c.requires.same;
  buffer = c.requires.buffer;
  goes = goes_none g.D.Disk.reveals c.args.ledger.now (g.D.Disk.state c.args.disk.now).files c.args.self.now;
  reads = reads_none g.D.Disk.reveals ⊥ (g.D.Disk.state c.args.disk.now) (λ none. none);
}

pub returns-in-Err-clause-goes : goal.returns-in-Err-clause-goes
returns-in-Err-clause-goes g c =
    goes_both g.D.Disk.reveals c.args.ledger.now (g.D.Disk.state c.args.disk.now).files (g.D.Disk.state c.loop-b.disk).files c.args.self.now c.loop-b.self c.look_around.new.self
    c.loop-b.invariant.reads.contents c.loop-b.invariant.goes c.look_around.ensures.looks.goes

pub returns-in-Err-clause-reads : goal.returns-in-Err-clause-reads
returns-in-Err-clause-reads g c =
    reads_both g.D.Disk.reveals ⊥ _ (g.D.Disk.state c.args.disk.now) (g.D.Disk.state c.loop-b.disk) (g.D.Disk.state c.look_around.new.disk) (λ none. none) c.loop-b.invariant.reads c.in-Err.ensures.looks.reads

pub pass-requires-clause-around : goal.pass-requires-clause-around
pass-requires-clause-around g c b first =
    let looks = c.look_around.ensures.looks in
    let t = c.look_around.new.self in
    let is : c.in-Some.b ≡ b = one_first t c.in-Some.b b (first_still c.loop-b.self t looks.more c.in-Some.b looks.waits looks.goes.same c.in-Some.ensures) first in
    subst (IsGoneAround t.read.lattice t.read) is
    (subst (λ (l : Lattice). IsGoneAround l t.read c.in-Some.b) (sym (looks.goes.same ∙ c.loop-b.invariant.same)) c.in-Ok.ensures.around)

pub loop-b-smaller : goal.loop-b-smaller
loop-b-smaller g c =
    let looks = c.look_around.ensures.looks in
    let t = c.look_around.new.self in
    let one : t.waiting ≡ c.in-Some.b ∷ c.pass.new.self.waiting = c.pass.ensures.waiting c.in-Some.b (first_still c.loop-b.self t looks.more c.in-Some.b looks.waits looks.goes.same c.in-Some.ensures) in
    let less : length c.pass.new.self.waiting + 1 ≡ length t.waiting = omega (arith, ap length one) in
    let marks : unmarked c.pass.new.self.read ≡ unmarked t.read = ap unmarked c.pass.ensures.read in
    omega (arith, less, marks, looks.few)

pub loop-b-preserved : goal.loop-b-preserved
loop-b-preserved g c =
    let reveals = g.D.Disk.reveals in
    let v = c.args.ledger.now in
    let old = g.D.Disk.state c.args.disk.now in
    let mid = g.D.Disk.state c.loop-b.disk in
    let new = g.D.Disk.state c.look_around.new.disk in
    let looks = c.look_around.ensures.looks in
    record {
      same = ap (λ (m : Marked). m.lattice) c.pass.ensures.read ∙ looks.goes.same ∙ c.loop-b.invariant.same;
      buffer = c.look_around.auto.cell ∙ c.loop-b.invariant.buffer;
      goes = goes_as reveals v old.files c.args.self.now c.look_around.new.self c.pass.new.self c.pass.ensures.read c.pass.ensures.unknown
          (goes_both reveals v old.files mid.files c.args.self.now c.loop-b.self c.look_around.new.self c.loop-b.invariant.reads.contents c.loop-b.invariant.goes looks.goes);
      reads = reads_as reveals _ ⊥ old new (λ none. absurd none) ok_no_fault (reads_both reveals ⊥ _ old mid new (λ none. none) c.loop-b.invariant.reads c.in-Ok.ensures.looks.reads);
    }
