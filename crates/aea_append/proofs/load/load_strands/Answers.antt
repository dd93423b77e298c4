use Rattle.std.proofs.Common.{◌≡◌, ◌+◌, ◌<◌, refl, sym, ap, ◌∙◌, subst, arith}
use Rattle.std.specs.Prelude.{IsErr, IfSome}
use Rattle.std.proofs.lemmas.Bool.Decides.{nat_tests}
use Rattle.aea_lattice.specs.declared.grid.Lattice.{Lattice}
use Rattle.aea_lattice.specs.Blocks.{HasParity, HasBlock}
use Rattle.aea_lattice.specs.Ends.{strands_of, last_open}
use Rattle.aea_disk.proofs.Stays.{earlier_none, earlier_both}
use Rattle.aea_disk.proofs.Frames.{ok_fine, reads_none, reads_both, reads_as}
use Rattle.aea_weave.specs.Woven.{strands_before, head_of}
use Rattle.aea_append.specs.Loading.{IsLesser}
use Rattle.aea_append.proofs.Loads.{load_none, load_next, loaded_same, found_same, found_inside, found_on_inside}
use Rattle.aea_append.proofs.load.load_strands.Goals as goal

pub loop-place-init : goal.loop-place-init
loop-place-init g c = record {
  within = omega arith;
  cell = c.requires.buffer;
  loaded = load_none g.D.Disk.reveals c.args.ledger.now (g.D.Disk.state c.args.disk.now).files c.args.heads.now c.requires.lattice c.requires.size c.requires.zeros;
  earlier = earlier_none (g.D.Disk.state c.args.disk.now);
  reads = reads_none g.D.Disk.reveals ⊥ (g.D.Disk.state c.args.disk.now) (λ none. none);
}

pub returns-in-Err-clause-earlier : goal.returns-in-Err-clause-earlier
returns-in-Err-clause-earlier g c =
    earlier_both (g.D.Disk.state c.args.disk.now) (g.D.Disk.state c.loop-place.disk) (g.D.Disk.state c.load_strand.new.disk) c.loop-place.invariant.reads.time c.load_strand.ensures.reads.time c.loop-place.invariant.earlier c.load_strand.ensures.earlier

pub returns-in-Err-clause-reads : goal.returns-in-Err-clause-reads
returns-in-Err-clause-reads g c =
    reads_as g.D.Disk.reveals (IsErr c.load_strand.result) _ (g.D.Disk.state c.args.disk.now) (g.D.Disk.state c.load_strand.new.disk) (λ is. subst IsErr (sym c.in-Err.is) refl) (λ _. refl)
    (reads_both g.D.Disk.reveals ⊥ (IsErr c.load_strand.result) (g.D.Disk.state c.args.disk.now) (g.D.Disk.state c.loop-place.disk) (g.D.Disk.state c.load_strand.new.disk) (λ none. none) c.loop-place.invariant.reads c.load_strand.ensures.reads)

pub returns-clause-reads : goal.returns-clause-reads
returns-clause-reads g c =
    reads_as g.D.Disk.reveals ⊥ _ (g.D.Disk.state c.args.disk.now) (g.D.Disk.state c.loop-place.disk) (λ is. absurd (let e = is in cc)) (λ none. absurd none) c.loop-place.invariant.reads

pub loop-place-preserved : goal.loop-place-preserved
loop-place-preserved g c =
    let v = c.args.ledger.now in
    let old = g.D.Disk.state c.args.disk.now in
    let mid = g.D.Disk.state c.loop-place.disk in
    let new = g.D.Disk.state c.load_strand.new.disk in
    let reveals = g.D.Disk.reveals in
    let l = c.lattice-lattice.ensures.value in
    let same = c.loop-place.invariant.reads.contents in
    let class = c.strand_at-class.result.0 in
    let strand = c.strand_at-class.result.1 in
    let lt : c.loop-place.place < c.strand_count-count.result = grind (arith, nat_tests, c.loop-place-test.true) in
    record {
      within = omega (arith, lt);
      cell = c.load_strand.auto.cell ∙ c.loop-place.invariant.cell;
      loaded = load_next reveals v old.files c.loop-place.heads c.load_strand.new.heads class strand c.loop-place.place c.loop-place.found c.in-Ok.next c.lesser-found.result
          (subst (λ (m : Lattice). HasParity m class) l c.strand_at-class.ensures.class)
          (subst (λ (m : Lattice). strand < strands_of m class) l c.strand_at-class.ensures.strand)
          (subst (λ (m : Lattice). strands_before m class + strand ≡ c.loop-place.place) l c.strand_at-class.ensures.place)
          (sym (ap (λ (l : Lattice). l.alpha) c.lattice-lattice.ensures.value) ∙ c.lattice-lattice.ensures.of_shape.alpha)
          c.loop-place.invariant.loaded
          (λ none. loaded_same reveals v mid.files old.files class (head_of c.load_strand.new.heads class strand) same (last_open v.lattice class strand) (c.in-Ok.ensures.loaded none))
          (found_same reveals v mid.files old.files class strand same c.in-Ok.next c.in-Ok.ensures.found)
          c.load_strand.ensures.lattice c.load_strand.ensures.size c.load_strand.ensures.others
          (subst (λ (m : Lattice). IsLesser m c.loop-place.found c.in-Ok.next c.lesser-found.result) l c.lesser-found.ensures);
      earlier = earlier_both old mid new c.loop-place.invariant.reads.time c.load_strand.ensures.reads.time c.loop-place.invariant.earlier c.load_strand.ensures.earlier;
      reads = reads_as reveals (IsErr c.load_strand.result) ⊥ old new (λ none. absurd none) (λ is. absurd (ok_fine c.in-Ok.is is)) (reads_both reveals ⊥ (IsErr c.load_strand.result) old mid new (λ none. none) c.loop-place.invariant.reads c.load_strand.ensures.reads);
    }

pub lesser-found-requires-clause-a : goal.lesser-found-requires-clause-a
lesser-found-requires-clause-a g c =
    subst (λ (l : Lattice). IfSome c.loop-place.found (HasBlock l)) (sym c.lattice-lattice.ensures.value) (found_inside g.D.Disk.reveals c.args.ledger.now (g.D.Disk.state c.args.disk.now).files c.loop-place.place c.loop-place.found c.loop-place.invariant.loaded.least)

pub lesser-found-requires-clause-b : goal.lesser-found-requires-clause-b
lesser-found-requires-clause-b g c =
    subst (λ (l : Lattice). IfSome c.in-Ok.next (HasBlock l)) (sym c.lattice-lattice.ensures.value)
    (found_on_inside g.D.Disk.reveals c.args.ledger.now (g.D.Disk.state c.loop-place.disk).files c.strand_at-class.result.0 c.strand_at-class.result.1 c.in-Ok.next c.in-Ok.ensures.found)
