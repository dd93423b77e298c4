use Rattle.std.proofs.Common.{◌≡◌, ◌+◌, ◌-◌, ◌<◌, ℕ, List, length, take, drop, Some, sym, ◌∙◌, ap, subst, arith}
use Rattle.std.proofs.lemmas.List.{length-take, length-drop}
use Rattle.aea_lattice.specs.declared.blocks.BlockId.{BlockId}
use Rattle.aea_lattice.specs.declared.grid.Lattice.{Lattice}
use Rattle.aea_lattice.specs.Blocks.{block_of, HasParity}
use Rattle.aea_lattice.specs.Ends.{strands_of, last_open}
use Rattle.aea_envelope.specs.Cells.{block_digest, cell_of}
use Rattle.aea_disk.proofs.Stays.{earlier_none, earlier_kept}
use Rattle.aea_disk.proofs.Frames.{reads_none}
use Rattle.aea_shelf.specs.Places.{HasAtHome}
use Rattle.aea_shelf.specs.Intact.{payload_in}
use Rattle.aea_weave.specs.Woven.{head_of}
use Rattle.aea_archive.specs.Blocks.{recorded_in, IsIntactBy}
use Rattle.aea_append.specs.Loading.{IsLoaded}
use Rattle.aea_append.proofs.Loads.{same_last}
use Rattle.aea_append.proofs.load.load_strand.Given.{Over}
use Rattle.aea_append.proofs.load.load_strand.Goals.{After-set_head}
use Rattle.aea_append.proofs.load.load_strand.Goals as goal

is_last : (g : Over) (c : After-set_head g) → last_open c.args.ledger.now.lattice c.args.class c.args.strand ≡ Some c.in-Some.node
is_last g c = ap (λ (l : Lattice). last_open l c.args.class c.args.strand) (sym c.lattice.ensures.value) ∙ sym c.last_on.ensures.last ∙ c.in-Some.is

head_is : (g : Over) (c : After-set_head g) → payload_in c.args.ledger.now.shape c.read_block.new.cell ≡ head_of c.set_head.new.self c.args.class c.args.strand
head_is g c =
    let size : 16 + (length c.read_block.new.cell - 48) - 16 ≡ c.args.ledger.now.shape.block = omega (arith, c.read_block.auto.cell, c.requires.buffer) in
    sym (c.set_head.ensures.own ∙ ap (λ (k : ℕ). take k (drop 16 c.read_block.new.cell)) size)

pub returns-in-Ok-Intact-clause-loaded : goal.returns-in-Ok-Intact-clause-loaded
returns-in-Ok-Intact-clause-loaded g c is =
    let v = c.args.ledger.now in
    let b = block_of c.in-Some.node c.args.class in
    let intact = c.in-Ok-Intact.field-0-is in
    subst (IsLoaded g.D.Disk.reveals v (g.D.Disk.state c.args.disk.now).files c.args.class (head_of c.set_head.new.self c.args.class c.args.strand)) (sym (is_last g c)) (
      (subst (λ (p : List ℕ). block_digest b p ≡ recorded_in v.shape v.digests b) (head_is g c) (c.in-Ok-Intact.ensures.digest intact)),
      (ap length (sym (head_is g c)) ∙ omega (arith, length-take v.shape.block (drop 16 c.read_block.new.cell), length-drop 16 c.read_block.new.cell, c.read_block.auto.cell, c.requires.buffer)),
      λ revealed. subst (λ (p : List ℕ). HasAtHome v.shape b (cell_of b p) (g.D.Disk.state c.args.disk.now).files) (head_is g c)
          (subst (λ (p : List ℕ). HasAtHome v.shape b p (g.D.Disk.state c.args.disk.now).files) (c.in-Ok-Intact.ensures.cell intact) (c.in-Ok-Intact.ensures.bytes intact revealed)),
    )

pub returns-in-Ok-Intact-clause-found : goal.returns-in-Ok-Intact-clause-found
returns-in-Ok-Intact-clause-found g c revealed b last class strand =
    let v = c.args.ledger.now in
    subst (λ (a : BlockId). IsIntactBy v.shape v.digests (g.D.Disk.state c.args.disk.now).files a)
    (sym (same_last v.lattice b c.args.class c.args.strand c.in-Some.node (is_last g c) last class strand))
    ((c.in-Ok-Intact.ensures.intact revealed).0 c.in-Ok-Intact.field-0-is)

pub returns-in-Ok-Intact-clause-others : goal.returns-in-Ok-Intact-clause-others
returns-in-Ok-Intact-clause-others g c class other parity below apart =
    let same : c.args.ledger.now.lattice ≡ c.set_head.new.self.lattice = sym (c.set_head.ensures.lattice ∙ c.requires.lattice) in
    c.set_head.ensures.others class other (subst (λ (l : Lattice). HasParity l class) same parity) (subst (λ (l : Lattice). other < strands_of l class) same below) apart

pub returns-in_default-clause-earlier : goal.returns-in_default-clause-earlier
returns-in_default-clause-earlier g c = earlier_none (g.D.Disk.state c.args.disk.now)

pub returns-in-Ok-Intact-clause-earlier : goal.returns-in-Ok-Intact-clause-earlier
returns-in-Ok-Intact-clause-earlier g c = earlier_kept (g.D.Disk.state c.args.disk.now) (g.D.Disk.state c.read_block.new.disk) c.read_block.ensures.reads.crash c.read_block.ensures.settled c.read_block.ensures.reads.time

pub returns-in-Ok-Bad-clause-earlier : goal.returns-in-Ok-Bad-clause-earlier
returns-in-Ok-Bad-clause-earlier g c = earlier_kept (g.D.Disk.state c.args.disk.now) (g.D.Disk.state c.read_block.new.disk) c.read_block.ensures.reads.crash c.read_block.ensures.settled c.read_block.ensures.reads.time

pub returns-in-Err-clause-earlier : goal.returns-in-Err-clause-earlier
returns-in-Err-clause-earlier g c = earlier_kept (g.D.Disk.state c.args.disk.now) (g.D.Disk.state c.read_block.new.disk) c.read_block.ensures.reads.crash c.read_block.ensures.settled c.read_block.ensures.reads.time

pub returns-in_default-clause-reads : goal.returns-in_default-clause-reads
returns-in_default-clause-reads g c = reads_none g.D.Disk.reveals _ (g.D.Disk.state c.args.disk.now) (λ is. absurd (let e = is in cc))
