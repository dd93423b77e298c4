use Rattle.std.proofs.Common.{ℕ, List, ap, rules}
use Rattle.aea_ledger.proofs.Gates.{reading_in}
use Rattle.aea_disk.proofs.Frames.{reads_both, reads_as, reads_none}
use Rattle.aea_ledger.proofs.reader.Reader.read_all.Goals as goal

pub returns-then-not-branch-clause-reads : goal.returns-then-not-branch-clause-reads
returns-then-not-branch-clause-reads g c =
    reads_both g.D.Disk.reveals ⊥ _ (g.D.Disk.state c.args.disk.now) (g.D.Disk.state c.gates.disk) (g.D.Disk.state c.read_gate.new.disk) (λ none. none) c.gates.invariant.1
    (reads_as g.D.Disk.reveals _ _ (g.D.Disk.state c.gates.disk) (g.D.Disk.state c.read_gate.new.disk) (λ e. absurd (cc)) (λ is. absurd (cc)) c.in_ok-read_gate.ensures.reads)

pub gates-preserved : goal.gates-preserved
gates-preserved g c = (
  reading_in g.D.Disk.reveals ((g.D.Disk.state c.gates.disk).files 0) ((g.D.Disk.state c.args.disk.now).files 0) c.read_gate.new.self
      (λ reveals. ap (λ (f : ℕ → List ℕ). f 0) (c.gates.invariant.1.contents reveals)) (c.in_ok-read_gate.ensures.more c.if-not-branch.false),
  reads_both g.D.Disk.reveals ⊥ ⊥ (g.D.Disk.state c.args.disk.now) (g.D.Disk.state c.gates.disk) (g.D.Disk.state c.read_gate.new.disk) (λ none. none) c.gates.invariant.1
      (reads_as g.D.Disk.reveals _ ⊥ (g.D.Disk.state c.gates.disk) (g.D.Disk.state c.read_gate.new.disk) (λ none. absurd none) (λ is. absurd (cc)) c.in_ok-read_gate.ensures.reads),
)

pub gates-init : goal.gates-init
gates-init g c = (search rules, reads_none g.D.Disk.reveals ⊥ (g.D.Disk.state c.args.disk.now) (λ none. none))

pub returns-in_err-read_gate-clause-reads : goal.returns-in_err-read_gate-clause-reads
returns-in_err-read_gate-clause-reads g c = reads_both g.D.Disk.reveals ⊥ _ (g.D.Disk.state c.args.disk.now) (g.D.Disk.state c.gates.disk) (g.D.Disk.state c.read_gate.new.disk) (λ none. none) c.gates.invariant.1 (reads_as g.D.Disk.reveals _ _ _ _ (λ e. search rules) (λ is. search rules) c.in_err-read_gate.ensures.reads)
