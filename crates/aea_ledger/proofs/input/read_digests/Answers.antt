use Rattle.std.proofs.Common.{ℕ, List, ap, rules}
use Rattle.aea_ledger.proofs.Passed.{digests_push, digests_in}
use Rattle.aea_disk.proofs.Frames.{reads_both, reads_as, reads_none}
use Rattle.aea_ledger.proofs.input.read_digests.Goals as goal

pub loop-preserved : goal.loop-preserved
loop-preserved g c =
    let early = c.loop.invariant.1 in (
      digests_push g.D.Disk.reveals _ c.args.input.now c.loop.input c.read_digest.new.input c.loop.counter _ _ _ c.loop.invariant.0
          (digests_in g.D.Disk.reveals ((g.D.Disk.state c.loop.disk).files 0) ((g.D.Disk.state c.args.disk.now).files 0) c.loop.input c.read_digest.new.input 1 _ _
          (λ reveals. ap (λ (f : ℕ → List ℕ). f 0) (early.contents reveals)) (c.in_ok-read_digest.ensures.more c.if-not-branch.false)),
      reads_both g.D.Disk.reveals ⊥ ⊥ (g.D.Disk.state c.args.disk.now) (g.D.Disk.state c.loop.disk) (g.D.Disk.state c.read_digest.new.disk) (λ none. none) early
          (reads_as g.D.Disk.reveals _ ⊥ _ _ (λ none. absurd none) (λ is. absurd (cc)) c.in_ok-read_digest.ensures.reads),
    )

pub loop-init : goal.loop-init
loop-init g c = (search rules, reads_none g.D.Disk.reveals ⊥ (g.D.Disk.state c.args.disk.now) (λ none. none))

pub returns-in_err-read_digest-clause-reads : goal.returns-in_err-read_digest-clause-reads
returns-in_err-read_digest-clause-reads g c = reads_both g.D.Disk.reveals ⊥ _ (g.D.Disk.state c.args.disk.now) (g.D.Disk.state c.loop.disk) (g.D.Disk.state c.read_digest.new.disk) (λ none. none) c.loop.invariant.1 (reads_as g.D.Disk.reveals _ _ _ _ (λ e. search rules) (λ is. search rules) c.in_err-read_digest.ensures.reads)

pub returns-then-not-branch-clause-reads : goal.returns-then-not-branch-clause-reads
returns-then-not-branch-clause-reads g c = reads_both g.D.Disk.reveals ⊥ _ (g.D.Disk.state c.args.disk.now) (g.D.Disk.state c.loop.disk) (g.D.Disk.state c.read_digest.new.disk) (λ none. none) c.loop.invariant.1 (reads_as g.D.Disk.reveals _ _ _ _ (λ e. absurd (cc)) (λ is. absurd (cc)) c.in_ok-read_digest.ensures.reads)
