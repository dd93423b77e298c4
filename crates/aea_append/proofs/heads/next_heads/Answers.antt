use Rattle.std.proofs.Common.{subst}
use Rattle.aea_disk.proofs.Stays.{earlier_none}
use Rattle.aea_disk.proofs.Frames.{reads_none, reads_as}
use Rattle.std.specs.Prelude.{IsSome}
use Rattle.aea_append.proofs.Kept.{kept_as, kept_intact}
use Rattle.aea_append.proofs.heads.next_heads.Goals as goal

pub returns-in-Some-clause-woven : goal.returns-in-Some-clause-woven
returns-in-Some-clause-woven g c = (kept_as g.D.Disk.reveals c.args.ledger.now (g.D.Disk.state c.args.disk.now).files _ _ c.in-Some.is c.requires.kept).woven

pub returns-in-Some-clause-lattice : goal.returns-in-Some-clause-lattice
returns-in-Some-clause-lattice g c = (kept_as g.D.Disk.reveals c.args.ledger.now (g.D.Disk.state c.args.disk.now).files _ _ c.in-Some.is c.requires.kept).lattice

pub returns-in-Some-clause-size : goal.returns-in-Some-clause-size
returns-in-Some-clause-size g c = (kept_as g.D.Disk.reveals c.args.ledger.now (g.D.Disk.state c.args.disk.now).files _ _ c.in-Some.is c.requires.kept).size

pub returns-in-Some-clause-intact : goal.returns-in-Some-clause-intact
returns-in-Some-clause-intact g c =
    kept_intact c.cells_have_lengths.ensures c.cells_have_parts.ensures g.D.Disk.reveals c.args.ledger.now (g.D.Disk.state c.args.disk.now).files _
    (kept_as g.D.Disk.reveals c.args.ledger.now (g.D.Disk.state c.args.disk.now).files _ _ c.in-Some.is c.requires.kept)

pub returns-in-Some-clause-earlier : goal.returns-in-Some-clause-earlier
returns-in-Some-clause-earlier g c = earlier_none (g.D.Disk.state c.args.disk.now)

pub returns-in-Some-clause-reads : goal.returns-in-Some-clause-reads
returns-in-Some-clause-reads g c = reads_as g.D.Disk.reveals ⊥ _ (g.D.Disk.state c.args.disk.now) (g.D.Disk.state c.args.disk.now) (λ is. absurd (let e = is in cc)) (λ none. absurd none) (reads_none g.D.Disk.reveals ⊥ (g.D.Disk.state c.args.disk.now) (λ none. none))

pub returns-in-None-clause-unread : goal.returns-in-None-clause-unread
returns-in-None-clause-unread g c some = absurd (let e = subst IsSome c.in-None.is some in cc)
