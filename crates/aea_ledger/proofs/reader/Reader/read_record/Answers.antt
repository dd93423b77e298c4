use Rattle.aea_disk.proofs.Frames.{reads_none}
use Rattle.std.proofs.Common.{◌+◌, ℕ, refl, ap, subst}
use Rattle.aea_records.specs.declared.heads.HeadFields.{HeadFields}
use Rattle.aea_records.specs.declared.heads.HeadFields.TheVariants.{Fenced, Raised}
use Rattle.aea_ledger.specs.Readings.{IsAtHead}
use Rattle.aea_ledger.proofs.Passed.{passed_over}
use Rattle.aea_ledger.proofs.ShortSteps.{fence_read, raise_read, fence_wrong, raise_wrong}
use Rattle.aea_ledger.proofs.reader.Reader.read_record.Goals as goal

pub returns-then-found-ne4-clause-bad : goal.returns-then-found-ne4-clause-bad
returns-then-found-ne4-clause-bad g c = λ reveals.
    fence_wrong g.D.Disk.reveals ((g.D.Disk.state c.args.disk.now).files 0) c.args.self.now c.args.found.now.bytes c.in-Fenced.field-0 _ c.tails_are_judged.ensures (subst (λ (f : HeadFields). IsAtHead g.D.Disk.reveals ((g.D.Disk.state c.args.disk.now).files 0) c.args.self.now (record { bytes = c.args.found.now.bytes; fields = f })) c.in-Fenced.is c.requires.stands) reveals c.if-found-ne4.true (ap (λ (n : ℕ). n + 2) c.place-gate.ensures)

pub returns-then-found-ne4-2-clause-bad : goal.returns-then-found-ne4-2-clause-bad
returns-then-found-ne4-2-clause-bad g c = λ reveals.
    raise_wrong g.D.Disk.reveals ((g.D.Disk.state c.args.disk.now).files 0) c.args.self.now c.args.found.now.bytes _ c.tails_are_judged.ensures (subst (λ (f : HeadFields). IsAtHead g.D.Disk.reveals ((g.D.Disk.state c.args.disk.now).files 0) c.args.self.now (record { bytes = c.args.found.now.bytes; fields = f })) c.in-Raised.is c.requires.stands) reveals c.if-found-ne4-2.true (ap (λ (n : ℕ). n + 2) c.place-gate.ensures)

pub returns-else-found-ne4-clause-more : goal.returns-else-found-ne4-clause-more
returns-else-found-ne4-clause-more g c =
    let stands : IsAtHead g.D.Disk.reveals ((g.D.Disk.state c.args.disk.now).files 0) c.args.self.now (record { bytes = c.args.found.now.bytes; fields = Fenced c.in-Fenced.field-0 }) = (subst (λ (f : HeadFields). IsAtHead g.D.Disk.reveals ((g.D.Disk.state c.args.disk.now).files 0) c.args.self.now (record { bytes = c.args.found.now.bytes; fields = f })) c.in-Fenced.is c.requires.stands) in
    (fence_read g.D.Disk.reveals ((g.D.Disk.state c.args.disk.now).files 0) c.args.self.now _ c.args.found.now.bytes c.in-Fenced.field-0 c.tails_are_spelled.ensures stands (passed_over g.D.Disk.reveals ((g.D.Disk.state c.args.disk.now).files 0) c.args.self.now.input c.args.self.now.input c.pass.new.self 10 refl (λ message held. held) (λ reveals. (stands.revealed reveals).ahead) stands.within c.pass.ensures.are c.pass.ensures.holds c.pass.ensures.place c.pass.ensures.revealed) c.if-found-ne4.false refl c.with_fence-self.ensures refl refl refl).0

pub returns-else-found-ne4-2-clause-more : goal.returns-else-found-ne4-2-clause-more
returns-else-found-ne4-2-clause-more g c =
    let stands : IsAtHead g.D.Disk.reveals ((g.D.Disk.state c.args.disk.now).files 0) c.args.self.now (record { bytes = c.args.found.now.bytes; fields = Raised }) = (subst (λ (f : HeadFields). IsAtHead g.D.Disk.reveals ((g.D.Disk.state c.args.disk.now).files 0) c.args.self.now (record { bytes = c.args.found.now.bytes; fields = f })) c.in-Raised.is c.requires.stands) in
    (raise_read g.D.Disk.reveals ((g.D.Disk.state c.args.disk.now).files 0) c.args.self.now _ c.args.found.now.bytes c.tails_are_spelled.ensures stands (passed_over g.D.Disk.reveals ((g.D.Disk.state c.args.disk.now).files 0) c.args.self.now.input c.args.self.now.input c.pass-in-Raised.new.self 10 refl (λ message held. held) (λ reveals. (stands.revealed reveals).ahead) stands.within c.pass-in-Raised.ensures.are c.pass-in-Raised.ensures.holds c.pass-in-Raised.ensures.place c.pass-in-Raised.ensures.revealed) c.if-found-ne4-2.false refl refl refl refl refl).0

pub returns-then-found-ne4-clause-reads : goal.returns-then-found-ne4-clause-reads
returns-then-found-ne4-clause-reads g c = reads_none g.D.Disk.reveals _ (g.D.Disk.state c.args.disk.now) (λ is. absurd (cc))

pub returns-then-found-ne4-2-clause-reads : goal.returns-then-found-ne4-2-clause-reads
returns-then-found-ne4-2-clause-reads g c = reads_none g.D.Disk.reveals _ (g.D.Disk.state c.args.disk.now) (λ is. absurd (cc))

pub returns-else-found-ne4-clause-reads : goal.returns-else-found-ne4-clause-reads
returns-else-found-ne4-clause-reads g c = reads_none g.D.Disk.reveals _ (g.D.Disk.state c.args.disk.now) (λ is. absurd (cc))

pub returns-else-found-ne4-2-clause-reads : goal.returns-else-found-ne4-2-clause-reads
returns-else-found-ne4-2-clause-reads g c = reads_none g.D.Disk.reveals _ (g.D.Disk.state c.args.disk.now) (λ is. absurd (cc))
