use Rattle.std.proofs.Common.{inl, refl}
use Rattle.aea_disk.specs.Files.{ChangesOnly}
use Rattle.aea_disk.proofs.Frames.{writes_none, writes_as, writes_faulted}
use Rattle.aea_disk.proofs.Moments.{synced_fixed}
use Rattle.aea_copy_writer.specs.Anew.{FitsCopy}
use Rattle.aea_adopt.specs.Mending.{MayBeRenewed}
use Rattle.aea_adopt.proofs.Quiet.{quiet_none, keeps_none}
use Rattle.aea_adopt.proofs.Renewed.{made_whole, made_some}
use Rattle.aea_adopt.proofs.renew.renew.Goals as goal

pub returns-then-is_up-clause-any_moment : goal.returns-then-is_up-clause-any_moment
returns-then-is_up-clause-any_moment g c revealed pieces can =
    let first = g.D.Disk.state c.args.disk.now in
    quiet_none c.args.file (MayBeRenewed pieces (first.files c.args.file)) first (c.requires.synced revealed) (inl refl)

pub returns-then-is_up-clause-reads : goal.returns-then-is_up-clause-reads
returns-then-is_up-clause-reads g c revealed pieces can = inl refl

pub returns-then-is_up-clause-renewed : goal.returns-then-is_up-clause-renewed
returns-then-is_up-clause-renewed g c = λ revealed pieces can no. absurd (no (c.is_up.ensures.is c.if-is_up.true))

pub returns-then-is_up-clause-up : goal.returns-then-is_up-clause-up
returns-then-is_up-clause-up g c up = (λ revealed. refl, keeps_none (g.D.Disk.state c.args.disk.now))

pub returns-then-is_up-clause-durable : goal.returns-then-is_up-clause-durable
returns-then-is_up-clause-durable g c = λ revealed pieces can. c.requires.synced revealed

pub returns-then-is_up-clause-writes : goal.returns-then-is_up-clause-writes
returns-then-is_up-clause-writes g c =
    let first = g.D.Disk.state c.args.disk.now in
    writes_as g.D.Disk.reveals first.free (FitsCopy first c.args.file c.args.text) ⊥ _ (ChangesOnly c.args.file) first first (λ is. cc) (λ none. absurd none)
    (writes_none g.D.Disk.reveals first.free (FitsCopy first c.args.file c.args.text) (ChangesOnly c.args.file) first (λ d f other. refl))

pub make_copy-requires-clause-fixed : goal.make_copy-requires-clause-fixed
make_copy-requires-clause-fixed g c = λ revealed. synced_fixed (g.D.Disk.state c.args.disk.now) c.args.file (c.requires.synced revealed)

pub returns-in_err-_made-clause-any_moment : goal.returns-in_err-_made-clause-any_moment
returns-in_err-_made-clause-any_moment g c revealed pieces can = c.make_copy.ensures.any_moment revealed pieces can

pub returns-in_err-_made-clause-reads : goal.returns-in_err-_made-clause-reads
returns-in_err-_made-clause-reads g c revealed pieces can = c.make_copy.ensures.reads revealed pieces can

pub returns-in_err-_made-clause-up : goal.returns-in_err-_made-clause-up
returns-in_err-_made-clause-up g c up = absurd (c.is_up.ensures.other c.if-is_up.false up)

pub returns-in_err-_made-clause-writes : goal.returns-in_err-_made-clause-writes
returns-in_err-_made-clause-writes g c =
    let first = g.D.Disk.state c.args.disk.now in
    let second = g.D.Disk.state c.make_copy.new.disk in
    writes_faulted g.D.Disk.reveals first.free (FitsCopy first c.args.file c.args.text) _ _ (ChangesOnly c.args.file) first second c.in_err-_made.ensures.writes refl (cc)

pub returns-clause-any_moment : goal.returns-clause-any_moment
returns-clause-any_moment g c revealed pieces can = c.make_copy.ensures.any_moment revealed pieces can

pub returns-clause-reads : goal.returns-clause-reads
returns-clause-reads g c revealed pieces can = c.make_copy.ensures.reads revealed pieces can

pub returns-clause-renewed : goal.returns-clause-renewed
returns-clause-renewed g c = λ revealed pieces can no. made_whole _ _ c.in_ok-_made._made (c.in_ok-_made.ensures.made revealed pieces can)

pub returns-clause-up : goal.returns-clause-up
returns-clause-up g c up = absurd (c.is_up.ensures.other c.if-is_up.false up)

pub returns-clause-durable : goal.returns-clause-durable
returns-clause-durable g c = λ revealed pieces can. made_some _ _ c.in_ok-_made._made (c.in_ok-_made.ensures.made revealed pieces can) c.in_ok-_made.ensures.durable revealed

pub returns-clause-writes : goal.returns-clause-writes
returns-clause-writes g c = c.in_ok-_made.ensures.writes
