use Rattle.std.proofs.Common.{ℕ, List, sym, ◌∙◌, subst}
use Rattle.aea_disk.specs.Files.{Files}
use Rattle.aea_disk.proofs.Moments.{passes_both}
use Rattle.aea_report.specs.Grammar.{IsReport}
use Rattle.aea_rehearse.specs.Altered.{IsMended}
use Rattle.aea_rehearse.proofs.Homes.{willing_after}
use Rattle.aea_rehearse.proofs.Ending.{ready_later}
use Rattle.aea_rehearse.proofs.rehearsing.restore.Goals as goal

pub mend-requires-clause-ready : goal.mend-requires-clause-ready
mend-requires-clause-ready g c =
    ready_later g.D.Disk.reveals c.in_ok-ledger.ledger (g.D.Disk.state c.args.disk.now) (g.D.Disk.state c.open.new.disk) c.args.report.now.room c.requires.reveals c.open.ensures.reads
    (c.requires.ready c.in_ok-ledger.ledger c.in_ok-ledger.ensures.this)

pub check-requires-clause-willing : goal.check-requires-clause-willing
check-requires-clause-willing g c =
    willing_after (g.D.Disk.state c.open.new.disk) (g.D.Disk.state c.mend.new.disk) c.mend.ensures.time
    (willing_after (g.D.Disk.state c.args.disk.now) (g.D.Disk.state c.open.new.disk) c.open.ensures.reads.time c.requires.willing)

pub check-requires-clause-fits : goal.check-requires-clause-fits
check-requires-clause-fits g c =
    let m = c.in_ok-outcome.ensures.mended in
    record {
      head = m.head;
      lines = m.lines;
      report = subst (λ (xs : List ℕ). IsReport xs m.head m.lines) (sym c.bytes.ensures) m.report;
      fits = m.fits;
    }

pub returns-clause-restored : goal.returns-clause-restored
returns-clause-restored g c =
    let v = c.in_ok-ledger.ledger in
    let o = c.in_ok-outcome.outcome in
    let bytes = c.mend.new.report.bytes.items in
    let mid = (g.D.Disk.state c.open.new.disk).files in
    let new = (g.D.Disk.state c.check.new.disk).files in
    record {
      opened = v;
      this = c.in_ok-ledger.ensures.this;
      bytes = bytes;
      mended = subst (λ (f : Files). IsMended v bytes f new o) (c.open.ensures.reads.contents c.requires.reveals)
          (subst (λ (f : Files). IsMended v bytes mid f o) (sym (c.check.ensures.reads.contents c.requires.reveals)) c.in_ok-outcome.ensures.mended);
    }

pub returns-in_err-ledger-clause-steady : goal.returns-in_err-ledger-clause-steady
returns-in_err-ledger-clause-steady g c = c.open.ensures.reads.still (λ none. none)

pub returns-in_err-outcome-clause-steady : goal.returns-in_err-outcome-clause-steady
returns-in_err-outcome-clause-steady g c = c.mend.ensures.steady ∙ c.open.ensures.reads.still (λ none. none)

pub returns-in_err-check-clause-steady : goal.returns-in_err-check-clause-steady
returns-in_err-check-clause-steady g c = c.check.ensures.reads.still (λ none. none) ∙ c.mend.ensures.steady ∙ c.open.ensures.reads.still (λ none. none)

pub returns-clause-steady : goal.returns-clause-steady
returns-clause-steady g c = c.check.ensures.reads.still (λ none. none) ∙ c.mend.ensures.steady ∙ c.open.ensures.reads.still (λ none. none)

pub returns-in_err-ledger-clause-time : goal.returns-in_err-ledger-clause-time
returns-in_err-ledger-clause-time g c = c.open.ensures.reads.time

pub returns-in_err-outcome-clause-time : goal.returns-in_err-outcome-clause-time
returns-in_err-outcome-clause-time g c = passes_both (g.D.Disk.state c.args.disk.now) (g.D.Disk.state c.open.new.disk) (g.D.Disk.state c.mend.new.disk) c.open.ensures.reads.time c.mend.ensures.time

pub returns-in_err-check-clause-time : goal.returns-in_err-check-clause-time
returns-in_err-check-clause-time g c =
    passes_both (g.D.Disk.state c.args.disk.now) (g.D.Disk.state c.mend.new.disk) (g.D.Disk.state c.check.new.disk)
    (passes_both (g.D.Disk.state c.args.disk.now) (g.D.Disk.state c.open.new.disk) (g.D.Disk.state c.mend.new.disk) c.open.ensures.reads.time c.mend.ensures.time) c.check.ensures.reads.time

pub returns-clause-time : goal.returns-clause-time
returns-clause-time g c =
    passes_both (g.D.Disk.state c.args.disk.now) (g.D.Disk.state c.mend.new.disk) (g.D.Disk.state c.check.new.disk)
    (passes_both (g.D.Disk.state c.args.disk.now) (g.D.Disk.state c.open.new.disk) (g.D.Disk.state c.mend.new.disk) c.open.ensures.reads.time c.mend.ensures.time) c.check.ensures.reads.time
