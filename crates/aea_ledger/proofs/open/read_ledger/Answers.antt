use Rattle.std.proofs.Common.{◌≡◌, ℕ, List, subst}
use Rattle.aea_records.specs.Grammar.{IsLedger}
use Rattle.aea_ledger.proofs.Starts.{answers_whole}
use Rattle.std.proofs.lemmas.Result.{err_from_is_err_and, IfErr-at_err, IfOk-weaker}
use Rattle.aea_ledger.specs.declared.open.OpenFault.TheVariants.{NoMemory}
use Rattle.aea_disk.proofs.Frames.{reads_both, reads_as}
use Rattle.aea_ledger.proofs.open.read_ledger.Goals as goal

pub returns-in_err-read_all-clause-reads : goal.returns-in_err-read_all-clause-reads
returns-in_err-read_all-clause-reads g c =
    let p = err_from_is_err_and c.from_residual-in_err-read_all.result c.from_residual-in_err-read_all.ensures.1 in rw (p.1, p.2)
    (let two = g.D.Disk.state c.args.disk.now in
    let three = g.D.Disk.state c.start.new.disk in
    let four = g.D.Disk.state c.read_all.new.disk in
    reads_both g.D.Disk.reveals _ _ two three four (λ is. absurd (cc)) c.in_ok-reader.ensures.reads
    (reads_as g.D.Disk.reveals _ _ three four (λ e. cc) (λ is. cc) c.in_err-read_all.ensures.reads))

pub returns-clause-reads : goal.returns-clause-reads
returns-clause-reads g c =
    let two = g.D.Disk.state c.args.disk.now in
    let three = g.D.Disk.state c.start.new.disk in
    let four = g.D.Disk.state c.read_all.new.disk in
    reads_both g.D.Disk.reveals _ _ two three four (λ is. absurd (cc)) c.in_ok-reader.ensures.reads
    (reads_as g.D.Disk.reveals _ _ three four (λ e. let other = IfErr-at_err (λ fault. fault ≡ NoMemory) e c.finish.ensures.memory in absurd (cc)) (λ is. absurd (cc)) c.in_ok-read_all.ensures.reads)

pub returns-clause-records : goal.returns-clause-records
returns-clause-records g c =
    let whole = c.in_ok-read_all.ensures.whole in
    IfOk-weaker c.finish.result _ _ (λ v has. (whole.records, has whole.records whole.read)) c.finish.ensures.records

pub returns-clause-answers : goal.returns-clause-answers
returns-clause-answers g c = λ reveals.
    let whole = c.in_ok-read_all.ensures.whole in
    answers_whole ((g.D.Disk.state c.args.disk.now).files 0) c.finish.result c.read_all.new.self.shape c.read_all.new.self.input.cursor.place whole.records
    (IfOk-weaker c.finish.result _ _ (λ v has. has whole.records whole.read) c.finish.ensures.records) c.finish.ensures.shape c.finish.ensures.end c.finish.ensures.memory
    (subst (λ (f : ℕ → List ℕ). IsLedger (f 0) c.read_all.new.self.shape whole.records c.read_all.new.self.input.cursor.place)
    (c.in_ok-reader.ensures.reads.contents reveals) (whole.revealed reveals))
