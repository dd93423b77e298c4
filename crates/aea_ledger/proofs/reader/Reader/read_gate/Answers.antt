use Rattle.aea_disk.proofs.Frames.{reads_both, reads_as}
use Rattle.std.proofs.Common.{◌+◌, ℕ, List, take, drop, sym, ap, ◌∙◌, subst, arith, rules}
use Rattle.aea_records.specs.Grammar.{IsLedger}
use Rattle.aea_ledger.proofs.Gates.{with_cursor, read_on, revealed_on, window_is, bad_gate, at_head, ends_at, place_small}
use Rattle.aea_ledger.proofs.reader.Reader.read_gate.Goals as goal

pub fill-requires-clause-range : goal.fill-requires-clause-range
fill-requires-clause-range g c = omega (arith, (place_small c.args.self.now c.requires.reading.records c.records_are_few.ensures c.requires.reading.read))

pub overflow_add-result : goal.overflow_add-result
overflow_add-result g c = omega (arith, (place_small c.args.self.now c.requires.reading.records c.records_are_few.ensures c.requires.reading.read), c.place.ensures, c.in_ok-size.ensures.place, c.in-Err.ensures.near)

pub read_record-requires-clause-range : goal.read_record-requires-clause-range
read_record-requires-clause-range g c = omega (arith, (place_small c.args.self.now c.requires.reading.records c.records_are_few.ensures c.requires.reading.read), c.in_ok-size.ensures.place)

pub read_record-requires-clause-stands : goal.read_record-requires-clause-stands
read_record-requires-clause-stands g c =
    let open_ = rw c.in-Ok-Some.field-0-is at c.in-Ok-Some.ensures.open in
    let within = rw c.in-Ok-Some.field-0-is at c.in-Ok-Some.ensures.within in
    let small = rw c.in-Ok-Some.field-0-is at c.in-Ok-Some.ensures.small in
    let goes = rw c.in-Ok-Some.field-0-is at c.in-Ok-Some.ensures.goes in
    at_head g.D.Disk.reveals ((g.D.Disk.state c.fill.new.disk).files 0) (with_cursor c.args.self.now c.fill.new.self) c.in-Ok-Some.found c.window.result.now c.requires.reading.records c.readers_know.ensures (read_on c.args.self.now c.fill.new.self c.requires.reading.records c.in_ok-size.ensures.place c.requires.reading.read) (λ reveals. revealed_on c.args.self.now c.fill.new.self c.requires.reading.records ((g.D.Disk.state c.args.disk.now).files 0) ((g.D.Disk.state c.fill.new.disk).files 0) c.in_ok-size.ensures.place (ap (λ (f : ℕ → List ℕ). f 0) (sym (c.in_ok-size.ensures.reads.contents reveals))) (c.in_ok-size.ensures.revealed reveals) (c.requires.reading.revealed reveals)) (c.window.ensures ∙ window_is c.fill.new.self c.in_ok-size.size c.in_ok-size.ensures.there) open_ within small goes (λ reveals. sym (window_is c.fill.new.self c.in_ok-size.size c.in_ok-size.ensures.there) ∙ c.in_ok-size.ensures.window reveals
    ∙ ap (λ (k : ℕ). take 315 (drop k ((g.D.Disk.state c.args.disk.now).files 0))) (sym c.in_ok-size.ensures.place)
    ∙ ap (λ (f : ℕ → List ℕ). take 315 (drop c.fill.new.self.place (f 0))) (sym (c.in_ok-size.ensures.reads.contents reveals)))

pub returns-in-Err-clause-bad : goal.returns-in-Err-clause-bad
returns-in-Err-clause-bad g c = λ reveals.
    bad_gate c.args.self.now c.requires.reading.records ((g.D.Disk.state c.args.disk.now).files 0) c.window.result.now c.in-Err.at _ c.readers_know.ensures c.requires.reading.read (c.requires.reading.revealed reveals) c.in-Err.ensures.bad
    (c.window.ensures ∙ c.in_ok-size.ensures.window reveals) (ap (λ (n : ℕ). n + c.in-Err.at) (c.place.ensures ∙ c.in_ok-size.ensures.place))

pub returns-in-Ok-None-clause-last : goal.returns-in-Ok-None-clause-last
returns-in-Ok-None-clause-last g c = λ _.
    let closed = rw c.in-Ok-None.field-0-is at c.in-Ok-None.ensures.closed in
    record {
      records = c.requires.reading.records;
      read = (read_on c.args.self.now c.fill.new.self c.requires.reading.records c.in_ok-size.ensures.place c.requires.reading.read);
      revealed = λ reveals. subst (λ (k : ℕ). IsLedger ((g.D.Disk.state c.args.disk.now).files 0) c.args.self.now.shape c.requires.reading.records k) (sym c.in_ok-size.ensures.place)
          (ends_at c.args.self.now c.requires.reading.records ((g.D.Disk.state c.args.disk.now).files 0) c.window.result.now c.requires.reading.read (c.requires.reading.revealed reveals) (c.window.ensures ∙ c.in_ok-size.ensures.window reveals) closed);
    }

pub returns-in_err-read_record-in-Ok-Some-clause-reads : goal.returns-in_err-read_record-in-Ok-Some-clause-reads
returns-in_err-read_record-in-Ok-Some-clause-reads g c = reads_both g.D.Disk.reveals _ _ (g.D.Disk.state c.args.disk.now) (g.D.Disk.state c.fill.new.disk) (g.D.Disk.state c.read_record.new.disk) (λ none. none) (reads_as g.D.Disk.reveals _ ⊥ _ _ (λ none. absurd none) (λ is. absurd (cc)) c.in_ok-size.ensures.reads) (reads_as g.D.Disk.reveals _ _ _ _ (λ e. search rules) (λ is. search rules) c.in_err-read_record-in-Ok-Some.ensures.reads)

pub returns-in_ok-read_record-in-Ok-Some-clause-reads : goal.returns-in_ok-read_record-in-Ok-Some-clause-reads
returns-in_ok-read_record-in-Ok-Some-clause-reads g c = reads_both g.D.Disk.reveals _ _ (g.D.Disk.state c.args.disk.now) (g.D.Disk.state c.fill.new.disk) (g.D.Disk.state c.read_record.new.disk) (λ none. none) (reads_as g.D.Disk.reveals _ ⊥ _ _ (λ none. absurd none) (λ is. absurd (cc)) c.in_ok-size.ensures.reads) (reads_as g.D.Disk.reveals _ _ _ _ (λ e. absurd (cc)) (λ is. absurd (cc)) c.in_ok-read_record-in-Ok-Some.ensures.reads)
