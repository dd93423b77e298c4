use Rattle.std.proofs.Common.{◌≡◌, ◌+◌, [], ◌∷◌, ◌++◌, refl, sym, ◌∙◌, ap, arith, Result, Ok, Err}
use Rattle.aea_faults.specs.Faults.{Rose}
use Rattle.aea_io.proofs.Printing.{prints_as}
use Rattle.aea_append.specs.Taking.{room_left}
use Rattle.aea_append.specs.declared.ingest.Ingest.{Ingest}
use Rattle.aea_append.specs.declared.ingest.IngestFault.{IngestFault}
use Rattle.aea_append.specs.declared.ingest.IngestFault.TheVariants as ingest
use Rattle.aea_command.specs.declared.refusal.Failure.TheVariants as failure
use Rattle.aea_command.specs.declared.status.Status.TheVariants.{Done}
use Rattle.aea_command.specs.Failures.{Answer, ingest_failure}
use Rattle.aea_command.proofs.OpeningCases.{err_with}
use Rattle.aea_command_store.proofs.IngestLemmas.Answering.{HasTried, done_refuses, fault_refuses, fault_ends}
use Rattle.aea_command_store.proofs.IngestLemmas.Going.{gone_none}
use Rattle.aea_command_store.proofs.IngestLemmas.Looping.{this_now, goes_on, breaks_off, count_more, few_more, exact_more, at_most_more, writes_by, fails_by, ends_by, cut_by, writes_then, ingest_after, ingest_not_words, ingest_no_clash, ingest_no_output, ingest_disk, disk_ingest, ingest_input, input_ingest, not_read}
use Rattle.aea_command_store.proofs.IngestLemmas.Revealing.{counted_none}
use Rattle.aea_command_store.proofs.ingest.put_frames.Given.{Over}
use Rattle.aea_command_store.proofs.ingest.put_frames.Goals as goal

-- ---- the loop

pub loop-page-init : goal.loop-page-init
loop-page-init g c = record {
  objects = [];
  gone = gone_none g.D.Disk.reveals (c.args.disk.now ≡ c.args.disk.now) refl c.args.ledger.now (g.S.Source.state c.args.input.now).left (g.D.Disk.state c.args.disk.now) (g.O.Sink.state c.args.out.now) c.requires.live c.requires.synced;
  counted = refl;
  few = omega arith;
  kept = tt;
  page = c.new-page.ensures;
  at = omega arith;
  exact = refl;
  input_kept = omega arith;
  input_still = refl;
  out_kept = omega arith;
}

pub ingest_next-requires-clause-this : goal.ingest_next-requires-clause-this
ingest_next-requires-clause-this g c revealed =
    let inv = c.loop-page.invariant in
    this_now c.ledgers_have_one_reading.ensures c.cells_have_lengths.ensures c.cells_have_parts.ensures c.lasts_are_values.ensures c.objects_record_more.ensures c.digests_are_counted.ensures
    g.D.Disk.reveals _ _ _ c.requires.opened _ _ _ _ _ _ _ inv.gone (λ e. ap g.D.Disk.state e) c.requires.this revealed

pub loop-page-smaller : goal.loop-page-smaller
loop-page-smaller g c =
    let inv = c.loop-page.invariant in
    let w2 = c.ingest_next.new.ledger in
    let rest2 = (g.S.Source.state c.ingest_next.new.source).left in
    let next = g.D.Disk.state c.ingest_next.new.disk in
    let gave = c.in_ok-name.ensures in
    let has = gave.stored c.in-Stored.name c.in-Stored.stored (ap Ok c.in-Stored.is) in
    let few = few_more c.ledgers_have_one_reading.ensures c.cells_have_lengths.ensures c.cells_have_parts.ensures c.lasts_are_values.ensures c.objects_record_more.ensures c.digests_are_counted.ensures
    g.D.Disk.reveals _ _ _ c.requires.opened _ _ _ _ _ _ _ inv.gone (λ e. ap g.D.Disk.state e) c.requires.this
    w2 rest2 next c.in-Stored.name c.in-Stored.stored (let r : Result Ingest IngestFault = Ok c.in_ok-name.field-0 in r ≡ Err ingest.DiskFault) has gave.writes c.loop-page.count inv.counted in
    omega (arith, few)

pub loop-page-preserved : goal.loop-page-preserved
loop-page-preserved g c =
    let inv = c.loop-page.invariant in
    let w2 = c.ingest_next.new.ledger in
    let rest2 = (g.S.Source.state c.ingest_next.new.source).left in
    let next = g.D.Disk.state c.ingest_next.new.disk in
    let gave = c.in_ok-name.ensures in
    let has = gave.stored c.in-Stored.name c.in-Stored.stored (ap Ok c.in-Stored.is) in
    let source = gave.source_kept in
    let sink = c.in_ok-write_line.ensures.prints.cause.kept in
    let few = few_more c.ledgers_have_one_reading.ensures c.cells_have_lengths.ensures c.cells_have_parts.ensures c.lasts_are_values.ensures c.objects_record_more.ensures c.digests_are_counted.ensures
    g.D.Disk.reveals _ _ _ c.requires.opened _ _ _ _ _ _ _ inv.gone (λ e. ap g.D.Disk.state e) c.requires.this
    w2 rest2 next c.in-Stored.name c.in-Stored.stored (let r : Result Ingest IngestFault = Ok c.in_ok-name.field-0 in r ≡ Err ingest.DiskFault) has gave.writes c.loop-page.count inv.counted in
    record {
      objects = inv.objects ++ has.0 ∷ [];
      gone = goes_on c.ledgers_have_one_reading.ensures c.cells_have_lengths.ensures c.cells_have_parts.ensures c.lasts_are_values.ensures c.objects_record_more.ensures c.digests_are_counted.ensures
          g.D.Disk.reveals _ _ _ c.requires.opened _ _ _ _ _ _ _ inv.gone (λ e. ap g.D.Disk.state e) c.requires.this
          w2 rest2 next c.in-Stored.name c.in-Stored.stored (let r : Result Ingest IngestFault = Ok c.in_ok-name.field-0 in r ≡ Err ingest.DiskFault) has gave.writes c.objects_are_counted.ensures c.new_names_are_free.ensures (g.met.D.Disk.ended_taken c.loop-page.disk) (c.ingest_next.new.disk ≡ c.args.disk.now) (g.O.Sink.state c.write_line.new.out) (λ e. let h : (let r : Result Ingest IngestFault = Ok c.in_ok-name.field-0 in r ≡ Err ingest.DiskFault) = e in cc)
          (gave.padded (λ e. let h : (let r : Result Ingest IngestFault = Ok c.in_ok-name.field-0 in r ≡ Err ingest.DiskFault) = e in cc))
          (prints_as tt (rw c.bytes.ensures at c.in_ok-write_line.ensures.prints));
      counted = count_more c.ledgers_have_one_reading.ensures c.cells_have_lengths.ensures c.cells_have_parts.ensures c.lasts_are_values.ensures c.objects_record_more.ensures c.digests_are_counted.ensures
          g.D.Disk.reveals _ _ _ c.requires.opened _ _ _ _ _ _ _ inv.gone (λ e. ap g.D.Disk.state e) c.requires.this
          w2 rest2 next c.in-Stored.name c.in-Stored.stored (let r : Result Ingest IngestFault = Ok c.in_ok-name.field-0 in r ≡ Err ingest.DiskFault) has gave.writes c.loop-page.count inv.counted;
      few = omega (arith, few);
      kept = gave.kept;
      page = c.in_ok-write_line.ensures.left;
      at = at_most_more c.ledgers_have_one_reading.ensures c.cells_have_lengths.ensures c.cells_have_parts.ensures c.lasts_are_values.ensures c.objects_record_more.ensures c.digests_are_counted.ensures
          g.D.Disk.reveals _ _ _ c.requires.opened _ _ _ _ _ _ _ inv.gone (λ e. ap g.D.Disk.state e) c.requires.this
          w2 rest2 next c.in-Stored.name c.in-Stored.stored (let r : Result Ingest IngestFault = Ok c.in_ok-name.field-0 in r ≡ Err ingest.DiskFault) has gave.writes c.loop-page.at c.ingest_next.new.at c.loop-page.count inv.at gave.taken;
      exact = exact_more c.ledgers_have_one_reading.ensures c.cells_have_lengths.ensures c.cells_have_parts.ensures c.lasts_are_values.ensures c.objects_record_more.ensures c.digests_are_counted.ensures
          g.D.Disk.reveals _ _ _ c.requires.opened _ _ _ _ _ _ _ inv.gone (λ e. ap g.D.Disk.state e) c.requires.this
          w2 rest2 next c.in-Stored.name c.in-Stored.stored (let r : Result Ingest IngestFault = Ok c.in_ok-name.field-0 in r ≡ Err ingest.DiskFault) has gave.writes c.loop-page.at c.ingest_next.new.at inv.exact (gave.exact c.in-Stored.name c.in-Stored.stored (ap Ok c.in-Stored.is));
      input_kept = omega (arith, inv.input_kept, source);
      input_still = gave.source_still (not_read c.in_ok-name.field-0) ∙ inv.input_still;
      out_kept = omega (arith, inv.out_kept, sink);
    }

-- ---- a frame that was not taken

-- what the call ensures that took none
tried : (g : Over) (c : goal.Joined-kept g) → HasTried g.D.Disk.reveals c.loop-page.ledger (g.D.Disk.state c.loop-page.disk).files (g.S.Source.state c.loop-page.input).left (g.S.Source.state c.ingest_next.new.source).left c.loop-page.at c.ingest_next.new.at (Err c.in_err-name.field-0.0)
tried g c =
    let gave = c.in_err-name.ensures in
    record {
      taken = gave.taken;
      short = gave.short;
      ends = gave.ends;
      bad_name = gave.bad_name;
      bad_name_refused = gave.bad_name_refused;
      name_taken = gave.name_taken;
      name_taken_refused = gave.name_taken_refused;
      many = gave.many;
      many_refused = gave.many_refused;
      head = gave.head;
      head_revealed = gave.head_revealed;
      head_refused = gave.head_refused;
      full = gave.full;
      full_revealed = gave.full_revealed;
      full_refused = gave.full_refused;
      bad_stream = gave.bad_stream;
      bad_stream_revealed = gave.bad_stream_revealed;
      bad_stream_refused = gave.bad_stream_refused;
    }

pub returns-in_err-name-clause-ingests : goal.returns-in_err-name-clause-ingests
returns-in_err-name-clause-ingests g c =
    let reveals = g.D.Disk.reveals in
    let v = c.args.ledger.now in
    let w = c.loop-page.ledger in
    let left = (g.S.Source.state c.args.input.now).left in
    let rest = (g.S.Source.state c.loop-page.input).left in
    let old = g.D.Disk.state c.args.disk.now in
    let now = g.D.Disk.state c.loop-page.disk in
    let before = g.O.Sink.state c.args.out.now in
    let after = g.O.Sink.state c.loop-page.out in
    let inv = c.loop-page.invariant in
    let rest2 = (g.S.Source.state c.ingest_next.new.source).left in
    let next = g.D.Disk.state c.ingest_next.new.disk in
    let fault = c.in_err-name.field-0.0 in
    let gave = c.in_err-name.ensures in
    rw (err_with c.from_residual.result (ingest_failure c.in_err-name.field-0.0) c.from_residual.ensures.1)
    (fails_by c.ledgers_have_one_reading.ensures c.cells_have_lengths.ensures c.cells_have_parts.ensures c.lasts_are_values.ensures c.objects_record_more.ensures c.digests_are_counted.ensures
    g.D.Disk.reveals _ _ _ c.requires.opened _ _ _ _ _ _ _ inv.gone (λ e. ap g.D.Disk.state e) c.requires.this
    fault next rest2 (let r : Result Ingest IngestFault = Err fault in r ≡ Err ingest.DiskFault) c.survivors_stay_honest.ensures gave.writes gave.refused_leaves gave.stopped gave.padded
    (fault_ends c.ledgers_have_one_reading.ensures c.objects_are_counted.ensures c.new_names_are_free.ensures c.numbers_reveal_blocks.ensures c.cells_have_lengths.ensures c.cells_have_parts.ensures c.digests_are_counted.ensures
    reveals (c.loop-page.disk ≡ c.args.disk.now) v w left rest old now before after inv.objects inv.gone (λ e. ap g.D.Disk.state e) c.requires.this rest2 c.loop-page.at c.ingest_next.new.at inv.exact fault (tried g c)))

pub returns-in_err-name-clause-refuses : goal.returns-in_err-name-clause-refuses
returns-in_err-name-clause-refuses g c output =
    let fault = c.in_err-name.field-0.0 in
    let gave = c.in_err-name.ensures in
    let old = g.D.Disk.state c.args.disk.now in
    let now = g.D.Disk.state c.loop-page.disk in
    let left = (g.S.Source.state c.args.input.now).left in
    let rest = (g.S.Source.state c.loop-page.input).left in
    let after = (g.S.Source.state c.ingest_next.new.source).left in
    rw (err_with c.from_residual.result (ingest_failure fault) c.from_residual.ensures.1)
    (fault_refuses c.ledgers_have_one_reading.ensures c.objects_are_counted.ensures c.new_names_are_free.ensures c.numbers_reveal_blocks.ensures c.cells_have_lengths.ensures c.cells_have_parts.ensures c.digests_are_counted.ensures
    g.D.Disk.reveals (c.loop-page.disk ≡ c.args.disk.now) c.args.ledger.now c.loop-page.ledger left rest old now (g.O.Sink.state c.args.out.now) (g.O.Sink.state c.loop-page.out) c.loop-page.invariant.objects
    c.loop-page.invariant.gone (λ e. ap g.D.Disk.state e) c.requires.this after c.loop-page.at c.ingest_next.new.at c.loop-page.invariant.exact (Err fault) (tried g c) fault refl)

pub returns-in_err-name-clause-words : goal.returns-in_err-name-clause-words
returns-in_err-name-clause-words g c =
    rw (err_with c.from_residual.result (ingest_failure c.in_err-name.field-0.0) c.from_residual.ensures.1) (ingest_not_words c.in_err-name.field-0.0)

pub returns-in_err-name-clause-clash : goal.returns-in_err-name-clause-clash
returns-in_err-name-clause-clash g c =
    rw (err_with c.from_residual.result (ingest_failure c.in_err-name.field-0.0) c.from_residual.ensures.1) (ingest_no_clash c.in_err-name.field-0.0)

pub returns-in_err-name-clause-after : goal.returns-in_err-name-clause-after
returns-in_err-name-clause-after g c =
    rw (err_with c.from_residual.result (ingest_failure c.in_err-name.field-0.0) c.from_residual.ensures.1) (ingest_after c.in_err-name.field-0.0)

pub returns-in_err-name-clause-writes : goal.returns-in_err-name-clause-writes
returns-in_err-name-clause-writes g c =
    let inv = c.loop-page.invariant in
    rw (err_with c.from_residual.result (ingest_failure c.in_err-name.field-0.0) c.from_residual.ensures.1)
    (writes_by c.ledgers_have_one_reading.ensures c.cells_have_lengths.ensures c.cells_have_parts.ensures c.lasts_are_values.ensures c.objects_record_more.ensures c.digests_are_counted.ensures
    g.D.Disk.reveals _ _ _ c.requires.opened _ _ _ _ _ _ _ inv.gone (λ e. ap g.D.Disk.state e) c.requires.this
    c.objects_are_counted.ensures c.new_names_are_free.ensures (g.met.D.Disk.ended_taken c.loop-page.disk) (g.D.Disk.state c.ingest_next.new.disk) (let r : Result Ingest IngestFault = Err c.in_err-name.field-0.0 in r ≡ Err ingest.DiskFault) (let a : Answer = Err (ingest_failure c.in_err-name.field-0.0) in a ≡ Err failure.Disk)
    (ingest_disk c.in_err-name.field-0.0) (disk_ingest c.in_err-name.field-0.0) c.in_err-name.ensures.writes)

pub returns-in_err-name-clause-input_cause : goal.returns-in_err-name-clause-input_cause
returns-in_err-name-clause-input_cause g c e =
    let kept = c.loop-page.invariant.input_kept in
    let rose : Rose (g.S.Source.state c.loop-page.input).faults (g.S.Source.state c.ingest_next.new.source).faults =
    c.in_err-name.ensures.read_cause (ingest_input c.in_err-name.field-0.0 (sym (err_with c.from_residual.result (ingest_failure c.in_err-name.field-0.0) c.from_residual.ensures.1) ∙ e)) in
    omega (arith, kept, rose)

pub returns-in_err-name-clause-input_still : goal.returns-in_err-name-clause-input_still
returns-in_err-name-clause-input_still g c fine =
    c.in_err-name.ensures.source_still (λ e. fine (err_with c.from_residual.result (ingest_failure c.in_err-name.field-0.0) c.from_residual.ensures.1 ∙ input_ingest c.in_err-name.field-0.0 e))
    ∙ c.loop-page.invariant.input_still

pub returns-in_err-name-clause-out_cause : goal.returns-in_err-name-clause-out_cause
returns-in_err-name-clause-out_cause g c e =
    absurd (ingest_no_output c.in_err-name.field-0.0 (sym (err_with c.from_residual.result (ingest_failure c.in_err-name.field-0.0) c.from_residual.ensures.1) ∙ e))

-- ---- the output failed in the line of an object that was stored

pub returns-in_err-write_line-clause-ingests : goal.returns-in_err-write_line-clause-ingests
returns-in_err-write_line-clause-ingests g c =
    let inv = c.loop-page.invariant in
    let w2 = c.ingest_next.new.ledger in
    let rest2 = (g.S.Source.state c.ingest_next.new.source).left in
    let next = g.D.Disk.state c.ingest_next.new.disk in
    let gave = c.in_ok-name.ensures in
    let has = gave.stored c.in-Stored.name c.in-Stored.stored (ap Ok c.in-Stored.is) in
    rw (err_with c.from_residual-in_err-write_line.result failure.Output c.from_residual-in_err-write_line.ensures.1)
    (breaks_off c.ledgers_have_one_reading.ensures c.cells_have_lengths.ensures c.cells_have_parts.ensures c.lasts_are_values.ensures c.objects_record_more.ensures c.digests_are_counted.ensures
    g.D.Disk.reveals _ _ _ c.requires.opened _ _ _ _ _ _ _ inv.gone (λ e. ap g.D.Disk.state e) c.requires.this
    w2 rest2 next c.in-Stored.name c.in-Stored.stored (let r : Result Ingest IngestFault = Ok c.in_ok-name.field-0 in r ≡ Err ingest.DiskFault) has gave.writes (g.O.Sink.state c.write_line.new.out) c.in_err-write_line.field-0.0
    (gave.padded (λ e. let h : (let r : Result Ingest IngestFault = Ok c.in_ok-name.field-0 in r ≡ Err ingest.DiskFault) = e in cc)) (rw c.bytes.ensures at c.in_err-write_line.ensures.prints))

pub returns-in_err-write_line-clause-refuses : goal.returns-in_err-write_line-clause-refuses
returns-in_err-write_line-clause-refuses g c output =
    absurd (output (err_with c.from_residual-in_err-write_line.result failure.Output c.from_residual-in_err-write_line.ensures.1))

pub returns-in_err-write_line-clause-writes : goal.returns-in_err-write_line-clause-writes
returns-in_err-write_line-clause-writes g c =
    let inv = c.loop-page.invariant in
    rw (err_with c.from_residual-in_err-write_line.result failure.Output c.from_residual-in_err-write_line.ensures.1)
    (writes_by c.ledgers_have_one_reading.ensures c.cells_have_lengths.ensures c.cells_have_parts.ensures c.lasts_are_values.ensures c.objects_record_more.ensures c.digests_are_counted.ensures
    g.D.Disk.reveals _ _ _ c.requires.opened _ _ _ _ _ _ _ inv.gone (λ e. ap g.D.Disk.state e) c.requires.this
    c.objects_are_counted.ensures c.new_names_are_free.ensures (g.met.D.Disk.ended_taken c.loop-page.disk) (g.D.Disk.state c.ingest_next.new.disk) (let r : Result Ingest IngestFault = Ok c.in_ok-name.field-0 in r ≡ Err ingest.DiskFault) (let a : Answer = Err failure.Output in a ≡ Err failure.Disk)
    (λ e. let h : (let a : Answer = Err failure.Output in a ≡ Err failure.Disk) = e in absurd (cc))
    (λ e. let h : (let r : Result Ingest IngestFault = Ok c.in_ok-name.field-0 in r ≡ Err ingest.DiskFault) = e in absurd (cc)) c.in_ok-name.ensures.writes)

pub returns-in_err-write_line-clause-input_still : goal.returns-in_err-write_line-clause-input_still
returns-in_err-write_line-clause-input_still g c fine = c.in_ok-name.ensures.source_still (not_read c.in_ok-name.field-0) ∙ c.loop-page.invariant.input_still

-- ---- the end of the stream

pub returns-in_err-write_end-clause-input_still : goal.returns-in_err-write_end-clause-input_still
returns-in_err-write_end-clause-input_still g c fine = c.in_ok-name.ensures.source_still (not_read c.in_ok-name.field-0) ∙ c.loop-page.invariant.input_still

pub returns-clause-input_still : goal.returns-clause-input_still
returns-clause-input_still g c fine = c.in_ok-name.ensures.source_still (not_read c.in_ok-name.field-0) ∙ c.loop-page.invariant.input_still

pub returns-in_err-write_end-clause-ingests : goal.returns-in_err-write_end-clause-ingests
returns-in_err-write_end-clause-ingests g c =
    let inv = c.loop-page.invariant in
    let rest2 = (g.S.Source.state c.ingest_next.new.source).left in
    let next = g.D.Disk.state c.ingest_next.new.disk in
    let gave = c.in_ok-name.ensures in
    let end = gave.end (ap Ok c.in_default.is) in
    let unchanged = ap g.D.Disk.state end.2 in
    rw (err_with c.from_residual-in_err-write_end.result failure.Output c.from_residual-in_err-write_end.ensures.1)
    (cut_by c.ledgers_have_one_reading.ensures c.cells_have_lengths.ensures c.cells_have_parts.ensures c.lasts_are_values.ensures c.objects_record_more.ensures c.digests_are_counted.ensures
    g.D.Disk.reveals _ _ _ c.requires.opened _ _ _ _ _ _ _ inv.gone (λ e. ap g.D.Disk.state e) c.requires.this
    end.0 next unchanged rest2 (g.O.Sink.state c.write_end.new.out) c.loop-page.count c.in_err-write_end.field-0.0 inv.counted c.in_err-write_end.ensures.prints)

pub returns-in_err-write_end-clause-refuses : goal.returns-in_err-write_end-clause-refuses
returns-in_err-write_end-clause-refuses g c output =
    absurd (output (err_with c.from_residual-in_err-write_end.result failure.Output c.from_residual-in_err-write_end.ensures.1))

pub returns-in_err-write_end-clause-writes : goal.returns-in_err-write_end-clause-writes
returns-in_err-write_end-clause-writes g c =
    let inv = c.loop-page.invariant in
    let gave = c.in_ok-name.ensures in
    let end = gave.end (ap Ok c.in_default.is) in
    let unchanged = ap g.D.Disk.state end.2 in
    rw (err_with c.from_residual-in_err-write_end.result failure.Output c.from_residual-in_err-write_end.ensures.1)
    (writes_then c.ledgers_have_one_reading.ensures c.cells_have_lengths.ensures c.cells_have_parts.ensures c.lasts_are_values.ensures c.objects_record_more.ensures c.digests_are_counted.ensures
    g.D.Disk.reveals _ _ _ c.requires.opened _ _ _ _ _ _ _ inv.gone (λ e. ap g.D.Disk.state e) c.requires.this
    (g.D.Disk.state c.ingest_next.new.disk) (let a : Answer = Err failure.Output in a ≡ Err failure.Disk) unchanged (λ e. let h : (let a : Answer = Err failure.Output in a ≡ Err failure.Disk) = e in cc))

pub returns-clause-ingests : goal.returns-clause-ingests
returns-clause-ingests g c =
    let w = c.loop-page.ledger in
    let rest = (g.S.Source.state c.loop-page.input).left in
    let inv = c.loop-page.invariant in
    let rest2 = (g.S.Source.state c.ingest_next.new.source).left in
    let next = g.D.Disk.state c.ingest_next.new.disk in
    let gave = c.in_ok-name.ensures in
    let end = gave.end (ap Ok c.in_default.is) in
    let unchanged = ap g.D.Disk.state end.2 in
    ends_by c.ledgers_have_one_reading.ensures c.cells_have_lengths.ensures c.cells_have_parts.ensures c.lasts_are_values.ensures c.objects_record_more.ensures c.digests_are_counted.ensures
    g.D.Disk.reveals _ _ _ c.requires.opened _ _ _ _ _ _ _ inv.gone (λ e. ap g.D.Disk.state e) c.requires.this
    next unchanged rest2 (g.O.Sink.state c.write_end.new.out) c.loop-page.count inv.counted (gave.ended (ap Ok c.in_default.is))
    (counted_none rest rest2 c.loop-page.at c.ingest_next.new.at (265 + room_left w) gave.taken end.3) (prints_as tt c.in_ok-write_end.ensures.prints)

pub returns-clause-refuses : goal.returns-clause-refuses
returns-clause-refuses g c output =
    let end = (c.in_ok-name.ensures.end (ap Ok c.in_default.is)).0 in
    done_refuses c.ledgers_have_one_reading.ensures c.objects_are_counted.ensures c.new_names_are_free.ensures c.numbers_reveal_blocks.ensures c.cells_have_lengths.ensures c.cells_have_parts.ensures c.digests_are_counted.ensures
    g.D.Disk.reveals (c.loop-page.disk ≡ c.args.disk.now) c.args.ledger.now c.loop-page.ledger (g.S.Source.state c.args.input.now).left (g.S.Source.state c.loop-page.input).left
    (g.D.Disk.state c.args.disk.now) (g.D.Disk.state c.loop-page.disk) (g.O.Sink.state c.args.out.now) (g.O.Sink.state c.loop-page.out) c.loop-page.invariant.objects
    c.loop-page.invariant.gone (λ e. ap g.D.Disk.state e) c.requires.this end

pub returns-clause-writes : goal.returns-clause-writes
returns-clause-writes g c =
    let inv = c.loop-page.invariant in
    let gave = c.in_ok-name.ensures in
    let end = gave.end (ap Ok c.in_default.is) in
    let unchanged = ap g.D.Disk.state end.2 in
    writes_then c.ledgers_have_one_reading.ensures c.cells_have_lengths.ensures c.cells_have_parts.ensures c.lasts_are_values.ensures c.objects_record_more.ensures c.digests_are_counted.ensures
    g.D.Disk.reveals _ _ _ c.requires.opened _ _ _ _ _ _ _ inv.gone (λ e. ap g.D.Disk.state e) c.requires.this
    (g.D.Disk.state c.ingest_next.new.disk) (let a : Answer = Ok Done in a ≡ Err failure.Disk) unchanged (λ e. let h : (let a : Answer = Ok Done in a ≡ Err failure.Disk) = e in cc)
