use Rattle.std.proofs.Common.{◌≡◌, ◌∙◌, inl, inr, refl, ap, Result, Ok, Err}
use Rattle.std.proofs.KnownBytes.{Keeps-refl}
use Rattle.aea_disk.proofs.Frames.{writes_as}
use Rattle.aea_session.specs.declared.fault.TakeFault.TheVariants as take
use Rattle.aea_session.specs.declared.serving.Stop.{Stop}
use Rattle.aea_session.specs.declared.serving.Stop.TheVariants as stop
use Rattle.aea_command.specs.declared.refusal.Failure.TheVariants as failure
use Rattle.aea_command.specs.declared.status.Status.TheVariants.{Done}
use Rattle.aea_command.specs.Failures.{Answer}
use Rattle.aea_command_session.specs.Failures.{stop_failure}
use Rattle.aea_command_session.proofs.Began.{Began}
use Rattle.aea_command_session.proofs.Causing.Begins.{begin_refuses}
use Rattle.aea_command_session.proofs.Causing.Failing.{failed, stop_after, stop_not_words, stop_no_clash, stop_input, input_stop, stop_output, output_stop, stop_disk, disk_stop}
use Rattle.aea_command_session.proofs.Causing.Running.{unbegun_serves, unbegun_writes, began_from, begun_fixed, begun_intact, begun_serves, begun_refuses, begun_well, flush_in_room}
use Rattle.aea_command_session.proofs.Growing.{closed_all, padded_all}
use Rattle.aea_command_session.proofs.Replying.{serves_all, answers_fit, answers_revealed}
use Rattle.aea_command_session.proofs.Writing.{writes_all}
use Rattle.aea_command_session.proofs.session.serve_opened.Goals as goal

-- ---- where no session was begun

pub returns-in-Err-clause-serves : goal.returns-in-Err-clause-serves
returns-in-Err-clause-serves g c =
    rw c.failure_of_begin.ensures
    (unbegun_serves g.D.Disk.reveals _ c.args.ledger (g.D.Disk.state c.args.disk.now) (g.D.Disk.state c.begin.new.disk) (g.S.Source.state c.args.input.now).left (g.O.Sink.state c.args.out.now) c.in-Err.fault c.in-Err.ensures.reads)

pub returns-in-Err-clause-refuses : goal.returns-in-Err-clause-refuses
returns-in-Err-clause-refuses g c fine =
    rw c.failure_of_begin.ensures
    (begin_refuses c.ledgers_have_one_reading.ensures c.numbers_reveal_blocks.ensures g.D.Disk.reveals _ c.args.ledger (g.D.Disk.state c.args.disk.now).files _ c.requires.this c.in-Err.fault c.in-Err.ensures.not_upgraded c.in-Err.ensures.head)

pub returns-in-Err-clause-writes : goal.returns-in-Err-clause-writes
returns-in-Err-clause-writes g c =
    rw c.failure_of_begin.ensures
    (unbegun_writes g.D.Disk.reveals c.args.ledger (g.D.Disk.state c.args.disk.now) (g.D.Disk.state c.begin.new.disk) (g.S.Source.state c.args.input.now).left c.in-Err.fault c.in-Err.ensures.reads)

-- ---- where one was

pub serve-requires-clause-fixed : goal.serve-requires-clause-fixed
serve-requires-clause-fixed g c =
    let gave = c.in-Ok.ensures in
    let began : Began g.D.Disk.reveals c.args.ledger c.in-Ok.session.work (g.D.Disk.state c.args.disk.now) (g.D.Disk.state c.begin.new.disk) =
    began_from c.in-Ok.session g.D.Disk.reveals c.args.ledger c.in-Ok.session.work (g.D.Disk.state c.args.disk.now) (g.D.Disk.state c.begin.new.disk) gave.ledger gave.not_upgraded gave.keeps gave.stands gave.this gave.reads in
    begun_fixed g.D.Disk.reveals c.args.ledger c.in-Ok.session.work (g.D.Disk.state c.args.disk.now) (g.D.Disk.state c.begin.new.disk) c.requires.synced began

pub returns-in-Err-serve-clause-serves : goal.returns-in-Err-serve-clause-serves
returns-in-Err-serve-clause-serves g c =
    let reveals = g.D.Disk.reveals in
    let state = g.D.Disk.state in
    let v = c.args.ledger in
    let w = c.in-Ok.session.work in
    let x = c.serve.new.session.work in
    let old = state c.args.disk.now in
    let left = (g.S.Source.state c.args.input.now).left in
    let rest = (g.S.Source.state c.serve.new.input).left in
    let before = g.O.Sink.state c.args.out.now in
    let after = g.O.Sink.state c.serve.new.out in
    let stopped = c.in-Err-serve.stop in
    let result : Result (Unit {0}) Stop = Err stopped in
    let gave = c.in-Ok.ensures in
    let run = c.in-Err-serve.ensures.serves in
    let began : Began reveals v w old (state c.begin.new.disk) = began_from c.in-Ok.session reveals v w old (state c.begin.new.disk) gave.ledger gave.not_upgraded gave.keeps gave.stands gave.this gave.reads in
    rw c.failure_of_stop.ensures
    (begun_serves reveals state v w x old c.begin.new.disk c.serve.new.disk left rest before after result began run after (failed (stop_failure stopped)) (Keeps-refl after.written) refl tt
    (λ fine is. fine (disk_stop stopped is))
    (λ fits is. answers_fit reveals state v w x old c.begin.new.disk c.serve.new.disk left rest before after result c.requires.opened c.requires.this c.requires.synced began run fits (stop_output stopped is))
    (serves_all reveals state v w x old c.begin.new.disk c.serve.new.disk left rest before after result c.requires.opened c.requires.this c.requires.synced began run)
    (closed_all c.ledgers_have_one_reading.ensures c.cells_have_lengths.ensures c.closed_records_join.ensures reveals state v w x old c.begin.new.disk c.serve.new.disk left rest before after result c.requires.opened c.requires.this c.requires.synced began run)
    (padded_all c.ledgers_have_one_reading.ensures c.cells_have_lengths.ensures c.closed_records_join.ensures reveals state v w x old c.begin.new.disk c.serve.new.disk left rest before after result c.requires.opened c.requires.this c.requires.synced began run))

pub returns-in-Err-serve-clause-refuses : goal.returns-in-Err-serve-clause-refuses
returns-in-Err-serve-clause-refuses g c fine =
    let reveals = g.D.Disk.reveals in
    let state = g.D.Disk.state in
    let v = c.args.ledger in
    let w = c.in-Ok.session.work in
    let x = c.serve.new.session.work in
    let old = state c.args.disk.now in
    let left = (g.S.Source.state c.args.input.now).left in
    let rest = (g.S.Source.state c.serve.new.input).left in
    let before = g.O.Sink.state c.args.out.now in
    let after = g.O.Sink.state c.serve.new.out in
    let stopped = c.in-Err-serve.stop in
    let result : Result (Unit {0}) Stop = Err stopped in
    let gave = c.in-Ok.ensures in
    let run = c.in-Err-serve.ensures.serves in
    let began : Began reveals v w old (state c.begin.new.disk) = began_from c.in-Ok.session reveals v w old (state c.begin.new.disk) gave.ledger gave.not_upgraded gave.keeps gave.stands gave.this gave.reads in
    rw c.failure_of_stop.ensures
    (begun_refuses reveals state v w x old c.begin.new.disk c.serve.new.disk left rest before after result began run
    (record { one = c.messages_have_one_reading.ensures; good = c.messages_are_not_bad.ensures; whole = c.messages_are_not_cut.ensures; apart = c.bad_are_not_cut.ensures; place = c.bad_at_one_place.ensures; reading = c.streams_have_one_reading.ensures })
    c.ledgers_have_one_reading.ensures c.requires.this (begun_intact c.in-Ok.session c.ledgers_have_one_reading.ensures reveals v old.files c.requires.this began.raised gave.head_refused) stopped refl
    (λ is. fine (ap Err c.failure_of_stop.ensures ∙ is)))

pub returns-in-Err-serve-clause-writes : goal.returns-in-Err-serve-clause-writes
returns-in-Err-serve-clause-writes g c =
    let reveals = g.D.Disk.reveals in
    let state = g.D.Disk.state in
    let v = c.args.ledger in
    let w = c.in-Ok.session.work in
    let x = c.serve.new.session.work in
    let old = state c.args.disk.now in
    let left = (g.S.Source.state c.args.input.now).left in
    let rest = (g.S.Source.state c.serve.new.input).left in
    let before = g.O.Sink.state c.args.out.now in
    let after = g.O.Sink.state c.serve.new.out in
    let stopped = c.in-Err-serve.stop in
    let result : Result (Unit {0}) Stop = Err stopped in
    let gave = c.in-Ok.ensures in
    let run = c.in-Err-serve.ensures.serves in
    let began : Began reveals v w old (state c.begin.new.disk) = began_from c.in-Ok.session reveals v w old (state c.begin.new.disk) gave.ledger gave.not_upgraded gave.keeps gave.stands gave.this gave.reads in
    rw c.failure_of_stop.ensures
    (writes_as reveals _ _ _ (failed (stop_failure stopped) ≡ failed failure.Disk) _ old (state c.serve.new.disk) (stop_disk stopped) (disk_stop stopped)
    (writes_all reveals state v w x old c.begin.new.disk c.serve.new.disk left rest before after result c.requires.opened c.requires.this began run g.met.D.Disk.ended_taken g.met.D.Disk.alike_kept))

pub returns-in-Err-serve-clause-after : goal.returns-in-Err-serve-clause-after
returns-in-Err-serve-clause-after g c = rw c.failure_of_stop.ensures (stop_after c.in-Err-serve.stop)

pub returns-in-Err-serve-clause-words : goal.returns-in-Err-serve-clause-words
returns-in-Err-serve-clause-words g c = rw c.failure_of_stop.ensures (stop_not_words c.in-Err-serve.stop)

pub returns-in-Err-serve-clause-clash : goal.returns-in-Err-serve-clause-clash
returns-in-Err-serve-clause-clash g c = rw c.failure_of_stop.ensures (stop_no_clash c.in-Err-serve.stop)

pub returns-in-Err-serve-clause-input_cause : goal.returns-in-Err-serve-clause-input_cause
returns-in-Err-serve-clause-input_cause g c = rw c.failure_of_stop.ensures (λ is. c.in-Err-serve.ensures.input_cause (stop_input c.in-Err-serve.stop is))

pub returns-in-Err-serve-clause-input_still : goal.returns-in-Err-serve-clause-input_still
returns-in-Err-serve-clause-input_still g c = rw c.failure_of_stop.ensures (λ fine. c.in-Err-serve.ensures.input_still (λ is. fine (input_stop c.in-Err-serve.stop is)))

pub returns-in-Err-serve-clause-out_cause : goal.returns-in-Err-serve-clause-out_cause
returns-in-Err-serve-clause-out_cause g c = rw c.failure_of_stop.ensures (λ is. c.in-Err-serve.ensures.out_cause (stop_output c.in-Err-serve.stop is))

pub returns-in-Err-serve-clause-out_still : goal.returns-in-Err-serve-clause-out_still
returns-in-Err-serve-clause-out_still g c = rw c.failure_of_stop.ensures (λ fine. c.in-Err-serve.ensures.out_still (λ is. fine (output_stop c.in-Err-serve.stop is)))

-- ---- at the end of the input

pub returns-in-Ok-flush-clause-serves : goal.returns-in-Ok-flush-clause-serves
returns-in-Ok-flush-clause-serves g c =
    let reveals = g.D.Disk.reveals in
    let state = g.D.Disk.state in
    let v = c.args.ledger in
    let w = c.in-Ok.session.work in
    let x = c.serve.new.session.work in
    let old = state c.args.disk.now in
    let left = (g.S.Source.state c.args.input.now).left in
    let rest = (g.S.Source.state c.serve.new.input).left in
    let before = g.O.Sink.state c.args.out.now in
    let after = g.O.Sink.state c.serve.new.out in
    let result : Result (Unit {0}) Stop = Ok tt in
    let gave = c.in-Ok.ensures in
    let run = c.in-Ok-serve.ensures.serves in
    let began : Began reveals v w old (state c.begin.new.disk) = began_from c.in-Ok.session reveals v w old (state c.begin.new.disk) gave.ledger gave.not_upgraded gave.keeps gave.stands gave.this gave.reads in
    let answer : Answer = Ok Done in
    begun_serves reveals state v w x old c.begin.new.disk c.serve.new.disk left rest before after result began run (g.O.Sink.state c.flush.new.self) answer c.in-Ok-flush.ensures.bytes (inl refl) refl
    (λ fine is. (let h : result ≡ Err (stop.Taken take.DiskFault) = is in cc))
    (λ fits is. (let h : answer ≡ Err failure.Output = is in cc))
    (serves_all reveals state v w x old c.begin.new.disk c.serve.new.disk left rest before after result c.requires.opened c.requires.this c.requires.synced began run)
    (closed_all c.ledgers_have_one_reading.ensures c.cells_have_lengths.ensures c.closed_records_join.ensures reveals state v w x old c.begin.new.disk c.serve.new.disk left rest before after result c.requires.opened c.requires.this c.requires.synced began run)
    (padded_all c.ledgers_have_one_reading.ensures c.cells_have_lengths.ensures c.closed_records_join.ensures reveals state v w x old c.begin.new.disk c.serve.new.disk left rest before after result c.requires.opened c.requires.this c.requires.synced began run)

pub returns-in-Ok-flush-clause-refuses : goal.returns-in-Ok-flush-clause-refuses
returns-in-Ok-flush-clause-refuses g c fine =
    let reveals = g.D.Disk.reveals in
    let state = g.D.Disk.state in
    let v = c.args.ledger in
    let w = c.in-Ok.session.work in
    let x = c.serve.new.session.work in
    let old = state c.args.disk.now in
    let left = (g.S.Source.state c.args.input.now).left in
    let rest = (g.S.Source.state c.serve.new.input).left in
    let before = g.O.Sink.state c.args.out.now in
    let after = g.O.Sink.state c.serve.new.out in
    let result : Result (Unit {0}) Stop = Ok tt in
    let gave = c.in-Ok.ensures in
    let run = c.in-Ok-serve.ensures.serves in
    let began : Began reveals v w old (state c.begin.new.disk) = began_from c.in-Ok.session reveals v w old (state c.begin.new.disk) gave.ledger gave.not_upgraded gave.keeps gave.stands gave.this gave.reads in
    begun_well reveals state v w x old c.begin.new.disk c.serve.new.disk left rest before after result began run
    (record { one = c.messages_have_one_reading.ensures; good = c.messages_are_not_bad.ensures; whole = c.messages_are_not_cut.ensures; apart = c.bad_are_not_cut.ensures; place = c.bad_at_one_place.ensures; reading = c.streams_have_one_reading.ensures })
    c.ledgers_have_one_reading.ensures c.requires.this (begun_intact c.in-Ok.session c.ledgers_have_one_reading.ensures reveals v old.files c.requires.this began.raised gave.head_refused) refl

pub returns-in-Ok-flush-clause-writes : goal.returns-in-Ok-flush-clause-writes
returns-in-Ok-flush-clause-writes g c =
    let reveals = g.D.Disk.reveals in
    let state = g.D.Disk.state in
    let v = c.args.ledger in
    let w = c.in-Ok.session.work in
    let x = c.serve.new.session.work in
    let old = state c.args.disk.now in
    let left = (g.S.Source.state c.args.input.now).left in
    let rest = (g.S.Source.state c.serve.new.input).left in
    let before = g.O.Sink.state c.args.out.now in
    let after = g.O.Sink.state c.serve.new.out in
    let result : Result (Unit {0}) Stop = Ok tt in
    let gave = c.in-Ok.ensures in
    let run = c.in-Ok-serve.ensures.serves in
    let began : Began reveals v w old (state c.begin.new.disk) = began_from c.in-Ok.session reveals v w old (state c.begin.new.disk) gave.ledger gave.not_upgraded gave.keeps gave.stands gave.this gave.reads in
    let answer : Answer = Ok Done in
    writes_as reveals _ _ _ (answer ≡ failed failure.Disk) _ old (state c.serve.new.disk) (λ is. absurd (cc)) (λ is. (let h : result ≡ Err (stop.Taken take.DiskFault) = is in cc))
    (writes_all reveals state v w x old c.begin.new.disk c.serve.new.disk left rest before after result c.requires.opened c.requires.this began run g.met.D.Disk.ended_taken g.met.D.Disk.alike_kept)

-- ---- where the last flush failed

pub returns-clause-serves : goal.returns-clause-serves
returns-clause-serves g c =
    let reveals = g.D.Disk.reveals in
    let state = g.D.Disk.state in
    let v = c.args.ledger in
    let w = c.in-Ok.session.work in
    let x = c.serve.new.session.work in
    let old = state c.args.disk.now in
    let left = (g.S.Source.state c.args.input.now).left in
    let rest = (g.S.Source.state c.serve.new.input).left in
    let before = g.O.Sink.state c.args.out.now in
    let after = g.O.Sink.state c.serve.new.out in
    let result : Result (Unit {0}) Stop = Ok tt in
    let gave = c.in-Ok.ensures in
    let run = c.in-Ok-serve.ensures.serves in
    let began : Began reveals v w old (state c.begin.new.disk) = began_from c.in-Ok.session reveals v w old (state c.begin.new.disk) gave.ledger gave.not_upgraded gave.keeps gave.stands gave.this gave.reads in
    let answer : Answer = Err failure.Output in
    begun_serves reveals state v w x old c.begin.new.disk c.serve.new.disk left rest before after result began run (g.O.Sink.state c.flush.new.self) answer c.in-Err-flush.ensures.bytes (inr refl) tt
    (λ fine is. (let h : result ≡ Err (stop.Taken take.DiskFault) = is in cc))
    (λ fits is. flush_in_room after (g.O.Sink.state c.flush.new.self) c.in-Err-flush.field-0 (answers_revealed reveals state v w x old c.begin.new.disk c.serve.new.disk left rest before after result c.requires.opened c.requires.this c.requires.synced began run fits refl) c.in-Err-flush.ensures.in_room)
    (serves_all reveals state v w x old c.begin.new.disk c.serve.new.disk left rest before after result c.requires.opened c.requires.this c.requires.synced began run)
    (closed_all c.ledgers_have_one_reading.ensures c.cells_have_lengths.ensures c.closed_records_join.ensures reveals state v w x old c.begin.new.disk c.serve.new.disk left rest before after result c.requires.opened c.requires.this c.requires.synced began run)
    (padded_all c.ledgers_have_one_reading.ensures c.cells_have_lengths.ensures c.closed_records_join.ensures reveals state v w x old c.begin.new.disk c.serve.new.disk left rest before after result c.requires.opened c.requires.this c.requires.synced began run)

pub returns-clause-writes : goal.returns-clause-writes
returns-clause-writes g c =
    let reveals = g.D.Disk.reveals in
    let state = g.D.Disk.state in
    let v = c.args.ledger in
    let w = c.in-Ok.session.work in
    let x = c.serve.new.session.work in
    let old = state c.args.disk.now in
    let left = (g.S.Source.state c.args.input.now).left in
    let rest = (g.S.Source.state c.serve.new.input).left in
    let before = g.O.Sink.state c.args.out.now in
    let after = g.O.Sink.state c.serve.new.out in
    let result : Result (Unit {0}) Stop = Ok tt in
    let gave = c.in-Ok.ensures in
    let run = c.in-Ok-serve.ensures.serves in
    let began : Began reveals v w old (state c.begin.new.disk) = began_from c.in-Ok.session reveals v w old (state c.begin.new.disk) gave.ledger gave.not_upgraded gave.keeps gave.stands gave.this gave.reads in
    let answer : Answer = Err failure.Output in
    writes_as reveals _ _ _ (answer ≡ failed failure.Disk) _ old (state c.serve.new.disk) (λ is. absurd (cc)) (λ is. (let h : result ≡ Err (stop.Taken take.DiskFault) = is in cc))
    (writes_all reveals state v w x old c.begin.new.disk c.serve.new.disk left rest before after result c.requires.opened c.requires.this began run g.met.D.Disk.ended_taken g.met.D.Disk.alike_kept)
