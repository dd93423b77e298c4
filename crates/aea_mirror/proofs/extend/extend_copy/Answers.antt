use Rattle.std.proofs.Common.{rules, ◌≡◌, ◌+◌, false, true, refl, sym, subst}
use Rattle.aea_disk.specs.Files.{Files}
use Rattle.aea_disk.specs.Frames.{OnlyReads}
use Rattle.aea_disk.proofs.Frames.{reads_made, reads_failed, writes_as}
use Rattle.aea_copy_writer.specs.Changes.{KeepsFront}
use Rattle.aea_mirror.specs.Extending.{HasEntries}
use Rattle.aea_mirror.proofs.Staging.{staged_writes, staged_then, staged_extends, opened_extends, opened_body, staged_body}
use Rattle.aea_mirror.proofs.Spending.{entries_only, then_sync, then_open, as_further, entries_there, opened_there}
use Rattle.aea_mirror.proofs.extend.extend_copy.Goals as goal

pub returns-in_err-written-clause-extends : goal.returns-in_err-written-clause-extends
returns-in_err-written-clause-extends g c = λ revealed.
    staged_extends c.args.file c.args.tail.now.gate (g.D.Disk.state c.args.disk.now) (g.D.Disk.state c.write_entries.new.disk)
    (staged_writes g.D.Disk.reveals _ _ _ c.args.file c.args.tail.now.gate (g.D.Disk.state c.args.disk.now) (g.D.Disk.state c.write_entries.new.disk) revealed (c.requires.gated revealed) c.in_err-written.ensures.writes)

pub returns-in_err-written-clause-body : goal.returns-in_err-written-clause-body
returns-in_err-written-clause-body g c = λ revealed more has fits.
    staged_body c.args.file c.args.tail.now.gate c.args.tail.now.link more (g.D.Disk.state c.args.disk.now) (g.D.Disk.state c.write_entries.new.disk)
    (staged_writes g.D.Disk.reveals _ _ _ c.args.file c.args.tail.now.gate (g.D.Disk.state c.args.disk.now) (g.D.Disk.state c.write_entries.new.disk) revealed (c.requires.gated revealed) c.in_err-written.ensures.writes)

pub returns-in_default-clause-extends : goal.returns-in_default-clause-extends
returns-in_default-clause-extends g c = λ revealed.
    staged_extends c.args.file c.args.tail.now.gate (g.D.Disk.state c.args.disk.now) (g.D.Disk.state c.write_entries.new.disk)
    (staged_writes g.D.Disk.reveals _ _ _ c.args.file c.args.tail.now.gate (g.D.Disk.state c.args.disk.now) (g.D.Disk.state c.write_entries.new.disk) revealed (c.requires.gated revealed) c.in_ok-written.ensures.writes)

pub returns-in_default-clause-body : goal.returns-in_default-clause-body
returns-in_default-clause-body g c = λ revealed more has fits.
    staged_body c.args.file c.args.tail.now.gate c.args.tail.now.link more (g.D.Disk.state c.args.disk.now) (g.D.Disk.state c.write_entries.new.disk)
    (staged_writes g.D.Disk.reveals _ _ _ c.args.file c.args.tail.now.gate (g.D.Disk.state c.args.disk.now) (g.D.Disk.state c.write_entries.new.disk) revealed (c.requires.gated revealed) c.in_ok-written.ensures.writes)

pub returns-in_err-sync-clause-extends : goal.returns-in_err-sync-clause-extends
returns-in_err-sync-clause-extends g c = λ revealed.
    let s = g.D.Disk.state c.args.disk.now in
    let a = g.D.Disk.state c.write_entries.new.disk in
    let b = g.D.Disk.state c.sync.new.self in
    let e = c.in_err-sync.ensures in
    let reads : OnlyReads g.D.Disk.reveals (true ≡ true) a b = reads_failed g.D.Disk.reveals (true ≡ true) a b _ refl refl e.contents e.crash e.settled e.time e.cause e.sure in
    staged_extends c.args.file c.args.tail.now.gate s b
    (staged_then c.args.file c.args.tail.now.gate s a b
    (staged_writes g.D.Disk.reveals _ _ _ c.args.file c.args.tail.now.gate s a revealed (c.requires.gated revealed) c.in_ok-written.ensures.writes) (e.contents revealed) e.crash e.time reads.earlier)

pub returns-in_err-sync-clause-body : goal.returns-in_err-sync-clause-body
returns-in_err-sync-clause-body g c = λ revealed more has fits.
    let s = g.D.Disk.state c.args.disk.now in
    let a = g.D.Disk.state c.write_entries.new.disk in
    let b = g.D.Disk.state c.sync.new.self in
    let e = c.in_err-sync.ensures in
    let reads : OnlyReads g.D.Disk.reveals (true ≡ true) a b = reads_failed g.D.Disk.reveals (true ≡ true) a b _ refl refl e.contents e.crash e.settled e.time e.cause e.sure in
    staged_body c.args.file c.args.tail.now.gate c.args.tail.now.link more s b
    (staged_then c.args.file c.args.tail.now.gate s a b
    (staged_writes g.D.Disk.reveals _ _ _ c.args.file c.args.tail.now.gate s a revealed (c.requires.gated revealed) c.in_ok-written.ensures.writes) (e.contents revealed) e.crash e.time reads.earlier)

pub returns-in_err-sync-clause-writes : goal.returns-in_err-sync-clause-writes
returns-in_err-sync-clause-writes g c =
    let s = g.D.Disk.state c.args.disk.now in
    let a = g.D.Disk.state c.write_entries.new.disk in
    let b = g.D.Disk.state c.sync.new.self in
    let e = c.in_err-sync.ensures in
    then_sync g.D.Disk.reveals (false ≡ true) _ c.args.file c.args.tail.now.gate c.args.tail.now.link c.args.from c.args.until s a b (λ is. absurd (cc))
    (λ free. (0, g.met.D.Disk.free_taken c.write_entries.new.disk 0 (a.files 0) 0 free))
    (entries_only g.D.Disk.reveals _ _ _ c.args.file (KeepsFront (c.args.tail.now.gate + 1)) s a c.in_ok-written.ensures.writes)
    (reads_failed g.D.Disk.reveals _ a b _ refl (search rules) e.contents e.crash e.settled e.time e.cause e.sure)

pub returns-in_err-open_gate_at-clause-extends : goal.returns-in_err-open_gate_at-clause-extends
returns-in_err-open_gate_at-clause-extends g c = λ revealed.
    let s = g.D.Disk.state c.args.disk.now in
    let a = g.D.Disk.state c.write_entries.new.disk in
    let b = g.D.Disk.state c.sync.new.self in
    let e = c.in_ok-sync.ensures in
    let reads : OnlyReads g.D.Disk.reveals (false ≡ true) a b = reads_made g.D.Disk.reveals (false ≡ true) a b _ (cc) (λ is. absurd (cc)) e.contents e.crash e.settled e.time e.cause e.sure in
    opened_extends g.D.Disk.reveals _ _ _ c.args.file c.args.tail.now.gate s b (g.D.Disk.state c.open_gate_at.new.disk) revealed
    (staged_then c.args.file c.args.tail.now.gate s a b
    (staged_writes g.D.Disk.reveals _ _ _ c.args.file c.args.tail.now.gate s a revealed (c.requires.gated revealed) c.in_ok-written.ensures.writes) (e.contents revealed) e.crash e.time reads.earlier)
    c.in_err-open_gate_at.ensures.writes c.in_err-open_gate_at.ensures.settled

pub returns-clause-extends : goal.returns-clause-extends
returns-clause-extends g c = λ revealed.
    let s = g.D.Disk.state c.args.disk.now in
    let a = g.D.Disk.state c.write_entries.new.disk in
    let b = g.D.Disk.state c.sync.new.self in
    let e = c.in_ok-sync.ensures in
    let reads : OnlyReads g.D.Disk.reveals (false ≡ true) a b = reads_made g.D.Disk.reveals (false ≡ true) a b _ (cc) (λ is. absurd (cc)) e.contents e.crash e.settled e.time e.cause e.sure in
    opened_extends g.D.Disk.reveals _ _ _ c.args.file c.args.tail.now.gate s b (g.D.Disk.state c.open_gate_at.new.disk) revealed
    (staged_then c.args.file c.args.tail.now.gate s a b
    (staged_writes g.D.Disk.reveals _ _ _ c.args.file c.args.tail.now.gate s a revealed (c.requires.gated revealed) c.in_ok-written.ensures.writes) (e.contents revealed) e.crash e.time reads.earlier)
    c.in_ok-open_gate_at.ensures.writes c.in_ok-open_gate_at.ensures.settled

pub returns-in_err-open_gate_at-clause-body : goal.returns-in_err-open_gate_at-clause-body
returns-in_err-open_gate_at-clause-body g c = λ revealed more has fits.
    let s = g.D.Disk.state c.args.disk.now in
    let a = g.D.Disk.state c.write_entries.new.disk in
    let b = g.D.Disk.state c.sync.new.self in
    let e = c.in_ok-sync.ensures in
    let reads : OnlyReads g.D.Disk.reveals (false ≡ true) a b = reads_made g.D.Disk.reveals (false ≡ true) a b _ (cc) (λ is. absurd (cc)) e.contents e.crash e.settled e.time e.cause e.sure in
    let written = (rw c.in-Some.is at c.in_ok-written.ensures.written) revealed more (as_further more c.args.from c.args.until (s.files 0) c.requires.places.0 has) fits in
    let bytes = (rw c.in-Some.is at c.in_ok-written.ensures.bytes) revealed in
    let there = entries_there c.args.file c.args.tail.now.gate c.args.tail.now.link more c.args.from c.args.until c.in-Some.written s.files a.files has written bytes in
    opened_body g.D.Disk.reveals _ _ _ c.args.file c.args.tail.now.gate c.args.tail.now.link more s b (g.D.Disk.state c.open_gate_at.new.disk)
    (staged_then c.args.file c.args.tail.now.gate s a b
    (staged_writes g.D.Disk.reveals _ _ _ c.args.file c.args.tail.now.gate s a revealed (c.requires.gated revealed) c.in_ok-written.ensures.writes) (e.contents revealed) e.crash e.time reads.earlier)
    (e.durable revealed) (subst (λ (f : Files). HasEntries c.args.tail.now.gate c.args.tail.now.link more (f c.args.file)) (sym (e.contents revealed)) there) c.in_err-open_gate_at.ensures.writes

pub returns-clause-body : goal.returns-clause-body
returns-clause-body g c = λ revealed more has fits.
    let s = g.D.Disk.state c.args.disk.now in
    let a = g.D.Disk.state c.write_entries.new.disk in
    let b = g.D.Disk.state c.sync.new.self in
    let e = c.in_ok-sync.ensures in
    let reads : OnlyReads g.D.Disk.reveals (false ≡ true) a b = reads_made g.D.Disk.reveals (false ≡ true) a b _ (cc) (λ is. absurd (cc)) e.contents e.crash e.settled e.time e.cause e.sure in
    let written = (rw c.in-Some.is at c.in_ok-written.ensures.written) revealed more (as_further more c.args.from c.args.until (s.files 0) c.requires.places.0 has) fits in
    let bytes = (rw c.in-Some.is at c.in_ok-written.ensures.bytes) revealed in
    let there = entries_there c.args.file c.args.tail.now.gate c.args.tail.now.link more c.args.from c.args.until c.in-Some.written s.files a.files has written bytes in
    opened_body g.D.Disk.reveals _ _ _ c.args.file c.args.tail.now.gate c.args.tail.now.link more s b (g.D.Disk.state c.open_gate_at.new.disk)
    (staged_then c.args.file c.args.tail.now.gate s a b
    (staged_writes g.D.Disk.reveals _ _ _ c.args.file c.args.tail.now.gate s a revealed (c.requires.gated revealed) c.in_ok-written.ensures.writes) (e.contents revealed) e.crash e.time reads.earlier)
    (e.durable revealed) (subst (λ (f : Files). HasEntries c.args.tail.now.gate c.args.tail.now.link more (f c.args.file)) (sym (e.contents revealed)) there) c.in_ok-open_gate_at.ensures.writes

pub returns-clause-opened : goal.returns-clause-opened
returns-clause-opened g c = λ revealed more has fits.
    let s = g.D.Disk.state c.args.disk.now in
    let a = g.D.Disk.state c.write_entries.new.disk in
    let b = g.D.Disk.state c.sync.new.self in
    let e = c.in_ok-sync.ensures in
    let written = (rw c.in-Some.is at c.in_ok-written.ensures.written) revealed more (as_further more c.args.from c.args.until (s.files 0) c.requires.places.0 has) fits in
    let bytes = (rw c.in-Some.is at c.in_ok-written.ensures.bytes) revealed in
    let there = entries_there c.args.file c.args.tail.now.gate c.args.tail.now.link more c.args.from c.args.until c.in-Some.written s.files a.files has written bytes in
    let here = subst (λ (f : Files). HasEntries c.args.tail.now.gate c.args.tail.now.link more (f c.args.file)) (sym (e.contents revealed)) there in
    (record { gate = written.place; link = written.last }, opened_there c.args.file c.args.tail.now.gate c.args.tail.now.link more b.files (g.D.Disk.state c.open_gate_at.new.disk).files here (c.in_ok-open_gate_at.ensures.opened revealed))

pub returns-in_err-open_gate_at-clause-writes : goal.returns-in_err-open_gate_at-clause-writes
returns-in_err-open_gate_at-clause-writes g c =
    let s = g.D.Disk.state c.args.disk.now in
    let a = g.D.Disk.state c.write_entries.new.disk in
    let b = g.D.Disk.state c.sync.new.self in
    let e = c.in_ok-sync.ensures in
    then_open g.D.Disk.reveals (false ≡ true) _ c.args.file c.args.tail.now.gate c.args.tail.now.link c.args.from c.args.until s b (g.D.Disk.state c.open_gate_at.new.disk) (λ is. absurd (cc))
    (g.met.D.Disk.smaller_fits c.sync.new.self)
    (then_sync g.D.Disk.reveals (false ≡ true) (false ≡ true) c.args.file c.args.tail.now.gate c.args.tail.now.link c.args.from c.args.until s a b (λ is. absurd (cc))
    (λ free. (0, g.met.D.Disk.free_taken c.write_entries.new.disk 0 (a.files 0) 0 free))
    (entries_only g.D.Disk.reveals _ _ _ c.args.file (KeepsFront (c.args.tail.now.gate + 1)) s a c.in_ok-written.ensures.writes)
    (reads_made g.D.Disk.reveals (false ≡ true) a b _ (cc) (λ is. absurd (cc)) e.contents e.crash e.settled e.time e.cause e.sure))
    (writes_as g.D.Disk.reveals _ _ (true ≡ true) _ _ b (g.D.Disk.state c.open_gate_at.new.disk) (λ is. refl) (λ is. search rules) c.in_err-open_gate_at.ensures.writes)

pub returns-clause-writes : goal.returns-clause-writes
returns-clause-writes g c =
    let s = g.D.Disk.state c.args.disk.now in
    let a = g.D.Disk.state c.write_entries.new.disk in
    let b = g.D.Disk.state c.sync.new.self in
    let e = c.in_ok-sync.ensures in
    then_open g.D.Disk.reveals (false ≡ true) (false ≡ true) c.args.file c.args.tail.now.gate c.args.tail.now.link c.args.from c.args.until s b (g.D.Disk.state c.open_gate_at.new.disk) (λ is. absurd (cc))
    (g.met.D.Disk.smaller_fits c.sync.new.self)
    (then_sync g.D.Disk.reveals (false ≡ true) (false ≡ true) c.args.file c.args.tail.now.gate c.args.tail.now.link c.args.from c.args.until s a b (λ is. absurd (cc))
    (λ free. (0, g.met.D.Disk.free_taken c.write_entries.new.disk 0 (a.files 0) 0 free))
    (entries_only g.D.Disk.reveals _ _ _ c.args.file (KeepsFront (c.args.tail.now.gate + 1)) s a c.in_ok-written.ensures.writes)
    (reads_made g.D.Disk.reveals (false ≡ true) a b _ (cc) (λ is. absurd (cc)) e.contents e.crash e.settled e.time e.cause e.sure))
    c.in_ok-open_gate_at.ensures.writes
