use Rattle.std.proofs.Common.{◌≡◌, ◌≤◌, inl, [], None, length, refl, sym, ◌∙◌, ap}
use Rattle.std.specs.Prelude.{option_map}
use Rattle.std.specs.FinMap.{get}
use Rattle.aea_catalog.specs.Catalogs.{Objects}
use Rattle.aea_disk.proofs.Frames.{reads_none}
use Rattle.aea_fetch.proofs.Getting.{placed_of}
use Rattle.aea_machine.specs.Machine.{Machine}
use Rattle.aea_machine.specs.Replies.{reply}
use Rattle.aea_session.specs.Stands.{KeepsMachine}
use Rattle.aea_session.specs.Looks.{IsReplyTo, MayBegin}
use Rattle.aea_session.specs.declared.fault.TakeFault.TheVariants.{Damaged, DiskFault, WriteFault, NoMemory}
use Rattle.aea_session.proofs.LookingPrinted.{replied, replied_part, rose_by, still_by, fits_by, only_fault}
use Rattle.aea_session.proofs.LookingAt.{unknown_reply, unknown_room, object_room, session_replies, session_parts, long_of, none_found}
use Rattle.aea_session.proofs.read.read.Goals as goal

-- ---- no object is under the name

pub returns-in_default-clause-replies : goal.returns-in_default-clause-replies
returns-in_default-clause-replies g c =
    let w = c.args.work.now in
    let name = c.args.name.now in
    let files = (g.D.Disk.state c.args.disk.now).files in
    let missing : c.find.result ≡ None = cc in
    let none : get w.ledger.objects name ≡ None = none_found (get w.ledger.objects name) (sym (ap (λ (m : Objects). option_map (λ p. p.object) (get m name)) c.catalog.ensures.objects) ∙ sym c.find.ensures ∙ missing) in
    replied (KeepsMachine w) (g.O.Sink.state c.args.out.now) (g.O.Sink.state c.put_refusal.new.out) 9 (reply c.args.message.now 9 [])
    (λ (m : Machine). IsReplyTo g.D.Disk.reveals w.ledger m files c.args.message.now) c.put_refusal.result c.put_refusal.ensures.code c.put_refusal.ensures.prints
    (λ m keeps. unknown_reply w m keeps c.args.message.now name c.requires.kind g.D.Disk.reveals files none)

pub returns-in_default-clause-part : goal.returns-in_default-clause-part
returns-in_default-clause-part g c =
    let w = c.args.work.now in
    let name = c.args.name.now in
    let files = (g.D.Disk.state c.args.disk.now).files in
    let missing : c.find.result ≡ None = cc in
    let none : get w.ledger.objects name ≡ None = none_found (get w.ledger.objects name) (sym (ap (λ (m : Objects). option_map (λ p. p.object) (get m name)) c.catalog.ensures.objects) ∙ sym c.find.ensures ∙ missing) in
    replied_part (KeepsMachine w) (g.O.Sink.state c.args.out.now) (g.O.Sink.state c.put_refusal.new.out) 9 (reply c.args.message.now 9 [])
    _ (λ (m : Machine). MayBegin g.D.Disk.reveals w.ledger m files c.args.message.now) c.put_refusal.result c.put_refusal.ensures.prints
    (λ m keeps. inl (9, unknown_reply w m keeps c.args.message.now name c.requires.kind g.D.Disk.reveals files none))

pub returns-in_default-clause-damaged : goal.returns-in_default-clause-damaged
returns-in_default-clause-damaged g c b is = absurd (only_fault c.put_refusal.result WriteFault (Damaged b) c.put_refusal.ensures.fault (λ e. let h = e in cc) is)

pub returns-in_default-clause-memory : goal.returns-in_default-clause-memory
returns-in_default-clause-memory g c is = absurd (only_fault c.put_refusal.result WriteFault NoMemory c.put_refusal.ensures.fault (λ e. let h = e in cc) is)

pub returns-in_default-clause-reads : goal.returns-in_default-clause-reads
returns-in_default-clause-reads g c = reads_none g.D.Disk.reveals _ (g.D.Disk.state c.args.disk.now) (λ is. only_fault c.put_refusal.result WriteFault DiskFault c.put_refusal.ensures.fault (λ e. let h = e in cc) is)

pub returns-in_default-clause-out_kept : goal.returns-in_default-clause-out_kept
returns-in_default-clause-out_kept g c = c.put_refusal.ensures.prints.cause.kept

pub returns-in_default-clause-out_cause : goal.returns-in_default-clause-out_cause
returns-in_default-clause-out_cause g c is = rose_by c.put_refusal.result WriteFault c.put_refusal.ensures.prints.cause is

pub returns-in_default-clause-out_still : goal.returns-in_default-clause-out_still
returns-in_default-clause-out_still g c other = still_by c.put_refusal.result WriteFault c.put_refusal.ensures.fault c.put_refusal.ensures.prints.cause other

pub returns-in_default-clause-in_room : goal.returns-in_default-clause-in_room
returns-in_default-clause-in_room g c m room keeps revealed enough =
    let w = c.args.work.now in
    let name = c.args.name.now in
    let text = reply c.args.message.now 9 [] in
    let missing : c.find.result ≡ None = cc in
    let none : get w.ledger.objects name ≡ None = none_found (get w.ledger.objects name) (sym (ap (λ (m : Objects). option_map (λ p. p.object) (get m name)) c.catalog.ensures.objects) ∙ sym c.find.ensures ∙ missing) in
    let least : length text ≤ room = unknown_room w m keeps c.args.message.now name c.requires.kind room none enough in
    (fits_by {text = text} c.put_refusal.result WriteFault room c.put_refusal.ensures.prints revealed least, c.put_refusal.ensures.prints.steady room revealed least)

-- ---- there is no memory

pub returns-in_default-large-clause-reads : goal.returns-in_default-large-clause-reads
returns-in_default-large-clause-reads g c = reads_none g.D.Disk.reveals _ (g.D.Disk.state c.args.disk.now) (λ is. let e = is in cc)

pub returns-in_default-large-clause-part : goal.returns-in_default-large-clause-part
returns-in_default-large-clause-part g c m keeps = inl refl

-- ---- an object is

pub look_at-requires-clause-long : goal.look_at-requires-clause-long
look_at-requires-clause-long g c p is =
    let w = c.args.work.now in
    let name = c.args.name.now in
    long_of (get w.ledger.objects name) p c.in-Some.object (sym (ap (λ (m : Objects). option_map (λ p. p.object) (get m name)) c.catalog.ensures.objects) ∙ sym c.find.ensures ∙ c.in-Some.is) is

pub returns-clause-replies : goal.returns-clause-replies
returns-clause-replies g c =
    let w = c.args.work.now in
    let name = c.args.name.now in
    let placed = placed_of (get w.ledger.objects name) c.in-Some.object (sym (ap (λ (m : Objects). option_map (λ p. p.object) (get m name)) c.catalog.ensures.objects) ∙ sym c.find.ensures ∙ c.in-Some.is) in
    session_replies g.D.Disk.reveals w (g.D.Disk.state c.args.disk.now).files c.args.message.now name c.requires.kind placed.0 placed.1
    (g.O.Sink.state c.args.out.now) (g.O.Sink.state c.look_at.new.out) c.look_at.result c.look_at.ensures.replies

pub returns-clause-part : goal.returns-clause-part
returns-clause-part g c =
    let w = c.args.work.now in
    let name = c.args.name.now in
    let placed = placed_of (get w.ledger.objects name) c.in-Some.object (sym (ap (λ (m : Objects). option_map (λ p. p.object) (get m name)) c.catalog.ensures.objects) ∙ sym c.find.ensures ∙ c.in-Some.is) in
    session_parts g.D.Disk.reveals w (g.D.Disk.state c.args.disk.now).files c.args.message.now name c.requires.kind placed.0 placed.1
    (g.O.Sink.state c.args.out.now) (g.O.Sink.state c.look_at.new.out) c.look_at.result _ c.look_at.ensures.part

pub returns-clause-memory : goal.returns-clause-memory
returns-clause-memory g c is = absurd (c.look_at.ensures.memory is)

pub returns-clause-in_room : goal.returns-clause-in_room
returns-clause-in_room g c m room keeps revealed enough =
    let w = c.args.work.now in
    let name = c.args.name.now in
    let placed = placed_of (get w.ledger.objects name) c.in-Some.object (sym (ap (λ (m : Objects). option_map (λ p. p.object) (get m name)) c.catalog.ensures.objects) ∙ sym c.find.ensures ∙ c.in-Some.is) in
    let fine = c.look_at.ensures.fits placed.0 room placed.1 revealed (object_room w m keeps c.args.message.now name c.requires.kind placed.0 placed.1 room enough) in
    (fine, c.look_at.ensures.still fine)
