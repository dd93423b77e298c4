use Rattle.std.proofs.Common.{◌≡◌, ◌≤◌, ◌+◌, ◌-◌, ◌*◌, inl, ℕ, [], false, length, sym, subst, arith}
use Rattle.aea_disk.proofs.Frames.{reads_none}
use Rattle.aea_machine.specs.Machine.{Machine}
use Rattle.aea_machine.specs.Replies.{reply}
use Rattle.aea_session.specs.Stands.{KeepsMachine}
use Rattle.aea_session.specs.Looks.{has_range, IsReplyTo, MayBegin}
use Rattle.aea_session.specs.declared.fault.TakeFault.TheVariants.{Damaged, DiskFault, WriteFault, NoMemory}
use Rattle.aea_session.proofs.LookingPrinted.{replied, replied_part, rose_by, still_by, fits_by, only_fault}
use Rattle.aea_session.proofs.LookingOver.{bad_reply, bad_room, range_room, session_range, session_range_part}
use Rattle.aea_session.proofs.patrol.patrol.Goals as goal

-- ---- the archive does not have the range

pub returns-in_default-clause-replies : goal.returns-in_default-clause-replies
returns-in_default-clause-replies g c =
    let w = c.args.work.now in
    let files = (g.D.Disk.state c.args.disk.now).files in
    let none : has_range w.ledger c.args.first c.args.count ≡ false = c.in_default.ensures in
    replied (KeepsMachine w) (g.O.Sink.state c.args.out.now) (g.O.Sink.state c.put_refusal.new.out) 11 (reply c.args.message.now 11 [])
    (λ (m : Machine). IsReplyTo g.D.Disk.reveals w.ledger m files c.args.message.now) c.put_refusal.result c.put_refusal.ensures.code c.put_refusal.ensures.prints
    (λ m keeps. bad_reply w m keeps c.args.message.now c.args.first c.args.count c.requires.kind g.D.Disk.reveals files none)

pub returns-in_default-clause-part : goal.returns-in_default-clause-part
returns-in_default-clause-part g c =
    let w = c.args.work.now in
    let files = (g.D.Disk.state c.args.disk.now).files in
    let none : has_range w.ledger c.args.first c.args.count ≡ false = c.in_default.ensures in
    replied_part (KeepsMachine w) (g.O.Sink.state c.args.out.now) (g.O.Sink.state c.put_refusal.new.out) 11 (reply c.args.message.now 11 [])
    _ (λ (m : Machine). MayBegin g.D.Disk.reveals w.ledger m files c.args.message.now) c.put_refusal.result c.put_refusal.ensures.prints
    (λ m keeps. inl (11, bad_reply w m keeps c.args.message.now c.args.first c.args.count c.requires.kind g.D.Disk.reveals files none))

pub returns-in_default-clause-damaged : goal.returns-in_default-clause-damaged
returns-in_default-clause-damaged g c b is = only_fault c.put_refusal.result WriteFault (Damaged b) c.put_refusal.ensures.fault (λ e. let h = e in cc) is

pub returns-in_default-clause-memory : goal.returns-in_default-clause-memory
returns-in_default-clause-memory g c is = absurd (only_fault c.put_refusal.result WriteFault NoMemory c.put_refusal.ensures.fault (λ e. let h = e in cc) is)

pub returns-in_default-clause-reads : goal.returns-in_default-clause-reads
returns-in_default-clause-reads g c = reads_none g.D.Disk.reveals _ (g.D.Disk.state c.args.disk.now) (λ is. only_fault c.put_refusal.result WriteFault DiskFault c.put_refusal.ensures.fault (λ e. let h = e in cc) is)

pub returns-in_default-clause-out_kept : goal.returns-in_default-clause-out_kept
returns-in_default-clause-out_kept g c = c.put_refusal.ensures.prints.cause.kept

pub returns-in_default-clause-out_cause : goal.returns-in_default-clause-out_cause
returns-in_default-clause-out_cause g c is = rose_by c.put_refusal.result WriteFault c.put_refusal.ensures.prints.cause is

pub returns-in_default-clause-out_still : goal.returns-in_default-clause-out_still
returns-in_default-clause-out_still g c other = still_by c.put_refusal.result WriteFault c.put_refusal.ensures.fault c.put_refusal.ensures.prints.cause other

pub returns-in_default-clause-in_room : goal.returns-in_default-clause-in_room
returns-in_default-clause-in_room g c m room keeps revealed enough =
    let w = c.args.work.now in
    let text = reply c.args.message.now 11 [] in
    let none : has_range w.ledger c.args.first c.args.count ≡ false = c.in_default.ensures in
    let least : length text ≤ room = bad_room w m keeps c.args.message.now c.args.first c.args.count c.requires.kind room none enough in
    (fits_by {text = text} c.put_refusal.result WriteFault room c.put_refusal.ensures.prints revealed least, c.put_refusal.ensures.prints.steady room revealed least)

-- ---- it has

pub look_over-requires-clause-rising : goal.look_over-requires-clause-rising
look_over-requires-clause-rising g c = let at = c.in-Some.ensures.1 in omega (arith, at)

pub look_over-requires-clause-few : goal.look_over-requires-clause-few
look_over-requires-clause-few g c = let at = c.in-Some.ensures.1 in let few = c.in-Some.ensures.2 in omega (arith, at, few)

pub returns-clause-replies : goal.returns-clause-replies
returns-clause-replies g c =
    let at = c.in-Some.ensures.1 in
    let is : c.in-Some.end - c.args.first ≡ c.args.count = omega (arith, at) in
    session_range g.D.Disk.reveals c.args.work.now (g.D.Disk.state c.args.disk.now).files c.args.message.now c.args.first c.args.count c.requires.kind c.in-Some.ensures.0 (c.in-Some.end - c.args.first) is
    (g.O.Sink.state c.args.out.now) (g.O.Sink.state c.look_over.new.out) c.look_over.result c.look_over.ensures.replies

pub returns-clause-part : goal.returns-clause-part
returns-clause-part g c =
    let at = c.in-Some.ensures.1 in
    let is : c.in-Some.end - c.args.first ≡ c.args.count = omega (arith, at) in
    session_range_part g.D.Disk.reveals c.args.work.now (g.D.Disk.state c.args.disk.now).files c.args.message.now c.args.first c.args.count c.requires.kind c.in-Some.ensures.0 (c.in-Some.end - c.args.first) is
    (g.O.Sink.state c.args.out.now) (g.O.Sink.state c.look_over.new.out) c.look_over.result _ c.look_over.ensures.part

pub returns-clause-in_room : goal.returns-clause-in_room
returns-clause-in_room g c m room keeps revealed enough =
    let at = c.in-Some.ensures.1 in
    let is : c.in-Some.end - c.args.first ≡ c.args.count = omega (arith, at) in
    let least : 6 + 4 * (c.in-Some.end - c.args.first) ≤ room =
    subst (λ (n : ℕ). 6 + 4 * n ≤ room) (sym is) (range_room c.args.work.now m keeps c.args.message.now c.args.first c.args.count c.requires.kind room c.in-Some.ensures.0 enough) in
    let fine = c.look_over.ensures.fits room revealed least in
    (fine, c.look_over.ensures.still fine)
