use Rattle.std.proofs.Common.{◌-◌, inl, ℕ, length-take, take, refl, sym, subst, arith}
use Rattle.std.specs.Prelude.{IsErr}
use Rattle.aea_disk.proofs.Frames.{ok_fine, reads_none, reads_as}
use Rattle.aea_session.specs.declared.fault.TakeFault.TheVariants.{Damaged, DiskFault, WriteFault, NoMemory}
use Rattle.aea_machine.specs.Replies.{reply, numbers_body}
use Rattle.aea_session.specs.Looks.{IsReplyOfRange}
use Rattle.aea_session.proofs.LookingPrinted.{replied_alone, part_alone, rose_by, still_by, fits_by, only_fault}
use Rattle.aea_session.proofs.LookingOver.{range_reply, length-range_reply}
use Rattle.aea_session.proofs.patrol.look_over.Goals as goal

pub returns-in_default-clause-reads : goal.returns-in_default-clause-reads
returns-in_default-clause-reads g c = reads_none g.D.Disk.reveals _ (g.D.Disk.state c.args.disk.now) (λ is. let e = is in cc)

pub returns-in_default-clause-part : goal.returns-in_default-clause-part
returns-in_default-clause-part g c = inl refl

pub returns-clause-part : goal.returns-clause-part
returns-clause-part g c = inl refl

pub returns-clause-reads : goal.returns-clause-reads
returns-clause-reads g c =
    reads_as g.D.Disk.reveals (IsErr c.find_damaged.result) _ (g.D.Disk.state c.args.disk.now) (g.D.Disk.state c.find_damaged.new.disk) (λ is. subst IsErr (sym c.in-Err.is) refl) (λ _. refl) c.find_damaged.ensures.reads

pub returns-in-Ok-find_damaged-clause-replies : goal.returns-in-Ok-find_damaged-clause-replies
returns-in-Ok-find_damaged-clause-replies g c =
    let v = c.args.ledger.now in
    let reveals = g.D.Disk.reveals in
    let files = (g.D.Disk.state c.args.disk.now).files in
    let n = c.args.end - c.args.first in
    let xs = take c.in-Ok-find_damaged.found c.find_damaged.new.numbers in
    let are = c.in-Ok-find_damaged.ensures.damaged in
    replied_alone (g.O.Sink.state c.args.out.now) (g.O.Sink.state c.put_range.new.out) 0 (reply c.args.message.now 0 (numbers_body xs))
    (IsReplyOfRange reveals v files c.args.message.now c.args.first n) c.put_range.result c.put_range.ensures.code c.put_range.ensures.prints
    (range_reply reveals v files c.args.message.now c.args.first n xs are)

pub returns-in-Ok-find_damaged-clause-part : goal.returns-in-Ok-find_damaged-clause-part
returns-in-Ok-find_damaged-clause-part g c =
    let v = c.args.ledger.now in
    let reveals = g.D.Disk.reveals in
    let files = (g.D.Disk.state c.args.disk.now).files in
    let n = c.args.end - c.args.first in
    let xs = take c.in-Ok-find_damaged.found c.find_damaged.new.numbers in
    let are = c.in-Ok-find_damaged.ensures.damaged in
    part_alone (g.O.Sink.state c.args.out.now) (g.O.Sink.state c.put_range.new.out) 0 (reply c.args.message.now 0 (numbers_body xs))
    _ (λ bytes. (code : ℕ) × IsReplyOfRange reveals v files c.args.message.now c.args.first n code bytes) c.put_range.result c.put_range.ensures.prints
    (0, range_reply reveals v files c.args.message.now c.args.first n xs are)

pub returns-in-Ok-find_damaged-clause-damaged : goal.returns-in-Ok-find_damaged-clause-damaged
returns-in-Ok-find_damaged-clause-damaged g c b is = only_fault c.put_range.result WriteFault (Damaged b) c.put_range.ensures.fault (λ e. let h = e in cc) is

pub returns-in-Ok-find_damaged-clause-memory : goal.returns-in-Ok-find_damaged-clause-memory
returns-in-Ok-find_damaged-clause-memory g c is = absurd (only_fault c.put_range.result WriteFault NoMemory c.put_range.ensures.fault (λ e. let h = e in cc) is)

pub returns-in-Ok-find_damaged-clause-reads : goal.returns-in-Ok-find_damaged-clause-reads
returns-in-Ok-find_damaged-clause-reads g c =
    reads_as g.D.Disk.reveals (IsErr c.find_damaged.result) _ (g.D.Disk.state c.args.disk.now) (g.D.Disk.state c.find_damaged.new.disk)
    (λ is. absurd (only_fault c.put_range.result WriteFault DiskFault c.put_range.ensures.fault (λ e. let h = e in cc) is))
    (λ is. absurd (ok_fine c.in-Ok-find_damaged.is is)) c.find_damaged.ensures.reads

pub returns-in-Ok-find_damaged-clause-kept : goal.returns-in-Ok-find_damaged-clause-kept
returns-in-Ok-find_damaged-clause-kept g c = c.put_range.ensures.prints.cause.kept

pub returns-in-Ok-find_damaged-clause-cause : goal.returns-in-Ok-find_damaged-clause-cause
returns-in-Ok-find_damaged-clause-cause g c is = rose_by c.put_range.result WriteFault c.put_range.ensures.prints.cause is

pub returns-in-Ok-find_damaged-clause-still : goal.returns-in-Ok-find_damaged-clause-still
returns-in-Ok-find_damaged-clause-still g c other = still_by c.put_range.result WriteFault c.put_range.ensures.fault c.put_range.ensures.prints.cause other

pub returns-in-Ok-find_damaged-clause-fits : goal.returns-in-Ok-find_damaged-clause-fits
returns-in-Ok-find_damaged-clause-fits g c room revealed enough =
    let xs = take c.in-Ok-find_damaged.found c.find_damaged.new.numbers in
    let text = reply c.args.message.now 0 (numbers_body xs) in
    let all = length-range_reply c.args.message.now xs in
    let taken = length-take c.in-Ok-find_damaged.found c.find_damaged.new.numbers in
    let most = c.in-Ok-find_damaged.ensures.most in
    fits_by {text = text} c.put_range.result WriteFault room c.put_range.ensures.prints revealed (omega (arith, all, taken, most, enough))
