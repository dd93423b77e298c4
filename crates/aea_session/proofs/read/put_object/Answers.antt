use Rattle.std.proofs.Common.{◌≡◌, Err, ◌∙◌, ap}
use Rattle.std.specs.FinMap.{get}
use Rattle.std.specs.Int.{w64, to_be_bytes}
use Rattle.aea_disk.proofs.Frames.{reads_none, reads_as}
use Rattle.aea_archive.specs.Objects.{data_under}
use Rattle.aea_fetch.specs.Payloads.{IsPayload}
use Rattle.aea_fetch.specs.declared.fault.GetFault.TheVariants as get_fault
use Rattle.aea_fetch.proofs.Copies.{cut_as}
use Rattle.aea_machine.specs.Replies.{reply}
use Rattle.aea_session.specs.declared.fault.TakeFault.TheVariants.{Damaged, DiskFault, WriteFault, NoMemory}
use Rattle.aea_session.proofs.LookingAt.{cut_head, sent_behind, cut_behind}
use Rattle.aea_session.proofs.read.put_object.Goals as goal

pub returns-in-Err-clause-cut : goal.returns-in-Err-clause-cut
returns-in-Err-clause-cut g c =
    let v = c.args.ledger.now in
    cut_head (IsPayload g.D.Disk.reveals v.shape v.digests (g.D.Disk.state c.args.disk.now).files) (data_under (get v.objects c.args.name.now)) c.args.size (reply c.args.message.now 0 (to_be_bytes w64 c.args.size))
    (g.O.Sink.state c.args.out.now) (g.O.Sink.state c.send_head.new.out) _ c.in-Err.ensures.prints

pub returns-in-Err-clause-reads : goal.returns-in-Err-clause-reads
returns-in-Err-clause-reads g c = reads_none g.D.Disk.reveals _ (g.D.Disk.state c.args.disk.now) (λ is. let e = is in cc)

pub returns-in-Ok-send_blocks-clause-sent : goal.returns-in-Ok-send_blocks-clause-sent
returns-in-Ok-send_blocks-clause-sent g c =
    let v = c.args.ledger.now in
    sent_behind (IsPayload g.D.Disk.reveals v.shape v.digests (g.D.Disk.state c.args.disk.now).files) (data_under (get v.objects c.args.name.now)) c.args.size (reply c.args.message.now 0 (to_be_bytes w64 c.args.size))
    (g.O.Sink.state c.args.out.now) (g.O.Sink.state c.send_head.new.out) (g.O.Sink.state c.send_blocks.new.out) c.in-Ok.ensures.prints c.in-Ok-send_blocks.ensures.copied

pub returns-in-Ok-send_blocks-clause-still : goal.returns-in-Ok-send_blocks-clause-still
returns-in-Ok-send_blocks-clause-still g c other = c.send_blocks.ensures.still (λ e. let h = e in cc) ∙ c.in-Ok.ensures.prints.cause.still

pub returns-in-Ok-send_blocks-clause-reads : goal.returns-in-Ok-send_blocks-clause-reads
returns-in-Ok-send_blocks-clause-reads g c =
    reads_as g.D.Disk.reveals (c.send_blocks.result ≡ Err get_fault.DiskFault) _ (g.D.Disk.state c.args.disk.now) (g.D.Disk.state c.send_blocks.new.disk) (λ is. let e = is in cc) (λ is. let e = is in cc) c.send_blocks.ensures.reads

pub returns-in-Err-send_blocks-clause-cut : goal.returns-in-Err-send_blocks-clause-cut
returns-in-Err-send_blocks-clause-cut g c =
    let v = c.args.ledger.now in
    let has = IsPayload g.D.Disk.reveals v.shape v.digests (g.D.Disk.state c.args.disk.now).files in
    let blocks = data_under (get v.objects c.args.name.now) in
    let head = reply c.args.message.now 0 (to_be_bytes w64 c.args.size) in
    let before = g.O.Sink.state c.args.out.now in
    let later = g.O.Sink.state c.send_blocks.new.out in
    let write = c.in-Err-send_blocks.fault ≡ get_fault.WriteFault in
    cut_as has has (λ b p is. is) blocks c.args.size before later head write (c.pass_fault.result ≡ WriteFault) c.pass_fault.ensures.output.0
    (cut_behind has blocks c.args.size head before (g.O.Sink.state c.send_head.new.out) later c.in-Ok.ensures.prints write c.in-Err-send_blocks.ensures.broken.cut)

pub returns-in-Err-send_blocks-clause-damaged : goal.returns-in-Err-send_blocks-clause-damaged
returns-in-Err-send_blocks-clause-damaged g c b is =
    let at : c.pass_fault.result ≡ Damaged b = (let h = is in cc) in
    c.in-Err-send_blocks.ensures.broken.damaged b (c.pass_fault.ensures.damaged b at)

pub returns-in-Err-send_blocks-clause-memory : goal.returns-in-Err-send_blocks-clause-memory
returns-in-Err-send_blocks-clause-memory g c is =
    let at : c.pass_fault.result ≡ NoMemory = (let h = is in cc) in
    c.pass_fault.ensures.memory at

pub returns-in-Err-send_blocks-clause-still : goal.returns-in-Err-send_blocks-clause-still
returns-in-Err-send_blocks-clause-still g c other =
    c.send_blocks.ensures.still (λ e.
    let at : c.in-Err-send_blocks.fault ≡ get_fault.WriteFault = (let h = e in cc) in
    other (ap Err (c.pass_fault.ensures.output.1 at)))
    ∙ c.in-Ok.ensures.prints.cause.still

pub returns-in-Err-send_blocks-clause-reads : goal.returns-in-Err-send_blocks-clause-reads
returns-in-Err-send_blocks-clause-reads g c =
    reads_as g.D.Disk.reveals (c.send_blocks.result ≡ Err get_fault.DiskFault) _ (g.D.Disk.state c.args.disk.now) (g.D.Disk.state c.send_blocks.new.disk)
    (λ is. let at : c.pass_fault.result ≡ DiskFault = (let h = is in cc) in c.in-Err-send_blocks.is ∙ ap Err (c.pass_fault.ensures.disk.0 at))
    (λ is. let at : c.in-Err-send_blocks.fault ≡ get_fault.DiskFault = (let h = is in cc) in ap Err (c.pass_fault.ensures.disk.1 at))
    c.send_blocks.ensures.reads
