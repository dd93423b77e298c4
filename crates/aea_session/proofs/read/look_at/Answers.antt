use Rattle.std.proofs.Common.{◌≡◌, inl, Option, Some, Err, length, refl, sym, ◌∙◌, ap, subst, arith}
use Rattle.std.specs.Prelude.{IsErr}
use Rattle.std.specs.FinMap.{get}
use Rattle.std.specs.Int.{w32, w64, to_be_bytes}
use Rattle.aea_catalog.specs.Catalogs.{Placed, Objects}
use Rattle.aea_disk.proofs.Frames.{ok_fine, reads_both, reads_as}
use Rattle.aea_lattice.specs.declared.blocks.BlockId.{BlockId}
use Rattle.aea_archive.specs.Objects.{data_under}
use Rattle.aea_fetch.specs.Gets.{IsFound}
use Rattle.aea_fetch.specs.Payloads.{IsPayload}
use Rattle.aea_machine.specs.Replies.{reply, damaged_code}
use Rattle.aea_session.specs.Looks.{IsReplyOfObject, MayBeginObject}
use Rattle.aea_session.specs.declared.fault.TakeFault.TheVariants.{Damaged, DiskFault, WriteFault, NoMemory}
use Rattle.aea_session.proofs.LookingPrinted.{replied, replied_part, rose_by, still_by, fits_by, only_fault}
use Rattle.aea_session.proofs.LookingAt.{damaged_reply, none_damaged, object_replies, object_parts, object_in_room, object_rose, object_kept}
use Rattle.aea_session.proofs.read.look_at.Goals as goal

-- ---- all data blocks are intact

pub returns-in-Ok-None-clause-replies : goal.returns-in-Ok-None-clause-replies
returns-in-Ok-None-clause-replies g c =
    let v = c.args.ledger.now in
    let name = c.args.name.now in
    let reveals = g.D.Disk.reveals in
    let old = g.D.Disk.state c.args.disk.now in
    let o = get v.objects name in
    object_replies reveals v old.files (g.D.Disk.state c.check_object.new.disk).files c.check_object.ensures.reads.contents c.args.message.now o c.args.size c.requires.long
    (subst (λ (r : Option BlockId). IsFound reveals v.shape v.digests old.files (data_under o) r) c.in-Ok-None.field-0-is c.in-Ok-None.ensures.found)
    (g.O.Sink.state c.args.out.now) (g.O.Sink.state c.put_object.new.out) c.put_object.result
    (λ p is. c.catalog-catalog.ensures.within name p (ap (λ (m : Objects). get m name) c.catalog-catalog.ensures.objects ∙ is))
    c.put_object.ensures.code c.put_object.ensures.sent

pub returns-in-Ok-None-clause-part : goal.returns-in-Ok-None-clause-part
returns-in-Ok-None-clause-part g c =
    let v = c.args.ledger.now in
    let reveals = g.D.Disk.reveals in
    let old = g.D.Disk.state c.args.disk.now in
    let o = get v.objects c.args.name.now in
    object_parts reveals v old.files (g.D.Disk.state c.check_object.new.disk).files c.check_object.ensures.reads.contents c.args.message.now o c.args.size c.requires.long
    (subst (λ (r : Option BlockId). IsFound reveals v.shape v.digests old.files (data_under o) r) c.in-Ok-None.field-0-is c.in-Ok-None.ensures.found)
    (g.O.Sink.state c.args.out.now) (g.O.Sink.state c.put_object.new.out) c.put_object.result _ c.put_object.ensures.cut

pub returns-in-Ok-None-clause-damaged : goal.returns-in-Ok-None-clause-damaged
returns-in-Ok-None-clause-damaged g c b is =
    let v = c.args.ledger.now in
    let reveals = g.D.Disk.reveals in
    let old = g.D.Disk.state c.args.disk.now in
    let o = get v.objects c.args.name.now in
    none_damaged reveals v old.files (g.D.Disk.state c.check_object.new.disk).files o b c.check_object.ensures.reads.contents
    (subst (λ (r : Option BlockId). IsFound reveals v.shape v.digests old.files (data_under o) r) c.in-Ok-None.field-0-is c.in-Ok-None.ensures.found)
    (c.put_object.ensures.damaged b is)

pub returns-in-Ok-None-clause-reads : goal.returns-in-Ok-None-clause-reads
returns-in-Ok-None-clause-reads g c =
    reads_both g.D.Disk.reveals (IsErr c.check_object.result) (c.put_object.result ≡ Err DiskFault) (g.D.Disk.state c.args.disk.now) (g.D.Disk.state c.check_object.new.disk) (g.D.Disk.state c.put_object.new.disk)
    (ok_fine c.in-Ok-None.is) c.check_object.ensures.reads c.put_object.ensures.reads

pub returns-in-Ok-None-clause-kept : goal.returns-in-Ok-None-clause-kept
returns-in-Ok-None-clause-kept g c =
    let v = c.args.ledger.now in
    object_kept (IsPayload g.D.Disk.reveals v.shape v.digests (g.D.Disk.state c.check_object.new.disk).files) (data_under (get v.objects c.args.name.now)) c.args.size (reply c.args.message.now 0 (to_be_bytes w64 c.args.size))
    (g.O.Sink.state c.args.out.now) (g.O.Sink.state c.put_object.new.out) c.put_object.result c.put_object.ensures.cut c.put_object.ensures.still

pub returns-in-Ok-None-clause-cause : goal.returns-in-Ok-None-clause-cause
returns-in-Ok-None-clause-cause g c is =
    let v = c.args.ledger.now in
    object_rose (IsPayload g.D.Disk.reveals v.shape v.digests (g.D.Disk.state c.check_object.new.disk).files) (data_under (get v.objects c.args.name.now)) c.args.size (reply c.args.message.now 0 (to_be_bytes w64 c.args.size))
    (g.O.Sink.state c.args.out.now) (g.O.Sink.state c.put_object.new.out) c.put_object.result c.put_object.ensures.cut is

pub returns-in-Ok-None-clause-fits : goal.returns-in-Ok-None-clause-fits
returns-in-Ok-None-clause-fits g c p room is revealed enough =
    let v = c.args.ledger.now in
    let reveals = g.D.Disk.reveals in
    let old = g.D.Disk.state c.args.disk.now in
    let o = get v.objects c.args.name.now in
    object_in_room reveals v old.files (g.D.Disk.state c.check_object.new.disk).files c.check_object.ensures.reads.contents c.args.message.now o c.args.size c.requires.long
    (subst (λ (r : Option BlockId). IsFound reveals v.shape v.digests old.files (data_under o) r) c.in-Ok-None.field-0-is c.in-Ok-None.ensures.found)
    (g.O.Sink.state c.args.out.now) (g.O.Sink.state c.put_object.new.out) c.put_object.result c.put_object.ensures.cut p room is revealed enough

-- ---- one is damaged

pub returns-in-Ok-Some-clause-replies : goal.returns-in-Ok-Some-clause-replies
returns-in-Ok-Some-clause-replies g c =
    let v = c.args.ledger.now in
    let reveals = g.D.Disk.reveals in
    let old = g.D.Disk.state c.args.disk.now in
    let o = get v.objects c.args.name.now in
    replied (λ (p : Placed). o ≡ Some p) (g.O.Sink.state c.args.out.now) (g.O.Sink.state c.put_damaged.new.out) damaged_code (reply c.args.message.now damaged_code (to_be_bytes w32 c.data_number.result))
    (λ (p : Placed). IsReplyOfObject reveals v old.files c.args.message.now p) c.put_damaged.result c.put_damaged.ensures.code c.put_damaged.ensures.prints
    (λ p is. damaged_reply reveals v old.files c.args.message.now o p is c.in-Ok-Some.block c.data_number.result c.data_number.ensures
    (subst (λ (r : Option BlockId). IsFound reveals v.shape v.digests old.files (data_under o) r) c.in-Ok-Some.field-0-is c.in-Ok-Some.ensures.found))

pub returns-in-Ok-Some-clause-part : goal.returns-in-Ok-Some-clause-part
returns-in-Ok-Some-clause-part g c =
    let v = c.args.ledger.now in
    let reveals = g.D.Disk.reveals in
    let old = g.D.Disk.state c.args.disk.now in
    let o = get v.objects c.args.name.now in
    replied_part (λ (p : Placed). o ≡ Some p) (g.O.Sink.state c.args.out.now) (g.O.Sink.state c.put_damaged.new.out) damaged_code (reply c.args.message.now damaged_code (to_be_bytes w32 c.data_number.result))
    _ (λ (p : Placed). MayBeginObject reveals v old.files c.args.message.now p) c.put_damaged.result c.put_damaged.ensures.prints
    (λ p is. inl (
      damaged_code,
      damaged_reply reveals v old.files c.args.message.now o p is c.in-Ok-Some.block c.data_number.result c.data_number.ensures
          (subst (λ (r : Option BlockId). IsFound reveals v.shape v.digests old.files (data_under o) r) c.in-Ok-Some.field-0-is c.in-Ok-Some.ensures.found),
    ))

pub data_number-requires : goal.data_number-requires
data_number-requires g c =
    let v = c.args.ledger.now in
    let o = get v.objects c.args.name.now in
    (subst (λ (r : Option BlockId). IsFound g.D.Disk.reveals v.shape v.digests (g.D.Disk.state c.args.disk.now).files (data_under o) r) c.in-Ok-Some.field-0-is c.in-Ok-Some.ensures.found).0

pub returns-in-Ok-Some-clause-damaged : goal.returns-in-Ok-Some-clause-damaged
returns-in-Ok-Some-clause-damaged g c b is = absurd (only_fault c.put_damaged.result WriteFault (Damaged b) c.put_damaged.ensures.fault (λ e. let h = e in cc) is)

pub returns-in-Ok-Some-clause-memory : goal.returns-in-Ok-Some-clause-memory
returns-in-Ok-Some-clause-memory g c is = only_fault c.put_damaged.result WriteFault NoMemory c.put_damaged.ensures.fault (λ e. let h = e in cc) is

pub returns-in-Ok-Some-clause-reads : goal.returns-in-Ok-Some-clause-reads
returns-in-Ok-Some-clause-reads g c =
    reads_as g.D.Disk.reveals (IsErr c.check_object.result) _ (g.D.Disk.state c.args.disk.now) (g.D.Disk.state c.check_object.new.disk)
    (λ is. absurd (only_fault c.put_damaged.result WriteFault DiskFault c.put_damaged.ensures.fault (λ e. let h = e in cc) is))
    (λ is. absurd (ok_fine c.in-Ok-Some.is is)) c.check_object.ensures.reads

pub returns-in-Ok-Some-clause-kept : goal.returns-in-Ok-Some-clause-kept
returns-in-Ok-Some-clause-kept g c = c.put_damaged.ensures.prints.cause.kept

pub returns-in-Ok-Some-clause-cause : goal.returns-in-Ok-Some-clause-cause
returns-in-Ok-Some-clause-cause g c is = rose_by c.put_damaged.result WriteFault c.put_damaged.ensures.prints.cause is

pub returns-in-Ok-Some-clause-still : goal.returns-in-Ok-Some-clause-still
returns-in-Ok-Some-clause-still g c other = still_by c.put_damaged.result WriteFault c.put_damaged.ensures.fault c.put_damaged.ensures.prints.cause other

pub returns-in-Ok-Some-clause-fits : goal.returns-in-Ok-Some-clause-fits
returns-in-Ok-Some-clause-fits g c p room is revealed enough =
    let text = reply c.args.message.now damaged_code (to_be_bytes w32 c.data_number.result) in
    let six : length text ≡ 6 = refl in
    fits_by {text = text} c.put_damaged.result WriteFault room c.put_damaged.ensures.prints revealed (omega (arith, six, enough))

-- ---- the disk failed

pub returns-in-Err-clause-reads : goal.returns-in-Err-clause-reads
returns-in-Err-clause-reads g c =
    reads_as g.D.Disk.reveals (IsErr c.check_object.result) _ (g.D.Disk.state c.args.disk.now) (g.D.Disk.state c.check_object.new.disk) (λ is. subst IsErr (sym c.in-Err.is) refl) (λ _. refl) c.check_object.ensures.reads

pub returns-in-Err-clause-part : goal.returns-in-Err-clause-part
returns-in-Err-clause-part g c p is = inl refl
