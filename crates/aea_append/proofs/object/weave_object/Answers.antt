use Rattle.std.proofs.Common.{◌≡◌, ⊎_elim, inl, inr, ℕ, List, Err, refl, sym, ◌∙◌, ap}
use Rattle.aea_disk.proofs.Frames.{ready_later, reads_writes, reads_then_writes, writes_as}
use Rattle.aea_shelf.proofs.Runs.{padded_kept, padded_both}
use Rattle.aea_records.specs.Format.{limit_when}
use Rattle.aea_archive.specs.Blocks.{IsBlockIn}
use Rattle.aea_archive.specs.Cells.{IsNoSite, ChangesArchive, FitsRows}
use Rattle.aea_archive.proofs.Cells.{changes_none, rows_roomy, rows_later}
use Rattle.aea_append.specs.declared.fault.PutFault.TheVariants.{DiskFault, HeadDamaged, Full, ReadFault}
use Rattle.aea_append.specs.declared.heads.HeadFault.TheVariants as loading
use Rattle.aea_append.proofs.Faults.{fault_is, fault_as, ok_no_fault, met_fault}
use Rattle.aea_append.specs.Taking.{most_of, room_left}
use Rattle.aea_append.proofs.Takings.{counts_none}
use Rattle.aea_archive.proofs.Writes.{cells_none}
use Rattle.aea_append.proofs.Space.{none_damaged}
use Rattle.aea_append.proofs.object.weave_object.Goals as goal

pub returns-in-Err-clause-writes : goal.returns-in-Err-clause-writes
returns-in-Err-clause-writes g c =
    cells_none g.D.Disk.reveals _ c.args.ledger.now.shape (limit_when c.args.ledger.now.raised) (IsBlockIn c.args.ledger.now.shape c.args.ledger.now.lattice.n) (g.D.Disk.state c.args.disk.now) (λ is. absurd (let e = is in cc))

pub returns-in-Err-HeadDamaged-clause-writes : goal.returns-in-Err-HeadDamaged-clause-writes
returns-in-Err-HeadDamaged-clause-writes g c =
    let v = c.args.ledger.now in
    let old = g.D.Disk.state c.args.disk.now in
    let mid = g.D.Disk.state c.next_heads.new.disk in
    let keep = IsBlockIn c.args.ledger.now.shape c.args.ledger.now.lattice.n in
    writes_as g.D.Disk.reveals _ (FitsRows v.shape (limit_when v.raised) old) (c.next_heads.result ≡ Err loading.DiskFault) _ (ChangesArchive v.shape (limit_when v.raised) (IsBlockIn v.shape v.lattice.n) (IsNoSite v.shape)) old mid (λ is. absurd (let e = is in cc)) (λ is. absurd (let e = met_fault c.in-Err-HeadDamaged.is c.in-Err-HeadDamaged.field-0-is is in cc))
    (reads_writes g.D.Disk.reveals _ (FitsRows v.shape (limit_when v.raised) old) (c.next_heads.result ≡ Err loading.DiskFault) (ChangesArchive v.shape (limit_when v.raised) (IsBlockIn v.shape v.lattice.n) (IsNoSite v.shape)) old mid (λ is. is)
    (λ room. rows_roomy c.homes_are_on_its_sites.ensures v.shape (limit_when v.raised) old room) (λ d. changes_none v.shape (limit_when v.raised) (IsBlockIn v.shape v.lattice.n) (IsNoSite v.shape) d) c.next_heads.ensures.reads)

pub returns-in-Err-DiskFault-clause-writes : goal.returns-in-Err-DiskFault-clause-writes
returns-in-Err-DiskFault-clause-writes g c =
    let v = c.args.ledger.now in
    let old = g.D.Disk.state c.args.disk.now in
    let mid = g.D.Disk.state c.next_heads.new.disk in
    let keep = IsBlockIn c.args.ledger.now.shape c.args.ledger.now.lattice.n in
    writes_as g.D.Disk.reveals _ (FitsRows v.shape (limit_when v.raised) old) (c.next_heads.result ≡ Err loading.DiskFault) _ (ChangesArchive v.shape (limit_when v.raised) (IsBlockIn v.shape v.lattice.n) (IsNoSite v.shape)) old mid (λ is. c.in-Err-DiskFault.is ∙ ap Err c.in-Err-DiskFault.field-0-is) (λ is. cc)
    (reads_writes g.D.Disk.reveals _ (FitsRows v.shape (limit_when v.raised) old) (c.next_heads.result ≡ Err loading.DiskFault) (ChangesArchive v.shape (limit_when v.raised) (IsBlockIn v.shape v.lattice.n) (IsNoSite v.shape)) old mid (λ is. is)
    (λ room. rows_roomy c.homes_are_on_its_sites.ensures v.shape (limit_when v.raised) old room) (λ d. changes_none v.shape (limit_when v.raised) (IsBlockIn v.shape v.lattice.n) (IsNoSite v.shape) d) c.next_heads.ensures.reads)

pub returns-in-Err-NoMemory-clause-writes : goal.returns-in-Err-NoMemory-clause-writes
returns-in-Err-NoMemory-clause-writes g c =
    let v = c.args.ledger.now in
    let old = g.D.Disk.state c.args.disk.now in
    let mid = g.D.Disk.state c.next_heads.new.disk in
    let keep = IsBlockIn c.args.ledger.now.shape c.args.ledger.now.lattice.n in
    writes_as g.D.Disk.reveals _ (FitsRows v.shape (limit_when v.raised) old) (c.next_heads.result ≡ Err loading.DiskFault) _ (ChangesArchive v.shape (limit_when v.raised) (IsBlockIn v.shape v.lattice.n) (IsNoSite v.shape)) old mid (λ is. absurd (let e = is in cc)) (λ is. absurd (let e = met_fault c.in-Err-NoMemory.is c.in-Err-NoMemory.field-0-is is in cc))
    (reads_writes g.D.Disk.reveals _ (FitsRows v.shape (limit_when v.raised) old) (c.next_heads.result ≡ Err loading.DiskFault) (ChangesArchive v.shape (limit_when v.raised) (IsBlockIn v.shape v.lattice.n) (IsNoSite v.shape)) old mid (λ is. is)
    (λ room. rows_roomy c.homes_are_on_its_sites.ensures v.shape (limit_when v.raised) old room) (λ d. changes_none v.shape (limit_when v.raised) (IsBlockIn v.shape v.lattice.n) (IsNoSite v.shape) d) c.next_heads.ensures.reads)

pub returns-in-Ok-take_object-clause-writes : goal.returns-in-Ok-take_object-clause-writes
returns-in-Ok-take_object-clause-writes g c =
    let v = c.args.ledger.now in
    let old = g.D.Disk.state c.args.disk.now in
    let mid = g.D.Disk.state c.next_heads.new.disk in
    let keep = IsBlockIn c.args.ledger.now.shape c.args.ledger.now.lattice.n in
    let new = g.D.Disk.state c.take_object.new.disk in
    writes_as g.D.Disk.reveals _ (FitsRows v.shape (limit_when v.raised) old) (c.take_object.result ≡ Err DiskFault) _ (ChangesArchive v.shape (limit_when v.raised) (IsBlockIn v.shape v.lattice.n) (IsNoSite v.shape)) old new (λ is. absurd (let e = is in cc)) (λ is. absurd (ok_no_fault c.in-Ok-take_object.is is))
    (reads_then_writes g.D.Disk.reveals _ _ (FitsRows v.shape (limit_when v.raised) old) (FitsRows v.shape (limit_when v.raised) mid) (c.next_heads.result ≡ Err loading.DiskFault) (c.take_object.result ≡ Err DiskFault) (ChangesArchive v.shape (limit_when v.raised) (IsBlockIn v.shape v.lattice.n) (IsNoSite v.shape)) old mid new (ok_no_fault c.in-Ok-next_heads.is)
    (λ d. changes_none v.shape (limit_when v.raised) (IsBlockIn v.shape v.lattice.n) (IsNoSite v.shape) d) (λ is. is) (λ _ is same goes. ready_later old mid same goes is)
    (λ room. rows_roomy c.homes_are_on_its_sites.ensures v.shape (limit_when v.raised) old room) (λ _ room same time. rows_later v.shape (limit_when v.raised) old mid (ap (λ (f : ℕ → List ℕ). f 0) same) time room) c.next_heads.ensures.reads c.take_object.ensures.writes)

pub returns-clause-writes : goal.returns-clause-writes
returns-clause-writes g c =
    let v = c.args.ledger.now in
    let old = g.D.Disk.state c.args.disk.now in
    let mid = g.D.Disk.state c.next_heads.new.disk in
    let keep = IsBlockIn c.args.ledger.now.shape c.args.ledger.now.lattice.n in
    let new = g.D.Disk.state c.take_object.new.disk in
    writes_as g.D.Disk.reveals _ (FitsRows v.shape (limit_when v.raised) old) (c.take_object.result ≡ Err DiskFault) _ (ChangesArchive v.shape (limit_when v.raised) (IsBlockIn v.shape v.lattice.n) (IsNoSite v.shape)) old new (λ is. c.in-Err-take_object.is ∙ fault_as c.in-Err-take_object.fault DiskFault is) (λ is. cc)
    (reads_then_writes g.D.Disk.reveals _ _ (FitsRows v.shape (limit_when v.raised) old) (FitsRows v.shape (limit_when v.raised) mid) (c.next_heads.result ≡ Err loading.DiskFault) (c.take_object.result ≡ Err DiskFault) (ChangesArchive v.shape (limit_when v.raised) (IsBlockIn v.shape v.lattice.n) (IsNoSite v.shape)) old mid new (ok_no_fault c.in-Ok-next_heads.is)
    (λ d. changes_none v.shape (limit_when v.raised) (IsBlockIn v.shape v.lattice.n) (IsNoSite v.shape) d) (λ is. is) (λ _ is same goes. ready_later old mid same goes is)
    (λ room. rows_roomy c.homes_are_on_its_sites.ensures v.shape (limit_when v.raised) old room) (λ _ room same time. rows_later v.shape (limit_when v.raised) old mid (ap (λ (f : ℕ → List ℕ). f 0) same) time room) c.next_heads.ensures.reads c.take_object.ensures.writes)

pub returns-clause-head : goal.returns-clause-head
returns-clause-head g c b is =
    let same = fault_is c.in-Err-take_object.fault (HeadDamaged b) is in
    absurd (⊎_elim {C = ⊥}
    (λ full. (let e = full.1 in cc))
    (λ broken. ⊎_elim {C = ⊥} (λ read. cc) (λ stop. ⊎_elim {C = ⊥} (λ disk. cc) (λ memory. cc) stop) broken)
    c.in-Err-take_object.ensures.faults)

pub returns-clause-faults : goal.returns-clause-faults
returns-clause-faults g c = inr c.in-Err-take_object.ensures.faults

pub returns-clause-padded : goal.returns-clause-padded
returns-clause-padded g c fine revealed =
    let v = c.args.ledger.now in
    let old = g.D.Disk.state c.args.disk.now in
    let mid = g.D.Disk.state c.next_heads.new.disk in
    let new = g.D.Disk.state c.take_object.new.disk in
    padded_both v.shape (IsBlockIn v.shape v.lattice.n) old.files mid.files new.files (padded_kept v.shape (IsBlockIn v.shape v.lattice.n) old.files mid.files (c.next_heads.ensures.reads.contents revealed))
    (c.take_object.ensures.padded (λ bad. fine (fault_as c.in-Err-take_object.fault DiskFault (sym c.in-Err-take_object.is ∙ bad))) revealed)

pub returns-in-Err-clause-counted : goal.returns-in-Err-clause-counted
returns-in-Err-clause-counted g c = counts_none (g.S.Source.state c.args.source.now).left c.args.at.now (most_of c.args.want (room_left c.args.ledger.now))

pub returns-in-Err-HeadDamaged-clause-counted : goal.returns-in-Err-HeadDamaged-clause-counted
returns-in-Err-HeadDamaged-clause-counted g c = counts_none (g.S.Source.state c.args.source.now).left c.args.at.now (most_of c.args.want (room_left c.args.ledger.now))

pub returns-in-Err-DiskFault-clause-counted : goal.returns-in-Err-DiskFault-clause-counted
returns-in-Err-DiskFault-clause-counted g c = counts_none (g.S.Source.state c.args.source.now).left c.args.at.now (most_of c.args.want (room_left c.args.ledger.now))

pub returns-in-Err-NoMemory-clause-counted : goal.returns-in-Err-NoMemory-clause-counted
returns-in-Err-NoMemory-clause-counted g c = counts_none (g.S.Source.state c.args.source.now).left c.args.at.now (most_of c.args.want (room_left c.args.ledger.now))

pub returns-in-Ok-take_object-clause-over : goal.returns-in-Ok-take_object-clause-over
returns-in-Ok-take_object-clause-over g c n is past = absurd (let e = c.take_object.ensures.over n is past in let f = c.in-Ok-take_object.is in cc)

pub returns-clause-over : goal.returns-clause-over
returns-clause-over g c n is past = inl (sym c.in-Err-take_object.is ∙ c.take_object.ensures.over n is past)

pub returns-clause-full_leaves : goal.returns-clause-full_leaves
returns-clause-full_leaves g c nodes n is some =
    c.take_object.ensures.full_leaves nodes n (c.in-Err-take_object.is ∙ fault_as c.in-Err-take_object.fault (Full nodes) is) some

pub returns-clause-short : goal.returns-clause-short
returns-clause-short g c n some is =
    c.take_object.ensures.short n some (c.in-Err-take_object.is ∙ fault_as c.in-Err-take_object.fault ReadFault is)

-- ---- where a last parity is damaged

pub returns-in-Err-clause-head_in_room : goal.returns-in-Err-clause-head_in_room
returns-in-Err-clause-head_in_room g c revealed a damaged ready roomy = ((λ is. absurd (let e = is in cc)), refl)

pub returns-in-Err-HeadDamaged-clause-head_in_room : goal.returns-in-Err-HeadDamaged-clause-head_in_room
returns-in-Err-HeadDamaged-clause-head_in_room g c revealed a damaged ready roomy =
    ((λ is. absurd (let e = is in cc)), (c.next_heads.ensures.reads.sure revealed ready roomy).1)

pub returns-in-Err-NoMemory-clause-head_in_room : goal.returns-in-Err-NoMemory-clause-head_in_room
returns-in-Err-NoMemory-clause-head_in_room g c revealed a damaged ready roomy =
    ((λ is. absurd (let e = is in cc)), (c.next_heads.ensures.reads.sure revealed ready roomy).1)

pub returns-in-Err-DiskFault-clause-head_in_room : goal.returns-in-Err-DiskFault-clause-head_in_room
returns-in-Err-DiskFault-clause-head_in_room g c revealed a damaged ready roomy =
    absurd ((c.next_heads.ensures.reads.sure revealed ready roomy).0 (c.in-Err-DiskFault.is ∙ ap Err c.in-Err-DiskFault.field-0-is))

pub returns-in-Ok-take_object-clause-head_in_room : goal.returns-in-Ok-take_object-clause-head_in_room
returns-in-Ok-take_object-clause-head_in_room g c revealed a damaged ready roomy =
    absurd (none_damaged c.args.ledger.now (g.D.Disk.state c.args.disk.now) (c.in-Ok-next_heads.ensures.intact revealed) a damaged)

pub returns-clause-head_in_room : goal.returns-clause-head_in_room
returns-clause-head_in_room g c revealed a damaged ready roomy =
    absurd (none_damaged c.args.ledger.now (g.D.Disk.state c.args.disk.now) (c.in-Ok-next_heads.ensures.intact revealed) a damaged)
