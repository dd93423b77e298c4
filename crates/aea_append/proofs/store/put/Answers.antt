use Rattle.std.proofs.Common.{⊎_elim, inl, inr, ◌+◌, None, Ok, Err, refl, ◌∙◌, ap}
use Rattle.aea_disk.proofs.Frames.{writes_as}
use Rattle.aea_records.specs.Format.{limit_when}
use Rattle.aea_archive.specs.Blocks.{IsBlockIn}
use Rattle.aea_append.specs.declared.fault.PutFault.TheVariants.{DiskFault, BadName, NameTaken, CatalogFull, HeadDamaged, Full, ReadFault}
use Rattle.aea_append.specs.Taking.{room_left}
use Rattle.aea_append.proofs.Faults.{fault_is, fault_as}
use Rattle.aea_append.proofs.Takings.{counts_most}
use Rattle.aea_append.proofs.Leaving.{cells_wider}
use Rattle.aea_archive.proofs.Writes.{cells_none}
use Rattle.aea_append.proofs.Ended.{ended_as, head_refused_by, full_refused_by, complete_by, none_by, kept_all}
use Rattle.aea_append.proofs.Space.{none_damaged}
use Rattle.aea_append.proofs.store.put.Goals as goal

pub returns-in-Err-clause-writes : goal.returns-in-Err-clause-writes
returns-in-Err-clause-writes g c =
    let v = c.args.ledger.now in
    let old = g.D.Disk.state c.args.disk.now in
    let left = (g.S.Source.state c.args.source.now).left in
    cells_wider g.D.Disk.reveals _ v c.args.name.now None left left old old
    (cells_none g.D.Disk.reveals _ v.shape (limit_when v.raised) (IsBlockIn v.shape v.lattice.n) old
    (λ is. let same = fault_is c.in-Err.fault DiskFault is in
    ⊎_elim {C = ⊥} (λ ok. (let e = ok in cc)) (λ early. ⊎_elim {C = ⊥} (λ bad. (let e = fault_is c.in-Err.fault BadName bad in cc)) (λ rest. ⊎_elim {C = ⊥} (λ taken. (let e = fault_is c.in-Err.fault NameTaken taken in cc)) (λ many. (let e = fault_is c.in-Err.fault CatalogFull many in cc)) rest) early) c.in-Err.ensures.early))

-- ---- where it was stored

pub returns-in-Ok-Some-clause-stored : goal.returns-in-Ok-Some-clause-stored
returns-in-Ok-Some-clause-stored g c = (ended_as (c.in-Ok-Some.is ∙ ap Ok c.in-Ok-Some.field-0-is) c.put_wanted.ensures.stores).kept

pub returns-in-Ok-Some-clause-writes : goal.returns-in-Ok-Some-clause-writes
returns-in-Ok-Some-clause-writes g c =
    writes_as g.D.Disk.reveals _ _ _ _ _ (g.D.Disk.state c.args.disk.now) (g.D.Disk.state c.put_wanted.new.disk) (λ is. absurd (let e = is in cc)) (λ is. absurd (cc)) c.put_wanted.ensures.writes

pub returns-in-Ok-Some-clause-padded : goal.returns-in-Ok-Some-clause-padded
returns-in-Ok-Some-clause-padded g c fine revealed = (ended_as (c.in-Ok-Some.is ∙ ap Ok c.in-Ok-Some.field-0-is) c.put_wanted.ensures.stores).padded revealed

pub returns-in-Ok-Some-clause-reads : goal.returns-in-Ok-Some-clause-reads
returns-in-Ok-Some-clause-reads g c =
    counts_most (g.S.Source.state c.args.source.now).left (g.S.Source.state c.put_wanted.new.source).left _ _ (room_left c.args.ledger.now + 1) c.put_wanted.ensures.counted

pub returns-in-Ok-Some-clause-head_refused : goal.returns-in-Ok-Some-clause-head_refused
returns-in-Ok-Some-clause-head_refused g c revealed may a damaged =
    absurd (damaged.damaged ((ended_as (c.in-Ok-Some.is ∙ ap Ok c.in-Ok-Some.field-0-is) c.put_wanted.ensures.stores).heads revealed a damaged.last))

pub returns-in-Ok-Some-clause-full_refused : goal.returns-in-Ok-Some-clause-full_refused
returns-in-Ok-Some-clause-full_refused g c bytes is may past =
    absurd (kept_all _ (ended_as (c.in-Ok-Some.is ∙ ap Ok c.in-Ok-Some.field-0-is) c.put_wanted.ensures.stores) bytes is refl past)

pub returns-in-Ok-Some-clause-ledger : goal.returns-in-Ok-Some-clause-ledger
returns-in-Ok-Some-clause-ledger g c revealed = (ended_as (c.in-Ok-Some.is ∙ ap Ok c.in-Ok-Some.field-0-is) c.put_wanted.ensures.stores).long revealed

-- ---- where it was not

pub returns-clause-writes : goal.returns-clause-writes
returns-clause-writes g c =
    writes_as g.D.Disk.reveals _ _ _ _ _ (g.D.Disk.state c.args.disk.now) (g.D.Disk.state c.put_wanted.new.disk) (λ is. c.in-Err-put_wanted.is ∙ fault_as c.in-Err-put_wanted.fault DiskFault is) (λ is. cc) c.put_wanted.ensures.writes

pub returns-clause-padded : goal.returns-clause-padded
returns-clause-padded g c fine revealed =
    (none_by c.in-Err-put_wanted.fault c.in-Err-put_wanted.is c.put_wanted.ensures.stores (λ bad. fine (ap Err bad))).padded revealed

pub returns-clause-reads : goal.returns-clause-reads
returns-clause-reads g c =
    counts_most (g.S.Source.state c.args.source.now).left (g.S.Source.state c.put_wanted.new.source).left _ _ (room_left c.args.ledger.now + 1) c.put_wanted.ensures.counted

pub returns-clause-early : goal.returns-clause-early
returns-clause-early g c is =
    absurd (c.put_wanted.ensures.late (⊎_elim (λ bad. inl (c.in-Err-put_wanted.is ∙ fault_as c.in-Err-put_wanted.fault BadName bad)) (λ rest. inr (⊎_elim (λ taken. inl (c.in-Err-put_wanted.is ∙ fault_as c.in-Err-put_wanted.fault NameTaken taken)) (λ many. inr (c.in-Err-put_wanted.is ∙ fault_as c.in-Err-put_wanted.fault CatalogFull many)) rest)) is))

pub returns-clause-head : goal.returns-clause-head
returns-clause-head g c b is =
    let e = ended_as (c.in-Err-put_wanted.is ∙ fault_as c.in-Err-put_wanted.fault (HeadDamaged b) is) c.put_wanted.ensures.stores in
    (e.last, e.first)

pub returns-clause-head_leaves : goal.returns-clause-head_leaves
returns-clause-head_leaves g c b is =
    let e = ended_as (c.in-Err-put_wanted.is ∙ fault_as c.in-Err-put_wanted.fault (HeadDamaged b) is) c.put_wanted.ensures.stores in
    (e.untaken_is, e.reads)

pub returns-clause-full : goal.returns-clause-full
returns-clause-full g c nodes is =
    let e = ended_as (c.in-Err-put_wanted.is ∙ fault_as c.in-Err-put_wanted.fault (Full nodes) is) c.put_wanted.ensures.stores in
    (e.nodes_is, (e.over, e.heads))

pub returns-clause-head_refused : goal.returns-clause-head_refused
returns-clause-head_refused g c revealed may a damaged =
    head_refused_by c.in-Err-put_wanted.fault c.in-Err-put_wanted.is c.put_wanted.ensures.stores revealed a damaged

pub returns-clause-full_refused : goal.returns-clause-full_refused
returns-clause-full_refused g c bytes is may past =
    ⊎_elim (λ full. inl (ap Err full)) (λ rest. inr (⊎_elim (λ read. inl (ap Err read)) (λ head. inr head) rest))
    (full_refused_by c.in-Err-put_wanted.fault c.in-Err-put_wanted.is c.put_wanted.ensures.stores)

pub returns-clause-complete : goal.returns-clause-complete
returns-clause-complete g c revealed bytes is may intact fits disk source =
    inr (ap Err (complete_by c.in-Err-put_wanted.fault c.in-Err-put_wanted.is c.put_wanted.ensures.stores revealed bytes is intact fits
    (λ bad. disk (c.put_wanted.ensures.writes.cause (c.in-Err-put_wanted.is ∙ ap Err bad))) (λ bad. source (c.put_wanted.ensures.read_cause (c.in-Err-put_wanted.is ∙ ap Err bad)))))

pub returns-clause-refused : goal.returns-clause-refused
returns-clause-refused g c err fine =
    (none_by c.in-Err-put_wanted.fault c.in-Err-put_wanted.is c.put_wanted.ensures.stores (λ bad. fine (ap Err bad))).same

pub returns-clause-refused_leaves : goal.returns-clause-refused_leaves
returns-clause-refused_leaves g c err fine revealed =
    (none_by c.in-Err-put_wanted.fault c.in-Err-put_wanted.is c.put_wanted.ensures.stores (λ bad. fine (ap Err bad))).leaves revealed

pub returns-clause-dead : goal.returns-clause-dead
returns-clause-dead g c is =
    (ended_as (c.in-Err-put_wanted.is ∙ fault_as c.in-Err-put_wanted.fault DiskFault is) c.put_wanted.ensures.stores).dead

pub returns-clause-stopped : goal.returns-clause-stopped
returns-clause-stopped g c is revealed =
    (ended_as (c.in-Err-put_wanted.is ∙ fault_as c.in-Err-put_wanted.fault DiskFault is) c.put_wanted.ensures.stores).stopped revealed

pub returns-clause-read_cause : goal.returns-clause-read_cause
returns-clause-read_cause g c is =
    c.put_wanted.ensures.read_cause (c.in-Err-put_wanted.is ∙ fault_as c.in-Err-put_wanted.fault ReadFault is)

-- ---- where a reason held for a refusal before the source was read

pub returns-in-Err-clause-refused_in_room : goal.returns-in-Err-clause-refused_in_room
returns-in-Err-clause-refused_in_room g c revealed reason ready roomy = (
  (λ is. let same = fault_is c.in-Err.fault DiskFault is in
      ⊎_elim {C = ⊥} (λ ok. (let e = ok in cc)) (λ early. ⊎_elim {C = ⊥} (λ bad. (let e = fault_is c.in-Err.fault BadName bad in cc)) (λ rest. ⊎_elim {C = ⊥} (λ taken. (let e = fault_is c.in-Err.fault NameTaken taken in cc)) (λ many. (let e = fault_is c.in-Err.fault CatalogFull many in cc)) rest) early) c.in-Err.ensures.early),
  refl,
)

pub returns-in-Ok-Some-clause-refused_in_room : goal.returns-in-Ok-Some-clause-refused_in_room
returns-in-Ok-Some-clause-refused_in_room g c revealed reason ready roomy =
    absurd (⊎_elim {C = ⊥} (λ no. no c.in-Ok.ensures.may) (λ some. none_damaged c.args.ledger.now (g.D.Disk.state c.args.disk.now) ((ended_as (c.in-Ok-Some.is ∙ ap Ok c.in-Ok-Some.field-0-is) c.put_wanted.ensures.stores).heads revealed) some.0 some.1) reason)

pub returns-clause-refused_in_room : goal.returns-clause-refused_in_room
returns-clause-refused_in_room g c revealed reason ready roomy =
    ⊎_elim (λ no. absurd (no c.in-Ok.ensures.may))
    (λ some. let never = c.put_wanted.ensures.head_in_room revealed some.0 some.1 ready roomy in ((λ is. never.0 (c.in-Err-put_wanted.is ∙ fault_as c.in-Err-put_wanted.fault DiskFault is)), never.1)) reason
