use Rattle.std.proofs.Common.{◌≡◌, ⊎_elim, inl, inr, ◌+◌, ◌*◌, ◌≤◌, min, max, length, Some, Ok, Err, refl, sym, ◌∙◌, ap, subst, arith}
use Rattle.aea_disk.proofs.Frames.{writes_as}
use Rattle.aea_shelf.proofs.Runs.{padded_none}
use Rattle.aea_archive.specs.Blocks.{IsBlockIn}
use Rattle.aea_append.specs.declared.store.Stored.{Stored}
use Rattle.aea_append.specs.declared.fault.PutFault.TheVariants.{BadName, NameTaken, CatalogFull, HeadDamaged, Full, ReadFault, DiskFault}
use Rattle.aea_append.specs.Taking.{room_left}
use Rattle.aea_append.specs.Puts.{HasKept}
use Rattle.aea_append.specs.Causes.{next_end}
use Rattle.aea_append.proofs.Faults.{fault_is}
use Rattle.aea_append.proofs.Rooms.{taken_long, room_fits}
use Rattle.aea_append.proofs.Takings.{counts_none}
use Rattle.aea_append.proofs.Ended.{ended_as, head_refused_by, over_refused_by, full_refused_by, complete_by, none_by, over_as, kept_within, ended_short}
use Rattle.aea_append.proofs.Ingesting.{same_at, same_text, same_stored, came, went, never_cut, head_fault, nothing_written, leaves_same, over_room, over_limit}
use Rattle.aea_append.proofs.ingest.store_frame.Goals as goal

pub returns-in-Err-BadName-clause-writes : goal.returns-in-Err-BadName-clause-writes
returns-in-Err-BadName-clause-writes g c =
    nothing_written g.D.Disk.reveals _ _ _ c.args.ledger.now (g.D.Disk.state c.args.disk.now) (λ is. absurd (let e = is in cc))

pub returns-in-Err-BadName-clause-refused_leaves : goal.returns-in-Err-BadName-clause-refused_leaves
returns-in-Err-BadName-clause-refused_leaves g c fine other revealed =
    leaves_same g.D.Disk.reveals revealed c.args.ledger.now (g.D.Disk.state c.args.disk.now) (c.requires.fixed revealed)

pub returns-in-Err-BadName-clause-padded : goal.returns-in-Err-BadName-clause-padded
returns-in-Err-BadName-clause-padded g c fine revealed =
    padded_none c.args.ledger.now.shape (IsBlockIn c.args.ledger.now.shape c.args.ledger.now.lattice.n) (g.D.Disk.state c.args.disk.now).files

pub returns-in-Err-BadName-clause-counted : goal.returns-in-Err-BadName-clause-counted
returns-in-Err-BadName-clause-counted g c =
    counts_none (g.S.Source.state c.args.source.now).left c.args.at.now (min c.args.size (room_left c.args.ledger.now))

pub returns-in-Err-NameTaken-clause-writes : goal.returns-in-Err-NameTaken-clause-writes
returns-in-Err-NameTaken-clause-writes g c =
    nothing_written g.D.Disk.reveals _ _ _ c.args.ledger.now (g.D.Disk.state c.args.disk.now) (λ is. absurd (let e = is in cc))

pub returns-in-Err-NameTaken-clause-refused_leaves : goal.returns-in-Err-NameTaken-clause-refused_leaves
returns-in-Err-NameTaken-clause-refused_leaves g c fine other revealed =
    leaves_same g.D.Disk.reveals revealed c.args.ledger.now (g.D.Disk.state c.args.disk.now) (c.requires.fixed revealed)

pub returns-in-Err-NameTaken-clause-padded : goal.returns-in-Err-NameTaken-clause-padded
returns-in-Err-NameTaken-clause-padded g c fine revealed =
    padded_none c.args.ledger.now.shape (IsBlockIn c.args.ledger.now.shape c.args.ledger.now.lattice.n) (g.D.Disk.state c.args.disk.now).files

pub returns-in-Err-NameTaken-clause-counted : goal.returns-in-Err-NameTaken-clause-counted
returns-in-Err-NameTaken-clause-counted g c =
    counts_none (g.S.Source.state c.args.source.now).left c.args.at.now (min c.args.size (room_left c.args.ledger.now))

pub returns-in-Err-CatalogFull-clause-writes : goal.returns-in-Err-CatalogFull-clause-writes
returns-in-Err-CatalogFull-clause-writes g c =
    nothing_written g.D.Disk.reveals _ _ _ c.args.ledger.now (g.D.Disk.state c.args.disk.now) (λ is. absurd (let e = is in cc))

pub returns-in-Err-CatalogFull-clause-refused_leaves : goal.returns-in-Err-CatalogFull-clause-refused_leaves
returns-in-Err-CatalogFull-clause-refused_leaves g c fine other revealed =
    leaves_same g.D.Disk.reveals revealed c.args.ledger.now (g.D.Disk.state c.args.disk.now) (c.requires.fixed revealed)

pub returns-in-Err-CatalogFull-clause-padded : goal.returns-in-Err-CatalogFull-clause-padded
returns-in-Err-CatalogFull-clause-padded g c fine revealed =
    padded_none c.args.ledger.now.shape (IsBlockIn c.args.ledger.now.shape c.args.ledger.now.lattice.n) (g.D.Disk.state c.args.disk.now).files

pub returns-in-Err-CatalogFull-clause-counted : goal.returns-in-Err-CatalogFull-clause-counted
returns-in-Err-CatalogFull-clause-counted g c =
    counts_none (g.S.Source.state c.args.source.now).left c.args.at.now (min c.args.size (room_left c.args.ledger.now))

pub returns-in-Err-copied-clause-writes : goal.returns-in-Err-copied-clause-writes
returns-in-Err-copied-clause-writes g c =
    nothing_written g.D.Disk.reveals _ _ _ c.args.ledger.now (g.D.Disk.state c.args.disk.now) (λ is. absurd (let e = is in cc))

pub returns-in-Err-copied-clause-refused_leaves : goal.returns-in-Err-copied-clause-refused_leaves
returns-in-Err-copied-clause-refused_leaves g c fine other revealed =
    leaves_same g.D.Disk.reveals revealed c.args.ledger.now (g.D.Disk.state c.args.disk.now) (c.requires.fixed revealed)

pub returns-in-Err-copied-clause-padded : goal.returns-in-Err-copied-clause-padded
returns-in-Err-copied-clause-padded g c fine revealed =
    padded_none c.args.ledger.now.shape (IsBlockIn c.args.ledger.now.shape c.args.ledger.now.lattice.n) (g.D.Disk.state c.args.disk.now).files

pub returns-in-Err-copied-clause-counted : goal.returns-in-Err-copied-clause-counted
returns-in-Err-copied-clause-counted g c =
    counts_none (g.S.Source.state c.args.source.now).left c.args.at.now (min c.args.size (room_left c.args.ledger.now))

-- ---- where it was stored

pub returns-in-Ok-Some-clause-writes : goal.returns-in-Ok-Some-clause-writes
returns-in-Ok-Some-clause-writes g c =
    writes_as g.D.Disk.reveals _ _ _ _ _ (g.D.Disk.state c.args.disk.now) (g.D.Disk.state c.put_wanted.new.disk) (λ is. absurd (let e = is in cc)) (λ is. absurd (cc)) c.put_wanted.ensures.writes

pub returns-in-Ok-Some-clause-padded : goal.returns-in-Ok-Some-clause-padded
returns-in-Ok-Some-clause-padded g c fine revealed =
    (ended_as (c.in-Ok-Some.is ∙ ap Ok c.in-Ok-Some.field-0-is) c.put_wanted.ensures.stores).padded revealed

pub returns-in-Ok-Some-clause-refused_leaves : goal.returns-in-Ok-Some-clause-refused_leaves
returns-in-Ok-Some-clause-refused_leaves g c fine other revealed =
    absurd (other _ _ refl)

pub returns-in-Ok-Some-clause-full_refused : goal.returns-in-Ok-Some-clause-full_refused
returns-in-Ok-Some-clause-full_refused g c may past =
    absurd (kept_within _ (ended_as (c.in-Ok-Some.is ∙ ap Ok c.in-Ok-Some.field-0-is) c.put_wanted.ensures.stores) c.args.size refl (over_room c.records_are_few.ensures c.args.ledger.now c.args.size c.in-Ok.ensures.opened past))

pub returns-in-Ok-Some-clause-complete : goal.returns-in-Ok-Some-clause-complete
returns-in-Ok-Some-clause-complete g c revealed bytes is may there intact fits disk source =
    inl (_, _, refl)

pub returns-in-Ok-Some-clause-stored : goal.returns-in-Ok-Some-clause-stored
returns-in-Ok-Some-clause-stored g c text stored is =
    (sym (same_text _ text _ stored is) ∙ c.in-Ok-copied.ensures, subst (HasKept g.D.Disk.reveals c.args.ledger.now c.put_wanted.new.ledger c.args.name.now (Some c.args.size) (g.S.Source.state c.args.source.now).left (g.S.Source.state c.put_wanted.new.source).left (g.D.Disk.state c.args.disk.now) (g.D.Disk.state c.put_wanted.new.disk)) (sym c.in-Ok-Some.stored-is ∙ same_stored _ text _ stored is) (ended_as (c.in-Ok-Some.is ∙ ap Ok c.in-Ok-Some.field-0-is) c.put_wanted.ensures.stores).kept)

pub returns-in-Ok-Some-clause-exact : goal.returns-in-Ok-Some-clause-exact
returns-in-Ok-Some-clause-exact g c text stored is =
    subst (λ (s : Stored). c.put_wanted.new.at ≡ c.args.at.now + s.length) (sym c.in-Ok-Some.stored-is ∙ same_stored _ text _ stored is) (ended_as (c.in-Ok-Some.is ∙ ap Ok c.in-Ok-Some.field-0-is) c.put_wanted.ensures.stores).exact

pub returns-in-Ok-Some-clause-ledger : goal.returns-in-Ok-Some-clause-ledger
returns-in-Ok-Some-clause-ledger g c text stored is revealed =
    subst (λ (s : Stored). length ((g.D.Disk.state c.put_wanted.new.disk).files 0) ≤ max (length ((g.D.Disk.state c.args.disk.now).files 0)) (next_end c.args.ledger.now.end (length c.args.name.now) (s.nodes * (1 + c.args.ledger.now.shape.alpha)) + 1)) (sym c.in-Ok-Some.stored-is ∙ same_stored _ text _ stored is) ((ended_as (c.in-Ok-Some.is ∙ ap Ok c.in-Ok-Some.field-0-is) c.put_wanted.ensures.stores).long revealed)

pub returns-in-Ok-Some-clause-bad_stream_refused : goal.returns-in-Ok-Some-clause-bad_stream_refused
returns-in-Ok-Some-clause-bad_stream_refused g c bytes is may within short =
    let kept = (ended_as (c.in-Ok-Some.is ∙ ap Ok c.in-Ok-Some.field-0-is) c.put_wanted.ensures.stores).kept in
    let long = taken_long (g.S.Source.state c.args.source.now).left bytes kept.0.bytes (g.S.Source.state c.put_wanted.new.source).left is kept.1.taken in
    absurd (let all = kept.1.long in omega (arith, long, all, short))

pub returns-in-Ok-Some-clause-head_refused : goal.returns-in-Ok-Some-clause-head_refused
returns-in-Ok-Some-clause-head_refused g c revealed may a damaged =
    absurd (damaged.damaged ((ended_as (c.in-Ok-Some.is ∙ ap Ok c.in-Ok-Some.field-0-is) c.put_wanted.ensures.stores).heads revealed a damaged.last))

-- ---- where the stream ended

pub returns-in-Ok-None-clause-writes : goal.returns-in-Ok-None-clause-writes
returns-in-Ok-None-clause-writes g c =
    writes_as g.D.Disk.reveals _ _ _ _ _ (g.D.Disk.state c.args.disk.now) (g.D.Disk.state c.put_wanted.new.disk) (λ is. absurd (let e = is in cc)) (λ is. absurd (cc)) c.put_wanted.ensures.writes

pub returns-in-Ok-None-clause-padded : goal.returns-in-Ok-None-clause-padded
returns-in-Ok-None-clause-padded g c fine revealed =
    (ended_as (c.in-Ok-None.is ∙ ap Ok c.in-Ok-None.field-0-is) c.put_wanted.ensures.stores).none.padded revealed

pub returns-in-Ok-None-clause-refused : goal.returns-in-Ok-None-clause-refused
returns-in-Ok-None-clause-refused g c fine other =
    (ended_as (c.in-Ok-None.is ∙ ap Ok c.in-Ok-None.field-0-is) c.put_wanted.ensures.stores).none.same

pub returns-in-Ok-None-clause-refused_leaves : goal.returns-in-Ok-None-clause-refused_leaves
returns-in-Ok-None-clause-refused_leaves g c fine other revealed =
    (ended_as (c.in-Ok-None.is ∙ ap Ok c.in-Ok-None.field-0-is) c.put_wanted.ensures.stores).none.leaves revealed

pub returns-in-Ok-None-clause-full_refused : goal.returns-in-Ok-None-clause-full_refused
returns-in-Ok-None-clause-full_refused g c may past =
    let fits = (ended_as (c.in-Ok-None.is ∙ ap Ok c.in-Ok-None.field-0-is) c.put_wanted.ensures.stores).fits c.args.size refl in
    absurd (let over = over_room c.records_are_few.ensures c.args.ledger.now c.args.size c.in-Ok.ensures.opened past in omega (arith, fits, over))

pub returns-in-Ok-None-clause-complete : goal.returns-in-Ok-None-clause-complete
returns-in-Ok-None-clause-complete g c revealed bytes is may there intact fits disk source =
    absurd (ended_short (ended_as (c.in-Ok-None.is ∙ ap Ok c.in-Ok-None.field-0-is) c.put_wanted.ensures.stores) bytes is there)

pub returns-in-Ok-None-clause-bad_stream : goal.returns-in-Ok-None-clause-bad_stream
returns-in-Ok-None-clause-bad_stream g c n is =
    let e = ended_as (c.in-Ok-None.is ∙ ap Ok c.in-Ok-None.field-0-is) c.put_wanted.ensures.stores in
    (sym (same_at _ n is), c.in-Ok.ensures.may, room_fits c.records_are_few.ensures c.args.ledger.now c.args.size c.in-Ok.ensures.opened (e.fits c.args.size refl), e.ended)

pub returns-in-Ok-None-clause-bad_stream_intact : goal.returns-in-Ok-None-clause-bad_stream_intact
returns-in-Ok-None-clause-bad_stream_intact g c n is revealed =
    (ended_as (c.in-Ok-None.is ∙ ap Ok c.in-Ok-None.field-0-is) c.put_wanted.ensures.stores).heads revealed

pub returns-in-Ok-None-clause-head_refused : goal.returns-in-Ok-None-clause-head_refused
returns-in-Ok-None-clause-head_refused g c revealed may a damaged =
    absurd (damaged.damaged ((ended_as (c.in-Ok-None.is ∙ ap Ok c.in-Ok-None.field-0-is) c.put_wanted.ensures.stores).heads revealed a damaged.last))

-- ---- where it was not stored

pub returns-in-Err-put_wanted-clause-writes : goal.returns-in-Err-put_wanted-clause-writes
returns-in-Err-put_wanted-clause-writes g c =
    writes_as g.D.Disk.reveals _ _ _ _ _ (g.D.Disk.state c.args.disk.now) (g.D.Disk.state c.put_wanted.new.disk) (λ is. c.in-Err-put_wanted.is ∙ ap Err (came c.from.ensures DiskFault is)) (λ is. went c.from.ensures (fault_is c.in-Err-put_wanted.fault DiskFault (sym c.in-Err-put_wanted.is ∙ is))) c.put_wanted.ensures.writes

pub returns-in-Err-put_wanted-clause-bad_name : goal.returns-in-Err-put_wanted-clause-bad_name
returns-in-Err-put_wanted-clause-bad_name g c =
    (λ is. absurd (c.put_wanted.ensures.late (inl (c.in-Err-put_wanted.is ∙ ap Err (came c.from.ensures BadName is)))), λ no. absurd (no c.in-Ok.ensures.may.named))

pub returns-in-Err-put_wanted-clause-name_taken : goal.returns-in-Err-put_wanted-clause-name_taken
returns-in-Err-put_wanted-clause-name_taken g c =
    (λ is. absurd (c.put_wanted.ensures.late (inr (inl (c.in-Err-put_wanted.is ∙ ap Err (came c.from.ensures NameTaken is))))), λ taken. absurd (taken.1 c.in-Ok.ensures.may.free))

pub returns-in-Err-put_wanted-clause-many : goal.returns-in-Err-put_wanted-clause-many
returns-in-Err-put_wanted-clause-many g c =
    (λ is. absurd (c.put_wanted.ensures.late (inr (inr (c.in-Err-put_wanted.is ∙ ap Err (came c.from.ensures CatalogFull is))))), λ many. absurd (c.in-Ok.ensures.may.few many.2))

pub returns-in-Err-put_wanted-clause-early : goal.returns-in-Err-put_wanted-clause-early
returns-in-Err-put_wanted-clause-early g c early =
    absurd (c.put_wanted.ensures.late (⊎_elim (λ is. inl (c.in-Err-put_wanted.is ∙ ap Err (came c.from.ensures BadName is))) (λ rest. ⊎_elim (λ is. inr (inl (c.in-Err-put_wanted.is ∙ ap Err (came c.from.ensures NameTaken is)))) (λ is. inr (inr (c.in-Err-put_wanted.is ∙ ap Err (came c.from.ensures CatalogFull is)))) rest) early))

pub returns-in-Err-put_wanted-clause-early_takes : goal.returns-in-Err-put_wanted-clause-early_takes
returns-in-Err-put_wanted-clause-early_takes g c early =
    absurd (c.put_wanted.ensures.late (⊎_elim (λ is. inl (c.in-Err-put_wanted.is ∙ ap Err (came c.from.ensures BadName is))) (λ rest. ⊎_elim (λ is. inr (inl (c.in-Err-put_wanted.is ∙ ap Err (came c.from.ensures NameTaken is)))) (λ is. inr (inr (c.in-Err-put_wanted.is ∙ ap Err (came c.from.ensures CatalogFull is)))) rest) early))

pub returns-in-Err-put_wanted-clause-by_head : goal.returns-in-Err-put_wanted-clause-by_head
returns-in-Err-put_wanted-clause-by_head g c by =
    ⊎_elim (λ is. absurd (c.put_wanted.ensures.late (inr (inl (c.in-Err-put_wanted.is ∙ ap Err (came c.from.ensures NameTaken is))))))
    (λ rest. ⊎_elim (λ is. absurd (c.put_wanted.ensures.late (inr (inr (c.in-Err-put_wanted.is ∙ ap Err (came c.from.ensures CatalogFull is))))))
    (λ last. ⊎_elim (λ head. let e = ended_as (c.in-Err-put_wanted.is ∙ ap Err (came c.from.ensures (HeadDamaged head.0) head.1)) c.put_wanted.ensures.stores in (e.untaken_is, e.counts))
    (λ full. (ended_as (c.in-Err-put_wanted.is ∙ ap Err (came c.from.ensures (Full full.0) full.1)) c.put_wanted.ensures.stores).untaken_is c.args.size refl) last) rest) by

pub returns-in-Err-put_wanted-clause-head : goal.returns-in-Err-put_wanted-clause-head
returns-in-Err-put_wanted-clause-head g c b is =
    let e = (ended_as (c.in-Err-put_wanted.is ∙ ap Err (came c.from.ensures (HeadDamaged b) is)) c.put_wanted.ensures.stores) in
    (e.last, e.first)

pub returns-in-Err-put_wanted-clause-head_leaves : goal.returns-in-Err-put_wanted-clause-head_leaves
returns-in-Err-put_wanted-clause-head_leaves g c b is =
    (ended_as (c.in-Err-put_wanted.is ∙ ap Err (came c.from.ensures (HeadDamaged b) is)) c.put_wanted.ensures.stores).reads

pub returns-in-Err-put_wanted-clause-head_enters : goal.returns-in-Err-put_wanted-clause-head_enters
returns-in-Err-put_wanted-clause-head_enters g c b is =
    c.in-Ok.ensures.may

pub returns-in-Err-put_wanted-clause-head_refused : goal.returns-in-Err-put_wanted-clause-head_refused
returns-in-Err-put_wanted-clause-head_refused g c revealed may a damaged =
    head_fault c.from.ensures (head_refused_by c.in-Err-put_wanted.fault c.in-Err-put_wanted.is c.put_wanted.ensures.stores revealed a damaged)

pub returns-in-Err-put_wanted-clause-full : goal.returns-in-Err-put_wanted-clause-full
returns-in-Err-put_wanted-clause-full g c nodes is =
    let e = (ended_as (c.in-Err-put_wanted.is ∙ ap Err (came c.from.ensures (Full nodes) is)) c.put_wanted.ensures.stores) in
    (e.nodes_is, c.in-Ok.ensures.may, over_limit c.args.ledger.now c.args.size e.over, e.heads)

pub returns-in-Err-put_wanted-clause-full_refused : goal.returns-in-Err-put_wanted-clause-full_refused
returns-in-Err-put_wanted-clause-full_refused g c may past =
    ⊎_elim (λ full. inl (went c.from.ensures full)) (λ head. inr (head_fault c.from.ensures head))
    (over_refused_by c.in-Err-put_wanted.fault c.in-Err-put_wanted.is c.put_wanted.ensures.stores c.args.size refl (over_room c.records_are_few.ensures c.args.ledger.now c.args.size c.in-Ok.ensures.opened past))

pub returns-in-Err-put_wanted-clause-bad_stream : goal.returns-in-Err-put_wanted-clause-bad_stream
returns-in-Err-put_wanted-clause-bad_stream g c n is =
    absurd (never_cut c.in-Err-put_wanted.fault c.from.ensures is)

pub returns-in-Err-put_wanted-clause-bad_stream_intact : goal.returns-in-Err-put_wanted-clause-bad_stream_intact
returns-in-Err-put_wanted-clause-bad_stream_intact g c n is revealed =
    absurd (never_cut c.in-Err-put_wanted.fault c.from.ensures is)

pub returns-in-Err-put_wanted-clause-bad_stream_refused : goal.returns-in-Err-put_wanted-clause-bad_stream_refused
returns-in-Err-put_wanted-clause-bad_stream_refused g c bytes is may within short =
    inr (⊎_elim (λ (full : c.in-Err-put_wanted.fault ≡ Full c.args.ledger.now.lattice.n). absurd (let over = over_limit c.args.ledger.now c.args.size (over_as (c.in-Err-put_wanted.is ∙ ap Err full) c.put_wanted.ensures.stores) in omega (arith, over, within)))
    (λ rest. ⊎_elim (λ read. inl (went c.from.ensures read)) (λ head. inr (head_fault c.from.ensures head)) rest) (full_refused_by c.in-Err-put_wanted.fault c.in-Err-put_wanted.is c.put_wanted.ensures.stores))

pub returns-in-Err-put_wanted-clause-complete : goal.returns-in-Err-put_wanted-clause-complete
returns-in-Err-put_wanted-clause-complete g c revealed bytes is may there intact fits disk source =
    inr (went c.from.ensures (complete_by c.in-Err-put_wanted.fault c.in-Err-put_wanted.is c.put_wanted.ensures.stores revealed bytes is intact fits
    (λ bad. disk (c.put_wanted.ensures.writes.cause (c.in-Err-put_wanted.is ∙ ap Err bad))) (λ bad. source (c.put_wanted.ensures.read_cause (c.in-Err-put_wanted.is ∙ ap Err bad)))))

pub returns-in-Err-put_wanted-clause-refused : goal.returns-in-Err-put_wanted-clause-refused
returns-in-Err-put_wanted-clause-refused g c fine other =
    (none_by c.in-Err-put_wanted.fault c.in-Err-put_wanted.is c.put_wanted.ensures.stores (λ bad. fine (went c.from.ensures bad))).same

pub returns-in-Err-put_wanted-clause-refused_leaves : goal.returns-in-Err-put_wanted-clause-refused_leaves
returns-in-Err-put_wanted-clause-refused_leaves g c fine other revealed =
    (none_by c.in-Err-put_wanted.fault c.in-Err-put_wanted.is c.put_wanted.ensures.stores (λ bad. fine (went c.from.ensures bad))).leaves revealed

pub returns-in-Err-put_wanted-clause-padded : goal.returns-in-Err-put_wanted-clause-padded
returns-in-Err-put_wanted-clause-padded g c fine revealed =
    (none_by c.in-Err-put_wanted.fault c.in-Err-put_wanted.is c.put_wanted.ensures.stores (λ bad. fine (went c.from.ensures bad))).padded revealed

pub returns-in-Err-put_wanted-clause-dead : goal.returns-in-Err-put_wanted-clause-dead
returns-in-Err-put_wanted-clause-dead g c is =
    (ended_as (c.in-Err-put_wanted.is ∙ ap Err (came c.from.ensures DiskFault is)) c.put_wanted.ensures.stores).dead

pub returns-in-Err-put_wanted-clause-stopped : goal.returns-in-Err-put_wanted-clause-stopped
returns-in-Err-put_wanted-clause-stopped g c is revealed =
    (ended_as (c.in-Err-put_wanted.is ∙ ap Err (came c.from.ensures DiskFault is)) c.put_wanted.ensures.stores).stopped revealed

pub returns-in-Err-put_wanted-clause-short : goal.returns-in-Err-put_wanted-clause-short
returns-in-Err-put_wanted-clause-short g c is =
    (ended_as (c.in-Err-put_wanted.is ∙ ap Err (came c.from.ensures ReadFault is)) c.put_wanted.ensures.stores).short c.args.size refl

pub returns-in-Err-put_wanted-clause-read_cause : goal.returns-in-Err-put_wanted-clause-read_cause
returns-in-Err-put_wanted-clause-read_cause g c is =
    c.put_wanted.ensures.read_cause (c.in-Err-put_wanted.is ∙ ap Err (came c.from.ensures ReadFault is))

pub returns-in-Err-put_wanted-clause-source_still : goal.returns-in-Err-put_wanted-clause-source_still
returns-in-Err-put_wanted-clause-source_still g c fine =
    c.put_wanted.ensures.source_still (λ bad. fine (went c.from.ensures (fault_is c.in-Err-put_wanted.fault ReadFault (sym c.in-Err-put_wanted.is ∙ bad))))

-- ---- the heads that are kept

pub returns-in-Ok-Some-clause-keeps : goal.returns-in-Ok-Some-clause-keeps
returns-in-Ok-Some-clause-keeps g c text stored is = c.put_wanted.ensures.keeps _ (c.in-Ok-Some.is ∙ ap Ok c.in-Ok-Some.field-0-is)

pub returns-in-Err-put_wanted-clause-still : goal.returns-in-Err-put_wanted-clause-still
returns-in-Err-put_wanted-clause-still g c early =
    absurd (c.put_wanted.ensures.late (⊎_elim (λ is. inl (c.in-Err-put_wanted.is ∙ ap Err (came c.from.ensures BadName is))) (λ rest. ⊎_elim (λ is. inr (inl (c.in-Err-put_wanted.is ∙ ap Err (came c.from.ensures NameTaken is)))) (λ is. inr (inr (c.in-Err-put_wanted.is ∙ ap Err (came c.from.ensures CatalogFull is)))) rest) early))

pub returns-in-Err-put_wanted-clause-unread : goal.returns-in-Err-put_wanted-clause-unread
returns-in-Err-put_wanted-clause-unread g c b some is =
    c.put_wanted.ensures.unread b some (c.in-Err-put_wanted.is ∙ ap Err (came c.from.ensures (HeadDamaged b) is))
