use Rattle.std.proofs.Common.{◌≡◌, Err, refl, sym, ◌∙◌, ap, subst}
use Rattle.aea_machine.specs.Machine.{begun}
use Rattle.aea_disk.proofs.Stays.{earlier_none}
use Rattle.aea_disk.proofs.Frames.{reads_none, reads_as}
use Rattle.aea_ledger.specs.Values.{HasSomeRecords}
use Rattle.aea_append.specs.declared.heads.HeadFault.TheVariants as loading
use Rattle.aea_session.proofs.Begins.{few_objects, begins_keeping, zeros, zeros_wide, zeros_long, begins_standing, begins_its_own, same_block, not_refused, one_fault}
use Rattle.aea_session.proofs.session.Session.begin.Goals as goal

pub returns-then-not-is_upgraded-clause-earlier : goal.returns-then-not-is_upgraded-clause-earlier
returns-then-not-is_upgraded-clause-earlier g c = earlier_none (g.D.Disk.state c.args.disk.now)

pub returns-then-not-is_upgraded-clause-reads : goal.returns-then-not-is_upgraded-clause-reads
returns-then-not-is_upgraded-clause-reads g c = reads_as g.D.Disk.reveals ⊥ _ (g.D.Disk.state c.args.disk.now) (g.D.Disk.state c.args.disk.now) (λ is. absurd (let e = is in cc)) (λ none. absurd none) (reads_none g.D.Disk.reveals ⊥ (g.D.Disk.state c.args.disk.now) (λ none. none))

pub returns-in_default-clause-earlier : goal.returns-in_default-clause-earlier
returns-in_default-clause-earlier g c = earlier_none (g.D.Disk.state c.args.disk.now)

pub returns-in_default-clause-reads : goal.returns-in_default-clause-reads
returns-in_default-clause-reads g c = reads_as g.D.Disk.reveals ⊥ _ (g.D.Disk.state c.args.disk.now) (g.D.Disk.state c.args.disk.now) (λ is. absurd (let e = is in cc)) (λ none. absurd none) (reads_none g.D.Disk.reveals ⊥ (g.D.Disk.state c.args.disk.now) (λ none. none))

pub returns-in-Ok-load_heads-clause-keeps : goal.returns-in-Ok-load_heads-clause-keeps
returns-in-Ok-load_heads-clause-keeps g c datas long wide =
    begins_keeping c.none_have_names.ensures _ datas (sym c.is_upgraded.ensures.raised ∙ c.if-not-is_upgraded.false)
    (few_objects c.args.ledger c.objects_are_counted.ensures c.records_are_few.ensures (subst HasSomeRecords c.ledger.view_is c.ledger.invariant)) c.is_upgraded.ensures.nodes
    c.in-Ok-load_heads.ensures.lattice c.in-Ok-load_heads.ensures.size c.new.ensures.items c.in-Ok.ensures c.free_slots.ensures.long c.free_slots.ensures.free long wide

pub returns-in-Ok-load_heads-clause-stands : goal.returns-in-Ok-load_heads-clause-stands
returns-in-Ok-load_heads-clause-stands g c = begins_standing g.D.Disk.reveals _ (g.D.Disk.state c.args.disk.now).files c.new.ensures.items c.in-Ok-load_heads.ensures.values

pub returns-in-Ok-load_heads-clause-this : goal.returns-in-Ok-load_heads-clause-this
returns-in-Ok-load_heads-clause-this g c revealed this =
    begins_its_own _ (g.D.Disk.state c.args.disk.now).files (g.D.Disk.state c.load_heads.new.disk).files c.in-Ok-load_heads.ensures.lattice c.new.ensures.items (c.load_heads.ensures.reads.contents revealed) this

pub returns-in-Ok-load_heads-clause-head_refused : goal.returns-in-Ok-load_heads-clause-head_refused
returns-in-Ok-load_heads-clause-head_refused g c raised revealed a damaged = absurd (not_refused c.load_heads.result c.in-Ok-load_heads.heads c.in-Ok-load_heads.is (c.load_heads.ensures.head_refused revealed a damaged))

pub returns-in-Ok-load_heads-clause-reads : goal.returns-in-Ok-load_heads-clause-reads
returns-in-Ok-load_heads-clause-reads g c =
    reads_as g.D.Disk.reveals (c.load_heads.result ≡ Err loading.DiskFault) _ (g.D.Disk.state c.args.disk.now) (g.D.Disk.state c.load_heads.new.disk) (λ is. absurd (let e = is in cc)) (λ is. absurd (let e = sym c.in-Ok-load_heads.is ∙ is in cc)) c.load_heads.ensures.reads

pub returns-in-Err-HeadDamaged-clause-head : goal.returns-in-Err-HeadDamaged-clause-head
returns-in-Err-HeadDamaged-clause-head g c b is =
    c.load_heads.ensures.head b (c.in-Err-HeadDamaged.is ∙ ap Err (c.in-Err-HeadDamaged.field-0-is ∙ ap loading.HeadDamaged (sym c.in-Err-HeadDamaged.block-is ∙ same_block _ b is)))

pub returns-in-Err-HeadDamaged-clause-reads : goal.returns-in-Err-HeadDamaged-clause-reads
returns-in-Err-HeadDamaged-clause-reads g c =
    reads_as g.D.Disk.reveals (c.load_heads.result ≡ Err loading.DiskFault) _ (g.D.Disk.state c.args.disk.now) (g.D.Disk.state c.load_heads.new.disk) (λ is. absurd (let e = is in cc))
    (λ is. absurd (let e = one_fault c.load_heads.result c.in-Err-HeadDamaged.field-0 (loading.HeadDamaged c.in-Err-HeadDamaged.block) loading.DiskFault c.in-Err-HeadDamaged.is c.in-Err-HeadDamaged.field-0-is is in cc)) c.load_heads.ensures.reads

pub returns-in-Err-DiskFault-clause-reads : goal.returns-in-Err-DiskFault-clause-reads
returns-in-Err-DiskFault-clause-reads g c =
    reads_as g.D.Disk.reveals (c.load_heads.result ≡ Err loading.DiskFault) _ (g.D.Disk.state c.args.disk.now) (g.D.Disk.state c.load_heads.new.disk) (λ is. c.in-Err-DiskFault.is ∙ ap Err c.in-Err-DiskFault.field-0-is) (λ is. refl) c.load_heads.ensures.reads

pub returns-clause-reads : goal.returns-clause-reads
returns-clause-reads g c =
    reads_as g.D.Disk.reveals (c.load_heads.result ≡ Err loading.DiskFault) _ (g.D.Disk.state c.args.disk.now) (g.D.Disk.state c.load_heads.new.disk) (λ is. absurd (let e = is in cc))
    (λ is. absurd (let e = one_fault c.load_heads.result c.in-Err-NoMemory.field-0 loading.NoMemory loading.DiskFault c.in-Err-NoMemory.is c.in-Err-NoMemory.field-0-is is in cc)) c.load_heads.ensures.reads

-- it keeps the state in which nothing was woven behind blocks of zeros
pub invariant_of-result : goal.invariant_of-result
invariant_of-result g c is =
    let v = c.args.ledger in (
      (
        begun (zeros v.shape v.lattice.n) v.objects,
        begins_keeping c.none_have_names.ensures _ (zeros v.shape v.lattice.n) (sym c.is_upgraded.ensures.raised ∙ c.if-not-is_upgraded.false)
            (few_objects v c.objects_are_counted.ensures c.records_are_few.ensures (subst HasSomeRecords c.ledger.view_is c.ledger.invariant)) c.is_upgraded.ensures.nodes
            c.in-Ok-load_heads.ensures.lattice c.in-Ok-load_heads.ensures.size c.new.ensures.items c.in-Ok.ensures c.free_slots.ensures.long c.free_slots.ensures.free
            (zeros_long v.shape v.lattice.n) (zeros_wide v.shape v.lattice.n),
      ),
      sym c.live-live.ensures ∙ is,
    )
