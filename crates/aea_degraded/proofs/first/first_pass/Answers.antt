use Rattle.std.proofs.Common.{◌≡◌, inl, inr, false, ℕ, List, sym, ◌∙◌, ap, subst, Err}
use Rattle.std.specs.Prelude.{All}
use Rattle.std.specs.FinMap.{get}
use Rattle.aea_lattice.specs.declared.blocks.BlockId.{BlockId}
use Rattle.aea_lattice.specs.Blocks.{HasBlock}
use Rattle.aea_disk.specs.Files.{Files}
use Rattle.aea_disk.proofs.Frames.{reads_both, reads_as}
use Rattle.aea_view.specs.Marked.{Marked}
use Rattle.aea_archive.specs.Objects.{data_under, IsOneOf}
use Rattle.aea_restore.specs.Drawn.{IsClash}
use Rattle.aea_search.specs.declared.searching.SearchFault.TheVariants as search
use Rattle.aea_degraded.specs.declared.fault.FetchFault.TheVariants.{Undetermined, Clash, DiskFault}
use Rattle.aea_degraded.specs.declared.fault.PayloadFault.TheVariants as payload
use Rattle.aea_degraded.specs.Planned.{IsRightPlan, IsChecked, IsFirstFault}
use Rattle.aea_degraded.specs.Sent.{fetch_fault}
use Rattle.aea_degraded.proofs.FirstPass.{IsUndetermined, undetermined_at, determined_by, never_open, first_fault}
use Rattle.aea_degraded.proofs.Printed.{clash_from, disk_from}
use Rattle.aea_degraded.proofs.first.first_pass.Goals as goal

pub returns-in-Some-clause-undetermined : goal.returns-in-Some-clause-undetermined
returns-in-Some-clause-undetermined g c b nodes e =
    let v = c.args.ledger.now in
    let files = (g.D.Disk.state c.args.disk.now).files in
    let blocks = data_under (get v.objects c.args.name.now) in
    let plan = c.in-Ok.plan in
    let found = c.in-Some.ensures.some in
    let is : c.undetermined.result ≡ Undetermined found.0 found.1 = c.undetermined.ensures found.0 found.1 found.2 in
    let given : c.undetermined.result ≡ Undetermined b nodes = (let h = e in cc) in
    let same : Undetermined found.0 found.1 ≡ Undetermined b nodes = sym is ∙ given in
    let block : found.0 ≡ b = cc in
    let list : found.1 ≡ nodes = cc in
    subst (λ (ns : List ℕ). IsUndetermined g.D.Disk.reveals v files blocks b ns) list
    (subst (λ (x : BlockId). IsUndetermined g.D.Disk.reveals v files blocks x found.1) block
    (undetermined_at c.sums_are_determined.ensures c.words_are_open.ensures c.passing_are_among.ensures g.D.Disk.reveals v files plan.search.unknown plan.fates blocks c.in-Ok.ensures.fates
    (subst (All (HasBlock v.lattice)) c.new-blocks.ensures.all c.new-blocks.ensures.inside) c.in-Ok.ensures.right c.in-Some.at found.0 found.1 found.2 found.3))

pub returns-in-Some-clause-determined : goal.returns-in-Some-clause-determined
returns-in-Some-clause-determined g c revealed known survivors =
    let found = c.in-Some.ensures.some in
    inr (inl (found.0, found.1, ap Err (c.undetermined.ensures found.0 found.1 found.2)))

pub returns-in-Some-clause-clash : goal.returns-in-Some-clause-clash
returns-in-Some-clause-clash g c d revealed computed e =
    let found = c.in-Some.ensures.some in
    let is : c.undetermined.result ≡ Undetermined found.0 found.1 = c.undetermined.ensures found.0 found.1 found.2 in
    let other : c.undetermined.result ≡ Clash d revealed computed = (let h = e in cc) in
    let never : Undetermined found.0 found.1 ≡ Clash d revealed computed = sym is ∙ other in
    cc

pub returns-in-Some-clause-computed : goal.returns-in-Some-clause-computed
returns-in-Some-clause-computed g c d revealed computed e reveal known survivors =
    let found = c.in-Some.ensures.some in
    let is : c.undetermined.result ≡ Undetermined found.0 found.1 = c.undetermined.ensures found.0 found.1 found.2 in
    let other : c.undetermined.result ≡ Clash d revealed computed = (let h = e in cc) in
    let never : Undetermined found.0 found.1 ≡ Clash d revealed computed = sym is ∙ other in
    cc

pub returns-in-Some-clause-faults : goal.returns-in-Some-clause-faults
returns-in-Some-clause-faults g c =
    let found = c.in-Some.ensures.some in
    inl (found.0, found.1, c.undetermined.ensures found.0 found.1 found.2)

pub returns-in-Some-clause-reads : goal.returns-in-Some-clause-reads
returns-in-Some-clause-reads g c =
    let found = c.in-Some.ensures.some in
    let is : c.undetermined.result ≡ Undetermined found.0 found.1 = c.undetermined.ensures found.0 found.1 found.2 in
    reads_as g.D.Disk.reveals (c.plan_object.result ≡ Err search.DiskFault) _ (g.D.Disk.state c.args.disk.now) (g.D.Disk.state c.plan_object.new.disk)
    (λ e. let other : c.undetermined.result ≡ DiskFault = (let h = e in cc) in let never : Undetermined found.0 found.1 ≡ DiskFault = sym is ∙ other in absurd (cc))
    (λ e. absurd (let ok = c.in-Ok.is in cc)) c.plan_object.ensures.reads

pub returns-in-Ok-check_sums-clause-planned : goal.returns-in-Ok-check_sums-clause-planned
returns-in-Ok-check_sums-clause-planned g c k b below =
    let v = c.args.ledger.now in
    let files = (g.D.Disk.state c.args.disk.now).files in
    let mid = (g.D.Disk.state c.plan_object.new.disk).files in
    let blocks = data_under (get v.objects c.args.name.now) in
    let plan = c.in-Ok.plan in
    record {
      lattice = c.in-Ok.ensures.lattice;
      are = c.in-Ok.ensures.fates;
      given = c.in_default.ensures.none k b below;
      right = λ revealed known survivors.
          let right = c.in-Ok.ensures.right revealed known survivors in
          record { survivors = right.survivors; right = right.right; marked = right.marked k b below };
      checked = λ revealed.
          let same : mid ≡ files = c.plan_object.ensures.reads.contents revealed in
          let some = c.survivors_are_revealed.ensures v.shape v.lattice.n v.digests files in
          let all : All (IsChecked v files plan.search.unknown plan.fates) blocks =
          subst (λ (f : Files). All (IsChecked v f plan.search.unknown plan.fates) blocks) same
          (subst (λ (m : Marked). All (IsChecked v mid m plan.fates) blocks) c.unknown.ensures.unknown
          (c.in-Ok-check_sums.ensures.checked revealed some.0
          (subst (λ (m : Marked). IsRightPlan v mid m plan.fates blocks some.0) (sym c.unknown.ensures.unknown)
          (subst (λ (f : Files). IsRightPlan v f plan.search.unknown plan.fates blocks some.0) (sym same) (c.in-Ok.ensures.right revealed some.0 some.1))))) in
          all k b below;
    }

pub returns-in-Ok-check_sums-clause-determined : goal.returns-in-Ok-check_sums-clause-determined
returns-in-Ok-check_sums-clause-determined g c revealed known survivors =
    let v = c.args.ledger.now in
    let plan = c.in-Ok.plan in
    inl (determined_by c.sums_are_determined.ensures c.passing_are_among.ensures v (g.D.Disk.state c.args.disk.now).files plan.search.unknown plan.fates (data_under (get v.objects c.args.name.now)) known c.in-Ok.ensures.fates
    (subst (All (HasBlock v.lattice)) c.new-blocks.ensures.all c.new-blocks.ensures.inside) (c.in-Ok.ensures.right revealed known survivors) c.in_default.ensures.none)

pub returns-in-Ok-check_sums-clause-reads : goal.returns-in-Ok-check_sums-clause-reads
returns-in-Ok-check_sums-clause-reads g c =
    let first = c.plan_object.result ≡ Err search.DiskFault in
    let second = c.check_sums.result ≡ Err payload.DiskFault in
    reads_as g.D.Disk.reveals second _ (g.D.Disk.state c.args.disk.now) (g.D.Disk.state c.check_sums.new.disk) (λ is. let e = is in cc) (λ is. absurd (let ok = c.in-Ok-check_sums.is in cc))
    (reads_both g.D.Disk.reveals first second (g.D.Disk.state c.args.disk.now) (g.D.Disk.state c.plan_object.new.disk) (g.D.Disk.state c.check_sums.new.disk) (λ is. let ok = c.in-Ok.is in cc) c.plan_object.ensures.reads c.check_sums.ensures.reads)

pub returns-in-Err-clause-undetermined : goal.returns-in-Err-clause-undetermined
returns-in-Err-clause-undetermined g c b nodes e =
    let is : fetch_fault c.in-Err.fault ≡ Undetermined b nodes = sym c.from.ensures ∙ (let h = e in cc) in
    absurd (never_open c.in-Err.fault b nodes is)

pub returns-in-Err-clause-determined : goal.returns-in-Err-clause-determined
returns-in-Err-clause-determined g c revealed known survivors =
    let v = c.args.ledger.now in
    let plan = c.in-Ok.plan in
    inl (determined_by c.sums_are_determined.ensures c.passing_are_among.ensures v (g.D.Disk.state c.args.disk.now).files plan.search.unknown plan.fates (data_under (get v.objects c.args.name.now)) known c.in-Ok.ensures.fates
    (subst (All (HasBlock v.lattice)) c.new-blocks.ensures.all c.new-blocks.ensures.inside) (c.in-Ok.ensures.right revealed known survivors) c.in_default.ensures.none)

pub returns-in-Err-clause-clash : goal.returns-in-Err-clause-clash
returns-in-Err-clause-clash g c d revealed computed e =
    let is : fetch_fault c.in-Err.fault ≡ Clash d revealed computed = sym c.from.ensures ∙ (let h = e in cc) in
    c.check_sums.ensures.clash d revealed computed (c.in-Err.is ∙ ap Err (clash_from c.in-Err.fault d revealed computed is))

pub returns-in-Err-clause-computed : goal.returns-in-Err-clause-computed
returns-in-Err-clause-computed g c d revealed computed e reveal known survivors =
    let v = c.args.ledger.now in
    let files = (g.D.Disk.state c.args.disk.now).files in
    let mid = (g.D.Disk.state c.plan_object.new.disk).files in
    let blocks = data_under (get v.objects c.args.name.now) in
    let plan = c.in-Ok.plan in
    let same : mid ≡ files = c.plan_object.ensures.reads.contents reveal in
    let is : fetch_fault c.in-Err.fault ≡ Clash d revealed computed = sym c.from.ensures ∙ (let h = e in cc) in
    subst (λ (f : Files). IsOneOf blocks d × ((known d ≡ false) × IsClash v known f d revealed computed)) same
    (c.check_sums.ensures.computed d revealed computed (c.in-Err.is ∙ ap Err (clash_from c.in-Err.fault d revealed computed is)) reveal known
    (subst (λ (m : Marked). IsRightPlan v mid m plan.fates blocks known) (sym c.unknown.ensures.unknown)
    (subst (λ (f : Files). IsRightPlan v f plan.search.unknown plan.fates blocks known) (sym same) (c.in-Ok.ensures.right reveal known survivors))))

pub returns-in-Err-clause-faults : goal.returns-in-Err-clause-faults
returns-in-Err-clause-faults g c = subst IsFirstFault (sym c.from.ensures) (first_fault c.in-Err.fault)

pub returns-in-Err-clause-reads : goal.returns-in-Err-clause-reads
returns-in-Err-clause-reads g c =
    let first = c.plan_object.result ≡ Err search.DiskFault in
    let second = c.check_sums.result ≡ Err payload.DiskFault in
    reads_as g.D.Disk.reveals second _ (g.D.Disk.state c.args.disk.now) (g.D.Disk.state c.check_sums.new.disk)
    (λ e. let is : fetch_fault c.in-Err.fault ≡ DiskFault = sym c.from.ensures ∙ (let h = e in cc) in c.in-Err.is ∙ ap Err (disk_from c.in-Err.fault is))
    (λ e. let is : c.in-Err.fault ≡ payload.DiskFault = (let h = sym c.in-Err.is ∙ e in cc) in ap Err (c.from.ensures ∙ ap fetch_fault is))
    (reads_both g.D.Disk.reveals first second (g.D.Disk.state c.args.disk.now) (g.D.Disk.state c.plan_object.new.disk) (g.D.Disk.state c.check_sums.new.disk) (λ is. let ok = c.in-Ok.is in cc) c.plan_object.ensures.reads c.check_sums.ensures.reads)
