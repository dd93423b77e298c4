use Rattle.std.proofs.Common.{◌≡◌, List, length, Err, sym, ◌∙◌, ap, subst, arith}
use Rattle.std.specs.FinMap.{get}
use Rattle.aea_lattice.specs.declared.blocks.BlockId.{BlockId}
use Rattle.aea_lattice.specs.Blocks.{HasBlock}
use Rattle.aea_disk.specs.Files.{Files}
use Rattle.aea_disk.proofs.Frames.{reads_none, reads_both, reads_as}
use Rattle.aea_archive.specs.Objects.{data_under, IsOneOf}
use Rattle.aea_fetch.proofs.Loops.{HasSeen, seen_none, seen_more, seen_one, seen_all}
use Rattle.aea_restore.specs.Drawn.{IsClash}
use Rattle.aea_degraded.specs.declared.fault.PayloadFault.TheVariants.{DiskFault}
use Rattle.aea_degraded.specs.Planned.{IsGiven}
use Rattle.aea_degraded.proofs.Checked.{has_one, right_one, found_at, checked_at, UnderPlan}
use Rattle.aea_degraded.proofs.checking.check_sums.Goals as goal

pub loop-b-init : goal.loop-b-init
loop-b-init g c =
    let v = c.args.ledger.now in
    let all = data_under (get v.objects c.args.name.now) in
    let good = UnderPlan v (g.D.Disk.state c.args.disk.now).files c.args.damaged.now c.args.fates.now all in
    record {
      cell = c.requires.cell;
      sum = c.requires.sum;
      seen = subst (HasSeen g.D.Disk.reveals good all) (sym c.new-blocks.ensures.all) (seen_none g.D.Disk.reveals good all);
      reads = reads_none g.D.Disk.reveals ⊥ (g.D.Disk.state c.args.disk.now) (λ none. none);
    }

pub check_sum-requires-clause-block : goal.check_sum-requires-clause-block
check_sum-requires-clause-block g c =
    let v = c.args.ledger.now in
    let all = data_under (get v.objects c.args.name.now) in
    let good = UnderPlan v (g.D.Disk.state c.args.disk.now).files c.args.damaged.now c.args.fates.now all in
    let one = seen_one g.D.Disk.reveals good all c.next.new.self c.in-Some.b (subst (HasSeen g.D.Disk.reveals good all) c.in-Some.ensures c.loop-b.invariant.seen) in
    has_one (HasBlock v.lattice) c.new-blocks.result c.in-Some.b (subst (λ (bs : List BlockId). IsOneOf bs c.in-Some.b) (sym c.new-blocks.ensures.all) one) c.new-blocks.ensures.inside

pub check_sum-requires-clause-given : goal.check_sum-requires-clause-given
check_sum-requires-clause-given g c =
    let v = c.args.ledger.now in
    let all = data_under (get v.objects c.args.name.now) in
    let good = UnderPlan v (g.D.Disk.state c.args.disk.now).files c.args.damaged.now c.args.fates.now all in
    let one = seen_one g.D.Disk.reveals good all c.next.new.self c.in-Some.b (subst (HasSeen g.D.Disk.reveals good all) c.in-Some.ensures c.loop-b.invariant.seen) in
    has_one (IsGiven c.args.fates.now) all c.in-Some.b one c.requires.given

pub loop-b-smaller : goal.loop-b-smaller
loop-b-smaller g c = let long = ap length c.in-Some.ensures in omega (arith, long)

pub loop-b-preserved : goal.loop-b-preserved
loop-b-preserved g c =
    let v = c.args.ledger.now in
    let reveals = g.D.Disk.reveals in
    let damaged = c.args.damaged.now in
    let fates = c.args.fates.now in
    let old = g.D.Disk.state c.args.disk.now in
    let mid = g.D.Disk.state c.loop-b.disk in
    let all = data_under (get v.objects c.args.name.now) in
    let good = UnderPlan v old.files damaged fates all in
    let seen = subst (HasSeen reveals good all) c.in-Some.ensures c.loop-b.invariant.seen in
    let one = seen_one reveals good all c.next.new.self c.in-Some.b seen in
    record {
      cell = c.check_sum.auto.cell ∙ c.loop-b.invariant.cell;
      sum = c.check_sum.auto.sum ∙ c.loop-b.invariant.sum;
      seen = seen_more reveals good all c.next.new.self c.in-Some.b seen
          (λ revealed known plan.
          let same = c.loop-b.invariant.reads.contents revealed in
          checked_at v mid.files old.files damaged fates c.in-Some.b same
          (c.in-Ok.ensures.checked revealed known (found_at v old.files mid.files damaged fates c.in-Some.b known (sym same) (right_one v old.files damaged fates all c.in-Some.b known one plan))));
      reads = reads_as reveals (c.check_sum.result ≡ Err DiskFault) ⊥ old (g.D.Disk.state c.check_sum.new.disk) (λ none. absurd none) (λ is. absurd (cc))
          (reads_both reveals ⊥ (c.check_sum.result ≡ Err DiskFault) old mid (g.D.Disk.state c.check_sum.new.disk) (λ none. none) c.loop-b.invariant.reads c.check_sum.ensures.reads);
    }

pub returns-in-Err-clause-clash : goal.returns-in-Err-clause-clash
returns-in-Err-clause-clash g c d revealed computed is = c.check_sum.ensures.clash d revealed computed (c.in-Err.is ∙ is)

pub returns-in-Err-clause-computed : goal.returns-in-Err-clause-computed
returns-in-Err-clause-computed g c d revealed computed is reveals known plan =
    let v = c.args.ledger.now in
    let damaged = c.args.damaged.now in
    let fates = c.args.fates.now in
    let old = g.D.Disk.state c.args.disk.now in
    let mid = g.D.Disk.state c.loop-b.disk in
    let b = c.in-Some.b in
    let all = data_under (get v.objects c.args.name.now) in
    let good = UnderPlan v old.files damaged fates all in
    let one = seen_one g.D.Disk.reveals good all c.next.new.self b (subst (HasSeen g.D.Disk.reveals good all) c.in-Some.ensures c.loop-b.invariant.seen) in
    let same = c.loop-b.invariant.reads.contents reveals in
    let found = found_at v old.files mid.files damaged fates b known (sym same) (right_one v old.files damaged fates all b known one plan) in
    let r = c.check_sum.ensures.computed d revealed computed (c.in-Err.is ∙ is) reveals known found in
    (subst (IsOneOf all) (sym r.0) one, (ap known r.0 ∙ r.1.0, subst (λ (f : Files). IsClash v known f d revealed computed) same r.1.1))

pub returns-in-Err-clause-reads : goal.returns-in-Err-clause-reads
returns-in-Err-clause-reads g c =
    let mine = c.check_sum.result ≡ Err DiskFault in
    reads_as g.D.Disk.reveals mine _ (g.D.Disk.state c.args.disk.now) (g.D.Disk.state c.check_sum.new.disk) (λ is. c.in-Err.is ∙ is) (λ is. cc)
    (reads_both g.D.Disk.reveals ⊥ mine (g.D.Disk.state c.args.disk.now) (g.D.Disk.state c.loop-b.disk) (g.D.Disk.state c.check_sum.new.disk) (λ none. none) c.loop-b.invariant.reads c.check_sum.ensures.reads)

pub returns-clause-checked : goal.returns-clause-checked
returns-clause-checked g c revealed known plan =
    let v = c.args.ledger.now in
    let all = data_under (get v.objects c.args.name.now) in
    let good = UnderPlan v (g.D.Disk.state c.args.disk.now).files c.args.damaged.now c.args.fates.now all in
    let each = seen_all g.D.Disk.reveals good all (subst (HasSeen g.D.Disk.reveals good all) c.in_default.ensures.0 c.loop-b.invariant.seen) revealed in
    λ k d lt. each k d lt known plan

pub returns-clause-reads : goal.returns-clause-reads
returns-clause-reads g c =
    reads_as g.D.Disk.reveals ⊥ _ (g.D.Disk.state c.args.disk.now) (g.D.Disk.state c.loop-b.disk) (λ is. let e = is in cc) (λ none. absurd none) c.loop-b.invariant.reads
