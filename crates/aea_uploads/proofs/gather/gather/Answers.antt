use Rattle.std.proofs.Common.{◌≡◌, ◌≢◌, ℕ, ◌+◌, ◌<◌, ◌≤◌, length, take, All, refl, sym, ◌∙◌, ap, subst, arith}
use Rattle.std.proofs.lemmas.Bool.Decides.{nat_tests}
use Rattle.std.proofs.lemmas.List.{length-take, take_all}
use Rattle.aea_catalog.specs.declared.objects.Extent.{Extent}
use Rattle.sha2.specs.Hashers.{Holds256}
use Rattle.aea_append.specs.declared.fault.PutFault.TheVariants.{DiskFault}
use Rattle.aea_uploads.proofs.Pushes.{runs-before}
use Rattle.aea_uploads.proofs.Gathered.{gathers_part, gathers_full}
use Rattle.aea_archive.proofs.Writes.{cells_none, cells_as}
use Rattle.aea_uploads.proofs.Faults.{fault_as}
use Rattle.aea_uploads.proofs.gather.gather.Goals as goal

pub push_node-requires-clause-before : goal.push_node-requires-clause-before
push_node-requires-clause-before g c =
    let k = c.requires.keeps in
    let end : length c.requires.keeps.datas + 1 ≡ c.next_node.result = omega (arith, k.many, c.next_node.ensures) in
    subst (λ (m : ℕ). All (λ (e : Extent). e.first + e.count ≤ m) c.fill_rest-count.new.slot.parts.items) end
    (subst (All (λ (e : Extent). e.first + e.count ≤ length c.requires.keeps.datas + 1)) (sym (c.fill_rest-count.ensures.parts ∙ k.keeps.parts)) (runs-before 0 (length c.requires.keeps.datas) k.upload.nodes k.keeps.rise))

pub returns-then-slot-size-clause-gathers : goal.returns-then-slot-size-clause-gathers
returns-then-slot-size-clause-gathers g c =
    let k = c.requires.keeps.keeps in
    let fill = c.fill_rest-count.ensures in
    let long : length (take c.fill_rest-count.result c.args.bytes.now) ≡ c.fill_rest-count.result = omega (arith, length-take c.fill_rest-count.result c.args.bytes.now, fill.count) in
    let less : c.fill_rest-count.new.slot.have < c.args.shape.now.block = grind (arith, nat_tests, c.if-slot-size.true, c.block-size.ensures) in
    gathers_part g.D.Disk.reveals c.args.shape.now (take c.fill_rest-count.result c.args.bytes.now) c.args.heads.now c.args.slot.now _ c.args.digests.now.items (g.D.Disk.state c.args.disk.now).files
    fill.name fill.parts (let l = fill.length in omega (arith, l, long)) (λ m h. c.update.ensures m (subst (λ x. Holds256 x m) (sym fill.hasher) h))
    (fill.have ∙ ap (λ (n : ℕ). c.args.slot.now.have + n) (sym long)) less (fill.long ∙ k.room) fill.filled

pub returns-clause-gathers : goal.returns-clause-gathers
returns-clause-gathers g c =
    let k = c.requires.keeps.keeps in
    let fill = c.fill_rest-count.ensures in
    let small = k.less in
    let room = k.room in
    let count = fill.count in
    let have = fill.have in
    let long : length (take c.fill_rest-count.result c.args.bytes.now) ≡ c.fill_rest-count.result = omega (arith, length-take c.fill_rest-count.result c.args.bytes.now, count) in
    let all : c.args.shape.now.block ≤ c.fill_rest-count.new.slot.have = grind (arith, nat_tests, c.if-slot-size.false, c.block-size.ensures) in
    let same : length c.fill_rest-count.new.slot.block.items ≡ c.args.shape.now.block = fill.long ∙ k.room in
    gathers_full g.D.Disk.reveals c.args.shape.now (take c.fill_rest-count.result c.args.bytes.now) c.as_slice.result.now c.args.heads.now c.weave_node.new.heads c.args.slot.now _ c.args.digests.now.items c.weave_node.new.digests.items c.next_node.result (g.D.Disk.state c.args.disk.now).files (g.D.Disk.state c.weave_node.new.disk).files
    fill.name c.next_node.ensures (λ nodes here. c.in-Ok.ensures nodes (fill.parts ∙ here))
    (let l = fill.length in omega (arith, l, long)) (λ m h. c.update.ensures m (subst (λ x. Holds256 x m) (sym fill.hasher) h))
    refl (omega (arith, small)) same (ap length c.as_slice.ensures.value ∙ same) (omega (arith, long, have, count, room, all, small))
    (c.as_slice.ensures.value ∙ sym (take_all c.fill_rest-count.new.slot.have c.fill_rest-count.new.slot.block.items (omega (arith, same, all))) ∙ fill.filled)
    c.weave_node.ensures.grown c.weave_node.ensures.size c.in-Ok-weave_node.ensures.values c.in-Ok-weave_node.ensures.intact

pub returns-then-slot-size-clause-writes : goal.returns-then-slot-size-clause-writes
returns-then-slot-size-clause-writes g c nodes within =
    cells_none g.D.Disk.reveals _ c.args.shape.now nodes (λ a. a.node ≢ c.args.heads.now.lattice.n + 1) (g.D.Disk.state c.args.disk.now) (λ is. absurd (let e = is in cc))

pub returns-in-Err-clause-writes : goal.returns-in-Err-clause-writes
returns-in-Err-clause-writes g c nodes within =
    cells_none g.D.Disk.reveals _ c.args.shape.now nodes (λ a. a.node ≢ c.args.heads.now.lattice.n + 1) (g.D.Disk.state c.args.disk.now) (λ is. absurd (let e = is in cc))

pub returns-in-Err-weave_node-clause-writes : goal.returns-in-Err-weave_node-clause-writes
returns-in-Err-weave_node-clause-writes g c nodes within =
    let fill = c.fill_rest-count.ensures in
    let count = fill.count in
    let have = fill.have in
    let all : c.args.shape.now.block ≤ c.fill_rest-count.new.slot.have = grind (arith, nat_tests, c.if-slot-size.false, c.block-size.ensures) in
    cells_as g.D.Disk.reveals _ _ c.args.shape.now nodes (λ a. a.node ≢ c.args.heads.now.lattice.n + 1) (g.D.Disk.state c.args.disk.now) (g.D.Disk.state c.weave_node.new.disk) (λ is. c.in-Err-weave_node.is ∙ fault_as c.in-Err-weave_node.fault DiskFault is) (λ is. cc) (c.weave_node.ensures.writes nodes (within (omega (arith, all, have, count))))

pub returns-clause-writes : goal.returns-clause-writes
returns-clause-writes g c nodes within =
    let fill = c.fill_rest-count.ensures in
    let count = fill.count in
    let have = fill.have in
    let all : c.args.shape.now.block ≤ c.fill_rest-count.new.slot.have = grind (arith, nat_tests, c.if-slot-size.false, c.block-size.ensures) in
    cells_as g.D.Disk.reveals _ _ c.args.shape.now nodes (λ a. a.node ≢ c.args.heads.now.lattice.n + 1) (g.D.Disk.state c.args.disk.now) (g.D.Disk.state c.weave_node.new.disk) (λ is. absurd (let e = is in cc)) (λ is. absurd (cc)) (c.weave_node.ensures.writes nodes (within (omega (arith, all, have, count))))

pub returns-in-Err-weave_node-clause-padded : goal.returns-in-Err-weave_node-clause-padded
returns-in-Err-weave_node-clause-padded g c fine revealed =
    c.weave_node.ensures.padded (λ bad. fine (fault_as c.in-Err-weave_node.fault DiskFault (sym c.in-Err-weave_node.is ∙ bad))) revealed
