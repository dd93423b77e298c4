use Rattle.std.proofs.Common.{◌≡◌, ◌≢◌, ℕ, ◌+◌, ◌-◌, ◌≤◌, ◌++◌, length, take, replicate, All, sym, ◌∙◌, ap, subst, arith}
use Rattle.std.proofs.lemmas.Bool.Decides.{nat_tests}
use Rattle.aea_catalog.specs.declared.objects.Extent.{Extent}
use Rattle.sha2.specs.Hashers.{Holds256}
use Rattle.aea_uploads.proofs.Pushes.{runs-before}
use Rattle.aea_uploads.proofs.Gathered.{finishes_none, finishes_full}
use Rattle.aea_archive.proofs.Writes.{cells_none, cells_as}
use Rattle.aea_uploads.proofs.close.finish_rest.Goals as goal

pub returns-then-slot-eq0-clause-finishes : goal.returns-then-slot-eq0-clause-finishes
returns-then-slot-eq0-clause-finishes g c =
    let less = c.requires.keeps.keeps.less in
    finishes_none g.D.Disk.reveals c.args.shape.now c.args.heads.now c.args.slot.now c.args.digests.now.items (g.D.Disk.state c.args.disk.now).files (grind (arith, nat_tests, c.if-slot-eq0.true)) (omega (arith, less))

pub returns-then-slot-eq0-clause-writes : goal.returns-then-slot-eq0-clause-writes
returns-then-slot-eq0-clause-writes g c nodes within =
    cells_none g.D.Disk.reveals _ c.args.shape.now nodes (λ a. a.node ≢ c.args.heads.now.lattice.n + 1) (g.D.Disk.state c.args.disk.now) (λ is. absurd (let e = is in cc))

pub push_node-requires-clause-before : goal.push_node-requires-clause-before
push_node-requires-clause-before g c =
    let k = c.requires.keeps in
    let end : length c.requires.keeps.datas + 1 ≡ c.next_node.result = omega (arith, k.many, c.next_node.ensures) in
    subst (λ (m : ℕ). All (λ (e : Extent). e.first + e.count ≤ m) c.pad_rest.new.slot.parts.items) end
    (subst (All (λ (e : Extent). e.first + e.count ≤ length c.requires.keeps.datas + 1)) (sym (c.pad_rest.ensures.parts ∙ k.keeps.parts)) (runs-before 0 (length c.requires.keeps.datas) k.upload.nodes k.keeps.rise))

pub returns-in-Err-clause-writes : goal.returns-in-Err-clause-writes
returns-in-Err-clause-writes g c nodes within =
    cells_none g.D.Disk.reveals _ c.args.shape.now nodes (λ a. a.node ≢ c.args.heads.now.lattice.n + 1) (g.D.Disk.state c.args.disk.now) (λ is. absurd (let e = is in cc))

pub returns-in-Ok-weave_node-clause-writes : goal.returns-in-Ok-weave_node-clause-writes
returns-in-Ok-weave_node-clause-writes g c nodes within =
    let some : 1 ≤ c.args.slot.now.have = grind (arith, nat_tests, c.if-slot-eq0.false) in
    cells_as g.D.Disk.reveals _ _ c.args.shape.now nodes (λ a. a.node ≢ c.args.heads.now.lattice.n + 1) (g.D.Disk.state c.args.disk.now) (g.D.Disk.state c.weave_node.new.disk) (λ is. absurd (let e = is in cc)) (λ is. absurd (cc)) (c.weave_node.ensures.writes nodes (within some))

pub returns-in-Err-weave_node-clause-writes : goal.returns-in-Err-weave_node-clause-writes
returns-in-Err-weave_node-clause-writes g c nodes within =
    let some : 1 ≤ c.args.slot.now.have = grind (arith, nat_tests, c.if-slot-eq0.false) in
    cells_as g.D.Disk.reveals _ _ c.args.shape.now nodes (λ a. a.node ≢ c.args.heads.now.lattice.n + 1) (g.D.Disk.state c.args.disk.now) (g.D.Disk.state c.weave_node.new.disk) (λ is. c.in-Err-weave_node.is ∙ is) (λ is. cc) (c.weave_node.ensures.writes nodes (within some))

pub returns-in-Ok-weave_node-clause-finishes : goal.returns-in-Ok-weave_node-clause-finishes
returns-in-Ok-weave_node-clause-finishes g c =
    let k = c.requires.keeps in
    let less = k.keeps.less in
    let some : 1 ≤ c.args.slot.now.have = grind (arith, nat_tests, c.if-slot-eq0.false) in
    let block : c.as_slice.result.now ≡ c.pad_rest.new.slot.block.items = c.as_slice.ensures.value in
    let is : c.as_slice.result.now ≡ take c.args.slot.now.have c.args.slot.now.block.items ++ replicate (c.args.shape.now.block - c.args.slot.now.have) 0 =
    c.as_slice.ensures.value ∙ c.pad_rest.ensures.filled ∙ ap (λ (n : ℕ). take c.args.slot.now.have c.args.slot.now.block.items ++ replicate (n - c.args.slot.now.have) 0) k.keeps.room in
    finishes_full g.D.Disk.reveals c.args.shape.now c.as_slice.result.now c.args.heads.now c.weave_node.new.heads c.args.slot.now _ c.args.digests.now.items c.weave_node.new.digests.items c.next_node.result (g.D.Disk.state c.args.disk.now).files (g.D.Disk.state c.weave_node.new.disk).files
    c.pad_rest.ensures.name c.next_node.ensures (λ nodes here. c.in-Ok.ensures nodes (c.pad_rest.ensures.parts ∙ here))
    c.pad_rest.ensures.length (λ m h. subst (λ x. Holds256 x m) (sym c.pad_rest.ensures.hasher) h)
    some (omega (arith, less)) (ap length c.as_slice.ensures.value ∙ c.pad_rest.ensures.long ∙ k.keeps.room) is c.weave_node.ensures.grown c.weave_node.ensures.size c.in-Ok-weave_node.ensures.values c.in-Ok-weave_node.ensures.intact
