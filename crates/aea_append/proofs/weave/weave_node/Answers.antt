use Rattle.std.proofs.Common.{◌≡◌, ◌≢◌, ℕ, ◌+◌, ◌<◌, ◌^◌, Err, List, [], ◌∷◌, ◌++◌, sym, ◌∙◌, subst, arith}
use Rattle.std.proofs.lemmas.List.Elements.{All-from_get_or}
use Rattle.aea_append.specs.declared.fault.PutFault.TheVariants.{DiskFault}
use Rattle.aea_archive.specs.Cells.{WritesCells}
use Rattle.aea_append.specs.Weaving.{HasWoven, IsWovenOf, AreIntactOn}
use Rattle.aea_shelf.proofs.Cells.{keeps_intact}
use Rattle.aea_append.proofs.Steps.{woven_step}
use Rattle.aea_append.proofs.Valued.{values_step, intact_step}
use Rattle.aea_archive.proofs.Writes.{cells_as}
use Rattle.aea_append.proofs.weave.weave_node.Goals as goal

pub returns-in-Err-clause-writes : goal.returns-in-Err-clause-writes
returns-in-Err-clause-writes g c nodes within =
    let node : c.step.new.self.lattice.n ≡ c.args.heads.now.lattice.n + 1 = c.step.ensures.weaves.grown.nodes in
    cells_as g.D.Disk.reveals (c.write_node.result ≡ Err DiskFault) _ c.args.shape.now nodes (λ a. a.node ≢ c.args.heads.now.lattice.n + 1) (g.D.Disk.state c.args.disk.now) (g.D.Disk.state c.write_node.new.disk) (λ is. c.in-Err.is ∙ is) (λ is. cc)
    (subst (λ (n : ℕ). WritesCells g.D.Disk.reveals c.args.shape.now nodes (λ a. a.node ≢ n) (c.write_node.result ≡ Err DiskFault) (g.D.Disk.state c.args.disk.now) (g.D.Disk.state c.write_node.new.disk)) node (c.write_node.ensures.writes nodes (omega (arith, node, within))))

pub returns-in-Ok-clause-writes : goal.returns-in-Ok-clause-writes
returns-in-Ok-clause-writes g c nodes within =
    let node : c.step.new.self.lattice.n ≡ c.args.heads.now.lattice.n + 1 = c.step.ensures.weaves.grown.nodes in
    cells_as g.D.Disk.reveals (c.write_node.result ≡ Err DiskFault) _ c.args.shape.now nodes (λ a. a.node ≢ c.args.heads.now.lattice.n + 1) (g.D.Disk.state c.args.disk.now) (g.D.Disk.state c.write_node.new.disk) (λ is. absurd (let e = is in cc)) (λ is. absurd (cc))
    (subst (λ (n : ℕ). WritesCells g.D.Disk.reveals c.args.shape.now nodes (λ a. a.node ≢ n) (c.write_node.result ≡ Err DiskFault) (g.D.Disk.state c.args.disk.now) (g.D.Disk.state c.write_node.new.disk)) node (c.write_node.ensures.writes nodes (omega (arith, node, within))))

pub returns-in-Err-clause-padded : goal.returns-in-Err-clause-padded
returns-in-Err-clause-padded g c fine revealed a has other =
    let node : c.step.new.self.lattice.n ≡ c.args.heads.now.lattice.n + 1 = c.step.ensures.weaves.grown.nodes in
    c.write_node.ensures.padded (λ bad. fine (sym c.in-Err.is ∙ bad)) revealed a has (λ same. other (same ∙ node))

pub returns-in-Ok-clause-padded : goal.returns-in-Ok-clause-padded
returns-in-Ok-clause-padded g c fine revealed a has other =
    let node : c.step.new.self.lattice.n ≡ c.args.heads.now.lattice.n + 1 = c.step.ensures.weaves.grown.nodes in
    c.write_node.ensures.padded (λ bad. absurd (let was = c.in-Ok.is in cc)) revealed a has (λ same. other (same ∙ node))

pub returns-in-Ok-clause-woven : goal.returns-in-Ok-clause-woven
returns-in-Ok-clause-woven g c l recorded first datas has =
    let shape = c.args.shape.now in
    let v = c.args.heads.now in
    let w = c.step.new.self in
    let x = c.args.datum.now in
    let old = g.D.Disk.state c.args.disk.now in
    let new = g.D.Disk.state c.write_node.new.disk in
    let node : c.step.new.self.lattice.n ≡ c.args.heads.now.lattice.n + 1 = c.step.ensures.weaves.grown.nodes in
    let alpha : c.step.new.self.lattice.alpha ≡ c.args.shape.now.alpha = c.step.ensures.weaves.grown.shape.alpha ∙ c.requires.alpha in
    subst (λ (d : List (List ℕ)). HasWoven g.D.Disk.reveals shape l recorded first new.files w (datas ++ x ∷ []) d) (sym c.in-Ok.ensures.digests)
    (woven_step c.lasts_enter.ensures g.D.Disk.reveals shape l recorded first old.files new.files v w datas c.args.digests.now.items x c.step.ensures.weaves (c.requires.datum ∙ sym c.requires.size) alpha has
    (λ revealed b bytes on wide here.
    ((c.write_node.ensures.writes w.lattice.n (omega arith)).contents revealed).homes b _ (record { first = (let a = on.after in omega (arith, a)); last = (let most = on.most in let range = v.lattice.in_range in omega (arith, most, range)); used = on.used })
    (λ same. (let most = on.most in omega (arith, same, node, most)))
    (let size = (c.cells_have_lengths.ensures b bytes).2 in omega (arith, size, wide)) here)
    c.in-Ok.ensures.cells c.in-Ok.ensures.wide)

pub returns-in-Ok-clause-values : goal.returns-in-Ok-clause-values
returns-in-Ok-clause-values g c l datas more is =
    let shape = c.args.shape.now in
    let v = c.args.heads.now in
    let w = c.step.new.self in
    let x = c.args.datum.now in
    let alpha : c.step.new.self.lattice.alpha ≡ c.args.shape.now.alpha = c.step.ensures.weaves.grown.shape.alpha ∙ c.requires.alpha in
    subst (λ (d : List (List ℕ)). IsWovenOf shape l w datas (more ++ x ∷ []) d) (sym c.in-Ok.ensures.digests)
    (values_step c.longer_data_keep_values.ensures shape l v w datas more c.args.digests.now.items x c.step.ensures.weaves (c.requires.datum ∙ sym c.requires.size) (All-from_get_or (λ (b : ℕ). b < 2 ^ 8) c.args.datum.now 0 (λ i inside. omega (arith, c.type_inv.datum i))) alpha is)

pub returns-in-Ok-clause-intact : goal.returns-in-Ok-clause-intact
returns-in-Ok-clause-intact g c before within are =
    let shape = c.args.shape.now in
    let v = c.args.heads.now in
    let w = c.step.new.self in
    let x = c.args.datum.now in
    let reveals = g.D.Disk.reveals in
    let old = g.D.Disk.state c.args.disk.now in
    let new = g.D.Disk.state c.write_node.new.disk in
    let node : c.step.new.self.lattice.n ≡ c.args.heads.now.lattice.n + 1 = c.step.ensures.weaves.grown.nodes in
    let alpha : c.step.new.self.lattice.alpha ≡ c.args.shape.now.alpha = c.step.ensures.weaves.grown.shape.alpha ∙ c.requires.alpha in
    subst (λ (d : List (List ℕ)). AreIntactOn reveals shape before w.lattice.n d new.files) (sym c.in-Ok.ensures.digests)
    (intact_step c.cells_have_lengths.ensures c.cells_have_parts.ensures reveals shape before v w x c.args.digests.now.items old.files new.files node alpha within
    (λ revealed b digest on.
    keeps_intact shape _ old.files new.files ((c.write_node.ensures.writes w.lattice.n (omega arith)).contents revealed).homes b digest
    (record { first = (let a = on.after in omega (arith, a)); last = (let most = on.most in let range = v.lattice.in_range in omega (arith, most, range)); used = on.used })
    (λ same. (let most = on.most in omega (arith, same, node, most))))
    c.in-Ok.ensures.cells c.in-Ok.ensures.wide are)
