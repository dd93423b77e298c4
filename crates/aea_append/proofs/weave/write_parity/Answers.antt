use Rattle.std.proofs.Common.{◌≡◌, ◌≢◌, ℕ, ◌-◌, Err, ◌∙◌, ap, subst, arith}
use Rattle.aea_lattice.specs.Blocks.{block_of}
use Rattle.aea_append.specs.declared.fault.PutFault.TheVariants.{DiskFault}
use Rattle.aea_archive.specs.Cells.{WritesCells}
use Rattle.aea_archive.proofs.Writes.{cells_none}
use Rattle.aea_append.proofs.weave.write_parity.Goals as goal

pub returns-then-class-alpha-clause-writes : goal.returns-then-class-alpha-clause-writes
returns-then-class-alpha-clause-writes g c nodes within =
    cells_none g.D.Disk.reveals _ c.args.shape.now nodes (λ a. a ≢ block_of c.args.heads.now.lattice.n c.args.class) (g.D.Disk.state c.args.disk.now) (λ is. absurd (let e = is in cc))

pub write_block-requires-clause-payload : goal.write_block-requires-clause-payload
write_block-requires-clause-payload g c = c.parity.ensures.wide ∙ c.requires.size

pub returns-clause-writes : goal.returns-clause-writes
returns-clause-writes g c nodes within =
    let node : c.next_node-node.result - 1 ≡ c.args.heads.now.lattice.n = omega (arith, c.next_node-node.ensures) in
    subst (λ (n : ℕ). WritesCells g.D.Disk.reveals c.args.shape.now nodes (λ a. a ≢ block_of n c.args.class) (c.write_block.result ≡ Err DiskFault) (g.D.Disk.state c.args.disk.now) (g.D.Disk.state c.write_block.new.disk)) node (c.write_block.ensures.writes nodes (omega (arith, node, within)))

pub returns-clause-padded : goal.returns-clause-padded
returns-clause-padded g c fine revealed a has other =
    let node : c.next_node-node.result - 1 ≡ c.args.heads.now.lattice.n = omega (arith, c.next_node-node.ensures) in
    c.write_block.ensures.padded fine revealed a has (λ same. other (same ∙ ap (λ (n : ℕ). block_of n c.args.class) node))
