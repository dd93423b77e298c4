use Rattle.std.proofs.Common.{◌≡◌, ℕ, ◌+◌, ◌-◌, length, take, drop, arith, false, sym, ◌∙◌, ap}
use Rattle.std.proofs.lemmas.Bool.{or_left}
use Rattle.aea_lattice.specs.Blocks.{same_block}
use Rattle.aea_lattice.proofs.Equations.{same_block-refl}
use Rattle.aea_lattice.specs.Data.{xor_bytes}
use Rattle.aea_shelf.specs.Intact.{payload_in}
use Rattle.aea_restore.proofs.Judging.{judged_one}
use Rattle.aea_restore.proofs.sum.add_payload.Goals as goal

pub returns-in-Ok-clause-judged : goal.returns-in-Ok-clause-judged
returns-in-Ok-clause-judged g c =
    judged_one g.D.Disk.reveals c.args.ledger.now (g.D.Disk.state c.args.disk.now).files c.args.b c.args.sum.now (payload_in c.args.ledger.now.shape c.read_payload.new.read) c.xor_into.new.dst c.in-Ok.ensures.judged
    (let size : 16 + length c.args.sum.now - 16 ≡ c.args.ledger.now.shape.block = omega (arith, c.requires.sum) in c.xor_into.ensures ∙ ap (λ (n : ℕ). xor_bytes c.args.sum.now (take n (drop 16 c.read_payload.new.read))) size)

pub returns-in-Err-clause-found : goal.returns-in-Err-clause-found
returns-in-Err-clause-found g c d revealed computed is =
    let found = c.read_payload.ensures.found d revealed computed (c.in-Err.is ∙ is) in
    (or_left (same_block d c.args.b) false (ap (same_block d) (sym found.0) ∙ same_block-refl d), found.1)
