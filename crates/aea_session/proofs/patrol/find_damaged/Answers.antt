use Rattle.std.proofs.Common.{◌≡◌, ℕ, ◌+◌, ◌-◌, [], ◌∷◌, ◌++◌, take, cond, refl, sym, ◌∙◌, ap, subst, arith}
use Rattle.std.specs.Prelude.{◌↔◌, IsTrue, IsErr}
use Rattle.aea_lattice.specs.declared.grid.Lattice.{Lattice}
use Rattle.aea_disk.specs.Files.{Files}
use Rattle.aea_disk.proofs.Frames.{ok_fine, reads_none, reads_both, reads_as}
use Rattle.aea_archive.specs.Blocks.{IsIntactBy}
use Rattle.aea_session.specs.Looks.{AreDamaged}
use Rattle.aea_session.proofs.LookingOver.{damaged_none, damaged_more}
use Rattle.aea_session.proofs.patrol.find_damaged.Goals as goal

pub loop-k-init : goal.loop-k-init
loop-k-init g c =
    let v = c.args.ledger.now in
    let old = g.D.Disk.state c.args.disk.now in
    let none : 0 ≡ c.args.first - c.args.first = omega arith in
    record {
      from = omega arith;
      within = c.requires.rising;
      few = omega arith;
      buffer = c.requires.buffer;
      long = c.requires.long;
      damaged = subst (λ (n : ℕ). AreDamaged g.D.Disk.reveals v old.files c.args.first n []) none (damaged_none g.D.Disk.reveals v old.files c.args.first);
      reads = reads_none g.D.Disk.reveals ⊥ old (λ none. none);
    }

pub returns-in-Err-clause-reads : goal.returns-in-Err-clause-reads
returns-in-Err-clause-reads g c =
    reads_as g.D.Disk.reveals (IsErr c.is_block_intact.result) _ (g.D.Disk.state c.args.disk.now) (g.D.Disk.state c.is_block_intact.new.disk) (λ is. subst IsErr (sym c.in-Err.is) refl) (λ _. refl)
    (reads_both g.D.Disk.reveals ⊥ (IsErr c.is_block_intact.result) (g.D.Disk.state c.args.disk.now) (g.D.Disk.state c.loop-k.disk) (g.D.Disk.state c.is_block_intact.new.disk) (λ none. none) c.loop-k.invariant.reads c.is_block_intact.ensures.reads)

pub loop-k-preserved : goal.loop-k-preserved
loop-k-preserved g c =
    let v = c.args.ledger.now in
    let old = g.D.Disk.state c.args.disk.now in
    let mid = g.D.Disk.state c.loop-k.disk in
    let new = g.D.Disk.state c.is_block_intact.new.disk in
    let reveals = g.D.Disk.reveals in
    let first = c.args.first in
    let k = c.loop-k.k in
    let inv = c.loop-k.invariant in
    let b = c.block.result in
    let from = inv.from in
    let below = c.loop-k-test.true in
    let most = c.put_number-found.ensures.most in
    let few = inv.few in
    let at : k ≡ first + (k - first) = omega (arith, from) in
    let next : (k - first) + 1 ≡ (k + 1) - first = omega (arith, from) in
    record {
      from = omega (arith, from);
      within = omega (arith, below);
      few = omega (arith, most, few);
      buffer = c.is_block_intact.auto.cell ∙ inv.buffer;
      long = c.put_number-found.auto.numbers ∙ inv.long;
      damaged = subst (λ (m : ℕ). AreDamaged reveals v old.files first m (take c.put_number-found.result c.put_number-found.new.numbers)) next
          (damaged_more reveals v old.files first (k - first) (take c.loop-k.found c.loop-k.numbers) b c.lattice-lattice.result c.in-Ok.intact inv.damaged
          c.lattice-lattice.ensures.of_shape.alpha (ap (λ (x : Lattice). x.n) c.lattice-lattice.ensures.value) c.block.ensures.block (c.block.ensures.number ∙ at)
          (λ revealed. subst (λ (f : Files). IsTrue c.in-Ok.intact ↔ IsIntactBy v.shape v.digests f b) (inv.reads.contents revealed) (c.in-Ok.ensures.intact revealed))
          (take c.put_number-found.result c.put_number-found.new.numbers)
          (c.put_number-found.ensures.first ∙ ap (λ (x : ℕ). take c.loop-k.found c.loop-k.numbers ++ cond c.in-Ok.intact [] (x ∷ [])) at));
      reads = reads_as reveals (IsErr c.is_block_intact.result) ⊥ old new (λ none. absurd none) (ok_fine c.in-Ok.is) (reads_both reveals ⊥ (IsErr c.is_block_intact.result) old mid new (λ none. none) inv.reads c.is_block_intact.ensures.reads);
    }

pub returns-clause-most : goal.returns-clause-most
returns-clause-most g c =
    let few = c.loop-k.invariant.few in
    let within = c.loop-k.invariant.within in
    let r = c.requires.rising in
    omega (arith, few, within, r)

pub returns-clause-damaged : goal.returns-clause-damaged
returns-clause-damaged g c =
    let within = c.loop-k.invariant.within in
    let past = c.loop-k-test.false in
    let all : c.loop-k.k ≡ c.args.end = omega (arith, within, past) in
    subst (λ (m : ℕ). AreDamaged g.D.Disk.reveals c.args.ledger.now (g.D.Disk.state c.args.disk.now).files c.args.first (m - c.args.first) (take c.loop-k.found c.loop-k.numbers)) all c.loop-k.invariant.damaged

pub returns-clause-reads : goal.returns-clause-reads
returns-clause-reads g c =
    reads_as g.D.Disk.reveals ⊥ _ (g.D.Disk.state c.args.disk.now) (g.D.Disk.state c.loop-k.disk) (λ is. let e = is in cc) (λ none. absurd none) c.loop-k.invariant.reads
