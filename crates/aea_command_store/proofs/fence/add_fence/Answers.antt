use Rattle.std.proofs.Common.{◌≡◌, ℕ, ◌+◌, Ok, Err, ap, refl}
use Rattle.aea_disk.specs.Files.{ChangesOnly}
use Rattle.aea_disk.proofs.Frames.{writes_as}
use Rattle.aea_ledger.specs.Taking.{FitsAdding}
use Rattle.aea_ledger.specs.declared.fences.FenceFault.{FenceFault}
use Rattle.aea_ledger.specs.declared.fences.FenceFault.TheVariants as fencing
use Rattle.aea_command.specs.Failures.{fence_failure}
use Rattle.aea_command_store.specs.Fence.{next_fence, FenceCauses}
use Rattle.aea_ledger.proofs.Recording.{fence_records}
use Rattle.aea_command_store.proofs.Adding.{adds_opening}
use Rattle.aea_command.proofs.Behind.{unopened_refuses}
use Rattle.aea_command_store.proofs.FenceLemmas.{fence_behind, IsUnfenced, unfenced_of, unfenced_adds, unfenced_refuses, unfenced_rest, IsFencedNow, StandsFenced, fenced_adds, fenced_refuses, fenced_rest, fenced_nodes}
use Rattle.aea_command.proofs.OpeningCases.{err_with}
use Rattle.aea_command_store.proofs.fence.add_fence.Given.{Over}
use Rattle.aea_command_store.proofs.fence.add_fence.Goals as goal

ok_not : (n : ℕ) (a : FenceFault) → Ok n ≡ Err a → ⊥
ok_not n a e = cc

pub returns-in_err-ledger-clause-adds : goal.returns-in_err-ledger-clause-adds
returns-in_err-ledger-clause-adds g c =
    let f = c.in_err-ledger.field-0.0 in
    rw (err_with c.from_residual.result f c.from_residual.ensures.1)
    (adds_opening next_fence (fence_records c.blocks_are_inside.ensures c.records_are_few.ensures) g.D.Disk.reveals (g.D.Disk.state c.args.disk.now) (g.D.Disk.state c.open.new.disk) f c.in_err-ledger.ensures)

pub returns-in_err-ledger-clause-refuses : goal.returns-in_err-ledger-clause-refuses
returns-in_err-ledger-clause-refuses g c =
    let f = c.in_err-ledger.field-0.0 in
    let old = g.D.Disk.state c.args.disk.now in
    rw (err_with c.from_residual.result f c.from_residual.ensures.1)
    (unopened_refuses g.D.Disk.reveals old (g.D.Disk.state c.open.new.disk) f (FenceCauses (old.files 0)) (fence_behind (old.files 0)) c.in_err-ledger.ensures)

-- what the call ensures that added none
not_fenced : (g : Over) (c : goal.After-drop-ledger-inside-in_err-append_fence-3 g) → IsUnfenced g.D.Disk.reveals c.in_ok-ledger.ledger c.in_err-append_fence.field-0.0 (g.D.Disk.state c.args.disk.now) (g.D.Disk.state c.open.new.disk) (g.D.Disk.state c.append_fence.new.disk)
not_fenced g c =
    let gave = c.in_err-append_fence.ensures in
    unfenced_of g.D.Disk.reveals c.in_ok-ledger.ledger c.in_err-append_fence.field-0.0 (g.D.Disk.state c.args.disk.now) (g.D.Disk.state c.open.new.disk) (g.D.Disk.state c.append_fence.new.disk)
    c.in_ok-ledger.ensures gave.already gave.many (λ differs. ap g.D.Disk.state (gave.unchanged refl differs).1) gave.leaves gave.writes

pub returns-in_err-append_fence-clause-adds : goal.returns-in_err-append_fence-clause-adds
returns-in_err-append_fence-clause-adds g c =
    rw (err_with c.from_residual-in_err-append_fence.result (fence_failure c.in_err-append_fence.field-0.0) c.from_residual-in_err-append_fence.ensures.1)
    (unfenced_adds c.ledgers_have_one_reading.ensures c.fences_may_follow.ensures c.blocks_are_inside.ensures c.records_are_few.ensures g.D.Disk.reveals _ _ _ _ _ (not_fenced g c))

pub returns-in_err-append_fence-clause-refuses : goal.returns-in_err-append_fence-clause-refuses
returns-in_err-append_fence-clause-refuses g c =
    rw (err_with c.from_residual-in_err-append_fence.result (fence_failure c.in_err-append_fence.field-0.0) c.from_residual-in_err-append_fence.ensures.1)
    (unfenced_refuses c.ledgers_have_one_reading.ensures g.D.Disk.reveals _ _ _ _ _ (not_fenced g c))

pub returns-in_err-append_fence-clause-rest : goal.returns-in_err-append_fence-clause-rest
returns-in_err-append_fence-clause-rest g c =
    rw (err_with c.from_residual-in_err-append_fence.result (fence_failure c.in_err-append_fence.field-0.0) c.from_residual-in_err-append_fence.ensures.1)
    (unfenced_rest g.D.Disk.reveals _ _ _ _ _ (not_fenced g c))

-- what the call ensures that added the fence
is_fenced : (g : Over) (c : goal.After-drop-ledger-inside-5 g) → IsFencedNow g.D.Disk.reveals c.in_ok-ledger.ledger c.append_fence.new.self c.in_ok-append_fence.field-0 (g.D.Disk.state c.args.disk.now) (g.D.Disk.state c.open.new.disk) (g.D.Disk.state c.append_fence.new.disk)
is_fenced g c =
    let mid = g.D.Disk.state c.open.new.disk in
    let new = g.D.Disk.state c.append_fence.new.disk in
    let v = c.in_ok-ledger.ledger in
    let n = c.in_ok-append_fence.field-0 in
    let gave = c.in_ok-append_fence.ensures in
    let free : StandsFenced v → ⊥ = λ stands. ok_not n (fencing.AlreadyFenced v.lattice.n) ((gave.already v.lattice.n).1 (refl, stands)) in
    record {
      opens = c.in_ok-ledger.ensures;
      node = gave.node;
      free = free;
      few = λ all. ok_not n fencing.TooManyFences (gave.many.1 (all, free));
      leaves = gave.leaves;
      committed = gave.committed;
      writes = writes_as g.D.Disk.reveals _ (FitsAdding mid 1 (v.end + 10)) _ ⊥ (ChangesOnly 0) mid new (λ none. absurd none) (λ is. absurd (cc)) gave.writes;
    }

pub returns-clause-adds : goal.returns-clause-adds
returns-clause-adds g c =
    fenced_adds c.ledgers_have_one_reading.ensures c.fences_may_follow.ensures c.blocks_are_inside.ensures c.records_are_few.ensures g.D.Disk.reveals _ _ _ _ _ _ c.in_ok-append_fence.field-0 (is_fenced g c)

pub returns-clause-refuses : goal.returns-clause-refuses
returns-clause-refuses g c =
    fenced_refuses c.ledgers_have_one_reading.ensures g.D.Disk.reveals _ _ _ _ _ _ c.in_ok-append_fence.field-0 (is_fenced g c)

pub returns-clause-nodes : goal.returns-clause-nodes
returns-clause-nodes g c =
    fenced_nodes c.ledgers_have_one_reading.ensures g.D.Disk.reveals _ _ _ _ _ _ (is_fenced g c)

pub returns-clause-rest : goal.returns-clause-rest
returns-clause-rest g c =
    fenced_rest c.fences_may_follow.ensures g.D.Disk.reveals _ _ _ _ _ _ c.in_ok-append_fence.field-0 (is_fenced g c)
