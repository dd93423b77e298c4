use Rattle.std.proofs.Common.{◌≡◌, ◌+◌, Result, Ok, Err, ap}
use Rattle.aea_disk.specs.Files.{ChangesOnly}
use Rattle.aea_disk.proofs.Frames.{writes_as}
use Rattle.aea_ledger.specs.Taking.{FitsAdding}
use Rattle.aea_ledger.specs.declared.raise.UpgradeFault.{UpgradeFault}
use Rattle.aea_ledger.specs.declared.raise.UpgradeFault.TheVariants as raising
use Rattle.aea_command.specs.Failures.{upgrade_failure}
use Rattle.aea_command_store.specs.Upgrade.{next_raise, UpgradeCauses}
use Rattle.aea_ledger.proofs.Recording.{raise_records}
use Rattle.aea_command_store.proofs.Adding.{adds_opening}
use Rattle.aea_command.proofs.Behind.{unopened_refuses}
use Rattle.aea_command_store.proofs.UpgradeLemmas.{upgrade_behind, IsUnraised, unraised_adds, unraised_refuses, unraised_rest, IsRaisedNow, raised_adds, raised_refuses, raised_rest}
use Rattle.aea_command.proofs.OpeningCases.{err_with}
use Rattle.aea_command_store.proofs.upgrade.add_raise.Given.{Over}
use Rattle.aea_command_store.proofs.upgrade.add_raise.Goals as goal

same_fault : (a b : UpgradeFault) → (let one : Result (Unit {0}) UpgradeFault = Err a in one ≡ Err b) → a ≡ b
same_fault a b e = cc

as_err : (a b : UpgradeFault) → a ≡ b → (let one : Result (Unit {0}) UpgradeFault = Err a in one ≡ Err b)
as_err a b e = ap Err e

ok_not : (n : Unit {0}) (a : UpgradeFault) → Ok n ≡ Err a → ⊥
ok_not n a e = cc

pub returns-in_err-ledger-clause-adds : goal.returns-in_err-ledger-clause-adds
returns-in_err-ledger-clause-adds g c =
    let f = c.in_err-ledger.field-0.0 in
    rw (err_with c.from_residual.result f c.from_residual.ensures.1)
    (adds_opening next_raise raise_records g.D.Disk.reveals (g.D.Disk.state c.args.disk.now) (g.D.Disk.state c.open.new.disk) f c.in_err-ledger.ensures)

pub returns-in_err-ledger-clause-refuses : goal.returns-in_err-ledger-clause-refuses
returns-in_err-ledger-clause-refuses g c =
    let f = c.in_err-ledger.field-0.0 in
    let old = g.D.Disk.state c.args.disk.now in
    rw (err_with c.from_residual.result f c.from_residual.ensures.1)
    (unopened_refuses g.D.Disk.reveals old (g.D.Disk.state c.open.new.disk) f (UpgradeCauses (old.files 0)) (upgrade_behind (old.files 0)) c.in_err-ledger.ensures)

-- what the call ensures that added none
not_raised : (g : Over) (c : goal.After-drop-ledger-inside-in_err-append_upgrade-3 g) → IsUnraised g.D.Disk.reveals c.in_ok-ledger.ledger c.in_err-append_upgrade.field-0.0 (g.D.Disk.state c.args.disk.now) (g.D.Disk.state c.open.new.disk) (g.D.Disk.state c.append_upgrade.new.disk)
not_raised g c =
    let mid = g.D.Disk.state c.open.new.disk in
    let new = g.D.Disk.state c.append_upgrade.new.disk in
    let v = c.in_ok-ledger.ledger in
    let fault = c.in_err-append_upgrade.field-0.0 in
    let gave = c.in_err-append_upgrade.ensures in
    record {
      opens = c.in_ok-ledger.ensures;
      already = (λ e. gave.already.0 (as_err fault raising.AlreadyUpgraded e), λ h. same_fault fault raising.AlreadyUpgraded (gave.already.1 h));
      unchanged = λ e. ap g.D.Disk.state (gave.unchanged (as_err fault raising.AlreadyUpgraded e)).1;
      leaves = gave.leaves;
      writes = writes_as g.D.Disk.reveals _ (FitsAdding mid 1 (v.end + 10)) _ _ (ChangesOnly 0) mid new (as_err fault raising.DiskFault) (λ is. cc) gave.writes;
    }

pub returns-in_err-append_upgrade-clause-adds : goal.returns-in_err-append_upgrade-clause-adds
returns-in_err-append_upgrade-clause-adds g c =
    rw (err_with c.from_residual-in_err-append_upgrade.result (upgrade_failure c.in_err-append_upgrade.field-0.0) c.from_residual-in_err-append_upgrade.ensures.1)
    (unraised_adds c.ledgers_have_one_reading.ensures g.D.Disk.reveals _ _ _ _ _ (not_raised g c))

pub returns-in_err-append_upgrade-clause-refuses : goal.returns-in_err-append_upgrade-clause-refuses
returns-in_err-append_upgrade-clause-refuses g c =
    rw (err_with c.from_residual-in_err-append_upgrade.result (upgrade_failure c.in_err-append_upgrade.field-0.0) c.from_residual-in_err-append_upgrade.ensures.1)
    (unraised_refuses c.ledgers_have_one_reading.ensures g.D.Disk.reveals _ _ _ _ _ (not_raised g c))

pub returns-in_err-append_upgrade-clause-rest : goal.returns-in_err-append_upgrade-clause-rest
returns-in_err-append_upgrade-clause-rest g c =
    rw (err_with c.from_residual-in_err-append_upgrade.result (upgrade_failure c.in_err-append_upgrade.field-0.0) c.from_residual-in_err-append_upgrade.ensures.1)
    (unraised_rest g.D.Disk.reveals _ _ _ _ _ (not_raised g c))

-- and the one that added the raise
is_raised : (g : Over) (c : goal.After-drop-ledger-inside-5 g) → IsRaisedNow g.D.Disk.reveals c.in_ok-ledger.ledger c.append_upgrade.new.self (g.D.Disk.state c.args.disk.now) (g.D.Disk.state c.open.new.disk) (g.D.Disk.state c.append_upgrade.new.disk)
is_raised g c =
    let mid = g.D.Disk.state c.open.new.disk in
    let new = g.D.Disk.state c.append_upgrade.new.disk in
    let v = c.in_ok-ledger.ledger in
    let value = c.in_ok-append_upgrade.field-0 in
    let gave = c.in_ok-append_upgrade.ensures in
    record {
      opens = c.in_ok-ledger.ensures;
      free = λ raised. ok_not value raising.AlreadyUpgraded (gave.already.1 raised);
      leaves = gave.leaves;
      committed = gave.committed;
      writes = writes_as g.D.Disk.reveals _ (FitsAdding mid 1 (v.end + 10)) _ ⊥ (ChangesOnly 0) mid new (λ none. absurd none) (λ is. absurd (cc)) gave.writes;
    }

pub returns-clause-adds : goal.returns-clause-adds
returns-clause-adds g c =
    raised_adds c.ledgers_have_one_reading.ensures g.D.Disk.reveals _ _ _ _ _ c.in_ok-append_upgrade.field-0 (is_raised g c)

pub returns-clause-refuses : goal.returns-clause-refuses
returns-clause-refuses g c =
    raised_refuses c.ledgers_have_one_reading.ensures g.D.Disk.reveals _ _ _ _ _ c.in_ok-append_upgrade.field-0 (is_raised g c)

pub returns-clause-rest : goal.returns-clause-rest
returns-clause-rest g c =
    raised_rest g.D.Disk.reveals _ _ _ _ _ c.in_ok-append_upgrade.field-0 (is_raised g c)
