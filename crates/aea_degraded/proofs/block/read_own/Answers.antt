use Rattle.std.proofs.Common.{◌≡◌, Err, sym, ◌∙◌, ap}
use Rattle.aea_restore.specs.declared.fault.RestoreFault.TheVariants as restore
use Rattle.aea_degraded.proofs.Faulting.{clash_of}
use Rattle.aea_degraded.proofs.block.read_own.Goals as goal

pub returns-in-Err-clause-found : goal.returns-in-Err-clause-found
returns-in-Err-clause-found g c d revealed computed is =
    let fault : c.in-Err.fault ≡ restore.Clash d revealed computed = clash_of c.in-Err.fault d revealed computed (sym c.from.ensures ∙ (cc)) in
    c.read_payload.ensures.found d revealed computed (c.in-Err.is ∙ ap Err fault)
