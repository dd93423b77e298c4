-- Faults of reads that are judged, as faults of payloads.
use Rattle.aea_restore.specs.declared.fault.RestoreFault.{RestoreFault}
use Rattle.aea_restore.specs.declared.fault.RestoreFault.TheVariants as restore
use Rattle.aea_degraded.specs.declared.fault.PayloadFault.{PayloadFault}
use Rattle.aea_degraded.specs.declared.fault.PayloadFault.TheVariants.{Clash, DiskFault}

-- the same fault
abbrev pub payload_fault : RestoreFault → PayloadFault
payload_fault (restore.Clash b recorded computed) = Clash b recorded computed
payload_fault restore.DiskFault = DiskFault
