-- The faults of a step and of a message.
use Rattle.aea_session.specs.declared.fault.StepFault.{StepFault}
use Rattle.aea_session.specs.declared.fault.StepFault.TheVariants as step
use Rattle.aea_session.specs.declared.fault.TakeFault.{TakeFault}
use Rattle.aea_session.specs.declared.fault.TakeFault.TheVariants.{DiskFault, NoMemory}

-- the fault of a message whose step has this one
abbrev pub fault_by : StepFault → TakeFault
fault_by step.DiskFault = DiskFault
fault_by step.NoMemory = NoMemory
