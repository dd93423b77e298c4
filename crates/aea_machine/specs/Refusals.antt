-- Which answer of the machine a refusal is.
use Rattle.aea_machine.specs.declared.refusal.Refusal.{Refusal}
use Rattle.aea_machine.specs.declared.refusal.Refusal.TheVariants as refusal
use Rattle.aea_machine.specs.Machine.{Answer, BadSlot, SlotTaken, SlotFree, BadName, NameTaken, NameOpen, Full, CatalogFull, UnknownName, BadRange}

-- the answer that a refusal is
abbrev pub refused_by : Refusal → Answer
refused_by refusal.BadSlot = BadSlot
refused_by refusal.SlotTaken = SlotTaken
refused_by refusal.SlotFree = SlotFree
refused_by refusal.BadName = BadName
refused_by refusal.NameTaken = NameTaken
refused_by refusal.NameOpen = NameOpen
refused_by (refusal.Full nodes) = Full nodes
refused_by refusal.CatalogFull = CatalogFull
refused_by refusal.UnknownName = UnknownName
refused_by refusal.BadRange = BadRange
