-- Which commands make calls of the disk.
use Rattle.std.proofs.Common.{◌⊎◌, inl, inr}
use Rattle.aea_dispatch.specs.declared.command.Command.{Command}
use Rattle.aea_dispatch.specs.declared.command.Command.TheVariants as command
use Rattle.aea_dispatch.specs.declared.command.Command.TheVariants.{Drill, Create, Stat, Put, Ingest, Get, Fetch, Fence, Upgrade, Scrub, Repair, Explain, Verify, Rehearse, Sites, Session, Copies}
use Rattle.aea_dispatch.specs.Does.{UsesDisk}

-- a command uses the disk or not
pub uses_or_not : (c : Command) → UsesDisk c ⊎ (UsesDisk c → ⊥)
uses_or_not (Drill l) = inr (λ none. none)
uses_or_not (Create shape) = inl tt
uses_or_not Stat = inl tt
uses_or_not command.List = inl tt
uses_or_not (Put name) = inl tt
uses_or_not Ingest = inl tt
uses_or_not (Get name) = inl tt
uses_or_not (Fetch name) = inl tt
uses_or_not Fence = inl tt
uses_or_not Upgrade = inl tt
uses_or_not Scrub = inl tt
uses_or_not Repair = inl tt
uses_or_not (Explain word) = inl tt
uses_or_not Verify = inl tt
uses_or_not (Rehearse number nodes permille) = inr (λ none. none)
uses_or_not Sites = inl tt
uses_or_not Session = inl tt
uses_or_not Copies = inl tt
