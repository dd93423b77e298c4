-- A session of which only the buffer changed.
use Rattle.std.proofs.Common.{◌∙◌}
use Rattle.aea_session.specs.declared.work.Work.{Work}
use Rattle.aea_session.specs.Looks.{KeepsAllButCell, LooksKeep}
use Rattle.aea_machine.specs.Machine.{Machine}
use Rattle.aea_disk.specs.Files.{Files}
use Rattle.aea_session.specs.Stands.{KeepsMachine, StandsFor, IsTheSessions}

keeps_on : (v w : Work) → KeepsAllButCell v w → (m : Machine) → KeepsMachine v m → KeepsMachine w m
keeps_on v w same m keeps = record {
  objects = rw same.ledger keeps.objects;
  raised = rw same.ledger keeps.raised;
  datas = rw same.ledger keeps.datas;
  grown = rw (same.ledger, same.heads) keeps.grown;
  size = rw (same.ledger, same.heads) keeps.size;
  wide = rw same.ledger keeps.wide;
  digests = rw (same.ledger, same.digests) keeps.digests;
  cell = rw same.ledger (same.cell ∙ keeps.cell);
  many = rw same.slots keeps.many;
  count = keeps.count;
  slots = rw (same.ledger, same.slots) keeps.slots;
  names = keeps.names;
  limits = keeps.limits;
}

stands_on : (v w : Work) → KeepsAllButCell v w → (m : Machine) → StandsFor v m → StandsFor w m
stands_on v w same m stands = record {
  records = stands.records;
  has = rw same.ledger stands.has;
  recorded = rw same.ledger stands.recorded;
  woven = rw (same.ledger, same.heads, same.digests) stands.woven;
}

this_on : (v w : Work) → KeepsAllButCell v w → (c : Files) → IsTheSessions v c → IsTheSessions w c
this_on v w same c this = record {
  ledger = rw same.ledger this.ledger;
  cells = rw (same.ledger, same.heads, same.digests) this.cells;
}

-- it keeps what it kept, and stands for what it stood for
pub looks_keep : LooksKeep
looks_keep v w same = (keeps_on v w same, stands_on v w same, this_on v w same)
