-- A cause for a refusal before the input is read is a reason for the call that puts.
use Rattle.std.proofs.Common.{inl, inr, ℕ, List, [], Ok, sym, subst, arith}
use Rattle.aea_disk.specs.Files.{Files}
use Rattle.aea_disk.specs.State.{State}
use Rattle.aea_records.specs.Laws.{HasOneReading, ObjectsAreCounted, NewNamesAreFree}
use Rattle.aea_ledger.specs.Values.{Opened, IsThisOne}
use Rattle.aea_archive.specs.Lasts.{IsDamagedLast}
use Rattle.aea_append.specs.Causes.{HasEarlyReason}
use Rattle.aea_command.specs.declared.refusal.Refusal.{Refusal}
use Rattle.aea_command.specs.declared.refusal.Refusal.TheVariants.{NoArchive, LedgerBad, BadName, NameTaken, CatalogFull, HeadDamaged, Full}
use Rattle.aea_command.specs.Openings.{Opens}
use Rattle.aea_command.proofs.Behind.{opened_no_opening}
use Rattle.aea_command_store.specs.Put.{IsEarly, PutCauses}
use Rattle.aea_command_store.proofs.PutLemmas.Reading.{taken_there, many_there, head_there}

module _ (reading : HasOneReading) (count : ObjectsAreCounted) (free : NewNamesAreFree) (reveals : Type 0) (v : Opened) (name : List ℕ) (old mid : State) (opens : Opens reveals old mid (Ok v)) (revealed : reveals) where
  one : IsThisOne v (old.files 0)
  one = opens.this_one revealed

  pub reason_of : (why : Refusal) → IsEarly why → PutCauses name old.files [] why → HasEarlyReason v name mid.files
  reason_of NoArchive early cause = absurd (opened_no_opening reveals old mid v opens revealed NoArchive cause)
  reason_of (LedgerBad at) early cause = absurd (opened_no_opening reveals old mid v opens revealed (LedgerBad at) cause)
  reason_of BadName early cause = inl (λ may. cause.1 may.named)
  reason_of NameTaken early cause = inl (λ may. (taken_there reading v (old.files 0) one free name cause) may.free)
  reason_of CatalogFull early cause = inl (λ may. may.few (many_there reading v (old.files 0) one count cause))
  reason_of (HeadDamaged b) early cause =
      inr (b, subst (λ (c : Files). IsDamagedLast v.shape v.lattice v.digests c b) (sym (opens.reads.contents revealed)) (head_there reading v old.files one b cause).damaged)
  reason_of (Full n) early cause = absurd (omega (arith, early))
  reason_of why early cause = absurd cause
