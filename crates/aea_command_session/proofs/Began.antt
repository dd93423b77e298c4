-- What the beginning of a session gives.
use Rattle.std.specs.Prelude.{◌≡◌, ℕ, true, List, length}
use Rattle.aea_disk.specs.Frames.{OnlyReads}
use Rattle.aea_disk.specs.State.{State}
use Rattle.aea_records.specs.Format.{Record}
use Rattle.aea_ledger.specs.Recorded.{AreRecordsOf}
use Rattle.aea_ledger.specs.Values.{Opened, HasRecords, IsThisOne}
use Rattle.aea_archive.specs.Lasts.{AreLastsHonest}
use Rattle.aea_machine.specs.Machine.{begun}
use Rattle.aea_uploads.specs.Laws.{AreWide}
use Rattle.aea_session.specs.declared.work.Work.{Work}
use Rattle.aea_session.specs.Stands.{KeepsMachine, StandsFor, IsTheSessions}

-- A session began over an opened ledger, with what it works with, and the disk before and after it.
pub record Began (reveals : Type 0) (v : Opened) (w : Work) (old mid : State) : Type 0 where
  pub ledger : w.ledger ≡ v
  pub raised : v.raised ≡ true
  pub keeps : (datas : List (List ℕ)) → length datas ≡ v.lattice.n → AreWide v.shape datas → KeepsMachine w (begun datas v.objects)
  pub stands : reveals → (records : List Record) (datas : List (List ℕ)) → HasRecords v records → AreRecordsOf v.shape records datas
      → AreLastsHonest v.shape v.lattice v.digests datas old.files → StandsFor w (begun datas v.objects)
  pub this : reveals → IsThisOne v (old.files 0) → IsTheSessions w mid.files
  pub reads : OnlyReads reveals ⊥ old mid
