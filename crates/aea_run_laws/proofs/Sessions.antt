-- That sessions over these archives meet all that is asked of them.
use Rattle.std.proofs.Common.{◌≡◌, ℕ, ◌<◌, [], refl, arith}
use Rattle.aea_envelope.specs.Facts.{CellsHaveLengths, CellsHaveParts}
use Rattle.aea_records.specs.Laws.{HasOneReading, LedgersAreArchives, LedgersAreNotBad}
use Rattle.aea_archive.specs.Laws.{PutsRecord}
use Rattle.aea_run_laws.specs.Sessions.{SessionsAreMet}
use Rattle.aea_run_laws.specs.Standing.{HasTheObject}
use Rattle.aea_run_laws.proofs.Memories.{memory_with, has_files}
use Rattle.aea_run_laws.proofs.OneBlock.{shape, one, stored, c, has_it, whole_bare}
use Rattle.aea_run_laws.proofs.Over.{no_copies}
use Rattle.aea_run_laws.proofs.Raised.{with_others, raised_records, raised_files, raised_ledger, raised_bare, raised_intact}
use Rattle.aea_run_laws.proofs.Serving.{session_met}

pub sessions_are_met : CellsHaveLengths → CellsHaveParts → PutsRecord → HasOneReading → LedgersAreArchives → LedgersAreNotBad → SessionsAreMet
sessions_are_met lengths parts record_law reading archives bad o is =
    let whole = c lengths parts record_law o is in
    let r = stored lengths parts record_law o is in
    let has : HasTheObject shape one r o whole = has_it lengths parts record_law o is in
    let few = whole_bare lengths parts record_law o is in
    let e = raised_files r whole in
    let ledger = raised_ledger r whole has.ledger.valid in
    let bare : (f : ℕ) → 64 < f → e f ≡ [] = λ f far. raised_bare r whole few f (omega (arith, far)) in (
      shape,
      one,
      r,
      whole,
      e,
      has,
      record { ledger = ledger; others = λ f other. with_others _ whole f other },
      λ room. (memory_with e room, has_files e room bare),
      λ room m out large there left. session_met reading archives bad e (raised_records r) ledger refl refl r.digests refl (raised_intact r whole has.intact) refl room 0 large m (no_copies e bare room m there) out left,
    )
