-- What opening a ledger may return.
use Rattle.std.specs.Prelude.{◌≡◌, ◌⊎◌, ℕ, List, Result, Ok, Err, IsOk}
use Rattle.aea_ledger.specs.declared.open.OpenFault.{OpenFault}
use Rattle.aea_ledger.specs.declared.open.OpenFault.TheVariants.{NoArchive, LedgerBad, DiskFault, NoMemory}
use Rattle.aea_records.specs.Faults.{IsNoArchive, IsBadAt}
use Rattle.aea_records.specs.Laws.{IsSomeLedger}
use Rattle.aea_ledger.specs.Values.{Opened, IsThisOne}

-- Each result has its cause in the bytes. A fault of the disk and a lack of memory have none there.
abbrev pub Answers : List ℕ → Result Opened OpenFault → Type 0
Answers bytes (Ok v) = IsThisOne v bytes
Answers bytes (Err NoArchive) = IsNoArchive bytes
Answers bytes (Err (LedgerBad at)) = IsBadAt bytes at
Answers bytes (Err DiskFault) = Unit {0}
Answers bytes (Err NoMemory) = Unit {0}

-- the result is a fault of the disk, or a lack of memory
abbrev pub IsFree : Result Opened OpenFault → Type 0
IsFree result = (result ≡ Err DiskFault) ⊎ (result ≡ Err NoMemory)

-- Each kind of bytes has its result, but for a fault of the disk and a lack of memory.
pub record IsAnswered (bytes : List ℕ) (result : Result Opened OpenFault) : Type 0 where
  pub ledger : IsSomeLedger bytes → IsOk result ⊎ IsFree result
  pub none : IsNoArchive bytes → (result ≡ Err NoArchive) ⊎ IsFree result
  pub bad : (at : ℕ) → IsBadAt bytes at → (result ≡ Err (LedgerBad at)) ⊎ IsFree result
