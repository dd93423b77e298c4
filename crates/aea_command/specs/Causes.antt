-- Why commands are refused, in the order of refusals.
use Rattle.std.specs.Prelude.{◌≡◌, ◌<◌, ◌⊎◌, ℕ, Result, Err}
use Rattle.aea_command.specs.declared.refusal.Refusal.{Refusal}
use Rattle.aea_command.specs.declared.refusal.Refusal.TheVariants.{InputTooLong, BadBlock, NoArchive, LedgerBad, Occupied, BadName, NameTaken, CatalogFull, HeadDamaged, Full, BadStream, AlreadyFenced, TooManyFences, AlreadyUpgraded, UnknownName, Damaged, NoSuchBlock, BadLine, LineTooLong, Undetermined, NotUpgraded, BadMessage, TooManyMessages, CopiesAreOn, CopiesBad, CopiesDiffer}
use Rattle.aea_command.specs.declared.refusal.Failure.{Failure}
use Rattle.aea_command.specs.declared.refusal.Failure.TheVariants as failure

-- The place of a refusal in the order of refusals. Two have one place where only one of them can hold: both copies of the
-- ledger are bad, or both are good and differ; the first frame that is not stored is too long for the nodes that are left, or
-- the input ends inside it; the first message that is not handled is none, or cut, or one too many; the first damaged data
-- block of an object is what `get` is refused for, and the first undetermined one what a reading without repair is; a report
-- has a bad line or one that is too long, and only one of these.
abbrev pub place_of : Refusal → ℕ
place_of (CopiesBad first second) = 0
place_of (CopiesDiffer at) = 0
place_of NoArchive = 1
place_of (LedgerBad at) = 2
place_of Occupied = 3
place_of NotUpgraded = 4
place_of BadName = 5
place_of NameTaken = 6
place_of CatalogFull = 7
place_of (HeadDamaged block) = 8
place_of (Full nodes) = 9
place_of (BadStream at) = 9
place_of (BadMessage at) = 9
place_of TooManyMessages = 9
place_of (AlreadyFenced nodes) = 10
place_of TooManyFences = 11
place_of AlreadyUpgraded = 12
place_of CopiesAreOn = 13
place_of InputTooLong = 14
place_of (BadBlock k) = 15
place_of UnknownName = 16
place_of (Damaged block) = 17
place_of (Undetermined block nodes) = 17
place_of NoSuchBlock = 18
place_of (BadLine k) = 19
place_of (LineTooLong k) = 19

-- the cause holds, and none that comes before it
pub record IsFirst (causes : Refusal → Type 0) (why : Refusal) : Type 0 where
  pub stands : causes why
  pub none : (other : Refusal) → place_of other < place_of why → causes other → ⊥

-- the disk or the input failed, or memory ran out
abbrev pub IsStopped : {T : Type 0} → Result T Failure → Type 0
IsStopped answer = (answer ≡ Err failure.Disk) ⊎ ((answer ≡ Err failure.Input) ⊎ (answer ≡ Err failure.Memory))

-- How an answer says why it is a refusal, for each refusal where the contents that decide it are known: it is one only for the
-- first cause that holds, and where there is such a cause it is that refusal, but for faults and lack of memory.
pub record RefusesBy {T : Type 0} (revealed : Refusal → Type 0) (causes : Refusal → Type 0) (answer : Result T Failure) : Type 0 where
  pub only : (why : Refusal) → answer ≡ Err (failure.Refused why) → revealed why → IsFirst causes why
  pub always : (why : Refusal) → revealed why → IsFirst causes why → (answer ≡ Err (failure.Refused why)) ⊎ IsStopped answer

-- the same where one part decides each refusal
abbrev pub Refuses : {T : Type 0} → Type 0 → (Refusal → Type 0) → Result T Failure → Type 0
Refuses {T} revealed causes answer = RefusesBy {T = T} (λ why. revealed) causes answer

-- the contents that decide a refusal are known: those of the disk, and, for a refusal that the input decides too, those of the
-- input
abbrev pub IsDecided : Type 0 → Type 0 → (Refusal → Type 0) → Refusal → Type 0
IsDecided disk input by_input why = disk × (by_input why → input)
