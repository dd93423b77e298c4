-- What is found of an archive after stops, damage and openings, in any number.
use Rattle.std.specs.Prelude.{◌≡◌, ◌⊎◌, ◌≤◌, ℕ, List, [], ◌∷◌, ◌++◌, Ok}
use Rattle.aea_lattice.specs.declared.shape.Shape.{Shape}
use Rattle.aea_disk.specs.Files.{Files}
use Rattle.aea_disk.specs.State.{State}
use Rattle.aea_records.specs.Format.{Record}
use Rattle.aea_copies.specs.Kept.{AreOn, AreKept, LeavesAdopted}
use Rattle.aea_ledger.specs.Stops.{HasLedger}
use Rattle.aea_adopt.specs.Adopting.{MayBeAdopted}
use Rattle.aea_adopt.specs.Adopts.{Adopts}
use Rattle.aea_adopt.specs.declared.answers.Adopted.{Adopted}
use Rattle.aea_mirror.specs.Mirrored.{Kept, mirror_state, fresh, outer}
use Rattle.aea_mirror.specs.Shown.{Shows, IsDamaged}
use Rattle.aea_stops.specs.GoingOn.{RunKind, DoesRun, IsLeftBy, SparesBlocks, KeepsBlocks, IsFoundOf}

-- What may come between a stop and the next run that goes on: damage, of any ledger and of one copy, that leaves a good copy as it is; an
-- opening that was stopped while it adopted copies of which some pieces are kept; or nothing.
abbrev pub MayFollow : Files → Files → Type 0
MayFollow old new = IsDamaged old new ⊎ (((pieces : List (List ℕ)) × AreKept old pieces × MayBeAdopted old new) ⊎ ((f : ℕ) → new f ≡ old f))

-- and these, one after the other, from the first files to the last
abbrev pub AreBetween : Files → List Files → Files → Type 0
AreBetween first [] last = (f : ℕ) → last f ≡ first f
AreBetween first (next ∷ rest) last = MayFollow first next × AreBetween next rest last

-- no copy is begun, or pieces are kept: so copies can be adopted
abbrev pub CanBeAdopted : Files → Type 0
CanBeAdopted files = (AreOn files → ⊥) ⊎ ((pieces : List (List ℕ)) × AreKept files pieces)

-- Whatever comes between, what is left once copies were adopted has the sites of the files before it, and the records of a ledger that a
-- Mirror may show of them.
abbrev pub ShownIsFound : Type 0
ShownIsFound =
    (files left new : Files) (between : List Files) → AreBetween files between left → CanBeAdopted left → LeavesAdopted left new
    → (shown : Files) × Shows files shown × IsFoundOf shown (outer new)

-- pieces are kept of the files
abbrev pub HasKept : Files → Type 0
HasKept files = ∥ ((pieces : List (List ℕ)) × AreKept files pieces) ∥₁

-- And pieces are kept, where some were: so copies are neither both bad nor different.
abbrev pub KeptStays : Type 0
KeptStays = (files left : Files) (between : List Files) → HasKept files → AreBetween files between left → HasKept left

-- A run over a disk with copies, or without, that a stop cut off once copies were adopted: the disk before it; the one that adopting left,
-- with what was said; the disk after the run had it gone on to its end, and what the Mirror kept then; and the files that the stop
-- left, an image of some moment.
pub record StoppedOver (D reveals : Type 0) (state : D → State) : Type 0 where
  pub old : D
  pub mid : D
  pub adopted : Adopted
  pub adopts : Adopts reveals (state old) (state mid) (Ok adopted)
  pub name : ℕ
  pub new : D
  pub kept : Kept
  pub kind : RunKind
  pub does : DoesRun kind reveals (mirror_state reveals (state mid) (fresh name adopted)) (mirror_state reveals (state new) kept)
  pub moment : ℕ
  pub from : (state mid).moment ≤ moment
  pub to : moment ≤ (state new).moment
  pub files : Files
  pub image : (state new).image moment files

-- The runs went on one after the other, from these files to those that the last opening leaves, with damage and openings that were
-- stopped between them.
abbrev pub GoOnOver : (D reveals : Type 0) (state : D → State) → Files → List (StoppedOver D reveals state) → Files → Type 0
GoOnOver D reveals state first [] last = (between : List Files) × (left : Files) × AreBetween first between left × CanBeAdopted left × LeavesAdopted left last
GoOnOver D reveals state first (r ∷ runs) last = (between : List Files) × AreBetween first between (state r.old).files × GoOnOver D reveals state r.files runs last

-- the records are those that the runs left after these, in order, in an archive of this shape
abbrev pub AreKeptOver : (D reveals : Type 0) (state : D → State) → Shape → List Record → List (StoppedOver D reveals state) → List Record → Type 0
AreKeptOver D reveals state shape records [] added = added ≡ []
AreKeptOver D reveals state shape records (r ∷ runs) added =
    (one : List Record) × (rest : List Record) × (added ≡ one ++ rest) × IsLeftBy reveals shape records r.kind (r.moment ≡ (state r.new).moment) one
    × AreKeptOver D reveals state shape (records ++ one) runs rest

-- each run leaves the blocks of others
abbrev pub AllSpareOver : (D reveals : Type 0) (state : D → State) → List (StoppedOver D reveals state) → Type 0
AllSpareOver D reveals state [] = Unit {0}
AllSpareOver D reveals state (r ∷ runs) =
    SparesBlocks r.kind reveals (mirror_state reveals (state r.mid) (fresh r.name r.adopted)) (mirror_state reveals (state r.new) r.kept) × AllSpareOver D reveals state runs

-- However many runs there are, wherever each was stopped, and whatever was lost of the ledger and of one copy between them: the ledger that
-- the last opening leaves has the records that were there before the first, and after them, in order, those that the runs added, of
-- each that was acknowledged; and where the runs leave the blocks of others, every block of these is intact, and so is each that was so
-- before the first run.
abbrev pub CopiesKeepPuts : {D : Type 0} → Type 0 → (D → State) → Type 0
CopiesKeepPuts {D} reveals state =
    reveals → (shape : Shape) (records : List Record) (runs : List (StoppedOver D reveals state)) (first last : Files) → ((shown : Files) → Shows first shown → HasLedger shape records (shown 0)) → GoOnOver D reveals state first runs last
    → (added : List Record) × AreKeptOver D reveals state shape records runs added × HasLedger shape (records ++ added) (last 0)
    × (AllSpareOver D reveals state runs → KeepsBlocks shape records (records ++ added) first last)
