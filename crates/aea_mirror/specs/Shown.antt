-- What a mirror shows of the files of the disk beneath, and what follows for them.
use Rattle.std.specs.Prelude.{◌≡◌, ◌≢◌, ◌⊎◌, ◌≤◌, ◌<◌, ℕ, Bool, true, false, List, [], length, take, slice_index}
use Rattle.aea_lattice.specs.declared.shape.Shape.{Shape}
use Rattle.aea_disk.specs.Files.{Files, ChangesFile, Torn}
use Rattle.aea_records.specs.Format.{Record}
use Rattle.aea_ledger.specs.Stops.{HasLedger}
use Rattle.aea_records.specs.Format.{open_gate}
use Rattle.aea_copies.specs.Format.{text_of}
use Rattle.aea_copies.specs.Grammar.{IsBegun}
use Rattle.aea_copies.specs.Kept.{IsCopyFile, IsGood, AreKept, mended, LeavesAdopted, HasText}

-- Over a disk with these files a mirror may show those: the sites' files are the same, and no copies are seen; the ledger is
-- the same, or the one that is made where the text of one of the good copies is kept.
pub record Shows (files shown : Files) : Type 0 where
  pub sites : (f : ℕ) → 1 ≤ f → f ≤ 64 → shown f ≡ files f
  pub copies : (f : ℕ) → 65 ≤ f → shown f ≡ []
  pub ledger : (shown 0 ≡ files 0) ⊎ ((f : ℕ) × (pieces : List (List ℕ)) × IsCopyFile f × IsGood pieces (files f) × (shown 0 ≡ mended (text_of pieces) (files 0)))

-- each copy is good, with some pieces, and the text of one begins with that of the other, so that some pieces are kept
pub record AreGood (files : Files) : Type 0 where
  pub good : (f : ℕ) → IsCopyFile f → ∥ ((pieces : List (List ℕ)) × IsGood pieces (files f)) ∥₁
  pub kept : ∥ ((pieces : List (List ℕ)) × AreKept files pieces) ∥₁

-- no copy is begun
abbrev pub NoneBegun : Files → Type 0
NoneBegun files = (f : ℕ) → IsCopyFile f → IsBegun (files f) → ⊥

-- where copies are on both are good, and where they are not none is begun
abbrev pub AreAs : Bool → Files → Type 0
AreAs true files = AreGood files
AreAs false files = NoneBegun files

-- What damage may leave of files: any ledger; of the two copies one that is good and stays, and the other one as it is or
-- not good; the other files stay.
pub record IsDamaged (files left : Files) : Type 0 where
  pub sites : (f : ℕ) → 1 ≤ f → f ≤ 64 → left f ≡ files f
  pub stays : ℕ
  pub other : ℕ
  pub are : ((stays ≡ 65) × (other ≡ 66)) ⊎ ((stays ≡ 66) × (other ≡ 65))
  pub pieces : List (List ℕ)
  pub good : IsGood pieces (files stays)
  pub same : left stays ≡ files stays
  pub lost : (left other ≡ files other) ⊎ ((some : List (List ℕ)) → IsGood some (left other) → ⊥)

-- Whatever is lost of the ledger and of one copy, the ledger that is made of what is left has the text of one that the
-- mirror may show, and ends where it does.
abbrev pub KeepsTexts : Type 0
KeepsTexts =
    (files left new : Files) (pieces : List (List ℕ)) → IsDamaged files left → LeavesAdopted left new → AreKept left pieces
    → (shown : Files) × Shows files shown × HasText (text_of pieces) (shown 0) × HasText (text_of pieces) (new 0)

-- And so it is a ledger with the same records: what holds of those of each ledger that the mirror may show, holds of those
-- that are found after the damage.
abbrev pub KeepsLedgers : Type 0
KeepsLedgers =
    (files left new : Files) (pieces : List (List ℕ)) → IsDamaged files left → LeavesAdopted left new → AreKept left pieces
    → (shown : Files) × Shows files shown × ((shape : Shape) (records : List Record) → HasLedger shape records (shown 0) → HasLedger shape records (new 0))

-- The ledger has the text of each good copy, with a byte after it, and the text ends at this place or before.
abbrev pub EndsBefore : ℕ → Files → Type 0
EndsBefore at files =
    (f : ℕ) (pieces : List (List ℕ)) → IsCopyFile f → IsGood pieces (files f)
    → (length (text_of pieces) < length (files 0)) × (take (length (text_of pieces)) (files 0) ≡ text_of pieces) × (length (text_of pieces) ≤ at)

-- Where the ledger is torn past the texts of the copies, what the Mirror shows is torn alike: all that it may show
-- afterwards comes from what it might show before.
abbrev pub WritesAreShown : Type 0
WritesAreShown =
    (at n : ℕ) (old new shown : Files) → EndsBefore at old → ChangesFile 0 (Torn at n) old new → Shows new shown
    → (before : Files) × Shows old before × ChangesFile 0 (Torn at n) before shown

-- While copies are extended, and the ledger and the sites stay, each good copy has a text that one had before, or that of
-- the whole ledger. Then the mirror shows nothing that it might not show before.
abbrev pub SyncsAreShown : Type 0
SyncsAreShown =
    (old now shown : Files) → now 0 ≡ old 0 → ((f : ℕ) → 1 ≤ f → f ≤ 64 → now f ≡ old f)
    → ((f : ℕ) (pieces : List (List ℕ)) → IsCopyFile f → IsGood pieces (now f)
    → ((g : ℕ) × IsCopyFile g × IsGood pieces (old g))
    ⊎ ((length (text_of pieces) < length (old 0)) × (take (length (text_of pieces)) (old 0) ≡ text_of pieces) × (slice_index (old 0) (length (text_of pieces)) ≢ open_gate)))
    → Shows now shown → Shows old shown
