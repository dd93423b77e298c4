-- The ledger is made the one that is kept.
use Rattle.std.specs.Prelude.{◌≡◌, ◌≢◌, ◌⊎◌, ◌<◌, ◌≤◌, ℕ, List, [], ◌∷◌, ◌++◌, length, take, slice_index}
use Rattle.aea_records.specs.Format.{open_gate}
use Rattle.aea_copy_reader.specs.declared.known.Judged.{Judged}
use Rattle.aea_copy_reader.specs.declared.known.Judged.TheVariants.{Good, Bad}
use Rattle.aea_adopt.specs.declared.mend.Gate.{Gate}
use Rattle.aea_adopt.specs.declared.mend.Gate.TheVariants.{Missing, Open, Closed}
use Rattle.aea_disk.specs.Files.{Torn}
use Rattle.aea_disk.specs.State.{State, HasRoomTo, HasRoom}
use Rattle.aea_copies.specs.Format.{whole_copy}
use Rattle.aea_copies.specs.Grammar.{IsBegun}
use Rattle.aea_copies.specs.Kept.{IsCopyFile, AreKept, mended}
use Rattle.aea_copy_writer.specs.Anew.{IsOldNoneOrMade, whole_text}

-- What a stop may leave of a ledger of which this text is kept: it stays where it is the one that is made; where it has the text
-- and a gate, no byte but this gate is another; and where it has not, it is as it was, or not begun, or the whole one that is made.
pub record MayBeMended (text old new : List ℕ) : Type 0 where
  pub stays : mended text old ≡ old → new ≡ old
  pub gate : length text < length old → take (length text) old ≡ text → Torn (length text) 1 old new
  pub anew : (length text < length old → take (length text) old ≡ text → ⊥) → IsOldNoneOrMade (text ++ 0 ∷ []) old new

-- what it may leave of a copy where these pieces are kept: it is as it was, or not begun, or whole
abbrev pub MayBeRenewed : List (List ℕ) → List ℕ → List ℕ → Type 0
MayBeRenewed pieces old new = (new ≡ old) ⊎ ((IsBegun new → ⊥) ⊎ (new ≡ whole_copy pieces))

-- The disk has space to adopt copies: for a sync, and where pieces are kept for a ledger of their text and for copies of them.
pub record FitsAdopting (s : State) : Type 0 where
  pub some : HasRoom s
  pub sync : (bytes : List ℕ) → s.keeps bytes
  pub ledger : (pieces : List (List ℕ)) → AreKept s.files pieces → HasRoomTo s 0 (length (whole_text pieces))
  pub copies : (pieces : List (List ℕ)) (f : ℕ) → AreKept s.files pieces → IsCopyFile f → HasRoomTo s f (length (whole_copy pieces))

-- which gate is at this place of the bytes
abbrev pub IsGateAt : List ℕ → ℕ → Gate → Type 0
IsGateAt bytes at Missing = length bytes ≤ at
IsGateAt bytes at Open = (at < length bytes) × (slice_index bytes at ≡ open_gate)
IsGateAt bytes at Closed = (at < length bytes) × (slice_index bytes at ≢ open_gate)

-- which gate is after this text, with which the ledger begins; none where it does not
abbrev pub IsGateAfter : List ℕ → List ℕ → Gate → Type 0
IsGateAfter text ledger Missing = length text < length ledger → take (length text) ledger ≡ text → ⊥
IsGateAfter text ledger Open = (length text < length ledger) × (take (length text) ledger ≡ text) × (slice_index ledger (length text) ≡ open_gate)
IsGateAfter text ledger Closed = (length text < length ledger) × (take (length text) ledger ≡ text) × (slice_index ledger (length text) ≢ open_gate)

-- the copy was judged good, with so much text
abbrev pub IsUp : Judged → ℕ → Type 0
IsUp (Good s) text = s.text ≡ text
IsUp (Bad at) text = ⊥
