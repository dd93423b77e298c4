-- Payloads of blocks that are written one after the other, whatever a payload is: `has b p` says that p is a payload of b.
use Rattle.std.specs.Prelude.{◌≡◌, ℕ, ◌≤◌, List, ◌++◌, length, take, Some, Result, Ok, Err}
use Rattle.std.specs.Io.KnownBytes.{Appends}
use Rattle.aea_faults.specs.Faults.{Rose}
use Rattle.aea_io.specs.Streams.{SinkState}
use Rattle.aea_io.specs.Written.{AppendsPart}
use Rattle.aea_io.specs.Pages.{Prints}
use Rattle.aea_lattice.specs.declared.blocks.BlockId.{BlockId}
use Rattle.aea_archive.specs.Objects.{ArePayloads, joined, IsFront}
use Rattle.aea_fetch.specs.declared.source.SendFault.{SendFault}
use Rattle.aea_fetch.specs.declared.source.SendFault.TheVariants.{Payload, Output}

-- The payloads of the blocks were printed, of them the first bytes, so many, through what was gathered before and is now.
pub record HasCopied (has : BlockId → List ℕ → Type 0) (blocks : List BlockId) (most : ℕ) (old : SinkState) (before : List ℕ) (new : SinkState) (after : List ℕ) : Type 0 where
  pub payloads : List (List ℕ)
  pub are : ArePayloads has blocks payloads
  pub prints : Prints {T = Unit {0}} {E = Unit {0}} old before new after (Ok tt) (take most (joined payloads))

-- It was cut short: of the payloads of some first blocks a first part was appended, after what was gathered before. The
-- output may be at fault, as `output` says.
pub record HasCut (has : BlockId → List ℕ → Type 0) (blocks : List BlockId) (most : ℕ) (old : SinkState) (before : List ℕ) (new : SinkState) (output : Type 0) : Type 0 where
  pub front : List BlockId
  pub is_front : IsFront front blocks
  pub payloads : List (List ℕ)
  pub are : ArePayloads has front payloads
  pub part : AppendsPart old.written new.written (before ++ take most (joined payloads))
  pub kept : old.faults ≤ new.faults
  pub cause : output → Rose old.faults new.faults
  -- a sink with space for all does not fail
  pub fits : (room : ℕ) → old.room ≡ Some room → length (before ++ take most (joined payloads)) ≤ room → (output → ⊥) × (new.faults ≡ old.faults)

-- The payloads of the blocks were appended, of them the first bytes, so many; and a sink with space for them did not fail.
pub record HasSent (has : BlockId → List ℕ → Type 0) (blocks : List BlockId) (most : ℕ) (old new : SinkState) : Type 0 where
  pub payloads : List (List ℕ)
  pub are : ArePayloads has blocks payloads
  pub appended : Appends old.written new.written (take most (joined payloads))
  pub kept : old.faults ≤ new.faults
  pub steady : (room : ℕ) → old.room ≡ Some room → length (take most (joined payloads)) ≤ room → new.faults ≡ old.faults

-- a payload by the word that has the bytes of a block
abbrev pub IsWide : ℕ → (BlockId → List ℕ → Type 0) → BlockId → List ℕ → Type 0
IsWide size has b payload = has b payload × (length payload ≡ size)

-- a payload was not had, by a fault of this kind
abbrev pub IsPayloadFault : {T F : Type 0} → (F → Type 0) → Result T (SendFault F) → Type 0
IsPayloadFault kind (Ok v) = ⊥
IsPayloadFault kind (Err Output) = ⊥
IsPayloadFault kind (Err (Payload fault)) = kind fault
