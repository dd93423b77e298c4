-- The objects that a run stored are those of a front of the input that it would store; and within the space of their lines the
-- output does not fail.
use Rattle.std.proofs.Common.{◌≡◌, ◌≢◌, ℕ, ◌≤◌, List, [], ◌∷◌, ◌++◌, length, refl, sym, ◌∙◌, ap, subst, Option, None, Some}
use Rattle.std.specs.Io.KnownBytes.{Consumes, IsAtEnd}
use Rattle.aea_io.specs.Streams.{SinkState}
use Rattle.aea_lattice.specs.declared.blocks.BlockId.{BlockId}
use Rattle.aea_lattice.specs.declared.grid.Lattice.{Lattice}
use Rattle.aea_lattice.specs.declared.shape.Shape.{Shape}
use Rattle.aea_envelope.specs.Facts.{CellsHaveLengths, CellsHaveParts}
use Rattle.aea_disk.specs.State.{State}
use Rattle.aea_records.specs.Format.{Record, nodes_of, fences_of}
use Rattle.aea_records.specs.Laws.{HasOneReading, DigestsAreCounted}
use Rattle.aea_ledger.specs.Values.{Opened, IsThisOne}
use Rattle.aea_archive.specs.Blocks.{IsIntactBy}
use Rattle.aea_archive.specs.Lasts.{IsLastParity}
use Rattle.aea_archive.specs.Next.{NewObject, AreNextRecords}
use Rattle.aea_archive.proofs.Records.{one_lattice}
use Rattle.aea_command.proofs.Reading.{has_ledger_of}
use Rattle.aea_command_store.specs.Growing.{StaysGrown}
use Rattle.aea_command_store.specs.Ingest.{AreOfObjects, WouldStore, FitsLines, frames_of, stored_lines, end_line}
use Rattle.aea_command_store.specs.Put.{HasDamagedHead}
use Rattle.aea_command_store.proofs.Agreeing.{follow_behind}
use Rattle.aea_command_store.proofs.PutLemmas.Reading.{head_there}
use Rattle.aea_command_store.proofs.IngestLemmas.Filling.{taken_all}
use Rattle.aea_command_store.proofs.IngestLemmas.Heads.{lasts_were_intact}

-- records that come one after the other are those of their objects
are_of_next : (shape : Shape) (l m : Lattice) (payload : BlockId → List ℕ) (objects : List NewObject) (added : List Record) → AreNextRecords shape l m payload objects added → AreOfObjects shape objects added
are_of_next shape l m payload [] [] next = tt
are_of_next shape l m payload [] (r ∷ added) none = absurd none
are_of_next shape l m payload (o ∷ objects) [] none = absurd none
are_of_next shape l m payload (o ∷ objects) (r ∷ added) next = (
  (next.1, next.2, next.3.name_is, next.3.size, next.3.count),
  are_of_next shape next.0 m payload objects added next.4,
)

-- what a source whose bytes are known has after those that were taken
rest_of_input : (left rest : Option (List ℕ)) (input bytes : List ℕ) → left ≡ Some input → Consumes left rest bytes → (more : List ℕ) × (rest ≡ Some more) × (input ≡ bytes ++ more)
rest_of_input None rest input bytes is taken = let h : None ≡ Some input = is in cc
rest_of_input (Some xs) None input bytes is taken = absurd taken
rest_of_input (Some xs) (Some ys) input bytes is taken = let same : xs ≡ input = cc in (ys, refl, sym same ∙ taken)

-- at its end nothing
none_at_end : (rest : Option (List ℕ)) (more : List ℕ) → rest ≡ Some more → IsAtEnd rest → more ≡ []
none_at_end rest more is end = subst IsAtEnd is end

module _ (reading : HasOneReading) (lengths : CellsHaveLengths) (parts : CellsHaveParts) (counts : DigestsAreCounted)
    (v : Opened) (old new : State) (one : IsThisOne v (old.files 0)) (objects : List NewObject) (g : StaysGrown v.shape one.records objects old new) where
  -- no last parity was damaged where some object was stored
  none_was_damaged : objects ≢ [] → (b : BlockId) → HasDamagedHead old.files b → ⊥
  none_was_damaged some b damaged =
      let first = head_there reading v old.files one b damaged in
      let lattice : g.grows.by.lattice ≡ v.lattice = one_lattice v.shape (nodes_of one.records) (fences_of one.records) g.grows.by.lattice v.lattice g.grows.by.is_lattice one.has.lattice in
      let last : IsLastParity g.grows.by.lattice b = subst (λ (l : Lattice). IsLastParity l b) (sym lattice) first.damaged.last in
      let intact = lasts_were_intact lengths parts counts v.shape one.records one.has.valid objects some old new g b last in
      first.damaged.damaged (subst (λ (ds : List (List ℕ)). IsIntactBy v.shape ds old.files b) (sym one.has.digests) intact)

  would_store : (input rest : List ℕ) → input ≡ frames_of objects ++ rest → WouldStore old.files input v.shape objects rest
  would_store input rest framed = record {
    records = one.records;
    ledger = has_ledger_of reading v (old.files 0) one;
    framed = framed;
    taken = taken_all v.shape one.records objects g.grows.by.added (are_of_next v.shape g.grows.by.lattice g.grows.by.longer g.grows.by.payload objects g.grows.by.added g.grows.by.next)
        (follow_behind v.shape [] one.records g.grows.by.added g.ledger.valid);
    intact = none_was_damaged;
  }

  -- the space for the lines is that for these, and for the last line where the input ended
  pub fits_lines : (left rest : Option (List ℕ)) (input : List ℕ) (out : SinkState) → left ≡ Some input → Consumes left rest (frames_of objects) → FitsLines old.files input out
      → (room : ℕ) × (out.room ≡ Some room) × (length (stored_lines v.shape objects) ≤ room)
  fits_lines left rest input out is taken fits =
      let more = rest_of_input left rest input (frames_of objects) is taken in
      let text = fits.lines v.shape objects more.0 (would_store input more.0 more.2) in
      (text.room, text.revealed, text.enough)

  pub fits_end : (left rest : Option (List ℕ)) (input : List ℕ) (out : SinkState) → left ≡ Some input → Consumes left rest (frames_of objects) → IsAtEnd rest → FitsLines old.files input out
      → (room : ℕ) × (out.room ≡ Some room) × (length (stored_lines v.shape objects ++ end_line (length objects)) ≤ room)
  fits_end left rest input out is taken end fits =
      let more = rest_of_input left rest input (frames_of objects) is taken in
      let all : input ≡ frames_of objects ++ [] = more.2 ∙ ap (λ (l : List ℕ). frames_of objects ++ l) (none_at_end rest more.0 more.1 end) in
      let text = fits.end v.shape objects (would_store input [] all) in
      (text.room, text.revealed, text.enough)
