-- What a damaged last parity is of a run that stored some frames: one of the archive as it was, before the first frame.
use Rattle.std.proofs.Common.{◌≡◌, ⊎_elim, ℕ, List, [], ◌++◌, sym, ◌∙◌, ap, subst, Option}
use Rattle.aea_io.specs.Streams.{SinkState}
use Rattle.aea_lattice.specs.declared.blocks.BlockId.{BlockId}
use Rattle.aea_lattice.specs.declared.grid.Lattice.{Lattice}
use Rattle.aea_lattice.specs.declared.shape.Shape.{Shape}
use Rattle.aea_envelope.specs.Facts.{CellsHaveLengths, CellsHaveParts}
use Rattle.aea_disk.specs.State.{State}
use Rattle.aea_records.specs.Format.{Record, nodes_of, fences_of, digests_of}
use Rattle.aea_records.specs.Laws.{HasOneReading, DigestsAreCounted}
use Rattle.aea_ledger.specs.Next.{AreItsRecords}
use Rattle.aea_ledger.specs.Recorded.{IsLatticeOf}
use Rattle.aea_ledger.specs.Values.{Opened, IsThisOne}
use Rattle.aea_archive.specs.Blocks.{IsIntactBy}
use Rattle.aea_archive.specs.Lasts.{IsLastParity, IsFirstDamagedLast}
use Rattle.aea_archive.specs.Next.{NewObject}
use Rattle.aea_archive.proofs.Records.{one_lattice}
use Rattle.aea_command_store.specs.Growing.{StaysGrown}
use Rattle.aea_command_store.specs.Put.{HasDamagedHead}
use Rattle.aea_command_store.proofs.Agreeing.{grown_lattice}
use Rattle.aea_command_store.proofs.IngestLemmas.Going.{HasGone}
use Rattle.aea_command_store.proofs.IngestLemmas.Heads.{lasts_were_intact, lasts_are_intact}
use Rattle.aea_command_store.proofs.PutLemmas.Reading.{head_here, head_there}

module _ (reading : HasOneReading) (lengths : CellsHaveLengths) (parts : CellsHaveParts) (counts : DigestsAreCounted)
    (reveals : Type 0) (revealed : reveals) (same : Type 0) (v w : Opened) (left rest : Option (List ℕ)) (old now : State) (before after : SinkState) (objects : List NewObject)
    (gone : HasGone reveals same v w left rest old now before after objects) (still : same → now ≡ old) (one : IsThisOne v (old.files 0)) where
  its : AreItsRecords v one.records (old.files 0)
  its = record { has = one.has; ledger = one.ledger }

  its_now : AreItsRecords w (one.records ++ gone.added) (now.files 0)
  its_now = gone.its revealed one.records (record { has = one.has; ledger = one.ledger })

  one_now : IsThisOne w (now.files 0)
  one_now = record { records = one.records ++ gone.added; has = its_now.has; ledger = its_now.ledger }

  -- of the archive as it is now
  pub damaged_here : (b : BlockId) → IsFirstDamagedLast w.shape w.lattice w.digests now.files b → (objects ≡ []) × HasDamagedHead old.files b
  damaged_here b first = ⊎_elim
      (λ none. (none.0, subst (λ (s : State). HasDamagedHead s.files b) (still none.2) (head_here reading w now.files one_now b first)))
      (λ some.
      let g : StaysGrown v.shape one.records objects old now = some.1.0.stays in
      let longer = grown_lattice v.shape one.records g.grows.by.lattice g.grows.by.longer g.grows.by.payload objects g.grows.by.added g.grows.by.is_lattice g.grows.by.next in
      let mine : IsLatticeOf v.shape (nodes_of (one.records ++ g.grows.by.added)) (fences_of (one.records ++ g.grows.by.added)) w.lattice =
      subst (λ (l : List Record). IsLatticeOf v.shape (nodes_of (one.records ++ l)) (fences_of (one.records ++ l)) w.lattice) (sym some.1.1)
      (subst (λ (s : Shape). IsLatticeOf s (nodes_of (one.records ++ gone.added)) (fences_of (one.records ++ gone.added)) w.lattice) gone.same_shape its_now.has.lattice) in
      let lattice : g.grows.by.longer ≡ w.lattice = one_lattice v.shape (nodes_of (one.records ++ g.grows.by.added)) (fences_of (one.records ++ g.grows.by.added)) g.grows.by.longer w.lattice longer mine in
      let last : IsLastParity g.grows.by.longer b = subst (λ (l : Lattice). IsLastParity l b) (sym lattice) first.damaged.last in
      let intact = lasts_are_intact lengths parts counts v.shape one.records one.has.valid objects some.0 old now g b last in
      let digests : digests_of (one.records ++ g.grows.by.added) ≡ w.digests = ap (λ (l : List Record). digests_of (one.records ++ l)) some.1.1 ∙ sym its_now.has.digests in
      absurd (first.damaged.damaged (subst (λ (s : Shape). IsIntactBy s w.digests now.files b) (sym gone.same_shape) (subst (λ (ds : List (List ℕ)). IsIntactBy v.shape ds now.files b) digests intact))))
      (gone.grew revealed one.records its)

  -- and of the archive as it was
  pub damaged_there : (b : BlockId) → HasDamagedHead old.files b → (objects ≡ []) × IsFirstDamagedLast w.shape w.lattice w.digests now.files b
  damaged_there b damaged = ⊎_elim
      (λ none. (none.0, head_there reading w now.files one_now b (subst (λ (s : State). HasDamagedHead s.files b) (sym (still none.2)) damaged)))
      (λ some.
      let g : StaysGrown v.shape one.records objects old now = some.1.0.stays in
      let first = head_there reading v old.files one b damaged in
      let lattice : g.grows.by.lattice ≡ v.lattice = one_lattice v.shape (nodes_of one.records) (fences_of one.records) g.grows.by.lattice v.lattice g.grows.by.is_lattice one.has.lattice in
      let last : IsLastParity g.grows.by.lattice b = subst (λ (l : Lattice). IsLastParity l b) (sym lattice) first.damaged.last in
      let intact = lasts_were_intact lengths parts counts v.shape one.records one.has.valid objects some.0 old now g b last in
      absurd (first.damaged.damaged (subst (λ (ds : List (List ℕ)). IsIntactBy v.shape ds old.files b) (sym one.has.digests) intact)))
      (gone.grew revealed one.records its)
