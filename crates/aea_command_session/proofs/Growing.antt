-- How the archive grows by the closes of a run.
pub mod Joining
pub mod Stepping
pub mod Going
pub mod Serving
pub mod Ending
use Rattle.std.proofs.Common.{◌≡◌, ◌≢◌, ℕ, List, [], ◌++◌, length, replicate, Option, Result, Ok, Err, sym, ◌∙◌, ap, subst}
use Rattle.std.proofs.lemmas.List.{length-replicate}
use Rattle.std.proofs.lemmas.List.Elements.{All-replicate}
use Rattle.aea_io.specs.Streams.{SinkState}
use Rattle.aea_lattice.specs.declared.blocks.BlockId.{BlockId}
use Rattle.aea_lattice.specs.declared.shape.Shape.{Shape}
use Rattle.aea_envelope.specs.Facts.{CellsHaveLengths}
use Rattle.aea_disk.specs.Files.{Files}
use Rattle.aea_disk.specs.State.{State, IsSynced}
use Rattle.aea_shelf.specs.Writes.{KeepsPadded}
use Rattle.aea_shelf.proofs.Runs.{padded_both, padded_less}
use Rattle.aea_records.specs.Format.{Record, limit_of, limit_when, raised_limit}
use Rattle.aea_records.specs.Laws.{HasOneReading}
use Rattle.aea_ledger.specs.Next.{AreItsRecords}
use Rattle.aea_ledger.specs.Values.{Opened, HasSomeRecords, IsThisOne}
use Rattle.aea_archive.specs.Blocks.{IsBlockIn}
use Rattle.aea_machine.specs.Closings.{Closing, closings_of, ClosedRecordsJoin}
use Rattle.aea_machine.specs.Machine.{Machine, begun, after}
use Rattle.aea_messages.specs.declared.message.Message.{Message}
use Rattle.aea_uploads.specs.Laws.{AreWide}
use Rattle.aea_session.specs.declared.fault.TakeFault.{TakeFault}
use Rattle.aea_session.specs.declared.fault.TakeFault.TheVariants.{DiskFault}
use Rattle.aea_session.specs.declared.serving.Stop.{Stop}
use Rattle.aea_session.specs.declared.serving.Stop.TheVariants as stop
use Rattle.aea_session.specs.declared.work.Work.{Work}
use Rattle.aea_session.specs.Serving.{EndsThere, ServesAll}
use Rattle.aea_session.specs.Takes.{Takes}
use Rattle.aea_command_session.specs.Closes.{SurelyGrows, HasClosedAll}
use Rattle.aea_command_session.proofs.Began.{Began}
use Rattle.aea_command_session.proofs.Growing.Going.{HasGone}
use Rattle.aea_command_session.proofs.Growing.Serving.{gone_all, gone_none, among_first}
use Rattle.aea_command_session.proofs.Growing.Ending.{closings_both, ends_any}

module _ (reading : HasOneReading) (lengths : CellsHaveLengths) (join : ClosedRecordsJoin)
    (reveals : Type 0) {D : Type 0} (state : D → State) (v : Opened) (w x : Work) (old : State) (d e : D) (left rest : Option (List ℕ)) (before then : SinkState) (result : Result (Unit {0}) Stop)
    (synced : reveals → IsSynced old) (began : Began reveals v w old (state d)) (run : ServesAll reveals state w x d e left rest before then result) (revealed : reveals) where
  -- where it stands after the messages that were taken
  module _ (records : List Record) (its : AreItsRecords v records (old.files 0)) (datas : List (List ℕ)) (long : length datas ≡ v.lattice.n) (wide : AreWide v.shape datas) where
    abbrev machine : Machine
    machine = begun datas v.objects

    gone_there : HasGone reveals v.shape v.lattice records datas (closings_of v.shape machine run.handled) (after v.shape machine run.handled) run.here old (state run.there)
    gone_there =
        let served = run.served machine (began.keeps datas long wide) in
        gone_all reading lengths join reveals revealed v.lattice records datas old state v.shape machine w run.here d run.there run.handled [] served.0
        (gone_none reading reveals revealed v w old (state d) began (synced revealed) records its datas long wide) served.1

    -- the limit of the archive is that of those that were raised
    raised_is : limit_of records ≡ raised_limit
    raised_is = ap limit_when (sym its.has.raised ∙ began.raised)

  closes_are : HasClosedAll v run.handled run.tail result old (state e)
  closes_are records datas its long wide =
      let m : Machine = begun datas v.objects in
      let closings : List Closing = closings_of v.shape m run.handled in
      let ends = ends_any reading lengths join reveals revealed v.lattice records datas old (synced revealed) (raised_is records its datas long wide) state v.shape (after v.shape m run.handled) closings
      run.here x run.there e (gone_there records its datas long wide) run.tail run.mid then result run.last in (
        ends.0,
        ends.1,
        ends.2,
        ends.3,
        subst (λ (cs : List Closing). SurelyGrows v.shape records datas cs (length (closings_of v.shape m (run.handled ++ ends.0))) old (state e)) (sym (closings_both v.shape m run.handled ends.1))
            (subst (λ (cs : List Closing). SurelyGrows v.shape records datas (closings ++ closings_of v.shape (after v.shape m run.handled) ends.1) (length cs) old (state e)) (sym (closings_both v.shape m run.handled ends.0)) ends.4),
      )

-- The archive grew by the closes of the messages, whichever X of as many blocks as it has nodes it records.
pub closed_all : HasOneReading → CellsHaveLengths → ClosedRecordsJoin
    → (reveals : Type 0) {D : Type 0} (state : D → State) (v : Opened) (w x : Work) (old : State) (d e : D) (left rest : Option (List ℕ)) (before then : SinkState) (result : Result (Unit {0}) Stop)
    → HasSomeRecords v → (reveals → IsThisOne v (old.files 0)) → (reveals → IsSynced old) → Began reveals v w old (state d)
    → (run : ServesAll reveals state w x d e left rest before then result) → reveals → HasClosedAll v run.handled run.tail result old (state e)
closed_all reading lengths join reveals state v w x old d e left rest before then result some is_this synced began run revealed =
    closes_are reading lengths join reveals state v w x old d e left rest before then result synced began run revealed

-- ---- the homes

same_fault : (f g : TakeFault) → (let one : Result ℕ TakeFault = Err f in one ≡ Err g) → f ≡ g
same_fault f g e = cc

module _ (reveals : Type 0) (revealed : reveals) {D : Type 0} (state : D → State) (shape : Shape) (nodes : ℕ) (old : Files) (v x : Work) (d e : D) (tail : List ℕ) (before then : SinkState)
    (same : v.ledger.shape ≡ shape) (among : (b : BlockId) → IsBlockIn shape nodes b → IsBlockIn shape v.heads.lattice.n b) (padded : KeepsPadded shape (IsBlockIn shape nodes) old (state d).files) where
  still_padded : e ≡ d → KeepsPadded shape (IsBlockIn shape nodes) old (state e).files
  still_padded is = subst (λ (y : D). KeepsPadded shape (IsBlockIn shape nodes) old (state y).files) (sym is) padded

  -- and after what came after the messages
  padded_any : (result : Result (Unit {0}) Stop) → result ≢ Err (stop.Taken DiskFault) → EndsThere reveals state v x d e tail before then result → KeepsPadded shape (IsBlockIn shape nodes) old (state e).files
  padded_any (Ok u) fine last = still_padded last.1
  padded_any (Err (stop.BadMessage at)) fine last = still_padded last.1
  padded_any (Err (stop.BadStream at)) fine last = still_padded last.1
  padded_any (Err stop.TooManyMessages) fine last = still_padded last.1
  padded_any (Err stop.Input) fine last = still_padded last.1
  padded_any (Err stop.Memory) fine last = still_padded last.1
  padded_any (Err (stop.Taken fault)) fine last =
      padded_both shape (IsBlockIn shape nodes) old (state d).files (state e).files padded
      (padded_less shape (IsBlockIn shape v.heads.lattice.n) (IsBlockIn shape nodes) (state d).files (state e).files among
      (subst (λ (s : Shape). KeepsPadded s (IsBlockIn s v.heads.lattice.n) (state d).files (state e).files) same
      (last.3.leaves.padded (λ is. fine (let h : (let one : Result ℕ TakeFault = Err fault in one ≡ Err DiskFault) = is in ap (λ (f : TakeFault). let one : Result (Unit {0}) Stop = Err (stop.Taken f) in one) (same_fault fault DiskFault h))) revealed)))

-- But after a fault of the disk the homes of the blocks that were there read as they did.
pub padded_all : HasOneReading → CellsHaveLengths → ClosedRecordsJoin
    → (reveals : Type 0) {D : Type 0} (state : D → State) (v : Opened) (w x : Work) (old : State) (d e : D) (left rest : Option (List ℕ)) (before then : SinkState) (result : Result (Unit {0}) Stop)
    → HasSomeRecords v → (reveals → IsThisOne v (old.files 0)) → (reveals → IsSynced old) → Began reveals v w old (state d)
    → (run : ServesAll reveals state w x d e left rest before then result) → result ≢ Err (stop.Taken DiskFault) → reveals → KeepsPadded v.shape (IsBlockIn v.shape v.lattice.n) old.files (state e).files
padded_all reading lengths join reveals state v w x old d e left rest before then result some is_this synced began run fine revealed =
    let one = is_this revealed in
    let block : List ℕ = replicate v.shape.block 0 in
    let gone = gone_there reading lengths join reveals state v w x old d e left rest before then result synced began run revealed one.records (record { has = one.has; ledger = one.ledger })
    (replicate v.lattice.n block) (length-replicate v.lattice.n block) (All-replicate (λ (b : List ℕ). length b ≡ v.shape.block) v.lattice.n block (length-replicate v.shape.block 0)) in
    let after_all : Machine = after v.shape (begun (replicate v.lattice.n block) v.objects) run.handled in
    padded_any reveals revealed state v.shape v.lattice.n old.files run.here x run.there e run.tail run.mid then gone.same
    (among_first reveals v.shape v.lattice one.records (replicate v.lattice.n block) (closings_of v.shape (begun (replicate v.lattice.n block) v.objects) run.handled) after_all run.here old (state run.there) gone)
    gone.padded result fine run.last
