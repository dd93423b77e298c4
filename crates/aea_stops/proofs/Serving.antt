-- A session that began: what it closed, over the records of its archive.
use Rattle.std.proofs.Common.{◌≡◌, ℕ, List, ◌++◌, length, replicate, refl, ◌∙◌, subst, Result}
use Rattle.std.proofs.lemmas.List.{length-replicate}
use Rattle.std.proofs.lemmas.List.Elements.{All-replicate}
use Rattle.aea_lattice.specs.declared.shape.Shape.{Shape}
use Rattle.aea_disk.specs.State.{State}
use Rattle.aea_records.specs.Format.{Record, nodes_of}
use Rattle.aea_records.specs.Laws.{HasOneReading}
use Rattle.aea_ledger.specs.Next.{AreItsRecords}
use Rattle.aea_ledger.specs.Stops.{HasLedger}
use Rattle.aea_ledger.specs.Values.{Opened, HasRecords}
use Rattle.aea_messages.specs.declared.message.Message.{Message}
use Rattle.aea_uploads.specs.Laws.{AreWide}
use Rattle.aea_session.specs.declared.serving.Stop.{Stop}
use Rattle.aea_command.specs.Openings.{OpensThen}
use Rattle.aea_command.proofs.Reading.{by_reading}
use Rattle.aea_command_session.specs.Closes.{SurelyGrows, ClosesAll, HasClosedAll, closes_of}
use Rattle.aea_command_session.specs.Session.{HasBegun, HasRun}
use Rattle.aea_stops.specs.GoingOn.{SessionRun}

-- blocks of zeros, as many as the archive has nodes
abbrev pub zeros : Opened → List (List ℕ)
zeros v = replicate v.lattice.n (replicate v.shape.block 0)

-- The archive of a run that began, and how it grew from the first sync on: by closes over an X of zeros.
pub record Began (reveals : Type 0) (shape : Shape) (records : List Record) (old new : State) (s : SessionRun) : Type 0 where
  pub v : Opened
  pub same : v.shape ≡ shape
  pub has : HasRecords v records
  pub begun : HasBegun reveals v old new s.left s.rest s.before s.after s.answer (λ messages tail result. OpensThen old new (HasClosedAll v messages tail result))
  pub long : length (zeros v) ≡ nodes_of records
  pub wide : AreWide shape (zeros v)
  pub opens : OpensThen old new (ClosesAll v records (zeros v) begun.messages begun.tail begun.result)

-- a run that began is one over the records of the ledger that the disk had
pub begun_over : HasOneReading → (reveals : Type 0) (shape : Shape) (records : List Record) (old new : State) (s : SessionRun) → reveals → HasLedger shape records (old.files 0) → HasRun reveals old new s.left s.rest s.before s.after s.answer → Began reveals shape records old new s
begun_over reading reveals shape records old new s revealed ledger ran =
    let v = ran.0 in
    let one = ran.2 revealed in
    let begun = ran.3 in
    let opened = begun.closes revealed in
    let size = length-replicate v.lattice.n (replicate v.shape.block 0) in
    let wide : AreWide v.shape (zeros v) = All-replicate (λ (d : List ℕ). length d ≡ v.shape.block) v.lattice.n (replicate v.shape.block 0) (length-replicate v.shape.block 0) in
    let its : AreItsRecords v one.records (old.files 0) = record { has = one.has; ledger = one.ledger } in
    by_reading reading v (old.files 0) one (λ shape records. Began reveals shape records old new s)
    (record {
      v = v;
      same = refl;
      has = one.has;
      begun = begun;
      long = size ∙ one.has.lattice.n;
      wide = wide;
      opens = record {
        moment = opened.moment;
        from = opened.from;
        to = opened.to;
        before = opened.before;
        synced = opened.synced;
        rest = opened.rest one.records (zeros v) its size wide;
      };
    }) shape records ledger

-- the closes of such a stretch, in the shape of the archive
pub surely_closed : (v : Opened) (shape : Shape) (records : List Record) (datas : List (List ℕ)) (messages : List Message) (tail : List ℕ) (result : Result (Unit {0}) Stop) (old new : State) → v.shape ≡ shape → (c : ClosesAll v records datas messages tail result old new)
    → SurelyGrows shape records datas (closes_of v datas (messages ++ c.1)) (length (closes_of v datas (messages ++ c.0))) old new
surely_closed v shape records datas messages tail result old new same c =
    subst (λ (h : Shape). SurelyGrows h records datas (closes_of v datas (messages ++ c.1)) (length (closes_of v datas (messages ++ c.0))) old new) same c.4
