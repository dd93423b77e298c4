-- How the ledger goes on by the closes of messages.
use Rattle.std.proofs.Common.{ℕ, List, [], ◌∷◌, ◌++◌, sym, subst, append_assoc}
use Rattle.std.proofs.lemmas.List.{append-nil}
use Rattle.aea_lattice.specs.declared.shape.Shape.{Shape}
use Rattle.aea_disk.specs.State.{State}
use Rattle.aea_records.specs.Format.{Record}
use Rattle.aea_ledger.specs.Values.{Opened, HasRecords}
use Rattle.aea_messages.specs.declared.message.Message.{Message}
use Rattle.aea_machine.specs.Closings.{Closing, closings_of}
use Rattle.aea_machine.specs.Machine.{Machine, step}
use Rattle.aea_session.specs.declared.work.Work.{Work}
use Rattle.aea_session.specs.Closes.{AreRecordsOfCloses, GoesOn}
use Rattle.aea_session.specs.Serving.{HasServed}
use Rattle.aea_session.specs.Stands.{KeepsMachine}

-- records of some closes, and of others after them
records_then : (cs ds : List Closing) (rs ss : List Record) → AreRecordsOfCloses cs rs → AreRecordsOfCloses ds ss → AreRecordsOfCloses (cs ++ ds) (rs ++ ss)
records_then [] ds [] ss one two = two
records_then [] ds (r ∷ rs) ss one two = absurd one
records_then (c ∷ cs) ds [] ss one two = absurd one
records_then (c ∷ cs) ds (r ∷ rs) ss one two = (one.0, records_then cs ds rs ss one.1 two)

goes_none : (v w : Opened) (records : List Record) → HasRecords w records → GoesOn v w [] records
goes_none v w records has = record { added = []; are = tt; has = subst (HasRecords w) (sym (append-nil records)) has }

goes_then : (u v w : Opened) (cs ds : List Closing) (records : List Record) (first : GoesOn u v cs records) → GoesOn v w ds (records ++ first.added) → GoesOn u w (cs ++ ds) records
goes_then u v w cs ds records first rest = record {
  added = first.added ++ rest.added;
  are = records_then cs ds first.added rest.added first.are rest.are;
  has = subst (HasRecords w) (append_assoc records first.added rest.added) rest.has;
}

module _ (reveals : Type 0) {D : Type 0} (state : D → State) where
  -- Messages that were taken one after the other leave a ledger with the records of their closes. For a crate above that serves a
  -- stream
  pub served_goes : (m : Machine) (v w : Work) (d e : D) (messages : List Message) (bytes : List ℕ) (records : List Record) → KeepsMachine v m → HasRecords v.ledger records
      → HasServed reveals state m v d messages bytes w e → GoesOn v.ledger w.ledger (closings_of v.ledger.shape m messages) records
  served_goes m v w d e [] bytes records keeps has served = goes_none v.ledger w.ledger records (subst (λ (x : Work). HasRecords x.ledger records) (sym served.0) has)
  served_goes m v w d e (message ∷ messages) bytes records keeps has served =
      let u : Work = served.0 in
      let n : Machine = (step v.ledger.shape m message).state in
      let moves = served.5.moves in
      let first = moves.goes m keeps records has in
      let rest = served_goes n u w served.1 e messages served.4 (records ++ first.added) (moves.keeps m keeps) first.has served.7 in
      goes_then v.ledger u.ledger w.ledger _ (closings_of v.ledger.shape n messages) records first
      (subst (λ (s : Shape). GoesOn u.ledger w.ledger (closings_of s n messages) (records ++ first.added)) moves.shape rest)
