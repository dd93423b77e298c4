-- That a session over an input without messages ends well, where the limit was raised.
use Rattle.std.proofs.Common.{◌≡◌, ⊎_elim, ℕ, ◌≤◌, List, [], ◌∷◌, ◌++◌, length, Option, None, Some, refl, sym, ◌∙◌, ap, subst, arith, length-append}
use Rattle.std.specs.Prelude.{◌-◌, vec_len}
use Rattle.std.specs.Io.KnownBytes.{Consumes}
use Rattle.aea_lattice.specs.declared.blocks.BlockId.{BlockId}
use Rattle.aea_lattice.specs.declared.grid.Lattice.{Lattice}
use Rattle.aea_lattice.specs.declared.shape.Shape.{Shape}
use Rattle.aea_lattice.specs.Blocks.{HasBlock}
use Rattle.aea_disk.specs.Files.{Files}
use Rattle.aea_disk.specs.Spaces.{Memory}
use Rattle.aea_io.specs.declared.sure.SureSink.{SureSink}
use Rattle.aea_shelf.specs.Places.{site_bytes}
use Rattle.aea_records.specs.Catalogued.{objects_of}
use Rattle.aea_records.specs.Format.{Record, raised_limit, limit_of, nodes_of, fences_of, digests_of}
use Rattle.aea_records.specs.Laws.{HasOneReading, LedgersAreArchives, LedgersAreNotBad}
use Rattle.aea_ledger.specs.Stops.{HasLedger}
use Rattle.aea_archive.specs.Blocks.{IsIntactBy}
use Rattle.aea_archive.proofs.Values.{last_inside}
use Rattle.aea_messages.specs.declared.message.Message.{Message}
use Rattle.aea_messages.specs.Messages.{spelled, spelled_all, IsBad}
use Rattle.aea_machine.specs.Closings.{closings_of}
use Rattle.aea_machine.specs.Machine.{begun}
use Rattle.aea_command.specs.declared.refusal.Refusal.{Refusal}
use Rattle.aea_command.specs.declared.refusal.Refusal.TheVariants.{NoArchive, LedgerBad, HeadDamaged, BadStream, NotUpgraded, BadMessage, TooManyMessages}
use Rattle.aea_command_store.specs.Put.{HasDamagedHead, HasLimit}
use Rattle.aea_command_session.specs.Causes.{SessionCauses}
use Rattle.aea_command_session.specs.Space.{greatest_replies}
use Rattle.aea_dispatch.specs.declared.command.Command.TheVariants.{Session}
use Rattle.aea_run_laws.specs.Meeting.{HasLeft, IsMet}
use Rattle.aea_run_laws.proofs.OneBlock.{shape, one}
use Rattle.aea_run_laws.proofs.Over.{IsGround, seen_then, spacious, meets}
use Rattle.aea_run_laws.proofs.Readings.{same_shape, same_records, same_lattice}

-- ---- an input without bytes

-- it has no message
no_bytes : (messages : List Message) (rest : List ℕ) → [] ≡ spelled_all messages ++ rest → (messages ≡ []) × (length rest ≡ 0)
no_bytes [] rest is = (refl, let long : 0 ≡ length rest = ap length is in sym long)
no_bytes (message ∷ messages) rest is = let long : 0 ≡ length (spelled_all (message ∷ messages) ++ rest) = ap length is in absurd (omega (arith, long))

begins_none : (rest : Option (List ℕ)) (messages : List Message) → Consumes (Some []) rest (spelled_all messages) → messages ≡ []
begins_none None messages is = absurd is
begins_none (Some bytes) messages is = (no_bytes messages bytes is).0

-- nor is it bad
bad_some : (bytes : List ℕ) (place : ℕ) → length bytes ≡ 0 → IsBad bytes place → ⊥
bad_some bytes place none bad =
    ⊎_elim
    (λ first. let long = ap length first.1 in omega (arith, none, long))
    (λ chunk. let long = ap length chunk.2 in omega (arith, none, long))
    bad

empty_of : (bytes : List ℕ) → length bytes ≡ 0 → bytes ≡ []
empty_of [] none = refl
empty_of (x ∷ bytes) none = absurd (omega (arith, none))

module _ (reading : HasOneReading) (archives : LedgersAreArchives) (bad : LedgersAreNotBad) (x : Files) (all : List Record) (ledger : HasLedger shape all (x 0)) (nodes : nodes_of all ≡ 1) (unfenced : fences_of all ≡ [])
    (digests : List (List ℕ)) (recorded : digests_of all ≡ digests) (whole : (b : BlockId) → HasBlock one b → IsIntactBy shape digests x b) (raised : limit_of all ≡ raised_limit) where
  session_unrefused : (why : Refusal) → SessionCauses x [] why → ⊥
  session_unrefused NoArchive cause = (archives (x 0) cause).0 shape all _ ledger
  session_unrefused (LedgerBad at) cause = bad (x 0) shape all _ at ledger cause
  session_unrefused NotUpgraded cause =
      let limit = cause.1 in
      let is = limit.is in
      let same : limit_of limit.records ≡ raised_limit = ap limit_of (same_records reading (x 0) all ledger cause.0 limit.records limit.ledger) ∙ raised in
      omega (arith, is, same)
  session_unrefused (HeadDamaged block) cause =
      let h : HasDamagedHead x block = cause in
      let lattice_is : h.lattice ≡ one = same_lattice reading (x 0) all ledger nodes unfenced h.shape h.records h.lattice h.ledger h.is_lattice in
      let inside : HasBlock one block = subst (λ (a : Lattice). HasBlock a block) lattice_is (last_inside h.lattice block h.first.damaged.last) in
      let intact : IsIntactBy h.shape (digests_of h.records) x block =
      subst (λ (q : Shape). IsIntactBy q (digests_of h.records) x block) (sym (same_shape reading (x 0) all ledger h.shape h.records h.ledger))
      (subst (λ (l : List Record). IsIntactBy shape (digests_of l) x block) (sym (same_records reading (x 0) all ledger h.shape h.records h.ledger))
      (subst (λ (ds : List (List ℕ)). IsIntactBy shape ds x block) (sym recorded) (whole block inside))) in
      h.first.damaged.damaged intact
  session_unrefused (BadMessage at) cause =
      let rest = no_bytes cause.0 (cause.1 ++ cause.2) cause.4.input_is in
      let both = length-append cause.1 cause.2 in
      let none = rest.1 in
      bad_some cause.1 cause.3 (omega (arith, both, none)) cause.5
  session_unrefused (BadStream at) cause =
      let rest = no_bytes cause.0 cause.1 cause.2.input_is in
      cause.3.0 (empty_of cause.1 rest.1)
  session_unrefused TooManyMessages cause =
      let rest = no_bytes cause.0 (spelled cause.1 ++ cause.2) cause.3.input_is in
      let none = rest.1 in
      omega (arith, none)
  session_unrefused why cause = cause

  pub session_met : (room spare : ℕ) → site_bytes shape raised_limit ≤ room → (m : Memory) → IsGround x room spare m → (out : SureSink) → HasLeft 0 out → IsMet Session m [] out
  session_met room spare large m ground out left =
      meets x room spare m ground Session [] out tt
      (λ mid a name adopts. record {
        some = ground.roomy mid a name adopts;
        sites = λ s there f from to.
            let limit : HasLimit s raised_limit (x 0) = subst (λ (y : Files). HasLimit s raised_limit (y 0)) (seen_then x room spare m ground mid a adopts) (there tt) in
            let shape_is = same_shape reading (x 0) all ledger s limit.records limit.ledger in
            let rows : site_bytes s raised_limit ≡ site_bytes shape raised_limit = ap (λ (q : Shape). site_bytes q raised_limit) shape_is in
            let sites : s.sites ≡ 10 = ap (λ (q : Shape). q.sites) shape_is in
            spacious x room spare m ground mid a name adopts f (site_bytes s raised_limit) (omega (arith, to, sites)) (omega (arith, rows, large));
        behind = λ more end there.
            let w = there tt in
            absurd (w.some (ap (closings_of w.shape (begun w.datas (objects_of w.records))) (begins_none w.begins.rest w.messages w.begins.taken)));
      })
      (λ files on same s records datas there limit long wide messages begins.
      let size : greatest_replies s (begun datas (objects_of records)) messages ≡ 0 = ap (greatest_replies s (begun datas (objects_of records))) (begins_none begins.rest messages begins.taken) in
      record { room = out.room - vec_len out.bytes; revealed = refl; enough = omega (arith, size) })
      (λ files on same. tt)
      (λ files on why same cause. session_unrefused why (subst (λ (y : Files). SessionCauses y [] why) same cause))
