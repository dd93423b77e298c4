-- The upload in a slot once its rest is woven: what is known of it, and what the calls of its close write.
use Rattle.std.proofs.Common.{◌≡◌, ◌≢◌, ℕ, ◌+◌, ◌*◌, List, length, None, Some, ◌∙◌, ap, subst}
use Rattle.std.specs.Prelude.{slice_index_or}
use Rattle.sha2.specs.Hashers.{Holds256}
use Rattle.sha2.specs.Sha256.{sha256}
use Rattle.sha2.proofs.Facts256.{length-sha256}
use Rattle.aea_lattice.specs.declared.shape.Shape.{Shape}
use Rattle.aea_disk.specs.Files.{Files, ChangesOnly}
use Rattle.aea_disk.specs.State.{State, IsReady}
use Rattle.aea_disk.specs.Frames.{OnlyWrites}
use Rattle.aea_catalog.specs.declared.objects.Extent.{Extent}
use Rattle.aea_weave.specs.Woven.{Woven}
use Rattle.aea_records.specs.Format.{Joined, raised_limit, entry}
use Rattle.aea_ledger.specs.Values.{Opened as Ledger}
use Rattle.aea_ledger.specs.Next.{next_stored}
use Rattle.aea_ledger.specs.Taking.{FitsAdding}
use Rattle.aea_archive.specs.Cells.{WritesCells}
use Rattle.aea_machine.specs.Machine.{Machine}
use Rattle.aea_uploads.specs.declared.slot.Slot.{Slot}
use Rattle.aea_uploads.specs.Gathering.{Finishes}
use Rattle.aea_uploads.specs.Laws.{FilledAreCounted, LastIsTheMachines}
use Rattle.aea_session.specs.declared.work.Work.{Work}
use Rattle.aea_session.specs.Closes.{HasCloseRoom}
use Rattle.aea_session.specs.May.{MayClose}
use Rattle.aea_session.specs.Stands.{KeepsMachine, IsTheSessions}
use Rattle.aea_session.proofs.CloseWoven.{Readied}
use Rattle.aea_session.proofs.CloseOpen.{Opened, opened_of, ready_of, room_is}
use Rattle.aea_session.proofs.CloseRecord.{joined_by}
use Rattle.aea_session.proofs.CloseAdds.{Leaves, both_write}

-- the record that is committed, by its name, digests and parts as they were passed
pub joined_as : (v : Ledger) (t : Slot) (digest : List ℕ) (count : ℕ) (es : List (List ℕ)) {name : List ℕ} {digests : List (List ℕ)} {parts : List Extent} → name ≡ t.name → digests ≡ es → parts ≡ t.parts.items
    → Joined (next_stored v name t.length digest count digests) parts ≡ joined_by v t digest count es
joined_as v t digest count es named same are = λ i. Joined (next_stored v (named i) t.length digest count (same i)) (are i)

-- The machine has an upload in the slot, and this is what is known of it once its rest is woven.
pub record Prepared (reveals : Type 0) (v : Work) (m : Machine) (slot : ℕ) (s t : Slot) (k : Woven) (es : List (List ℕ)) (mid : Files) : Type 0 where
  pub o : Opened v m slot s
  pub ready : Readied reveals v m o.upload t k es mid

pub prepared : LastIsTheMachines → FilledAreCounted → (reveals : Type 0) (v : Work) (m : Machine) (slot : ℕ) (s t : Slot) (k : Woven) (es : List (List ℕ)) (old mid : Files) (shape : Shape) → shape ≡ v.ledger.shape
    → KeepsMachine v m → (reveals → IsTheSessions v old) → MayClose v slot → slice_index_or v.slots slot None ≡ Some s → Finishes reveals shape v.heads k s t v.digests.items es old mid → Prepared reveals v m slot s t k es mid
prepared last counted reveals v m slot s t k es old mid shape same kept this may there f =
    let o = opened_of v m slot s kept there in
    record { o = o; ready = ready_of last counted reveals v m slot s t k es old mid kept this may there (subst (λ (x : Shape). Finishes reveals x v.heads k s t v.digests.items es old mid) same f) o }

-- cells of its last block are written, and then its record
pub close_writes : LastIsTheMachines → FilledAreCounted → (reveals first second : Type 0) (v : Work) (m : Machine) (slot : ℕ) (s t : Slot) (k : Woven) (es : List (List ℕ)) (old mid new : State) (shape : Shape)
    (name digest : List ℕ) (digests : List (List ℕ)) (parts : List Extent) (count : ℕ) → shape ≡ v.ledger.shape → KeepsMachine v m → (reveals → IsTheSessions v old.files) → MayClose v slot
    → slice_index_or v.slots slot None ≡ Some s → Finishes reveals shape v.heads k s t v.digests.items es old.files mid.files → ((bytes : List ℕ) → Holds256 t.hasher bytes → digest ≡ sha256 bytes)
    → name ≡ t.name → digests ≡ es → parts ≡ t.parts.items
    → (length digest ≡ 32 → length (entry (Joined (next_stored v.ledger name t.length digest count digests) parts)) ≡ 60 + length name + 8 * length parts + 32 * length digests)
    → (first → ⊥) → WritesCells reveals shape raised_limit (λ a. a.node ≢ v.heads.lattice.n + 1) first old mid
    → OnlyWrites reveals (IsReady mid) (FitsAdding mid 1 (v.ledger.end + length (entry (Joined (next_stored v.ledger name t.length digest count digests) parts)))) second (ChangesOnly 0) mid new
    → OnlyWrites reveals (IsReady old) (HasCloseRoom v slot old) second (Leaves v) old new
close_writes last counted reveals first second v m slot s t k es old mid new shape name digest digests parts count same kept this may there finishes hash named same_digests are size fine cells commit =
    let f : Finishes reveals v.ledger.shape v.heads k s t v.digests.items es old.files mid.files = subst (λ (x : Shape). Finishes reveals x v.heads k s t v.digests.items es old.files mid.files) same finishes in
    let p = prepared last counted reveals v m slot s t k es old.files mid.files shape same kept this may there finishes in
    let long = length (entry (Joined (next_stored v.ledger name t.length digest count digests) parts)) in
    let hashed = ap length (hash p.o.upload.bytes p.ready.closes.hash) ∙ length-sha256 p.o.upload.bytes in
    let sized : long ≡ 60 + length t.name + 8 * length t.parts.items + 32 * length es = size hashed ∙ (λ i. 60 + length (named i) + 8 * length (are i) + 32 * length (same_digests i)) in
    both_write reveals first second v slot (v.ledger.end + long) old mid new fine (subst (λ (x : Shape). WritesCells reveals x raised_limit (λ a. a.node ≢ v.heads.lattice.n + 1) first old mid) same cells) commit
    (λ revealed room. room_is last counted reveals v slot s t k es old mid.files this may there f long sized room)
