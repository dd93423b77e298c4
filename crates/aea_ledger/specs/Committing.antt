-- What a call leaves that commits a record.
use Rattle.std.specs.Prelude.{◌≡◌, ◌≤◌, ◌+◌, ◌||◌, ℕ, true, List, [], ◌∷◌, ◌++◌, length, max}
use Rattle.std.specs.List.{flat_map, sum_by}
use Rattle.sha2.specs.Hashers.{Holds256}
use Rattle.sha2.specs.Sha256.{sha256}
use Rattle.aea_disk.specs.State.{State, During, Stays, IsSynced, HasRoom, HasRoomTo}
use Rattle.aea_records.specs.Format.{Record, is_raise, stored_in, fence_in, body, entry}
use Rattle.aea_records.specs.Grammar.{IsNext}
use Rattle.aea_records.specs.Catalogued.{with_record}
use Rattle.aea_ledger.specs.Values.{Opened, HasRecords, IsThisOne}
use Rattle.aea_ledger.specs.Next.{AreItsRecords}
use Rattle.aea_ledger.specs.Stops.{HasLedger, HasOldOrNew, committed}

-- the record may follow those of the opened ledger
abbrev pub IsNextOf : Opened → Record → Type 0
IsNextOf v r = (records : List Record) → HasRecords v records → IsNext v.shape records r

-- one opened ledger has what the other has, and what the record adds
pub record HasTaken (v : Opened) (r : Record) (w : Opened) : Type 0 where
  pub shape : w.shape ≡ v.shape
  pub alpha : w.lattice.alpha ≡ v.lattice.alpha
  pub s : w.lattice.s ≡ v.lattice.s
  pub p : w.lattice.p ≡ v.lattice.p
  pub n : w.lattice.n ≡ v.lattice.n + sum_by (λ o. o.count) (stored_in r)
  pub fences : w.lattice.fences ≡ v.lattice.fences ++ fence_in r
  pub objects : w.objects ≡ with_record v.objects r
  pub raised : w.raised ≡ (v.raised || is_raise r)
  pub digests : w.digests ≡ v.digests ++ flat_map (λ o. o.digests) (stored_in r)
  pub hasher : (m : List ℕ) → Holds256 v.hasher m → Holds256 w.hasher (m ++ entry r)
  pub seal : (m : List ℕ) → Holds256 v.hasher m → w.seal ≡ sha256 (m ++ entry r)
  pub end : w.end ≡ v.end + length (entry r)
  pub live : w.live ≡ true

-- What a call leaves that commits a record, whatever it returns: the old ledger or the new one at each moment; a new one
-- stays; and no write ends past the gate that ends the new ledger.
pub record LeavesOldOrNew (reveals : Type 0) (v : Opened) (r : Record) (old new : State) : Type 0 where
  pub any_moment : reveals → (records : List Record) → AreItsRecords v records (old.files 0) → During old new (λ c. HasOldOrNew v.shape records r (c 0))
  pub stays : reveals → (records : List Record) → AreItsRecords v records (old.files 0) → Stays old new (λ c. HasLedger v.shape (records ++ r ∷ []) (c 0))
  pub reads : reveals → (records : List Record) → AreItsRecords v records (old.files 0) → HasOldOrNew v.shape records r (new.files 0)
  pub long : reveals → length (new.files 0) ≤ max (length (old.files 0)) (v.end + length (entry r) + 1)

-- What holds at Ok: the new ledger, in the value and on the disk, byte for byte, and all of it durable.
pub record HasCommitted (reveals : Type 0) (v w : Opened) (r : Record) (old new : State) : Type 0 where
  pub value : (records : List Record) → HasRecords v records → HasRecords w (records ++ r ∷ [])
  pub same_shape : w.shape ≡ v.shape
  pub live : w.live ≡ true
  pub this_one : reveals → IsThisOne w (new.files 0)
  pub exactly : reveals → new.files 0 ≡ committed (old.files 0) v.end (body r ++ 0 ∷ [])
  pub appended : reveals → (records : List Record) → AreItsRecords v records (old.files 0) → HasLedger v.shape (records ++ r ∷ []) (new.files 0)
  pub durable : reveals → IsSynced new
  pub room : HasRoom old → HasRoomTo old 0 (v.end + length (entry r) + 1)
