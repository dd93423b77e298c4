-- What follows from how it ended that what was wanted of a source was to be stored.
use Rattle.std.proofs.Common.{◌≡◌, inl, inr, ◌⊎◌, ℕ, ◌+◌, ◌<◌, ◌≤◌, List, length, Option, None, Some, Result, Err, refl, sym, ◌∙◌, ap, subst, arith}
use Rattle.aea_lattice.specs.declared.blocks.BlockId.{BlockId}
use Rattle.aea_disk.specs.State.{State}
use Rattle.aea_records.specs.Format.{nodes_for, limit_when}
use Rattle.aea_ledger.specs.Values.{Opened}
use Rattle.aea_archive.specs.Lasts.{IsDamagedLast, AreLastsIntact}
use Rattle.aea_append.specs.declared.fault.PutFault.{PutFault}
use Rattle.aea_append.specs.declared.fault.PutFault.TheVariants.{BadName, NameTaken, CatalogFull, HeadDamaged, Full, ReadFault, DiskFault, NoMemory}
use Rattle.aea_append.specs.declared.store.Stored.{Stored}
use Rattle.aea_append.specs.Taking.{room_left, long_of, IsThere, IsOver}
use Rattle.aea_append.specs.Puts.{IsWanted, IsWhole, IsCut}
use Rattle.aea_append.specs.Causes.{IsHeadRefused}
use Rattle.aea_append.specs.Wanted.{EndsBy, StoresWanted, StoresNone, KeepsWanted, EndsBefore}
use Rattle.aea_append.proofs.Rooms.{all_long, fits_room}
use Rattle.aea_append.proofs.Wanted.{over_none, there_long}

module _ {reveals untaken : Type 0} {v w : Opened} {name : List ℕ} {want : Option ℕ} {left rest : Option (List ℕ)} {before after : ℕ} {old new : State} where
  -- what is left by this result
  pub ended_as : {r s : Result (Option Stored) PutFault} → r ≡ s → StoresWanted reveals untaken v w name want left rest before after old new r → EndsBy reveals untaken v w name want left rest before after old new s
  ended_as {r} {s} is e = subst (λ (x : Result (Option Stored) PutFault). EndsBy reveals untaken v w name want left rest before after old new x) is e.ended

  -- where it is refused as too long, it is
  pub over_as : {r : Result (Option Stored) PutFault} {n : ℕ} → r ≡ Err (Full n) → StoresWanted reveals untaken v w name want left rest before after old new r → IsOver v want left rest
  over_as is e = (ended_as is e).over

  -- where a last parity is damaged, that is the refusal
  pub head_refused_by : {T : Type 0} {r : Result (Option Stored) PutFault} (f : PutFault) → r ≡ Err f → StoresWanted reveals untaken v w name want left rest before after old new r → reveals → (a : BlockId) → IsDamagedLast v.shape v.lattice v.digests old.files a → IsHeadRefused {T = T} (Err f)
  head_refused_by (HeadDamaged b) is e revealed a damaged = inl (b, refl)
  head_refused_by (Full nodes) is e revealed a damaged = absurd (damaged.damaged ((ended_as is e).heads revealed a damaged.last))
  head_refused_by ReadFault is e revealed a damaged = absurd (damaged.damaged ((ended_as is e).heads revealed a damaged.last))
  head_refused_by DiskFault is e revealed a damaged = inr (inl refl)
  head_refused_by NoMemory is e revealed a damaged = inr (inr refl)
  head_refused_by BadName is e revealed a damaged = absurd (ended_as is e)
  head_refused_by NameTaken is e revealed a damaged = absurd (ended_as is e)
  head_refused_by CatalogFull is e revealed a damaged = absurd (ended_as is e)

  -- where a number of bytes is wanted that exceeds the space, that is the refusal
  pub over_refused_by : {T : Type 0} {r : Result (Option Stored) PutFault} (f : PutFault) → r ≡ Err f → StoresWanted reveals untaken v w name want left rest before after old new r → (n : ℕ) → want ≡ Some n → room_left v < n → (f ≡ Full v.lattice.n) ⊎ IsHeadRefused {T = T} (Err f)
  over_refused_by (HeadDamaged b) is e n some past = inr (inl (b, refl))
  over_refused_by (Full nodes) is e n some past = inl (ap Full (ended_as is e).nodes_is)
  over_refused_by ReadFault is e n some past = absurd (let within = (ended_as is e).fits n some in omega (arith, within, past))
  over_refused_by DiskFault is e n some past = inr (inr (inl refl))
  over_refused_by NoMemory is e n some past = inr (inr (inr refl))
  over_refused_by BadName is e n some past = absurd (ended_as is e)
  over_refused_by NameTaken is e n some past = absurd (ended_as is e)
  over_refused_by CatalogFull is e n some past = absurd (ended_as is e)

  -- each fault is that more was wanted than fits, or one before it
  pub full_refused_by : {T : Type 0} {r : Result (Option Stored) PutFault} (f : PutFault) → r ≡ Err f → StoresWanted reveals untaken v w name want left rest before after old new r → (f ≡ Full v.lattice.n) ⊎ ((f ≡ ReadFault) ⊎ IsHeadRefused {T = T} (Err f))
  full_refused_by (HeadDamaged b) is e = inr (inr (inl (b, refl)))
  full_refused_by (Full nodes) is e = inl (ap Full (ended_as is e).nodes_is)
  full_refused_by ReadFault is e = inr (inl refl)
  full_refused_by DiskFault is e = inr (inr (inr (inl refl)))
  full_refused_by NoMemory is e = inr (inr (inr (inr refl)))
  full_refused_by BadName is e = absurd (ended_as is e)
  full_refused_by NameTaken is e = absurd (ended_as is e)
  full_refused_by CatalogFull is e = absurd (ended_as is e)

  -- where no reason for a refusal holds, and neither the disk nor the source is at fault, memory ran out
  pub complete_by : {r : Result (Option Stored) PutFault} (f : PutFault) → r ≡ Err f → StoresWanted reveals untaken v w name want left rest before after old new r → reveals → (bytes : List ℕ) → left ≡ Some bytes → AreLastsIntact v.shape v.lattice v.digests old.files
      → v.lattice.n + nodes_for v.shape (long_of want bytes) ≤ limit_when v.raised → (f ≡ DiskFault → ⊥) → (f ≡ ReadFault → ⊥) → f ≡ NoMemory
  complete_by (HeadDamaged b) is e revealed bytes has intact fits disk source = absurd (let h = ended_as is e in (h.first revealed).damaged.damaged (intact b h.last))
  complete_by (Full nodes) is e revealed bytes has intact fits disk source = absurd (over_none v want left rest bytes has (ended_as is e).over fits)
  complete_by ReadFault is e revealed bytes has intact fits disk source = absurd (source refl)
  complete_by DiskFault is e revealed bytes has intact fits disk source = absurd (disk refl)
  complete_by NoMemory is e revealed bytes has intact fits disk source = refl
  complete_by BadName is e revealed bytes has intact fits disk source = absurd (ended_as is e)
  complete_by NameTaken is e revealed bytes has intact fits disk source = absurd (ended_as is e)
  complete_by CatalogFull is e revealed bytes has intact fits disk source = absurd (ended_as is e)

  -- after each fault but one of the disk, nothing was stored
  pub none_by : {r : Result (Option Stored) PutFault} (f : PutFault) → r ≡ Err f → StoresWanted reveals untaken v w name want left rest before after old new r → (f ≡ DiskFault → ⊥) → StoresNone reveals v w old new
  none_by (HeadDamaged b) is e fine = (ended_as is e).none
  none_by (Full nodes) is e fine = (ended_as is e).none
  none_by ReadFault is e fine = (ended_as is e).none
  none_by DiskFault is e fine = absurd (fine refl)
  none_by NoMemory is e fine = ended_as is e
  none_by BadName is e fine = absurd (ended_as is e)
  none_by NameTaken is e fine = absurd (ended_as is e)
  none_by CatalogFull is e fine = absurd (ended_as is e)

module _ {reveals : Type 0} {v w : Opened} {name : List ℕ} {want : Option ℕ} {left rest : Option (List ℕ)} {before after : ℕ} {old new : State} where
  -- a number of bytes that was stored fitted
  pub kept_within : (stored : Stored) → KeepsWanted reveals v w name want left rest before after old new stored → (n : ℕ) → want ≡ Some n → room_left v < n → ⊥
  kept_within stored e n some past =
      let cut : IsCut name n left rest e.kept.0 = subst (λ (x : Option ℕ). IsWanted x name left rest e.kept.0) some e.kept.1 in
      let long = cut.long in
      let size = e.kept.2.size in
      let fits = fits_room v stored.length e.fits in
      omega (arith, long, size, fits, past)

  -- and so did all
  pub kept_all : (stored : Stored) → KeepsWanted reveals v w name want left rest before after old new stored → (bytes : List ℕ) → left ≡ Some bytes → want ≡ None → limit_when v.raised < v.lattice.n + nodes_for v.shape (length bytes) → ⊥
  kept_all stored e bytes is all past =
      let whole : IsWhole name left rest e.kept.0 = subst (λ (x : Option ℕ). IsWanted x name left rest e.kept.0) all e.kept.1 in
      let long = all_long left bytes e.kept.0.bytes rest is whole.taken whole.end in
      let fits = e.fits in
      omega (arith, fits, past, ap (nodes_for v.shape) (sym long ∙ sym e.kept.2.size))

-- a source that ended had fewer bytes
pub ended_short : {reveals : Type 0} {v w : Opened} {want : Option ℕ} {left rest : Option (List ℕ)} {old new : State} → EndsBefore reveals v w want left rest old new → (bytes : List ℕ) → left ≡ Some bytes → IsThere want bytes → ⊥
ended_short {reveals} {v} {w} {want} {left} {rest} {old} {new} e bytes is there =
    let all = all_long left bytes e.ended.3.0 rest is e.ended.3.1 e.ended.2 in
    let less = e.ended.3.2 in
    omega (arith, all, less, there_long want e.ended.0 bytes e.ended.1 there)
