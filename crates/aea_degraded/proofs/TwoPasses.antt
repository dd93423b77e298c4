-- What a fetch appended and how it failed, by its two passes.
use Rattle.std.proofs.Common.{◌≡◌, ◌⊎◌, inl, inr, ◌≤◌, ℕ, Bool, List, [], take, Option, Some, Ok, Err, IsTrue, refl, sym, ◌∙◌, ap, subst}
use Rattle.std.specs.Prelude.{All, Result}
use Rattle.std.specs.List.{sum_by}
use Rattle.std.specs.Io.KnownBytes.{Appends}
use Rattle.aea_io.specs.Streams.{SinkState}
use Rattle.aea_lattice.specs.declared.blocks.BlockId.{BlockId}
use Rattle.aea_lattice.specs.declared.blocks.Class.TheVariants.{Datum}
use Rattle.aea_lattice.specs.declared.grid.Lattice.{Lattice}
use Rattle.aea_lattice.specs.Blocks.{block_of, HasBlock}
use Rattle.aea_lattice.specs.Data.{IsDataList, Determines, datum_at}
use Rattle.aea_lattice.specs.LeastWord.{IsWord}
use Rattle.aea_disk.specs.Files.{Files}
use Rattle.aea_catalog.specs.Catalogs.{Placed}
use Rattle.aea_records.specs.Fields.{are_apart}
use Rattle.aea_records.specs.Format.{nodes_for}
use Rattle.aea_fates.specs.Laws.{ListsAreOne}
use Rattle.aea_ledger.specs.Values.{Opened}
use Rattle.aea_ledger.specs.Recorded.{IsLatticeOf}
use Rattle.aea_archive.specs.Blocks.{RevealsSurvivors}
use Rattle.aea_archive.specs.Data.{AreSurvivorsHonest}
use Rattle.aea_archive.specs.Objects.{data_of, data_under, joined, object_in, IsOneOf}
use Rattle.aea_fetch.specs.Copies.{HasSent, HasCut}
use Rattle.aea_fetch.proofs.Copies.{sent_as, long_enough}
use Rattle.aea_fetch.proofs.Firsts.{none_first, one_first}
use Rattle.aea_fetch.proofs.Getting.{sent_under}
use Rattle.aea_fetch.proofs.Owns.{own_parts_are}
use Rattle.aea_restore.specs.Drawn.{AreAllIntact}
use Rattle.aea_restore.proofs.Drawing.{block_in_archive, honest_drawn}
use Rattle.aea_restore.proofs.Ends.{all_intact}
use Rattle.aea_degraded.specs.declared.fault.FetchFault.{FetchFault}
use Rattle.aea_degraded.specs.declared.fault.FetchFault.TheVariants.{Undetermined, DiskFault, NoMemory, WriteFault}
use Rattle.aea_degraded.specs.Fetched.{IsFetched, HasFetched, HasFetchedPart, IsFirstOpen, IsClashing, IsOutside}
use Rattle.aea_degraded.specs.Planned.{IsFirstFault}
use Rattle.aea_degraded.specs.Sent.{IsSendFault}
use Rattle.aea_degraded.proofs.Checked.{has_one}
use Rattle.aea_degraded.proofs.Printed.{fetched_wide, fetched_also, fetched_cut}

-- the blocks that a test of the survivors picks are intact
pub known_of : (v : Opened) (l : Lattice) (c : Files) (known : BlockId → Bool) → l ≡ v.lattice → IsLatticeOf v.shape l.n l.fences l → RevealsSurvivors v.shape v.lattice.n v.digests c known → AreAllIntact v known c
known_of v l c known same of_shape survivors = all_intact v c known (λ b has. block_in_archive v l b same of_shape has) survivors

-- ---- what was appended, where the second pass read what the first one did

module _ (reveals : Type 0) (v : Opened) (c d : Files) (same : reveals → c ≡ d) where
  -- the object
  pub fetched_sent : (o : Option Placed) (p : Placed) (most : ℕ) (a b : SinkState) → o ≡ Some p → most ≡ p.object.length → p.object.count ≡ sum_by (λ e. e.count) p.parts → p.object.count ≡ nodes_for v.shape p.object.length
      → HasSent (IsFetched reveals v c) (data_under o) most a b → HasFetched reveals v d p a b
  fetched_sent o p most a b is long sum count sent =
      let mine = subst (λ (n : ℕ). HasSent (IsFetched reveals v d) (data_of p.parts) n a b) long
      (sent_as (IsFetched reveals v c) (IsFetched reveals v d) (fetched_also reveals v c d same) (data_of p.parts) most a b (sent_under (IsFetched reveals v c) o p most a b is sent)) in
      record {
        payloads = mine.payloads;
        are = mine.are;
        long = long_enough (IsFetched reveals v d) v.shape.block (fetched_wide reveals v d) v.shape p mine.payloads refl mine.are sum count;
        appended = mine.appended;
      }

  -- a first part of it
  pub fetched_part : (o : Option Placed) (p : Placed) (most : ℕ) (a b : SinkState) (output : Type 0) → o ≡ Some p → most ≡ p.object.length
      → HasCut (IsFetched reveals v c) (data_under o) most a [] b output → HasFetchedPart reveals v d p a b
  fetched_part o p most a b output is long cut =
      let mine = subst (λ (n : ℕ). HasCut (IsFetched reveals v d) (data_of p.parts) n a [] b output) long
      (fetched_cut reveals v c d same (data_of p.parts) most a b [] output (subst (λ (bs : List BlockId). HasCut (IsFetched reveals v c) bs most a [] b output) (ap data_under is) cut)) in
      record { front = mine.front; is_front = mine.is_front; payloads = mine.payloads; are = mine.are; part = mine.part }

-- of survivors that are honest for a data list it is the object in that list
pub own_fetched : (reveals : Type 0) (v : Opened) (c : Files) (p : Placed) (a b : SinkState) (datas : List (List ℕ)) (known : BlockId → Bool) → reveals → IsDataList v.lattice v.shape.block datas → AreSurvivorsHonest v.shape v.lattice v.digests datas c
    → RevealsSurvivors v.shape v.lattice.n v.digests c known → AreAllIntact v known c → IsTrue (are_apart 0 v.lattice.n p.parts) → HasFetched reveals v c p a b → Appends a.written b.written (object_in p datas)
own_fetched reveals v c p a b datas known revealed is_data honest survivors sound apart got =
    let value : (i : ℕ) (payload : List ℕ) → 1 ≤ i → i ≤ v.lattice.n → IsFetched reveals v c (block_of i Datum) payload → payload ≡ datum_at v.shape.block datas i =
    λ i payload first last fetched. honest_drawn v known c datas (block_of i Datum) payload is_data (λ e has is. honest e has (sound e has is)) (fetched.drawn revealed known survivors) in
    let are = own_parts_are v.shape v.lattice datas is_data (IsFetched reveals v c) value 0 p.parts got.payloads apart got.are in
    subst (λ (ps : List (List ℕ)). Appends a.written b.written (take p.object.length (joined ps))) are got.appended

-- ---- the first block that is not determined

-- the first one is one of them
one_of : (l : Lattice) (known : BlockId → Bool) (bs : List BlockId) (b : BlockId) (nodes : List ℕ) → IsFirstOpen l known bs b nodes → IsOneOf bs b
one_of l known bs b nodes is = record { before = is.first.before; after = is.first.after; are = is.first.are }

-- there is one at most, and its nodes are one list
pub one_open : ListsAreOne → (l : Lattice) (known : BlockId → Bool) (bs : List BlockId) (x y : BlockId) (xs ys : List ℕ) → All (HasBlock l) bs → IsFirstOpen l known bs x xs → IsFirstOpen l known bs y ys
    → Undetermined x xs ≡ Undetermined y ys
one_open law l known bs x y xs ys inside one two =
    let same : x ≡ y = one_first (Determines l known) bs x y one.first two.first in
    let has : HasBlock l y = has_one (HasBlock l) bs y (one_of l known bs y ys two) inside in
    let list : xs ≡ ys = (law l known y has).one_word xs ys (subst (λ d. IsWord l known d xs) same one.word) two.word in
    cc

-- none is where all are determined
pub never_first : (l : Lattice) (known : BlockId → Bool) (bs : List BlockId) (b : BlockId) (nodes : List ℕ) → All (Determines l known) bs → IsFirstOpen l known bs b nodes → ⊥
never_first l known bs b nodes all is = none_first (Determines l known) bs b all is.first

-- what the first pass says of the blocks
abbrev pub SaysDetermined : {T : Type 0} → Lattice → (BlockId → Bool) → List BlockId → Result T FetchFault → Type 0
SaysDetermined l known bs r = All (Determines l known) bs ⊎ (((b : BlockId) × (nodes : List ℕ) × (r ≡ Err (Undetermined b nodes))) ⊎ IsOutside r)

-- where it failed
pub open_fault : {T : Type 0} → ListsAreOne → (l : Lattice) (known : BlockId → Bool) (bs : List BlockId) (r : Result T FetchFault) (fault : FetchFault) (b : BlockId) (nodes : List ℕ) → r ≡ Err fault → All (HasBlock l) bs → IsFirstOpen l known bs b nodes
    → SaysDetermined l known bs r → ((x : BlockId) (xs : List ℕ) → r ≡ Err (Undetermined x xs) → IsFirstOpen l known bs x xs)
    → (fault ≡ Undetermined b nodes) ⊎ ((fault ≡ DiskFault) ⊎ (fault ≡ NoMemory))
open_fault law l known bs r fault b nodes is inside first says open' =
    elim says [
      | inl all ↦ absurd (never_first l known bs b nodes all first)
      | inr (inl found) ↦
          let same : fault ≡ Undetermined found.0 found.1 = (let h = sym is ∙ found.2 in cc) in
          inl (same ∙ one_open law l known bs found.0 b found.1 nodes inside (open' found.0 found.1 found.2) first)
      | inr (inr (inl e)) ↦ let same : fault ≡ DiskFault = (let h = sym is ∙ e in cc) in inr (inl same)
      | inr (inr (inr e)) ↦ let same : fault ≡ NoMemory = (let h = sym is ∙ e in cc) in inr (inr same)
    ]

-- where it did not, all are determined
pub all_determined : {T : Type 0} (l : Lattice) (known : BlockId → Bool) (bs : List BlockId) (r : Result T FetchFault) (value : T) → r ≡ Ok value → SaysDetermined l known bs r → All (Determines l known) bs
all_determined l known bs r value is says =
    elim says [
      | inl all ↦ all
      | inr (inl found) ↦ absurd (let h = sym is ∙ found.2 in cc)
      | inr (inr (inl e)) ↦ absurd (let h = sym is ∙ e in cc)
      | inr (inr (inr e)) ↦ absurd (let h = sym is ∙ e in cc)
    ]

-- ---- faults

pub outside_of : {T : Type 0} (fault : FetchFault) → (fault ≡ DiskFault) ⊎ (fault ≡ NoMemory) → IsOutside {T = T} (Err fault)
outside_of fault (inl e) = inl (ap Err e)
outside_of fault (inr e) = inr (ap Err e)

-- a fault of the first pass, where all blocks are determined
pub first_complete : {T : Type 0} (fault : FetchFault) → IsFirstFault fault → ((b : BlockId) (nodes : List ℕ) → fault ≡ Undetermined b nodes → ⊥)
    → IsClashing {T = T} (Err fault) ⊎ ((◌≡◌ {A = Result T FetchFault} (Err fault) (Err WriteFault)) ⊎ IsOutside {T = T} (Err fault))
first_complete fault is none =
    elim is [
      | inl found ↦ absurd (none found.0 found.1 found.2)
      | inr (inl found) ↦ inl (found.0, found.1, found.2, ap Err found.3)
      | inr (inr (inl e)) ↦ inr (inr (inl (ap Err e)))
      | inr (inr (inr e)) ↦ inr (inr (inr (ap Err e)))
    ]

-- and one of the second
pub send_complete : {T : Type 0} (fault : FetchFault) → IsSendFault fault
    → IsClashing {T = T} (Err fault) ⊎ ((◌≡◌ {A = Result T FetchFault} (Err fault) (Err WriteFault)) ⊎ IsOutside {T = T} (Err fault))
send_complete fault is =
    elim is [
      | inl found ↦ inl (found.0, found.1, found.2, ap Err found.3)
      | inr (inl e) ↦ inr (inl (ap Err e))
      | inr (inr e) ↦ inr (inr (inl (ap Err e)))
    ]
