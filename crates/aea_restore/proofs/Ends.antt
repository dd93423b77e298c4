-- What follows where the blocks that were known at first are exactly the intact ones, and are honest for recorded data.
use Rattle.std.proofs.Common.{◌≡◌, ◌≢◌, ℕ, ◌+◌, ◌-◌, ◌*◌, ◌<◌, List, [], map, get_or, length, Bool, false, Err, inl, inr, arith, refl, sym, ◌∙◌, ap, subst}
use Rattle.std.proofs.lemmas.Bool.{true≢false}
use Rattle.std.proofs.lemmas.List.{get_or-map}
use Rattle.std.proofs.lemmas.Option.{get_or_from_slice_get}
use Rattle.aea_lattice.specs.declared.blocks.BlockId.{BlockId}
use Rattle.aea_lattice.specs.declared.grid.Lattice.{Lattice}
use Rattle.aea_lattice.specs.Blocks.{HasBlock, class_number, number_of, blocks_of}
use Rattle.aea_lattice.specs.Shapes.{IsBlockOf, number_in}
use Rattle.aea_lattice.specs.Data.{IsDataList, value_of}
use Rattle.aea_lattice.proofs.Equations.{number_below}
use Rattle.aea_lattice.proofs.Numbers.{length-blocks_of, slice_get-blocks_of}
use Rattle.aea_envelope.specs.Cells.{block_digest}
use Rattle.aea_disk.specs.Files.{Files}
use Rattle.aea_disk.specs.State.{State}
use Rattle.aea_shelf.specs.Intact.{payload_at}
use Rattle.aea_view.specs.Marked.{Marked, is_marked}
use Rattle.aea_records.specs.Format.{Record, nodes_of, fences_of, digests_of}
use Rattle.aea_ledger.specs.Recorded.{AreRecordsOf}
use Rattle.aea_ledger.specs.Values.{Opened, HasRecords}
use Rattle.aea_archive.specs.Blocks.{IsBlockIn, recorded_in, IsHeldBy, RevealsSurvivors}
use Rattle.aea_archive.specs.Data.{AreSurvivorsHonest, AreSomeHonest}
use Rattle.aea_archive.proofs.Records.{one_lattice}
use Rattle.aea_restore.specs.declared.fault.RestoreFault.{RestoreFault}
use Rattle.aea_restore.specs.declared.fault.RestoreFault.TheVariants.{Clash, DiskFault}
use Rattle.aea_restore.specs.Drawn.{AreAllIntact, IsClash}
use Rattle.aea_restore.specs.Repairs.{IsLeft, Leaves, MarksSome}
use Rattle.aea_restore.specs.UnderWay.{IsDone, IsUnderWay, IsTorn, AreDrawn}
use Rattle.aea_restore.proofs.Drawing.{honest_drawn}
use Rattle.aea_restore.proofs.Ways.{ends_some, ends_torn}

-- the blocks of a test that distinguishes the survivors
pub all_intact : (v : Opened) (c : Files) (known : BlockId → Bool) → ((b : BlockId) → HasBlock v.lattice b → IsBlockIn v.shape v.lattice.n b) → RevealsSurvivors v.shape v.lattice.n v.digests c known → AreAllIntact v known c
all_intact v c known inside reveal b has is = (reveal b (inside b has)).0 is

-- ---- recorded data

-- the lattice of the recorded data is the ledger's
same_lattice : (v : Opened) (records : List Record) (datas : List (List ℕ)) → HasRecords v records → (are : AreRecordsOf v.shape records datas) → are.lattice ≡ v.lattice
same_lattice v records datas has are = one_lattice v.shape (nodes_of records) (fences_of records) are.lattice v.lattice are.is_lattice has.lattice

-- the data are a data list of it
pub data_of : (v : Opened) (records : List Record) (datas : List (List ℕ)) → HasRecords v records → AreRecordsOf v.shape records datas → IsDataList v.lattice v.shape.block datas
data_of v records datas has are = subst (λ (l : Lattice). IsDataList l v.shape.block datas) (same_lattice v records datas has are) are.is_data

-- the digest that is kept of a block is that of the recorded data's
recorded_value : (v : Opened) (records : List Record) (datas : List (List ℕ)) (b : BlockId) → HasRecords v records → AreRecordsOf v.shape records datas → HasBlock v.lattice b
    → recorded_in v.shape v.digests b ≡ block_digest b (value_of v.lattice v.shape.block datas b)
recorded_value v records datas b has are inside =
    let l = v.lattice in
    let f : BlockId → List ℕ = λ d. block_digest d (value_of v.lattice v.shape.block datas d) in
    let alpha : v.lattice.alpha ≡ v.shape.alpha = has.lattice.alpha in
    let number : number_in v.shape b ≡ number_of v.lattice b = sym (ap (λ (a : ℕ). (b.node - 1) * (1 + a) + class_number b.class) alpha) in
    let below : number_of v.lattice b < length (blocks_of v.lattice) = omega (arith, number_below v.lattice b inside, length-blocks_of v.lattice) in
    let digests : v.digests ≡ map (λ d. block_digest d (value_of v.lattice v.shape.block datas d)) (blocks_of v.lattice) =
    has.digests ∙ subst (λ (k : Lattice). digests_of records ≡ map (λ d. block_digest d (value_of k v.shape.block datas d)) (blocks_of k)) (same_lattice v records datas has are) are.digests in
    ap (λ (ds : List (List ℕ)). get_or ds (number_in v.shape b) []) digests
    ∙ ap (λ (k : ℕ). get_or (map (λ d. block_digest d (value_of v.lattice v.shape.block datas d)) (blocks_of v.lattice)) k []) number
    ∙ get_or-map (λ d. block_digest d (value_of v.lattice v.shape.block datas d)) (blocks_of v.lattice) (number_of v.lattice b) b [] below
    ∙ ap (λ d. block_digest d (value_of v.lattice v.shape.block datas d)) (get_or_from_slice_get (blocks_of v.lattice) (number_of v.lattice b) b b (slice_get-blocks_of v.lattice b inside))

-- ---- honest survivors

-- Where the survivors are honest for recorded data, each block that can be read has the payload of their lattice.
pub honest_of : (v : Opened) (known ready : BlockId → Bool) (first now : Files) (records : List Record) (datas : List (List ℕ)) → HasRecords v records → AreRecordsOf v.shape records datas
    → AreSurvivorsHonest v.shape v.lattice v.digests datas first → AreDrawn v known ready first now → AreSomeHonest ready v.shape v.lattice v.digests datas now
honest_of v known ready first now records datas has are honest all b inside is intact =
    honest_drawn v known first datas b (payload_at v.shape now b) (data_of v records datas has are)
    (λ d d_has known_d. honest d d_has (all.known_intact d d_has known_d)) (all.drawn b inside is)

-- and there is no clash
pub never_clash : (v : Opened) (known : BlockId → Bool) (first : Files) (records : List Record) (datas : List (List ℕ)) (b : BlockId) (revealed computed : List ℕ) → HasRecords v records → AreRecordsOf v.shape records datas
    → AreSurvivorsHonest v.shape v.lattice v.digests datas first → AreAllIntact v known first → IsClash v known first b revealed computed → ⊥
never_clash v known first records datas b revealed computed has are honest sound clash =
    let value = honest_drawn v known first datas b clash.payload (data_of v records datas has are) (λ d d_has known_d. honest d d_has (sound d d_has known_d)) clash.drawn in
    clash.other.differ (clash.computed_is ∙ ap (block_digest b) value ∙ sym (recorded_value v records datas b has are clash.other.block) ∙ sym clash.other.revealed_is)

-- ---- what each result leaves

-- where the calls stopped before the last sync
pub left_fault : (v : Opened) (mends : BlockId → Type 0) (known ready : BlockId → Bool) (first now : Files) → ((a : BlockId) → HasBlock v.lattice a → IsBlockOf v.shape a)
    → ((b : BlockId) → mends b → HasBlock v.lattice b) → ((b : BlockId) → mends b → known b ≡ false) → ((b : BlockId) → IsDone v known ready b → mends b)
    → (fault : RestoreFault) → (fault ≢ DiskFault → IsUnderWay v known ready first now) → (fault ≡ DiskFault → (torn : BlockId) × mends torn × IsTorn v known ready torn first now)
    → Leaves v mends first now (Err fault)
left_fault v mends known ready first now fits inside fresh only (Clash b revealed computed) way torn = ends_some v mends known ready first now fits inside fresh only (way (λ is. cc))
left_fault v mends known ready first now fits inside fresh only DiskFault way torn =
    let is = torn refl in inr (is.0, ends_torn v mends known ready first now fits inside fresh only is.0 is.1 is.2)

-- only blocks that are given were restored
pub only_given : (v : Opened) (mends : BlockId → Type 0) (old new : Marked) → MarksSome v.lattice mends old new → (b : BlockId) → IsDone v (is_marked old) (is_marked new) b → mends b
only_given v mends old new some b done =
    elim (some.more b done.block done.now) [ inl before ↦ absurd (true≢false (sym before ∙ done.fresh)) | inr given ↦ given ]

-- ---- blocks that were held

-- a block that was held was known, and so is not restored
pub held_left : (v : Opened) (mends : BlockId → Type 0) (old : State) (known : BlockId → Bool) (b : BlockId) → ((d : BlockId) → HasBlock v.lattice d → IsBlockIn v.shape v.lattice.n d) → RevealsSurvivors v.shape v.lattice.n v.digests old.files known → ((d : BlockId) → mends d → known d ≡ false) → HasBlock v.lattice b → IsHeldBy v.shape v.digests old b → IsLeft mends b
held_left v mends old known b inside reveal fresh has held is = true≢false (sym ((reveal b (inside b has)).1 held.intact) ∙ fresh b is)
