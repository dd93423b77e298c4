-- The payloads that the second pass of a fetch prints, and how it fails.
use Rattle.std.proofs.Common.{◌≡◌, ℕ, Bool, true, false, not, List, length, refl, sym, ◌∙◌, ap, subst, inl, inr, Ok, Err}
use Rattle.std.specs.Prelude.{Some, slice_get, Result, IfErr, IsErrAnd}
use Rattle.aea_io.specs.Streams.{SinkState}
use Rattle.aea_lattice.specs.declared.blocks.BlockId.{BlockId}
use Rattle.aea_view.specs.Marked.{Marked, is_marked}
use Rattle.aea_disk.specs.Files.{Files}
use Rattle.aea_envelope.specs.Cells.{block_digest}
use Rattle.aea_gauss.specs.declared.fates.Fate.{Fate}
use Rattle.aea_ledger.specs.Values.{Opened}
use Rattle.aea_archive.specs.Blocks.{recorded_in, RevealsSurvivors}
use Rattle.aea_fetch.specs.Copies.{HasCut}
use Rattle.aea_fetch.proofs.Copies.{cut_as}
use Rattle.aea_restore.specs.Drawn.{IsDrawn, IsOtherDigest}
use Rattle.aea_degraded.specs.declared.fault.PayloadFault.{PayloadFault}
use Rattle.aea_degraded.specs.declared.fault.PayloadFault.TheVariants as payload
use Rattle.aea_degraded.specs.declared.fault.FetchFault.TheVariants.{Clash, WriteFault, DiskFault}
use Rattle.aea_degraded.specs.Summed.{sum_at}
use Rattle.aea_degraded.specs.Found.{IsSumAt}
use Rattle.aea_degraded.specs.Fetched.{IsFetched}
use Rattle.aea_degraded.proofs.Readings.{readings_moved}
use Rattle.aea_degraded.specs.Planned.{IsChecked}
use Rattle.aea_degraded.specs.Sent.{IsSendFault, IsPlanFault, fetch_fault}
use Rattle.aea_degraded.proofs.Checked.{contained}

-- ---- faults

-- a clash is of a clash
pub clash_from : (f : PayloadFault) (d : BlockId) (revealed computed : List ℕ) → fetch_fault f ≡ Clash d revealed computed → f ≡ payload.Clash d revealed computed
clash_from (payload.Clash b recorded other) d revealed computed is = cc
clash_from payload.DiskFault d revealed computed is = absurd (cc)

-- a fault of the disk is of one
pub disk_from : (f : PayloadFault) → fetch_fault f ≡ DiskFault → f ≡ payload.DiskFault
disk_from (payload.Clash b recorded other) is = absurd (cc)
disk_from payload.DiskFault is = refl

-- none is of the output
pub no_output : (f : PayloadFault) → fetch_fault f ≡ WriteFault → ⊥
no_output (payload.Clash b recorded other) is = cc
no_output payload.DiskFault is = cc

pub send_fault : (f : PayloadFault) → IsSendFault (fetch_fault f)
send_fault (payload.Clash b recorded other) = inl (b, recorded, other, refl)
send_fault payload.DiskFault = inr (inr refl)

-- a fault that is of the disk is that one
pub disk_failed : (r : Result (Unit {0}) PayloadFault) → IsErrAnd r (λ f. f ≡ payload.DiskFault) → r ≡ Err payload.DiskFault
disk_failed (Ok v) is = absurd is
disk_failed (Err f) is = ap Err is

-- what a fault says, by what a clash does
pub plan_fault : (reveals : Type 0) (v : Opened) (c : Files) (r : Result (Unit {0}) PayloadFault)
    → ((d : BlockId) (revealed computed : List ℕ) → r ≡ Err (payload.Clash d revealed computed) → IsOtherDigest v d revealed computed × (reveals → ⊥)) → IfErr r (λ fault. (f : Files) → (reveals → c ≡ f) → IsPlanFault reveals v fault)
plan_fault reveals v c (Ok u) says = tt
plan_fault reveals v c (Err (payload.Clash b recorded other)) says = λ f same. says b recorded other refl
plan_fault reveals v c (Err payload.DiskFault) says = λ f same. tt

-- the block is marked, where it is not known
pub none_marked : (known marked : Bool) → known ≡ not marked → known ≡ false → marked ≡ true
none_marked known true is unknown = refl
none_marked known false is unknown = absurd (cc)

-- where a block is checked, the sum that its fate is has no other digest
pub no_other : (v : Opened) (c : Files) (damaged : Marked) (fates : List Fate) (b d : BlockId) (at : ℕ) (revealed computed : List ℕ) → is_marked damaged b ≡ true → IsSumAt fates b at → IsChecked v c damaged fates b
    → d ≡ b → ((fate : Fate) → slice_get fates at ≡ Some fate → computed ≡ block_digest b (sum_at v.lattice v.shape c fate)) → IsOtherDigest v d revealed computed → ⊥
no_other v c damaged fates b d at revealed computed set here checked same is other =
    other.differ
    (is here.fate here.here
    ∙ checked set here.fate (contained fates at here.fate here.here) here.block
    ∙ ap (recorded_in v.shape v.digests) (sym same)
    ∙ sym other.revealed_is)

-- ---- payloads

module _ (reveals : Type 0) (v : Opened) (c : Files) where
  -- a payload has the bytes of a block
  pub fetched_wide : (b : BlockId) (p : List ℕ) → IsFetched reveals v c b p → length p ≡ v.shape.block
  fetched_wide b p is = is.wide

-- where the contents are known, the files read the same
module _ (reveals : Type 0) (v : Opened) (c d : Files) (same : reveals → c ≡ d) where
  -- a payload by the one is a payload by the other
  pub fetched_also : (b : BlockId) (p : List ℕ) → IsFetched reveals v c b p → IsFetched reveals v d b p
  fetched_also b p is = record {
    wide = is.wide;
    digest = is.digest;
    readings = readings_moved reveals v c d b p same is.readings;
    drawn = λ revealed known survivors.
        subst (λ (f : Files). IsDrawn v known f b p) (same revealed)
        (is.drawn revealed known (subst (λ (f : Files). RevealsSurvivors v.shape v.lattice.n v.digests f known) (sym (same revealed)) survivors));
  }

  pub fetched_cut : (bs : List BlockId) (most : ℕ) (a b : SinkState) (p : List ℕ) (output : Type 0) → HasCut (IsFetched reveals v c) bs most a p b output → HasCut (IsFetched reveals v d) bs most a p b output
  fetched_cut bs most a b p output one = cut_as (IsFetched reveals v c) (IsFetched reveals v d) fetched_also bs most a b p output output (λ is. is) one
