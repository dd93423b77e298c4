-- That a fence is added to the archive, and that its limit is raised.
use Rattle.std.proofs.Common.{◌≡◌, ⊎_elim, ℕ, ◌+◌, ◌≤◌, false, true, List, [], ◌∷◌, ◌++◌, length, Ok, refl, ◌∙◌, ap, subst, arith, length-append}
use Rattle.std.specs.Prelude.{◌-◌, vec_len, codes, decimal}
use Rattle.std.specs.List.{list_any}
use Rattle.std.proofs.lemmas.Fmt.{decimal_digit}
use Rattle.aea_lattice.specs.declared.shape.Shape.{Shape}
use Rattle.aea_lattice.specs.Fences.{last_fence}
use Rattle.aea_disk.specs.Files.{Files}
use Rattle.aea_disk.specs.Spaces.{Memory, sure_state}
use Rattle.aea_io.specs.declared.sure.SureSink.{SureSink}
use Rattle.aea_records.specs.Format.{Record, Fence, Raise, nodes_of, fences_of, is_raise, entry, spelled}
use Rattle.aea_records.specs.Laws.{HasOneReading, LedgersAreArchives, LedgersAreNotBad}
use Rattle.aea_ledger.specs.Stops.{HasLedger}
use Rattle.aea_adopt.specs.Adopts.{Adopts}
use Rattle.aea_adopt.specs.declared.answers.Adopted.{Adopted}
use Rattle.aea_mirror.specs.Mirrored.{mirror_state, fresh}
use Rattle.aea_command.specs.declared.refusal.Refusal.{Refusal}
use Rattle.aea_command.specs.declared.refusal.Refusal.TheVariants.{NoArchive, LedgerBad, AlreadyFenced, TooManyFences, AlreadyUpgraded}
use Rattle.aea_command_store.specs.Adding.{WouldEndAt, FitsRecord}
use Rattle.aea_command_store.specs.Fence.{fence_line, next_fence, FenceCauses, IsFencedAtEnd, HasAllFences}
use Rattle.aea_command_store.specs.Upgrade.{next_raise, UpgradeCauses, IsRaised}
use Rattle.aea_dispatch.specs.declared.command.Command.TheVariants as command
use Rattle.aea_run_laws.specs.Meeting.{HasLeft, IsMet}
use Rattle.aea_run_laws.proofs.OneBlock.{shape}
use Rattle.aea_run_laws.proofs.Over.{IsGround, seen_then, meets}
use Rattle.aea_run_laws.proofs.Readings.{same_shape, same_records}

-- the file has a gate after its records
pub gate_there : (bytes : List ℕ) (all : List Record) → HasLedger shape all bytes → length (spelled shape all) + 1 ≤ length bytes
gate_there bytes all ledger = let long = ap length ledger.spelling in let both = length-append (spelled shape all) (ledger.gate ∷ ledger.after) in omega (arith, long, both)

-- each of the two has ten bytes
fence_long : (n : ℕ) → length (entry (Fence n)) ≡ 10
fence_long n = refl

raise_long : length (entry Raise) ≡ 10
raise_long = refl

-- the line of the fence, with this text of the number 1
abbrev line_long : List ℕ → ℕ
line_long a = length (codes "fence " ++ a ++ 10 ∷ [])

fence_line_long : length (fence_line 1) ≡ 8
fence_line_long = (let same : length (fence_line 1) ≡ line_long (decimal 1) = refl in same) ∙ ap line_long (decimal_digit 1 (omega arith))

module _ (reading : HasOneReading) (archives : LedgersAreArchives) (bad : LedgersAreNotBad) (x : Files) (all : List Record) (ledger : HasLedger shape all (x 0))
    (room spare : ℕ) (large : length (x 0) + 10 + spare ≤ room) (m : Memory) (ground : IsGround x room spare m) where
  -- the space for one such record
  fits_record : (adds : List Record → Record) → ((records : List Record) → length (entry (adds records)) ≡ 10)
      → (mid : Memory) (a : Adopted) (name : ℕ) → Adopts (Unit {0}) (sure_state m) (sure_state mid) (Ok a)
      → FitsRecord adds (Unit {0}) (mirror_state (Unit {0}) (sure_state mid) (fresh name a))
  fits_record adds long mid a name adopts = record {
    some = ground.roomy mid a name adopts;
    behind = λ end there.
        let h : WouldEndAt adds (x 0) end = subst (λ (y : Files). WouldEndAt adds (y 0) end) (seen_then x room spare m ground mid a adopts) (there tt) in
        let text : length (spelled h.shape h.records) ≡ length (spelled shape all) =
        ap (λ (q : Shape). length (spelled q h.records)) (same_shape reading (x 0) all ledger h.shape h.records h.ledger)
        ∙ ap (λ (l : List Record). length (spelled shape l)) (same_records reading (x 0) all ledger h.shape h.records h.ledger) in
        let place = h.place in
        let size = long h.records in
        let gate = gate_there (x 0) all ledger in
        ground.adding mid a name adopts end (omega (arith, place, text, size, gate, large));
  }

  module _ (nodes : nodes_of all ≡ 1) (unfenced : fences_of all ≡ []) where
    fence_unrefused : (why : Refusal) → FenceCauses (x 0) why → ⊥
    fence_unrefused NoArchive cause = (archives (x 0) cause).0 shape all _ ledger
    fence_unrefused (LedgerBad at) cause = bad (x 0) shape all _ at ledger cause
    fence_unrefused (AlreadyFenced count) cause =
        let h : IsFencedAtEnd (x 0) count = cause in
        let records_are : h.records ≡ all = same_records reading (x 0) all ledger h.shape h.records h.ledger in
        let is : count ≡ 1 = h.counted ∙ ap nodes_of records_are ∙ nodes in
        let last : last_fence (fences_of h.records) ≡ 0 = ap (λ (l : List Record). last_fence (fences_of l)) records_are ∙ ap last_fence unfenced in
        ⊎_elim (λ (none : count ≡ 0). omega (arith, is, none)) (λ (fenced : last_fence (fences_of h.records) ≡ count). omega (arith, is, last, fenced)) h.fenced
    fence_unrefused TooManyFences cause =
        let h : HasAllFences (x 0) = cause in
        let records_are : h.records ≡ all = same_records reading (x 0) all ledger h.shape h.records h.ledger in
        let few : length (fences_of h.records) ≡ 0 = ap (λ (l : List Record). length (fences_of l)) records_are ∙ ap length unfenced in
        let many = h.many in
        omega (arith, few, many)
    fence_unrefused why cause = cause

    pub fence_met : (input : List ℕ) (out : SureSink) → HasLeft 8 out → IsMet command.Fence m input out
    fence_met input out left =
        meets x room spare m ground command.Fence input out tt
        (λ mid a name adopts. fits_record next_fence (λ records. fence_long (nodes_of records)) mid a name adopts)
        (λ files on same unrefused s records there.
        let records_are : records ≡ all = same_records reading (x 0) all ledger s records (subst (λ (y : Files). HasLedger s records (y 0)) same there) in
        let long : length (fence_line (nodes_of records)) ≡ 8 = ap (λ (l : List Record). length (fence_line (nodes_of l))) records_are ∙ ap (λ (n : ℕ). length (fence_line n)) nodes ∙ fence_line_long in
        record { room = out.room - vec_len out.bytes; revealed = refl; enough = omega (arith, long, left) })
        (λ files on same. tt)
        (λ files on why same cause. fence_unrefused why (subst (λ (y : Files). FenceCauses (y 0) why) same cause))

  module _ (low : list_any is_raise all ≡ false) where
    upgrade_unrefused : (why : Refusal) → UpgradeCauses (x 0) why → ⊥
    upgrade_unrefused NoArchive cause = (archives (x 0) cause).0 shape all _ ledger
    upgrade_unrefused (LedgerBad at) cause = bad (x 0) shape all _ at ledger cause
    upgrade_unrefused AlreadyUpgraded cause =
        let h : IsRaised (x 0) = cause in
        let records_are : h.records ≡ all = same_records reading (x 0) all ledger h.shape h.records h.ledger in
        let none : list_any is_raise h.records ≡ false = ap (list_any is_raise) records_are ∙ low in
        let raised : list_any is_raise h.records ≡ true = h.raised in
        cc
    upgrade_unrefused why cause = cause

    pub upgrade_met : (input : List ℕ) (out : SureSink) → HasLeft 17 out → IsMet command.Upgrade m input out
    upgrade_met input out left =
        meets x room spare m ground command.Upgrade input out tt
        (λ mid a name adopts. fits_record next_raise (λ records. raise_long) mid a name adopts)
        (λ files on same unrefused. record { room = out.room - vec_len out.bytes; revealed = refl; enough = omega (arith, left) })
        (λ files on same. tt)
        (λ files on why same cause. upgrade_unrefused why (subst (λ (y : Files). UpgradeCauses (y 0) why) same cause))
