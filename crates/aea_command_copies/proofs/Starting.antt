-- What the call that begins copies says, as what is known of it afterwards.
use Rattle.std.proofs.Common.{◌≡◌, ◌≢◌, inl, inr, ⊎_elim, ℕ, ◌≤◌, Bool, true, false, List, Result, Ok, Err, refl, arith}
use Rattle.std.specs.Prelude.{IsOk, IsErr, OnOk}
use Rattle.std.proofs.lemmas.Bool.{false≢true}
use Rattle.aea_faults.specs.Faults.{HasCause}
use Rattle.aea_disk.specs.Count.{one_more}
use Rattle.aea_disk.specs.Ends.{EndsAt}
use Rattle.aea_disk.specs.Files.{KeepsFiles}
use Rattle.aea_disk.specs.State.{State, Passes, Follows, During, KeepsImages, IsSynced}
use Rattle.aea_copies.specs.Format.{whole_copy}
use Rattle.aea_copies.specs.Kept.{IsCopyFile}
use Rattle.aea_mirror.specs.declared.start.StartFault.{StartFault}
use Rattle.aea_mirror.specs.declared.start.StartFault.TheVariants as starting
use Rattle.aea_mirror.specs.Mirrored.{Kept, mirror_state}
use Rattle.aea_mirror.specs.Refusing.{IsCounted}
use Rattle.aea_mirror.specs.Starting.{ArePiecesOf, MayBeStarted, FitsStart}
use Rattle.aea_command_copies.proofs.Beginning.{Starts}

-- what the call says, over the lent disk from mid to new, of a Mirror that keeps j before and l after it
pub record SaysStart (reveals : Type 0) (mid new : State) (j l : Kept) (result : Result (Unit {0}) StartFault) : Type 1 where
  pub off : j.on ≡ false
  pub others : reveals → KeepsFiles (λ f. f ≤ 64) mid.files new.files
  pub crash : Follows (KeepsFiles (λ f. f ≤ 64)) mid new
  pub shown : KeepsImages (mirror_state reveals mid j) (mirror_state reveals new l)
  pub time : Passes mid new
  pub counts : IsCounted j.own l.own mid new result
  pub dead : j.dead ≡ true → new ≡ mid
  pub any_moment : reveals → j.dead ≡ false → (pieces : List (List ℕ)) → ArePiecesOf (mid.files 0) pieces → During mid new (MayBeStarted pieces)
  pub handed : reveals → j.dead ≡ false → (last : ℕ) → EndsAt (mid.files 0) last → (l.own ≡ j.own) × HasCause mid.faults new.faults result
  pub sure : reveals → j.dead ≡ false → mid.free → FitsStart mid → IsOk result × (new.faults ≡ mid.faults)
  pub set : OnOk result (l.on ≡ true)
  pub made : OnOk result (reveals → (pieces : List (List ℕ)) × ArePiecesOf (mid.files 0) pieces × ((f : ℕ) → IsCopyFile f → new.files f ≡ whole_copy pieces))
  pub synced : OnOk result (reveals → IsSynced new)

ok_not : (u : Unit {0}) → (let r : Result (Unit {0}) StartFault = Ok u in r ≡ Err starting.DiskFault) → ⊥
ok_not u e = cc

pub starts_by : (reveals : Type 0) (mid new : State) (j l : Kept) (result : Result (Unit {0}) StartFault) → result ≢ Err starting.AlreadyOn → SaysStart reveals mid new j l result → Starts reveals (result ≡ Err starting.DiskFault) (IsOk result) mid new j l
starts_by reveals mid new j l (Ok u) differs says = record {
  off = says.off;
  either = inl refl;
  others = says.others;
  crash = says.crash;
  shown = says.shown;
  time = says.time;
  kept = ⊎_elim
      (λ (own : (l.own ≡ j.own) × HasCause {T = Unit {0}} {E = StartFault} mid.faults new.faults (Ok u)). own.1.kept)
      (λ (one : IsErr {T = Unit {0}} {E = StartFault} (Ok u) × (l.own ≡ one_more j.own) × (new.faults ≡ mid.faults)). absurd (false≢true one.0))
      says.counts;
  counted = ⊎_elim
      (λ (own : (l.own ≡ j.own) × HasCause {T = Unit {0}} {E = StartFault} mid.faults new.faults (Ok u)). inl (own.0, (λ is. absurd (ok_not u is)), (λ no. own.1.still)))
      (λ (one : IsErr {T = Unit {0}} {E = StartFault} (Ok u) × (l.own ≡ one_more j.own) × (new.faults ≡ mid.faults)). absurd (false≢true one.0))
      says.counts;
  dead = says.dead;
  any_moment = says.any_moment;
  handed = λ revealed alive last ends is. absurd (ok_not u is);
  sure = λ revealed alive free fits is. ok_not u is;
  set = λ is. says.set;
  made = λ is. says.made;
  synced = λ is. says.synced;
}
starts_by reveals mid new j l (Err starting.DiskFault) differs says = record {
  off = says.off;
  either = inr refl;
  others = says.others;
  crash = says.crash;
  shown = says.shown;
  time = says.time;
  kept = ⊎_elim
      (λ (own : (l.own ≡ j.own) × HasCause {T = Unit {0}} {E = StartFault} mid.faults new.faults (Err starting.DiskFault)). own.1.kept)
      (λ (one : IsErr {T = Unit {0}} {E = StartFault} (Err starting.DiskFault) × (l.own ≡ one_more j.own) × (new.faults ≡ mid.faults)). let same = one.2 in omega (arith, same))
      says.counts;
  counted = ⊎_elim
      (λ (own : (l.own ≡ j.own) × HasCause {T = Unit {0}} {E = StartFault} mid.faults new.faults (Err starting.DiskFault)). inl (own.0, (λ is. own.1.rose), (λ no. absurd (no refl))))
      (λ (one : IsErr {T = Unit {0}} {E = StartFault} (Err starting.DiskFault) × (l.own ≡ one_more j.own) × (new.faults ≡ mid.faults)). inr (refl, one.1, one.2))
      says.counts;
  dead = says.dead;
  any_moment = says.any_moment;
  handed = λ revealed alive last ends is. (says.handed revealed alive last ends).1.rose;
  sure = λ revealed alive free fits is. false≢true (says.sure revealed alive free fits).0;
  set = λ is. absurd (false≢true is);
  made = λ is. absurd (false≢true is);
  synced = λ is. absurd (false≢true is);
}
starts_by reveals mid new j l (Err starting.AlreadyOn) differs says = absurd (differs refl)

-- copies that are not on are off
pub not_on : (on : Bool) → (on ≡ true → ⊥) → on ≡ false
not_on true never = absurd (never refl)
not_on false never = refl
