-- Time passes over the calls of the disks of this crate, which are lent nothing, or hand on what is lent.
use Rattle.std.proofs.Common.{◌≡◌, ◌≢◌, ⊎_elim, ◌<◌, ◌≤◌, ◌-◌, ◌^◌, ℕ, zero, suc, max, Result, Ok, Err, List, [], ◌∷◌, length, get_or, set, sym, ap, ◌∙◌, subst, arith}
use Rattle.std.proofs.lemmas.Bool.{cases_eq}
use Rattle.std.proofs.lemmas.Grind.{get_or-set_at}
use Rattle.std.proofs.lemmas.List.{get_or-set_other}
use Rattle.aea_disk.specs.Count.{one_more, faults_after}
use Rattle.aea_disk.specs.Fail.{with_faults}
use Rattle.aea_disk.specs.Log.{Log}
use Rattle.aea_disk.specs.Logged.{log_state}
use Rattle.aea_disk.specs.Silent.{silent_state}
use Rattle.aea_disk.specs.Space.{Extent, empty_extent}
use Rattle.aea_disk.specs.Spaces.{Memory, room_of, sure_state}
use Rattle.aea_disk.specs.State.{State, Passes, no_lent}
use Rattle.aea_disk.proofs.Moments.{keeps_none, lasts_as, lasts_lent, passes_none}

-- the count after a call stops
pub stops_after : {T E : Type 0} (n m : ℕ) (r : Result T E) → m ≡ faults_after n r → m ≤ max n (2 ^ 64 - 1)
stops_after n m (Ok v) is = omega (arith, is)
stops_after n m (Err e) is = omega (arith, is)

-- a disk of which nothing is known but the count
pub silent_passes : (n m : ℕ) → n ≤ m → m ≤ max n (2 ^ 64 - 1) → Passes (silent_state n) (silent_state m)
silent_passes n m le stops = record {
  later = omega arith;
  keeps = λ t c early. (λ here. here, λ here. here);
  room = λ f k has. has;
  beneath = le;
  syncs = λ b has. has;
  free = λ is. is;
  lasts = lasts_as (silent_state n) (silent_state m) stops (keeps_none no_lent);
}

-- a disk that may fail by a list, over another
failing_passes : (s t : State) (n m : ℕ) → n ≤ m → m ≤ max n (2 ^ 64 - 1) → Passes s t → Passes (with_faults s n) (with_faults t m)
failing_passes s t n m le stops time = record {
  later = time.later;
  keeps = time.keeps;
  room = λ f k has. has;
  beneath = le;
  syncs = λ b has. has;
  free = λ is. is;
  lasts = lasts_as (with_faults s n) (with_faults t m) stops (lasts_lent s t time.lasts);
}

-- a call of it that was not handed on, which its own count may tell
pub failed_time : {D : Type 0} (state : D → State) (old new : D) (n b m : ℕ) → new ≡ old → b ≡ n → b ≤ m → m ≤ max b (2 ^ 64 - 1) → Passes (with_faults (state old) n) (with_faults (state new) m)
failed_time state old new n b m same counted le stops =
    subst (λ d. Passes (with_faults (state old) n) (with_faults (state d) m)) (sym same)
    (failing_passes (state old) (state old) n m (omega (arith, counted, le)) (omega (arith, counted, stops)) (passes_none (state old)))

-- and one that was
pub passed_time : {D : Type 0} (state : D → State) (old before after new : D) (n b m : ℕ) → before ≡ old → new ≡ after → b ≡ n → b ≤ m → m ≤ max b (2 ^ 64 - 1) → Passes (state before) (state after) → Passes (with_faults (state old) n) (with_faults (state new) m)
passed_time state old before after new n b m first last counted le stops time =
    subst (λ d. Passes (with_faults (state d) n) (with_faults (state new) m)) first
    (subst (λ d. Passes (with_faults (state before) n) (with_faults (state d) m)) (sym last)
    (failing_passes (state before) (state after) n m (omega (arith, counted, le)) (omega (arith, counted, stops)) time))

-- a file of a disk in memory that changes, with its capacity
pub room_set : (spaces : List Extent) (i : ℕ) (x : Extent) → i < length spaces → x.room ≡ room_of spaces i → (f : ℕ) → room_of (set spaces i x) f ≡ room_of spaces f
room_set spaces i x there same f = ⊎_elim
    (λ (here : f ≡ i). ap (λ (e : Extent). e.room) (get_or-set_at spaces i f x empty_extent here there) ∙ same ∙ ap (λ (n : ℕ). room_of spaces n) (sym here))
    (λ (other : f ≢ i). ap (λ (e : Extent). e.room) (get_or-set_other spaces i f x empty_extent other))
    (cases_eq f i)

-- the capacity of a file that is there
pub room_at : (spaces : List Extent) (i : ℕ) (e : Extent) → i < length spaces → e ≡ get_or spaces i e → e.room ≡ room_of spaces i
room_at [] i e there is = absurd (omega (arith, there))
room_at (x ∷ xs) zero e there is = ap (λ (s : Extent). s.room) is
room_at (x ∷ xs) (suc i) e there is = room_at xs i e (omega (arith, there)) is

-- a disk in memory
pub sure_time : (a b : Memory) → ((f : ℕ) → room_of b.spaces f ≡ room_of a.spaces f) → a.faults ≤ b.faults → b.faults ≤ max a.faults (2 ^ 64 - 1) → Passes (sure_state a) (sure_state b)
sure_time a b rooms le stops = record {
  later = omega arith;
  keeps = λ t c early. (λ here. here, λ here. here);
  room = λ f n has. subst (λ (k : ℕ). n ≤ k) (sym (rooms f)) has;
  beneath = le;
  syncs = λ b has. has;
  free = λ is. is;
  lasts = lasts_as (sure_state a) (sure_state b) stops (keeps_none no_lent);
}

-- a disk in memory with a list of its calls, where a call is refused
pub refused_log : (d e : Log) → e ≡ record d { faults = one_more d.faults } → d.faults ≤ one_more d.faults → Passes (log_state d) (log_state e)
refused_log d e is le = subst (λ (f : Log). Passes (log_state d) (log_state f)) (sym is) (record {
  later = omega arith;
  keeps = λ t c early. (λ here. here, λ here. here);
  room = λ f n has. has;
  beneath = le;
  syncs = λ b has. has;
  free = λ is. is;
  lasts = lasts_as (log_state d) (log_state (record d { faults = one_more d.faults })) (omega arith) (keeps_none no_lent);
})
