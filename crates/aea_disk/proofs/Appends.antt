-- What one more call in the list of a disk in memory means.
use Rattle.std.proofs.Common.{◌≡◌, ⊎_elim, ℕ, suc, ◌<◌, ◌≤◌, List, [], ◌∷◌, ◌++◌, length, take, drop, get_or, refl, sym, ◌∙◌, ap, subst, arith, add-one, append-nil, le_refl, length-append, length-drop, get_or-set_same, get_or-set_other}
use Rattle.std.specs.Prelude.{◌==◌, if◌then◌else◌, true, false}
use Rattle.std.proofs.Math.ListN.{set}
use Rattle.std.proofs.lemmas.Bool.{cases_eq, cases_lt}
use Rattle.std.proofs.lemmas.Bool.Decides.{nat_tests}
use Rattle.std.proofs.lemmas.List.{get_or_append_left, take-append-le, drop-append-le, take_all}
use Rattle.std.proofs.Math.Seq.{get_or-append_seam, drop-append_seam}
use Rattle.std.proofs.lemmas.List.{get_or_default}
use Rattle.aea_disk.specs.Files.{Files, overwritten}
use Rattle.aea_disk.specs.Space.{Extent, empty_extent}
use Rattle.aea_disk.specs.Spaces.{files_of, room_of}
use Rattle.aea_disk.specs.State.{Passes, Settles, no_lent}
use Rattle.aea_disk.specs.Events.{Event, Wrote, Shortened, after, reads_at, next_images, image_at}
use Rattle.aea_disk.specs.Replays.{same_reads, same_images}
use Rattle.aea_disk.specs.Log.{Log}
use Rattle.aea_disk.specs.Logged.{event_of, events_of, end_of, file_of, end_in_file, IsLogged, IsQuiet, Lists, log_state}
use Rattle.aea_disk.specs.declared.mem.Call.{Call}
use Rattle.aea_disk.specs.declared.mem.Call.TheVariants.{Len, Read, Write, Cut, Sync}
use Rattle.aea_disk.proofs.Fresh.{get_or-push}
use Rattle.aea_disk.proofs.Moments.{keeps_none, lasts_as}

-- a call's bytes stay where more bytes come after them
event_of-append : (bytes more : List ℕ) (call : Call) → end_of call ≤ length bytes → event_of (bytes ++ more) call ≡ event_of bytes call
event_of-append bytes more Len within = refl
event_of-append bytes more Read within = refl
event_of-append bytes more (Write file at from n) within =
    let low : from ≤ length bytes = omega arith in
    let high : n ≤ length (drop from bytes) = omega (arith, length-drop from bytes) in
    ap (Wrote file at) (ap (take n) (drop-append-le from bytes more low) ∙ take-append-le n (drop from bytes) more high)
event_of-append bytes more (Cut file len) within = refl
event_of-append bytes more Sync within = refl

-- the earlier calls are as before, and the last is this one
record Goes (events others : ℕ → Event) (n : ℕ) (e : Event) : Type 0 where
  pub same : (k : ℕ) → k < n → others k ≡ events k
  pub here : others n ≡ e

push_goes : (calls : List Call) (bytes more : List ℕ) (call : Call) → ((k : ℕ) → end_of (get_or calls k Len) ≤ length bytes) → Goes (events_of calls bytes) (events_of (calls ++ call ∷ []) (bytes ++ more)) (length calls) (event_of (bytes ++ more) call)
push_goes calls bytes more call within = record {
  same = λ k below. ap (event_of (bytes ++ more)) (get_or_append_left calls (call ∷ []) Len k below) ∙ event_of-append bytes more (get_or calls k Len) (within k);
  here = ap (event_of (bytes ++ more)) (get_or-append_seam calls call [] Len);
}

lists_length : (old new : Log) (call : Call) (more : List ℕ) → Lists old new call more → length new.calls ≡ suc (length old.calls)
lists_length old new call more lists = ap length lists.calls ∙ length-append old.calls (call ∷ []) ∙ add-one (length old.calls)

lists_goes : (old new : Log) (call : Call) (more : List ℕ) → IsLogged old.spaces old.calls old.bytes → Lists old new call more → Goes (events_of old.calls old.bytes) (events_of new.calls new.bytes) (length old.calls) (event_of new.bytes call)
lists_goes old new call more logged lists =
    subst (λ (l : List ℕ). Goes (events_of old.calls old.bytes) (events_of new.calls l) (length old.calls) (event_of l call)) (sym lists.bytes)
    (subst (λ (l : List Call). Goes (events_of old.calls old.bytes) (events_of l (old.bytes ++ more)) (length old.calls) (event_of (old.bytes ++ more) call)) (sym lists.calls)
    (push_goes old.calls old.bytes more call logged.within))

-- the images of an earlier moment
goes_images : (events others : ℕ → Event) (n : ℕ) (e : Event) → Goes events others n e → (t : ℕ) → t ≤ n → image_at others t ≡ image_at events t
goes_images events others n e goes t early = same_images events others t (λ k below. goes.same k (omega arith))

-- the images of the last
goes_last : (events others : ℕ → Event) (n : ℕ) (e : Event) → Goes events others n e → image_at others (suc n) ≡ next_images e (reads_at events n) (image_at events n)
goes_last events others n e goes =
    let here : others n ≡ e = goes.here in
    let reads = same_reads events others n goes.same in
    let images = same_images events others n goes.same in
    λ i c. next_images (here i) (reads i) (images i) c

-- the files after it
goes_reads : (events others : ℕ → Event) (n : ℕ) (e : Event) → Goes events others n e → reads_at others (suc n) ≡ after e (reads_at events n)
goes_reads events others n e goes =
    let here : others n ≡ e = goes.here in
    let reads = same_reads events others n goes.same in
    λ i f. after (here i) (reads i) f

-- where one more call is listed after calls that are logged, the files are what it makes of those before it
pub lists_files : (old new : Log) (call : Call) (more : List ℕ) → IsLogged old.spaces old.calls old.bytes → Lists old new call more → (log_state new).files ≡ after (event_of new.bytes call) (log_state old).files
lists_files old new call more logged lists =
    subst (λ (m : ℕ). reads_at (events_of new.calls new.bytes) m ≡ after (event_of new.bytes call) (log_state old).files) (sym (lists_length old new call more lists))
    (goes_reads (events_of old.calls old.bytes) (events_of new.calls new.bytes) (length old.calls) (event_of new.bytes call) (lists_goes old new call more logged lists))

-- one more call after calls that are logged: time goes on, and earlier images and the capacities stay
pub lists_time : (old new : Log) (call : Call) (more : List ℕ) → IsLogged old.spaces old.calls old.bytes → Lists old new call more → Passes (log_state old) (log_state new)
lists_time old new call more logged lists =
    let size = lists_length old new call more lists in
    let goes = lists_goes old new call more logged lists in
    record {
      later = omega (arith, size);
      keeps = λ t c early.
          let same = goes_images (events_of old.calls old.bytes) (events_of new.calls new.bytes) (length old.calls) (event_of new.bytes call) goes t early in
          (λ here. (early, subst (λ (P : Files → Type 0). P c) same here.1), λ here. (omega (arith, size), subst (λ (P : Files → Type 0). P c) (sym same) here.1));
      room = λ f n has. has;
      beneath = omega (arith, lists.faults);
      syncs = λ b has. has;
      free = λ is. is;
      lasts = lasts_as (log_state old) (log_state new) (omega (arith, lists.faults)) (keeps_none no_lent);
    }

pub lists_settled : (old new : Log) (call : Call) (more : List ℕ) → Lists old new call more → Settles (log_state old) (log_state new)
lists_settled old new call more lists t u c after later to here =
    let size = lists_length old new call more lists in
    let is : u ≡ t = omega (arith, size) in
    subst (λ (m : ℕ). (log_state new).image m c) is here

-- an image of the moment of the call's return
pub lists_last : (old new : Log) (call : Call) (more : List ℕ) → IsLogged old.spaces old.calls old.bytes → Lists old new call more → (c : Files) → image_at (events_of new.calls new.bytes) (length new.calls) c
    → next_images (event_of new.bytes call) (log_state old).files (image_at (events_of old.calls old.bytes) (length old.calls)) c
lists_last old new call more logged lists c here =
    subst (λ (P : Files → Type 0). P c) (goes_last (events_of old.calls old.bytes) (events_of new.calls new.bytes) (length old.calls) (event_of new.bytes call) (lists_goes old new call more logged lists))
    (subst (λ (m : ℕ). image_at (events_of new.calls new.bytes) m c) (lists_length old new call more lists) here)

-- a fact about each image of a moment of the call
pub lists_each : (old new : Log) (call : Call) (more : List ℕ) (Q : Files → Type 0) → IsLogged old.spaces old.calls old.bytes → Lists old new call more → ((c : Files) → (log_state old).image (length old.calls) c → Q c)
    → ((c : Files) → next_images (event_of new.bytes call) (log_state old).files (image_at (events_of old.calls old.bytes) (length old.calls)) c → Q c) → (t : ℕ) (c : Files) → length old.calls ≤ t → t ≤ length new.calls → (log_state new).image t c → Q c
lists_each old new call more Q logged lists first last t c from to here =
    let size = lists_length old new call more lists in
    ⊎_elim
    (λ early.
    let is : t ≡ length old.calls = omega (arith, size) in
    let same = goes_images (events_of old.calls old.bytes) (events_of new.calls new.bytes) (length old.calls) (event_of new.bytes call) (lists_goes old new call more logged lists) (length old.calls) (le_refl (length old.calls)) in
    first c (le_refl (length old.calls), subst (λ (P : Files → Type 0). P c) same (subst (λ (m : ℕ). image_at (events_of new.calls new.bytes) m c) is here.1)))
    (λ late.
    let is : t ≡ length new.calls = omega (arith, size) in
    last c (lists_last old new call more logged lists c (subst (λ (m : ℕ). image_at (events_of new.calls new.bytes) m c) is here.1)))
    (cases_lt t (length new.calls))

-- the list with one more call
pub logged_push : (spaces left : List Extent) (calls : List Call) (call : Call) (bytes more : List ℕ) → IsLogged spaces calls bytes → ((f : ℕ) → files_of left f ≡ after (event_of (bytes ++ more) call) (files_of spaces) f) → ((f : ℕ) → room_of left f ≡ room_of spaces f)
    → end_of call ≤ length (bytes ++ more) → file_of call < 67 → end_in_file call ≤ room_of spaces (file_of call) → IsLogged left (calls ++ call ∷ []) (bytes ++ more)
logged_push spaces left calls call bytes more logged files rooms ends number fits =
    let goes = push_goes calls bytes more call logged.within in
    let longer = length-append bytes more in
    record {
      reads = λ f.
          let were : files_of spaces ≡ reads_at (events_of calls bytes) (length calls) = λ i g. logged.reads g i in
          let size : length (calls ++ call ∷ []) ≡ suc (length calls) = length-append calls (call ∷ []) ∙ add-one (length calls) in
          files f ∙ ap (λ (d : Files). after (event_of (bytes ++ more) call) d f) were
          ∙ sym (ap (λ (d : Files). d f) (goes_reads (events_of calls bytes) (events_of (calls ++ call ∷ []) (bytes ++ more)) (length calls) (event_of (bytes ++ more) call) goes))
          ∙ ap (λ (m : ℕ). reads_at (events_of (calls ++ call ∷ []) (bytes ++ more)) m f) (sym size);
      within = λ k. get_or-push calls call Len k (λ x. end_of x ≤ length (bytes ++ more)) (λ below. omega (arith, longer, logged.within k)) (λ here. ends) (λ past. omega arith);
      numbers = λ k. get_or-push calls call Len k (λ x. file_of x < 67) (λ below. logged.numbers k) (λ here. number) (λ past. omega arith);
      rooms = λ k.
          get_or-push calls call Len k (λ x. end_in_file x ≤ room_of left (file_of x)) (λ below. omega (arith, logged.rooms k, rooms (file_of (get_or calls k Len))))
          (λ here. omega (arith, fits, rooms (file_of call))) (λ past. omega arith);
    }

-- a write's bytes are those that were put after the others
pub event_of-write : (old more : List ℕ) (file at : ℕ) → event_of (old ++ more) (Write file at (length old) (length more)) ≡ Wrote file at more
event_of-write old more file at = ap (Wrote file at) (ap (take (length more)) (drop-append_seam old more) ∙ take_all (length more) more (le_refl (length more)))

-- one file of the list is replaced
pub files_of-set : (spaces : List Extent) (file : ℕ) (space : Extent) (f : ℕ) → file < length spaces → files_of (set spaces file space) f ≡ (if f == file then space.bytes else files_of spaces f)
files_of-set spaces file space f within =
    ⊎_elim
    (λ is.
    let here : (f == file) ≡ true = grind (arith, nat_tests) in
    rw here (ap (λ (e : Extent). e.bytes) (ap (λ (i : ℕ). get_or (set spaces file space) i empty_extent) is ∙ get_or-set_same spaces file space empty_extent within)))
    (λ other.
    let there : (f == file) ≡ false = grind (arith, nat_tests) in
    rw there (ap (λ (e : Extent). e.bytes) (get_or-set_other spaces file f space empty_extent other)))
    (cases_eq f file)

-- a file of the list replaced by one of the same capacity leaves the capacity of each file as it was
pub room_of-set : (spaces : List Extent) (file : ℕ) (space : Extent) (f : ℕ) → file < length spaces → space.room ≡ room_of spaces file → room_of (set spaces file space) f ≡ room_of spaces f
room_of-set spaces file space f within same =
    ⊎_elim
    (λ is. ap (λ (e : Extent). e.room) (ap (λ (i : ℕ). get_or (set spaces file space) i empty_extent) is ∙ get_or-set_same spaces file space empty_extent within) ∙ same ∙ ap (room_of spaces) (sym is))
    (λ other. ap (λ (e : Extent). e.room) (get_or-set_other spaces file f space empty_extent other))
    (cases_eq f file)

-- the files after a write, and after a cut
pub files_of-write : (spaces : List Extent) (file at : ℕ) (bytes : List ℕ) (space : Extent) → file < length spaces → space.bytes ≡ overwritten (files_of spaces file) at bytes → (f : ℕ) → files_of (set spaces file space) f ≡ after (Wrote file at bytes) (files_of spaces) f
files_of-write spaces file at bytes space within is f = files_of-set spaces file space f within ∙ ap (λ (l : List ℕ). if f == file then l else files_of spaces f) is

-- where a file of the list is replaced by one with its first bytes, the files are those after a cut of it
pub files_of-cut : (spaces : List Extent) (file len : ℕ) (space : Extent) → file < length spaces → space.bytes ≡ take len (files_of spaces file) → (f : ℕ) → files_of (set spaces file space) f ≡ after (Shortened file len) (files_of spaces) f
files_of-cut spaces file len space within is f = files_of-set spaces file space f within ∙ ap (λ (l : List ℕ). if f == file then l else files_of spaces f) is

-- a call that leaves the files as they read
pub quiet_after : (bytes : List ℕ) (call : Call) (c : Files) → IsQuiet call → after (event_of bytes call) c ≡ c
quiet_after bytes Len c quiet = refl
quiet_after bytes Read c quiet = refl
quiet_after bytes (Write file at from n) c quiet = absurd quiet
quiet_after bytes (Cut file len) c quiet = absurd quiet
quiet_after bytes Sync c quiet = refl

-- and whose images were images before
pub quiet_images : (bytes : List ℕ) (call : Call) (reads : Files) (before : Files → Type 0) (c : Files) → IsQuiet call → before reads → next_images (event_of bytes call) reads before c → before c
quiet_images bytes Len reads before c quiet as_reads here = here
quiet_images bytes Read reads before c quiet as_reads here = here
quiet_images bytes (Write file at from n) reads before c quiet as_reads here = absurd quiet
quiet_images bytes (Cut file len) reads before c quiet as_reads here = absurd quiet
quiet_images bytes Sync reads before c quiet as_reads here = let same : c ≡ reads = λ i f. here f i in subst before (sym same) as_reads

-- calls that are logged are so with one more after them that leaves the files as they read
pub quiet_logged : (spaces : List Extent) (calls : List Call) (call : Call) (bytes : List ℕ) → IsQuiet call → IsLogged spaces calls bytes → IsLogged spaces (calls ++ call ∷ []) bytes
quiet_logged spaces calls call bytes quiet logged =
    let small : (x : Call) → IsQuiet x → (end_of x ≡ 0) × (file_of x ≡ 0) × (end_in_file x ≡ 0) =
    elim [
      | Len ↦ λ q. (refl, refl, refl)
      | Read ↦ λ q. (refl, refl, refl)
      | Write file at from n ↦ λ q. absurd q
      | Cut file len ↦ λ q. absurd q
      | Sync ↦ λ q. (refl, refl, refl)
    ] in
    let size = small call quiet in
    subst (λ (l : List ℕ). IsLogged spaces (calls ++ call ∷ []) l) (append-nil bytes)
    (logged_push spaces spaces calls call bytes [] logged (λ f. ap (λ (d : Files). d f) (sym (quiet_after (bytes ++ []) call (files_of spaces) quiet))) (λ f. refl)
    (omega (arith, size.0)) (omega (arith, size.1)) (omega (arith, size.2)))

-- an element that was read, by any default
pub read_at : {X : Type 0} (xs : List X) (i : ℕ) (x d : X) → i < length xs → x ≡ get_or xs i x → x ≡ get_or xs i d
read_at xs i x d within is = is ∙ get_or_default xs i x d within
