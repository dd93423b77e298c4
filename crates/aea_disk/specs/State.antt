-- What a disk means: its files, its moments, and what a crash may have left at each.
use Rattle.std.specs.Prelude.{◌≡◌, ◌≢◌, ◌↔◌, ◌<◌, ◌≤◌, ◌-◌, ◌^◌, max, Bool, false, ℕ, List, length, take, drop, Result, OnOk, OnErr, IsOk}
use Rattle.aea_faults.specs.Faults.{Rose}
use Rattle.aea_disk.specs.Files.{Files}

-- Of a disk that hands its calls on to one that it is lent: which one that is, by the name of the loan, and how the borrower is set;
-- the lent disk's clock, its images, how often a call of it has failed, and what it says of its capacities and its rules; and
-- what the borrower sees to in each image of it.
pub record Lent : Type 1 where
  pub name : ℕ
  pub set : Bool
  pub moment : ℕ
  pub image : ℕ → Files → Type 0
  pub faults : ℕ
  pub room : ℕ → ℕ → Type 0
  pub beneath : ℕ
  pub keeps : List ℕ → Type 0
  pub free : Type 0
  pub holds : Files → Type 0

-- What calls leave of it: it is the same one, and the borrower is set as before; its time goes on, its counts do not fall, and the
-- one of its faults stops at the greatest u64; the images of earlier moments, the capacities and the rules stay; and where each
-- image has what the borrower sees to, so has each image of each moment of the calls.
pub record KeepsLent (old new : Lent) : Type 0 where
  pub name : new.name ≡ old.name
  pub set : new.set ≡ old.set
  pub later : old.moment ≤ new.moment
  pub keeps : (t : ℕ) (c : Files) → t ≤ old.moment → new.image t c ↔ old.image t c
  pub counts : old.faults ≤ new.faults
  pub stops : new.faults ≤ max old.faults (2 ^ 64 - 1)
  pub room : (f n : ℕ) → old.room f n → new.room f n
  pub beneath : old.beneath ≤ new.beneath
  pub syncs : (bytes : List ℕ) → old.keeps bytes → new.keeps bytes
  pub free : old.free → new.free
  pub same : (c : Files) → new.holds c ↔ old.holds c
  pub holds : ((c : Files) → old.image old.moment c → old.holds c) → (t : ℕ) (c : Files) → old.moment ≤ t → t ≤ new.moment → new.image t c → old.holds c

pub record State : Type 1 where
  -- what a read gives, where the disk's contents are known
  pub files : Files
  -- the clock
  pub moment : ℕ
  -- a crash at this moment may have left these files; none for a disk whose images are not known
  pub image : ℕ → Files → Type 0
  -- how often a call has failed
  pub faults : ℕ
  -- the file has space for so many bytes, and no call fails that stays within; none for a disk that may fail
  pub room : ℕ → ℕ → Type 0
  -- how often a call has failed that the disk took: of a disk that hands its calls on, how often the one beneath has
  pub beneath : ℕ
  -- Of a file, the bytes of the ledger file, and a place: while the ledger file reads so, no rule of the disk forbids
  -- a write of the file from this place on, nor against a sync.
  pub takes : ℕ → List ℕ → ℕ → Type 0
  -- there is the space that a sync needs while the ledger file reads so
  pub keeps : List ℕ → Type 0
  -- the disk has no such rule at all
  pub free : Type 0
  -- what it is lent; nothing, for a disk that hands no call on
  pub lent : Lent

-- The count of faults stops at the greatest u64, and what is lent stays. A proof looks into this only where it says so.
unfoldable pub Lasts : State → State → Type 0
Lasts old new = (new.faults ≤ max old.faults (2 ^ 64 - 1)) × KeepsLent old.lent new.lent

-- Time goes on, the count beneath does not fall, and a call leaves the images of earlier moments, the capacities and what is lent as they are.
pub record Passes (old new : State) : Type 0 where
  pub later : old.moment ≤ new.moment
  pub keeps : (t : ℕ) (c : Files) → t ≤ old.moment → new.image t c ↔ old.image t c
  pub room : (f n : ℕ) → old.room f n → new.room f n
  pub beneath : old.beneath ≤ new.beneath
  pub syncs : (bytes : List ℕ) → old.keeps bytes → new.keeps bytes
  pub free : old.free → new.free
  pub lasts : Lasts old new

-- nothing is lent
abbrev pub no_lent : Lent
no_lent = record { name = 0; set = false; moment = 0; image = λ t c. ⊥; faults = 0; room = λ f n. ⊥; beneath = 0; keeps = λ b. ⊥; free = ⊥; holds = λ c. ⊥ }

-- a disk of this state as a borrower has it that hands its calls on, under this name, set so, and with what it sees to
abbrev pub lent_of : ℕ → Bool → (Files → Type 0) → State → Lent
lent_of name set holds s = record { name = name; set = set; moment = s.moment; image = s.image; faults = s.faults; room = s.room; beneath = s.beneath; keeps = s.keeps; free = s.free; holds = holds }

-- of a disk as it is, whoever has it: time goes on, the counts do not fall, and the images of earlier moments, the capacities and the
-- rules stay
abbrev pub Goes : State → State → Type 0
Goes old new = KeepsLent (lent_of 0 false (λ c. Unit {0}) old) (lent_of 0 false (λ c. Unit {0}) new)

-- each image of a moment of the call is an image from before it, after the step
abbrev pub Follows : (Files → Files → Type 0) → State → State → Type 0
Follows step old new = (t : ℕ) (c : Files) → old.moment ≤ t → t ≤ new.moment → new.image t c → (d : Files) × old.image old.moment d × step d c

-- each image of a moment of the call was one before it
abbrev pub KeepsImages : State → State → Type 0
KeepsImages old new = (t : ℕ) (c : Files) → old.moment ≤ t → t ≤ new.moment → new.image t c → old.image old.moment c

-- each image of a moment of a call is also one of each earlier moment of it after the entry
abbrev pub Settles : State → State → Type 0
Settles old new = (t u : ℕ) (c : Files) → old.moment < t → t ≤ u → u ≤ new.moment → new.image u c → new.image t c

-- Where some image is of a moment of a call, some image is of each earlier moment of it.
abbrev pub HasEarlier : State → State → Type 0
HasEarlier old new = (t u : ℕ) (c : Files) → old.moment ≤ t → t ≤ u → u ≤ new.moment → new.image u c → (d : Files) × new.image t d

-- every image of now
abbrev pub EveryImage : State → (Files → Type 0) → Type 0
EveryImage s P = (c : Files) → s.image s.moment c → P c

-- every image of every moment of a call
abbrev pub During : State → State → (Files → Type 0) → Type 0
During old new P = (t : ℕ) (c : Files) → old.moment ≤ t → t ≤ new.moment → new.image t c → P c

-- a fact about the images of one moment, at each moment of a call
abbrev pub AtEachMoment : State → State → ((Files → Type 0) → Type 0) → Type 0
AtEachMoment old new Q = (t : ℕ) → old.moment ≤ t → t ≤ new.moment → Q (new.image t)

-- at each moment of a call where some image has A, every image has B
abbrev pub SomeGivesEvery : State → State → (Files → Type 0) → (Files → Type 0) → Type 0
SomeGivesEvery old new A B = AtEachMoment old new (λ image. (c d : Files) → image c → A c → image d → B d)

-- what every image of one moment of a call has, every image of each later moment of the call has too
abbrev pub Stays : State → State → (Files → Type 0) → Type 0
Stays old new P = (t u : ℕ) → old.moment ≤ t → t ≤ u → u ≤ new.moment → ((c : Files) → new.image t c → P c) → (c : Files) → new.image u c → P c

-- nothing is pending on any file: a crash now leaves the files as they read
abbrev pub IsSynced : State → Type 0
IsSynced s = EveryImage s (λ c. (f : ℕ) → c f ≡ s.files f)

-- the file is fixed, nothing is pending on it: every image has it as it reads
abbrev pub IsFixed : State → ℕ → Type 0
IsFixed s file = EveryImage s (λ c. c file ≡ s.files file)

-- these bytes are at the place
abbrev pub HasRange : ℕ → ℕ → List ℕ → Files → Type 0
HasRange file at bytes c = take (length bytes) (drop at (c file)) ≡ bytes

-- the bytes are held: every image of now has them at the place
abbrev pub IsHeld : State → ℕ → ℕ → List ℕ → Type 0
IsHeld s file at bytes = EveryImage s (HasRange file at bytes)

-- The disk has space for so many bytes of a file.
abbrev pub HasRoomTo : State → ℕ → ℕ → Type 0
HasRoomTo s file end = s.room file end

-- the disk has some capacity, so it fails only for lack of space
abbrev pub HasRoom : State → Type 0
HasRoom s = (f : ℕ) × (n : ℕ) × HasRoomTo s f n

-- “It does not fail within the capacity”, of whatever calls: where they fit it, the answer is fine, and the count stays.
abbrev pub NeverFails : (fits fine : Type 0) → State → State → Type 0
NeverFails fits fine old new = fits → fine × (new.faults ≡ old.faults)

-- the disk takes a write of the file from this place on
abbrev pub TakesFrom : State → ℕ → ℕ → Type 0
TakesFrom s file at = s.takes file (s.files 0) at

-- it takes a sync, and calls that only read
abbrev pub IsReady : State → Type 0
IsReady s = (at : ℕ) × TakesFrom s 0 at

-- it has some capacity, and what it needs to sync
pub record IsRoomy (s : State) : Type 0 where
  pub some : HasRoom s
  pub sync : s.keeps (s.files 0)

-- Calls that did not fail leave what the disk takes.
abbrev pub KeepsTaking : State → State → Type 0
KeepsTaking old new = (file : ℕ) (bytes : List ℕ) (at : ℕ) → old.takes file bytes at → new.takes file bytes at

-- Of a call, by whether the disk takes it and whether it fits: where both are so the answer is Ok, and the count stays; a
-- call that is taken fails only where the count beneath rose; and one that did not fail leaves what the disk takes.
pub record IsSure {T E : Type 0} (taken fits : Type 0) (old new : State) (result : Result T E) : Type 0 where
  pub sure : taken → NeverFails fits (IsOk result) old new
  pub beneath : taken → OnErr result (Rose old.beneath new.beneath)
  pub goes : OnOk result (KeepsTaking old new)

-- Each other file reads as before, and each image of a moment of the call has it as an image from before the call.
pub record KeepsOthers (reveals : Type 0) (file : ℕ) (old new : State) : Type 0 where
  pub reads : reveals → (f : ℕ) → f ≢ file → new.files f ≡ old.files f
  pub images : (t : ℕ) (c : Files) → old.moment ≤ t → t ≤ new.moment → new.image t c → (d : Files) × old.image old.moment d × ((f : ℕ) → f ≢ file → c f ≡ d f)

-- the same of the files that are to stay, by a test of their own
pub record KeepsWhere (reveals : Type 0) (keep : ℕ → Type 0) (old new : State) : Type 0 where
  pub reads : reveals → (f : ℕ) → keep f → new.files f ≡ old.files f
  pub images : (t : ℕ) (c : Files) → old.moment ≤ t → t ≤ new.moment → new.image t c → (d : Files) × old.image old.moment d × ((f : ℕ) → keep f → c f ≡ d f)
