-- What a Mirror means: the files of the disk that it is lent, but for the copies, and which calls it takes.
use Rattle.std.specs.Prelude.{◌≡◌, ◌⊎◌, ◌<◌, ◌≤◌, ◌+◌, ◌-◌, ◌^◌, ℕ, Bool, true, false, min, nat_le, if◌then◌else◌, List, [], length, get_or}
use Rattle.aea_disk.specs.Files.{Files}
use Rattle.aea_disk.specs.Ends.{Reaches, EndsAt, IsBare, copied_end}
use Rattle.aea_disk.specs.State.{State, lent_of}
use Rattle.aea_adopt.specs.declared.answers.Adopted.{Adopted}
use Rattle.aea_mirror.specs.Shown.{Shows, AreAs}

-- the files that a Mirror shows: those of the copies are empty
abbrev pub outer : Files → Files
outer c f = if nat_le f 64 then c f else []

-- the sum of two counts, which stops at the greatest number of 64 bits
abbrev pub added : ℕ → ℕ → ℕ
added faults own = min (faults + own) (2 ^ 64 - 1)

-- what a Mirror keeps beside the lent disk: the name of the loan, whether copies are on, where the kept text ends, whether it is dead,
-- since a copy could not be written, and how many calls it refused
pub record Kept : Type 0 where
  pub name : ℕ
  pub on : Bool
  pub end : ℕ
  pub dead : Bool
  pub own : ℕ

-- what a Mirror keeps right after copies were adopted, under this name of its loan
abbrev pub fresh : ℕ → Adopted → Kept
fresh name adopted = record { name = name; on = adopted.on; end = adopted.end; dead = false; own = 0 }

-- The kept text is a part of the ledger: the header, whose gate is open, and so many whole records up to this place.
pub record HoldsText (end : ℕ) (bytes : List ℕ) : Type 0 where
  pub header : get_or bytes 0 0 ≡ 1
  pub long : 18 ≤ length bytes
  pub from : 17 ≤ end
  pub records : ℕ
  pub reaches : Reaches bytes 0 records 17 end
  pub there : end < length bytes

-- no rule forbids it: copies are off, or there is no ledger, or the records end at this place or before it
abbrev pub IsAllowed : Bool → ℕ → List ℕ → ℕ → Type 0
IsAllowed on file bytes at = (on ≡ false) ⊎ (IsBare bytes ⊎ ((last : ℕ) × EndsAt bytes last × (file ≡ 0 → last ≤ at)))

-- the Mirror is not dead, and where copies are on the kept text is in the ledger
pub record IsSound (kept : Kept) (files : Files) : Type 0 where
  pub alive : kept.dead ≡ false
  pub text : kept.on ≡ true → HoldsText kept.end (files 0)

-- an image of the lent disk, as the Mirror shows it
abbrev pub Shown : Type 0 → (Files → Type 0) → Files → Type 0
Shown reveals image c = reveals × ((d : Files) × image d × Shows d c)

-- the calls that it takes
pub record Takes (reveals : Type 0) (s : State) (kept : Kept) (file : ℕ) (bytes : List ℕ) (at : ℕ) : Type 0 where
  pub revealed : reveals
  pub sound : IsSound kept s.files
  pub near : file ≤ 64
  pub allowed : IsAllowed kept.on file bytes at

-- The lent disk has space for both copies of a text of so many records that ends there, with the gate that ends a copy.
pub record HasCopyRoom (s : State) (records last : ℕ) : Type 0 where
  pub first : s.room 65 (copied_end (records + 1) last + 1)
  pub second : s.room 66 (copied_end (records + 1) last + 1)

-- What a sync needs while the ledger file reads so: that the lent disk has no rule, and what it needs to sync; and where
-- copies are on, space for them with all records of the ledger.
abbrev pub Keeps : State → Bool → List ℕ → Type 0
Keeps s on bytes = s.free × s.keeps bytes × ((on ≡ false) ⊎ ((last : ℕ) × (ends : EndsAt bytes last) × HasCopyRoom s ends.records last))

-- what a Mirror sees to in each image of the lent disk
abbrev pub SeesTo : Type 0 → Bool → Files → Type 0
SeesTo reveals on c = reveals → AreAs on c

-- What the Mirror's state is, by that of the lent disk and what the Mirror keeps.
abbrev pub mirror_state : Type 0 → State → Kept → State
mirror_state reveals s kept = record {
  files = outer s.files;
  moment = s.moment;
  image = λ t. Shown reveals (s.image t);
  faults = added s.faults kept.own;
  room = λ f n. (f ≤ 64) × (s.free × s.room f n);
  beneath = s.faults;
  takes = Takes reveals s kept;
  keeps = Keeps s kept.on;
  free = ⊥;
  lent = lent_of kept.name kept.on (SeesTo reveals kept.on) s;
}

-- the same by the fields of a Mirror
abbrev pub shown : Type 0 → State → (name : ℕ) (on : Bool) (end : ℕ) (dead : Bool) (own : ℕ) → State
shown reveals s name on end dead own = mirror_state reveals s (record { name = name; on = on; end = end; dead = dead; own = own })
