-- A copy that is extended after the gate that ends it.
use Rattle.std.specs.Prelude.{◌≡◌, ◌≢◌, ◌⊎◌, ◌<◌, ◌≤◌, ◌+◌, ℕ, false, List, take, drop, length, get_or}
use Rattle.aea_disk.specs.Files.{Files}
use Rattle.aea_disk.specs.Ends.{greatest_place}
use Rattle.aea_disk.specs.State.{State, Passes, During, HasEarlier, IsFixed}
use Rattle.aea_records.specs.Format.{open_gate}
use Rattle.aea_records.specs.TableLaws.{AreBytes}
use Rattle.aea_copies.specs.Format.{chain, last_link, text_of}
use Rattle.aea_copy_writer.specs.Entries.{HasPieces, FitsEntries, after_gate}
use Rattle.aea_mirror.specs.declared.tail.Tail.{Tail}

-- the gate is there, and is not open
pub record IsShut (gate : ℕ) (bytes : List ℕ) : Type 0 where
  pub there : gate < length bytes
  pub shut : get_or bytes gate 0 ≢ open_gate

-- a copy with a closed gate, on which nothing is pending
pub record IsGated (s : State) (file gate : ℕ) : Type 0 where
  pub fixed : IsFixed s file
  pub closed : IsShut gate (s.files file)

-- A copy that is extended after its gate: in each image of each moment its bytes before the gate are as they were, and the
-- gate is there, and so it reads; and where the gate is closed in some image of a moment, so it is in some image of each
-- earlier one.
pub record Extends (file gate : ℕ) (old new : State) : Type 0 where
  pub reads : (take gate (new.files file) ≡ take gate (old.files file)) × (gate < length (new.files file))
  pub front : During old new (λ c. (take gate (c file) ≡ take gate (old.files file)) × (gate < length (c file)))
  pub back : (t u : ℕ) (d : Files) → old.moment ≤ t → t ≤ u → u ≤ new.moment → new.image u d → IsShut gate (d file) → (e : Files) × new.image t e × IsShut gate (e file)

-- after the gate are the entries of these pieces, which are bytes, but for the gate of the first, and a closed gate
pub record HasEntries (gate : ℕ) (link : List ℕ) (more : List (List ℕ)) (bytes : List ℕ) : Type 0 where
  pub entries : take (length (after_gate link more)) (drop (gate + 1) bytes) ≡ after_gate link more
  pub are : AreBytes (text_of more)

-- the gate of a copy, of which the first has this one and the second that
abbrev pub IsGateOf : ℕ → ℕ → ℕ → ℕ → Type 0
IsGateOf first second file gate = ((file ≡ 65) × (gate ≡ first)) ⊎ ((file ≡ 66) × (gate ≡ second))

-- Since nothing was pending: the ledger and the sites are in each image as they read; so are both copies before their gates;
-- and where one is closed in some image of a moment, in some image of each earlier moment one is.
pub record Phase (first second : ℕ) (s n : State) : Type 0 where
  pub reads : (f gate : ℕ) → IsGateOf first second f gate → (take gate (n.files f) ≡ take gate (s.files f)) × (gate < length (n.files f))
  pub same : During s n (λ c. (f : ℕ) → f ≤ 64 → c f ≡ s.files f)
  pub fronts : During s n (λ c. (f gate : ℕ) → IsGateOf first second f gate → (take gate (c f) ≡ take gate (s.files f)) × (gate < length (c f)))
  pub back : (t u : ℕ) (d : Files) → s.moment ≤ t → t ≤ u → u ≤ n.moment → n.image u d → (f gate : ℕ) → IsGateOf first second f gate → IsShut gate (d f)
      → (e : Files) × n.image t e × ((g : ℕ) × (other : ℕ) × IsGateOf first second g other × IsShut other (e g))
  pub earlier : HasEarlier s n
  pub time : Passes s n

-- Both copies end alike, and the ledger has pieces from one place up to another whose entries end in time.
pub record FitsBoth (first second : Tail) (more : List (List ℕ)) (from until : ℕ) (ledger : List ℕ) : Type 0 where
  pub gates : second.gate ≡ first.gate
  pub links : second.link ≡ first.link
  pub has : HasPieces false more from until ledger
  pub fits : first.gate + length (chain first.link more) ≤ greatest_place

-- a copy ends after the entries of more pieces
pub record EndsAfter (old new : Tail) (more : List (List ℕ)) : Type 0 where
  pub gate : new.gate ≡ old.gate + length (chain old.link more)
  pub link : new.link ≡ last_link old.link more

-- Both copies were extended by these pieces: where each ends, and after the gate of each, which is open, are their entries.
pub record HasExtended (first second next_first next_second : Tail) (more : List (List ℕ)) (files : Files) : Type 0 where
  pub one : EndsAfter first next_first more
  pub two : EndsAfter second next_second more
  pub opened : (f g : ℕ) → IsGateOf first.gate second.gate f g → (get_or (files f) g 0 ≡ open_gate) × HasEntries g first.link more (files f)

-- the disk has space to extend both
pub record FitsExtending (s : State) (first second : Tail) (from until : ℕ) : Type 0 where
  pub one : FitsEntries s 65 first.gate first.link from until
  pub two : FitsEntries s 66 second.gate second.link from until
