-- What is read of a copy, entry by entry, and what a judgement says.
use Rattle.std.specs.Prelude.{◌≡◌, ◌↔◌, ◌<◌, ◌≤◌, ◌+◌, ◌-◌, ℕ, Bool, true, List, [], ◌∷◌, ◌++◌, length, take, drop}
use Rattle.aea_disk.specs.Ends.{greatest_place}
use Rattle.aea_disk.specs.Files.{Files}
use Rattle.aea_copies.specs.Format.{first_link, last_link, copy_entry, copied, text_of}
use Rattle.aea_copies.specs.Grammar.{is_first, IsPiece, ArePieces, IsBegun, IsCopy, IsBadCopyAt}
use Rattle.aea_copy_reader.specs.declared.known.Standing.{Standing}
use Rattle.aea_copy_reader.specs.declared.known.Judged.{Judged}
use Rattle.aea_copy_reader.specs.declared.known.Judged.TheVariants.{Good, Bad}
use Rattle.aea_copy_reader.specs.declared.known.Turn.{Turn}
use Rattle.aea_copy_reader.specs.declared.known.Turn.TheVariants.{Ends, BadHere, GoesOn}

-- The copy has good entries of these pieces, and a reader that knows this is at the gate after them; it knows whether the
-- ledger begins with their text.
pub record HasRead (ledger bytes : List ℕ) (pieces : List (List ℕ)) (s : Standing) : Type 0 where
  pub begun : IsBegun bytes
  pub valid : ArePieces true pieces
  pub spelling : bytes ≡ copied pieces ++ drop s.place bytes
  pub place : s.place ≡ length (copied pieces)
  pub text : s.text ≡ length (text_of pieces)
  pub link : s.link ≡ last_link first_link pieces
  pub first : s.first ≡ is_first pieces
  pub in_ledger : s.in_ledger ≡ true ↔ take s.text ledger ≡ text_of pieces

-- The same pieces were read of both copies, and no entry that both have follows.
pub record Apart (ledger bytes others : List ℕ) (pieces : List (List ℕ)) (s : Standing) : Type 0 where
  pub one : HasRead ledger bytes pieces s
  pub two : HasRead ledger others pieces s
  pub apart : (piece after behind : List ℕ) → IsPiece (is_first pieces) piece → drop s.place bytes ≡ copy_entry (last_link first_link pieces) piece ++ after
      → drop s.place others ≡ copy_entry (last_link first_link pieces) piece ++ behind → ⊥

-- The copy is good, its entries end where the reader is, and the reader knows the length of its text, its last link, and
-- whether the ledger begins with its text.
pub record IsGoodCopy (ledger bytes : List ℕ) (s : Standing) : Type 0 where
  pub pieces : List (List ℕ)
  pub copy : IsCopy bytes pieces s.place
  pub text : s.text ≡ length (text_of pieces)
  pub link : s.link ≡ last_link first_link pieces
  pub in_ledger : s.in_ledger ≡ true ↔ take s.text ledger ≡ text_of pieces

-- a judgement is true of a file that is to be a copy
abbrev pub IsJudged : Files → ℕ → Judged → Type 0
IsJudged files file (Good s) = IsGoodCopy (files 0) (files file) s
IsJudged files file (Bad at) = IsBadCopyAt (files file) at

-- Whatever the disk tells, a judgement has no place past the greatest one, and no text longer than its copy.
abbrev pub IsNear : Judged → Type 0
IsNear (Good s) = (s.place ≤ greatest_place) × (s.text ≤ s.place)
IsNear (Bad at) = at ≤ greatest_place

-- a reader that goes on is further, by one entry, and not too far
abbrev pub IsOn : Standing → Turn → Type 0
IsOn s Ends = Unit {0}
IsOn s BadHere = Unit {0}
IsOn s (GoesOn t same) = (s.text < t.text) × (t.place + s.text ≡ s.place + 37 + t.text) × (t.place ≤ greatest_place) × (t.text ≤ t.place)

-- What was found where a reader was, after these pieces: they are all, the copy is bad there, or there is one more.
abbrev pub IsTurn : List ℕ → List ℕ → List (List ℕ) → Standing → Turn → Type 0
IsTurn ledger bytes pieces s Ends = IsCopy bytes pieces s.place
IsTurn ledger bytes pieces s BadHere = IsBadCopyAt bytes s.place
IsTurn ledger bytes pieces s (GoesOn t same) = HasRead ledger bytes (pieces ++ take (t.text - s.text) (drop (s.place + 5) bytes) ∷ []) t

-- The other copy had all that was before this place, or not; and so it has what follows it up to the next gate.
abbrev pub IsSame : (bytes others : List ℕ) (at : ℕ) (had : Bool) → Turn → Type 0
IsSame bytes others at had Ends = Unit {0}
IsSame bytes others at had BadHere = Unit {0}
IsSame bytes others at had (GoesOn t same) = same ≡ true ↔ ((had ≡ true) × (take (t.place - at) (drop at others) ≡ take (t.place - at) (drop at bytes)))
