-- What two judgements say together.
use Rattle.std.specs.Prelude.{◌≡◌, ◌↔◌, ◌≤◌, ℕ, true, List, length, take}
use Rattle.aea_disk.specs.Ends.{greatest_place}
use Rattle.aea_disk.specs.Files.{Files}
use Rattle.aea_copies.specs.Format.{copied, first_link, last_link, text_of}
use Rattle.aea_copies.specs.Grammar.{IsBadCopyAt}
use Rattle.aea_copies.specs.Kept.{IsCopyFile, IsGood, AreOn, AreKept}
use Rattle.aea_copy_reader.specs.Comparing.{DifferAt}
use Rattle.aea_adopt.specs.declared.choice.Kept.{Kept}
use Rattle.aea_adopt.specs.declared.choice.Choice.{Choice}
use Rattle.aea_adopt.specs.declared.choice.Choice.TheVariants.{Off, Bad, Differ, Keep}

-- copies are on, and neither is good: each is bad at its place
pub record AreBad (files : Files) (first second : ℕ) : Type 0 where
  pub on : AreOn files
  pub one : IsBadCopyAt (files 65) first
  pub two : IsBadCopyAt (files 66) second

-- both copies are good, and neither text is a beginning of the other
pub record AreDifferent (files : Files) (at : ℕ) : Type 0 where
  pub pieces : List (List ℕ)
  pub others : List (List ℕ)
  pub one : IsGood pieces (files 65)
  pub two : IsGood others (files 66)
  pub differ : DifferAt at (text_of pieces) (text_of others)

-- these pieces are kept, and this is what is known of the copy that has them
pub record IsKept (files : Files) (pieces : List (List ℕ)) (k : Kept) : Type 0 where
  pub kept : AreKept files pieces
  pub is : IsCopyFile k.source
  pub good : IsGood pieces (files k.source)
  pub place : k.standing.place ≡ length (copied pieces)
  pub text : k.standing.text ≡ length (text_of pieces)
  pub link : k.standing.link ≡ last_link first_link pieces
  pub in_ledger : k.standing.in_ledger ≡ true ↔ take k.standing.text (files 0) ≡ text_of pieces

-- what was chosen is true of the files
abbrev pub IsChosen : Files → Choice → Type 0
IsChosen files Off = AreOn files → ⊥
IsChosen files (Bad first second) = AreBad files first second
IsChosen files (Differ at) = AreDifferent files at
IsChosen files (Keep k) = (pieces : List (List ℕ)) × IsKept files pieces k

-- what is kept is in a copy, which has no more text than one may have, and ends where one may
abbrev pub IsClose : Choice → Type 0
IsClose Off = Unit {0}
IsClose (Bad first second) = Unit {0}
IsClose (Differ at) = Unit {0}
IsClose (Keep k) = IsCopyFile k.source × ((k.standing.text ≤ greatest_place) × (k.standing.place ≤ greatest_place))
