-- Copies are begun: what a stop leaves meanwhile, and what is there at the end.
use Rattle.std.specs.Prelude.{◌≡◌, ◌⊎◌, ◌≤◌, ℕ, List, length}
use Rattle.aea_disk.specs.Ends.{EndsAt}
use Rattle.aea_disk.specs.Files.{Files}
use Rattle.aea_disk.specs.State.{State}
use Rattle.aea_copies.specs.Format.{text_of, whole_copy}
use Rattle.aea_copies.specs.Grammar.{CanBeCopied}
use Rattle.aea_copies.specs.Kept.{IsCopyFile, IsGood, HasText}
use Rattle.aea_copy_writer.specs.Anew.{IsNoneOrMade, FitsCopy}
use Rattle.aea_mirror.specs.declared.tail.Tail.{Tail}
use Rattle.aea_mirror.specs.Guarding.{EndsCopy}
use Rattle.aea_mirror.specs.Mirrored.{HasCopyRoom}
use Rattle.aea_mirror.specs.Shown.{Shows, NoneBegun}

-- these are the pieces of the ledger: a copy can have them, and it has their text, with a gate after it that is not open
pub record ArePiecesOf (ledger : List ℕ) (pieces : List (List ℕ)) : Type 0 where
  pub can : CanBeCopied pieces
  pub text : HasText (text_of pieces) ledger

-- No copy is begun; or the first is whole with these pieces, and the second is not begun, or whole too.
abbrev pub MayBeStarted : List (List ℕ) → Files → Type 0
MayBeStarted pieces files = NoneBegun files ⊎ ((files 65 ≡ whole_copy pieces) × IsNoneOrMade (whole_copy pieces) (files 66))

-- Both copies are whole with these pieces; their text ends at this place, and the entries of each copy there.
pub record HasStarted (pieces : List (List ℕ)) (end : ℕ) (first second : Tail) (files : Files) : Type 0 where
  pub text : end ≡ length (text_of pieces)
  pub one : EndsCopy pieces first
  pub two : EndsCopy pieces second
  pub whole : (f : ℕ) → IsCopyFile f → files f ≡ whole_copy pieces

-- the disk has space to make both copies of the text of pieces that the ledger begins with, so many bytes
pub record FitsMaking (s : State) (until : ℕ) : Type 0 where
  pub first : FitsCopy s 65 until
  pub second : FitsCopy s 66 until

-- The ledger has whole records up to a gate that is not open, and the disk has space for both copies of it, and to sync.
pub record FitsStart (s : State) : Type 0 where
  pub last : ℕ
  pub ends : EndsAt (s.files 0) last
  pub copies : HasCopyRoom s ends.records last
  pub sync : s.keeps (s.files 0)

-- what a Mirror may show of an image of the calls it may show of one from before them
abbrev pub ShowsNoMore : State → State → Type 0
ShowsNoMore old new =
    (t : ℕ) (d c : Files) → old.moment ≤ t → t ≤ new.moment → new.image t d → Shows d c
    → (e : Files) × old.image old.moment e × Shows e c

-- A whole copy of pieces that a copy can have is a good one.
abbrev pub WholeCopiesAreGood : Type 0
WholeCopiesAreGood = (pieces : List (List ℕ)) → CanBeCopied pieces → IsGood pieces (whole_copy pieces)
