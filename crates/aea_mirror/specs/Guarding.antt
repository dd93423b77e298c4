-- What a Mirror knows of the copies of the disk that it is lent.
use Rattle.std.specs.Prelude.{◌≡◌, ◌<◌, ℕ, Bool, true, false, List, length, take}
use Rattle.aea_disk.specs.State.{State, EveryImage}
use Rattle.aea_copies.specs.Format.{copied, text_of, first_link, last_link}
use Rattle.aea_copies.specs.Grammar.{IsBegun}
use Rattle.aea_copies.specs.Kept.{IsCopyFile, IsGood}
use Rattle.aea_mirror.specs.declared.tail.Tail.{Tail}

-- the copies are as they read in every image
abbrev pub AreFixed : State → Type 0
AreFixed s = EveryImage s (λ c. (f : ℕ) → IsCopyFile f → c f ≡ s.files f)

-- no copy is begun, and nothing is pending on the files of the copies
pub record AreOff (s : State) : Type 0 where
  pub none : (f : ℕ) → IsCopyFile f → IsBegun (s.files f) → ⊥
  pub fixed : AreFixed s

-- the ledger begins with this text, and a byte more is there
pub record BeginsWith (text ledger : List ℕ) : Type 0 where
  pub long : length text < length ledger
  pub front : take (length text) ledger ≡ text

-- Both copies are good with these pieces, and nothing is pending on them; as it reads and in every image the ledger begins
-- with their text.
pub record AreGuarded (s : State) (pieces : List (List ℕ)) : Type 0 where
  pub good : (f : ℕ) → IsCopyFile f → IsGood pieces (s.files f)
  pub fixed : AreFixed s
  pub reads : BeginsWith (text_of pieces) (s.files 0)
  pub images : EveryImage s (λ c. BeginsWith (text_of pieces) (c 0))

-- the entries of a copy of these pieces end there, with this last link
pub record EndsCopy (pieces : List (List ℕ)) (tail : Tail) : Type 0 where
  pub gate : tail.gate ≡ length (copied pieces)
  pub link : tail.link ≡ last_link first_link pieces

-- Both copies are on: both have these pieces, whose text ends at this place, and where each ends is known.
pub record AreOnWith (s : State) (end : ℕ) (first second : Tail) : Type 0 where
  pub pieces : List (List ℕ)
  pub guarded : AreGuarded s pieces
  pub text : end ≡ length (text_of pieces)
  pub one : EndsCopy pieces first
  pub two : EndsCopy pieces second

-- What a Mirror knows of the copies while it is not dead: they are off, or on with all that it keeps of them.
pub record Guards (s : State) (on : Bool) (end : ℕ) (first second : Tail) : Type 0 where
  pub off : on ≡ false → AreOff s
  pub are : on ≡ true → AreOnWith s end first second
