-- What follows of the grammar of copies.
use Rattle.std.specs.Prelude.{◌≡◌, ◌≢◌, ◌⊎◌, ℕ, true, List, ◌∷◌, ◌++◌, length}
use Rattle.aea_records.specs.Format.{open_gate}
use Rattle.aea_records.specs.TableLaws.{AreBytes}
use Rattle.aea_copies.specs.Format.{copied, text_of}
use Rattle.aea_copies.specs.Grammar.{ArePieces, IsCopy, IsBadCopyAt}

-- No file is a good copy of two lists of pieces, or with two ends.
abbrev pub HasOnePieces : Type 0
HasOnePieces =
    (bytes : List ℕ) (pieces others : List (List ℕ)) (end last : ℕ) → IsCopy bytes pieces end → IsCopy bytes others last
    → (pieces ≡ others) × (end ≡ last)

-- A good copy is bad at no place.
abbrev pub CopiesAreNotBad : Type 0
CopiesAreNotBad = (bytes : List ℕ) (pieces : List (List ℕ)) (end at : ℕ) → IsCopy bytes pieces end → IsBadCopyAt bytes at → ⊥

-- No file is bad at two places.
abbrev pub IsBadAtOnePlace : Type 0
IsBadAtOnePlace = (bytes : List ℕ) (at other : ℕ) → IsBadCopyAt bytes at → IsBadCopyAt bytes other → at ≡ other

-- Two texts that begin the same bytes, each followed by a gate that is not open, have the same pieces. So a ledger that
-- begins with the text of a copy, and ends there, is read with the records of these pieces and no others.
abbrev pub TextsEndOnce : Type 0
TextsEndOnce =
    (pieces others : List (List ℕ)) (gate last : ℕ) (after behind : List ℕ) → ArePieces true pieces → ArePieces true others
    → gate ≢ open_gate → last ≢ open_gate → text_of pieces ++ gate ∷ after ≡ text_of others ++ last ∷ behind → pieces ≡ others

-- Each file of bytes is a good copy, or is bad at a place.
abbrev pub IsCopyOrBad : Type 0
IsCopyOrBad = (bytes : List ℕ) → AreBytes bytes → ((pieces : List (List ℕ)) × IsCopy bytes pieces (length (copied pieces))) ⊎ ((at : ℕ) × IsBadCopyAt bytes at)
