-- Ranges of a file: put into a hash, and compared with those of another file.
use Rattle.std.specs.Prelude.{◌≡◌, ◌≤◌, ◌+◌, ℕ, max, List, ◌++◌, length, take, drop}
use Rattle.sha2.specs.declared.Sha256.{Sha256}
use Rattle.sha2.specs.Hashers.{Holds256}
use Rattle.aea_records.specs.TableLaws.{AreBytes}
use Rattle.aea_copies.specs.Format.{link_after}

-- So many bytes of a file from a place on are all there, and were put into a hash after what it holds.
pub record HasTaken (file : List ℕ) (at count : ℕ) (old new : Sha256) : Type 0 where
  pub bytes : AreBytes (take count (drop at file))
  pub there : at + count ≤ max (length file) at
  pub holds : (message : List ℕ) → Holds256 old message → Holds256 new (message ++ take count (drop at file))

-- So many bytes of a file from a place on are all there, and are a piece that has this link after the other one.
pub record HasPieceAt (file : List ℕ) (at count : ℕ) (link next : List ℕ) : Type 0 where
  pub bytes : AreBytes (take count (drop at file))
  pub there : at + count ≤ length file
  pub linked : next ≡ link_after link (take count (drop at file))

-- The lists are the same up to this place, and not up to the next one.
pub record PartsAt (at : ℕ) (a b : List ℕ) : Type 0 where
  pub same : take at a ≡ take at b
  pub other : take (at + 1) a ≡ take (at + 1) b → ⊥
