-- Two good copies, compared by their texts.
use Rattle.std.specs.Prelude.{◌≡◌, ◌≢◌, ◌⊎◌, ◌<◌, ℕ, Option, Some, None, List, ◌++◌, length, take, slice_index}
use Rattle.aea_disk.specs.Files.{Files}
use Rattle.aea_copies.specs.Format.{text_of}
use Rattle.aea_copies.specs.Grammar.{IsCopy}
use Rattle.aea_copy_reader.specs.declared.known.Judged.{Judged}
use Rattle.aea_copy_reader.specs.declared.known.Judged.TheVariants.{Good, Bad}
use Rattle.aea_copy_reader.specs.declared.known.Judgement.{Judgement}

-- the texts are the same up to this place, and have other bytes there
pub record DifferAt (at : ℕ) (a b : List ℕ) : Type 0 where
  pub first : at < length a
  pub second : at < length b
  pub same : take at a ≡ take at b
  pub other : slice_index a at ≢ slice_index b at

-- the second text begins with the first
abbrev pub Begins : List ℕ → List ℕ → Type 0
Begins a b = (more : List ℕ) × (b ≡ a ++ more)

-- one text begins with the other, or they differ first at a place
abbrev pub Compares : Option ℕ → List ℕ → List ℕ → Type 0
Compares None a b = Begins a b ⊎ Begins b a
Compares (Some at) a b = DifferAt at a b

-- the same of the texts of two good copies, whichever they are
abbrev pub IsComparison : (bytes others : List ℕ) → Option ℕ → Type 0
IsComparison bytes others differ =
    (pieces more : List (List ℕ)) (end last : ℕ) → IsCopy bytes pieces end → IsCopy others more last → Compares differ (text_of pieces) (text_of more)

-- where one of the copies is bad nothing is compared
abbrev pub IsComparedAs : Files → Judged → Judged → Option ℕ → Type 0
IsComparedAs files (Good s) (Good t) differ = IsComparison (files 65) (files 66) differ
IsComparedAs files (Good s) (Bad at) differ = differ ≡ None
IsComparedAs files (Bad at) second differ = differ ≡ None

abbrev pub IsCompared : Files → Judgement → Type 0
IsCompared files j = IsComparedAs files j.first j.second j.differ
