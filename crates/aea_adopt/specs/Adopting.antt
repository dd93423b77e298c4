-- What adopting copies answers and leaves.
use Rattle.std.specs.Prelude.{◌≡◌, ◌⊎◌, ◌≤◌, ◌<◌, ℕ, true, false, List, [], ◌∷◌, length, take, get_or, Result, Ok, Err, IsOk}
use Rattle.aea_disk.specs.Ends.{greatest_place}
use Rattle.aea_disk.specs.Files.{Files, KeepsFiles, Torn}
use Rattle.aea_copies.specs.Format.{copied, first_link, last_link, text_of, whole_copy}
use Rattle.aea_copies.specs.Grammar.{IsBegun}
use Rattle.aea_copies.specs.Kept.{IsCopyFile, IsGood, AreOn, AreKept, HasText, mended, LeavesAdopted}
use Rattle.aea_copy_writer.specs.Anew.{IsOldNoneOrMade, whole_text}
use Rattle.aea_adopt.specs.Choosing.{AreBad, AreDifferent}
use Rattle.aea_adopt.specs.declared.answers.Adopted.{Adopted}
use Rattle.aea_adopt.specs.declared.answers.AdoptFault.{AdoptFault}
use Rattle.aea_adopt.specs.declared.answers.AdoptFault.TheVariants.{CopiesBad, CopiesDiffer, DiskFault}

-- the file is a site's
pub record IsSite (file : ℕ) : Type 0 where
  pub from : 1 ≤ file
  pub to : file ≤ 64

-- nothing is said of copies that are not on: all numbers are 0
pub record IsOff (a : Adopted) : Type 0 where
  pub on : a.on ≡ false
  pub end : a.end ≡ 0
  pub gates : a.gates ≡ 0 ∷ 0 ∷ []
  pub links : a.links ≡ first_link ∷ first_link ∷ []

-- what is said of kept pieces
pub record RevealsKept (pieces : List (List ℕ)) (a : Adopted) : Type 0 where
  pub on : a.on ≡ true
  pub end : a.end ≡ length (text_of pieces)
  pub gates : a.gates ≡ length (copied pieces) ∷ length (copied pieces) ∷ []
  pub links : a.links ≡ last_link first_link pieces ∷ last_link first_link pieces ∷ []

-- Whatever the disk tells: no place is past the greatest one, and where copies are on some text is kept.
pub record AreNear (a : Adopted) : Type 0 where
  pub end : a.end ≤ greatest_place
  pub first : get_or a.gates 0 0 ≤ greatest_place
  pub second : get_or a.gates 1 0 ≤ greatest_place
  pub text : a.on ≡ true → 1 ≤ a.end

-- What is said of copies is true of files: no copy is begun, and nothing is said of them; or both are good with these pieces,
-- the ledger has their text and a gate after it that is not open, and it is told where they end.
abbrev pub IsTrueOf : Files → Adopted → Type 0
IsTrueOf files a =
    ((AreOn files → ⊥) × IsOff a)
    ⊎ ((pieces : List (List ℕ)) × HasText (text_of pieces) (files 0) × ((f : ℕ) → IsCopyFile f → IsGood pieces (files f)) × RevealsKept pieces a)

-- What a stop may leave while copies are adopted, of files that read as old once the first sync has succeeded: the sites
-- stay; where nothing is kept all stays; else each copy is as it was, or not begun, or whole with the kept pieces, and one
-- is good with them.
pub record MayBeAdopted (old new : Files) : Type 0 where
  pub sites : (f : ℕ) → 1 ≤ f → f ≤ 64 → new f ≡ old f
  pub idle : ((pieces : List (List ℕ)) → AreKept old pieces → ⊥) → (f : ℕ) → new f ≡ old f
  pub copies : (pieces : List (List ℕ)) → AreKept old pieces → (f : ℕ) → IsCopyFile f → (new f ≡ old f) ⊎ ((IsBegun (new f) → ⊥) ⊎ (new f ≡ whole_copy pieces))
  pub good : (pieces : List (List ℕ)) → AreKept old pieces → (f : ℕ) × IsCopyFile f × IsGood pieces (new f)
  -- the ledger stays where it is the one that is made; where it has the text and a gate, no other byte is written; and where it has
  -- not, it is as it was, or not begun, or the whole one that is made
  pub ledger : (pieces : List (List ℕ)) → AreKept old pieces → mended (text_of pieces) (old 0) ≡ old 0 → new 0 ≡ old 0
  pub gate : (pieces : List (List ℕ)) → AreKept old pieces → length (text_of pieces) < length (old 0) → take (length (text_of pieces)) (old 0) ≡ text_of pieces → Torn (length (text_of pieces)) 1 (old 0) (new 0)
  pub anew : (pieces : List (List ℕ)) → AreKept old pieces → (length (text_of pieces) < length (old 0) → take (length (text_of pieces)) (old 0) ≡ text_of pieces → ⊥) → IsOldNoneOrMade (whole_text pieces) (old 0) (new 0)

-- An answer has its cause in the files, and says what is there then.
abbrev pub IsAdopted : Files → Files → Result Adopted AdoptFault → Type 0
IsAdopted old new (Ok a) =
    ((AreOn old → ⊥) × IsOff a × KeepsFiles (λ f. Unit {0}) old new)
    ⊎ ((pieces : List (List ℕ)) × AreKept old pieces × RevealsKept pieces a × LeavesAdopted old new)
IsAdopted old new (Err (CopiesBad first second)) = AreBad old first second × KeepsFiles (λ f. Unit {0}) old new
IsAdopted old new (Err (CopiesDiffer at)) = AreDifferent old at × KeepsFiles (λ f. Unit {0}) old new
IsAdopted old new (Err DiskFault) = MayBeAdopted old new

-- the answer is this, or a fault of the disk
abbrev pub OrFault : Result Adopted AdoptFault → Result Adopted AdoptFault → Type 0
OrFault result answer = (result ≡ answer) ⊎ (result ≡ Err DiskFault)

-- Each kind of files has its answer, but for a fault of the disk.
pub record IsAnswered (old : Files) (result : Result Adopted AdoptFault) : Type 0 where
  pub off : (AreOn old → ⊥) → IsOk result ⊎ (result ≡ Err DiskFault)
  pub kept : (pieces : List (List ℕ)) → AreKept old pieces → IsOk result ⊎ (result ≡ Err DiskFault)
  pub bad : (first second : ℕ) → AreBad old first second → OrFault result (Err (CopiesBad first second))
  pub differ : (at : ℕ) → AreDifferent old at → OrFault result (Err (CopiesDiffer at))
