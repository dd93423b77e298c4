-- What holds of every table.
use Rattle.std.specs.Prelude.{◌≡◌, ◌<◌, ◌≤◌, ◌^◌, ℕ, ◌+◌, List, ◌++◌, length, take, drop, All, Ok}
use Rattle.aea_records.specs.Tables.{Table, Spells, judge, judge_then, and_then, IsWithin}

-- the list is one of bytes
abbrev pub AreBytes : List ℕ → Type 0
AreBytes bytes = All (λ b. b < 2 ^ 8) bytes

-- What is spelled is judged so, whatever follows it.
abbrev pub SpelledIsJudged : Type 1
SpelledIsJudged =
    (A : Type 0) (table : Table A) (text rest bytes : List ℕ) (at : ℕ) (v : A) → Spells table text v → at ≤ length bytes
    → drop at bytes ≡ text ++ rest → judge table at bytes ≡ Ok (v, at + length text)

-- the bytes from a place to another are a text that says this
pub record HasText {A : Type 0} (table : Table A) (bytes : List ℕ) (at end : ℕ) (v : A) : Type 0 where
  pub text : List ℕ
  pub are : AreBytes text
  pub spells : Spells table text v
  pub spelling : drop at bytes ≡ text ++ drop end bytes
  pub place : end ≡ at + length text
  pub within : end ≤ length bytes

-- What is judged to be valid is the text of what it says.
abbrev pub JudgedIsSpelled : Type 1
JudgedIsSpelled =
    (A : Type 0) (table : Table A) (bytes : List ℕ) (at end : ℕ) (v : A) → AreBytes bytes → at ≤ length bytes
    → judge table at bytes ≡ Ok (v, end) → HasText table bytes at end v

-- What is judged within a front of the bytes is judged so in all of them.
abbrev pub FrontsAreJudgedAlike : Type 1
FrontsAreJudgedAlike =
    (A : Type 0) (table : Table A) (bytes : List ℕ) (at size : ℕ) → IsWithin table at size
    → judge table at (take size bytes) ≡ judge table at bytes

-- Two tables in a row are judged one after the other.
abbrev pub JudgedInTurn : Type 1
JudgedInTurn =
    (A B : Type 0) (table : Table A) (more : A → Table B) (bytes : List ℕ) (at : ℕ)
    → judge (and_then table more) at bytes ≡ judge_then (judge table at bytes) (λ v end. judge (more v) end bytes)

-- No text of a table begins another one, and none says two things.
abbrev pub EachHasOneText : Type 1
EachHasOneText =
    (A : Type 0) (table : Table A) (text other x y : List ℕ) (v w : A) → Spells table text v → Spells table other w
    → text ++ x ≡ other ++ y → (v ≡ w) × (text ≡ other)
