-- The text of the nodes of a lost block, kept for the next lost block.
use Rattle.std.specs.Prelude.{◌≡◌, ℕ, ◌*◌, ◌≤◌, List, Option, Some, MatchOption, ⊤}
use Rattle.aea_report.specs.Format.{numbers_text}
use Rattle.aea_plan.specs.Plans.{nodes_count}
use Rattle.aea_plan.specs.Verdicts.{nodes_at}

-- the text is that of the nodes that are listed for the block of this number
pub record IsTextOf (losses : Option (List (Option (List ℕ)))) (text : List ℕ) (number : ℕ) : Type 0 where
  pub nodes : List ℕ
  pub lost : nodes_at losses number ≡ Some nodes
  pub is : text ≡ numbers_text nodes

-- where a number is noted, the text is that of its nodes
abbrev pub KeepsText : Option (List (Option (List ℕ))) → List ℕ → Option ℕ → Type 0
KeepsText losses text noted = MatchOption noted ⊤ (IsTextOf losses text)

-- so many bytes are space for the text of the nodes of each lost block
abbrev pub HasRoomFor : Option (List (Option (List ℕ))) → ℕ → Type 0
HasRoomFor losses bytes = (k : ℕ) → 11 * nodes_count (nodes_at losses k) ≤ bytes
