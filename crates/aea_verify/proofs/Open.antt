-- A codeword that contains no intact block shows two data lists.
use Rattle.std.proofs.Common.{◌≡◌, ◌≢◌, ℕ, zero, suc, ◌<◌, ◌≤◌, ◌^◌, List, replicate, get_or, Bool, arith, ap, lit<}
use Rattle.std.specs.Prelude.{IsTrue}
use Rattle.std.proofs.lemmas.List.{length-replicate}
use Rattle.std.proofs.lemmas.List.Elements.{All-replicate, All-contains}
use Rattle.aea_lattice.specs.declared.blocks.BlockId.{BlockId}
use Rattle.aea_lattice.specs.declared.grid.Lattice.{Lattice}
use Rattle.aea_lattice.specs.Blocks.{HasBlock}
use Rattle.aea_lattice.specs.Equations.{is_in_codeword}
use Rattle.aea_lattice.specs.Data.{IsBytes, IsDataList}
use Rattle.aea_lattice.specs.Facts.{Misses, changed_from, ChangesAreCodewords}
use Rattle.aea_report.specs.declared.line.Line.TheVariants.{Lost}
use Rattle.aea_lattice.specs.Lists.{has_node}
use Rattle.aea_report.specs.Fits.{IsRevealed}
use Rattle.aea_verify.specs.Shown.{IsOpenTo, LostAreOpen}

-- data of zeros
zeros : (l : Lattice) (w : ℕ) → 1 ≤ w → IsDataList l w (replicate l.n (replicate w 0))
zeros l w some = record {
  some_bytes = some;
  long = length-replicate l.n (replicate w 0);
  each = All-replicate (IsBytes w) l.n (replicate w 0) (record { wide = length-replicate w 0; each = All-replicate (λ x. x < 2 ^ 8) w 0 (lit< tt) });
}

-- a block of ones
ones : (w : ℕ) → IsBytes w (replicate w 1)
ones w = record { wide = length-replicate w 1; each = All-replicate (λ x. x < 2 ^ 8) w 1 (lit< tt) }

ones_differ : (w : ℕ) → 1 ≤ w → replicate {A = ℕ} w 1 ≢ replicate {A = ℕ} w 0
ones_differ zero some = absurd (omega arith)
ones_differ (suc w) some = λ h. let same : ◌≡◌ {A = ℕ} 1 0 = ap (λ xs. get_or xs 0 0) h in omega arith

-- the codeword of the nodes contains the block and none of the set
words_open : ChangesAreCodewords → (l : Lattice) (known : BlockId → Bool) (nodes : ℕ → Bool) (w : ℕ) (b : BlockId) → 1 ≤ w → HasBlock l b → IsTrue (is_in_codeword l nodes b)
    → Misses l known nodes → IsOpenTo l w known b
words_open changes l known nodes w b some inside contained misses =
    let datas : List (List ℕ) = replicate l.n (replicate w 0) in
    let bytes : List ℕ = replicate w 1 in
    let change = changes l nodes w datas bytes (zeros l w some) (ones w) (ones_differ w some) in
    record {
      xs = changed_from 1 nodes bytes datas;
      ys = datas;
      is_xs = change.0;
      is_ys = zeros l w some;
      agree = λ d has t. change.2 d has (misses d has t);
      differ = (change.1 b inside).0 contained;
    }

-- a block that is reported as lost is open
pub lost-open : ChangesAreCodewords → LostAreOpen
lost-open changes l seal intact h lines w some fits b nodes inside has =
    let revealed : IsRevealed l intact (Lost b nodes) = All-contains (IsRevealed l intact) lines (Lost b nodes) fits.revealed has in
    words_open changes l intact (has_node nodes) w b some inside revealed.contains revealed.misses
