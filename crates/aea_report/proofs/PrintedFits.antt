-- A printed report fits what repair leaves.
use Rattle.std.proofs.Common.{◌≡◌, ◌↔◌, ◌<◌, List, map, get_or, Bool, true, sym, ◌∙◌, subst}
use Rattle.std.specs.Prelude.{IsTrue, not, filter, All, Contains}
use Rattle.std.proofs.lemmas.Bool.{false_from_ne_true, not_from_false, false≢true}
use Rattle.std.proofs.lemmas.List.{get_or-map, length-map}
use Rattle.std.proofs.lemmas.List.Elements.{All-same, All-filter, All-contains_itself}
use Rattle.aea_lattice.specs.declared.blocks.BlockId.{BlockId}
use Rattle.aea_lattice.specs.declared.grid.Lattice.{Lattice}
use Rattle.aea_lattice.specs.Blocks.{HasBlock, blocks_of}
use Rattle.aea_lattice.specs.Closure.{is_among}
use Rattle.aea_lattice.specs.Data.{Determines}
use Rattle.aea_lattice.specs.Facts.{ReachedAreDetermined, WordsMissDetermined, BlocksAreInside, PassingAreAmong}
use Rattle.aea_lattice.specs.Lists.{has_node}
use Rattle.aea_lattice.proofs.Among.{among-each, All-Each}
use Rattle.aea_lattice.proofs.Derivations.{reached-known}
use Rattle.aea_report.specs.declared.line.Line.{Line}
use Rattle.aea_report.specs.declared.line.Line.TheVariants.{Peeled, Solved, Lost}
use Rattle.aea_report.specs.Format.{block_in}
use Rattle.aea_report.specs.Fits.{IsRevealed}
use Rattle.aea_report.specs.Printed.{IsLineOf}
use Rattle.aea_report.specs.Laws.{PrintedReportsFit}

-- a block that the test finds in a list is in it
contains_among : (bs : List BlockId) (b : BlockId) → is_among bs b ≡ true → Contains bs b
contains_among bs b = among-each (Contains bs) bs b (All-Each (Contains bs) bs (All-contains_itself bs))

-- what holds of each item that a list is mapped to holds of what the items of the list are mapped to, as of the blocks of lines
-- it holds of the lines
pub from_map : {X Y : Type 0} (P : X → Type 0) (f : Y → X) (ys : List Y) → All P (map f ys) → All (λ y. P (f y)) ys
from_map P f ys all = λ k d lt. subst P (get_or-map f ys k d (f d) lt) (all k (f d) (subst (λ n. k < n) (sym (length-map ys f)) lt))

-- each line of a printed report is one of a block of the lattice
pub lines-inside : BlocksAreInside → (l : Lattice) (known : BlockId → Bool) (lines : List Line) → map block_in lines ≡ filter (λ b. not (known b)) (blocks_of l)
    → All (λ line. HasBlock l (block_in line)) lines
lines-inside inside l known lines blocks =
    from_map (HasBlock l) block_in lines
    (All-same (HasBlock l) (map block_in lines) (filter (λ b. not (known b)) (blocks_of l)) blocks
    (All-filter (λ b. not (known b)) (HasBlock l) (blocks_of l) (inside l)))

revealed_line : ReachedAreDetermined → WordsMissDetermined → (l : Lattice) (known intact : BlockId → Bool) → ((b : BlockId) → HasBlock l b → IsTrue (intact b) ↔ Determines l known b)
    → (line : Line) → HasBlock l (block_in line) → IsLineOf l known line → IsRevealed l intact line
revealed_line reached miss l known intact exactly (Peeled b) has fate = (exactly b has).1 (reached l known b has fate)
revealed_line reached miss l known intact exactly (Solved b) has fate = (exactly b has).1 fate.0
revealed_line reached miss l known intact exactly (Lost b nodes) has fate =
    let word = fate.1.chosen.1 in
    record {
      damaged = false_from_ne_true (intact b) (λ t. fate.0 ((exactly b has).0 t));
      contains = word.contains;
      misses = λ d inside t. miss l known (has_node nodes) word.word.misses d inside ((exactly d inside).0 t);
    }

-- a printed report fits where exactly the blocks that the known ones determine are intact
pub printed-fit : BlocksAreInside → PassingAreAmong → ReachedAreDetermined → WordsMissDetermined → PrintedReportsFit
printed-fit inside passing reached miss l known intact seal h lines printed exactly = record {
  alpha = printed.alpha;
  s = printed.s;
  p = printed.p;
  n = printed.n;
  seal_is = printed.seal_is;
  whole = λ b has damaged.
      let unknown : not (known b) ≡ true = not_from_false (known b)
      (false_from_ne_true (known b) (λ t. false≢true (sym damaged ∙ (exactly b has).1 (reached l known b has (reached-known l known b t))))) in
      subst (λ blocks. Contains blocks b) (sym printed.blocks)
      (contains_among (filter (λ d. not (known d)) (blocks_of l)) b ((passing l (λ d. not (known d)) b).1 (has, unknown)));
  revealed =
      λ k d lt. revealed_line reached miss l known intact exactly (get_or lines k d) (lines-inside inside l known lines printed.blocks k d lt) (printed.each k d lt);
  counted = printed.counted;
}
