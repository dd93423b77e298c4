-- The listed nodes hang on the codewords that miss the known blocks alone.
use Rattle.std.proofs.Common.{◌↔◌, ℕ, Bool, List, IsTrue}
use Rattle.aea_lattice.specs.declared.blocks.BlockId.{BlockId}
use Rattle.aea_lattice.specs.declared.grid.Lattice.{Lattice}
use Rattle.aea_lattice.specs.Blocks.{HasBlock}
use Rattle.aea_lattice.specs.Data.{Determines}
use Rattle.aea_lattice.specs.Facts.{Misses}
use Rattle.aea_lattice.proofs.Words.{words-miss}
use Rattle.aea_lattice.specs.Lists.{has_node}
use Rattle.aea_lattice.specs.LeastWord.{IsEnd, IsWordOfEnd, IsWord}

-- two sets that the same codewords miss
record SameMisses (l : Lattice) (s t : BlockId → Bool) : Type 0 where
  pub to : (nodes : ℕ → Bool) → Misses l s nodes → Misses l t nodes
  pub back : (nodes : ℕ → Bool) → Misses l t nodes → Misses l s nodes

end_to : (l : Lattice) (s t : BlockId → Bool) → SameMisses l s t → (e : BlockId) → IsEnd l s e → IsEnd l t e
end_to l s t same e some =
    (some.0, record { block = some.1.block; misses = same.to some.0 some.1.misses; contains = some.1.contains; greatest = some.1.greatest })

flipped : (l : Lattice) (s t : BlockId → Bool) → SameMisses l s t → SameMisses l t s
flipped l s t same = record { to = same.back; back = same.to }

word_to : (l : Lattice) (s t : BlockId → Bool) → SameMisses l s t → (e : BlockId) (nodes : ℕ → Bool) → IsWordOfEnd l s e nodes → IsWordOfEnd l t e nodes
word_to l s t same e nodes w = record {
  is_end = end_to l s t same e w.is_end;
  misses = same.to nodes w.misses;
  contains = w.contains;
  alone = λ d d_end h. w.alone d (end_to l t s (flipped l s t same) d d_end) h;
}

listed_to : (l : Lattice) (s t : BlockId → Bool) → SameMisses l s t → (b : BlockId) (nodes : List ℕ) → IsWord l s b nodes → IsWord l t b nodes
listed_to l s t same b nodes w = record {
  chosen = (
    w.chosen.0,
    record {
      word = word_to l s t same w.chosen.0 (has_node nodes) w.chosen.1.word;
      contains = w.chosen.1.contains;
      least = λ d others other h. w.chosen.1.least d others (word_to l t s (flipped l s t same) d others other) h;
    },
  );
  ordered = w.ordered;
}

-- marking also blocks that the known ones determine leaves the listed nodes of each block as they are
pub words-stay : (l : Lattice) (known more : BlockId → Bool) → ((d : BlockId) → HasBlock l d → IsTrue (known d) → IsTrue (more d))
    → ((d : BlockId) → HasBlock l d → IsTrue (more d) → Determines l known d)
    → (b : BlockId) (nodes : List ℕ) → IsWord l known b nodes ↔ IsWord l more b nodes
words-stay l known more within determined b nodes =
    let same : SameMisses l known more = record {
      to = λ word misses d has marked. words-miss l known word misses d has (determined d has marked);
      back = λ word misses d has is_known. misses d has (within d has is_known);
    } in
    (listed_to l known more same b nodes, listed_to l more known (flipped l known more same) b nodes)
