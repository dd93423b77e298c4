-- Fates hang on what is known of the blocks of the lattice alone.
use Rattle.std.proofs.Common.{◌≡◌, ℕ, Bool, not, List, filter, sym, ◌∙◌, ap}
use Rattle.std.proofs.lemmas.List.Elements.{All-weaker}
use Rattle.aea_lattice.specs.declared.blocks.BlockId.{BlockId}
use Rattle.aea_lattice.specs.declared.blocks.EqId.{EqId}
use Rattle.aea_lattice.specs.declared.grid.Lattice.{Lattice}
use Rattle.aea_lattice.specs.Blocks.{HasBlock, blocks_of}
use Rattle.aea_lattice.specs.LeastWord.{IsWord}
use Rattle.aea_lattice.proofs.Odd.{Each-more, filter_each}
use Rattle.aea_lattice.proofs.Once.{each-blocks_of}
use Rattle.aea_fates.specs.Sums.{IsSpare, IsSum}
use Rattle.aea_fates.proofs.Stay.{words-stay}
use Rattle.aea_gauss.specs.declared.fates.Fate.{Fate}
use Rattle.aea_gauss.specs.declared.fates.Fate.TheVariants.{Sum, Word}
use Rattle.aea_gauss.specs.Fates.{IsFate, FatesDependOnBlocks}

module _ (l : Lattice) where
  abbrev Same : (BlockId → Bool) → (BlockId → Bool) → Type 0
  Same known other = (b : BlockId) → HasBlock l b → known b ≡ other b

  -- the blocks that are left are the same
  pub blocks_same : (known other : BlockId → Bool) → Same known other → filter (λ b. not (known b)) (blocks_of l) ≡ filter (λ b. not (other b)) (blocks_of l)
  blocks_same known other same =
      filter_each (λ b. not (known b)) (λ b. not (other b)) (blocks_of l)
      (Each-more (HasBlock l) (λ b. not (known b) ≡ not (other b)) (blocks_of l) (λ b has. ap not (same b has)) (each-blocks_of l))

  spare_same : (known other : BlockId → Bool) → Same known other → (e : EqId) → IsSpare l other e → IsSpare l known e
  spare_same known other same e spare = (
    spare.0,
    record {
      contains = spare.1.contains;
      greatest = spare.1.greatest;
      only_known = λ b has adds. same b has ∙ spare.1.only_known b has adds;
    },
  )

  sum_same : (known other : BlockId → Bool) → Same known other → (b : BlockId) (equations : List EqId) → IsSum l known b equations → IsSum l other b equations
  sum_same known other same b equations sum = record {
    gives = record {
      contains = sum.gives.contains;
      others = λ d has adds apart. sym (same d has) ∙ sum.gives.others d has adds apart;
    };
    no_spare = λ e has listed spare. sum.no_spare e has listed (spare_same known other same e spare);
    ordered = sum.ordered;
  }

  word_same : (known other : BlockId → Bool) → Same known other → (b : BlockId) (nodes : List ℕ) → IsWord l known b nodes → IsWord l other b nodes
  word_same known other same b nodes word =
      (words-stay l known other (λ d has t. sym (same d has) ∙ t) (λ d has t w xs ys hx hy agree. agree d has (same d has ∙ t)) b nodes).0 word

  fate_same : (known other : BlockId → Bool) → Same known other → (f : Fate) → IsFate l known f → IsFate l other f
  fate_same known other same (Sum b equations) sum = sum_same known other same b equations sum
  fate_same known other same (Word b nodes) word = word_same known other same b nodes word

-- Where the second test is the same for the blocks of the lattice, the fates for the first are those for the second.
pub fates-depend : FatesDependOnBlocks
fates-depend l known other fates same are = record {
  blocks = are.blocks ∙ blocks_same l known other same;
  each = All-weaker (IsFate l known) (IsFate l other) (fate_same l known other same) fates are.each;
}
