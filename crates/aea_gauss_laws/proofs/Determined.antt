-- What a set of blocks determines is what equations give, and what it leaves open is in a codeword.
use Rattle.std.proofs.Common.{◌≡◌, ℕ, ◌⊎◌, Bool, false, inl, inr, IsTrue}
use Rattle.std.proofs.lemmas.Bool.{cases_Bool}
use Rattle.aea_lattice.specs.declared.blocks.BlockId.{BlockId}
use Rattle.aea_lattice.specs.declared.blocks.EqId.{EqId}
use Rattle.aea_lattice.specs.declared.grid.Lattice.{Lattice}
use Rattle.aea_lattice.specs.Blocks.{HasBlock}
use Rattle.aea_lattice.specs.Data.{Determines}
use Rattle.aea_lattice.proofs.Words.{word-not_determined}
use Rattle.aea_gauss_laws.specs.Sums.{GivesBlock, Escapes, DeterminedAreSums, UndeterminedAreWords}
use Rattle.aea_gauss_laws.proofs.Given.{given, escaped, one_or_other}
use Rattle.aea_gauss_laws.proofs.Bits.{given-determined}

known-determined : (l : Lattice) (known : BlockId → Bool) (b : BlockId) → HasBlock l b → IsTrue (known b) → Determines l known b
known-determined l known b inside is_known w xs ys hx hy agree = agree b inside is_known

module _ (l : Lattice) (known : BlockId → Bool) (b : BlockId) (inside : HasBlock l b) where
  given-case : Determines l known b → known b ≡ false → (equations : EqId → Bool) × GivesBlock l known b equations
  given-case determined not_known =
      elim (one_or_other l known b inside not_known) [
        | given t gives ↦ (t, gives)
        | escaped nodes word ↦ absurd (word-not_determined l known nodes b inside word.contains word.misses determined)
      ]

  pub determined-given : Determines l known b → IsTrue (known b) ⊎ ((equations : EqId → Bool) × GivesBlock l known b equations)
  determined-given determined =
      elim (cases_Bool (known b)) [
        | inl is_known ↦ inl is_known
        | inr not_known ↦ inr (given-case determined not_known)
      ]

  pub determined-from : IsTrue (known b) ⊎ ((equations : EqId → Bool) × GivesBlock l known b equations) → Determines l known b
  determined-from (inl is_known) = known-determined l known b inside is_known
  determined-from (inr sum) = given-determined l known b inside sum.0 sum.1

  word-case : (¬ Determines l known b) → known b ≡ false → (nodes : ℕ → Bool) × Escapes l known b nodes
  word-case open' not_known =
      elim (one_or_other l known b inside not_known) [
        | given t gives ↦ absurd (open' (given-determined l known b inside t gives))
        | escaped nodes word ↦ (nodes, word)
      ]

  pub undetermined-word : (¬ Determines l known b) → (nodes : ℕ → Bool) × Escapes l known b nodes
  undetermined-word open' =
      elim (cases_Bool (known b)) [
        | inl is_known ↦ absurd (open' (known-determined l known b inside is_known))
        | inr not_known ↦ word-case open' not_known
      ]

-- a set determines a block of the lattice exactly where the block is in it or some equations give it from the set
pub determined-sums : DeterminedAreSums
determined-sums l known b inside = (determined-given l known b inside, determined-from l known b inside)

-- a set does not determine a block of the lattice exactly where some codeword has the block and none of the set
pub undetermined-words : UndeterminedAreWords
undetermined-words l known b inside =
    (undetermined-word l known b inside, λ word. word-not_determined l known word.0 b inside word.1.contains word.1.misses)
