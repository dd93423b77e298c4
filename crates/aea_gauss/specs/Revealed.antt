-- What is read off reduced rows.
use Rattle.std.specs.Prelude.{◌≡◌, ℕ, ◌+◌, ◌*◌, ◌<◌, ◌^◌, Bool, List, length, get_or, Option, None, MatchOption}
use Rattle.aea_lattice.specs.declared.blocks.BlockId.{BlockId}
use Rattle.aea_lattice.specs.declared.blocks.EqId.{EqId}
use Rattle.aea_lattice.specs.declared.grid.Lattice.{Lattice}
use Rattle.aea_gauss_words.specs.Matrices.{IsLead, IsReduced, IsReduction}
use Rattle.aea_gauss_words.specs.Words.{words_for, bit_matrix}
use Rattle.aea_fates.specs.Live.{live_equations}
use Rattle.aea_readings.specs.Readings.{IsFree}
use Rattle.aea_readings.specs.Small.{unknown_blocks, small_start, RevealSmall}
use Rattle.aea_gauss.specs.declared.fates.Fate.{Fate}
use Rattle.aea_gauss.specs.Fates.{IsFate}

-- for each column of the table: the row among the first ones whose least column it is, if there is one
abbrev pub AreLeads : ℕ → ℕ → (ℕ → ℕ → Bool) → List (Option ℕ) → Type 0
AreLeads rows cols m leads =
    (a : ℕ) → a < length leads → MatchOption (get_or leads a None) (IsFree rows cols m a) (λ i. (i < rows) × IsLead cols (m i) a)

-- where the rows show the fates of a lattice, this is one of them
abbrev pub IsRevealed : List BlockId → List EqId → (ℕ → ℕ → Bool) → Fate → Type 0
IsRevealed blocks equations m fate = (l : Lattice) (known : BlockId → Bool) → RevealSmall l known blocks equations m → IsFate l known fate

-- the fate is that of the lattice for every set of known blocks that leaves these blocks unknown, with these equations
abbrev pub RevealsFate : Lattice → List BlockId → List EqId → Fate → Type 0
RevealsFate l blocks equations fate =
    (known : BlockId → Bool) → blocks ≡ unknown_blocks l known → equations ≡ live_equations l known → IsFate l known fate

-- the packed rows are the rows of the equations over the blocks, reduced, with the row of each block whose least column it is
pub record AreReduced (l : Lattice) (blocks : List BlockId) (equations : List EqId) (words : List ℕ) (wide : ℕ) (leads : List (Option ℕ)) : Type 0 where
  pub long : length words ≡ length equations * wide
  pub row : wide ≡ words_for (length blocks + length equations)
  pub short : length blocks + length equations < 2 ^ 32
  pub lead_rows : AreLeads (length equations) (64 * wide) (bit_matrix wide words) leads
  pub each : length blocks ≡ length leads
  pub reduced : IsReduced (length equations) (64 * wide) (bit_matrix wide words)
  pub reduction : IsReduction (length equations) (length blocks + length equations) (small_start l blocks equations) (bit_matrix wide words)
