-- How lost blocks are counted by fates: those whose fate is a word. No public contract cites these.
use Rattle.std.specs.Prelude.{◌≡◌, ℕ, ◌<◌, Bool, true, false, List, length, slice_get, Option, None, Some, MatchOption}
use Rattle.aea_gauss.specs.declared.fates.Fate.{Fate}
use Rattle.aea_gauss.specs.declared.fates.Fate.TheVariants.{Sum, Word}
use Rattle.aea_sites.specs.declared.lost.FirstLost.{FirstLost}

-- the fate is a word: its block is lost
abbrev pub is_word : Fate → Bool
is_word (Sum b equations) = false
is_word (Word b nodes) = true

-- whether there is an item and it passes
abbrev pub some_passes : {A : Type 0} → (A → Bool) → Option A → Bool
some_passes p None = false
some_passes p (Some x) = p x

-- whether there is one at the place
abbrev pub is_word_at : List Fate → ℕ → Bool
is_word_at fates k = some_passes is_word (slice_get fates k)

-- the block and the nodes of a word
abbrev pub named : Fate → Option FirstLost
named (Sum b equations) = None
named (Word b nodes) = Some (record { block = b; nodes = nodes })

-- the first word is that of the block, with these nodes
pub record IsFirstWord (fates : List Fate) (f : FirstLost) : Type 0 where
  pub place : ℕ
  pub inside : place < length fates
  pub here : slice_get fates place ≡ Some (Word f.block f.nodes)
  pub before : (j : ℕ) → j < place → is_word_at fates j ≡ false

-- the first word, or there is none
abbrev pub HasFirst : List Fate → Option FirstLost → Type 0
HasFirst fates first = MatchOption first ((k : ℕ) → k < length fates → is_word_at fates k ≡ false) (IsFirstWord fates)
