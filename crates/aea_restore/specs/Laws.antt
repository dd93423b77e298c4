-- Laws of plans: that they can be carried out, and what they give.
use Rattle.std.specs.Prelude.{◌≡◌, ◌↔◌, Bool, false, List}
use Rattle.aea_lattice.specs.declared.blocks.BlockId.{BlockId}
use Rattle.aea_lattice.specs.declared.grid.Lattice.{Lattice}
use Rattle.aea_lattice.specs.Blocks.{HasBlock}
use Rattle.aea_lattice.specs.Data.{Determines}
use Rattle.aea_view.specs.Marked.{Marked, is_marked}
use Rattle.aea_peel.specs.declared.plan.Step.{Step}
use Rattle.aea_peel.specs.Plans.{IsPlan, AreReached}
use Rattle.aea_gauss.specs.declared.fates.Fate.{Fate}
use Rattle.aea_gauss.specs.Fates.{AreFates}
use Rattle.aea_restore.specs.Given.{IsGiven, CanBeRestored}

-- The steps are a plan of peeling for the known blocks, the marks are those of what is known or reached so, and each other
-- block of the lattice has its fate where all of that is known.
pub record AreOfPlan (l : Lattice) (known : BlockId → Bool) (marks : Marked) (steps : List Step) (fates : List Fate) : Type 0 where
  pub lattice : marks.lattice ≡ l
  pub plan : IsPlan l known steps
  pub reached : AreReached marks known
  pub rest : AreFates l (is_marked marks) fates

-- Steps and fates of a plan can be carried out from the known blocks.
abbrev pub PlansCanBeRestored : Type 0
PlansCanBeRestored =
    (l : Lattice) (known : BlockId → Bool) (marks : Marked) (steps : List Step) (fates : List Fate) → AreOfPlan l known marks steps fates
    → CanBeRestored l known steps fates

-- a block of the lattice that is damaged and that the known ones determine
pub record IsRestorable (l : Lattice) (known : BlockId → Bool) (b : BlockId) : Type 0 where
  pub block : HasBlock l b
  pub damaged : known b ≡ false
  pub determined : Determines l known b

-- What they give is exactly the damaged blocks that the known ones determine.
abbrev pub GivenAreRestorable : Type 0
GivenAreRestorable =
    (l : Lattice) (known : BlockId → Bool) (marks : Marked) (steps : List Step) (fates : List Fate) → AreOfPlan l known marks steps fates
    → (b : BlockId) → IsGiven steps fates b ↔ IsRestorable l known b
