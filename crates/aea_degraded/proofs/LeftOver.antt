-- What equations leave over, one equation after another.
use Rattle.std.proofs.Common.{◌≡◌, ℕ, ◌+◌, List, [], ◌∷◌, take, Some, ◌∙◌, ap}
use Rattle.std.specs.Prelude.{slice_get}
use Rattle.aea_lattice.specs.declared.blocks.BlockId.{BlockId}
use Rattle.aea_lattice.specs.declared.blocks.EqId.{EqId}
use Rattle.aea_lattice.specs.declared.grid.Lattice.{Lattice}
use Rattle.aea_lattice.specs.Equations.{is_in_equation}
use Rattle.aea_lattice.specs.Parity.{differ}
use Rattle.aea_lattice.proofs.Odd.{odd-cons, odd-append, differ-false_r}
use Rattle.aea_restore.specs.Plans.{is_left_over}
use Rattle.aea_restore.proofs.Items.{take_more}

-- one equation more
pub left_more : (l : Lattice) (es : List EqId) (e : EqId) (k : ℕ) (b : BlockId) → slice_get es k ≡ Some e
    → is_left_over l (take (k + 1) es) b ≡ differ (is_left_over l (take k es) b) (is_in_equation l e b)
left_more l es e k b is =
    ap (λ (xs : List EqId). is_left_over l xs b) (take_more es e k is)
    ∙ odd-append (λ f. is_in_equation l f b) (take k es) (e ∷ [])
    ∙ ap (differ (is_left_over l (take k es) b)) (odd-cons (λ f. is_in_equation l f b) e [] ∙ differ-false_r (is_in_equation l e b))
