use Rattle.std.proofs.Common.{None, refl, subst}
use Rattle.std.specs.Prelude.{Bool, not, filter}
use Rattle.std.proofs.lemmas.Result.{IfOk-weaker}
use Rattle.aea_lattice.specs.declared.blocks.BlockId.{BlockId}
use Rattle.aea_lattice.specs.declared.grid.Lattice.{Lattice}
use Rattle.aea_lattice.specs.Blocks.{blocks_of}
use Rattle.aea_view.specs.Marked.{AreMarks, is_marked}
use Rattle.aea_sites.specs.declared.lost.SiteLoss.{SiteLoss}
use Rattle.aea_sites.specs.Counts.{has_nodes, IsCountOf}
use Rattle.aea_sites.specs.Losses.{IsLossOf}
use Rattle.aea_sites.proofs.Losing.{none_lost, counted_lost}
use Rattle.aea_sites.proofs.Flipped.{AreFlipped, flipped, all-marked}
use Rattle.aea_sites.proofs.lost.loss_beyond.Goals as goal

pub returns-in-None : goal.returns-in-None
returns-in-None c =
    let marks = c.args.reached.now in
    none_lost c.reached_are_determined.ensures marks.lattice (is_marked marks) (record { lost = 0; first = None })
    (all-marked marks c.in_ok-open.open (record { same = c.in_ok-open.ensures.lattice; marks = c.in_ok-open.ensures.marks; whole = c.in_ok-open.ensures.whole }) c.in-None.ensures.none)
    refl refl

pub returns : goal.returns
returns c =
    let marks = c.args.reached.now in
    let l = c.lattice-lattice.result.now in
    let list = c.in_ok-list-in-Some.list in
    IfOk-weaker c.count_lost.result
    (IsCountOf l list (filter (has_nodes l list) (blocks_of l)))
    (IsLossOf marks.lattice (is_marked marks))
    (λ loss counted.
    subst (λ (x : Lattice). IsLossOf x (is_marked marks) loss) c.lattice-lattice.ensures.lattice
    (counted_lost c.blocks_are_inside.ensures c.words_are_open.ensures l (is_marked marks) list loss c.in_ok-list-in-Some.ensures counted))
    c.count_lost.ensures

pub returns-then-unmarked-blocks : goal.returns-then-unmarked-blocks
returns-then-unmarked-blocks c =
    let marks = c.args.reached.now in
    let l = c.lattice-lattice.result.now in
    let swapped : AreFlipped marks c.in_ok-open.open = record { same = c.in_ok-open.ensures.lattice; marks = c.in_ok-open.ensures.marks; whole = c.in_ok-open.ensures.whole } in
    IfOk-weaker c.loss_of_few.result
    (λ (loss : SiteLoss). (known : BlockId → Bool) → AreMarks c.in_ok-open.open (λ b. not (known b)) → IsLossOf l known loss)
    (IsLossOf marks.lattice (is_marked marks))
    (λ loss of.
    subst (λ (x : Lattice). IsLossOf x (is_marked marks) loss) c.lattice-lattice.ensures.lattice
    (of (is_marked marks) (flipped marks c.in_ok-open.open (is_marked marks) swapped (λ b has. refl))))
    c.loss_of_few.ensures
