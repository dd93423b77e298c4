use Rattle.std.proofs.Common.{Bool, None, refl, sym, ◌∙◌}
use Rattle.std.proofs.lemmas.Result.{IfOk-weaker}
use Rattle.aea_lattice.specs.declared.blocks.BlockId.{BlockId}
use Rattle.aea_view.specs.Marked.{AreMarks, is_marked}
use Rattle.aea_sites.specs.declared.lost.SiteLoss.{SiteLoss}
use Rattle.aea_sites.specs.Losses.{IsLossOf}
use Rattle.aea_sites.proofs.Losing.{none_lost, loss_of_reached}
use Rattle.aea_sites.proofs.Passing.{between_first, none_unmarked, all_reached, reached_further}
use Rattle.aea_sites.proofs.lost.loss_of.Goals as goal

pub returns-then-unmarked-eq0 : goal.returns-then-unmarked-eq0
returns-then-unmarked-eq0 c = λ known are.
    let left = c.args.left in
    let marks = c.mark_forced.new.marks in
    let goes = c.in_ok-mark_forced.ensures in
    let all = none_unmarked marks goes.whole (sym c.unmarked.ensures ∙ c.if-unmarked-eq0.true) in
    loss_of_reached c.reached_are_determined.ensures c.words_stay.ensures c.determined_stay.ensures left.lattice marks known (record { lost = 0; first = None })
    goes.same (all_reached marks known (goes.between known (between_first left known are)) all)
    (none_lost c.reached_are_determined.ensures marks.lattice (is_marked marks) (record { lost = 0; first = None }) all refl refl)

pub returns : goal.returns
returns c =
    let left = c.args.left in
    let further = c.mark_forced.new.marks in
    let goes = c.in_ok-mark_forced.ensures in
    let marks = c.in_ok-peeled.peeled.marks in
    IfOk-weaker c.loss_beyond.result
    (IsLossOf marks.lattice (is_marked marks))
    (λ (loss : SiteLoss). (known : BlockId → Bool) → AreMarks left known → IsLossOf left.lattice known loss)
    (λ loss of known are.
    loss_of_reached c.reached_are_determined.ensures c.words_stay.ensures c.determined_stay.ensures left.lattice marks known loss
    (c.in_ok-peeled.ensures.lattice ∙ goes.same)
    (reached_further further marks known c.in_ok-peeled.ensures.lattice (goes.between known (between_first left known are))
    (c.in_ok-peeled.ensures.reached (is_marked further) (λ b has. refl))) of)
    c.loss_beyond.ensures
