use Rattle.std.proofs.Common.{◌+◌, ◌<◌, length, sym, ◌∙◌, ap, subst}
use Rattle.std.proofs.lemmas.List.{length_push}
use Rattle.aea_readings.specs.Small.{equation_in}
use Rattle.aea_gauss.specs.Parts.{IsLabelOf}
use Rattle.aea_gauss.proofs.Joining.{each_push}
use Rattle.aea_gauss.proofs.labels.equation_labels.Goals as goal
use Rattle.aea_gauss.proofs.labels.equation_labels.Invariants.{Labelled}

pub loop-at-preserved : goal.loop-at-preserved
loop-at-preserved c =
    let l = c.args.lattice.now in
    let blocks = c.args.blocks.now in
    let labels = c.args.labels.now in
    let equations = c.args.equations.now in
    let own = c.loop-at.own.items in
    let is = c.in_ok-push.ensures.items in
    subst (Labelled l blocks labels equations (c.loop-at.at + 1)) (sym is) (record {
      long = length_push own c.equation_label.result ∙ ap (λ n. n + 1) c.loop-at.invariant.long;
      below = each_push (λ i label. label < length blocks) own c.equation_label.result c.loop-at.at c.loop-at.invariant.long c.loop-at.invariant.below c.equation_label.ensures.below;
      label = each_push (λ i label. IsLabelOf l blocks labels (equation_in equations i) label) own c.equation_label.result c.loop-at.at c.loop-at.invariant.long c.loop-at.invariant.label c.equation_label.ensures.label;
    })
