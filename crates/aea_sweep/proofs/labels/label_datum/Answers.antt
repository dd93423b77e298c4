use Rattle.std.proofs.Common.{◌≡◌, ℕ, get_or, sym, subst, arith, ap, ◌∙◌}
use Rattle.std.specs.Prelude.{slice_set}
use Rattle.aea_lattice.specs.declared.blocks.Class.TheVariants.{Datum}
use Rattle.aea_lattice.specs.Blocks.{block_of, same_block, number_of}
use Rattle.aea_sweep.specs.Labels.{AreLabels, Labels}
use Rattle.aea_sweep.proofs.Labelling.{set_labels, datum_labels}
use Rattle.aea_sweep.proofs.labels.label_datum.Goals as goal

pub returns-then-first-k-eq0-clause-labels : goal.returns-then-first-k-eq0-clause-labels
returns-then-first-k-eq0-clause-labels c =
    let l = c.args.lattice.now in
    let is : c.number-k.result ≡ number_of l (block_of c.args.node Datum) = c.number-k.ensures.value in
    subst (λ (k : ℕ). AreLabels l (slice_set c.args.first.now k c.args.label) c.args.skip.now) (sym is)
    (datum_labels l c.args.first.now c.args.skip.now c.args.node c.args.label c.requires.node c.requires.labels
    (ap (λ (k : ℕ). get_or c.args.first.now k 0) (sym is) ∙ c.if-first-k-eq0.true))

pub returns-then-first-k-eq0-clause-labelled : goal.returns-then-first-k-eq0-clause-labelled
returns-then-first-k-eq0-clause-labelled c =
    let l = c.args.lattice.now in
    let is : c.number-k.result ≡ number_of l (block_of c.args.node Datum) = c.number-k.ensures.value in
    subst (λ (k : ℕ). Labels l (same_block (block_of c.args.node Datum)) c.args.label c.args.first.now (slice_set c.args.first.now k c.args.label)) (sym is)
    (set_labels l c.args.first.now (block_of c.args.node Datum) c.args.label c.requires.labels.labels_long
    (record { first = c.requires.node.first; last = c.requires.node.last; used = omega arith })
    (ap (λ (k : ℕ). get_or c.args.first.now k 0) (sym is) ∙ c.if-first-k-eq0.true))
