use Rattle.std.proofs.Common.{◌<◌, ℕ, get_or, sym, subst}
use Rattle.std.specs.Prelude.{slice_set}
use Rattle.aea_sweep.specs.Labels.{IsSkip, AreLabels}
use Rattle.aea_sweep.proofs.Alongs.{along_trans}
use Rattle.aea_sweep.proofs.Labelling.{short_labels, skip_on}
use Rattle.aea_sweep.proofs.labels.shorten_one.Goals as goal

pub returns-clause-labels : goal.returns-clause-labels
returns-clause-labels c =
    let l = c.args.lattice.now in
    subst (λ (k : ℕ). AreLabels l c.args.first.now (slice_set c.args.skip.now k c.args.end)) (sym c.number-k.ensures.value)
    (short_labels l c.args.first.now c.args.skip.now c.args.from c.args.node c.args.end c.args.class c.requires.node c.requires.class c.requires.labels c.requires.done c.requires.along c.requires.before)

pub returns-clause-later : goal.returns-clause-later
returns-clause-later c =
    let l = c.args.lattice.now in
    let skip = skip_on l c.args.first.now c.args.skip.now c.args.from c.args.node c.args.end c.args.class c.requires.node c.requires.class c.requires.labels c.requires.done c.requires.along c.requires.before in
    subst (λ (k : ℕ). c.args.node < get_or c.args.skip.now k 0) (sym c.number-k.ensures.value) skip.later

pub returns-clause-along : goal.returns-clause-along
returns-clause-along c inside =
    let l = c.args.lattice.now in
    let skip = skip_on l c.args.first.now c.args.skip.now c.args.from c.args.node c.args.end c.args.class c.requires.node c.requires.class c.requires.labels c.requires.done c.requires.along c.requires.before in
    let next : IsSkip l c.args.first.now c.args.class c.args.node (get_or c.args.skip.now c.number-k.result 0) =
    subst (λ (k : ℕ). IsSkip l c.args.first.now c.args.class c.args.node (get_or c.args.skip.now k 0)) (sym c.number-k.ensures.value) skip in
    along_trans l c.args.class c.args.from c.args.node (get_or c.args.skip.now c.number-k.result 0) c.requires.along (next.goes_on inside)
