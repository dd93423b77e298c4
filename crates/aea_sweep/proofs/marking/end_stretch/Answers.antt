use Rattle.std.proofs.Common.{◌≢◌, ◌<◌, ◌+◌, ℕ, length, get_or, subst, arith}
use Rattle.aea_sweep.specs.Labels.{Labels, is_stretch}
use Rattle.aea_sweep.proofs.Stretching.{ends_none}
use Rattle.aea_sweep.proofs.marking.end_stretch.Goals as goal

pub returns-clause-kept : goal.returns-clause-kept
returns-clause-kept c nodes labels s =
    let l = c.args.lattice.now in
    let starts = c.args.starts.now in
    let few : c.args.strand < length starts = (let a = c.requires.strand in let b = c.requires.opens.long in omega arith) in
    let was : get_or starts c.args.strand 0 ≢ 0 = (let g = c.if-from-eq0.false in λ h. omega arith) in
    ends_none l c.args.class nodes c.args.label c.args.strand labels c.args.first.now c.label_stretch.new.first starts c.requires.class c.requires.label few s was
    (subst (λ (n : ℕ). Labels l (is_stretch l c.args.class (get_or starts c.args.strand 0) (n + 1)) c.args.label c.args.first.now c.label_stretch.new.first) c.n.ensures c.label_stretch.ensures.labelled)
