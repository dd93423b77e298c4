use Rattle.std.proofs.Common.{◌≡◌, ℕ, List, get_or, sym, subst, arith, ap, ◌∙◌}
use Rattle.std.specs.Prelude.{slice_set}
use Rattle.aea_lattice.specs.Blocks.{HasBlock, block_of, same_block, number_of}
use Rattle.aea_sweep.specs.Labels.{AreLabels, Labels}
use Rattle.aea_sweep.proofs.Labelling.{set_labels, keep_labels, parity_labels}
use Rattle.aea_sweep.proofs.labels.label_parity.Goals.{then-first-k-eq0, else-first-k-eq0}
use Rattle.aea_sweep.proofs.labels.label_parity.Goals as goal

pub returns-clause-labels : goal.returns-clause-labels
returns-clause-labels c =
    let l = c.args.lattice.now in
    let b = block_of c.args.node c.args.class in
    let is : c.number-k.result ≡ number_of l b = c.number-k.ensures.value in
    elim c.if-first-k-eq0.branch [
      | then-first-k-eq0 w ↦
          subst (λ (x : List ℕ). AreLabels l x c.if-first-k-eq0.skip) (sym w.first-is)
          (subst (λ (x : List ℕ). AreLabels l (slice_set c.args.first.now c.number-k.result c.args.label) x) (sym w.skip-is)
          (subst (λ (k : ℕ). AreLabels l (slice_set c.args.first.now k c.args.label) (slice_set c.args.skip.now k w.behind.result)) (sym is)
          (parity_labels l c.args.first.now c.args.skip.now c.args.node c.args.label w.behind.result c.args.class c.requires.node c.requires.class c.requires.label c.requires.labels
          (ap (λ (k : ℕ). get_or c.args.first.now k 0) (sym is) ∙ w.if-first-k-eq0.true) w.behind.ensures)))
      | else-first-k-eq0 w ↦
          subst (λ (x : List ℕ). AreLabels l x c.if-first-k-eq0.skip) (sym w.first-is)
          (subst (λ (x : List ℕ). AreLabels l c.args.first.now x) (sym w.skip-is) c.requires.labels)
    ]

pub returns-clause-labelled : goal.returns-clause-labelled
returns-clause-labelled c =
    let l = c.args.lattice.now in
    let b = block_of c.args.node c.args.class in
    let is : c.number-k.result ≡ number_of l b = c.number-k.ensures.value in
    let hb : HasBlock l b = record { first = c.requires.node.first; last = c.requires.node.last; used = c.requires.class.used } in
    elim c.if-first-k-eq0.branch [
      | then-first-k-eq0 w ↦
          subst (λ (x : List ℕ). Labels l (same_block b) c.args.label c.args.first.now x) (sym w.first-is)
          (subst (λ (k : ℕ). Labels l (same_block b) c.args.label c.args.first.now (slice_set c.args.first.now k c.args.label)) (sym is)
          (set_labels l c.args.first.now b c.args.label c.requires.labels.labels_long hb
          (ap (λ (k : ℕ). get_or c.args.first.now k 0) (sym is) ∙ w.if-first-k-eq0.true)))
      | else-first-k-eq0 w ↦
          subst (λ (x : List ℕ). Labels l (same_block b) c.args.label c.args.first.now x) (sym w.first-is)
          (keep_labels l c.args.first.now b c.args.label
          (λ h. (let e : get_or c.args.first.now c.number-k.result 0 ≡ 0 = ap (λ (k : ℕ). get_or c.args.first.now k 0) is ∙ h in let g = w.if-first-k-eq0.false in omega arith)))
    ]
