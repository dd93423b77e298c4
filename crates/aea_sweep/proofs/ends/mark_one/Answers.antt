use Rattle.std.proofs.Common.{◌≡◌, ◌≢◌, ◌+◌, ◌-◌, ℕ, suc, get_or, set, length, sym, ◌∙◌, ap, subst, arith}
use Rattle.aea_lattice.specs.declared.grid.Lattice.{Lattice}
use Rattle.aea_lattice.specs.Blocks.{HasBlock, number_of}
use Rattle.aea_view.specs.Marked.{is_marked}
use Rattle.aea_sweep.specs.Labels.{label_of}
use Rattle.aea_sweep.specs.Ends.{AreMarkedFrom}
use Rattle.aea_sweep.proofs.EndMarks.{step_end, step_other}
use Rattle.aea_sweep.proofs.ends.mark_one.Goals as goal
use Rattle.aea_sweep.proofs.ends.mark_one.Goals.{else-left-ne0-via-then-left-ne0+else-first-k, else-left-ne0-via-else-left-ne0}

pub returns-then-first-k-clause-marked : goal.returns-then-first-k-clause-marked
returns-then-first-k-clause-marked c words s f marked =
    let l = c.args.lattice.now in
    let kn = is_marked c.args.known.now in
    let b = c.block-b.result in
    let some = c.if-left-ne0.true in
    let last : c.args.left ≡ suc (c.args.left - 1) = omega (arith, some) in
    let label : label_of l c.args.first.now b ≡ suc (c.args.left - 1) =
    ap (λ (n : ℕ). get_or c.args.first.now n 0) c.block-b.ensures.number ∙ c.if-first-k.true ∙ last in
    step_end l kn words c.args.first.now s f c.args.k (c.args.left - 1) b c.args.marks.now c.set.new.self c.block-b.ensures.block c.block-b.ensures.number label
    (record {
      block = subst (λ (g : Lattice). HasBlock g b) (sym c.requires.marks) c.block-b.ensures.block;
      whole = c.set.ensures.whole;
      same = c.set.ensures.lattice;
      marks = c.set.ensures.marks;
    })
    (subst (λ (j : ℕ). AreMarkedFrom l kn (length words) s.ends (c.args.k + 1) j c.args.marks.now) last marked)

pub returns-clause-marked : goal.returns-clause-marked
returns-clause-marked c words s f marked =
    let l = c.args.lattice.now in
    let kn = is_marked c.args.known.now in
    let b = c.block-b.result in
    let other : c.args.left ≢ 0 → label_of l c.args.first.now b ≢ c.args.left =
    λ some is. elim c.else-left-ne0.branch [
      | else-left-ne0-via-then-left-ne0+else-first-k w ↦ w.if-first-k.false (ap (λ (n : ℕ). get_or c.args.first.now n 0) (sym c.block-b.ensures.number) ∙ is)
      | else-left-ne0-via-else-left-ne0 w ↦ (let none = w.if-left-ne0.false in absurd (omega (arith, some, none)))
    ] in
    step_other l kn words c.args.first.now s f c.args.k c.args.left b c.args.marks.now c.set-2.new.self c.block-b.ensures.block c.block-b.ensures.number other
    (record {
      block = subst (λ (g : Lattice). HasBlock g b) (sym c.requires.marks) c.block-b.ensures.block;
      whole = c.set-2.ensures.whole;
      same = c.set-2.ensures.lattice;
      marks = c.set-2.ensures.marks ∙ ap (λ x. set c.args.marks.now.marks (number_of c.args.marks.now.lattice b) x) c.get.ensures;
    })
    marked
