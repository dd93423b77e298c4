use Rattle.std.proofs.Common.{◌≡◌, ◌+◌, ◌<◌, refl, ap, ◌∙◌, arith}
use Rattle.aea_lattice.specs.declared.blocks.BlockId.{BlockId}
use Rattle.aea_lattice.specs.declared.grid.Lattice.{Lattice}
use Rattle.aea_lattice.specs.Blocks.{blocks_count, number_of}
use Rattle.aea_view.specs.Marked.{is_marked}
use Rattle.aea_report.specs.Format.{block_in}
use Rattle.aea_verify.proofs.Tallied.{tally-more, one-kind}
use Rattle.aea_verify.proofs.tally.Tally.with.Goals as goal

pub returns-clause-tally : goal.returns-clause-tally
returns-clause-tally c lines is =
    let l = c.args.marks.now.lattice in
    let t = c.args.self.now in
    let number : c.number-number.result ≡ number_of l (block_in c.args.line.now) =
    c.number-number.ensures.value ∙ ap (λ (m : Lattice). number_of m c.block-block.result) c.lattice.ensures.lattice ∙ ap (λ (b : BlockId). number_of l b) c.block-block.ensures in
    tally-more l (is_marked c.args.marks.now) lines c.args.line.now t _ is refl (ap (λ n. n + 1) number) c.broken_with-broken.ensures
    (ap (λ n. t.peeled + n) c.peeled_in-peeled.ensures.value) (ap (λ n. t.solved + n) c.solved_in-solved.ensures.value) (ap (λ n. t.lost + n) c.lost_in-lost.ensures.value)

pub returns-clause-small : goal.returns-clause-small
returns-clause-small c =
    let l = c.args.marks.now.lattice in
    let number : c.number-number.result ≡ number_of l (block_in c.args.line.now) =
    c.number-number.ensures.value ∙ ap (λ (m : Lattice). number_of m c.block-block.result) c.lattice.ensures.lattice ∙ ap (λ (b : BlockId). number_of l b) c.block-block.ensures in
    let count = ap blocks_count c.lattice.ensures.lattice in
    let below : c.number-number.result < blocks_count l = omega (arith, c.number-number.ensures.below) in
    let later = c.requires.line.later in
    let line = c.requires.small.line in
    let counts = c.requires.small.counts in
    let one = one-kind c.args.line.now in
    let p = c.peeled_in-peeled.ensures.value in
    let s = c.solved_in-solved.ensures.value in
    let o = c.lost_in-lost.ensures.value in
    record { few = c.requires.small.few; least = omega arith; line = omega arith; counts = omega arith }
