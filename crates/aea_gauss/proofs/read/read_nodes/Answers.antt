use Rattle.std.proofs.Common.{ℕ, Bool, ◌&&◌, ◌==◌, ◌++◌, ◌∷◌, [], cond, take, sym, ◌∙◌, ap, arith}
use Rattle.aea_lattice.specs.declared.blocks.Class.TheVariants.{Datum}
use Rattle.aea_lattice.specs.Blocks.{class_number, block_of}
use Rattle.aea_gauss_words.specs.Words.{bit_matrix}
use Rattle.aea_readings.specs.Readings.{word_at}
use Rattle.aea_readings.specs.Small.{block_in, nodes_at}
use Rattle.aea_gauss.proofs.Reading.{nodes-more}
use Rattle.aea_gauss.proofs.read.read_nodes.Goals as goal

pub loop-k-preserved : goal.loop-k-preserved
loop-k-preserved c =
    let p : ℕ → Bool = word_at c.args.rows (bit_matrix c.args.wide c.args.words.now) c.args.f in
    let blocks = c.args.blocks.now in
    let k = c.loop-k.k in
    let b = block_in blocks k in
    c.in_ok-keep_node.ensures
    ∙ ap (λ ns. ns ++ cond (c.word_has-in_word.result && class_number b.class == 0) (b.node ∷ []) []) c.loop-k.invariant
    ∙ ap (λ x. nodes_at p (take k blocks) ++ cond (x && class_number b.class == 0) (b.node ∷ []) []) c.word_has-in_word.ensures
    ∙ sym (nodes-more p blocks k (block_of 0 Datum) (omega arith))
