use Rattle.std.proofs.Common.{◌<◌, ◌+◌, [], length, sym, ◌∙◌, ap, arith}
use Rattle.std.proofs.lemmas.List.Sums.{count_by_more_yes, count_by_more_no}
use Rattle.aea_lattice.specs.declared.blocks.Class.TheVariants.{Datum}
use Rattle.aea_lattice.specs.Blocks.{block_of}
use Rattle.aea_gauss.specs.declared.fates.Fate.{Fate}
use Rattle.aea_gauss.specs.declared.fates.Fate.TheVariants.{Word}
use Rattle.aea_sites.specs.Words.{is_word}
use Rattle.aea_sites.proofs.ByFates.{passes_at}
use Rattle.aea_sites.proofs.few.count_words.Goals as goal
use Rattle.aea_sites.proofs.few.count_words.Goals.{then-is_word_at, else-is_word_at}

pub loop-k-preserved : goal.loop-k-preserved
loop-k-preserved c =
    let fates = c.args.fates.now in
    let k = c.loop-k.k in
    let none : Fate = Word (block_of 0 Datum) [] in
    let below = c.loop-k-test.true in
    let end = c.len-k-end.ensures in
    let inside : k < length fates = omega arith in
    let here = sym (passes_at is_word fates k none inside) ∙ sym c.is_word_at.ensures in
    elim c.if-is_word_at.branch [
      | then-is_word_at w ↦ w.count-is ∙ ap (λ n. n + 1) c.loop-k.invariant ∙ sym (count_by_more_yes is_word fates k none inside (here ∙ w.if-is_word_at.true))
      | else-is_word_at w ↦ w.count-is ∙ c.loop-k.invariant ∙ sym (count_by_more_no is_word fates k none inside (here ∙ w.if-is_word_at.false))
    ]
