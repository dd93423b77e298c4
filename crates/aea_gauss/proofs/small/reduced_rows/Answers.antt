use Rattle.std.proofs.Common.{◌≡◌, ◌+◌, ◌++◌, List, ℕ, drop, take, length, refl, ap, arith}
use Rattle.aea_gauss.proofs.Filling.{taken_front}
use Rattle.aea_gauss.proofs.Reading.{left_by}
use Rattle.aea_gauss.proofs.small.reduced_rows.Goals as goal

pub returns-clause-reduction : goal.returns-clause-reduction
returns-clause-reduction c =
    let blocks = c.args.blocks.now in
    let equations = c.args.equations.now in
    let first = c.in_ok-words.words.items in
    let last = c.eliminate.new.words in
    let back : List ℕ = take c.in_ok-words.words.len (last ++ drop (length last) first) in
    let kept = c.eliminate.ensures.long in
    let lent_len = c.as_mut_slice.ensures.len in
    let lent = ap length c.as_mut_slice.ensures.value in
    let whole : c.in_ok-words.words.len ≡ length last = omega arith in
    (left_by c.args.lattice.now blocks equations (length blocks + length equations) (length equations) c.args.wide first c.as_mut_slice.result.now last back
    refl refl c.requires.wide c.as_mut_slice.ensures.value (taken_front c.in_ok-words.words.len last (drop (length last) first) whole)
    c.in_ok-words.ensures.rows c.eliminate.ensures.reduction c.eliminate.ensures.padded).reduction

pub returns-clause-reduced : goal.returns-clause-reduced
returns-clause-reduced c =
    let blocks = c.args.blocks.now in
    let equations = c.args.equations.now in
    let first = c.in_ok-words.words.items in
    let last = c.eliminate.new.words in
    let back : List ℕ = take c.in_ok-words.words.len (last ++ drop (length last) first) in
    let kept = c.eliminate.ensures.long in
    let lent_len = c.as_mut_slice.ensures.len in
    let lent = ap length c.as_mut_slice.ensures.value in
    let whole : c.in_ok-words.words.len ≡ length last = omega arith in
    (left_by c.args.lattice.now blocks equations (length blocks + length equations) (length equations) c.args.wide first c.as_mut_slice.result.now last back
    refl refl c.requires.wide c.as_mut_slice.ensures.value (taken_front c.in_ok-words.words.len last (drop (length last) first) whole)
    c.in_ok-words.ensures.rows c.eliminate.ensures.reduction c.eliminate.ensures.padded).reduced
