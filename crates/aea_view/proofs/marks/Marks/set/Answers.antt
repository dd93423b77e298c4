use Rattle.std.proofs.Common.{◌≡◌, ◌/◌, ◌<◌, length, get_or, set, ◌∙◌, ap, subst, arith}
use Rattle.std.proofs.lemmas.List.{get_or_default}
use Rattle.aea_lattice.specs.Blocks.{blocks_count, number_of}
use Rattle.aea_view.specs.Bits.{has_bit, bits_of}
use Rattle.aea_view.specs.Marked.{Marked}
use Rattle.aea_view.proofs.Packed.{bits-length, bits-set}
use Rattle.aea_view.proofs.marks.Marks.set.Goals as goal

pub returns-clause-marks : goal.returns-clause-marks
returns-clause-marks c =
    let l = c.self.inside.lattice in
    let words = c.self.inside.words.items in
    let k = c.number-k.result in
    let below : k < blocks_count l = c.number-k.ensures.below in
    let within : k / 64 < length words = (let long = c.self.invariant in omega arith) in
    let read : c.index_mut-word.result.now ≡ get_or words (k / 64) 0 =
    c.index_mut-word.ensures.value ∙ get_or_default words (k / 64) c.index_mut-word.result.now 0 within in
    let written = bits-set (blocks_count l) words k c.with_bit.result c.args.value below within c.with_bit.ensures.here
    (λ j less other. c.with_bit.ensures.others j less other ∙ ap (λ x. has_bit x j) read) in
    let seen : bits_of (blocks_count l) (set words (k / 64) c.with_bit.result) ≡ set (bits_of (blocks_count l) words) (number_of l c.args.b) c.args.value =
    written ∙ ap (λ x. set (bits_of (blocks_count l) words) x c.args.value) c.number-k.ensures.value in
    subst (λ (m : Marked). bits_of (blocks_count l) (set words (k / 64) c.with_bit.result) ≡ set m.marks (number_of m.lattice c.args.b) c.args.value) c.self.view_is seen

pub returns-clause-whole : goal.returns-clause-whole
returns-clause-whole c = bits-length (blocks_count c.self.inside.lattice) (set c.self.inside.words.items (c.number-k.result / 64) c.with_bit.result)
