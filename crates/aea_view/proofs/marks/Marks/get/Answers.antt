use Rattle.std.proofs.Common.{◌≡◌, ◌/◌, ◌%◌, ◌<◌, false, length, get_or, sym, ◌∙◌, ap, subst, arith}
use Rattle.std.proofs.lemmas.List.{get_or_default}
use Rattle.aea_lattice.specs.Blocks.{blocks_count, number_of}
use Rattle.aea_view.specs.Bits.{has_bit, is_bit, bits_of}
use Rattle.aea_view.specs.Marked.{is_marked}
use Rattle.aea_view.proofs.Packed.{bits-get}
use Rattle.aea_view.proofs.marks.Marks.get.Goals as goal

pub returns : goal.returns
returns c =
    let l = c.self.inside.lattice in
    let words = c.self.inside.words.items in
    let k = c.number-k.result in
    let below : k < blocks_count l = c.number-k.ensures.below in
    let within : k / 64 < length words = (let long = c.self.invariant in omega arith) in
    let read : c.bit.result ≡ is_bit words k =
    c.bit.ensures ∙ ap (λ x. has_bit x (k % 64)) (c.index.ensures ∙ get_or_default words (k / 64) c.index.result.now 0 within) in
    let here : c.bit.result ≡ get_or (bits_of (blocks_count l) words) (number_of l c.args.b) false =
    read ∙ sym (bits-get (blocks_count l) words k false below) ∙ ap (λ x. get_or (bits_of (blocks_count l) words) x false) c.number-k.ensures.value in
    subst (λ m. c.bit.result ≡ is_marked m c.args.b) c.self.view_is here
