use Rattle.std.proofs.Common.{◌≡◌, ℕ, ◌<◌, ◌≤◌, ◌*◌, not, map, length, List, subst, arith}
use Rattle.aea_lattice.specs.Blocks.{blocks_count}
use Rattle.aea_view.specs.Bits.{is_bit, bits_of}
use Rattle.aea_view.specs.Marked.{Marked}
use Rattle.aea_view.proofs.Packed.{bits-length, bits-flipped}
use Rattle.aea_view.proofs.marks.Marks.complement.Goals as goal

pub returns-clause-marks : goal.returns-clause-marks
returns-clause-marks c =
    let n = blocks_count c.self.inside.lattice in
    let words = c.self.inside.words.items in
    let flipped = c.in_ok-words.words.items in
    let room : n ≤ 64 * length words = (let long = c.self.invariant in omega arith) in
    let are : (k : ℕ) → k < 64 * length words → is_bit flipped k ≡ not (is_bit words k) =
    subst (λ (ws : List ℕ). (k : ℕ) → k < 64 * length ws → is_bit flipped k ≡ not (is_bit ws k)) c.as_slice.ensures.value c.in_ok-words.ensures.flipped in
    subst (λ (m : Marked). bits_of n flipped ≡ map not m.marks) c.self.view_is (bits-flipped n words flipped room are)

pub returns-clause-whole : goal.returns-clause-whole
returns-clause-whole c = bits-length (blocks_count c.self.inside.lattice) c.in_ok-words.words.items
