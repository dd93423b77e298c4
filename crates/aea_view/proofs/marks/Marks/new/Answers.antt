use Rattle.std.proofs.Common.{◌≡◌, replicate, rules, ◌∙◌, ap}
use Rattle.aea_lattice.specs.Blocks.{blocks_count}
use Rattle.aea_view.specs.Bits.{bits_of}
use Rattle.aea_view.proofs.Packed.{bits-length, bits-zero}
use Rattle.aea_view.proofs.marks.Marks.new.Goals as goal

pub returns-clause-marks : goal.returns-clause-marks
returns-clause-marks c =
    let n = blocks_count c.args.lattice.now in
    let zeros : c.in_ok-words.words.items ≡ replicate c.div_ceil-count.result 0 = search rules in
    ap (bits_of n) zeros ∙ bits-zero n c.div_ceil-count.result

pub returns-clause-whole : goal.returns-clause-whole
returns-clause-whole c = bits-length (blocks_count c.args.lattice.now) c.in_ok-words.words.items
