use Rattle.std.proofs.Common.{◌≡◌, ◌+◌, true, false, not, cond, count_by, sym, ◌∙◌, ap, arith}
use Rattle.aea_view.specs.Bits.{is_bit, bits_of}
use Rattle.aea_view.proofs.Packed.{bits-more}
use Rattle.aea_view.proofs.words.count_clear.Goals as goal
use Rattle.aea_view.proofs.words.count_clear.Goals.{then-not-bit, else-not-bit}

pub loop-k-preserved : goal.loop-k-preserved
loop-k-preserved c =
    let words = c.args.words.now in
    let k = c.loop-k.k in
    let more = bits-more k words in
    let before = c.loop-k.invariant.counted in
    elim c.if-not-bit.branch [
      | then-not-bit w ↦
          (let clear : is_bit words k ≡ false = sym c.bit.ensures ∙ w.if-not-bit.true in
          let sum : count_by not (bits_of (k + 1) words) ≡ count_by not (bits_of k words) + 1 = more ∙ ap (λ b. count_by not (bits_of k words) + cond b 0 1) clear in
          record { counted = omega arith; few = omega arith })
      | else-not-bit w ↦
          (let marked : is_bit words k ≡ true = sym c.bit.ensures ∙ w.if-not-bit.false in
          let sum : count_by not (bits_of (k + 1) words) ≡ count_by not (bits_of k words) + 0 = more ∙ ap (λ b. count_by not (bits_of k words) + cond b 0 1) marked in
          record { counted = omega arith; few = omega arith })
    ]
