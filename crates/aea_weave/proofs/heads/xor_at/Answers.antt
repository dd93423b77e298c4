use Rattle.std.proofs.Common.{◌≡◌, ◌+◌, ◌-◌, ◌*◌, ◌<◌, take, drop, length, refl, sym, ◌∙◌, ap, arith}
use Rattle.std.proofs.Math.ListN.{set}
use borrow.Rule.Slice.PartMut.{put_mid}
use Rattle.aea_lattice.specs.Data.{xor_bytes}
use Rattle.aea_weave.specs.Stored.{pieces}
use Rattle.aea_weave.proofs.Pieces.{pieces-put, pieces-get, place-below, length-block}
use Rattle.aea_weave.proofs.heads.xor_at.Goals as goal

pub returns : goal.returns
returns c = λ n long.
    let w = length c.args.block.now in
    let k = c.args.place in
    let a = k * w in
    let blocks = c.args.blocks.now in
    let inside : k < n = place-below w n k c.requires.some (rw (← long) c.requires.within) in
    let width : a + w - a ≡ w = omega arith in
    let old : take (a + w - a) (drop a blocks) ≡ take w (drop a blocks) = ap (λ e. take e (drop a blocks)) width in
    let wide : length c.xor_into.new.dst ≡ w = c.xor_into.auto.dst ∙ ap length old ∙ length-block w a blocks c.requires.within in
    ap (λ e. pieces w n (put_mid a e blocks c.xor_into.new.dst)) width
    ∙ pieces-put w n k a blocks c.xor_into.new.dst refl long inside wide
    ∙ ap (set (pieces w n blocks) k)
    (c.xor_into.ensures ∙ ap (λ v. xor_bytes v c.args.block.now) (old ∙ sym (pieces-get w n k a blocks refl inside)))
