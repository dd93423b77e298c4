use Rattle.std.proofs.Common.{◌≡◌, ◌+◌, ◌-◌, ◌*◌, ◌<◌, length, refl, ◌∙◌, ap, arith}
use Rattle.std.proofs.Math.ListN.{set}
use borrow.Rule.Slice.PartMut.{put_mid}
use Rattle.aea_weave.specs.Stored.{pieces}
use Rattle.aea_weave.proofs.Pieces.{pieces-put, place-below}
use Rattle.aea_weave.proofs.heads.write_at.Goals as goal

pub returns : goal.returns
returns c = λ n long.
    let w = length c.args.block.now in
    let k = c.args.place in
    let a = k * w in
    let blocks = c.args.blocks.now in
    let inside : k < n = place-below w n k c.requires.some (rw (← long) c.requires.within) in
    let width : a + w - a ≡ w = omega arith in
    ap (λ e. pieces w n (put_mid a e blocks c.copy_from_slice.new.self)) width
    ∙ pieces-put w n k a blocks c.copy_from_slice.new.self refl long inside (ap length c.copy_from_slice.ensures.after)
    ∙ ap (set (pieces w n blocks) k) c.copy_from_slice.ensures.after
