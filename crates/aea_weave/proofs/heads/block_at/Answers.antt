use Rattle.std.proofs.Common.{◌≡◌, ◌+◌, ◌-◌, ◌*◌, take, drop, length, refl, sym, ◌∙◌, ap, arith}
use Rattle.aea_weave.proofs.Pieces.{pieces-get, length-block}
use Rattle.aea_weave.proofs.heads.block_at.Goals as goal

pub returns : goal.returns
returns c =
    let w = c.args.size in
    let a = c.args.place * w in
    let blocks = c.args.blocks.now in
    let width : a + w - a ≡ w = omega arith in
    record {
      block = λ n inside. ap (λ e. take e (drop a blocks)) width ∙ sym (pieces-get w n c.args.place a blocks refl inside);
      wide = ap (λ e. length (take e (drop a blocks))) width ∙ length-block w a blocks c.requires.within;
    }
