use Rattle.std.proofs.Common.{◌≡◌, ◌+◌, ◌*◌, [], get_or, replicate, ◌∙◌, ap}
use Rattle.aea_weave.specs.Woven.{strands_before}
use Rattle.aea_weave.specs.Stored.{pieces, all_strands}
use Rattle.aea_weave.proofs.Pieces.{pieces-zeros}
use Rattle.aea_weave.proofs.Places.{place-within}
use Rattle.aea_weave.proofs.Weaving.{sums-anew}
use Rattle.aea_weave.proofs.heads.Heads.new.Goals as goal

pub returns-clause-zeros : goal.returns-clause-zeros
returns-clause-zeros c = λ class strand parity below.
    let l = c.args.lattice.now in
    let w = c.args.size in
    let n = all_strands l in
    let zeros : c.in_ok-bytes.bytes.items ≡ replicate (n * w) 0 =
    c.in_ok-bytes.ensures.items_if_clones_equal (λ y e. e) ∙ ap (λ k. replicate (k * w) 0) c.all_strands.ensures.count in
    ap (λ bytes. get_or (pieces w n bytes) (strands_before l class + strand) []) zeros
    ∙ pieces-zeros w n (strands_before l class + strand) (place-within l class strand parity below)

pub returns-clause-anew : goal.returns-clause-anew
returns-clause-anew c = λ at datas is.
    sums-anew (record { lattice = c.args.lattice.now; size = c.args.size; heads = pieces c.args.size (all_strands c.args.lattice.now) c.in_ok-bytes.bytes.items })
    datas at is (returns-clause-zeros c)
