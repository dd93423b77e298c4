use Rattle.std.proofs.Common.{◌≡◌, ◌++◌, ◌∙◌, ap, length, List, ℕ, arith}
use Rattle.std.specs.List.{flat_map}
use Rattle.aea_records.specs.Objects.{stored_as}
use Rattle.aea_records.proofs.ObjectBodies.{joined_is}
use Rattle.aea_records.proofs.bodies.joined_front.Goals as goal

pub returns : goal.returns
returns c =
    let long : length c.as_flattened.result.now ≡ length (flat_map (λ (d : List ℕ). d) c.args.digests.now) = ap length c.as_flattened.ensures.value in
    joined_is (stored_as c.args.name.now c.args.object.now c.args.digests.now) c.args.parts.now c.in_ok-body.body.items c.extend.new.bytes.items c.extend_parts.new.bytes.items _ c.in_ok-body.ensures.digest
    (omega (arith, long, c.as_flattened.ensures.len)) c.in_ok-body.ensures.items (c.in_ok-extend.ensures.items ∙ ap (λ (l : List ℕ). c.in_ok-body.body.items ++ l) c.to_be_bytes.ensures) c.in_ok-extend_parts.ensures
