use Rattle.std.proofs.Common.{◌≡◌, length, sym, ◌∙◌, ap}
use Rattle.aea_weave.specs.Stored.{all_strands}
use Rattle.aea_weave.proofs.Pieces.{block-within}
use Rattle.aea_weave.proofs.heads.Heads.add.Goals as goal

pub xor_at-requires-clause-within : goal.xor_at-requires-clause-within
xor_at-requires-clause-within c =
    let wide : length c.args.payload.now ≡ c.self.inside.size = c.requires.payload ∙ sym (ap (λ v. v.size) c.self.view_is) in
    rw (wide, c.as_mut_slice.ensures.value, c.self.invariant.long) (block-within c.self.inside.size (all_strands c.self.inside.lattice) c.place-place.result c.place-place.ensures.within)
