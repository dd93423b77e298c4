use Rattle.std.proofs.Common.{◌≡◌, ◌*◌, length, sym, ◌∙◌, ap, subst}
use Rattle.std.proofs.lemmas.List.{with_items_is}
use Rattle.std.specs.Vec.{with_items}
use Rattle.aea_lattice.specs.Blocks.{HasParity}
use Rattle.aea_lattice.specs.Ends.{strands_of}
use Rattle.aea_weave.specs.Woven.{Woven, Sets}
use Rattle.aea_weave.specs.Stored.{pieces, all_strands}
use Rattle.aea_weave.proofs.Pieces.{block-within, length-pieces}
use Rattle.aea_weave.proofs.Places.{sets}
use Rattle.aea_weave.proofs.heads.Heads.set_head.Goals as goal

pub write_at-requires-clause-within : goal.write_at-requires-clause-within
write_at-requires-clause-within c =
    let wide : length c.args.payload.now ≡ c.self.inside.size = c.requires.payload ∙ sym (ap (λ v. v.size) c.self.view_is) in
    rw (wide, c.as_mut_slice.ensures.value, c.self.invariant.long) (block-within c.self.inside.size (all_strands c.self.inside.lattice) c.place-place.result c.place-place.ensures.within)

pub returns : goal.returns
returns c =
    let l = c.self.inside.lattice in
    let n = all_strands l in
    let old = c.self.inside.bytes.items in
    let x = c.args.payload.now in
    let wide : length x ≡ c.self.inside.size = c.requires.payload ∙ sym (ap (λ v. v.size) c.self.view_is) in
    let long : length c.as_mut_slice.result.now ≡ n * length x =
    ap length c.as_mut_slice.ensures.value ∙ c.self.invariant.long ∙ ap (λ w. n * w) (sym wide) in
    let written = rw (wide, c.as_mut_slice.ensures.value, c.place-place.ensures.place) at (c.write_at.ensures n long) in
    let kept = with_items_is c.self.inside.bytes c.write_at.new.blocks (c.write_at.auto.blocks ∙ c.as_mut_slice.ensures.len) in
    let blocks = (with_items c.self.inside.bytes c.write_at.new.blocks).items in
    let new : Woven = record { lattice = l; size = c.self.inside.size; heads = pieces c.self.inside.size n blocks } in
    subst (λ v. Sets v new c.args.class c.args.strand x) c.self.view_is
    (sets l c.self.inside.size (pieces c.self.inside.size n old) (pieces c.self.inside.size n blocks) c.args.class c.args.strand x
    (ap (pieces c.self.inside.size n) kept ∙ written) (length-pieces c.self.inside.size n old)
    (subst (λ v. HasParity v.lattice c.args.class) (sym c.self.view_is) c.requires.class)
    (rw (ap (λ v. strands_of v.lattice c.args.class) c.self.view_is) c.requires.strand))
