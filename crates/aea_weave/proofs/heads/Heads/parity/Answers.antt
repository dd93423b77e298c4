use Rattle.std.proofs.Common.{◌≡◌, ◌∙◌, length, subst}
use Rattle.aea_lattice.specs.Strands.{strand_of}
use Rattle.aea_weave.specs.Woven.{head_of}
use Rattle.aea_weave.specs.Stored.{all_strands}
use Rattle.aea_weave.proofs.Pieces.{block-within}
use Rattle.aea_weave.proofs.Weaving.{parity-value}
use Rattle.aea_weave.proofs.heads.Heads.parity.Goals as goal

pub block_at-requires : goal.block_at-requires
block_at-requires c = record {
  within =
      rw (c.as_slice.ensures.value, c.self.invariant.long) (block-within c.self.inside.size (all_strands c.self.inside.lattice) c.place-place.result c.place-place.ensures.within);
}

pub returns : goal.returns
returns c =
    let at = rw (c.as_slice.ensures.value, c.place-place.ensures.place, c.strand-strand.ensures) at (c.block_at.ensures.block (all_strands c.self.inside.lattice) c.place-place.ensures.within) in
    let head : c.block_at.result.now ≡ head_of c.args.self.now c.args.class (strand_of c.args.self.now.lattice c.args.class c.args.self.now.lattice.n) =
    subst (λ v. c.block_at.result.now ≡ head_of v c.args.class (strand_of v.lattice c.args.class v.lattice.n)) c.self.view_is at in
    record {
      head = head;
      wide = subst (λ v. length c.block_at.result.now ≡ v.size) c.self.view_is c.block_at.ensures.wide;
      value = λ after datas sums. head ∙ parity-value c.args.self.now datas c.args.class c.requires.class after sums;
    }
