-- An upload that is closed, as a ledger takes it.
use Rattle.std.proofs.Common.{ℕ, ◌+◌, List, ◌++◌, length, sym, ◌∙◌, ap, subst}
use Rattle.std.specs.Prelude.{IsTrue}
use Rattle.std.specs.List.{flat_map}
use Rattle.aea_catalog.specs.declared.objects.Extent.{Extent}
use Rattle.aea_lattice.specs.Growth.{IsGrown}
use Rattle.aea_records.specs.Fields.{are_parts}
use Rattle.aea_records.specs.Recorded.{blocks_in}
use Rattle.aea_uploads.specs.Laws.{RunsAreParts, ClosedAreParts, ClosedAreNext}
use Rattle.aea_uploads.proofs.Filled.{closed-count}
use Rattle.aea_uploads.proofs.Parts.{runs-parts, runs-blocks}

pub runs-are-parts : RunsAreParts
runs-are-parts shape size datas nodes rise count = (runs-parts shape size (length datas) nodes rise count, runs-blocks 0 nodes datas rise)

pub closed-parts : ClosedAreParts
closed-parts shape datas u nodes zeros t wide few c =
    subst (λ (n : ℕ). IsTrue (are_parts shape n (length datas) t.parts.items)) (sym c.long)
    (subst (λ (l : List Extent). IsTrue (are_parts shape (length u.bytes) (length datas) l)) (sym c.parts)
    (runs-parts shape (length u.bytes) (length datas) nodes c.rise (sym (closed-count shape datas u nodes zeros t wide few c))))

pub closed-next : ClosedAreNext
closed-next shape l v datas woven u nodes zeros t o w c name size digest first count = record {
  next = record {
    name_is = name ∙ c.name;
    size = size ∙ c.long;
    digest = digest;
    first = first;
    grown = subst (λ (n : ℕ). IsGrown l (l.n + n) v.lattice) (sym count) w.grown;
    digests = w.digests_are;
  };
  count = count;
  zeros = zeros;
  blocks = ap (λ (p : List Extent). flat_map (λ (d : List ℕ). d) (blocks_in p (datas ++ woven))) c.parts
      ∙ ap (flat_map (λ (d : List ℕ). d)) (runs-blocks 0 nodes (datas ++ woven) c.rise)
      ∙ c.blocks;
}
