use Rattle.std.proofs.Common.{ℕ, ◌+◌, ◌-◌, ◌*◌, sym, ◌∙◌, ap, subst}
use Rattle.std.specs.Prelude.{All}
use Rattle.std.specs.FinMap.{get}
use Rattle.aea_catalog.specs.Catalogs.{Objects}
use Rattle.aea_lattice.specs.declared.grid.Lattice.{Lattice}
use Rattle.aea_lattice.specs.Blocks.{HasBlock, class_number}
use Rattle.aea_fetch.proofs.Blocks.{under_inside}
use Rattle.aea_fetch.proofs.Firsts.{all_at}
use Rattle.aea_session.proofs.read.data_number.Goals as goal

pub number-requires : goal.number-requires
number-requires c =
    let v = c.args.ledger.now in
    let name = c.args.name.now in
    let b = c.args.block in
    let among = c.requires in
    let all = under_inside v.lattice (get v.objects name) (λ p is. (c.catalog-catalog.ensures.within name p (ap (λ (m : Objects). get m name) c.catalog-catalog.ensures.objects ∙ is)).apart) in
    subst (λ (l : Lattice). HasBlock l b) (sym c.lattice.ensures.value)
    (all_at (HasBlock v.lattice) among.before among.after b (subst (All (HasBlock v.lattice)) among.are all))

pub returns : goal.returns
returns c =
    let b = c.args.block in
    c.number.ensures.value ∙ ap (λ (k : ℕ). (b.node - 1) * (1 + k) + class_number b.class) c.lattice.ensures.of_shape.alpha
