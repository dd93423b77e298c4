use Rattle.std.proofs.Common.{not, ap}
use Rattle.std.proofs.lemmas.List.Elements.{All-contains}
use Rattle.aea_lattice.specs.declared.blocks.BlockId.{BlockId}
use Rattle.aea_view.specs.Marked.{is_marked}
use Rattle.aea_gauss.specs.Fates.{IsFate}
use Rattle.aea_explain.proofs.Fated.{fate_stands}
use Rattle.aea_explain.proofs.fate.fate_of.Goals as goal

pub take_fate-requires : goal.take_fate-requires
take_fate-requires c =
    fate_stands c.passing_are_among.ensures c.args.lattice.now (λ (b : BlockId). not (is_marked c.args.search.now.unknown b)) c.in_ok-fates.fates c.args.block
    c.in_ok-fates.ensures.unknown c.requires.block (ap not c.requires.unknown)

pub returns-clause-fate : goal.returns-clause-fate
returns-clause-fate c known right =
    All-contains (IsFate c.args.lattice.now known) c.in_ok-fates.fates c.in_ok-fate.fate (c.in_ok-fates.ensures.known c.requires.done known right) c.in_ok-fate.ensures.listed
