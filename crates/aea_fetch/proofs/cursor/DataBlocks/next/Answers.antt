use Rattle.std.proofs.Common.{◌++◌, List, drop, sym, ◌∙◌, ap}
use Rattle.std.specs.FinMap.{get}
use Rattle.aea_lattice.specs.declared.blocks.BlockId.{BlockId}
use Rattle.aea_archive.specs.Objects.{data_of, parts_under}
use Rattle.aea_fetch.proofs.Blocks.{data_from_one}
use Rattle.aea_fetch.proofs.cursor.DataBlocks.next.Goals as goal

pub returns : goal.returns
returns c =
    let part = c.in_ok-part.part in
    let rest = data_of (drop c.in_ok-part.place (parts_under (get c.self.inside.ledger.now.objects c.self.inside.name.now))) in
    sym c.self.view_is ∙ c.in_ok-part.ensures.left ∙ ap (λ (bs : List BlockId). bs ++ rest) (data_from_one part.first part.count c.in_ok-part.ensures.some)
