use Rattle.std.proofs.Common.{[]}
use Rattle.aea_copy_reader.proofs.Turns.{read_first}
use Rattle.aea_copy_reader.proofs.judge.judge_one.Goals as goal

pub walk-requires-clause-read : goal.walk-requires-clause-read
walk-requires-clause-read g c = λ reveals.
    let b = c.beginning.ensures in
    ([], read_first ((g.D.Disk.state c.args.disk.now).files 0) ((g.D.Disk.state c.args.disk.now).files c.args.file) [] c.beginning.result (c.requires.begun reveals) b.place.0 b.place.1 b.none.0 b.none.1 b.none.2)
