use Rattle.aea_gauss.proofs.rows.turn.Goals as goal
use Rattle.aea_gauss.proofs.Turning.{turns_bit}

pub returns : goal.returns
returns c = turns_bit c.args.words.now c.args.begin c.args.wide c.args.column c.requires.inside c.requires.column
