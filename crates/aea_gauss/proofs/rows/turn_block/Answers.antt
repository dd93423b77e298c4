use Rattle.std.proofs.Common.{◌==◌, false}
use Rattle.aea_gauss.specs.Fills.{stands}
use Rattle.aea_gauss.proofs.Turning.{turns_none, turns_same, stands_some, stands_none}
use Rattle.aea_gauss.proofs.rows.turn_block.Goals as goal

pub returns-in-Some : goal.returns-in-Some
returns-in-Some c =
    turns_same c.args.begin c.args.wide (λ k. k == c.in-Some.column) (stands c.args.blocks.now c.args.b) c.args.words.now c.turn.new.words
    (λ k less. stands_some c.args.lattice.now c.args.blocks.now c.requires.listed c.args.b c.in-Some.column c.in-Some.ensures.0 c.in-Some.ensures.1 k)
    c.turn.ensures

pub returns-in-None : goal.returns-in-None
returns-in-None c =
    turns_same c.args.begin c.args.wide (λ k. false) (stands c.args.blocks.now c.args.b) c.args.words.now c.args.words.now
    (λ k less. stands_none c.args.lattice.now c.args.blocks.now c.requires.listed c.args.b c.in-None.ensures k)
    (turns_none c.args.words.now c.args.begin c.args.wide)
