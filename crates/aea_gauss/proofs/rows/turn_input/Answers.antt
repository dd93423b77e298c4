use Rattle.std.proofs.Common.{MatchOption, false, sym, subst}
use Rattle.aea_gauss.specs.Fills.{Turns, stands}
use Rattle.aea_gauss.proofs.Turning.{turns_none}
use Rattle.aea_gauss.proofs.rows.turn_input.Goals as goal

pub returns-in-None : goal.returns-in-None
returns-in-None c =
    subst
    (λ q. MatchOption q (Turns c.args.begin c.args.wide (λ k. false) c.args.words.now c.args.words.now)
    (λ g. Turns c.args.begin c.args.wide (stands c.args.blocks.now g) c.args.words.now c.args.words.now))
    (sym c.in-None.is) (turns_none c.args.words.now c.args.begin c.args.wide)

pub turn_block-requires-clause-block : goal.turn_block-requires-clause-block
turn_block-requires-clause-block c = c.requires.block c.in-Some.g c.in-Some.is
