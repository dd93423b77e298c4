use Rattle.std.proofs.Common.{map, string_bytes}
use Rattle.aea_dispatch.specs.Words.{AreNoPlain, AreNoCommand}
use Rattle.aea_dispatch.proofs.Commands.{no_command, if_none_weaker}
use Rattle.aea_dispatch.proofs.command.command_of.Goals as goal

pub returns-clause-none : goal.returns-clause-none
returns-clause-none c =
    let words = map string_bytes c.args.words.now in
    if_none_weaker c.plain_command.result (AreNoPlain words) (AreNoCommand words)
    (no_command words c.in_default.ensures.none c.in_default-parse_create.ensures.none c.in_default-parse_rehearse.ensures.none (rw c.in_default-2.is at c.in_ok-command.ensures.none))
    c.plain_command.ensures.none
