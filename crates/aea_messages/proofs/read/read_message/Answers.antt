use Rattle.std.proofs.Common.{subst}
use Rattle.aea_messages.specs.declared.fault.MessageFault.{MessageFault}
use Rattle.aea_messages.specs.Fields.{Lacks}
use Rattle.aea_messages.proofs.Taken.{message_err, message_unread}
use Rattle.aea_messages.proofs.read.read_message.Goals as goal

pub returns-in-Err-read_kind-clause-reads : goal.returns-in-Err-read_kind-clause-reads
returns-in-Err-read_kind-clause-reads g c =
    message_err (g.S.Source.state c.args.source.now).left (g.S.Source.state c.take_byte.new.source).left (g.S.Source.state c.read_kind.new.source).left
    c.args.at.now c.take_byte.new.at c.read_kind.new.at c.in-Ok.kind c.in-Err-read_kind.fault c.in-Ok.ensures.reads c.in-Err-read_kind.ensures.reads

pub returns-in-Err-ReadFault-clause-reads : goal.returns-in-Err-ReadFault-clause-reads
returns-in-Err-ReadFault-clause-reads g c =
    message_unread (g.S.Source.state c.args.source.now).left (g.S.Source.state c.take_byte.new.source).left c.args.at.now c.take_byte.new.at
    (subst (λ (f : MessageFault). Lacks (g.S.Source.state c.args.source.now).left (g.S.Source.state c.take_byte.new.source).left c.args.at.now c.take_byte.new.at 1 f) c.in-Err-ReadFault.field-0-is c.in-Err-ReadFault.ensures.reads)
