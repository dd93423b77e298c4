use Rattle.aea_ledger.proofs.Joining.{closed_front}
use Rattle.aea_ledger.proofs.entry.joined.Goals as goal

pub returns : goal.returns
returns c =
    closed_front 512 c.args.front.now c.args.rest.now c.copy_from_slice.new.self c.copy_from_slice-2.new.self c.split_at_mut-before.result.1.now
    c.copy_from_slice.ensures.after c.copy_from_slice-2.ensures.after c.split_at_mut-before.ensures.back c.requires
