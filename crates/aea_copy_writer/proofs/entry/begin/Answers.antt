use Rattle.std.proofs.Common.{◌-◌, length, drop, ap, ◌∙◌}
use Rattle.std.proofs.lemmas.List.{take_at}
use Rattle.aea_copy_writer.proofs.entry.begin.Goals as goal

pub returns-clause-number : goal.returns-clause-number
returns-clause-number c =
    let is = c.copy_from_slice.ensures.after ∙ c.to_be_bytes-number.ensures in
    take_at c.copy_from_slice.new.self (drop 4 c.args.buffer.now) 4 (ap length is) ∙ is
