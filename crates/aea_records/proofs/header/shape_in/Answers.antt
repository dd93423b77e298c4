use Rattle.std.proofs.Common.{◌<◌, ◌^◌, arith}
use Rattle.std.proofs.lemmas.List.Elements.{All-from_get_or}
use Rattle.aea_records.proofs.Headers.{header_read, bad_header}
use Rattle.aea_records.proofs.header.shape_in.Goals as goal

pub returns-in-Ok-clause-header : goal.returns-in-Ok-clause-header
returns-in-Ok-clause-header c =
    let e = c.in-Ok.ensures in
    header_read c.args.window.now c.in-Ok.shape (omega (arith, c.requires.long)) c.requires.gate (All-from_get_or (λ b. b < 2 ^ 8) c.args.window.now 0 (λ i _. omega (arith, c.type_inv.window i))) e.good e.alpha e.s e.p e.sites e.block

pub returns-in-Err-clause-bad : goal.returns-in-Err-clause-bad
returns-in-Err-clause-bad c = λ file is. bad_header c.args.window.now file c.in-Err.at (omega (arith, c.requires.long)) c.requires.gate c.in-Err.ensures.bad is
