use Rattle.std.proofs.Common.{◌≡◌, ◌+◌, false, sym, ap, ◌∙◌}
use Rattle.aea_records.specs.Tables.{has, bytes_at}
use Rattle.aea_records.specs.Fields.{is_new_name}
use Rattle.aea_records.specs.Reads.{known_in}
use Rattle.aea_records.proofs.Steps.{none_of}
use Rattle.aea_records.proofs.fields.name_in.Goals as goal

pub returns-then-not-is_new-clause-bad : goal.returns-then-not-is_new-clause-bad
returns-then-not-is_new-clause-bad c = λ nodes fences raised.
    let same = ap (is_new_name (known_in c.args.catalog.now.objects nodes fences raised)) c.in_ok-name.ensures.bytes in
    let test : is_new_name (known_in c.args.catalog.now.objects nodes fences raised) (bytes_at c.args.long 8 c.args.window.now) ≡ false = sym same ∙ sym (c.is_new.ensures nodes fences raised) ∙ c.if-not-is_new.true in
    none_of (has c.args.window.now (8 + c.args.long)) (is_new_name (known_in c.args.catalog.now.objects nodes fences raised) (bytes_at c.args.long 8 c.args.window.now)) test

pub returns-clause-good : goal.returns-clause-good
returns-clause-good c = λ nodes fences raised.
    sym (ap (is_new_name (known_in c.args.catalog.now.objects nodes fences raised)) c.in_ok-name.ensures.bytes) ∙ sym (c.is_new.ensures nodes fences raised) ∙ c.if-not-is_new.false
