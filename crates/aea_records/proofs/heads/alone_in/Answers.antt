use Rattle.std.proofs.Common.{◌+◌, Ok, sym, ap, ◌∙◌}
use Rattle.std.proofs.lemmas.Result.{err_from_is_err_and}
use Rattle.aea_records.specs.Tables.{bytes_at}
use Rattle.aea_records.specs.Fields.{ObjectHead, stored_with, object_fields}
use Rattle.aea_records.specs.Reads.{known_in, stored_at, object_end}
use Rattle.aea_records.specs.declared.heads.ObjectFields.{ObjectFields}
use Rattle.std.proofs.Common.{refl}
use Rattle.aea_records.proofs.Steps.{to_object, no_object, bad_object}
use Rattle.aea_records.proofs.heads.alone_in.Goals as goal

pub returns-in_err-front-clause-judged : goal.returns-in_err-front-clause-judged
returns-in_err-front-clause-judged c =
    let p = err_from_is_err_and c.from_residual.result c.from_residual.ensures.1 in
    rw (p.1, p.2) (λ fences bytes. c.in_err-front.ensures.judged fences c.args.raised (object_fields c.args.shape.now (known_in c.args.catalog.now.objects c.args.nodes fences c.args.raised) bytes))

pub returns-in_err-count-clause-judged : goal.returns-in_err-count-clause-judged
returns-in_err-count-clause-judged c =
    let p = err_from_is_err_and c.from_residual-in_err-count.result c.from_residual-in_err-count.ensures.1 in
    rw (p.1, p.2, c.in_err-count.ensures.place)
    (λ fences bytes. c.in_ok-front.ensures.judged fences c.args.raised (object_fields c.args.shape.now (known_in c.args.catalog.now.objects c.args.nodes fences c.args.raised) bytes)
    ∙ no_object c.args.shape.now (known_in c.args.catalog.now.objects c.args.nodes fences c.args.raised) bytes (stored_with (bytes_at c.in_ok-front.front.long 8 c.args.window.now) c.in_ok-front.front.size c.in_ok-front.front.digest c.in_ok-front.front.first) c.args.window.now (8 + c.in_ok-front.front.long + 8 + 32 + 4) c.in_err-count.ensures.none)

pub returns-then-not-is_count-clause-judged : goal.returns-then-not-is_count-clause-judged
returns-then-not-is_count-clause-judged c = λ fences bytes.
    c.in_ok-front.ensures.judged fences c.args.raised (object_fields c.args.shape.now (known_in c.args.catalog.now.objects c.args.nodes fences c.args.raised) bytes)
    ∙ bad_object c.args.shape.now (known_in c.args.catalog.now.objects c.args.nodes fences c.args.raised) bytes (stored_with (bytes_at c.in_ok-front.front.long 8 c.args.window.now) c.in_ok-front.front.size c.in_ok-front.front.digest c.in_ok-front.front.first) c.args.window.now (8 + c.in_ok-front.front.long + 8 + 32 + 4) c.in_ok-count.count c.in_ok-count.ensures.value
    (sym (c.is_count.ensures.value (known_in c.args.catalog.now.objects c.args.nodes fences c.args.raised) refl refl) ∙ c.if-not-is_count.true)

pub returns-clause-judged : goal.returns-clause-judged
returns-clause-judged c = λ fences bytes.
    c.in_ok-front.ensures.judged fences c.args.raised (object_fields c.args.shape.now (known_in c.args.catalog.now.objects c.args.nodes fences c.args.raised) bytes)
    ∙ to_object c.args.shape.now (known_in c.args.catalog.now.objects c.args.nodes fences c.args.raised) bytes (stored_with (bytes_at c.in_ok-front.front.long 8 c.args.window.now) c.in_ok-front.front.size c.in_ok-front.front.digest c.in_ok-front.front.first) c.args.window.now (8 + c.in_ok-front.front.long + 8 + 32 + 4) c.in_ok-count.count c.in_ok-count.ensures.there c.in_ok-count.ensures.value
    (sym (c.is_count.ensures.value (known_in c.args.catalog.now.objects c.args.nodes fences c.args.raised) refl refl) ∙ c.if-not-is_count.false)
    ∙ ap (λ (o : ObjectFields). Ok ((bytes, ObjectHead (stored_at c.args.window.now o)), object_end o)) (sym c.with_count.ensures)
