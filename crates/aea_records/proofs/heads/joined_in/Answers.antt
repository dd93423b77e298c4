use Rattle.std.proofs.Common.{◌+◌, Ok, arith, sym, ap, ◌∙◌}
use Rattle.std.proofs.lemmas.Result.{err_from_is_err_and}
use Rattle.aea_records.specs.Tables.{bytes_at}
use Rattle.aea_records.specs.Fields.{JoinedHead, stored_with, joined_fields}
use Rattle.aea_records.specs.Reads.{known_in, stored_at, object_end}
use Rattle.aea_records.specs.declared.heads.ObjectFields.{ObjectFields}
use Rattle.std.proofs.lemmas.Bool.{le-leb}
use Rattle.std.proofs.Common.{refl}
use Rattle.aea_records.proofs.Steps.{lt-leb, to_count, no_count, bad_count, to_parts, no_parts, bad_parts}
use Rattle.aea_records.proofs.heads.joined_in.Goals as goal

pub returns-in_err-front-clause-judged : goal.returns-in_err-front-clause-judged
returns-in_err-front-clause-judged c =
    let p = err_from_is_err_and c.from_residual.result c.from_residual.ensures.1 in
    rw (p.1, p.2) (λ fences bytes. c.in_err-front.ensures.judged fences c.args.raised (joined_fields (known_in c.args.catalog.now.objects c.args.nodes fences c.args.raised) bytes))

pub returns-in_err-count-clause-judged : goal.returns-in_err-count-clause-judged
returns-in_err-count-clause-judged c =
    let p = err_from_is_err_and c.from_residual-in_err-count.result c.from_residual-in_err-count.ensures.1 in
    rw (p.1, p.2, c.in_err-count.ensures.place)
    (λ fences bytes. c.in_ok-front.ensures.judged fences c.args.raised (joined_fields (known_in c.args.catalog.now.objects c.args.nodes fences c.args.raised) bytes)
    ∙ no_count (known_in c.args.catalog.now.objects c.args.nodes fences c.args.raised) bytes (stored_with (bytes_at c.in_ok-front.front.long 8 c.args.window.now) c.in_ok-front.front.size c.in_ok-front.front.digest c.in_ok-front.front.first) c.args.window.now (8 + c.in_ok-front.front.long + 8 + 32 + 4) c.in_err-count.ensures.none)

pub returns-then-not-is_within-clause-judged : goal.returns-then-not-is_within-clause-judged
returns-then-not-is_within-clause-judged c = λ fences bytes.
    c.in_ok-front.ensures.judged fences c.args.raised (joined_fields (known_in c.args.catalog.now.objects c.args.nodes fences c.args.raised) bytes)
    ∙ bad_count (known_in c.args.catalog.now.objects c.args.nodes fences c.args.raised) bytes (stored_with (bytes_at c.in_ok-front.front.long 8 c.args.window.now) c.in_ok-front.front.size c.in_ok-front.front.digest c.in_ok-front.front.first) c.args.window.now (8 + c.in_ok-front.front.long + 8 + 32 + 4) c.in_ok-count.count c.in_ok-count.ensures.value
    (sym (c.is_within.ensures.value (known_in c.args.catalog.now.objects c.args.nodes fences c.args.raised) refl refl) ∙ c.if-not-is_within.true)

pub returns-in_err-parts-clause-judged : goal.returns-in_err-parts-clause-judged
returns-in_err-parts-clause-judged c =
    let p = err_from_is_err_and c.from_residual-in_err-parts.result c.from_residual-in_err-parts.ensures.1 in
    rw (p.1, p.2, c.in_err-parts.ensures.place)
    (λ fences bytes. c.in_ok-front.ensures.judged fences c.args.raised (joined_fields (known_in c.args.catalog.now.objects c.args.nodes fences c.args.raised) bytes)
    ∙ to_count (known_in c.args.catalog.now.objects c.args.nodes fences c.args.raised) bytes (stored_with (bytes_at c.in_ok-front.front.long 8 c.args.window.now) c.in_ok-front.front.size c.in_ok-front.front.digest c.in_ok-front.front.first) c.args.window.now (8 + c.in_ok-front.front.long + 8 + 32 + 4) c.in_ok-count.count c.in_ok-count.ensures.there c.in_ok-count.ensures.value
    (sym (c.is_within.ensures.value (known_in c.args.catalog.now.objects c.args.nodes fences c.args.raised) refl refl) ∙ c.if-not-is_within.false)
    ∙ no_parts bytes (stored_with (bytes_at c.in_ok-front.front.long 8 c.args.window.now) c.in_ok-front.front.size c.in_ok-front.front.digest c.in_ok-front.front.first) c.in_ok-count.count c.args.window.now ((8 + c.in_ok-front.front.long + 8 + 32 + 4) + 4) c.in_err-parts.ensures.none)

pub returns-then-parts-gt1048576-clause-judged : goal.returns-then-parts-gt1048576-clause-judged
returns-then-parts-gt1048576-clause-judged c = λ fences bytes.
    c.in_ok-front.ensures.judged fences c.args.raised (joined_fields (known_in c.args.catalog.now.objects c.args.nodes fences c.args.raised) bytes)
    ∙ to_count (known_in c.args.catalog.now.objects c.args.nodes fences c.args.raised) bytes (stored_with (bytes_at c.in_ok-front.front.long 8 c.args.window.now) c.in_ok-front.front.size c.in_ok-front.front.digest c.in_ok-front.front.first) c.args.window.now (8 + c.in_ok-front.front.long + 8 + 32 + 4) c.in_ok-count.count c.in_ok-count.ensures.there c.in_ok-count.ensures.value
    (sym (c.is_within.ensures.value (known_in c.args.catalog.now.objects c.args.nodes fences c.args.raised) refl refl) ∙ c.if-not-is_within.false)
    ∙ bad_parts bytes (stored_with (bytes_at c.in_ok-front.front.long 8 c.args.window.now) c.in_ok-front.front.size c.in_ok-front.front.digest c.in_ok-front.front.first) c.in_ok-count.count c.args.window.now ((8 + c.in_ok-front.front.long + 8 + 32 + 4) + 4) c.in_ok-parts.parts c.in_ok-parts.ensures.value
    (lt-leb c.in_ok-parts.parts 1048576 c.if-parts-gt1048576.true)

pub returns-clause-judged : goal.returns-clause-judged
returns-clause-judged c = λ fences bytes.
    c.in_ok-front.ensures.judged fences c.args.raised (joined_fields (known_in c.args.catalog.now.objects c.args.nodes fences c.args.raised) bytes)
    ∙ to_count (known_in c.args.catalog.now.objects c.args.nodes fences c.args.raised) bytes (stored_with (bytes_at c.in_ok-front.front.long 8 c.args.window.now) c.in_ok-front.front.size c.in_ok-front.front.digest c.in_ok-front.front.first) c.args.window.now (8 + c.in_ok-front.front.long + 8 + 32 + 4) c.in_ok-count.count c.in_ok-count.ensures.there c.in_ok-count.ensures.value
    (sym (c.is_within.ensures.value (known_in c.args.catalog.now.objects c.args.nodes fences c.args.raised) refl refl) ∙ c.if-not-is_within.false)
    ∙ to_parts bytes (stored_with (bytes_at c.in_ok-front.front.long 8 c.args.window.now) c.in_ok-front.front.size c.in_ok-front.front.digest c.in_ok-front.front.first) c.in_ok-count.count c.args.window.now ((8 + c.in_ok-front.front.long + 8 + 32 + 4) + 4) c.in_ok-parts.parts c.in_ok-parts.ensures.there c.in_ok-parts.ensures.value
    (le-leb c.in_ok-parts.parts 1048576 (omega (arith, c.if-parts-gt1048576.false)))
    ∙ ap (λ (o : ObjectFields). Ok ((bytes, JoinedHead (stored_at c.args.window.now o) c.in_ok-parts.parts), object_end o + 4)) (sym c.with_count.ensures)
