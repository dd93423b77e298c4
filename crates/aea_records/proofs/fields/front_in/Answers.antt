use Rattle.std.proofs.Common.{◌+◌, ℕ, sym, ap, ◌∙◌}
use Rattle.std.proofs.lemmas.Bool.{eq-eqb, ne_eqb}
use Rattle.std.proofs.lemmas.Result.{err_from_is_err_and}
use Rattle.aea_records.specs.Tables.{bytes_at}
use Rattle.aea_records.specs.Fields.{is_next_node}
use Rattle.aea_records.specs.Reads.{known_in}
use Rattle.aea_records.proofs.Steps.{bad_name, to_size, to_digest, to_first, to_next, missing_size, missing_digest, missing_first, invalid_first}
use Rattle.aea_records.proofs.fields.front_in.Goals as goal

pub returns-in_err-name_in-clause-judged : goal.returns-in_err-name_in-clause-judged
returns-in_err-name_in-clause-judged c =
    let p = err_from_is_err_and c.from_residual-in_err-name_in.result c.from_residual-in_err-name_in.ensures.1 in
    let e = c.in_ok-long.ensures in
    rw (p.1, p.2, c.in_err-name_in.ensures.place)
    (λ fences raised next. bad_name (known_in c.args.catalog.now.objects c.args.nodes fences raised) next c.args.window.now c.in_ok-long.long e.there e.value e.good (c.in_err-name_in.ensures.bad c.args.nodes fences raised))

pub returns-in_err-size-clause-judged : goal.returns-in_err-size-clause-judged
returns-in_err-size-clause-judged c =
    let p = err_from_is_err_and c.from_residual-in_err-size.result c.from_residual-in_err-size.ensures.1 in
    let e = c.in_ok-long.ensures in
    let n = c.in_ok-name_in.ensures in
    rw (p.1, p.2, c.in_err-size.ensures.place)
    (λ fences raised next. to_size (known_in c.args.catalog.now.objects c.args.nodes fences raised) next c.args.window.now c.in_ok-long.long e.there e.value e.good n.there (n.good c.args.nodes fences raised)
    ∙ missing_size (known_in c.args.catalog.now.objects c.args.nodes fences raised) next (bytes_at c.in_ok-long.long 8 c.args.window.now) c.args.window.now (8 + c.in_ok-long.long) c.in_err-size.ensures.none)

pub returns-in_err-digest-clause-judged : goal.returns-in_err-digest-clause-judged
returns-in_err-digest-clause-judged c =
    let p = err_from_is_err_and c.from_residual-in_err-digest.result c.from_residual-in_err-digest.ensures.1 in
    let e = c.in_ok-long.ensures in
    let n = c.in_ok-name_in.ensures in
    let s = c.in_ok-size.ensures in
    rw (p.1, p.2, c.in_err-digest.ensures.place)
    (λ fences raised next. to_size (known_in c.args.catalog.now.objects c.args.nodes fences raised) next c.args.window.now c.in_ok-long.long e.there e.value e.good n.there (n.good c.args.nodes fences raised)
    ∙ to_digest (known_in c.args.catalog.now.objects c.args.nodes fences raised) next (bytes_at c.in_ok-long.long 8 c.args.window.now) c.args.window.now (8 + c.in_ok-long.long) c.in_ok-size.size s.there s.value
    ∙ missing_digest (known_in c.args.catalog.now.objects c.args.nodes fences raised) next (bytes_at c.in_ok-long.long 8 c.args.window.now) c.in_ok-size.size c.args.window.now (8 + c.in_ok-long.long + 8) c.in_err-digest.ensures.none)

pub returns-in_err-first-clause-judged : goal.returns-in_err-first-clause-judged
returns-in_err-first-clause-judged c =
    let p = err_from_is_err_and c.from_residual-in_err-first.result c.from_residual-in_err-first.ensures.1 in
    let e = c.in_ok-long.ensures in
    let n = c.in_ok-name_in.ensures in
    let s = c.in_ok-size.ensures in
    let d = c.in_ok-digest.ensures in
    rw (p.1, p.2, c.in_err-first.ensures.place)
    (λ fences raised next. to_size (known_in c.args.catalog.now.objects c.args.nodes fences raised) next c.args.window.now c.in_ok-long.long e.there e.value e.good n.there (n.good c.args.nodes fences raised)
    ∙ to_digest (known_in c.args.catalog.now.objects c.args.nodes fences raised) next (bytes_at c.in_ok-long.long 8 c.args.window.now) c.args.window.now (8 + c.in_ok-long.long) c.in_ok-size.size s.there s.value
    ∙ to_first (known_in c.args.catalog.now.objects c.args.nodes fences raised) next (bytes_at c.in_ok-long.long 8 c.args.window.now) c.in_ok-size.size c.args.window.now (8 + c.in_ok-long.long + 8) c.in_ok-digest.digest d.there d.value
    ∙ missing_first (known_in c.args.catalog.now.objects c.args.nodes fences raised) next (bytes_at c.in_ok-long.long 8 c.args.window.now) c.in_ok-size.size c.in_ok-digest.digest c.args.window.now (8 + c.in_ok-long.long + 8 + 32) c.in_err-first.ensures.none)

pub returns-then-first-nodes-clause-judged : goal.returns-then-first-nodes-clause-judged
returns-then-first-nodes-clause-judged c =
    let e = c.in_ok-long.ensures in
    let n = c.in_ok-name_in.ensures in
    let s = c.in_ok-size.ensures in
    let d = c.in_ok-digest.ensures in
    let f = c.in_ok-first.ensures in
    λ fences raised next. to_size (known_in c.args.catalog.now.objects c.args.nodes fences raised) next c.args.window.now c.in_ok-long.long e.there e.value e.good n.there (n.good c.args.nodes fences raised)
    ∙ to_digest (known_in c.args.catalog.now.objects c.args.nodes fences raised) next (bytes_at c.in_ok-long.long 8 c.args.window.now) c.args.window.now (8 + c.in_ok-long.long) c.in_ok-size.size s.there s.value
    ∙ to_first (known_in c.args.catalog.now.objects c.args.nodes fences raised) next (bytes_at c.in_ok-long.long 8 c.args.window.now) c.in_ok-size.size c.args.window.now (8 + c.in_ok-long.long + 8) c.in_ok-digest.digest d.there d.value
    ∙ invalid_first (known_in c.args.catalog.now.objects c.args.nodes fences raised) next (bytes_at c.in_ok-long.long 8 c.args.window.now) c.in_ok-size.size c.in_ok-digest.digest c.args.window.now (8 + c.in_ok-long.long + 8 + 32)
    (ap (λ (k : ℕ). is_next_node (known_in c.args.catalog.now.objects c.args.nodes fences raised) k) (sym f.value) ∙ ne_eqb c.in_ok-first.first (c.args.nodes + 1) c.if-first-nodes.true)

pub returns-clause-judged : goal.returns-clause-judged
returns-clause-judged c =
    let e = c.in_ok-long.ensures in
    let n = c.in_ok-name_in.ensures in
    let s = c.in_ok-size.ensures in
    let d = c.in_ok-digest.ensures in
    let f = c.in_ok-first.ensures in
    λ fences raised next. to_size (known_in c.args.catalog.now.objects c.args.nodes fences raised) next c.args.window.now c.in_ok-long.long e.there e.value e.good n.there (n.good c.args.nodes fences raised)
    ∙ to_digest (known_in c.args.catalog.now.objects c.args.nodes fences raised) next (bytes_at c.in_ok-long.long 8 c.args.window.now) c.args.window.now (8 + c.in_ok-long.long) c.in_ok-size.size s.there s.value
    ∙ to_first (known_in c.args.catalog.now.objects c.args.nodes fences raised) next (bytes_at c.in_ok-long.long 8 c.args.window.now) c.in_ok-size.size c.args.window.now (8 + c.in_ok-long.long + 8) c.in_ok-digest.digest d.there d.value
    ∙ to_next (known_in c.args.catalog.now.objects c.args.nodes fences raised) next (bytes_at c.in_ok-long.long 8 c.args.window.now) c.in_ok-size.size c.in_ok-digest.digest c.args.window.now (8 + c.in_ok-long.long + 8 + 32) c.in_ok-first.first f.there f.value
    (eq-eqb c.in_ok-first.first (c.args.nodes + 1) c.if-first-nodes.false)
