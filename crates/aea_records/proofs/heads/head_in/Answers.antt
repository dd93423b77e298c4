use Rattle.std.proofs.Common.{refl, ◌∙◌}
use Rattle.std.proofs.lemmas.Result.{err_from_is_err_and}
use Rattle.aea_records.specs.Reads.{known_in}
use Rattle.aea_records.proofs.Steps.{to_bytes, to_fields, no_bytes, bad_kind}
use Rattle.aea_records.proofs.heads.head_in.Goals as goal

pub returns-in_err-kind-clause-judged : goal.returns-in_err-kind-clause-judged
returns-in_err-kind-clause-judged c =
    let p = err_from_is_err_and c.from_residual.result c.from_residual.ensures.1 in
    rw (p.1, p.2, c.in_err-kind.ensures.place) (bad_kind c.args.shape.now (known_in c.args.catalog.now.objects c.args.lattice.now.n c.args.lattice.now.fences c.args.raised) c.args.window.now (c.in_err-kind.ensures.bad (known_in c.args.catalog.now.objects c.args.lattice.now.n c.args.lattice.now.fences c.args.raised) refl))

pub returns-in_err-bytes-clause-judged : goal.returns-in_err-bytes-clause-judged
returns-in_err-bytes-clause-judged c =
    let p = err_from_is_err_and c.from_residual-in_err-bytes.result c.from_residual-in_err-bytes.ensures.1 in
    rw (p.1, p.2, c.in_err-bytes.ensures.place) (to_bytes c.args.shape.now (known_in c.args.catalog.now.objects c.args.lattice.now.n c.args.lattice.now.fences c.args.raised) c.args.window.now c.in_ok-kind.kind c.in_ok-kind.ensures.there c.in_ok-kind.ensures.value (c.in_ok-kind.ensures.good (known_in c.args.catalog.now.objects c.args.lattice.now.n c.args.lattice.now.fences c.args.raised) refl) ∙ no_bytes c.args.shape.now (known_in c.args.catalog.now.objects c.args.lattice.now.n c.args.lattice.now.fences c.args.raised) c.args.window.now c.in_ok-kind.kind c.in_err-bytes.ensures.none)

pub fields_in-requires : goal.fields_in-requires
fields_in-requires c = c.in_ok-kind.ensures.good (known_in c.args.catalog.now.objects c.args.lattice.now.n c.args.lattice.now.fences c.args.raised) refl

pub returns-in_err-fields-clause-judged : goal.returns-in_err-fields-clause-judged
returns-in_err-fields-clause-judged c =
    let p = err_from_is_err_and c.from_residual-in_err-fields.result c.from_residual-in_err-fields.ensures.1 in
    rw (p.1, p.2) (to_bytes c.args.shape.now (known_in c.args.catalog.now.objects c.args.lattice.now.n c.args.lattice.now.fences c.args.raised) c.args.window.now c.in_ok-kind.kind c.in_ok-kind.ensures.there c.in_ok-kind.ensures.value (c.in_ok-kind.ensures.good (known_in c.args.catalog.now.objects c.args.lattice.now.n c.args.lattice.now.fences c.args.raised) refl) ∙ to_fields c.args.shape.now (known_in c.args.catalog.now.objects c.args.lattice.now.n c.args.lattice.now.fences c.args.raised) c.args.window.now c.in_ok-kind.kind c.in_ok-bytes.bytes c.in_ok-bytes.ensures.there c.in_ok-bytes.ensures.value ∙ c.in_err-fields.ensures.judged c.in_ok-bytes.bytes)

pub returns-clause-judged : goal.returns-clause-judged
returns-clause-judged c = to_bytes c.args.shape.now (known_in c.args.catalog.now.objects c.args.lattice.now.n c.args.lattice.now.fences c.args.raised) c.args.window.now c.in_ok-kind.kind c.in_ok-kind.ensures.there c.in_ok-kind.ensures.value (c.in_ok-kind.ensures.good (known_in c.args.catalog.now.objects c.args.lattice.now.n c.args.lattice.now.fences c.args.raised) refl) ∙ to_fields c.args.shape.now (known_in c.args.catalog.now.objects c.args.lattice.now.n c.args.lattice.now.fences c.args.raised) c.args.window.now c.in_ok-kind.kind c.in_ok-bytes.bytes c.in_ok-bytes.ensures.there c.in_ok-bytes.ensures.value ∙ c.in_ok-fields.ensures.judged c.in_ok-bytes.bytes
