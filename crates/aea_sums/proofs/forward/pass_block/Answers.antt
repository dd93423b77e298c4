use Rattle.std.proofs.Common.{sym, ◌∙◌, ap, arith}
use Rattle.std.proofs.lemmas.Bool.{true≢false}
use Rattle.aea_lattice.specs.declared.blocks.BlockId.{BlockId}
use Rattle.aea_view.specs.Marked.{is_marked}
use Rattle.aea_sums.specs.Places.{is_wanted}
use Rattle.aea_sums.proofs.Stepping.{as_datum}
use Rattle.aea_sums.proofs.Opening.{zero-class, some-class, known_passes, taken}
use Rattle.aea_sums.proofs.forward.pass_block.Goals as goal

pub returns-then-is_datum-clause-passes : goal.returns-then-is_datum-clause-passes
returns-then-is_datum-clause-passes c wanted are =
    let b = c.args.b in
    let zero' = zero-class b (sym c.is_datum.ensures ∙ c.if-is_datum.true) in
    record {
      datum_known = λ datum is. c.pass_datum.ensures.known (ap (λ (x : BlockId). is_marked c.args.known.now x) (as_datum b zero') ∙ is);
      datum_open = λ datum off. c.pass_datum.ensures.lost (ap (λ (x : BlockId). is_marked c.args.known.now x) (as_datum b zero') ∙ off)
          wanted (λ k fits. are k fits ∙ ap (is_wanted wanted k) (sym (as_datum b zero')));
      parity_known = λ parity is. absurd (omega arith);
      parity_open = λ parity off. absurd (omega arith);
      kind = λ parity is. absurd (omega arith);
    }

pub returns-then-get-clause-passes : goal.returns-then-get-clause-passes
returns-then-get-clause-passes c wanted are =
    let b = c.args.b in
    let some' = some-class b (sym c.is_datum.ensures ∙ c.if-is_datum.false) in
    record {
      datum_known = λ datum is. absurd (omega arith);
      datum_open = λ datum off. absurd (omega arith);
      parity_known = λ parity is. known_passes c.args.lattice.now b c.place.result c.pass_known.result c.args.rows.now c.pass_known.new.rows c.args.lost c.place.ensures.place c.pass_known.ensures.passes;
      parity_open = λ parity off. absurd (true≢false (sym c.if-get.true ∙ c.get.ensures ∙ off));
      kind = λ parity is. taken c.args.lattice.now b c.place.result c.pass_known.result c.args.rows.now c.requires.long c.place.ensures.place c.pass_known.ensures.kind c.pass_known.ensures.narrow;
    }

pub returns-clause-passes : goal.returns-clause-passes
returns-clause-passes c wanted are =
    let b = c.args.b in
    let some' = some-class b (sym c.is_datum.ensures ∙ c.if-is_datum.false) in
    record {
      datum_known = λ datum is. absurd (omega arith);
      datum_open = λ datum off. absurd (omega arith);
      parity_known = λ parity is. absurd (true≢false (sym is ∙ sym c.get.ensures ∙ c.if-get.false));
      parity_open = λ parity off. c.pass_open.ensures.passes wanted are;
      kind = λ parity is. absurd (true≢false (sym is ∙ sym c.get.ensures ∙ c.if-get.false));
    }
