use Rattle.std.proofs.Common.{◌<◌, ◌^◌, ℕ, sym, ◌∙◌, arith}
use Rattle.std.proofs.lemmas.Bool.Decides.{nat_tests}
use Rattle.std.proofs.lemmas.Result.{err_from_is_err_and}
use Rattle.std.proofs.lemmas.List.Elements.{All-from_get_or}
use Rattle.aea_records.specs.Fields.{Head, head_fields}
use Rattle.aea_records.specs.TableLaws.{AreBytes}
use Rattle.aea_records.specs.Reads.{known_in, found_at, head_end}
use Rattle.aea_records.proofs.Judging.{judged_is_spelled}
use Rattle.aea_records.proofs.Tails.{bad_head, full_gate}
use Rattle.aea_records.proofs.heads.gate_in.Goals as goal

pub returns-then-is_full-clause-bad : goal.returns-then-is_full-clause-bad
returns-then-is_full-clause-bad c = λ rest is.
    full_gate c.args.shape.now (known_in c.args.catalog.now.objects c.args.lattice.now.n c.args.lattice.now.fences c.args.raised) c.args.window.now rest (grind (arith, nat_tests)) (omega arith)
    (sym (c.is_full.ensures c.args.lattice.now.n c.args.lattice.now.fences) ∙ c.if-is_full.true) is

pub returns-in_err-found-clause-bad : goal.returns-in_err-found-clause-bad
returns-in_err-found-clause-bad c =
    let p = err_from_is_err_and c.from_residual.result c.from_residual.ensures.1 in
    rw (p.1, p.2) (λ rest is. bad_head c.args.shape.now (known_in c.args.catalog.now.objects c.args.lattice.now.n c.args.lattice.now.fences c.args.raised) c.args.window.now rest _ (grind (arith, nat_tests)) (omega arith)
    (sym (c.is_full.ensures c.args.lattice.now.n c.args.lattice.now.fences) ∙ c.if-is_full.false) is c.in_err-found.ensures.judged)

pub returns-clause-open : goal.returns-clause-open
returns-clause-open c = record {
  there = grind (arith, nat_tests);
  bytes = All-from_get_or (λ b. b < 2 ^ 8) c.args.window.now 0 (λ i _. omega (arith, c.type_inv.window i));
  gate = omega arith;
  room = sym (c.is_full.ensures c.args.lattice.now.n c.args.lattice.now.fences) ∙ c.if-is_full.false;
  judged = c.in_ok-found.ensures.judged;
}

pub returns-clause-within : goal.returns-clause-within
returns-clause-within c =
    let are : AreBytes c.args.window.now = All-from_get_or (λ b. b < 2 ^ 8) c.args.window.now 0 (λ i _. omega (arith, c.type_inv.window i)) in
    (judged_is_spelled (ℕ × Head) (head_fields c.args.shape.now (known_in c.args.catalog.now.objects c.args.lattice.now.n c.args.lattice.now.fences c.args.raised)) c.args.window.now 1 (head_end c.in_ok-found.found.fields) (found_at c.args.window.now c.in_ok-found.found) are (grind (arith, nat_tests)) c.in_ok-found.ensures.judged).within
