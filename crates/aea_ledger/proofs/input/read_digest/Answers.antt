use Rattle.std.proofs.Common.{◌≡◌, ℕ, List, length, take, drop, ap, ◌∙◌, subst, arith}
use Rattle.std.proofs.lemmas.List.{length-take}
use Rattle.std.proofs.lemmas.Grind.{common_steps}
use Rattle.aea_ledger.specs.Reads.{IsAhead}
use Rattle.aea_ledger.specs.declared.input.Input.{Input}
use Rattle.aea_ledger.proofs.Passed.{passed_over, digests_one}
use Rattle.aea_ledger.proofs.input.read_digest.Goals as goal

pub returns-then-branch-lt32-clause-last : goal.returns-then-branch-lt32-clause-last
returns-then-branch-lt32-clause-last g c = λ _ reveals.
    let e = c.in_ok-fill.ensures in
    let ahead = drop c.args.input.now.cursor.place ((g.D.Disk.state c.args.disk.now).files 0) in
    omega (arith, ap length (e.window reveals), length-take c.in_ok-fill.field-0 c.fill.new.self.bytes, length-take 32 ahead, e.there, c.if-branch-lt32.true)

pub returns-clause-more : goal.returns-clause-more
returns-clause-more g c = λ _.
    let e = c.in_ok-fill.ensures in
    let file = (g.D.Disk.state c.args.disk.now).files 0 in
    let mid : Input = record { cursor = c.fill.new.self; hasher = c.args.input.now.hasher } in
    let size : length (take 32 c.fill.new.self.bytes) ≡ 32 = omega (arith, length-take 32 c.fill.new.self.bytes, e.there, c.if-branch-lt32.false) in
    digests_one g.D.Disk.reveals file c.args.input.now c.pass.new.self (take 32 c.fill.new.self.bytes) c.digest_in-digest.result _ _ size
    (passed_over g.D.Disk.reveals file c.args.input.now (record { cursor = c.fill.new.self; hasher = c.args.input.now.hasher }) c.pass.new.self 32 e.place (λ message held. held)
    (λ reveals. subst (λ (f : ℕ → List ℕ). IsAhead c.fill.new.self (f 0)) (e.reads.contents reveals) (e.revealed reveals))
    (omega (arith, e.there, c.if-branch-lt32.false)) c.pass.ensures.are c.pass.ensures.holds c.pass.ensures.place c.pass.ensures.revealed)
    (c.digest_in-digest.ensures ∙ c.window.ensures)
    (grind (arith, common_steps))
