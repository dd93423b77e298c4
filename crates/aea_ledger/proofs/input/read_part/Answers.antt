use Rattle.std.proofs.Common.{◌≡◌, ℕ, List, length, take, drop, ◌∙◌, subst, arith}
use Rattle.std.specs.Int.{w32, from_be_bytes}
use Rattle.std.proofs.lemmas.List.{length-take}
use Rattle.std.proofs.lemmas.Grind.{common_steps}
use Rattle.aea_ledger.specs.Reads.{IsAhead}
use Rattle.aea_ledger.specs.declared.input.Input.{Input}
use Rattle.aea_ledger.proofs.Passed.{passed_over, parts_one}
use Rattle.aea_ledger.proofs.input.read_part.Goals as goal

pub returns-clause-more : goal.returns-clause-more
returns-clause-more g c = λ _.
    let e = c.in_ok-fill.ensures in
    let file = (g.D.Disk.state c.args.disk.now).files 0 in
    let mid : Input = record { cursor = c.fill.new.self; hasher = c.args.input.now.hasher } in
    let size : length (take 8 c.fill.new.self.bytes) ≡ 8 = omega (arith, length-take 8 c.fill.new.self.bytes, e.there, c.if-branch-lt8.false) in
    parts_one g.D.Disk.reveals file c.args.input.now c.pass.new.self (take 8 c.fill.new.self.bytes) c.part_in-part.result _ _ size
    (passed_over g.D.Disk.reveals file c.args.input.now (record { cursor = c.fill.new.self; hasher = c.args.input.now.hasher }) c.pass.new.self 8 e.place (λ message held. held)
    (λ reveals. subst (λ (f : ℕ → List ℕ). IsAhead c.fill.new.self (f 0)) (e.reads.contents reveals) (e.revealed reveals))
    (omega (arith, e.there, c.if-branch-lt8.false)) c.pass.ensures.are c.pass.ensures.holds c.pass.ensures.place c.pass.ensures.revealed)
    (c.part_in-part.ensures ∙ (λ i. record { first = from_be_bytes w32 (take 4 (c.window.ensures i)); count = from_be_bytes w32 (drop 4 (c.window.ensures i)) }))
    (grind (arith, common_steps))
