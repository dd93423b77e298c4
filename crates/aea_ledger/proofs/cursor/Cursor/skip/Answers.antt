use Rattle.std.proofs.Common.{◌≡◌, ◌+◌, ◌-◌, ◌≤◌, length, take, drop, ap, ◌∙◌, arith}
use Rattle.std.proofs.lemmas.List.{length-take}
use Rattle.aea_ledger.specs.Reads.{Ahead}
use Rattle.aea_ledger.proofs.Pieces.{drop-part, ahead_later}
use Rattle.aea_ledger.proofs.cursor.Cursor.skip.Goals as goal

pub returns-clause-bytes : goal.returns-clause-bytes
returns-clause-bytes c =
    let i = c.self.inside in
    let same : take (i.end - i.start) (drop i.start i.buffer.items) ≡ c.args.self.now.bytes = ap (λ (a : Ahead). a.bytes) c.self.view_is in
    let within : i.start + c.args.count ≤ i.end = omega (arith, ap length same, length-take (i.end - i.start) (drop i.start i.buffer.items), c.requires, c.self.invariant.0) in
    drop-part i.buffer.items i.start i.end c.args.count within ∙ ap (drop c.args.count) same

pub returns-clause-revealed : goal.returns-clause-revealed
returns-clause-revealed c =
    let i = c.self.inside in
    let same : take (i.end - i.start) (drop i.start i.buffer.items) ≡ c.args.self.now.bytes = ap (λ (a : Ahead). a.bytes) c.self.view_is in
    let at : i.next - (i.end - i.start) ≡ c.args.self.now.place = ap (λ (a : Ahead). a.place) c.self.view_is in
    let within : i.start + c.args.count ≤ i.end = omega (arith, ap length same, length-take (i.end - i.start) (drop i.start i.buffer.items), c.requires, c.self.invariant.0) in
    let place : i.next - (i.end - (i.start + c.args.count)) ≡ c.args.self.now.place + c.args.count = omega (arith, at, within, c.self.invariant.3) in
    λ file revealed. ahead_later c.args.self.now (record { place = i.next - (i.end - (i.start + c.args.count)); bytes = take (i.end - (i.start + c.args.count)) (drop (i.start + c.args.count) i.buffer.items) }) c.args.count file c.requires place (returns-clause-bytes c) revealed
