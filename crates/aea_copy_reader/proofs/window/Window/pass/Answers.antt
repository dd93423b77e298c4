use Rattle.std.proofs.Common.{◌≡◌, ◌≤◌, length, take, drop, ap, ◌∙◌, arith}
use Rattle.std.proofs.lemmas.List.{length-take}
use Rattle.aea_copy_reader.specs.Seen.{Seen}
use Rattle.aea_copy_reader.proofs.Seeing.{passed_front}
use Rattle.aea_copy_reader.proofs.window.Window.pass.Goals as goal

pub overflow_add-self : goal.overflow_add-self
overflow_add-self c =
    let place : c.self.inside.start ≡ c.args.self.now.place = ap (λ (a : Seen). a.place) c.self.view_is in
    omega (arith, place, c.requires.near)

pub returns-clause-bytes : goal.returns-clause-bytes
returns-clause-bytes c =
    let i = c.self.inside in
    let bytes : take i.size i.buffer ≡ c.args.self.now.bytes = ap (λ (a : Seen). a.bytes) c.self.view_is in
    let within : c.args.count ≤ i.size = omega (arith, c.requires.within, ap length bytes, length-take i.size i.buffer, c.self.invariant.0, c.self.invariant.1) in
    passed_front i.buffer c.copy_within.new.self c.args.count i.size within (omega (arith, c.self.invariant.0, c.self.invariant.1)) c.copy_within.ensures.len c.copy_within.ensures.by_index.0 ∙ ap (drop c.args.count) bytes
