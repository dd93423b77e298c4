use Rattle.std.proofs.Common.{◌≡◌, ℕ, length, take, drop, ap, ◌∙◌, sym}
use Rattle.aea_copy_reader.specs.Seen.{Seen}
use Rattle.aea_copy_reader.proofs.Reading.{seen_after}
use Rattle.aea_copy_reader.proofs.window.Window.refill.Goals as goal

pub returns-clause-seen : goal.returns-clause-seen
returns-clause-seen g c = λ revealed.
    let i = c.self.inside in
    let e = c.in_ok-more.ensures in
    let file = (g.D.Disk.state c.args.disk.now).files c.args.file in
    let bytes : take i.size i.buffer ≡ c.args.self.now.bytes = ap (λ (a : Seen). a.bytes) c.self.view_is in
    let place : i.start ≡ c.args.self.now.place = ap (λ (a : Seen). a.place) c.self.view_is in
    seen_after i.start i.size c.in_ok-more.more 4144 i.buffer c.read_after.new.buffer c.args.self.now.bytes file bytes c.self.invariant.0 c.self.invariant.1 (e.len ∙ c.self.invariant.1)
    (c.requires.seen revealed ∙ ap (λ (n : ℕ). take (length c.args.self.now.bytes) (drop n file)) (sym place)) (e.bytes revealed) (e.count revealed) e.bound
