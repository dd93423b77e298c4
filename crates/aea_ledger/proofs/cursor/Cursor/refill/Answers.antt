use Rattle.std.proofs.Common.{◌≡◌, ◌+◌, ◌-◌, ℕ, List, ◌++◌, length, take, drop, ap, ◌∙◌, arith}
use Rattle.std.proofs.lemmas.List.{length-take}
use Rattle.std.proofs.Common.{length-drop}
use Rattle.aea_ledger.specs.Reads.{Ahead}
use Rattle.aea_ledger.proofs.Pieces.{copied_front, refilled}
use Rattle.aea_ledger.proofs.cursor.Cursor.refill.Goals as goal

pub returns-clause-bytes : goal.returns-clause-bytes
returns-clause-bytes g c = λ reveals.
    let i = c.self.inside in
    let kept = i.end - i.start in
    let file = (g.D.Disk.state c.args.disk.now).files 0 in
    let copied = c.copy_within.new.self.items in
    let new = c.read_behind.new.buffer in
    let same : take kept (drop i.start i.buffer.items) ≡ c.args.self.now.bytes = ap (λ (a : Ahead). a.bytes) c.self.view_is in
    let at : i.next - kept ≡ c.args.self.now.place = ap (λ (a : Ahead). a.place) c.self.view_is in
    let whole : length i.buffer.items ≡ 65536 = c.self.invariant.2 in
    let size : length copied ≡ length i.buffer.items = omega (arith, c.copy_within.new.self.ok.0, i.buffer.ok.0, c.copy_within.ensures.len) in
    let front : take kept copied ≡ c.args.self.now.bytes =
    copied_front i.buffer.items copied i.start i.end c.self.invariant.0 (omega (arith, whole, c.self.invariant.1)) size c.copy_within.ensures.by_index.0 ∙ same in
    let long : length c.args.self.now.bytes ≡ kept = omega (arith, ap length same, length-take kept (drop i.start i.buffer.items), length-drop i.start i.buffer.items, whole, c.self.invariant.0, c.self.invariant.1) in
    let next : i.next ≡ c.args.self.now.place + kept = omega (arith, at, c.self.invariant.3) in
    let lent : c.deref_mut.result.now ≡ copied = c.deref_mut.ensures.value in
    let all : length c.deref_mut.result.now ≡ 65536 = omega (arith, ap length lent, size, whole) in
    let read : take kept c.deref_mut.result.now ++ take (length c.deref_mut.result.now - kept) (drop i.next file) ≡ take kept copied ++ take (65536 - kept) (drop i.next file) =
    ap (λ (l : List ℕ). take kept l ++ take (length c.deref_mut.result.now - kept) (drop i.next file)) lent
    ∙ ap (λ (m : ℕ). take kept copied ++ take (m - kept) (drop i.next file)) all in
    refilled copied new c.args.self.now.bytes file c.copy_within.new.self.len kept c.in_ok-more.more 65536 c.args.self.now.place i.next
    (omega (arith, c.in_ok-more.ensures.len, c.deref_mut.ensures.len))
    (omega (arith, c.copy_within.ensures.len, i.buffer.ok.0, whole))
    (omega (arith, c.self.invariant.1)) next long front (c.in_ok-more.ensures.bytes reveals ∙ read) (c.requires.revealed reveals)
