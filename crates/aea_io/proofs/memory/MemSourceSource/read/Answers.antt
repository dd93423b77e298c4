use Rattle.std.proofs.Common.{◌≡◌, ℕ, ◌+◌, ◌-◌, ◌<◌, ◌≤◌, min, List, length, drop, take, ◌++◌, [], ap, ◌∙◌, arith}
use Rattle.std.proofs.lemmas.List.{take-append-drop, drop-drop, drop_all, take_all, length-drop}
use Rattle.aea_io.proofs.memory.MemSourceSource.read.Goals as goal

-- the first bytes of those left were copied, and are left no more
front : (items bytes buf : List ℕ) (taken count : ℕ) → bytes ≡ items → taken ≤ length items → count ≡ min (length buf) (length (take (length bytes - taken) (drop taken bytes))) → take count buf ≡ take count (take (length bytes - taken) (drop taken bytes)) → (drop taken items ≡ take count buf ++ drop (taken + count) items) × (count ≡ 0 → 0 < length buf → drop (taken + count) items ≡ [])
front items bytes buf taken count same within counted copied =
    let all : take (length bytes - taken) (drop taken bytes) ≡ drop taken items = take_all (length bytes - taken) (drop taken bytes) (omega (arith, length-drop taken bytes)) ∙ ap (drop taken) same in
    let parts = take-append-drop count (drop taken items) in
    let rest = drop-drop count taken items in
    let given : take count buf ≡ take count (drop taken items) = copied ∙ ap (take count) all in
    (cc, λ none room. drop_all (taken + count) items (omega (arith, ap length all, length-drop taken items, counted)))

pub returns-clause-bytes : goal.returns-clause-bytes
returns-clause-bytes c =
    let s = c.args.self.now in
    front _ _ _ _ _ c.deref.ensures.value (omega (arith, s.bytes.ok.0)) c.copy_front-count.ensures.count c.copy_front-count.ensures.copied
