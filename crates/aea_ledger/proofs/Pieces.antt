-- Pieces of a list, one after the other.
use Rattle.std.proofs.Common.{◌≡◌, ℕ, ◌+◌, ◌-◌, ◌<◌, ◌≤◌, List, ◌++◌, length, get_or, take, drop, min, sym, ap, ◌∙◌, arith, length-drop}
use Rattle.std.proofs.lemmas.List.{length-take, take_at, take-take, take_min, drop-take, drop-drop, take-append-drop, ext_get_or, get_or-take, get_or-drop}
use Rattle.std.specs.List.{CopiedTo}
use Rattle.aea_ledger.specs.Reads.{Ahead, IsAhead}

-- what is left of a part when it begins later
pub drop-part : (xs : List ℕ) (from to n : ℕ) → from + n ≤ to → take (to - (from + n)) (drop (from + n) xs) ≡ drop n (take (to - from) (drop from xs))
drop-part xs from to n h =
    let sum : to - from ≡ n + (to - (from + n)) = omega arith in
    sym (ap (λ (k : ℕ). drop n (take k (drop from xs))) sum ∙ drop-take n (to - (from + n)) (drop from xs) ∙ ap (take (to - (from + n))) (drop-drop n from xs))

-- bytes that are read stay those of the file, when the place goes on
pub ahead_later : (a b : Ahead) (n : ℕ) (file : List ℕ) → n ≤ length a.bytes → b.place ≡ a.place + n → b.bytes ≡ drop n a.bytes → IsAhead a file → IsAhead b file
ahead_later a b n file h place bytes revealed =
    let size : length a.bytes ≡ n + length b.bytes = omega (arith, ap length bytes, length-drop n a.bytes) in
    bytes ∙ ap (drop n) (revealed ∙ ap (λ (k : ℕ). take k (drop a.place file)) size) ∙ drop-take n (length b.bytes) (drop a.place file)
    ∙ ap (take (length b.bytes)) (drop-drop n a.place file ∙ ap (λ (k : ℕ). drop k file) (sym place))

-- a front, and what follows it up to a place
pub take-both : (xs : List ℕ) (k n : ℕ) → k ≤ n → take k xs ++ take (n - k) (drop k xs) ≡ take n xs
take-both xs k n h =
    let sum : n ≡ k + (n - k) = omega arith in
    ap (λ (l : List ℕ). take k xs ++ l) (sym (drop-take k (n - k) xs) ∙ ap (λ (m : ℕ). drop k (take m xs)) (sym sum))
    ∙ ap (λ (l : List ℕ). l ++ drop k (take n xs)) (sym (take-take k n xs h)) ∙ take-append-drop k (take n xs)

-- a front has as many bytes as it has
pub take_whole : (xs ys : List ℕ) (n : ℕ) → xs ≡ take n ys → xs ≡ take (length xs) ys
take_whole xs ys n same =
    let size : length xs ≡ min n (length ys) = ap length same ∙ length-take n ys in
    same ∙ sym (take_min n ys) ∙ ap (λ (k : ℕ). take k ys) (sym size)

-- the first of a front
pub take_within : (xs ys : List ℕ) (k n : ℕ) → k ≤ n → xs ≡ take n ys → take (min k (length xs)) xs ≡ take k ys
take_within xs ys k n h same = take_min k xs ∙ ap (take k) same ∙ take-take k n ys h

-- what was copied to the front
pub copied_front : (old new : List ℕ) (from to : ℕ) → from ≤ to → to ≤ length old → length new ≡ length old → CopiedTo old new from 0 (to - from) → take (to - from) new ≡ take (to - from) (drop from old)
copied_front old new from to h within size copied =
    ext_get_or 0 _ _
    (omega (arith, length-take (to - from) new, length-take (to - from) (drop from old), length-drop from old))
    (λ k below.
    let near : k < to - from = omega (arith, length-take (to - from) new) in
    get_or-take (to - from) new k 0 near ∙ copied k 0 (omega arith) (omega arith) ∙ (let less : k - 0 ≡ k = omega arith in ap (λ (m : ℕ). get_or old (from + m) 0) less) ∙ sym (get_or-drop from old k 0) ∙ sym (get_or-take (to - from) (drop from old) k 0 near))

-- bytes of a file, and those that are read after them
pub read_on : (file bytes : List ℕ) (kept n place next : ℕ) → kept ≤ n → length bytes ≡ kept → next ≡ place + kept → bytes ≡ take (length bytes) (drop place file) → bytes ++ take (n - kept) (drop next file) ≡ take n (drop place file)
read_on file bytes kept n place next h size sum revealed =
    ap (λ (l : List ℕ). l ++ take (n - kept) (drop next file)) (revealed ∙ ap (λ (k : ℕ). take k (drop place file)) size)
    ∙ ap (λ (l : List ℕ). take kept (drop place file) ++ take (n - kept) l) (ap (λ (k : ℕ). drop k file) sum ∙ sym (drop-drop kept place file))
    ∙ take-both (drop place file) kept n h

-- the buffer after bytes were read after what was kept
pub refilled : (copied new bytes file : List ℕ) (len kept more n place next : ℕ) → length new ≡ len → len ≡ n → kept ≤ n → next ≡ place + kept → length bytes ≡ kept → take kept copied ≡ bytes
    → take (kept + more) new ≡ take kept copied ++ take (n - kept) (drop next file) → bytes ≡ take (length bytes) (drop place file)
    → take (kept + more - 0) (take len (new ++ drop (length new) copied)) ≡ take n (drop place file)
refilled copied new bytes file len kept more n place next size same h sum long front read revealed =
    let less : kept + more - 0 ≡ kept + more = omega arith in
    ap (λ (k : ℕ). take k (take len (new ++ drop (length new) copied))) less
    ∙ ap (take (kept + more)) (take_at new (drop (length new) copied) len size) ∙ read ∙ ap (λ (l : List ℕ). l ++ take (n - kept) (drop next file)) front
    ∙ read_on file bytes kept n place next h long sum revealed
