-- A call and a sync after it, taken as one call; and what a write at a gate, or past it, does to the bytes.
use Rattle.std.proofs.Common.{◌≡◌, ⊎_elim, inl, inr, refl, ℕ, ◌+◌, ◌-◌, ◌<◌, ◌≤◌, List, [], ◌∷◌, ◌++◌, length, take, drop, get_or, sym, ◌∙◌, ap, arith, add-one, add-zero, length-append, drop-cons, append_assoc}
use Rattle.std.proofs.lemmas.Bool.{cases_lt}
use Rattle.std.specs.Prelude.{replicate}
use Rattle.std.proofs.lemmas.List.{take-append-drop, take-append-le, take-take, append-nil, length-take, length-replicate, replicate-append-replicate, take_all}
use Rattle.std.proofs.lemmas.Grind.{common_steps}
use Rattle.std.proofs.Math.Seq.{take-append_seam, drop-append_seam, drop-append-add}
use Rattle.aea_disk.specs.Files.{Files, ChangesFile, Torn, Holds, overwritten}
use Rattle.aea_disk.specs.Steps.{torn_none, torn_front, torn_back, holds_torn, get_or-overwritten_at, range-overwritten}
use Rattle.aea_disk.specs.State.{State, Passes, Follows, KeepsImages, Settles}

-- the step of the call
pub follows_then_kept : (step : Files → Files → Type 0) (old mid new : State) → Passes old mid → Passes mid new → Follows step old mid → KeepsImages mid new → Follows step old new
follows_then_kept step old mid new first second follows keeps t c from to here =
    ⊎_elim
    (λ before. follows t c from (omega arith) ((second.keeps t c (omega arith)).0 here))
    (λ after. follows mid.moment c first.later (omega arith) (keeps t c (omega arith) to here))
    (cases_lt t mid.moment)

-- where all images that each of two calls can add are there at its first moment after the entry, and the second
-- keeps the images, that is so of both as one call
pub settles_then_kept : (old mid new : State) → Passes old mid → Passes mid new → Settles old mid → KeepsImages mid new → Settles mid new → Settles old new
settles_then_kept old mid new first second early keeps late t u c from later to here =
    ⊎_elim
    (λ after. late t u c after later to here)
    (λ within.
    ⊎_elim
    (λ past. (second.keeps t c within).1 (early t mid.moment c from within (omega arith) (keeps u c (omega arith) to here)))
    (λ both. (second.keeps t c within).1 (early t u c from later both ((second.keeps u c both).0 here)))
    (cases_lt mid.moment u))
    (cases_lt mid.moment t)

-- a list around one of its bytes
pub split_byte : (n : ℕ) (xs : List ℕ) → n < length xs → xs ≡ take n xs ++ get_or xs n 0 ∷ drop (n + 1) xs
split_byte n xs within = sym (take-append-drop n xs) ∙ ap (λ (l : List ℕ). take n xs ++ l) (rw (add-one, drop-cons xs n 0))

-- a write of the one byte at a gate
pub torn_gate : (front : List ℕ) (gate : ℕ) (rest new : List ℕ) → Torn (length front) 1 (front ++ gate ∷ rest) new → new ≡ front ++ get_or new (length front) 0 ∷ rest
torn_gate front gate rest new torn =
    let n = length front in
    let old = front ++ gate ∷ rest in
    let size = length-append front (gate ∷ rest) in
    let head : take n new ≡ front = torn_front n 1 old new n (omega arith) (omega (arith, size)) torn ∙ take-append_seam front (gate ∷ rest) in
    let tail : drop (n + 1) new ≡ rest = torn_back n 1 old new (n + 1) (omega arith) torn ∙ drop-append-add front (gate ∷ rest) 1 in
    split_byte n new (omega (arith, size, torn.no_shorter)) ∙ ap (λ (l : List ℕ). l ++ get_or new n 0 ∷ drop (n + 1) new) head ∙ ap (λ (l : List ℕ). front ++ get_or new n 0 ∷ l) tail

-- which opened it
pub holds_gate : (front : List ℕ) (gate : ℕ) (rest new : List ℕ) → Holds (length front) (1 ∷ []) (front ++ gate ∷ rest) new → new ≡ front ++ 1 ∷ rest
holds_gate front gate rest new holds =
    let n = length front in
    let old = front ++ gate ∷ rest in
    let is : get_or new n 0 ≡ 1 = ap (λ (l : List ℕ). get_or l n 0) holds ∙ ap (λ (k : ℕ). get_or (overwritten old n (1 ∷ [])) k 0) (sym (add-zero n)) ∙ get_or-overwritten_at old n (1 ∷ []) 0 (omega arith) in
    torn_gate front gate rest new (holds_torn n (1 ∷ []) old new holds) ∙ ap (λ (g : ℕ). front ++ g ∷ rest) is

-- a write past a gate
pub torn_behind : (front : List ℕ) (gate : ℕ) (rest : List ℕ) (n : ℕ) (new : List ℕ) → Torn (length front + 1) n (front ++ gate ∷ rest) new → new ≡ front ++ gate ∷ drop (length front + 1) new
torn_behind front gate rest n new torn =
    let k = length front in
    let old = front ++ gate ∷ rest in
    let size = length-append front (gate ∷ rest) in
    let head : take k new ≡ front = torn_front (k + 1) n old new k (omega arith) (omega (arith, size)) torn ∙ take-append_seam front (gate ∷ rest) in
    let was : get_or old k 0 ≡ gate = grind (arith, common_steps) in
    let byte : get_or new k 0 ≡ gate = torn.others k (omega (arith, size)) (inl (omega arith)) ∙ was in
    split_byte k new (omega (arith, size, torn.no_shorter)) ∙ ap (λ (l : List ℕ). l ++ get_or new k 0 ∷ drop (k + 1) new) head ∙ ap (λ (g : ℕ). front ++ g ∷ drop (k + 1) new) byte

-- which was made
pub holds_behind : (front : List ℕ) (gate : ℕ) (rest bytes new : List ℕ) → Holds (length front + 1) bytes (front ++ gate ∷ rest) new
    → new ≡ front ++ gate ∷ (bytes ++ drop (length bytes) (drop (length front + 1) new))
holds_behind front gate rest bytes new holds =
    let k = length front in
    let old = front ++ gate ∷ rest in
    let behind = drop (length front + 1) new in
    let range : take (length bytes) (drop (k + 1) new) ≡ bytes = ap (λ (l : List ℕ). take (length bytes) (drop (k + 1) l)) holds ∙ range-overwritten old (k + 1) bytes in
    let whole : drop (k + 1) new ≡ bytes ++ drop (length bytes) (drop (k + 1) new) =
    sym (take-append-drop (length bytes) (drop (k + 1) new)) ∙ ap (λ (l : List ℕ). l ++ drop (length bytes) (drop (k + 1) new)) range in
    torn_behind front gate rest (length bytes) new (holds_torn (k + 1) bytes old new holds) ∙ ap (λ (l : List ℕ). front ++ gate ∷ l) whole

-- ---- a write, and one before it

-- the bytes before the place, and zeros up to it
abbrev before : List ℕ → ℕ → List ℕ
before old at = take at old ++ replicate (at - length old) 0

length-before : (old : List ℕ) (at : ℕ) → length (before old at) ≡ at
length-before old at = omega (arith, length-append (take at old) (replicate (at - length old) 0), length-take at old, length-replicate {A = ℕ} (at - length old) 0)

four : (a b c d : List ℕ) → a ++ b ++ c ++ d ≡ (a ++ b) ++ (c ++ d)
four a b c d = simp append_assoc refl

-- a write is those bytes, what is written, and what follows
pub overwritten_is : (old : List ℕ) (at : ℕ) (bytes : List ℕ) → overwritten old at bytes ≡ before old at ++ (bytes ++ drop (at + length bytes) old)
overwritten_is old at bytes = four (take at old) (replicate (at - length old) 0) bytes (drop (at + length bytes) old)

-- a front of the bytes before a later place
front-before : (old rest : List ℕ) (at n : ℕ) → take at (before old (at + n) ++ rest) ≡ before old at
front-before old rest at n =
    ⊎_elim
    (λ short.
    let gap : replicate (at + n - length old) 0 ≡ replicate (at - length old) 0 ++ replicate n 0 =
    ap (λ (k : ℕ). replicate k 0) (let z : at + n - length old ≡ (at - length old) + n = omega (arith, short) in z) ∙ sym (replicate-append-replicate (at - length old) n 0) in
    let whole : take (at + n) old ≡ take at old = take_all (at + n) old (omega (arith, short)) ∙ sym (take_all at old (omega (arith, short))) in
    let same : before old (at + n) ++ rest ≡ before old at ++ (replicate n 0 ++ rest) =
    (λ i. (whole i ++ gap i) ++ rest)
    ∙ ap (λ (l : List ℕ). l ++ rest) (sym (append_assoc (take at old) (replicate (at - length old) 0) (replicate n 0)))
    ∙ append_assoc (before old at) (replicate n 0) rest in
    ap (take at) same ∙ ap (λ (k : ℕ). take k (before old at ++ (replicate n 0 ++ rest))) (sym (length-before old at)) ∙ take-append_seam (before old at) (replicate n 0 ++ rest))
    (λ long.
    let none : at - length old ≡ 0 = omega (arith, long) in
    let plain : before old at ≡ take at old = ap (λ (k : ℕ). take at old ++ replicate k 0) none ∙ append-nil (take at old) in
    let within : at ≤ length (take (at + n) old) = omega (arith, length-take (at + n) old, long) in
    ap (take at) (append_assoc (take (at + n) old) (replicate (at + n - length old) 0) rest)
    ∙ take-append-le at (take (at + n) old) (replicate (at + n - length old) 0 ++ rest) within
    ∙ take-take at (at + n) old (omega arith) ∙ sym plain)
    (cases_lt (length old) at)

-- bytes that were written past a place, and then others at it
pub overwritten_both : (old : List ℕ) (at : ℕ) (front back : List ℕ) → overwritten (overwritten old (at + length front) back) at front ≡ overwritten old at (front ++ back)
overwritten_both old at front back =
    let n = length front in
    let tail = drop (at + length front + length back) old in
    let new = before old (at + length front) ++ (back ++ tail) in
    let is : overwritten old (at + length front) back ≡ new = overwritten_is old (at + length front) back in
    let size : length new ≡ at + length front + length (back ++ tail) = length-append (before old (at + length front)) (back ++ tail) ∙ ap (λ (k : ℕ). k + length (back ++ tail)) (length-before old (at + length front)) in
    let none : at - length new ≡ 0 = omega (arith, size) in
    let head : before new at ≡ before old at =
    ap (λ (k : ℕ). take at new ++ replicate k 0) none ∙ append-nil (take at new) ∙ front-before old (back ++ tail) at n in
    let behind : drop (at + length front) new ≡ back ++ tail =
    ap (λ (k : ℕ). drop k new) (sym (length-before old (at + length front))) ∙ drop-append_seam (before old (at + length front)) (back ++ tail) in
    let end : at + length front + length back ≡ at + length (front ++ back) = omega (arith, length-append front back) in
    ap (λ (l : List ℕ). overwritten l at front) is
    ∙ overwritten_is new at front
    ∙ (λ i. head i ++ (front ++ behind i))
    ∙ ap (λ (l : List ℕ). before old at ++ l) (sym (append_assoc front back tail))
    ∙ ap (λ (k : ℕ). before old at ++ ((front ++ back) ++ drop k old)) end
    ∙ sym (overwritten_is old at (front ++ back))

-- a write right after the place of some bytes, and then one of these there, leave what one write of both leaves
pub holds_both : (at : ℕ) (front back old mid new : List ℕ) → Holds (at + length front) back old mid → Holds at front mid new → Holds at (front ++ back) old new
holds_both at front back old mid new early late = late ∙ ap (λ (l : List ℕ). overwritten l at front) early ∙ overwritten_both old at front back

-- the same of writes that may be torn
pub torn_both : (at n m : ℕ) (old mid new : List ℕ) → Torn (at + n) m old mid → Torn at n mid new → Torn at (n + m) old new
torn_both at n m old mid new early late = record {
  no_shorter = omega (arith, early.no_shorter, late.no_shorter);
  no_longer = omega (arith, early.no_longer, late.no_longer);
  others = λ k within out.
      ⊎_elim
      (λ below. late.others k (omega (arith, within, early.no_shorter)) (inl below) ∙ early.others k within (inl (omega (arith, below))))
      (λ above. late.others k (omega (arith, within, early.no_shorter)) (inr (omega (arith, above))) ∙ early.others k within (inr (omega (arith, above))))
      out;
}

-- the earlier of both alone
pub torn_late : (at n m : ℕ) (old new : List ℕ) → Torn (at + n) m old new → Torn at (n + m) old new
torn_late at n m old new torn = torn_both at n m old new new torn (torn_none at n new)

-- two steps of one file
pub changes_both : (file : ℕ) (first second both : List ℕ → List ℕ → Type 0) (old mid new : Files) → ((a b c : List ℕ) → first a b → second b c → both a c)
    → ChangesFile file first old mid → ChangesFile file second mid new → ChangesFile file both old new
changes_both file first second both old mid new join early late = record {
  here = join (old file) (mid file) (new file) early.here late.here;
  others = λ f other. late.others f other ∙ early.others f other;
}
