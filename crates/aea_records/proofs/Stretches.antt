-- Where a part of a list of bytes lies, and the numbers that parts spell.
use Rattle.std.proofs.Common.{◌≡◌, ℕ, ◌+◌, ◌-◌, ◌^◌, ◌<◌, ◌≤◌, List, ◌++◌, length, get_or, take, drop, sym, ap, subst, ◌∙◌, arith, inl, inr}
use Rattle.std.proofs.lemmas.Bool.{cases_lt}
use Rattle.std.proofs.lemmas.List.{take_at, drop_at, take-append-drop, length-append, length-take, length-drop, get_or_past, drop-drop, drop-take, take-take}
use Rattle.std.proofs.lemmas.List.Elements.{All-take, All-drop, All-get_or}
use Rattle.aea_records.specs.TableLaws.{AreBytes}
use Rattle.aea_records.specs.Tables.{bytes_at}

-- this rest lies within the bytes, from this place on
pub record Stands (bytes : List ℕ) (at : ℕ) (rest : List ℕ) : Type 0 where
  pub within : at ≤ length bytes
  pub same : drop at bytes ≡ rest

-- what follows a part lies after it
pub part_stands : (bytes part rest : List ℕ) (at n next : ℕ) → Stands bytes at (part ++ rest) → length part ≡ n → at + n ≡ next
    → (bytes_at n at bytes ≡ part) × Stands bytes next rest
part_stands bytes part rest at n next s long sum =
    let same : bytes_at n at bytes ≡ part = ap (take n) s.same ∙ take_at part rest n long in
    let after : drop next bytes ≡ rest =
    ap (λ (k : ℕ). drop k bytes) (sym sum) ∙ sym (drop-drop n at bytes) ∙ ap (drop n) s.same ∙ drop_at part rest n long in
    let size : length bytes - at ≡ length part + length rest = sym (length-drop at bytes) ∙ ap length s.same ∙ length-append part rest in
    (same, record { within = omega (arith, s.within, size, long, sum); same = after })

-- the bytes from a place on are the part there and what follows it
pub part_splits : (bytes : List ℕ) (at n next : ℕ) → at + n ≡ next → drop at bytes ≡ bytes_at n at bytes ++ drop next bytes
part_splits bytes at n next sum =
    sym (take-append-drop n (drop at bytes)) ∙ ap (λ (l : List ℕ). bytes_at n at bytes ++ l) (drop-drop n at bytes ∙ ap (λ (k : ℕ). drop k bytes) sum)

-- a part within the bytes is as long as it says
pub length-bytes_at : (bytes : List ℕ) (at n : ℕ) → at + n ≤ length bytes → length (bytes_at n at bytes) ≡ n
length-bytes_at bytes at n h = omega (arith, length-take n (drop at bytes), length-drop at bytes)

-- a part that ends within a front is one of the front
pub front-bytes_at : (bytes : List ℕ) (at n size : ℕ) → at + n ≤ size → bytes_at n at (take size bytes) ≡ bytes_at n at bytes
front-bytes_at bytes at n size h =
    let sum : size ≡ at + (size - at) = omega arith in
    let front : drop at (take size bytes) ≡ take (size - at) (drop at bytes) =
    ap (λ (k : ℕ). drop at (take k bytes)) sum ∙ drop-take at (size - at) bytes in
    ap (take n) front ∙ take-take n (size - at) (drop at bytes) (omega arith)

-- a part of a front of bytes is of bytes
pub part-AreBytes : (bytes : List ℕ) (at n size : ℕ) → at + n ≤ size → AreBytes (take size bytes) → AreBytes (bytes_at n at bytes)
part-AreBytes bytes at n size h fits =
    subst AreBytes (front-bytes_at bytes at n size h)
    (All-take (λ b. b < 2 ^ 8) n (drop at (take size bytes)) (All-drop (λ b. b < 2 ^ 8) at (take size bytes) fits))

-- each byte is below 256, and so is what is read past the end
byte_below : (bytes : List ℕ) → AreBytes bytes → (i : ℕ) → get_or bytes i 0 < 256
byte_below bytes fits i =
    elim (cases_lt i (length bytes)) [
      | inl lt ↦ All-get_or (λ b. b < 2 ^ 8) bytes i 0 lt fits
      | inr le ↦ rw (get_or_past bytes i 0 le) (omega arith)
    ]
