-- Payloads of blocks, whatever a payload is: `has b p` says that p is a payload of b. For those who join payloads, and cut
-- them.
use Rattle.std.proofs.Common.{◌≡◌, ℕ, zero, suc, ◌+◌, ◌-◌, ◌*◌, List, [], ◌∷◌, ◌++◌, length, take, refl, sym, ◌∙◌, ap, arith, length-append}
use Rattle.std.proofs.lemmas.List.{append-nil}
use Rattle.std.proofs.lemmas.List.Concat.{flat_map-append}
use Rattle.aea_lattice.specs.declared.blocks.BlockId.{BlockId}
use Rattle.aea_archive.specs.Objects.{ArePayloads, joined}

-- payloads of some blocks and of others after them are some of the ones and some of the others
pub record AreSplit (has : BlockId → List ℕ → Type 0) (bs cs : List BlockId) (ps : List (List ℕ)) : Type 0 where
  pub front : List (List ℕ)
  pub back : List (List ℕ)
  pub are : ps ≡ front ++ back
  pub fronts : ArePayloads has bs front
  pub backs : ArePayloads has cs back

module _ (has : BlockId → List ℕ → Type 0) where
  -- payloads of some blocks, and of others after them
  pub payloads_append : (bs cs : List BlockId) (ps qs : List (List ℕ)) → ArePayloads has bs ps → ArePayloads has cs qs → ArePayloads has (bs ++ cs) (ps ++ qs)
  payloads_append [] cs [] qs one two = two
  payloads_append [] cs (p ∷ ps) qs one two = absurd one
  payloads_append (b ∷ bs) cs [] qs one two = absurd one
  payloads_append (b ∷ bs) cs (p ∷ ps) qs one two = (one.0, payloads_append bs cs ps qs one.1 two)

  -- and back
  pub payloads_split : (bs cs : List BlockId) (ps : List (List ℕ)) → ArePayloads has (bs ++ cs) ps → AreSplit has bs cs ps
  payloads_split [] cs ps are = record { front = []; back = ps; are = refl; fronts = tt; backs = are }
  payloads_split (b ∷ bs) cs [] are = absurd are
  payloads_split (b ∷ bs) cs (p ∷ ps) are =
      let rest = payloads_split bs cs ps are.1 in
      record { front = p ∷ rest.front; back = rest.back; are = ap (λ (l : List (List ℕ)). p ∷ l) rest.are; fronts = (are.0, rest.fronts); backs = rest.backs }

-- payloads are payloads by another word too, where each is
pub payloads_as : (has other : BlockId → List ℕ → Type 0) → ((b : BlockId) (p : List ℕ) → has b p → other b p) → (bs : List BlockId) (ps : List (List ℕ)) → ArePayloads has bs ps → ArePayloads other bs ps
payloads_as has other also [] [] are = tt
payloads_as has other also [] (p ∷ ps) are = absurd are
payloads_as has other also (b ∷ bs) [] are = absurd are
payloads_as has other also (b ∷ bs) (p ∷ ps) are = (also b p are.0, payloads_as has other also bs ps are.1)

-- the first bytes of two lists, one after the other
pub take_both : (n : ℕ) (xs ys : List ℕ) → take n (xs ++ ys) ≡ take n xs ++ take (n - length xs) ys
take_both zero xs ys = ap (λ (m : ℕ). take m ys) (let e : 0 ≡ 0 - length xs = omega arith in e)
take_both (suc n) [] ys = ap (λ (m : ℕ). take m ys) (let e : suc n ≡ suc n - 0 = omega arith in e)
take_both (suc n) (x ∷ xs) ys =
    let e : n - length xs ≡ suc n - suc (length xs) = omega arith in
    ap (λ (l : List ℕ). x ∷ l) (take_both n xs ys ∙ ap (λ (m : ℕ). take n xs ++ take m ys) e)

-- the first bytes of a payload are those of it alone
pub take_alone : (p : List ℕ) (most : ℕ) → take most p ≡ take most (joined (p ∷ []))
take_alone p most = ap (take most) (sym (append-nil p))

-- ---- payloads that have the bytes of a block each

module _ (has : BlockId → List ℕ → Type 0) (size : ℕ) (wide : (b : BlockId) (p : List ℕ) → has b p → length p ≡ size) where
  -- so many bytes they have together
  pub length-joined : (bs : List BlockId) (ps : List (List ℕ)) → ArePayloads has bs ps → length (joined ps) ≡ length bs * size
  length-joined [] [] are = let e : 0 ≡ 0 * size = omega arith in e
  length-joined [] (p ∷ ps) are = absurd are
  length-joined (b ∷ bs) [] are = absurd are
  length-joined (b ∷ bs) (p ∷ ps) are =
      let one = wide b p are.0 in
      let rest = length-joined bs ps are.1 in
      let e : suc (length bs) * size ≡ size + length bs * size = omega arith in
      omega (arith, length-append p (joined ps), one, rest, e)

  -- the first bytes of payloads and of others after them
  pub take_joined : (bs : List BlockId) (ps qs : List (List ℕ)) (most : ℕ) → ArePayloads has bs ps → take most (joined (ps ++ qs)) ≡ take most (joined ps) ++ take (most - length bs * size) (joined qs)
  take_joined bs ps qs most are =
      ap (take most) (flat_map-append (λ (p : List ℕ). p) ps qs) ∙ take_both most (joined ps) (joined qs)
      ∙ ap (λ (n : ℕ). take most (joined ps) ++ take (most - n) (joined qs)) (length-joined bs ps are)
