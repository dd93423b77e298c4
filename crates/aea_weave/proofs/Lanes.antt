-- XOR of runs of numbers, so many at a time.
use Rattle.std.proofs.Common.{◌≡◌, ℕ, ◌+◌, ◌-◌, ◌<◌, ◌≤◌, inl, inr, List, length, get_or, bit_xor, refl, sym, ◌∙◌, ap, arith}
use Rattle.std.specs.Simd.Lanes.{chunk, put_chunk, zip2}
use Rattle.std.proofs.Math.ListN.{set}
use Rattle.std.proofs.lemmas.Simd.{length-chunk, length-zip2, length-put_chunk, get_or-chunk, get_or-zip2, get_or-put_chunk_below, get_or-put_chunk_at, get_or-put_chunk_above}
use Rattle.std.proofs.lemmas.Bool.{cases_lt}
use Rattle.std.proofs.lemmas.List.{get_or-set_same, get_or-set_other, get_or_past, length-set}
use Rattle.aea_lattice.specs.Data.{xor_bytes}
use Rattle.aea_lattice.proofs.Sums.{length-xor_bytes}
use Rattle.aea_lattice.proofs.Bits.{bytes_same, get_or-xor}
use Rattle.aea_weave.specs.Runs.{Xors}

-- the XOR of two chunks, put back into the first list
pub xors_chunk : (xs ys : List ℕ) (at n : ℕ) → length ys ≡ length xs → at + n ≤ length xs
    → Xors at (at + n) xs ys (put_chunk at xs (zip2 bit_xor (chunk at n xs) (chunk at n ys)))
xors_chunk xs ys at n long room = record {
  long = length-put_chunk at xs (zip2 bit_xor (chunk at n xs) (chunk at n ys));
  inside = λ k first last.
      (let j : ℕ = k - at in
      let place : at + j ≡ k = omega arith in
      let lx : length (chunk at n xs) ≡ n = length-chunk at n xs room in
      let ly : length (chunk at n ys) ≡ n = length-chunk at n ys (omega arith) in
      let lz : length (zip2 bit_xor (chunk at n xs) (chunk at n ys)) ≡ n = length-zip2 bit_xor (chunk at n xs) (chunk at n ys) (lx ∙ sym ly) ∙ lx in
      ap (λ i. get_or (put_chunk at xs (zip2 bit_xor (chunk at n xs) (chunk at n ys))) i 0) (sym place)
      ∙ get_or-put_chunk_at at xs (zip2 bit_xor (chunk at n xs) (chunk at n ys)) j 0 (omega arith) (omega arith)
      ∙ get_or-zip2 bit_xor (chunk at n xs) (chunk at n ys) j 0 0 0 (omega arith) (omega arith)
      ∙ ap (λ x. bit_xor x (get_or (chunk at n ys) j 0)) (get_or-chunk at n xs j 0 (omega arith))
      ∙ ap (bit_xor (get_or xs (at + j) 0)) (get_or-chunk at n ys j 0 (omega arith))
      ∙ ap (λ i. bit_xor (get_or xs i 0) (get_or ys i 0)) place);
  outside = λ k side. elim side [
    | inl below ↦ get_or-put_chunk_below at xs (zip2 bit_xor (chunk at n xs) (chunk at n ys)) k 0 below
    | inr above ↦
        (let lx : length (chunk at n xs) ≡ n = length-chunk at n xs room in
        let ly : length (chunk at n ys) ≡ n = length-chunk at n ys (omega arith) in
        let lz : length (zip2 bit_xor (chunk at n xs) (chunk at n ys)) ≡ n = length-zip2 bit_xor (chunk at n xs) (chunk at n ys) (lx ∙ sym ly) ∙ lx in
        get_or-put_chunk_above at xs (zip2 bit_xor (chunk at n xs) (chunk at n ys)) k 0 (omega arith))
  ];
}

-- nothing was added yet
pub xors_none : (xs ys : List ℕ) (at : ℕ) → Xors at at xs ys xs
xors_none xs ys at = record { long = refl; inside = λ k first last. absurd (omega arith); outside = λ k side. refl }

-- one run after another
pub xors_more : (from mid to : ℕ) (old src now new : List ℕ) → from ≤ mid → mid ≤ to → Xors from mid old src now → Xors mid to now src new → Xors from to old src new
xors_more from mid to old src now new first last before after = record {
  long = after.long ∙ before.long;
  inside = λ k low high. elim (cases_lt k mid) [
    | inl below ↦ after.outside k (inl below) ∙ before.inside k low below
    | inr above ↦ after.inside k above high ∙ ap (λ x. bit_xor x (get_or src k 0)) (before.outside k (inr above))
  ];
  outside = λ k side. elim side [
    | inl below ↦ after.outside k (inl (omega arith)) ∙ before.outside k (inl below)
    | inr above ↦ after.outside k (inr above) ∙ before.outside k (inr (omega arith))
  ];
}

-- one word more
pub xors_set : (k : ℕ) (old src now : List ℕ) → k < length old → Xors 0 k old src now → Xors 0 (k + 1) old src (set now k (bit_xor (get_or now k 0) (get_or src k 0)))
xors_set k old src now less before = record {
  long = length-set now k (bit_xor (get_or now k 0) (get_or src k 0)) ∙ before.long;
  inside = λ j low high. elim (cases_lt j k) [
    | inl below ↦ get_or-set_other now k j (bit_xor (get_or now k 0) (get_or src k 0)) 0 (λ e. omega arith) ∙ before.inside j low below
    | inr above ↦
        (let same : k ≡ j = omega arith in
        let room : k < length now = (let l = before.long in omega arith) in
        ap (λ i. get_or (set now k (bit_xor (get_or now k 0) (get_or src k 0))) i 0) (sym same)
        ∙ get_or-set_same now k (bit_xor (get_or now k 0) (get_or src k 0)) 0 room
        ∙ ap (λ x. bit_xor x (get_or src k 0)) (before.outside k (inr (omega arith)))
        ∙ ap (λ i. bit_xor (get_or old i 0) (get_or src i 0)) same)
  ];
  outside = λ j side. elim side [
    | inl below ↦ absurd (omega arith)
    | inr above ↦ get_or-set_other now k j (bit_xor (get_or now k 0) (get_or src k 0)) 0 (λ e. omega arith) ∙ before.outside j (inr (omega arith))
  ];
}

-- where all numbers have become their XOR with those of a source as long, the list is the XOR of the two
pub xors_whole : (old src new : List ℕ) → length old ≡ length src → Xors 0 (length old) old src new → new ≡ xor_bytes old src
xors_whole old src new long h =
    bytes_same new (xor_bytes old src) (h.long ∙ sym (length-xor_bytes old src long ∙ sym long))
    (λ j. elim (cases_lt j (length old)) [
      | inl less ↦ h.inside j (omega arith) less ∙ sym (get_or-xor old src j long)
      | inr past ↦
          get_or_past new j 0 (let l = h.long in omega arith)
          ∙ sym (get_or_past (xor_bytes old src) j 0 (let l = length-xor_bytes old src long in omega arith))
    ])
