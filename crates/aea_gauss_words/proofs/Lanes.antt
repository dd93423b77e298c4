-- XOR of runs of words, eight at a time.
use Rattle.std.proofs.Common.{◌≡◌, ℕ, ◌+◌, ◌-◌, ◌<◌, ◌≤◌, inl, inr, List, length, get_or, bit_xor, refl, sym, ◌∙◌, ap, arith}
use Rattle.std.specs.Simd.Lanes.{chunk, put_chunk, zip2}
use Rattle.std.proofs.lemmas.Simd.{length-chunk, length-zip2, length-put_chunk, get_or-chunk, get_or-zip2, get_or-put_chunk_below, get_or-put_chunk_at, get_or-put_chunk_above}
use Rattle.std.proofs.lemmas.Bool.{cases_lt}
use Rattle.aea_gauss_words.specs.Words.{Adds, Apart}
use Rattle.std.proofs.Math.ListN.{set}
use Rattle.std.proofs.lemmas.List.{get_or-set_same, get_or-set_other, length-set}

-- The XOR of two chunks of a list, put back into it.
pub adds_chunk : (xs : List ℕ) (from into n : ℕ) → from + n ≤ length xs → into + n ≤ length xs
    → Adds from into n xs (put_chunk into xs (zip2 bit_xor (chunk into n xs) (chunk from n xs)))
adds_chunk xs from into n room_from room =
    let lx : length (chunk into n xs) ≡ n = length-chunk into n xs room in
    let ly : length (chunk from n xs) ≡ n = length-chunk from n xs room_from in
    let lz : length (zip2 bit_xor (chunk into n xs) (chunk from n xs)) ≡ n = length-zip2 bit_xor (chunk into n xs) (chunk from n xs) (lx ∙ sym ly) ∙ lx in
    record {
      long = length-put_chunk into xs (zip2 bit_xor (chunk into n xs) (chunk from n xs));
      inside = λ t less.
          get_or-put_chunk_at into xs (zip2 bit_xor (chunk into n xs) (chunk from n xs)) t 0 (omega arith) (omega arith)
          ∙ get_or-zip2 bit_xor (chunk into n xs) (chunk from n xs) t 0 0 0 (omega arith) (omega arith)
          ∙ ap (λ x. bit_xor x (get_or (chunk from n xs) t 0)) (get_or-chunk into n xs t 0 less)
          ∙ ap (bit_xor (get_or xs (into + t) 0)) (get_or-chunk from n xs t 0 less);
      outside = λ k side. elim side [
        | inl below ↦ get_or-put_chunk_below into xs (zip2 bit_xor (chunk into n xs) (chunk from n xs)) k 0 below
        | inr above ↦ get_or-put_chunk_above into xs (zip2 bit_xor (chunk into n xs) (chunk from n xs)) k 0 (omega arith)
      ];
    }

pub adds_none : (xs : List ℕ) (from into : ℕ) → Adds from into 0 xs xs
adds_none xs from into = record { long = refl; inside = λ t less. absurd (omega arith); outside = λ k side. refl }

-- a run and the next n words of it
pub adds_more : (from into d n : ℕ) (old now new : List ℕ) → Apart from into (d + n) → Adds from into d old now → Adds (from + d) (into + d) n now new → Adds from into (d + n) old new
adds_more from into d n old now new apart before after = record {
  long = after.long ∙ before.long;
  inside = λ t less. elim (cases_lt t d) [
    | inl below ↦ after.outside (into + t) (inl (omega arith)) ∙ before.inside t below
    | inr above ↦
        (let j : ℕ = t - d in
        let place : into + d + j ≡ into + t = omega arith in
        let source : from + d + j ≡ from + t = omega arith in
        ap (λ i. get_or new i 0) (sym place)
        ∙ after.inside j (omega arith)
        ∙ ap (λ i. bit_xor (get_or now i 0) (get_or now (from + d + j) 0)) place
        ∙ ap (λ i. bit_xor (get_or now (into + t) 0) (get_or now i 0)) source
        ∙ ap (λ x. bit_xor x (get_or now (from + t) 0)) (before.outside (into + t) (inr (omega arith)))
        ∙ ap (bit_xor (get_or old (into + t) 0))
        (elim apart [
          | inl f ↦ before.outside (from + t) (inl (omega arith))
          | inr f ↦ before.outside (from + t) (inr (omega arith))
        ]))
  ];
  outside = λ k side. elim side [
    | inl below ↦ after.outside k (inl (omega arith)) ∙ before.outside k (inl below)
    | inr above ↦ after.outside k (inr (omega arith)) ∙ before.outside k (inr (omega arith))
  ];
}

-- where `at` words of a run have become their XOR with those of a run apart from it, and the next is set to its
-- XOR, at + 1 words have
pub adds_set : (at from into : ℕ) (old now : List ℕ) → into + at < length old → Apart from into (at + 1) → Adds from into at old now
    → Adds from into (at + 1) old (set now (into + at) (bit_xor (get_or now (into + at) 0) (get_or now (from + at) 0)))
adds_set at from into old now room apart before =
    let v = bit_xor (get_or now (into + at) 0) (get_or now (from + at) 0) in
    record {
      long = length-set now (into + at) v ∙ before.long;
      inside = λ t less. elim (cases_lt t at) [
        | inl below ↦ get_or-set_other now (into + at) (into + t) v 0 (λ e. omega arith) ∙ before.inside t below
        | inr above ↦
            (let same : at ≡ t = omega arith in
            let inside : into + at < length now = (let l = before.long in omega arith) in
            ap (λ i. get_or (set now (into + at) v) (into + i) 0) (sym same)
            ∙ get_or-set_same now (into + at) v 0 inside
            ∙ ap (λ x. bit_xor x (get_or now (from + at) 0)) (before.outside (into + at) (inr (omega arith)))
            ∙ ap (bit_xor (get_or old (into + at) 0))
            (elim apart [
              | inl f ↦ before.outside (from + at) (inl (omega arith))
              | inr f ↦ before.outside (from + at) (inr (omega arith))
            ])
            ∙ ap (λ i. bit_xor (get_or old (into + i) 0) (get_or old (from + i) 0)) same)
      ];
      outside = λ k side. elim side [
        | inl below ↦ get_or-set_other now (into + at) k v 0 (λ e. omega arith) ∙ before.outside k (inl below)
        | inr above ↦ get_or-set_other now (into + at) k v 0 (λ e. omega arith) ∙ before.outside k (inr (omega arith))
      ];
    }
