-- Parts that are read are spelled again.
use Rattle.std.proofs.Common.{◌≡◌, ℕ, zero, suc, ◌+◌, ◌*◌, ◌^◌, ◌<◌, List, [], ◌∷◌, ◌++◌, length, take, drop, refl, sym, ap, ◌∙◌, append_assoc, arith}
use Rattle.std.specs.List.{flat_map}
use Rattle.std.specs.Int.{w32, to_be_bytes, from_be_bytes}
use Rattle.std.proofs.lemmas.List.{take-append-drop, length-take, length-drop, drop-drop}
use Rattle.std.proofs.lemmas.List.Elements.{All-take, All-drop}
use Rattle.aea_records.specs.Tables.{bytes_at}
use Rattle.aea_records.specs.TableLaws.{AreBytes}
use Rattle.aea_records.proofs.Numbers.{wide32}
use Rattle.aea_records.specs.Format.{part}
use Rattle.aea_records.specs.Fields.{extents}

nothing : (xs : List ℕ) → length xs ≡ 0 → xs ≡ []
nothing [] e = refl
nothing (x ∷ xs) e = absurd (omega (arith, e))

-- 8 n bytes are read as n parts, which are spelled by these bytes
pub extents_spelled : (n : ℕ) (bytes : List ℕ) → AreBytes bytes → length bytes ≡ 8 * n → (length (extents n bytes) ≡ n) × (bytes ≡ flat_map part (extents n bytes))
extents_spelled zero bytes are size = (refl, nothing bytes (omega (arith, size)))
extents_spelled (suc n) bytes are size =
    let P : ℕ → Type 0 = λ b. b < 2 ^ 8 in
    let step : 8 * suc n ≡ 8 + 8 * n = omega arith in
    let more = extents_spelled n (drop 8 bytes) (All-drop (λ b. b < 2 ^ 8) 8 bytes are) (omega (arith, length-drop 8 bytes, size, step)) in
    let first : to_be_bytes w32 (from_be_bytes w32 (bytes_at 4 0 bytes)) ≡ take 4 bytes = wide32.back (take 4 bytes) (omega (arith, length-take 4 bytes, size, step)) (All-take (λ b. b < 2 ^ 8) 4 bytes are) in
    let count : to_be_bytes w32 (from_be_bytes w32 (bytes_at 4 4 bytes)) ≡ take 4 (drop 4 bytes) =
    wide32.back (take 4 (drop 4 bytes)) (omega (arith, length-take 4 (drop 4 bytes), length-drop 4 bytes, size, step)) (All-take (λ b. b < 2 ^ 8) 4 (drop 4 bytes) (All-drop (λ b. b < 2 ^ 8) 4 bytes are)) in
    let rest : drop 4 (drop 4 bytes) ≡ drop 8 bytes = drop-drop 4 4 bytes in (
      ap suc more.0,
      sym (take-append-drop 4 bytes) ∙ (λ i. sym first i ++ (sym (take-append-drop 4 (drop 4 bytes)) ∙ (λ j. sym count j ++ (rest ∙ more.1) j)) i)
          ∙ sym (append_assoc (to_be_bytes w32 (from_be_bytes w32 (bytes_at 4 0 bytes))) (to_be_bytes w32 (from_be_bytes w32 (bytes_at 4 4 bytes))) (flat_map part (extents n (drop 8 bytes)))),
    )
