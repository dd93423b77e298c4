-- Pieces of bytes one after the other: digests, and parts.
use Rattle.std.proofs.Common.{◌≡◌, ℕ, zero, suc, ◌+◌, ◌-◌, ◌*◌, ◌^◌, ◌<◌, ◌≤◌, true, ◌&&◌, List, [], ◌∷◌, ◌++◌, length, take, drop, All, refl, ap, ◌∙◌, append_assoc, arith}
use Rattle.std.specs.Prelude.{nat_le, nat_lt}
use Rattle.std.specs.List.{flat_map}
use Rattle.std.specs.Int.{w32, to_be_bytes, from_be_bytes}
use Rattle.std.proofs.lemmas.Nat.{from_be_bytes-to_be_bytes_4}
use Rattle.std.proofs.lemmas.Bool.{and_parts, leb-true, ltb-true}
use Rattle.std.proofs.lemmas.List.{take_at, drop_at, take-append-drop, length-append, length-take, length-drop}
use Rattle.std.proofs.lemmas.List.Elements.{All-nil, All-cons, All-head, All-tail, All-take, All-drop}
use Rattle.aea_lattice.specs.Data.{IsBytes}
use Rattle.aea_catalog.specs.declared.objects.Extent.{Extent}
use Rattle.aea_records.specs.Tables.{bytes_at}
use Rattle.aea_records.specs.TableLaws.{AreBytes}
use Rattle.aea_records.specs.Format.{part}
use Rattle.aea_records.specs.Fields.{pieces, extents, are_apart}

-- lists of w bytes each, joined, have w bytes for each list
pub length-joined : (w : ℕ) (ds : List (List ℕ)) → All (IsBytes w) ds → length (flat_map (λ d. d) ds) ≡ w * length ds
length-joined w [] each = omega arith
length-joined w (d ∷ ds) each =
    let first = (All-head (IsBytes w) d ds each).wide in
    let rest = length-joined w ds (All-tail (IsBytes w) d ds each) in
    let size = length-append d (flat_map (λ e. e) ds) in
    let step : w * length (d ∷ ds) ≡ w + w * length ds = step_of w (length ds) in
    omega (arith, size, first, rest, step)
  where
    step_of : (w n : ℕ) → w * suc n ≡ w + w * n
    step_of w n = omega arith

-- pieces that are joined are found again
pub pieces_again : (w : ℕ) (ds : List (List ℕ)) → All (IsBytes w) ds → pieces w (length ds) (flat_map (λ d. d) ds) ≡ ds
pieces_again w [] each = refl
pieces_again w (d ∷ ds) each =
    let wide : length d ≡ w = (All-head (IsBytes w) d ds each).wide in
    let first : take w (d ++ flat_map (λ e. e) ds) ≡ d = take_at d (flat_map (λ e. e) ds) w wide in
    let others : drop w (d ++ flat_map (λ e. e) ds) ≡ flat_map (λ e. e) ds = drop_at d (flat_map (λ e. e) ds) w wide in
    λ i. first i ∷ (ap (pieces w (length ds)) others ∙ pieces_again w ds (All-tail (IsBytes w) d ds each)) i

-- and what is cut in pieces is joined again
pub joined_again : (w n : ℕ) (bytes : List ℕ) → length bytes ≡ w * n → flat_map (λ d. d) (pieces w n bytes) ≡ bytes
joined_again w zero bytes size = nothing bytes (omega (arith, size))
  where
    nothing : (xs : List ℕ) → length xs ≡ 0 → [] ≡ xs
    nothing [] e = refl
    nothing (x ∷ xs) e = absurd (omega (arith, e))
joined_again w (suc n) bytes size =
    let step : w * suc n ≡ w + w * n = step_of w n in
    ap (λ (l : List ℕ). take w bytes ++ l) (joined_again w n (drop w bytes) (omega (arith, length-drop w bytes, size, step)))
    ∙ take-append-drop w bytes
  where
    step_of : (w n : ℕ) → w * suc n ≡ w + w * n
    step_of w n = omega arith

-- n pieces are cut where n are asked for, whatever the bytes are
pub length-pieces : (w n : ℕ) (bytes : List ℕ) → length (pieces w n bytes) ≡ n
length-pieces w zero bytes = refl
length-pieces w (suc n) bytes = ap suc (length-pieces w n (drop w bytes))

-- w n bytes that are cut in n pieces are cut in pieces of w bytes
pub each-piece : (w n : ℕ) (bytes : List ℕ) → length bytes ≡ w * n → AreBytes bytes → All (IsBytes w) (pieces w n bytes)
each-piece w zero bytes size are = All-nil (IsBytes w)
each-piece w (suc n) bytes size are =
    let step : w * suc n ≡ w + w * n = step_of w n in
    All-cons (IsBytes w) (take w bytes) (pieces w n (drop w bytes))
    (record { wide = omega (arith, length-take w bytes, size, step); each = All-take (λ b. b < 2 ^ 8) w bytes are })
    (each-piece w n (drop w bytes) (omega (arith, length-drop w bytes, size, step)) (All-drop (λ b. b < 2 ^ 8) w bytes are))
  where
    step_of : (w n : ℕ) → w * suc n ≡ w + w * n
    step_of w n = omega arith

-- ---- parts

-- parts are spelled in 8 bytes each
pub length-parts : (parts : List Extent) → length (flat_map part parts) ≡ 8 * length parts
length-parts [] = refl
length-parts (e ∷ parts) = omega (arith, length-append (part e) (flat_map part parts), length-parts parts, length-append (to_be_bytes w32 e.first) (to_be_bytes w32 e.count))

-- the numbers of a part can be written
abbrev pub IsNarrow : Extent → Type 0
IsNarrow e = (e.first < 2 ^ 32) × (e.count < 2 ^ 32)

-- parts whose numbers are below 2^32 are read again from their spelling
pub extents_again : (parts : List Extent) → All IsNarrow parts → extents (length parts) (flat_map part parts) ≡ parts
extents_again [] narrow = refl
extents_again (e ∷ parts) narrow =
    let mine = All-head IsNarrow e parts narrow in
    let rest : List ℕ = flat_map part parts in
    let grouped : part e ++ rest ≡ to_be_bytes w32 e.first ++ (to_be_bytes w32 e.count ++ rest) = append_assoc (to_be_bytes w32 e.first) (to_be_bytes w32 e.count) rest in
    let first : from_be_bytes w32 (bytes_at 4 0 (part e ++ rest)) ≡ e.first =
    ap (λ (l : List ℕ). from_be_bytes w32 (bytes_at 4 0 l)) grouped ∙ ap (from_be_bytes w32) (take_at (to_be_bytes w32 e.first) (to_be_bytes w32 e.count ++ rest) 4 refl) ∙ from_be_bytes-to_be_bytes_4 e.first mine.0 in
    let count : from_be_bytes w32 (bytes_at 4 4 (part e ++ rest)) ≡ e.count =
    ap (λ (l : List ℕ). from_be_bytes w32 (bytes_at 4 4 l)) grouped
    ∙ ap (λ (l : List ℕ). from_be_bytes w32 (take 4 l)) (drop_at (to_be_bytes w32 e.first) (to_be_bytes w32 e.count ++ rest) 4 refl)
    ∙ ap (from_be_bytes w32) (take_at (to_be_bytes w32 e.count) rest 4 refl) ∙ from_be_bytes-to_be_bytes_4 e.count mine.1 in
    let others : drop 8 (part e ++ rest) ≡ rest = drop_at (part e) rest 8 refl in
    λ i. record { first = first i; count = count i } ∷ (ap (extents (length parts)) others ∙ extents_again parts (All-tail IsNarrow e parts narrow)) i

-- parts that lie apart are not too many, and narrow
pub few-parts : (after nodes : ℕ) (parts : List Extent) → are_apart after nodes parts ≡ true → nodes < 2 ^ 31 → (length parts ≤ nodes - after) × All IsNarrow parts
few-parts after nodes [] apart small = (omega arith, All-nil IsNarrow)
few-parts after nodes (e ∷ parts) apart small =
    let a = and_parts (nat_lt after e.first && nat_le 1 e.count && nat_le (e.first + e.count) (nodes + 1)) (are_apart (e.first + e.count - 1) nodes parts) apart in
    let b = and_parts (nat_lt after e.first && nat_le 1 e.count) (nat_le (e.first + e.count) (nodes + 1)) a.0 in
    let c = and_parts (nat_lt after e.first) (nat_le 1 e.count) b.0 in
    let first = ltb-true after e.first c.0 in
    let some = leb-true 1 e.count c.1 in
    let within = leb-true (e.first + e.count) (nodes + 1) b.1 in
    let more = few-parts (e.first + e.count - 1) nodes parts a.1 small in
    (omega (arith, first, some, within, more.0), All-cons IsNarrow e parts (omega (arith, within, small), omega (arith, within, small)) more.1)
