-- How long the entry of an object in parts is.
use Rattle.std.proofs.Common.{◌≡◌, ℕ, suc, ◌+◌, ◌*◌, ◌<◌, List, [], ◌∷◌, length, get_or, refl, ◌∙◌, arith}
use Rattle.std.specs.List.{flat_map}
use Rattle.std.specs.Int.{w32, to_be_bytes}
use Rattle.std.proofs.lemmas.List.{length-append}
use Rattle.aea_catalog.specs.declared.objects.Extent.{Extent}
use Rattle.aea_records.specs.Format.{Stored, Joined, front, part, rest_of, entry}
use Rattle.aea_records.proofs.Sizes.{length-front, length-four}

-- a part has 8 bytes
length-parts : (parts : List Extent) → length (flat_map part parts) ≡ 8 * length parts
length-parts [] = refl
length-parts (e ∷ parts) = omega (arith, length-append (part e) (flat_map part parts), length-parts parts, length-append (to_be_bytes w32 e.first) (to_be_bytes w32 e.count))

-- lists of one length, one after the other
length-alike : (n : ℕ) (ds : List (List ℕ)) → ((i : ℕ) → i < length ds → length (get_or ds i []) ≡ n) → length (flat_map (λ d. d) ds) ≡ n * length ds
length-alike n [] long = let e : 0 ≡ n * 0 = omega arith in e
length-alike n (d ∷ ds) long =
    let rest = length-alike n ds (λ i inside. long (suc i) (omega (arith, inside))) in
    let one = long 0 (omega arith) in
    let e : n * length (d ∷ ds) ≡ n + n * length ds = omega arith in
    length-append d (flat_map (λ (x : List ℕ). x) ds) ∙ omega (arith, rest, one, e)

-- The entry of an object in parts has 60 bytes, those of its name, 8 for each part and 32 for each block's digest, where each
-- digest, the object's too, has 32.
pub length-parted : (o : Stored) (parts : List Extent) → length o.digest ≡ 32 → ((i : ℕ) → i < length o.digests → length (get_or o.digests i []) ≡ 32)
    → length (entry (Joined o parts)) ≡ 60 + length o.name + 8 * length parts + 32 * length o.digests
length-parted o parts wide long =
    let four = length-four (front o) (to_be_bytes w32 (length parts)) (flat_map part parts) (flat_map (λ (d : List ℕ). d) o.digests) refl in
    let rest : length (rest_of (Joined o parts)) ≡ 54 + length o.name + 8 * length parts + 32 * length o.digests =
    omega (arith, four, length-front o wide, length-parts parts, length-alike 32 o.digests long) in
    let size : length (entry (Joined o parts)) ≡ 6 + length (rest_of (Joined o parts)) = omega (arith, length-append (to_be_bytes w32 (length (rest_of (Joined o parts)))) (rest_of (Joined o parts))) in
    omega (arith, size, rest)
