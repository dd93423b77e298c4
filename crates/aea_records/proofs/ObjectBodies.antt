-- What the bytes that come before the digests of an object make with these: its record's body.
use Rattle.std.proofs.Common.{◌≡◌, ℕ, ◌+◌, ◌*◌, List, ◌∷◌, ◌++◌, length, refl, ap, ◌∙◌, append_assoc, arith}
use Rattle.std.specs.List.{flat_map}
use Rattle.std.specs.Int.{w32, to_be_bytes}
use Rattle.std.proofs.lemmas.List.{length-append}
use Rattle.aea_catalog.specs.declared.objects.Extent.{Extent}
use Rattle.aea_records.specs.Format.{Stored, Object, Joined, front, part, rest_of, body}
use Rattle.aea_records.proofs.Pieces.{length-parts}
use Rattle.aea_records.proofs.Sizes.{length-front, length-four}

-- what comes before the digests of an object whose nodes are all new, and these
pub alone_is : (o : Stored) (bytes : List ℕ) (rest : ℕ) → length o.digest ≡ 32 → rest ≡ 50 + length o.name + length (flat_map (λ d. d) o.digests)
    → bytes ≡ 1 ∷ to_be_bytes w32 rest ++ front o → bytes ++ flat_map (λ d. d) o.digests ≡ body (Object o)
alone_is o bytes rest wide long is =
    let more = flat_map (λ (d : List ℕ). d) o.digests in
    let size : rest ≡ length (rest_of (Object o)) = omega (arith, long, length-append (front o) more, length-front o wide) in
    ap (λ (l : List ℕ). l ++ more) is
    ∙ ap (λ (l : List ℕ). 1 ∷ l) (append_assoc (to_be_bytes w32 rest) (front o) more)
    ∙ ap (λ (n : ℕ). 1 ∷ to_be_bytes w32 n ++ (front o ++ more)) size

group : (a b c d e : List ℕ) → (((a ++ b) ++ c) ++ d) ++ e ≡ a ++ (b ++ c ++ d ++ e)
group a b c d e = simp append_assoc refl

-- the same of an object in parts
pub joined_is : (o : Stored) (parts : List Extent) (start more bytes : List ℕ) (rest : ℕ) → length o.digest ≡ 32
    → rest ≡ 54 + length o.name + 8 * length parts + length (flat_map (λ d. d) o.digests)
    → start ≡ 3 ∷ to_be_bytes w32 rest ++ front o → more ≡ start ++ to_be_bytes w32 (length parts) → bytes ≡ more ++ flat_map part parts
    → bytes ++ flat_map (λ d. d) o.digests ≡ body (Joined o parts)
joined_is o parts start more bytes rest wide long first second third =
    let digests = flat_map (λ (d : List ℕ). d) o.digests in
    let count = to_be_bytes w32 (length parts) in
    let extents = flat_map part parts in
    let size : rest ≡ length (rest_of (Joined o parts)) =
    omega (arith, long, length-four (front o) (to_be_bytes w32 (length parts)) (flat_map part parts) (flat_map (λ (d : List ℕ). d) o.digests) refl, length-front o wide, length-parts parts) in
    ap (λ (l : List ℕ). l ++ digests) (third ∙ ap (λ (l : List ℕ). l ++ extents) (second ∙ ap (λ (l : List ℕ). l ++ count) first))
    ∙ ap (λ (l : List ℕ). 3 ∷ l) (group (to_be_bytes w32 rest) (front o) count extents digests)
    ∙ ap (λ (n : ℕ). 3 ∷ to_be_bytes w32 n ++ (rest_of (Joined o parts))) size
