-- How long the fields of a record are.
use Rattle.std.proofs.Common.{◌≡◌, ℕ, suc, ◌+◌, ◌*◌, ◌<◌, ◌≤◌, Bool, true, false, List, [], ◌∷◌, ◌++◌, length, get_or, refl, ap, ◌∙◌, arith}
use Rattle.std.specs.List.{flat_map, list_any}
use Rattle.std.specs.Int.{w16, w32, w64, to_be_bytes}
use Rattle.std.proofs.lemmas.Nat.{mul-le}
use Rattle.std.proofs.lemmas.List.{length-append}
use Rattle.aea_lattice.specs.declared.shape.Shape.{Shape}
use Rattle.aea_catalog.specs.declared.objects.Extent.{Extent}
use Rattle.aea_records.specs.Format.{Stored, Record, Object, Joined, front, part, rest_of, entry, limit_when, limit_of, raised_limit, nodes_of, is_raise}
use Rattle.aea_records.specs.Grammar.{MayBeStored}
use Rattle.aea_records.proofs.Shapes.{alpha_small}
use Rattle.aea_records.proofs.Pieces.{length-joined, length-parts}

-- the limit on nodes, raised or not, is at most the raised one
pub limit_small : (raised : Bool) → limit_when raised ≤ raised_limit
limit_small true = omega arith
limit_small false = omega arith

six : (a b c d e f : List ℕ) → length a ≡ 2 → length c ≡ 8 → length d ≡ 32 → length e ≡ 4 → length f ≡ 4 → length (a ++ b ++ c ++ d ++ e ++ f) ≡ 50 + length b
six a b c d e f pa pc pd pe pf = simp (length-append) (omega arith)

-- the first fields of an object have 50 bytes and those of its name
pub length-front : (o : Stored) → length o.digest ≡ 32 → length (front o) ≡ 50 + length o.name
length-front o wide = six (to_be_bytes w16 (length o.name)) o.name (to_be_bytes w64 o.size) o.digest (to_be_bytes w32 o.first) (to_be_bytes w32 o.count) refl refl wide refl refl

-- four lists, of which the second has four elements
pub length-four : (a b c d : List ℕ) → length b ≡ 4 → length (a ++ b ++ c ++ d) ≡ length a + 4 + length c + length d
length-four a b c d pb = simp (length-append) (omega arith)

-- an object whose new nodes fit the limit has at most 1048576 · 4 new blocks
pub few-digests : (shape : Shape) (earlier : List Record) (o : Stored) → nodes_of earlier + o.count ≤ limit_of earlier → o.count * (1 + shape.alpha) ≤ 1048576 * 4
few-digests shape earlier o fits =
    mul-le o.count (1 + shape.alpha) 1048576 4 (omega (arith, fits, limit_small (list_any is_raise earlier))) (omega (arith, alpha_small shape))

-- after its number of bytes, an object that may be stored with new nodes alone has 50 bytes, its name, and 32
-- bytes for each new block
pub length-object : (shape : Shape) (earlier : List Record) (o : Stored) → MayBeStored shape earlier o → length (rest_of (Object o)) ≡ 50 + length o.name + 32 * (o.count * (1 + shape.alpha))
length-object shape earlier o may =
    omega (arith, length-append (front o) (flat_map (λ d. d) o.digests), length-front o may.digest.wide, length-joined 32 o.digests may.each, ap (λ (n : ℕ). 32 * n) may.digests)

-- and one in parts has 54 bytes, 8 for each part, its name, and 32 for each new block
pub length-parted : (shape : Shape) (earlier : List Record) (o : Stored) (parts : List Extent) → MayBeStored shape earlier o
    → length (rest_of (Joined o parts)) ≡ 54 + 8 * length parts + length o.name + 32 * (o.count * (1 + shape.alpha))
length-parted shape earlier o parts may =
    let size = length-four (front o) (to_be_bytes w32 (length parts)) (flat_map part parts) (flat_map (λ d. d) o.digests) refl in
    omega (arith, size, length-front o may.digest.wide, length-parts parts, length-joined 32 o.digests may.each, ap (λ (n : ℕ). 32 * n) may.digests)

-- lists of one length, one after the other
length-alike : (n : ℕ) (ds : List (List ℕ)) → ((i : ℕ) → i < length ds → length (get_or ds i []) ≡ n) → length (flat_map (λ d. d) ds) ≡ n * length ds
length-alike n [] long = let e : 0 ≡ n * 0 = omega arith in e
length-alike n (d ∷ ds) long =
    let rest = length-alike n ds (λ i inside. long (suc i) (omega (arith, inside))) in
    let one = long 0 (omega arith) in
    let e : n * length (d ∷ ds) ≡ n + n * length ds = omega arith in
    length-append d (flat_map (λ (x : List ℕ). x) ds) ∙ omega (arith, rest, one, e)

-- the entry of an object whose nodes are all new has 56 bytes, those of its name and 32 for each block's digest,
-- where each digest, the object's too, has 32: by this a call above knows which space its record takes
pub length-entry : (o : Stored) → length o.digest ≡ 32 → ((i : ℕ) → i < length o.digests → length (get_or o.digests i []) ≡ 32) → length (entry (Object o)) ≡ 56 + length o.name + 32 * length o.digests
length-entry o wide long =
    let rest : length (rest_of (Object o)) ≡ 50 + length o.name + 32 * length o.digests =
    length-append (front o) (flat_map (λ (d : List ℕ). d) o.digests) ∙ omega (arith, length-front o wide, length-alike 32 o.digests long) in
    let size : length (entry (Object o)) ≡ 6 + length (rest_of (Object o)) = omega (arith, length-append (to_be_bytes w32 (length (rest_of (Object o)))) (rest_of (Object o))) in
    omega (arith, size, rest)
