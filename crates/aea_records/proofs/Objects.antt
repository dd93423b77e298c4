-- The fields of an object that may follow are those of its body.
use Rattle.std.proofs.Common.{◌≡◌, ℕ, ◌+◌, ◌*◌, ◌^◌, ◌<◌, Bool, true, false, ◌&&◌, ◌==◌, List, [], ◌∷◌, ◌++◌, length, refl, sym, ap, subst, ◌∙◌, append_assoc, arith}
use Rattle.std.specs.Prelude.{nat_le}
use Rattle.std.specs.List.{flat_map, list_any, sum_by}
use Rattle.std.specs.Int.{w16, w32, w64, to_be_bytes}
use Rattle.std.proofs.lemmas.List.{append-nil}
use Rattle.std.proofs.lemmas.Bool.{and_parts, and_from, leb-true, le-leb, eq-eqb}
use Rattle.aea_lattice.specs.declared.shape.Shape.{Shape}
use Rattle.aea_catalog.specs.declared.objects.Extent.{Extent}
use Rattle.aea_records.specs.Tables.{End, Spells, number}
use Rattle.aea_records.proofs.Numbers.{wide32}
use Rattle.aea_records.proofs.Spelling.{spell_number}
use Rattle.aea_records.specs.Format.{Stored, Record, Object, Joined, Fence, Raise, raised_limit, limit_when, limit_of, is_raise, nodes_of, nodes_for, body, rest_of, part}
use Rattle.aea_records.specs.Known.{Known, known_of}
use Rattle.aea_records.specs.Fields.{Head, ObjectHead, JoinedHead, tail_fields, record_fields, is_within, stored_with, object_fields, joined_fields, digest_fields, pieces, extents, are_parts, are_apart}
use Rattle.aea_records.specs.Grammar.{MayBeStored, IsNextObject, IsNextJoined}
use Rattle.aea_records.proofs.Pieces.{pieces_again, extents_again, few-parts, length-joined, length-parts}
use Rattle.aea_records.proofs.Sizes.{limit_small, few-digests, length-object, length-parted}
use Rattle.aea_records.proofs.Names.{name-length}
use Rattle.aea_records.proofs.Spelled.{spell_kind, spell_front, fence_spelled, raise_spelled}
use Rattle.aea_records.specs.Laws.{NextIsSpelled}

-- an object without its digests
abbrev bare : Stored → Stored
bare o = record o { digests = [] }

-- the digests of an object that is to be spelled, and the number of bytes
spell_digests : (shape : Shape) (earlier : List Record) (bytes others : ℕ) (o : Stored) (make : Stored → Record) → MayBeStored shape earlier o
    → bytes ≡ others + length o.name + 32 * (o.count * (1 + shape.alpha))
    → Spells (digest_fields shape bytes others (bare o) make) (flat_map (λ d. d) o.digests ++ []) (make o)
spell_digests shape earlier bytes others o make may is =
    let size : length (flat_map (λ d. d) o.digests) ≡ 32 * (o.count * (1 + shape.alpha)) = length-joined 32 o.digests may.each ∙ ap (λ (n : ℕ). 32 * n) may.digests in
    let found : pieces 32 (o.count * (1 + shape.alpha)) (flat_map (λ d. d) o.digests) ≡ o.digests =
    ap (λ (n : ℕ). pieces 32 n (flat_map (λ d. d) o.digests)) (sym may.digests) ∙ pieces_again 32 o.digests may.each in (
      flat_map (λ d. d) o.digests,
      [],
      refl,
      size,
      refl,
      (eq-eqb bytes (others + length o.name + 32 * (o.count * (1 + shape.alpha))) is, (refl, ap (λ (ds : List (List ℕ)). make (record o { digests = ds })) (sym found))),
    )

group_object : (a b c d e f g k h : List ℕ) → (a ++ (b ++ (c ++ (d ++ (e ++ (f ++ (g ++ (k ++ [])))))))) ++ (h ++ []) ≡ a ++ (b ++ ((c ++ d ++ e ++ f ++ g ++ k) ++ h))
group_object a b c d e f g k h = simp (append_assoc, append-nil) refl

group_joined : (a b c d e f g k l i j : List ℕ) → (a ++ (b ++ (c ++ (d ++ (e ++ (f ++ (g ++ (k ++ (l ++ []))))))))) ++ (i ++ (j ++ [])) ≡ a ++ (b ++ ((c ++ d ++ e ++ f ++ g ++ k) ++ l ++ i ++ j))
group_joined a b c d e f g k l i j = simp (append_assoc, append-nil) refl

first_small : (shape : Shape) (earlier : List Record) (o : Stored) → MayBeStored shape earlier o → (o.first < 2 ^ 32) × (o.count < 2 ^ 32)
first_small shape earlier o may =
    let low = limit_small (list_any is_raise earlier) in
    (omega (arith, may.first, may.fits, low), omega (arith, may.fits, low))

pub object_spelled : (shape : Shape) (earlier : List Record) (o : Stored) → IsNextObject shape earlier o → Spells (record_fields shape (known_of earlier)) (body (Object o)) (Object o)
object_spelled shape earlier o next =
    let known : Known = known_of earlier in
    let may = next.stored in
    let small = first_small shape earlier o may in
    let bytes : ℕ = length (rest_of (Object o)) in
    let long = length-object shape earlier o may in
    let short = leb-true (length o.name) 255 (and_parts (nat_le 1 (length o.name)) (nat_le (length o.name) 255) (name-length o.name may.name)).1 in
    let below : length (rest_of (Object o)) < 2 ^ 32 = omega (arith, long, short, few-digests shape earlier o may.fits) in
    let fits = le-leb (nodes_of earlier + o.count) (limit_of earlier) may.fits in
    let count : Spells (object_fields shape known bytes (stored_with o.name o.size o.digest o.first)) (to_be_bytes w32 o.count ++ []) (bytes, ObjectHead (bare o)) =
    spell_number {A = ℕ × Head} w32 (2 ^ 32) wide32 (λ c. c == nodes_for shape o.size && is_within known c)
    (λ c. End (bytes, ObjectHead (record (stored_with o.name o.size o.digest o.first) { count = c }))) o.count [] (bytes, ObjectHead (bare o)) small.1
    (and_from (o.count == nodes_for shape o.size) (is_within known o.count) (eq-eqb o.count (nodes_for shape o.size) next.count) fits) (refl, refl) in
    let head = spell_front shape earlier o (object_fields shape known bytes) (to_be_bytes w32 o.count ++ []) (bytes, ObjectHead (bare o)) may small.0 count in
    let tail = spell_digests shape earlier bytes 50 o (λ p. Object p) may long in
    subst (λ (l : List ℕ). Spells (record_fields shape (known_of earlier)) l (Object o))
    (group_object (1 ∷ []) (to_be_bytes w32 bytes) (to_be_bytes w16 (length o.name)) o.name (to_be_bytes w64 o.size) o.digest (to_be_bytes w32 o.first) (to_be_bytes w32 o.count) (flat_map (λ d. d) o.digests))
    (spell_kind shape (known_of earlier) 1 bytes (bytes, ObjectHead (bare o)) (Object o) _ (flat_map (λ d. d) o.digests ++ []) refl (omega arith) below head tail)

pub joined_spelled : (shape : Shape) (earlier : List Record) (o : Stored) (parts : List Extent) → IsNextJoined shape earlier o parts
    → Spells (record_fields shape (known_of earlier)) (body (Joined o parts)) (Joined o parts)
joined_spelled shape earlier o parts next =
    let known : Known = known_of earlier in
    let may = next.stored in
    let small = first_small shape earlier o may in
    let bytes : ℕ = length (rest_of (Joined o parts)) in
    let long = length-parted shape earlier o parts may in
    let short = leb-true (length o.name) 255 (and_parts (nat_le 1 (length o.name)) (nat_le (length o.name) 255) (name-length o.name may.name)).1 in
    let apart = and_parts (are_apart 0 (nodes_of earlier + o.count) parts) (sum_by (λ (e : Extent). e.count) parts == nodes_for shape o.size) next.apart in
    let low = limit_small (list_any is_raise earlier) in
    let few = few-parts 0 (nodes_of earlier + o.count) parts apart.0 (omega (arith, may.fits, low)) in
    let below : length (rest_of (Joined o parts)) < 2 ^ 32 = omega (arith, long, short, few-digests shape earlier o may.fits, few.0, may.fits, low) in
    let fits = le-leb (nodes_of earlier + o.count) (limit_of earlier) may.fits in
    let again = extents_again parts few.1 in
    let raised : list_any is_raise earlier ≡ true = is_raised (list_any is_raise earlier) next.raised in
    let mine : Stored = stored_with o.name o.size o.digest o.first in
    let number_of_parts : Spells (number w32 (λ e. nat_le e raised_limit) (λ e. End (bytes, JoinedHead (bare o) e))) (to_be_bytes w32 (length parts) ++ []) (bytes, JoinedHead (bare o) (length parts)) =
    spell_number {A = ℕ × Head} w32 (2 ^ 32) wide32 (λ e. nat_le e raised_limit) (λ e. End (bytes, JoinedHead (bare o) e)) (length parts) [] (bytes, JoinedHead (bare o) (length parts))
    (omega (arith, few.0, may.fits, low)) (le-leb (length parts) raised_limit (omega (arith, few.0, may.fits, low))) (refl, refl) in
    let count : Spells (joined_fields known bytes (stored_with o.name o.size o.digest o.first)) (to_be_bytes w32 o.count ++ (to_be_bytes w32 (length parts) ++ [])) (bytes, JoinedHead (bare o) (length parts)) =
    spell_number {A = ℕ × Head} w32 (2 ^ 32) wide32 (is_within known)
    (λ c. number w32 (λ e. nat_le e raised_limit) (λ e. End (bytes, JoinedHead (record (stored_with o.name o.size o.digest o.first) { count = c }) e))) o.count (to_be_bytes w32 (length parts) ++ [])
    (bytes, JoinedHead (bare o) (length parts)) small.1 fits number_of_parts in
    let head = spell_front shape earlier o (joined_fields known bytes) (to_be_bytes w32 o.count ++ (to_be_bytes w32 (length parts) ++ [])) (bytes, JoinedHead (bare o) (length parts)) may small.0 count in
    let text : List ℕ = flat_map part parts in
    let digests : Spells (digest_fields shape bytes (54 + 8 * length parts) (bare o) (λ p. Joined p (extents (length parts) (flat_map part parts)))) (flat_map (λ d. d) o.digests ++ []) (Joined o parts) =
    subst (λ (es : List Extent). Spells (digest_fields shape bytes (54 + 8 * length parts) (bare o) (λ p. Joined p es)) (flat_map (λ d. d) o.digests ++ []) (Joined o parts)) (sym again)
    (spell_digests shape earlier bytes (54 + 8 * length parts) o (λ p. Joined p parts) may long) in
    let tail : Spells (tail_fields shape known (bytes, JoinedHead (bare o) (length parts))) (flat_map part parts ++ (flat_map (λ d. d) o.digests ++ [])) (Joined o parts) = (
      flat_map part parts,
      flat_map (λ d. d) o.digests ++ [],
      refl,
      length-parts parts,
      ap (are_parts shape o.size (nodes_of earlier + o.count)) again ∙ next.apart,
      digests,
    ) in
    subst (λ (l : List ℕ). Spells (record_fields shape (known_of earlier)) l (Joined o parts))
    (group_joined (3 ∷ []) (to_be_bytes w32 bytes) (to_be_bytes w16 (length o.name)) o.name (to_be_bytes w64 o.size) o.digest (to_be_bytes w32 o.first) (to_be_bytes w32 o.count)
    (to_be_bytes w32 (length parts)) (flat_map part parts) (flat_map (λ d. d) o.digests))
    (spell_kind shape (known_of earlier) 3 bytes (bytes, JoinedHead (bare o) (length parts)) (Joined o parts) _ (flat_map part parts ++ (flat_map (λ d. d) o.digests ++ [])) raised (omega arith) below head tail)
  where
    is_raised : (b : Bool) → limit_when b ≡ raised_limit → b ≡ true
    is_raised true h = refl
    is_raised false h = absurd (omega (arith, h))

-- the body of a record that may follow is a text of the fields, and says this record
pub next_is_spelled : NextIsSpelled
next_is_spelled shape earlier (Object o) next = object_spelled shape earlier o next
next_is_spelled shape earlier (Joined o parts) next = joined_spelled shape earlier o parts next
next_is_spelled shape earlier (Fence node) next = fence_spelled shape earlier node next
next_is_spelled shape earlier Raise next = raise_spelled shape earlier next
