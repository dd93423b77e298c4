-- Objects that a data list holds: those of the records before, where more data follow, and the next one.
use Rattle.std.proofs.Common.{◌≡◌, ℕ, suc, ◌+◌, ◌-◌, ◌*◌, ◌≤◌, Bool, true, false, ◌&&◌, ◌==◌, List, [], ◌∷◌, ◌++◌, length, take, drop, replicate, All, refl, sym, ◌∙◌, ap, subst, arith, length-append, if◌then◌else◌}
use Rattle.std.specs.Prelude.{nat_le, nat_lt}
use Rattle.std.specs.List.{flat_map, sum_by}
use Rattle.std.proofs.lemmas.Bool.{and_parts, leb-true}
use Rattle.std.proofs.lemmas.Bool.Decides.{nat_tests}
use Rattle.std.proofs.lemmas.List.{append-nil, append_assoc, length-drop, length-replicate, take-append-le, drop-append-le, take_all}
use Rattle.std.proofs.lemmas.List.Elements.{All-cons}
use Rattle.std.proofs.Math.Seq.{take-append_seam, drop-append_seam}
use Rattle.sha2.specs.Sha256.{sha256}
use Rattle.aea_lattice.specs.declared.shape.Shape.{Shape}
use Rattle.aea_catalog.specs.declared.objects.Extent.{Extent}
use Rattle.aea_records.specs.Format.{Stored, Record, Object, Joined, Fence, Raise, nodes_for, nodes_of, own_parts}
use Rattle.aea_records.specs.Fields.{are_apart}
use Rattle.aea_records.specs.Grammar.{MayFollow}
use Rattle.aea_records.specs.Recorded.{blocks_in, HoldsObject, HoldsRecord, HoldsRecords}
use Rattle.aea_archive.specs.Next.{cut_blocks, object_blocks}
use Rattle.aea_archive.proofs.Pieces.{cut-length, cut-joined}
use Rattle.aea_records.proofs.OneMore.{nodes_of-append}

-- ---- the objects before

-- the parts end within so many blocks
abbrev pub EndWithin : ℕ → List Extent → Type 0
EndWithin n [] = Unit {0}
EndWithin n (e ∷ parts) = (e.first - 1 + e.count ≤ n) × EndWithin n parts

part-more : (e : Extent) (datas more : List (List ℕ)) → e.first - 1 + e.count ≤ length datas → take e.count (drop (e.first - 1) (datas ++ more)) ≡ take e.count (drop (e.first - 1) datas)
part-more e datas more within =
    ap (take e.count) (drop-append-le (e.first - 1) datas more (omega (arith, within)))
    ∙ take-append-le e.count (drop (e.first - 1) datas) more (omega (arith, within, length-drop (e.first - 1) datas))

blocks-more : (parts : List Extent) (datas more : List (List ℕ)) → EndWithin (length datas) parts → blocks_in parts (datas ++ more) ≡ blocks_in parts datas
blocks-more [] datas more within = refl
blocks-more (e ∷ parts) datas more within =
    ap (λ (l : List (List ℕ)). l ++ blocks_in parts (datas ++ more)) (part-more e datas more within.0)
    ∙ ap (λ (l : List (List ℕ)). take e.count (drop (e.first - 1) datas) ++ l) (blocks-more parts datas more within.1)

holds-more : (datas more : List (List ℕ)) (o : Stored) (parts : List Extent) → EndWithin (length datas) parts → HoldsObject datas o parts → HoldsObject (datas ++ more) o parts
holds-more datas more o parts within holds =
    let same : blocks_in parts datas ≡ blocks_in parts (datas ++ more) = sym (blocks-more parts datas more within) in
    record {
      bytes = holds.bytes;
      long = holds.long;
      digest = holds.digest;
      within = subst (λ (l : List (List ℕ)). length holds.bytes ≤ length (flat_map (λ d. d) l)) same holds.within;
      front = subst (λ (l : List (List ℕ)). take (length holds.bytes) (flat_map (λ d. d) l) ≡ holds.bytes) same holds.front;
      zeros = subst (λ (l : List (List ℕ)). drop (length holds.bytes) (flat_map (λ d. d) l) ≡ replicate (length (flat_map (λ d. d) l) - length holds.bytes) 0) same holds.zeros;
    }

own-within : (o : Stored) (n : ℕ) (b : Bool) → (o.count == 0) ≡ b → o.first - 1 + o.count ≤ n → EndWithin n (if b then [] else record { first = o.first; count = o.count } ∷ [])
own-within o n true is le = tt
own-within o n false is le = (le, tt)

apart-within : (after nodes n : ℕ) (parts : List Extent) → nodes ≤ n → are_apart after nodes parts ≡ true → EndWithin n parts
apart-within after nodes n [] le apart = tt
apart-within after nodes n (e ∷ parts) le apart =
    let a = and_parts (nat_lt after e.first && nat_le 1 e.count && nat_le (e.first + e.count) (nodes + 1)) (are_apart (e.first + e.count - 1) nodes parts) apart in
    let b = and_parts (nat_lt after e.first && nat_le 1 e.count) (nat_le (e.first + e.count) (nodes + 1)) a.0 in
    let c = and_parts (nat_lt after e.first) (nat_le 1 e.count) b.0 in
    let end = leb-true (e.first + e.count) (nodes + 1) b.1 in
    let some = leb-true 1 e.count c.1 in
    let first : 1 ≤ e.first = grind (arith, nat_tests, c.0) in
    (omega (arith, end, some, first, le), apart-within (e.first + e.count - 1) nodes n parts le a.1)

record-more : (shape : Shape) (earlier records : List Record) (r : Record) (datas more : List (List ℕ)) → MayFollow shape earlier (r ∷ records) → nodes_of (earlier ++ r ∷ records) ≤ length datas
    → HoldsRecord datas r → HoldsRecord (datas ++ more) r
record-more shape earlier records (Object o) datas more follow le holds =
    let may = follow.0.stored in
    let nodes = nodes_of-append earlier (Object o ∷ records) in
    let rest = nodes_of-append (Object o ∷ []) records in
    let within : o.first - 1 + o.count ≤ length datas = omega (arith, may.first, nodes, rest, le) in
    holds-more datas more o (own_parts o) (own-within o (length datas) (o.count == 0) refl within) holds
record-more shape earlier records (Joined o parts) datas more follow le holds =
    let nodes = nodes_of-append earlier (Joined o parts ∷ records) in
    let rest = nodes_of-append (Joined o parts ∷ []) records in
    let apart = and_parts (are_apart 0 (nodes_of earlier + o.count) parts) (sum_by (λ (e : Extent). e.count) parts == nodes_for shape o.size) follow.0.apart in
    holds-more datas more o parts (apart-within 0 (nodes_of earlier + o.count) (length datas) parts (omega (arith, nodes, rest, le)) apart.0) holds
record-more shape earlier records (Fence node) datas more follow le holds = tt
record-more shape earlier records Raise datas more follow le holds = tt

All-head : (P : Record → Type 0) (r : Record) (records : List Record) → All P (r ∷ records) → P r
All-head P r records all = all 0 r (omega arith)

All-tail : (P : Record → Type 0) (r : Record) (records : List Record) → All P (r ∷ records) → All P records
All-tail P r records all = λ k d inside. all (suc k) d (omega (arith, inside))

-- where more data follow, all objects of the records are held
pub records-more : (shape : Shape) (earlier records : List Record) (datas more : List (List ℕ)) → MayFollow shape earlier records → nodes_of (earlier ++ records) ≤ length datas
    → HoldsRecords datas records → HoldsRecords (datas ++ more) records
records-more shape earlier [] datas more follow le holds = λ k d inside. absurd (omega (arith, inside))
records-more shape earlier (r ∷ records) datas more follow le holds =
    All-cons (HoldsRecord (datas ++ more)) r records
    (record-more shape earlier records r datas more follow le (All-head (HoldsRecord datas) r records holds))
    (records-more shape (earlier ++ r ∷ []) records datas more follow.1 (omega (arith, le, ap nodes_of (append_assoc earlier (r ∷ []) records))) (All-tail (HoldsRecord datas) r records holds))

-- ---- the next object

-- so many nodes hold the bytes
pub nodes-hold : (shape : Shape) (long : ℕ) → long ≤ nodes_for shape long * shape.block
nodes-hold shape long = let h = shape.in_profile in grind (arith, nat_tests)

-- a data list whose blocks in the parts, joined, are the bytes and then zeros holds the object
pub held-in : (datas : List (List ℕ)) (bytes : List ℕ) (zeros : ℕ) (o : Stored) (parts : List Extent) → o.size ≡ length bytes → o.digest ≡ sha256 bytes
    → flat_map (λ d. d) (blocks_in parts datas) ≡ bytes ++ replicate zeros 0 → HoldsObject datas o parts
held-in datas bytes zeros o parts size digest is = record {
  bytes = bytes;
  long = sym size;
  digest = sym digest;
  within = subst (λ (l : List ℕ). length bytes ≤ length l) (sym is) (omega (arith, length-append bytes (replicate zeros 0)));
  front = subst (λ (l : List ℕ). take (length bytes) l ≡ bytes) (sym is) (take-append_seam bytes (replicate zeros 0));
  zeros = subst (λ (l : List ℕ). drop (length bytes) l ≡ replicate (length l - length bytes) 0) (sym is)
      (drop-append_seam bytes (replicate zeros 0) ∙ ap (λ (k : ℕ). replicate k 0) (omega (arith, length-append bytes (replicate zeros 0), length-replicate {A = ℕ} zeros 0)));
}

own-blocks : (shape : Shape) (datas : List (List ℕ)) (bytes : List ℕ) (o : Stored) (b : Bool) → (o.count == 0) ≡ b → o.first ≡ length datas + 1 → o.count ≡ nodes_for shape (length bytes)
    → flat_map (λ d. d) (blocks_in (if b then [] else record { first = o.first; count = o.count } ∷ []) (datas ++ object_blocks shape bytes)) ≡ flat_map (λ d. d) (object_blocks shape bytes)
own-blocks shape datas bytes o true is first count =
    let none : nodes_for shape (length bytes) ≡ 0 = grind (arith, nat_tests, is, count) in
    sym (ap (λ (n : ℕ). flat_map (λ (d : List ℕ). d) (cut_blocks shape.block n bytes)) none)
own-blocks shape datas bytes o false is first count =
    let place : o.first - 1 ≡ length datas = omega (arith, first) in
    let long : length (object_blocks shape bytes) ≤ o.count = omega (arith, count, cut-length shape.block (nodes_for shape (length bytes)) bytes) in
    ap (λ (l : List (List ℕ)). flat_map (λ (d : List ℕ). d) l)
    (append-nil (take o.count (drop (o.first - 1) (datas ++ object_blocks shape bytes)))
    ∙ ap (λ (k : ℕ). take o.count (drop k (datas ++ object_blocks shape bytes))) place
    ∙ ap (take o.count) (drop-append_seam datas (object_blocks shape bytes))
    ∙ take_all o.count (object_blocks shape bytes) long)

-- the data list with its blocks holds it
pub next-held : (shape : Shape) (datas : List (List ℕ)) (bytes : List ℕ) (o : Stored) → o.size ≡ length bytes → o.digest ≡ sha256 bytes → o.first ≡ length datas + 1 → o.count ≡ nodes_for shape (length bytes)
    → HoldsObject (datas ++ object_blocks shape bytes) o (own_parts o)
next-held shape datas bytes o size digest first count =
    held-in (datas ++ object_blocks shape bytes) bytes (nodes_for shape (length bytes) * shape.block - length bytes) o (own_parts o) size digest
    (own-blocks shape datas bytes o (o.count == 0) refl first count ∙ cut-joined shape.block (nodes_for shape (length bytes)) bytes (nodes-hold shape (length bytes)))
