-- What the fields of a record spell is the body of one that may follow.
use Rattle.std.proofs.Common.{◌≡◌, ◌≢◌, ℕ, ◌+◌, ◌*◌, ◌^◌, ◌<◌, ◌≤◌, Bool, true, false, ◌&&◌, ◌==◌, not, List, [], ◌∷◌, ◌++◌, length, All, refl, sym, ap, subst, ◌∙◌, append_assoc, arith, inl, inr}
use Rattle.std.specs.Prelude.{nat_le, nat_lt}
use Rattle.std.specs.List.{flat_map, list_any}
use Rattle.std.specs.Int.{w8, w16, w32, w64, to_be_bytes}
use Rattle.std.proofs.lemmas.List.{append-nil}
use Rattle.std.proofs.lemmas.Bool.{cases_lt, and_parts, leb-true, ltb-true, eqb-true, not-true, false≢true, eq-eqb}
use Rattle.aea_lattice.specs.declared.shape.Shape.{Shape}
use Rattle.aea_lattice.specs.Data.{IsBytes}
use Rattle.aea_catalog.specs.declared.objects.Extent.{Extent}
use Rattle.aea_catalog.specs.Names.{is_name}
use Rattle.aea_records.specs.Tables.{Table, End, Spells, number, any}
use Rattle.aea_records.specs.TableLaws.{AreBytes}
use Rattle.aea_records.proofs.Numbers.{wide8, wide32}
use Rattle.aea_records.proofs.Spelling.{number_spelled, then_spelled}
use Rattle.aea_records.specs.Format.{Stored, Record, Object, Joined, Fence, Raise, open_gate, greatest_objects, raised_limit, first_limit, limit_when, limit_of, is_raise, stored_of, nodes_of, nodes_for, body, rest_of, part, front}
use Rattle.aea_lattice.specs.Fences.{greatest_fences}
use Rattle.aea_records.specs.Known.{Known, known_of}
use Rattle.aea_records.specs.Fields.{Head, ObjectHead, JoinedHead, Whole, head_fields, kind_fields, tail_fields, is_kind, is_within, is_next_fence, is_raise_to, stored_with, object_fields, joined_fields, digest_fields, pieces, extents}
use Rattle.aea_records.specs.Grammar.{MayBeStored, IsNextObject, IsNextJoined, IsNextFence, IsNext}
use Rattle.aea_records.proofs.Names.{new-free, new-fence}
use Rattle.aea_records.proofs.Pieces.{joined_again, length-pieces, each-piece}
use Rattle.aea_records.proofs.Extents.{extents_spelled}
use Rattle.aea_records.proofs.Sizes.{length-object, length-parted}
use Rattle.aea_records.specs.Laws.{SpelledIsNext}
use Rattle.aea_records.specs.Faults.{is_full}
use Rattle.aea_records.proofs.Fronts.{are_front, are_back, IsFront, front_spelled, kinds}

-- what the text is of a record with this head
abbrev Read : Shape → List Record → List ℕ → Record → Type 0
Read shape earlier text r = IsNext shape earlier r × (text ≡ body r)

-- a fence
fence_read : (shape : Shape) (earlier : List Record) (bytes : ℕ) (front back : List ℕ) (v : ℕ × Head) (r : Record) → AreBytes front
    → Spells (kind_fields shape (known_of earlier) bytes 2) front v → Spells (tail_fields shape (known_of earlier) v) back r
    → Read shape earlier (2 ∷ (to_be_bytes w32 bytes ++ (front ++ back))) r
fence_read shape earlier bytes front back v r are mine theirs =
    let known : Known = known_of earlier in
    let a = number_spelled {A = ℕ × Head} w32 (2 ^ 32) wide32 (is_next_fence (known_of earlier)) (λ node. End (bytes, Whole (Fence node))) front v are mine in
    let tail : Spells (tail_fields shape (known_of earlier) (bytes, Whole (Fence a.n))) back r = subst (λ (u : ℕ × Head). Spells (tail_fields shape (known_of earlier) u) back r) a.more.1 theirs in
    let size : bytes ≡ 4 = eqb-true bytes 4 tail.0 in
    let t1 = and_parts (a.n == known.nodes && not (a.n == 0) && not (list_any (λ (f : ℕ). f == a.n) known.fences)) (nat_lt (length known.fences) greatest_fences) a.passes in
    let t2 = and_parts (a.n == known.nodes && not (a.n == 0)) (not (list_any (λ (f : ℕ). f == a.n) known.fences)) t1.0 in
    let t3 = and_parts (a.n == known.nodes) (not (a.n == 0)) t2.0 in
    let positive : 1 ≤ a.n = some a.n (not-true (a.n == 0) t3.1) in
    let next : IsNextFence earlier a.n = record {
      last = eqb-true a.n known.nodes t3.0;
      some = positive;
      small = a.small;
      new = new-fence known.fences a.n (not-true (list_any (λ (f : ℕ). f == a.n) known.fences) t2.1);
      few = ltb-true (length known.fences) greatest_fences t1.1;
    } in
    let text : 2 ∷ (to_be_bytes w32 bytes ++ (front ++ back)) ≡ body (Fence a.n) =
    (λ i. 2 ∷ (to_be_bytes w32 (size i) ++ (a.spelling i ++ tail.1.0 i)))
    ∙ ap (λ (l : List ℕ). 2 ∷ (to_be_bytes w32 4 ++ ((to_be_bytes w32 a.n ++ l) ++ []))) a.more.0
    ∙ ap (λ (l : List ℕ). 2 ∷ (to_be_bytes w32 4 ++ l)) (append-nil (to_be_bytes w32 a.n ++ []) ∙ append-nil (to_be_bytes w32 a.n)) in
    subst (λ (q : Record). Read shape earlier (2 ∷ (to_be_bytes w32 bytes ++ (front ++ back))) q) (sym tail.1.1) (next, text)
  where
    some : (n : ℕ) → (n == 0) ≡ false → 1 ≤ n
    some n e = elim (cases_lt 0 n) [
      | inl lt ↦ omega (arith, lt)
      | inr le ↦ absurd (false≢true (sym e ∙ eq-eqb n 0 (omega (arith, le))))
    ]

-- a raise
raise_read : (shape : Shape) (earlier : List Record) (bytes : ℕ) (front back : List ℕ) (v : ℕ × Head) (r : Record) → AreBytes front
    → Spells (kind_fields shape (known_of earlier) bytes 4) front v → Spells (tail_fields shape (known_of earlier) v) back r
    → Read shape earlier (4 ∷ (to_be_bytes w32 bytes ++ (front ++ back))) r
raise_read shape earlier bytes front back v r are mine theirs =
    let a = number_spelled {A = ℕ × Head} w32 (2 ^ 32) wide32 (is_raise_to (known_of earlier)) (λ limit. End (bytes, Whole Raise)) front v are mine in
    let tail : Spells (tail_fields shape (known_of earlier) (bytes, Whole Raise)) back r = subst (λ (u : ℕ × Head). Spells (tail_fields shape (known_of earlier) u) back r) a.more.1 theirs in
    let size : bytes ≡ 4 = eqb-true bytes 4 tail.0 in
    let t = and_parts (a.n == raised_limit) (not (list_any is_raise earlier)) a.passes in
    let limit : a.n ≡ raised_limit = eqb-true a.n raised_limit t.0 in
    let low : list_any is_raise earlier ≡ false = not-true (list_any is_raise earlier) t.1 in
    let next : limit_of earlier ≢ raised_limit = λ e. absurd (let l : limit_of earlier ≡ first_limit = ap limit_when low in omega (arith, e, l)) in
    let text : 4 ∷ (to_be_bytes w32 bytes ++ (front ++ back)) ≡ body Raise =
    (λ i. 4 ∷ (to_be_bytes w32 (size i) ++ (a.spelling i ++ tail.1.0 i)))
    ∙ (λ i. 4 ∷ (to_be_bytes w32 4 ++ ((to_be_bytes w32 (limit i) ++ a.more.0 i) ++ []))) in
    subst (λ (q : Record). Read shape earlier (4 ∷ (to_be_bytes w32 bytes ++ (front ++ back))) q) (sym tail.1.1) (next, text)

-- the object that these fields are of
abbrev made : ℕ → List (List ℕ) → Stored → Stored
made count digests o = record o { count = count; digests = digests }

-- the digests that are spelled, and the number of bytes
record AreDigests (shape : Shape) (bytes others : ℕ) (o : Stored) (make : Stored → Record) (text : List ℕ) (r : Record) : Type 0 where
  digests : List (List ℕ)
  many : length digests ≡ o.count * (1 + shape.alpha)
  each : All (IsBytes 32) digests
  spelling : text ≡ flat_map (λ d. d) digests
  size : bytes ≡ others + length o.name + 32 * (o.count * (1 + shape.alpha))
  is : r ≡ make (record o { digests = digests })

digests_read : (shape : Shape) (bytes others : ℕ) (o : Stored) (make : Stored → Record) (text : List ℕ) (r : Record) → AreBytes text
    → Spells (digest_fields shape bytes others o make) text r → AreDigests shape bytes others o make text r
digests_read shape bytes others o make text r are spells =
    let n : ℕ = o.count * (1 + shape.alpha) in
    let mine : AreBytes spells.0 = are_front spells.0 spells.1 (subst AreBytes spells.2 are) in
    record {
      digests = pieces 32 (o.count * (1 + shape.alpha)) spells.0;
      many = length-pieces 32 (o.count * (1 + shape.alpha)) spells.0;
      each = each-piece 32 (o.count * (1 + shape.alpha)) spells.0 spells.3 mine;
      spelling = spells.2 ∙ ap (λ (l : List ℕ). spells.0 ++ l) spells.5.1.0 ∙ append-nil spells.0 ∙ sym (joined_again 32 (o.count * (1 + shape.alpha)) spells.0 spells.3);
      size = eqb-true bytes (others + length o.name + 32 * (o.count * (1 + shape.alpha))) spells.5.0;
      is = spells.5.1.1;
    }

-- an object that is read may be stored
may_be : (shape : Shape) (earlier : List Record) (next : Stored → Table (ℕ × Head)) (text : List ℕ) (v : ℕ × Head) (f : IsFront (known_of earlier) next text v) (count : ℕ) (digests : List (List ℕ))
    → length (stored_of earlier) < greatest_objects → is_within (known_of earlier) count ≡ true → length digests ≡ count * (1 + shape.alpha) → All (IsBytes 32) digests
    → MayBeStored shape earlier (record { name = f.name; size = f.size; digest = f.digest; first = f.first; count = count; digests = digests })
may_be shape earlier next text v f count digests few within many each =
    let known : Known = known_of earlier in
    let n = and_parts (is_name f.name) (not (known.taken f.name)) f.named in
    record {
      few = few;
      name = n.0;
      new = new-free (stored_of earlier) f.name (not-true (known.taken f.name) n.1);
      size = f.small;
      digest = f.bytes;
      first = eqb-true f.first (known.nodes + 1) f.next_node;
      fits = leb-true (nodes_of earlier + count) (limit_of earlier) within;
      digests = many;
      each = each;
    }

object_group : (b c d e f g k h t : List ℕ) → t ≡ c ++ (d ++ (e ++ (f ++ (g ++ (k ++ []))))) → b ++ (t ++ h) ≡ b ++ ((c ++ d ++ e ++ f ++ g ++ k) ++ h)
object_group b c d e f g k h t is = ap (λ (l : List ℕ). b ++ (l ++ h)) is ∙ simp (append_assoc, append-nil) refl

object_read : (shape : Shape) (earlier : List Record) (bytes : ℕ) (front back : List ℕ) (v : ℕ × Head) (r : Record) → length (stored_of earlier) < greatest_objects → AreBytes front → AreBytes back
    → Spells (kind_fields shape (known_of earlier) bytes 1) front v → Spells (tail_fields shape (known_of earlier) v) back r
    → Read shape earlier (1 ∷ (to_be_bytes w32 bytes ++ (front ++ back))) r
object_read shape earlier bytes front back v r few are others mine theirs =
    let known : Known = known_of earlier in
    let f = front_spelled known (object_fields shape known bytes) front v are mine in
    let a = number_spelled {A = ℕ × Head} w32 (2 ^ 32) wide32 (λ count. count == nodes_for shape f.size && is_within known count)
    (λ count. End (bytes, ObjectHead (record (stored_with f.name f.size f.digest f.first) { count = count }))) f.rest v f.are f.more in
    let o : Stored = record (stored_with f.name f.size f.digest f.first) { count = a.n } in
    let t = and_parts (a.n == nodes_for shape f.size) (is_within known a.n) a.passes in
    let tail : Spells (digest_fields shape bytes 50 (record (stored_with f.name f.size f.digest f.first) { count = a.n }) (λ p. Object p)) back r =
    subst (λ (u : ℕ × Head). Spells (tail_fields shape known u) back r) a.more.1 theirs in
    let d = digests_read shape bytes 50 o (λ p. Object p) back r others tail in
    let whole : Stored = record { name = f.name; size = f.size; digest = f.digest; first = f.first; count = a.n; digests = d.digests } in
    let may = may_be shape earlier (object_fields shape known bytes) front v f a.n d.digests few t.1 d.many d.each in
    let next : IsNextObject shape earlier whole = record { stored = may; count = eqb-true a.n (nodes_for shape f.size) t.0 } in
    let size : bytes ≡ length (rest_of (Object whole)) = d.size ∙ sym (length-object shape earlier whole may) in
    let text : 1 ∷ (to_be_bytes w32 bytes ++ (front ++ back)) ≡ body (Object whole) =
    ap (λ (l : List ℕ). 1 ∷ (to_be_bytes w32 bytes ++ (front ++ l))) d.spelling
    ∙ ap (λ (l : List ℕ). 1 ∷ l) (object_group (to_be_bytes w32 bytes) (to_be_bytes w16 (length f.name)) f.name (to_be_bytes w64 f.size) f.digest (to_be_bytes w32 f.first) (to_be_bytes w32 a.n) (flat_map (λ d. d) d.digests) front
    (f.spelling ∙ ap (λ (l : List ℕ). to_be_bytes w16 (length f.name) ++ (f.name ++ (to_be_bytes w64 f.size ++ (f.digest ++ (to_be_bytes w32 f.first ++ l))))) (a.spelling ∙ ap (λ (l : List ℕ). to_be_bytes w32 a.n ++ l) a.more.0)))
    ∙ ap (λ (n : ℕ). 1 ∷ (to_be_bytes w32 n ++ rest_of (Object whole))) size in
    subst (λ (q : Record). Read shape earlier (1 ∷ (to_be_bytes w32 bytes ++ (front ++ back))) q) (sym d.is) (next, text)

joined_group : (b c d e f g k l i j t : List ℕ) → t ≡ c ++ (d ++ (e ++ (f ++ (g ++ (k ++ (l ++ [])))))) → b ++ (t ++ (i ++ j)) ≡ b ++ ((c ++ d ++ e ++ f ++ g ++ k) ++ l ++ i ++ j)
joined_group b c d e f g k l i j t is = ap (λ (x : List ℕ). b ++ (x ++ (i ++ j))) is ∙ simp (append_assoc, append-nil) refl

joined_read : (shape : Shape) (earlier : List Record) (bytes : ℕ) (front back : List ℕ) (v : ℕ × Head) (r : Record) → length (stored_of earlier) < greatest_objects → limit_of earlier ≡ raised_limit → AreBytes front → AreBytes back
    → Spells (kind_fields shape (known_of earlier) bytes 3) front v → Spells (tail_fields shape (known_of earlier) v) back r
    → Read shape earlier (3 ∷ (to_be_bytes w32 bytes ++ (front ++ back))) r
joined_read shape earlier bytes front back v r few raised are others mine theirs =
    let known : Known = known_of earlier in
    let f = front_spelled known (joined_fields known bytes) front v are mine in
    let a = number_spelled {A = ℕ × Head} w32 (2 ^ 32) wide32 (is_within known)
    (λ count. number w32 (λ e. nat_le e raised_limit) (λ e. End (bytes, JoinedHead (record (stored_with f.name f.size f.digest f.first) { count = count }) e))) f.rest v f.are f.more in
    let b = number_spelled {A = ℕ × Head} w32 (2 ^ 32) wide32 (λ e. nat_le e raised_limit) (λ e. End (bytes, JoinedHead (record (stored_with f.name f.size f.digest f.first) { count = a.n }) e)) a.rest v a.are a.more in
    let o : Stored = record (stored_with f.name f.size f.digest f.first) { count = a.n } in
    let tail : Spells (tail_fields shape known (bytes, JoinedHead (record (stored_with f.name f.size f.digest f.first) { count = a.n }) b.n)) back r =
    subst (λ (u : ℕ × Head). Spells (tail_fields shape known u) back r) b.more.1 theirs in
    let es : List Extent = extents b.n tail.0 in
    let both : AreBytes (tail.0 ++ tail.1) = subst AreBytes tail.2 others in
    let parts = extents_spelled b.n tail.0 (are_front tail.0 tail.1 both) tail.3 in
    let d = digests_read shape bytes (54 + 8 * b.n) o (λ p. Joined p (extents b.n tail.0)) tail.1 r (are_back tail.0 tail.1 both) tail.5 in
    let whole : Stored = record { name = f.name; size = f.size; digest = f.digest; first = f.first; count = a.n; digests = d.digests } in
    let may = may_be shape earlier (joined_fields known bytes) front v f a.n d.digests few a.passes d.many d.each in
    let next : IsNextJoined shape earlier whole (extents b.n tail.0) = record { raised = raised; stored = may; apart = tail.4 } in
    let size : bytes ≡ length (rest_of (Joined whole (extents b.n tail.0))) =
    d.size ∙ ap (λ (n : ℕ). 54 + 8 * n + length f.name + 32 * (a.n * (1 + shape.alpha))) (sym parts.0) ∙ sym (length-parted shape earlier whole (extents b.n tail.0) may) in
    let text : 3 ∷ (to_be_bytes w32 bytes ++ (front ++ back)) ≡ body (Joined whole (extents b.n tail.0)) =
    ap (λ (l : List ℕ). 3 ∷ (to_be_bytes w32 bytes ++ (front ++ l))) (tail.2 ∙ (λ i. parts.1 i ++ d.spelling i))
    ∙ ap (λ (l : List ℕ). 3 ∷ l) (joined_group (to_be_bytes w32 bytes) (to_be_bytes w16 (length f.name)) f.name (to_be_bytes w64 f.size) f.digest (to_be_bytes w32 f.first) (to_be_bytes w32 a.n) (to_be_bytes w32 b.n)
    (flat_map part (extents b.n tail.0)) (flat_map (λ d. d) d.digests) front
    (f.spelling ∙ ap (λ (l : List ℕ). to_be_bytes w16 (length f.name) ++ (f.name ++ (to_be_bytes w64 f.size ++ (f.digest ++ (to_be_bytes w32 f.first ++ l)))))
    (a.spelling ∙ ap (λ (l : List ℕ). to_be_bytes w32 a.n ++ l) (b.spelling ∙ ap (λ (l : List ℕ). to_be_bytes w32 b.n ++ l) b.more.0))))
    ∙ ap (λ (n : ℕ). 3 ∷ (to_be_bytes w32 bytes ++ ((to_be_bytes w16 (length f.name) ++ f.name ++ to_be_bytes w64 f.size ++ f.digest ++ to_be_bytes w32 f.first ++ to_be_bytes w32 a.n) ++ to_be_bytes w32 n ++ flat_map part (extents b.n tail.0) ++ flat_map (λ d. d) d.digests))) (sym parts.0)
    ∙ ap (λ (n : ℕ). 3 ∷ (to_be_bytes w32 n ++ rest_of (Joined whole (extents b.n tail.0)))) size in
    subst (λ (q : Record). Read shape earlier (3 ∷ (to_be_bytes w32 bytes ++ (front ++ back))) q) (sym d.is) (next, text)

-- a ledger with fewer objects than the most
less : (known : Known) → known.objects ≤ greatest_objects → (known.objects == greatest_objects) ≡ false → known.objects < greatest_objects
less known few other = elim (cases_lt known.objects greatest_objects) [
  | inl lt ↦ lt
  | inr le ↦ absurd (false≢true (sym other ∙ eq-eqb known.objects greatest_objects (omega (arith, le, few))))
]

first_of : (a : Bool) → (a && true) ≡ false → a ≡ false
first_of true e = absurd (let f : true ≡ false = e in cc)
first_of false e = refl

full_object : (known : Known) (more : List ℕ) → is_full known (open_gate ∷ 1 ∷ more) ≡ false → (known.objects == greatest_objects) ≡ false
full_object known more e = first_of (known.objects == greatest_objects) e

full_joined : (known : Known) (more : List ℕ) → known.raised ≡ true → is_full known (open_gate ∷ 3 ∷ more) ≡ false → (known.objects == greatest_objects) ≡ false
full_joined known more raised e = first_of (known.objects == greatest_objects) (sym (ap (λ (b : Bool). known.objects == greatest_objects && b) raised) ∙ e)

-- what the fields spell is the body of a record that may follow, where it is no object past the most
pub spelled_is_next : SpelledIsNext
spelled_is_next shape earlier text r few room are spells =
    let known : Known = known_of earlier in
    let two = then_spelled (head_fields shape known) (tail_fields shape known) text r spells in
    let both : AreBytes (two.front ++ two.back) = subst AreBytes two.spelling are in
    let a = number_spelled {A = ℕ × Head} w8 (2 ^ 8) wide8 (is_kind known) (λ kind. number w32 any (λ bytes. kind_fields shape known bytes kind)) two.front two.v (are_front two.front two.back both) two.first in
    let b = number_spelled {A = ℕ × Head} w32 (2 ^ 32) wide32 any (λ bytes. kind_fields shape known bytes a.n) a.rest two.v a.are a.more in
    let theirs : AreBytes two.back = are_back two.front two.back both in
    let spelling : text ≡ to_be_bytes w8 a.n ++ (to_be_bytes w32 b.n ++ (b.rest ++ two.back)) =
    two.spelling ∙ ap (λ (l : List ℕ). l ++ two.back) (a.spelling ∙ ap (λ (l : List ℕ). to_be_bytes w8 a.n ++ l) b.spelling)
    ∙ append_assoc (to_be_bytes w8 a.n) (to_be_bytes w32 b.n ++ b.rest) two.back ∙ ap (λ (l : List ℕ). to_be_bytes w8 a.n ++ l) (append_assoc (to_be_bytes w32 b.n) b.rest two.back) in
    let at : (kind : ℕ) → a.n ≡ kind → Read shape earlier (to_be_bytes w8 kind ++ (to_be_bytes w32 b.n ++ (b.rest ++ two.back))) r → Read shape earlier text r =
    λ kind is read. (read.0, spelling ∙ ap (λ (k : ℕ). to_be_bytes w8 k ++ (to_be_bytes w32 b.n ++ (b.rest ++ two.back))) is ∙ read.1) in
    let full : (kind : ℕ) → a.n ≡ kind → is_full known (open_gate ∷ (to_be_bytes w8 kind ++ (to_be_bytes w32 b.n ++ (b.rest ++ two.back)))) ≡ false =
    λ kind is. ap (λ (k : ℕ). is_full known (open_gate ∷ (to_be_bytes w8 k ++ (to_be_bytes w32 b.n ++ (b.rest ++ two.back))))) (sym is) ∙ ap (λ (l : List ℕ). is_full known (open_gate ∷ l)) (sym spelling) ∙ room in
    let head : (kind : ℕ) → a.n ≡ kind → Spells (kind_fields shape known b.n kind) b.rest two.v = λ kind is. subst (λ (k : ℕ). Spells (kind_fields shape known b.n k) b.rest two.v) is b.more in
    elim (kinds known a.n a.passes) [
      | inl one ↦ at 1 one (object_read shape earlier b.n b.rest two.back two.v r (less known few (full_object known (to_be_bytes w32 b.n ++ (b.rest ++ two.back)) (full 1 one))) b.are theirs (head 1 one) two.second)
      | inr (inl two_is) ↦ at 2 two_is (fence_read shape earlier b.n b.rest two.back two.v r b.are (head 2 two_is) two.second)
      | inr (inr (inl three)) ↦ at 3 three.0 (joined_read shape earlier b.n b.rest two.back two.v r (less known few (full_joined known (to_be_bytes w32 b.n ++ (b.rest ++ two.back)) three.1 (full 3 three.0))) (ap limit_when three.1) b.are theirs (head 3 three.0) two.second)
      | inr (inr (inr four)) ↦ at 4 four (raise_read shape earlier b.n b.rest two.back two.v r b.are (head 4 four) two.second)
    ]
