-- The fields of a record that may follow are those of its body.
use Rattle.std.proofs.Common.{◌≡◌, ◌≢◌, ℕ, ◌+◌, ◌^◌, ◌<◌, Bool, true, false, ◌&&◌, ◌==◌, not, List, [], ◌++◌, length, refl, subst, arith}
use Rattle.std.specs.Prelude.{nat_le, nat_lt}
use Rattle.std.specs.List.{list_any}
use Rattle.std.specs.Int.{w8, w16, w32, w64, to_be_bytes}
use Rattle.std.proofs.lemmas.List.{append-nil}
use Rattle.std.proofs.lemmas.Bool.{and_parts, and_from, leb-true, lt-ltb, eq-eqb, ne_eqb, not_from_false}
use Rattle.aea_lattice.specs.declared.shape.Shape.{Shape}
use Rattle.aea_catalog.specs.Names.{is_name}
use Rattle.aea_records.specs.Tables.{Table, Part, End, Spells, number, any}
use Rattle.aea_records.proofs.Numbers.{wide8, wide16, wide32, wide64}
use Rattle.aea_records.proofs.Spelling.{spell_number, spell_then}
use Rattle.aea_records.specs.Format.{Stored, Record, Fence, Raise, raised_limit, limit_when, limit_of, stored_of, body, is_raise}
use Rattle.aea_lattice.specs.Fences.{greatest_fences}
use Rattle.aea_records.specs.Known.{Known, known_of}
use Rattle.aea_records.specs.Fields.{Head, Whole, head_fields, kind_fields, front_fields, tail_fields, record_fields, is_kind, is_length, is_new_name, is_next_node, is_next_fence, is_raise_to, stored_with}
use Rattle.aea_records.specs.Grammar.{MayBeStored, IsNextFence}
use Rattle.aea_records.proofs.Names.{free-new, fence-new, name-length}

-- a head of some kind, and what follows it
pub spell_kind : (shape : Shape) (known : Known) (kind bytes : ℕ) (found : ℕ × Head) (r : Record) (front back : List ℕ)
    → is_kind known kind ≡ true → kind < 2 ^ 8 → bytes < 2 ^ 32
    → Spells (kind_fields shape known bytes kind) front found → Spells (tail_fields shape known found) back r
    → Spells (record_fields shape known) ((to_be_bytes w8 kind ++ (to_be_bytes w32 bytes ++ front)) ++ back) r
spell_kind shape known kind bytes found r front back is small short mine theirs =
    spell_then (head_fields shape known) (tail_fields shape known) (to_be_bytes w8 kind ++ (to_be_bytes w32 bytes ++ front)) back found r
    (spell_number w8 (2 ^ 8) wide8 (is_kind known) (λ k. number w32 any (λ b. kind_fields shape known b k)) kind (to_be_bytes w32 bytes ++ front) found small is
    (spell_number w32 (2 ^ 32) wide32 any (λ b. kind_fields shape known b kind) bytes front found short refl mine))
    theirs

-- a fence
pub fence_spelled : (shape : Shape) (earlier : List Record) (node : ℕ) → IsNextFence earlier node → Spells (record_fields shape (known_of earlier)) (body (Fence node)) (Fence node)
fence_spelled shape earlier node next =
    let known : Known = known_of earlier in
    let a = and_from (node == known.nodes) (not (node == 0)) (eq-eqb node known.nodes next.last) (not_from_false (node == 0) (ne_eqb node 0 (λ e. absurd (let s = next.some in omega (arith, e, s))))) in
    let b = and_from (node == known.nodes && not (node == 0)) (not (list_any (λ (f : ℕ). f == node) known.fences)) a (not_from_false (list_any (λ (f : ℕ). f == node) known.fences) (fence-new known.fences node next.new)) in
    let c = and_from (node == known.nodes && not (node == 0) && not (list_any (λ (f : ℕ). f == node) known.fences)) (nat_lt (length known.fences) greatest_fences) b (lt-ltb (length known.fences) greatest_fences next.few) in
    let text : (to_be_bytes w8 2 ++ (to_be_bytes w32 4 ++ (to_be_bytes w32 node ++ []))) ++ [] ≡ body (Fence node) = simp (append-nil) refl in
    subst (λ (l : List ℕ). Spells (record_fields shape (known_of earlier)) l (Fence node)) text
    (spell_kind shape (known_of earlier) 2 4 (4, Whole (Fence node)) (Fence node) (to_be_bytes w32 node ++ []) [] refl (omega arith) (omega arith)
    (spell_number {A = ℕ × Head} w32 (2 ^ 32) wide32 (is_next_fence (known_of earlier)) (λ n. End (4, Whole (Fence n))) node [] (4, Whole (Fence node)) next.small c (refl, refl))
    (refl, (refl, refl)))

-- a raise
pub raise_spelled : (shape : Shape) (earlier : List Record) → limit_of earlier ≢ raised_limit → Spells (record_fields shape (known_of earlier)) (body Raise) Raise
raise_spelled shape earlier next =
    let low : list_any is_raise earlier ≡ false = not_raised (list_any is_raise earlier) next in
    let text : (to_be_bytes w8 4 ++ (to_be_bytes w32 4 ++ (to_be_bytes w32 raised_limit ++ []))) ++ [] ≡ body Raise = simp (append-nil) refl in
    subst (λ (l : List ℕ). Spells (record_fields shape (known_of earlier)) l Raise) text
    (spell_kind shape (known_of earlier) 4 4 (4, Whole Raise) Raise (to_be_bytes w32 raised_limit ++ []) [] refl (omega arith) (omega arith)
    (spell_number {A = ℕ × Head} w32 (2 ^ 32) wide32 (is_raise_to (known_of earlier)) (λ n. End (4, Whole Raise)) raised_limit [] (4, Whole Raise) (omega arith) (not_from_false (list_any is_raise earlier) low) (refl, refl))
    (refl, (refl, refl)))
  where
    not_raised : (b : Bool) → limit_when b ≢ raised_limit → b ≡ false
    not_raised true h = absurd (h refl)
    not_raised false h = refl

-- the first fields of an object, and what follows them
pub spell_front : (shape : Shape) (earlier : List Record) (o : Stored) (next : Stored → Table (ℕ × Head)) (more : List ℕ) (found : ℕ × Head)
    → MayBeStored shape earlier o → o.first < 2 ^ 32
    → Spells (next (stored_with o.name o.size o.digest o.first)) more found
    → Spells (front_fields (known_of earlier) next)
    (to_be_bytes w16 (length o.name) ++ (o.name ++ (to_be_bytes w64 o.size ++ (o.digest ++ (to_be_bytes w32 o.first ++ more))))) found
spell_front shape earlier o next more found may small rest =
    let known : Known = known_of earlier in
    let long = name-length o.name may.name in
    let short = leb-true (length o.name) 255 (and_parts (nat_le 1 (length o.name)) (nat_le (length o.name) 255) long).1 in
    let named = and_from (is_name o.name) (not (known.taken o.name)) may.name (not_from_false (known.taken o.name) (free-new (stored_of earlier) o.name may.new)) in
    let last : Spells (number w32 (is_next_node known) (λ first. next (stored_with o.name o.size o.digest first))) (to_be_bytes w32 o.first ++ more) found =
    spell_number w32 (2 ^ 32) wide32 (is_next_node known) (λ first. next (stored_with o.name o.size o.digest first)) o.first more found small (eq-eqb o.first (known.nodes + 1) may.first) rest in
    let digest : Spells (Part 32 any (λ d. number w32 (is_next_node known) (λ first. next (stored_with o.name o.size d first)))) (o.digest ++ (to_be_bytes w32 o.first ++ more)) found =
    (o.digest, to_be_bytes w32 o.first ++ more, refl, may.digest.wide, refl, last) in
    let size : Spells (number w64 any (λ size. Part 32 any (λ d. number w32 (is_next_node known) (λ first. next (stored_with o.name size d first))))) (to_be_bytes w64 o.size ++ (o.digest ++ (to_be_bytes w32 o.first ++ more))) found =
    spell_number w64 (2 ^ 64) wide64 any (λ size. Part 32 any (λ d. number w32 (is_next_node known) (λ first. next (stored_with o.name size d first)))) o.size (o.digest ++ (to_be_bytes w32 o.first ++ more)) found may.size refl digest in
    spell_number w16 (2 ^ 16) wide16 is_length
    (λ long. Part long (is_new_name known) (λ name. number w64 any (λ size. Part 32 any (λ d. number w32 (is_next_node known) (λ first. next (stored_with name size d first))))))
    (length o.name) (o.name ++ (to_be_bytes w64 o.size ++ (o.digest ++ (to_be_bytes w32 o.first ++ more)))) found (omega (arith, short)) long
    (o.name, to_be_bytes w64 o.size ++ (o.digest ++ (to_be_bytes w32 o.first ++ more)), refl, refl, named, size)
