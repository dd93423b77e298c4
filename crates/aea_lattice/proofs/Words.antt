-- What a codeword changes: adding the same bytes to the data of its nodes.
use Rattle.std.proofs.Common.{◌≡◌, ◌≢◌, ℕ, zero, suc, ◌+◌, ◌-◌, ◌<◌, ◌≤◌, ◌^◌, ◌↔◌, Bool, true, false, cond, List, [], ◌∷◌, replicate, length, bit_xor, get_or, Option, Some, None, All, IsTrue, refl, sym, ◌∙◌, ap, arith, inl, inr, lit<}
use Rattle.std.specs.Int.Bits.{xor_self}
use Rattle.std.proofs.lemmas.Nat.{xor_of_8}
use Rattle.std.proofs.lemmas.Bool.{cases_Bool, true≢false}
use Rattle.std.proofs.lemmas.List.{length-replicate}
use Rattle.std.proofs.lemmas.List.Elements.{All-nil, All-cons, All-head, All-tail, All-replicate}
use Rattle.std.proofs.lemmas.Option.{unwrap_or-slice_get}
use Rattle.aea_lattice.specs.declared.blocks.Class.{Class}
use Rattle.aea_lattice.specs.declared.blocks.Class.TheVariants.{Datum, Horiz, Right, Left}
use Rattle.aea_lattice.specs.declared.blocks.BlockId.{BlockId}
use Rattle.aea_lattice.specs.declared.grid.Lattice.{Lattice}
use Rattle.aea_lattice.specs.Blocks.{class_number, HasBlock}
use Rattle.aea_lattice.specs.Strands.{previous}
use Rattle.aea_lattice.specs.Equations.{codeword_at, is_in_codeword}
use Rattle.aea_lattice.specs.Data.{IsBytes, IsDataList, xor_bytes, datum_at, value_at, value_of, Determines}
use Rattle.aea_lattice.specs.Facts.{Misses, changed_from}
use Rattle.aea_lattice.proofs.Prefixes.{previous-first, previous-before}
use Rattle.aea_lattice.proofs.Sums.{xor_bytes-cancel, xor_bytes-comm, xor_bytes-assoc, length-xor_bytes, length-datum_at, length-value_at, value-after, value-begin}
use Rattle.aea_lattice.specs.Parity.{differ}
use Rattle.aea_lattice.proofs.Codewords.{codeword-after, codeword-begin}

-- the block, with the bytes added where it is said
abbrev pub shifted : Bool → List ℕ → List ℕ → List ℕ
shifted b bytes v = cond b (xor_bytes v bytes) v

-- ---- the changed data list

length-changed : (i : ℕ) (nodes : ℕ → Bool) (bytes : List ℕ) (datas : List (List ℕ)) → length (changed_from i nodes bytes datas) ≡ length datas
length-changed i nodes bytes [] = refl
length-changed i nodes bytes (x ∷ xs) = ap suc (length-changed (suc i) nodes bytes xs)

get_or-changed : (i k : ℕ) (nodes : ℕ → Bool) (bytes d : List ℕ) (datas : List (List ℕ)) → k < length datas
    → get_or (changed_from i nodes bytes datas) k d ≡ shifted (nodes (i + k)) bytes (get_or datas k d)
get_or-changed i k nodes bytes d [] h = absurd (omega arith)
get_or-changed i zero nodes bytes d (x ∷ xs) h =
    let same : i ≡ i + 0 = omega arith in ap (λ j. shifted (nodes j) bytes x) same
get_or-changed i (suc k) nodes bytes d (x ∷ xs) h =
    let less : k < length xs = omega arith in
    let same : suc i + k ≡ i + suc k = omega arith in
    get_or-changed (suc i) k nodes bytes d xs less ∙ ap (λ j. shifted (nodes j) bytes (get_or xs k d)) same

datum_at-changed : (l : Lattice) (nodes : ℕ → Bool) (w : ℕ) (bytes : List ℕ) (datas : List (List ℕ)) (i : ℕ)
    → IsDataList l w datas → 1 ≤ i → i ≤ l.n
    → datum_at w (changed_from 1 nodes bytes datas) i ≡ shifted (nodes i) bytes (datum_at w datas i)
datum_at-changed l nodes w bytes datas i is first last =
    let inside : i - 1 < length datas = omega (arith, is.long) in
    let same : 1 + (i - 1) ≡ i = omega arith in
    unwrap_or-slice_get (changed_from 1 nodes bytes datas) (i - 1) (replicate w 0)
    ∙ get_or-changed 1 (i - 1) nodes bytes (replicate w 0) datas inside
    ∙ ap (λ j. shifted (nodes j) bytes (get_or datas (i - 1) (replicate w 0))) same
    ∙ ap (shifted (nodes i) bytes) (sym (unwrap_or-slice_get datas (i - 1) (replicate w 0)))

xor_bytes-each : (xs ys : List ℕ) → All (λ x. x < 2 ^ 8) xs → All (λ x. x < 2 ^ 8) ys → All (λ x. x < 2 ^ 8) (xor_bytes xs ys)
xor_bytes-each [] ys hx hy = All-nil (λ x. x < 2 ^ 8)
xor_bytes-each (x ∷ xs) [] hx hy = All-nil (λ x. x < 2 ^ 8)
xor_bytes-each (x ∷ xs) (y ∷ ys) hx hy =
    All-cons (λ x. x < 2 ^ 8) (bit_xor x y) (xor_bytes xs ys)
    (xor_of_8 x y (All-head (λ x. x < 2 ^ 8) x xs hx) (All-head (λ x. x < 2 ^ 8) y ys hy))
    (xor_bytes-each xs ys (All-tail (λ x. x < 2 ^ 8) x xs hx) (All-tail (λ x. x < 2 ^ 8) y ys hy))

IsBytes-shifted : (w : ℕ) (b : Bool) (bytes v : List ℕ) → IsBytes w bytes → IsBytes w v → IsBytes w (shifted b bytes v)
IsBytes-shifted w true bytes v hb hv = record {
  wide = length-xor_bytes v bytes (hv.wide ∙ sym hb.wide) ∙ hb.wide;
  each = xor_bytes-each v bytes hv.each hb.each;
}
IsBytes-shifted w false bytes v hb hv = hv

All-changed : (w i : ℕ) (nodes : ℕ → Bool) (bytes : List ℕ) (datas : List (List ℕ)) → IsBytes w bytes → All (IsBytes w) datas
    → All (IsBytes w) (changed_from i nodes bytes datas)
All-changed w i nodes bytes [] hb each = All-nil (IsBytes w)
All-changed w i nodes bytes (x ∷ xs) hb each =
    All-cons (IsBytes w) (shifted (nodes i) bytes x) (changed_from (suc i) nodes bytes xs)
    (IsBytes-shifted w (nodes i) bytes x hb (All-head (IsBytes w) x xs each))
    (All-changed w (suc i) nodes bytes xs hb (All-tail (IsBytes w) x xs each))

pub IsDataList-changed : (l : Lattice) (nodes : ℕ → Bool) (w : ℕ) (datas : List (List ℕ)) (bytes : List ℕ) → IsDataList l w datas → IsBytes w bytes
    → IsDataList l w (changed_from 1 nodes bytes datas)
IsDataList-changed l nodes w datas bytes is hb = record {
  some_bytes = is.some_bytes;
  long = length-changed 1 nodes bytes datas ∙ is.long;
  each = All-changed w 1 nodes bytes datas hb is.each;
}

-- ---- its lattice

xor-shifted : (a b : Bool) (w : ℕ) (bytes u v : List ℕ) → length bytes ≡ w → length u ≡ w → length v ≡ w
    → xor_bytes (shifted a bytes u) (shifted b bytes v) ≡ shifted (differ a b) bytes (xor_bytes u v)
xor-shifted true true w bytes u v hb hu hv =
    let long : length u ≡ length bytes = hu ∙ sym hb in
    ap (xor_bytes (xor_bytes u bytes)) (xor_bytes-comm v bytes)
    ∙ sym (xor_bytes-assoc (xor_bytes u bytes) bytes v)
    ∙ ap (λ x. xor_bytes x v) (xor_bytes-cancel u bytes long)
xor-shifted true false w bytes u v hb hu hv =
    xor_bytes-assoc u bytes v ∙ ap (xor_bytes u) (xor_bytes-comm bytes v) ∙ sym (xor_bytes-assoc u v bytes)
xor-shifted false true w bytes u v hb hu hv = sym (xor_bytes-assoc u v bytes)
xor-shifted false false w bytes u v hb hu hv = refl

module _ (l : Lattice) (nodes : ℕ → Bool) (w : ℕ) (datas : List (List ℕ)) (bytes : List ℕ) (is : IsDataList l w datas) (hb : IsBytes w bytes) where
  abbrev changed : List (List ℕ)
  changed = changed_from 1 nodes bytes datas

  value-step : (i : ℕ) (c : Class)
      → ((g : ℕ) → g < i → 1 ≤ g → value_at l w changed g c ≡ shifted (codeword_at l nodes g c) bytes (value_at l w datas g c))
      → 1 ≤ i → i ≤ l.n → 1 ≤ class_number c → (p : Option ℕ) → previous l c i ≡ p
      → value_at l w changed i c ≡ shifted (codeword_at l nodes i c) bytes (value_at l w datas i c)
  value-step i c before first last parity None was =
      value-begin l w changed i c parity (IsDataList-changed l nodes w datas bytes is hb) first was
      ∙ datum_at-changed l nodes w bytes datas i is first last
      ∙ ap (λ b. shifted b bytes (datum_at w datas i)) (sym (codeword-begin l nodes i c parity first was))
      ∙ ap (shifted (codeword_at l nodes i c) bytes) (sym (value-begin l w datas i c parity is first was))
  value-step i c before first last parity (Some g) was =
      value-after l w changed i g c parity was
      ∙ ap (λ v. xor_bytes v (datum_at w changed i)) (before g (previous-before l c i g was) (previous-first l c i g was))
      ∙ ap (xor_bytes (shifted (codeword_at l nodes g c) bytes (value_at l w datas g c))) (datum_at-changed l nodes w bytes datas i is first last)
      ∙ xor-shifted (codeword_at l nodes g c) (nodes i) w bytes (value_at l w datas g c) (datum_at w datas i)
      hb.wide (length-value_at l w datas g c is) (length-datum_at l w datas i is)
      ∙ ap (λ b. shifted b bytes (xor_bytes (value_at l w datas g c) (datum_at w datas i))) (sym (codeword-after l nodes i g c parity was))
      ∙ ap (shifted (codeword_at l nodes i c) bytes) (sym (value-after l w datas i g c parity was))

  value-parity_changed : (m i : ℕ) (c : Class) → i ≤ m → 1 ≤ i → i ≤ l.n → 1 ≤ class_number c
      → value_at l w changed i c ≡ shifted (codeword_at l nodes i c) bytes (value_at l w datas i c)
  value-parity_changed zero i c most first last parity = absurd (omega arith)
  value-parity_changed (suc m) i c most first last parity =
      value-step i c (λ g less some. value-parity_changed m g c (omega arith) some (omega arith) parity) first last parity (previous l c i) refl

  value-class_changed : (i : ℕ) (c : Class) → 1 ≤ i → i ≤ l.n
      → value_at l w changed i c ≡ shifted (codeword_at l nodes i c) bytes (value_at l w datas i c)
  value-class_changed i Datum first last = datum_at-changed l nodes w bytes datas i is first last
  value-class_changed i Horiz first last = value-parity_changed i i Horiz (omega arith) first last (omega arith)
  value-class_changed i Right first last = value-parity_changed i i Right (omega arith) first last (omega arith)
  value-class_changed i Left first last = value-parity_changed i i Left (omega arith) first last (omega arith)

  -- The lattice of the changed data list has the bytes added exactly on the codeword of the nodes.
  pub value-changed : (b : BlockId) → HasBlock l b → value_of l w changed b ≡ shifted (is_in_codeword l nodes b) bytes (value_of l w datas b)
  value-changed b inside = value-class_changed b.node b.class inside.first inside.last

-- ---- bytes that are not all zero change a block

xor_bytes-self : (w : ℕ) (v : List ℕ) → length v ≡ w → xor_bytes v v ≡ replicate w 0
xor_bytes-self zero [] h = refl
xor_bytes-self zero (x ∷ xs) h = absurd (omega arith)
xor_bytes-self (suc w) [] h = absurd (omega arith)
xor_bytes-self (suc w) (x ∷ xs) h =
    let long : length xs ≡ w = omega arith in
    ap (λ a. a ∷ xor_bytes xs xs) (xor_self x) ∙ ap (λ rest. 0 ∷ rest) (xor_bytes-self w xs long)

xor_bytes-same : (w : ℕ) (v bytes : List ℕ) → length v ≡ w → length bytes ≡ w → xor_bytes v bytes ≡ v → bytes ≡ replicate w 0
xor_bytes-same w v bytes hv hb same =
    sym (xor_bytes-cancel bytes v (hb ∙ sym hv)) ∙ ap (λ x. xor_bytes x v) (xor_bytes-comm bytes v ∙ same) ∙ xor_bytes-self w v hv

shifted-same : (w : ℕ) (b : Bool) (bytes v : List ℕ) → length v ≡ w → length bytes ≡ w → bytes ≢ replicate w 0 → shifted b bytes v ≡ v → b ≡ false
shifted-same w true bytes v hv hb some same = absurd (some (xor_bytes-same w v bytes hv hb same))
shifted-same w false bytes v hv hb some same = refl

length-value_of : (l : Lattice) (w : ℕ) (datas : List (List ℕ)) (b : BlockId) → IsDataList l w datas → length (value_of l w datas b) ≡ w
length-value_of l w datas b is = length-value_at l w datas b.node b.class is

-- bytes that are not all zero, added by XOR to the data of some nodes, give a data list whose lattice
-- differs from that of the first exactly on the codeword of the nodes
pub changes-words : (l : Lattice) (nodes : ℕ → Bool) (w : ℕ) (datas : List (List ℕ)) (bytes : List ℕ)
    → IsDataList l w datas → IsBytes w bytes → bytes ≢ replicate w 0
    → IsDataList l w (changed_from 1 nodes bytes datas)
    × ((b : BlockId) → HasBlock l b
    → IsTrue (is_in_codeword l nodes b) ↔ (value_of l w (changed_from 1 nodes bytes datas) b ≢ value_of l w datas b))
    × ((b : BlockId) → HasBlock l b → is_in_codeword l nodes b ≡ false → value_of l w (changed_from 1 nodes bytes datas) b ≡ value_of l w datas b)
changes-words l nodes w datas bytes is hb some = (
  IsDataList-changed l nodes w datas bytes is hb,
  λ b inside. (
    λ contained same.
        true≢false
        (sym contained
        ∙ shifted-same w (is_in_codeword l nodes b) bytes (value_of l w datas b) (length-value_of l w datas b is) hb.wide some
        (sym (value-changed l nodes w datas bytes is hb b inside) ∙ same)),
    λ other.
        elim (cases_Bool (is_in_codeword l nodes b)) [
          | inl contained ↦ contained
          | inr missed ↦
              absurd (other (value-changed l nodes w datas bytes is hb b inside ∙ ap (λ x. shifted x bytes (value_of l w datas b)) missed))
        ],
  ),
  λ b inside missed. value-changed l nodes w datas bytes is hb b inside ∙ ap (λ x. shifted x bytes (value_of l w datas b)) missed,
)

-- ---- a codeword that misses a set misses what it determines

-- the block with one byte
abbrev one_byte : ℕ → List ℕ
one_byte x = x ∷ []

IsBytes-one_byte : (x : ℕ) → x < 2 ^ 8 → IsBytes 1 (one_byte x)
IsBytes-one_byte x h = record { wide = refl; each = All-cons (λ y. y < 2 ^ 8) x [] h (All-nil (λ y. y < 2 ^ 8)) }

IsDataList-zeros : (l : Lattice) → IsDataList l 1 (replicate l.n (one_byte 0))
IsDataList-zeros l = record {
  some_bytes = omega arith;
  long = length-replicate l.n (one_byte 0);
  each = All-replicate (IsBytes 1) l.n (one_byte 0) (IsBytes-one_byte 0 (lit< tt));
}

one_some : one_byte 1 ≢ replicate 1 0
one_some h = let same : ◌≡◌ {A = ℕ} 1 0 = ap (λ xs. get_or xs 0 0) h in omega arith

-- a codeword that contains no block of a set contains no block of the lattice that the set determines
pub words-miss : (l : Lattice) (known : BlockId → Bool) (nodes : ℕ → Bool) → Misses l known nodes
    → (b : BlockId) → HasBlock l b → Determines l known b → is_in_codeword l nodes b ≡ false
words-miss l known nodes misses b inside determined =
    let datas : List (List ℕ) = replicate l.n (one_byte 0) in
    let is : IsDataList l 1 datas = IsDataList-zeros l in
    let hb : IsBytes 1 (one_byte 1) = IsBytes-one_byte 1 (lit< tt) in
    let other : List (List ℕ) = changed_from 1 nodes (one_byte 1) datas in
    let shift : (d : BlockId) → HasBlock l d → value_of l 1 other d ≡ shifted (is_in_codeword l nodes d) (one_byte 1) (value_of l 1 datas d) =
    value-changed l nodes 1 datas (one_byte 1) is hb in
    let agree : (d : BlockId) → HasBlock l d → IsTrue (known d) → value_of l 1 other d ≡ value_of l 1 datas d =
    λ d has in_set. shift d has ∙ ap (λ x. shifted x (one_byte 1) (value_of l 1 datas d)) (misses d has in_set) in
    shifted-same 1 (is_in_codeword l nodes b) (one_byte 1) (value_of l 1 datas b) (length-value_of l 1 datas b is) hb.wide one_some
    (sym (shift b inside) ∙ determined 1 other datas (IsDataList-changed l nodes 1 datas (one_byte 1) is hb) is agree)

-- What a codeword contains that misses a set, the set does not determine.
pub word-not_determined : (l : Lattice) (known : BlockId → Bool) (nodes : ℕ → Bool) (b : BlockId) → HasBlock l b
    → IsTrue (is_in_codeword l nodes b) → Misses l known nodes → ¬ Determines l known b
word-not_determined l known nodes b inside contained misses determined =
    true≢false (sym contained ∙ words-miss l known nodes misses b inside determined)
