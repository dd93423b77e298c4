-- The blocks of the lattice of a data list, one from the others of an equation.
use Rattle.std.proofs.Common.{◌≡◌, ℕ, zero, suc, ◌-◌, ◌≤◌, Bool, true, List, [], ◌∷◌, ◌++◌, map, fold, replicate, length, bit_xor, unwrap_or, Option, Some, None, IsTrue, refl, sym, ◌∙◌, ap, subst, arith, inl, inr}
use Rattle.std.specs.Int.Bits.{xor_assoc, xor_self, xor_zero_r}
use Rattle.std.proofs.lemmas.Nat.{xor_comm}
use Rattle.std.proofs.lemmas.Bool.{cases_lt, false≢true}
use Rattle.std.proofs.lemmas.List.{length-replicate, map-append}
use Rattle.std.proofs.lemmas.List.Elements.{All-get_or}
use Rattle.std.proofs.lemmas.List.Sums.{fold-append}
use Rattle.std.proofs.lemmas.Option.{unwrap_or-slice_get, slice_get_past}
use Rattle.aea_lattice.specs.declared.blocks.Class.{Class}
use Rattle.aea_lattice.specs.declared.blocks.Class.TheVariants.{Datum, Horiz, Right, Left}
use Rattle.aea_lattice.specs.declared.blocks.BlockId.{BlockId}
use Rattle.aea_lattice.specs.declared.blocks.EqId.{EqId}
use Rattle.aea_lattice.specs.declared.grid.Lattice.{Lattice}
use Rattle.aea_lattice.specs.Blocks.{class_number, block_of, HasBlock}
use Rattle.aea_lattice.specs.Strands.{prefix, previous}
use Rattle.aea_lattice.specs.Equations.{HasEquation, is_in_equation, equation_blocks, input_blocks}
use Rattle.aea_lattice.specs.Data.{IsBytes, IsDataList, xor_bytes, xor_all, datum_at, value_at, value_of, Agree, Determines}
use Rattle.aea_lattice.specs.Closure.{IsForcedBy, IsDerivation, IsReached, is_among}
use Rattle.aea_lattice.proofs.Prefixes.{prefix-after, prefix-begin}
use Rattle.aea_lattice.proofs.Equations.{datum, output, input, member, datum_in, output_in, input_in, member_inside, datum_parity, input_output}
use Rattle.aea_lattice.proofs.Derivations.{among_cases, among-first}

-- ---- XOR of byte lists

xor_cancel : (x y : ℕ) → bit_xor (bit_xor x y) y ≡ x
xor_cancel x y = xor_assoc x y y ∙ ap (bit_xor x) (xor_self y) ∙ xor_zero_r x

-- of two lists of one width, the second added twice by XOR to the first gives the first again
pub xor_bytes-cancel : (xs ys : List ℕ) → length xs ≡ length ys → xor_bytes (xor_bytes xs ys) ys ≡ xs
xor_bytes-cancel [] ys h = refl
xor_bytes-cancel (x ∷ xs) [] h = absurd (omega arith)
xor_bytes-cancel (x ∷ xs) (y ∷ ys) h =
    let long : length xs ≡ length ys = omega arith in
    ap (λ a. a ∷ xor_bytes (xor_bytes xs ys) ys) (xor_cancel x y) ∙ ap (λ rest. x ∷ rest) (xor_bytes-cancel xs ys long)

-- the XOR of two lists is the same in either order
pub xor_bytes-comm : (xs ys : List ℕ) → xor_bytes xs ys ≡ xor_bytes ys xs
xor_bytes-comm [] [] = refl
xor_bytes-comm [] (y ∷ ys) = refl
xor_bytes-comm (x ∷ xs) [] = refl
xor_bytes-comm (x ∷ xs) (y ∷ ys) =
    ap (λ a. a ∷ xor_bytes xs ys) (xor_comm x y) ∙ ap (λ rest. bit_xor y x ∷ rest) (xor_bytes-comm xs ys)

-- the XOR of three lists is the same, whether the first two or the last two are added first
pub xor_bytes-assoc : (xs ys zs : List ℕ) → xor_bytes (xor_bytes xs ys) zs ≡ xor_bytes xs (xor_bytes ys zs)
xor_bytes-assoc [] ys zs = refl
xor_bytes-assoc (x ∷ xs) [] zs = refl
xor_bytes-assoc (x ∷ xs) (y ∷ ys) [] = refl
xor_bytes-assoc (x ∷ xs) (y ∷ ys) (z ∷ zs) =
    ap (λ a. a ∷ xor_bytes (xor_bytes xs ys) zs) (xor_assoc x y z) ∙ ap (λ rest. bit_xor x (bit_xor y z) ∷ rest) (xor_bytes-assoc xs ys zs)

-- the XOR of two lists of one width has that width
pub length-xor_bytes : (xs ys : List ℕ) → length xs ≡ length ys → length (xor_bytes xs ys) ≡ length ys
length-xor_bytes [] [] h = refl
length-xor_bytes [] (y ∷ ys) h = absurd (omega arith)
length-xor_bytes (x ∷ xs) [] h = absurd (omega arith)
length-xor_bytes (x ∷ xs) (y ∷ ys) h = let long : length xs ≡ length ys = omega arith in ap suc (length-xor_bytes xs ys long)

-- the XOR of w zeros with a list of width w is that list
pub xor_bytes-zeros : (w : ℕ) (ys : List ℕ) → length ys ≡ w → xor_bytes (replicate w 0) ys ≡ ys
xor_bytes-zeros zero [] h = refl
xor_bytes-zeros zero (y ∷ ys) h = absurd (omega arith)
xor_bytes-zeros (suc w) [] h = refl
xor_bytes-zeros (suc w) (y ∷ ys) h = let long : length ys ≡ w = omega arith in ap (λ rest. y ∷ rest) (xor_bytes-zeros w ys long)

-- ---- widths

-- in a data list of width w the datum of each node is w bytes long
pub length-datum_at : (l : Lattice) (w : ℕ) (datas : List (List ℕ)) (i : ℕ) → IsDataList l w datas → length (datum_at w datas i) ≡ w
length-datum_at l w datas i is =
    elim (cases_lt (i - 1) (length datas)) [
      | inl inside ↦
          ap length (unwrap_or-slice_get datas (i - 1) (replicate w 0))
          ∙ (All-get_or (IsBytes w) datas (i - 1) (replicate w 0) inside is.each).wide
      | inr past ↦
          ap (λ o. length (unwrap_or o (replicate w 0))) (slice_get_past datas (i - 1) past) ∙ length-replicate w 0
    ]

-- where a list of width w is the start, the XOR of lists of width w onto it has width w
pub length-fold : {A : Type 0} → (w : ℕ) (blocks : List A) (f : A → List ℕ) (start : List ℕ) → length start ≡ w → ((k : A) → length (f k) ≡ w)
    → length (fold xor_bytes start (map f blocks)) ≡ w
length-fold w [] f start h each = h
length-fold w (x ∷ xs) f start h each =
    length-fold w xs f (xor_bytes start (f x)) (length-xor_bytes start (f x) (h ∙ sym (each x)) ∙ each x) each

-- a parity in the lattice of a data list is the XOR of the data of the nodes of its prefix
pub value-parity : (l : Lattice) (w : ℕ) (datas : List (List ℕ)) (i : ℕ) (c : Class) → 1 ≤ class_number c
    → value_at l w datas i c ≡ xor_all w (map (datum_at w datas) (prefix l c i))
value-parity l w datas i Datum h = absurd (omega arith)
value-parity l w datas i Horiz h = refl
value-parity l w datas i Right h = refl
value-parity l w datas i Left h = refl

-- in the lattice of a data list of width w each block is w bytes long
pub length-value_at : (l : Lattice) (w : ℕ) (datas : List (List ℕ)) (i : ℕ) (c : Class) → IsDataList l w datas
    → length (value_at l w datas i c) ≡ w
length-value_at l w datas i Datum is = length-datum_at l w datas i is
length-value_at l w datas i Horiz is =
    length-fold w (prefix l Horiz i) (datum_at w datas) (replicate w 0) (length-replicate w 0) (λ k. length-datum_at l w datas k is)
length-value_at l w datas i Right is =
    length-fold w (prefix l Right i) (datum_at w datas) (replicate w 0) (length-replicate w 0) (λ k. length-datum_at l w datas k is)
length-value_at l w datas i Left is =
    length-fold w (prefix l Left i) (datum_at w datas) (replicate w 0) (length-replicate w 0) (λ k. length-datum_at l w datas k is)

-- ---- a parity is the XOR of the parity before it and its datum

-- where g is just before i on a strand, the parity of i is the XOR of the parity of g and the datum of i
pub value-after : (l : Lattice) (w : ℕ) (datas : List (List ℕ)) (i g : ℕ) (c : Class) → 1 ≤ class_number c → previous l c i ≡ Some g
    → value_at l w datas i c ≡ xor_bytes (value_at l w datas g c) (datum_at w datas i)
value-after l w datas i g c parity was =
    value-parity l w datas i c parity
    ∙ ap (λ nodes. xor_all w (map (datum_at w datas) nodes)) (prefix-after l c i g was)
    ∙ ap (xor_all w) (map-append (datum_at w datas) (prefix l c g) (i ∷ []))
    ∙ fold-append xor_bytes (replicate w 0) (map (datum_at w datas) (prefix l c g)) (datum_at w datas i ∷ [])
    ∙ ap (λ v. xor_bytes v (datum_at w datas i)) (sym (value-parity l w datas g c parity))

-- in the lattice of a data list, where a strand begins at a node, the node's parity on it is its datum
pub value-begin : (l : Lattice) (w : ℕ) (datas : List (List ℕ)) (i : ℕ) (c : Class) → 1 ≤ class_number c → IsDataList l w datas
    → 1 ≤ i → previous l c i ≡ None → value_at l w datas i c ≡ datum_at w datas i
value-begin l w datas i c parity is some none =
    value-parity l w datas i c parity
    ∙ ap (λ nodes. xor_all w (map (datum_at w datas) nodes)) (prefix-begin l c i some none)
    ∙ xor_bytes-zeros w (datum_at w datas i) (length-datum_at l w datas i is)

-- ---- what an equation forces has one value

third_left : (i d o : List ℕ) → length i ≡ length d → o ≡ xor_bytes i d → i ≡ xor_bytes o d
third_left i d o long h = sym (xor_bytes-cancel i d long) ∙ ap (λ v. xor_bytes v d) (sym h)

third_right : (i d o : List ℕ) → length d ≡ length i → o ≡ xor_bytes i d → d ≡ xor_bytes o i
third_right i d o long h = third_left d i o long (h ∙ xor_bytes-comm i d)

-- the lattices of two data lists agree at a block
abbrev Same : Lattice → ℕ → List (List ℕ) → List (List ℕ) → BlockId → Type 0
Same l w xs ys b = value_of l w xs b ≡ value_of l w ys b

-- two data lists, and the blocks of an equation at which their lattices agree
module _ (l : Lattice) (w : ℕ) (xs ys : List (List ℕ)) (e : EqId) (hx : IsDataList l w xs) (hy : IsDataList l w ys) (has : HasEquation l e) where
  same_output : (p : Option ℕ) → previous l e.class e.node ≡ p → Same l w xs ys (block_of e.node Datum)
      → ((g : ℕ) → p ≡ Some g → Same l w xs ys (block_of g e.class)) → Same l w xs ys (block_of e.node e.class)
  same_output None was d i =
      value-begin l w xs e.node e.class has.class.parity hx has.node.first was ∙ d
      ∙ sym (value-begin l w ys e.node e.class has.class.parity hy has.node.first was)
  same_output (Some g) was d i =
      value-after l w xs e.node g e.class has.class.parity was
      ∙ ap (λ v. xor_bytes v (datum_at w xs e.node)) (i g refl)
      ∙ ap (xor_bytes (value_at l w ys g e.class)) d
      ∙ sym (value-after l w ys e.node g e.class has.class.parity was)

  datum_by : (datas : List (List ℕ)) (g : ℕ) → IsDataList l w datas → previous l e.class e.node ≡ Some g
      → datum_at w datas e.node ≡ xor_bytes (value_at l w datas e.node e.class) (value_at l w datas g e.class)
  datum_by datas g h was =
      third_right (value_at l w datas g e.class) (datum_at w datas e.node) (value_at l w datas e.node e.class)
      (length-datum_at l w datas e.node h ∙ sym (length-value_at l w datas g e.class h))
      (value-after l w datas e.node g e.class has.class.parity was)

  same_datum : (p : Option ℕ) → previous l e.class e.node ≡ p → Same l w xs ys (block_of e.node e.class)
      → ((g : ℕ) → p ≡ Some g → Same l w xs ys (block_of g e.class)) → Same l w xs ys (block_of e.node Datum)
  same_datum None was o i =
      sym (value-begin l w xs e.node e.class has.class.parity hx has.node.first was) ∙ o
      ∙ value-begin l w ys e.node e.class has.class.parity hy has.node.first was
  same_datum (Some g) was o i =
      datum_by xs g hx was
      ∙ ap (λ v. xor_bytes v (value_at l w xs g e.class)) o
      ∙ ap (xor_bytes (value_at l w ys e.node e.class)) (i g refl)
      ∙ sym (datum_by ys g hy was)

  input_by : (datas : List (List ℕ)) (g : ℕ) → IsDataList l w datas → previous l e.class e.node ≡ Some g
      → value_at l w datas g e.class ≡ xor_bytes (value_at l w datas e.node e.class) (datum_at w datas e.node)
  input_by datas g h was =
      third_left (value_at l w datas g e.class) (datum_at w datas e.node) (value_at l w datas e.node e.class)
      (length-value_at l w datas g e.class h ∙ sym (length-datum_at l w datas e.node h))
      (value-after l w datas e.node g e.class has.class.parity was)

  same_input : (g : ℕ) → previous l e.class e.node ≡ Some g → Same l w xs ys (block_of e.node Datum)
      → Same l w xs ys (block_of e.node e.class) → Same l w xs ys (block_of g e.class)
  same_input g was d o =
      input_by xs g hx was
      ∙ ap (λ v. xor_bytes v (datum_at w xs e.node)) o
      ∙ ap (xor_bytes (value_at l w ys e.node e.class)) d
      ∙ sym (input_by ys g hy was)

-- Where the lattices of two data lists agree at all other blocks of an equation, they agree at the block.
pub forced-agrees : (l : Lattice) (w : ℕ) (xs ys : List (List ℕ)) (known : BlockId → Bool) (b : BlockId) (e : EqId)
    → IsDataList l w xs → IsDataList l w ys → IsForcedBy l known b e
    → ((d : BlockId) → IsTrue (is_in_equation l e d) → known d ≡ true → Same l w xs ys d)
    → Same l w xs ys b
forced-agrees l w xs ys known b e hx hy forced agree =
    let has = forced.equation in
    elim (member l e b forced.contains) [
      | datum same ↦
          subst (Same l w xs ys) (sym same)
          (same_datum l w xs ys e hx hy has (previous l e.class e.node) refl
          (agree (block_of e.node e.class) (output_in l e)
          (forced.others (block_of e.node e.class) (output_in l e) (λ is. datum_parity l e e.node e.node has (sym (is ∙ same)))))
          (λ g was. agree (block_of g e.class) (input_in l e g was)
          (forced.others (block_of g e.class) (input_in l e g was) (λ is. datum_parity l e e.node g has (sym (is ∙ same))))))
      | output same ↦
          subst (Same l w xs ys) (sym same)
          (same_output l w xs ys e hx hy has (previous l e.class e.node) refl
          (agree (block_of e.node Datum) (datum_in l e)
          (forced.others (block_of e.node Datum) (datum_in l e) (λ is. datum_parity l e e.node e.node has (is ∙ same))))
          (λ g was. agree (block_of g e.class) (input_in l e g was)
          (forced.others (block_of g e.class) (input_in l e g was) (λ is. input_output l e g was (is ∙ same)))))
      | input g was same ↦
          subst (Same l w xs ys) (sym same)
          (same_input l w xs ys e hx hy has g was
          (agree (block_of e.node Datum) (datum_in l e)
          (forced.others (block_of e.node Datum) (datum_in l e) (λ is. datum_parity l e e.node g has (is ∙ same))))
          (agree (block_of e.node e.class) (output_in l e)
          (forced.others (block_of e.node e.class) (output_in l e) (λ is. input_output l e g was (sym (is ∙ same))))))
    ]

derivation-agrees : (l : Lattice) (w : ℕ) (xs ys : List (List ℕ)) (known : BlockId → Bool)
    → IsDataList l w xs → IsDataList l w ys → Agree l w known xs ys
    → (list : List BlockId) → IsDerivation l known list
    → (d : BlockId) → HasBlock l d → is_among list d ≡ true → Same l w xs ys d
derivation-agrees l w xs ys known hx hy agree [] h d inside k = absurd (false≢true k)
derivation-agrees l w xs ys known hx hy agree (b ∷ rest) h d inside k =
    elim (among_cases b rest d k) [
      | inl same ↦
          subst (Same l w xs ys) (sym same)
          (elim h.1 [
            | inl in_set ↦ agree b (subst (HasBlock l) same inside) in_set
            | inr given ↦
                forced-agrees l w xs ys (is_among rest) b given.0 hx hy given.1
                (λ c member earlier.
                derivation-agrees l w xs ys known hx hy agree rest h.0 c (member_inside l given.0 c given.1.equation member) earlier)
          ])
      | inr later ↦ derivation-agrees l w xs ys known hx hy agree rest h.0 d inside later
    ]

-- a set determines each block of the lattice that is in its closure
pub reached-determined : (l : Lattice) (known : BlockId → Bool) (b : BlockId) → HasBlock l b → IsReached l known b → Determines l known b
reached-determined l known b inside reached w xs ys hx hy agree =
    derivation-agrees l w xs ys known hx hy agree (b ∷ reached.0) reached.1 b inside (among-first reached.0 b)

-- ---- the blocks of an equation add up to zero

xor_bytes-self : (xs : List ℕ) → xor_bytes xs xs ≡ replicate (length xs) 0
xor_bytes-self [] = refl
xor_bytes-self (x ∷ xs) = ap (λ a. a ∷ xor_bytes xs xs) (xor_self x) ∙ ap (λ rest. 0 ∷ rest) (xor_bytes-self xs)

sum_to_zero : (l : Lattice) (w : ℕ) (datas : List (List ℕ)) (e : EqId) → IsDataList l w datas → HasEquation l e → (p : Option ℕ) → previous l e.class e.node ≡ p
    → xor_all w (map (value_of l w datas) (input_blocks p e.class ++ block_of e.node Datum ∷ block_of e.node e.class ∷ [])) ≡ replicate w 0
sum_to_zero l w datas e is has None was =
    let d = datum_at w datas e.node in
    ap (λ v. xor_bytes v (value_at l w datas e.node e.class)) (xor_bytes-zeros w d (length-datum_at l w datas e.node is))
    ∙ ap (xor_bytes d) (value-begin l w datas e.node e.class has.class.parity is has.node.first was)
    ∙ xor_bytes-self d
    ∙ ap (λ n. replicate n 0) (length-datum_at l w datas e.node is)
sum_to_zero l w datas e is has (Some g) was =
    let d = datum_at w datas e.node in
    let i = value_at l w datas g e.class in
    let o = value_at l w datas e.node e.class in
    ap (λ v. xor_bytes (xor_bytes v d) o) (xor_bytes-zeros w i (length-value_at l w datas g e.class is))
    ∙ ap (xor_bytes (xor_bytes i d)) (value-after l w datas e.node g e.class has.class.parity was)
    ∙ xor_bytes-self (xor_bytes i d)
    ∙ ap (λ n. replicate n 0) (sym (ap length (value-after l w datas e.node g e.class has.class.parity was)) ∙ length-value_at l w datas e.node e.class is)

-- the blocks of an equation of the lattice add up to zero by XOR, in the lattice of every data list
pub equations-add_up : (l : Lattice) (w : ℕ) (datas : List (List ℕ)) (e : EqId) → IsDataList l w datas → HasEquation l e
    → xor_all w (map (value_of l w datas) (equation_blocks l e)) ≡ replicate w 0
equations-add_up l w datas e is has = sum_to_zero l w datas e is has (previous l e.class e.node) refl
