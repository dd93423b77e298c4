-- What sets of equations add up to is zero in every lattice of a data list, bit by bit.
use Rattle.std.proofs.Common.{◌≡◌, ℕ, zero, suc, Bool, true, false, ◌&&◌, ◌==◌, List, [], ◌∷◌, ◌++◌, map, filter, fold, replicate, length, get_or, Option, Some, None, inl, inr, refl, sym, ◌∙◌, ap}
use Rattle.std.specs.List.{flat_map}
use Rattle.std.specs.Int.{bit_at}
use Rattle.std.proofs.lemmas.Bool.{cases_Bool}
use Rattle.std.proofs.lemmas.Nat.Bits.{bit_at-lt, bit_at-zero}
use Rattle.std.proofs.lemmas.List.{length-replicate}
use Rattle.aea_lattice.specs.declared.blocks.Class.TheVariants.{Datum}
use Rattle.aea_lattice.specs.declared.blocks.BlockId.{BlockId}
use Rattle.aea_lattice.specs.declared.blocks.EqId.{EqId}
use Rattle.aea_lattice.specs.declared.grid.Lattice.{Lattice}
use Rattle.aea_lattice.specs.Blocks.{block_of, same_block, HasBlock, blocks_of}
use Rattle.aea_lattice.specs.Strands.{previous}
use Rattle.aea_lattice.specs.Equations.{HasEquation, input_blocks, equation_blocks, is_in_equation, is_odd_count, equations_of, adds_up_to}
use Rattle.aea_lattice.specs.Parity.{differ}
use Rattle.aea_lattice.specs.Data.{IsDataList, xor_bytes, xor_all, value_of}
use Rattle.aea_lattice.specs.Facts.{MeetsEvenly, AreOfSum, SetsAddUp, SumsAreListed}
use Rattle.aea_lattice.proofs.Equations.{member_inside, datum_in, output_in, input_in}
use Rattle.aea_lattice.proofs.Sums.{length-xor_bytes, length-fold, length-value_at, equations-add_up}
use Rattle.aea_lattice.proofs.Bits.{bit_in, bit_in-xor, bits_equal, bytes_same, test_bits}
use Rattle.aea_lattice.proofs.Odd.{same_test, odd-cons, odd-append, odd-none, odd-differ, odd-filter, odd-same, differ-and, differ-assoc, differ-false_r, Each, Each-append, Each-more}
use Rattle.aea_lattice.proofs.Once.{odd-at, each-blocks_of, each-equations_of}
use Rattle.aea_lattice.proofs.Even.{odd-at_left, meet_equation, sums_even}
use Rattle.aea_lattice.proofs.Among.{All-Each, Each-All}

-- ---- a bit of a sum

zeros-get : (w j : ℕ) → get_or {A = ℕ} (replicate w 0) j 0 ≡ 0
zeros-get zero j = refl
zeros-get (suc w) zero = refl
zeros-get (suc w) (suc j) = zeros-get w j

bit-zeros : (j i w : ℕ) → bit_in j i (replicate w 0) ≡ false
bit-zeros j i w = ap (λ x. bit_at x i == 1) (zeros-get w j) ∙ ap (λ x. x == 1) (bit_at-zero i)

bit-fold : (j i w : ℕ) (f : BlockId → List ℕ) → ((d : BlockId) → length (f d) ≡ w) → (start : List ℕ) → length start ≡ w → (ds : List BlockId)
    → bit_in j i (fold xor_bytes start (map f ds)) ≡ differ (bit_in j i start) (is_odd_count (λ d. bit_in j i (f d)) ds)
bit-fold j i w f wide start long [] = sym (differ-false_r (bit_in j i start))
bit-fold j i w f wide start long (d ∷ ds) =
    bit-fold j i w f wide (xor_bytes start (f d)) (length-xor_bytes start (f d) (long ∙ sym (wide d)) ∙ wide d) ds
    ∙ ap (λ b. differ b (is_odd_count (λ c. bit_in j i (f c)) ds)) (bit_in-xor j i start (f d) (long ∙ sym (wide d)))
    ∙ differ-assoc (bit_in j i start) (bit_in j i (f d)) (is_odd_count (λ c. bit_in j i (f c)) ds)
    ∙ ap (differ (bit_in j i start)) (sym (odd-cons (λ c. bit_in j i (f c)) d ds))

-- a bit of the sum of blocks is the parity of their bits
bit-sum : (j i w : ℕ) (f : BlockId → List ℕ) → ((d : BlockId) → length (f d) ≡ w) → (ds : List BlockId)
    → bit_in j i (xor_all w (map f ds)) ≡ is_odd_count (λ d. bit_in j i (f d)) ds
bit-sum j i w f wide ds =
    bit-fold j i w f wide (replicate w 0) (length-replicate w 0) ds
    ∙ ap (λ b. differ b (is_odd_count (λ d. bit_in j i (f d)) ds)) (bit-zeros j i w)

-- ---- how a set meets a list of blocks, counted over the blocks of the lattice

odd-spread : (l : Lattice) (x : BlockId → Bool) (ds : List BlockId) → Each (HasBlock l) ds
    → is_odd_count (λ b. is_odd_count (same_block b) ds && x b) (blocks_of l) ≡ is_odd_count x ds
odd-spread l x [] each = odd-none (blocks_of l)
odd-spread l x (d ∷ ds) each =
    let rest : BlockId → Bool = λ b. is_odd_count (same_block b) ds in
    ap (λ p. is_odd_count p (blocks_of l))
    (same_test (λ b. is_odd_count (same_block b) (d ∷ ds) && x b) (λ b. differ (same_block b d && x b) (rest b && x b))
    (λ b. ap (λ y. y && x b) (odd-cons (same_block b) d ds) ∙ differ-and (same_block b d) (rest b) (x b)))
    ∙ odd-differ (λ b. same_block b d && x b) (λ b. rest b && x b) (blocks_of l)
    ∙ ap (λ y. differ y (is_odd_count (λ b. rest b && x b) (blocks_of l))) (odd-at_left l d x each.0)
    ∙ ap (differ (x d)) (odd-spread l x ds each.1)
    ∙ sym (odd-cons x d ds)

-- ---- sets of equations

module _ (l : Lattice) (w : ℕ) (datas : List (List ℕ)) (is : IsDataList l w datas) where
  wide : (d : BlockId) → length (value_of l w datas d) ≡ w
  wide d = length-value_at l w datas d.node d.class is

  -- whether a block has this bit
  abbrev has_bit : ℕ → ℕ → BlockId → Bool
  has_bit j i d = bit_in j i (value_of l w datas d)

  bits-even : (j i : ℕ) → MeetsEvenly l (has_bit j i)
  bits-even j i e has =
      sym (bit-sum j i w (value_of l w datas) wide (equation_blocks l e))
      ∙ ap (bit_in j i) (equations-add_up l w datas e is has)
      ∙ bit-zeros j i w

  bit-none : (equations : EqId → Bool) (ds : List BlockId) → AreOfSum l equations ds → (j i : ℕ)
      → bit_in j i (xor_all w (map (value_of l w datas) ds)) ≡ false
  bit-none equations ds of_sum j i =
      bit-sum j i w (value_of l w datas) wide ds
      ∙ sym (odd-spread l (has_bit j i) ds (All-Each (HasBlock l) ds of_sum.inside))
      ∙ odd-same (λ b. is_odd_count (same_block b) ds && has_bit j i b) (λ b. adds_up_to l equations b && has_bit j i b) (blocks_of l)
      (Each-more (HasBlock l) (λ b. (is_odd_count (same_block b) ds && has_bit j i b) ≡ (adds_up_to l equations b && has_bit j i b)) (blocks_of l)
      (λ b inside. ap (λ y. y && has_bit j i b) (of_sum.counted b inside)) (each-blocks_of l))
      ∙ sums_even l equations (has_bit j i) (bits-even j i)

-- the XOR of blocks that a set of equations adds up to is zero, in the lattice of every data list
pub sets-add_up : SetsAddUp
sets-add_up l w datas equations ds is of_sum =
    let sum = xor_all w (map (value_of l w datas) ds) in
    bytes_same sum (replicate w 0)
    (length-fold w ds (value_of l w datas) (replicate w 0) (length-replicate w 0) (wide l w datas is) ∙ sym (length-replicate w 0))
    (λ j. bits_equal (get_or sum j 0) (get_or (replicate w 0) j 0)
    (λ i. test_bits (bit_at (get_or sum j 0) i) (bit_at (get_or (replicate w 0) j 0) i)
    (bit_at-lt (get_or sum j 0) i) (bit_at-lt (get_or (replicate w 0) j 0) i)
    (bit-none l w datas is equations ds of_sum j i ∙ sym (bit-zeros j i w))))

-- ---- lists of what a set adds up to

and-comm : (a b : Bool) → (a && b) ≡ (b && a)
and-comm true true = refl
and-comm true false = refl
and-comm false true = refl
and-comm false false = refl

odd-passing : (l : Lattice) (p : BlockId → Bool) (b : BlockId) → HasBlock l b → is_odd_count (λ d. p d && same_block b d) (blocks_of l) ≡ p b
odd-passing l p b inside =
    ap (λ q. is_odd_count q (blocks_of l)) (same_test (λ d. p d && same_block b d) (λ d. same_block b d && p d) (λ d. and-comm (p d) (same_block b d)))
    ∙ odd-at l b p inside

-- a block of the lattice is in an equation of the lattice an odd number of times or not at all
odd-equation : (l : Lattice) (e : EqId) (b : BlockId) → HasEquation l e → HasBlock l b → is_odd_count (same_block b) (equation_blocks l e) ≡ is_in_equation l e b
odd-equation l e b has inside = sym (meet_equation l e (same_block b) has) ∙ odd-passing l (is_in_equation l e) b inside

odd-equations : (l : Lattice) (b : BlockId) → HasBlock l b → (es : List EqId) → Each (HasEquation l) es
    → is_odd_count (same_block b) (flat_map (equation_blocks l) es) ≡ is_odd_count (λ e. is_in_equation l e b) es
odd-equations l b inside [] each = refl
odd-equations l b inside (e ∷ es) each =
    odd-append (same_block b) (equation_blocks l e) (flat_map (equation_blocks l) es)
    ∙ ap (λ y. differ y (is_odd_count (same_block b) (flat_map (equation_blocks l) es))) (odd-equation l e b each.0 inside)
    ∙ ap (differ (is_in_equation l e b)) (odd-equations l b inside es each.1)
    ∙ sym (odd-cons (λ f. is_in_equation l f b) e es)

each-filter : {A : Type 0} → (p : A → Bool) (P : A → Type 0) (xs : List A) → Each P xs → Each P (filter p xs)
each-filter p P [] each = tt
each-filter p P (x ∷ xs) each = elim (cases_Bool (p x)) [
  | inl kept ↦ rw kept (each.0, each-filter p P xs each.1)
  | inr dropped ↦ rw dropped (each-filter p P xs each.1)
]

each-equation_blocks_at : (l : Lattice) (e : EqId) → HasEquation l e → (p : Option ℕ) → previous l e.class e.node ≡ p
    → Each (HasBlock l) (input_blocks p e.class ++ block_of e.node Datum ∷ block_of e.node e.class ∷ [])
each-equation_blocks_at l e has None was =
    (member_inside l e (block_of e.node Datum) has (datum_in l e), (member_inside l e (block_of e.node e.class) has (output_in l e), tt))
each-equation_blocks_at l e has (Some g) was = (
  member_inside l e (block_of g e.class) has (input_in l e g was),
  (member_inside l e (block_of e.node Datum) has (datum_in l e), (member_inside l e (block_of e.node e.class) has (output_in l e), tt)),
)

each-equations : (l : Lattice) (es : List EqId) → Each (HasEquation l) es → Each (HasBlock l) (flat_map (equation_blocks l) es)
each-equations l [] each = tt
each-equations l (e ∷ es) each =
    Each-append (HasBlock l) (equation_blocks l e) (flat_map (equation_blocks l) es)
    (each-equation_blocks_at l e each.0 (previous l e.class e.node) refl) (each-equations l es each.1)

-- the blocks of the lattice that a set of equations adds up to, each once, are a list of what it adds up to,
-- and so are the blocks of the equations of the set, one equation after another
pub sums-listed : SumsAreListed
sums-listed l t =
    let of_set = each-filter t (HasEquation l) (equations_of l) (each-equations_of l) in (
      record {
        inside = Each-All (HasBlock l) (filter (adds_up_to l t) (blocks_of l)) (each-filter (adds_up_to l t) (HasBlock l) (blocks_of l) (each-blocks_of l));
        counted = λ b inside. odd-filter (adds_up_to l t) (same_block b) (blocks_of l) ∙ odd-passing l (adds_up_to l t) b inside;
      },
      record {
        inside = Each-All (HasBlock l) (flat_map (equation_blocks l) (filter t (equations_of l))) (each-equations l (filter t (equations_of l)) of_set);
        counted = λ b inside.
            odd-equations l b inside (filter t (equations_of l)) of_set
            ∙ odd-filter t (λ e. is_in_equation l e b) (equations_of l);
      },
    )
