-- What equations give is determined: the places where two lattices differ are codewords, bit by bit.
use Rattle.std.proofs.Common.{◌≡◌, ℕ, Bool, true, false, List, [], ◌∷◌, ◌++◌, get_or, Option, Some, None, refl, sym, ◌∙◌, ap}
use Rattle.std.specs.Int.{bit_at}
use Rattle.std.proofs.lemmas.Nat.Bits.{bit_at-lt}
use Rattle.std.proofs.lemmas.Bool.{true≢false}
use Rattle.aea_lattice.specs.declared.blocks.Class.TheVariants.{Datum}
use Rattle.aea_lattice.specs.declared.blocks.BlockId.{BlockId}
use Rattle.aea_lattice.specs.declared.blocks.EqId.{EqId}
use Rattle.aea_lattice.specs.declared.grid.Lattice.{Lattice}
use Rattle.aea_lattice.specs.Blocks.{block_of, HasBlock}
use Rattle.aea_lattice.specs.Strands.{previous}
use Rattle.aea_lattice.specs.Equations.{HasEquation, is_odd_count, input_blocks}
use Rattle.aea_lattice.specs.Data.{IsDataList, datum_at, value_at, value_of, Determines}
use Rattle.aea_lattice.specs.Facts.{MeetsEvenly}
use Rattle.aea_lattice.specs.Parity.{differ}
use Rattle.aea_lattice.proofs.Sums.{value-after, value-begin, length-value_at, length-datum_at}
use Rattle.aea_gauss_laws.specs.Sums.{GivesBlock}
use Rattle.aea_lattice.proofs.Odd.{odd-cons, differ-comm, differ-assoc, differ-self, differ-false_r}
use Rattle.aea_lattice.proofs.Bits.{bit_in, bit_in-xor, bytes_same, bits_equal, test_bits}
use Rattle.aea_gauss_laws.proofs.Given.{given-missed}

-- ---- the blocks at which a bit differs

module _ (l : Lattice) (w : ℕ) (xs ys : List (List ℕ)) (hx : IsDataList l w xs) (hy : IsDataList l w ys) (j i : ℕ) where
  abbrev pub differs : BlockId → Bool
  differs d = differ (bit_in j i (value_of l w xs d)) (bit_in j i (value_of l w ys d))

  abbrev blocks_with : Option ℕ → EqId → List BlockId
  blocks_with g e = input_blocks g e.class ++ block_of e.node Datum ∷ block_of e.node e.class ∷ []

  differ-four : (a b c d : Bool) → differ (differ a b) (differ c d) ≡ differ (differ a c) (differ b d)
  differ-four a b c d =
      differ-assoc a b (differ c d)
      ∙ ap (differ a) (sym (differ-assoc b c d) ∙ ap (λ x. differ x d) (differ-comm b c) ∙ differ-assoc c b d)
      ∙ sym (differ-assoc a c (differ b d))

  bit-after : (datas : List (List ℕ)) → IsDataList l w datas → (e : EqId) → HasEquation l e → (g : ℕ) → previous l e.class e.node ≡ Some g
      → bit_in j i (value_at l w datas e.node e.class) ≡ differ (bit_in j i (value_at l w datas g e.class)) (bit_in j i (value_at l w datas e.node Datum))
  bit-after datas is e has g was =
      ap (bit_in j i) (value-after l w datas e.node g e.class has.class.parity was)
      ∙ bit_in-xor j i (value_at l w datas g e.class) (datum_at w datas e.node)
      (length-value_at l w datas g e.class is ∙ sym (length-datum_at l w datas e.node is))

  differs-even_at : (e : EqId) → HasEquation l e → (p : Option ℕ) → previous l e.class e.node ≡ p → is_odd_count differs (blocks_with p e) ≡ false
  differs-even_at e has None was =
      odd-cons differs (block_of e.node Datum) (block_of e.node e.class ∷ [])
      ∙ ap (differ (differs (block_of e.node Datum))) (odd-cons differs (block_of e.node e.class) [] ∙ differ-false_r (differs (block_of e.node e.class)))
      ∙ ap (differ (differs (block_of e.node Datum)))
      (ap (λ v. differ (bit_in j i v) (bit_in j i (value_at l w ys e.node e.class))) (value-begin l w xs e.node e.class has.class.parity hx has.node.first was)
      ∙ ap (λ v. differ (bit_in j i (value_at l w xs e.node Datum)) (bit_in j i v)) (value-begin l w ys e.node e.class has.class.parity hy has.node.first was))
      ∙ differ-self (differs (block_of e.node Datum))
  differs-even_at e has (Some g) was =
      let a = block_of g e.class in
      let b = block_of e.node Datum in
      let c = block_of e.node e.class in
      odd-cons differs a (b ∷ c ∷ [])
      ∙ ap (differ (differs a)) (odd-cons differs b (c ∷ []) ∙ ap (differ (differs b)) (odd-cons differs c [] ∙ differ-false_r (differs c)))
      ∙ sym (differ-assoc (differs a) (differs b) (differs c))
      ∙ ap (differ (differ (differs a) (differs b)))
      (ap (λ v. differ v (bit_in j i (value_of l w ys c))) (bit-after xs hx e has g was)
      ∙ ap (differ (differ (bit_in j i (value_of l w xs a)) (bit_in j i (value_of l w xs b)))) (bit-after ys hy e has g was)
      ∙ differ-four (bit_in j i (value_of l w xs a)) (bit_in j i (value_of l w xs b)) (bit_in j i (value_of l w ys a)) (bit_in j i (value_of l w ys b)))
      ∙ differ-self (differ (differs a) (differs b))

  pub differs-even : MeetsEvenly l differs
  differs-even e has = differs-even_at e has (previous l e.class e.node) refl

differ-none : (a b : Bool) → differ a b ≡ false → a ≡ b
differ-none true true h = refl
differ-none true false h = absurd (true≢false h)
differ-none false true h = absurd (true≢false h)
differ-none false false h = refl

-- What equations give from a set, the set determines.
pub given-determined : (l : Lattice) (known : BlockId → Bool) (b : BlockId) → HasBlock l b → (t : EqId → Bool) → GivesBlock l known b t → Determines l known b
given-determined l known b inside t gives w xs ys hx hy agree =
    bytes_same (value_of l w xs b) (value_of l w ys b)
    (length-value_at l w xs b.node b.class hx ∙ sym (length-value_at l w ys b.node b.class hy))
    (λ j. bits_equal (get_or (value_of l w xs b) j 0) (get_or (value_of l w ys b) j 0)
    (λ i. test_bits (bit_at (get_or (value_of l w xs b) j 0) i) (bit_at (get_or (value_of l w ys b) j 0) i)
    (bit_at-lt (get_or (value_of l w xs b) j 0) i) (bit_at-lt (get_or (value_of l w ys b) j 0) i)
    (differ-none (bit_in j i (value_of l w xs b)) (bit_in j i (value_of l w ys b))
    (given-missed l known b inside t (differs l w xs ys hx hy j i) gives (differs-even l w xs ys hx hy j i)
    (λ d has is_known. ap (λ v. differ (bit_in j i v) (bit_in j i (value_of l w ys d))) (agree d has is_known) ∙ differ-self (bit_in j i (value_of l w ys d)))))))
