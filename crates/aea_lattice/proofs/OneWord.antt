-- A lost block has one list of nodes.
use Rattle.std.proofs.Common.{◌≡◌, ℕ, zero, suc, ◌≤◌, inl, inr, Bool, true, false, List, [], ◌∷◌, refl, sym, ◌∙◌, ap, subst, arith}
use Rattle.std.proofs.lemmas.Bool.{true≢false}
use Rattle.aea_lattice.specs.declared.blocks.Class.{Class}
use Rattle.aea_lattice.specs.declared.blocks.Class.TheVariants.{Datum, Horiz, Right, Left}
use Rattle.aea_lattice.specs.declared.blocks.BlockId.{BlockId}
use Rattle.aea_lattice.specs.declared.grid.Lattice.{Lattice}
use Rattle.aea_lattice.specs.Blocks.{block_of, block_at, HasBlock, number_of, blocks_count}
use Rattle.aea_lattice.specs.Strands.{prefix, nodes_to}
use Rattle.aea_lattice.specs.Equations.{codeword_at, is_in_codeword}
use Rattle.aea_lattice.specs.Lists.{has_node}
use Rattle.aea_lattice.specs.LeastWord.{IsEnd, IsWordOfEnd, IsWord, WordsAreOne}
use Rattle.aea_lattice.specs.Parity.{differ}
use Rattle.aea_lattice.proofs.BlockAt.{block_at-number, block_at-inside, number-block_at}
use Rattle.aea_lattice.proofs.Equations.{number_below, number_equal}
use Rattle.aea_lattice.proofs.GreatestBelow.{greatest, nothing, find_greatest}
use Rattle.aea_lattice.proofs.Odd.{odd-differ, differ_one, differ-equal, differ_both, filter_each, Each, Each-append}

module _ (l : Lattice) (known : BlockId → Bool) where
  codeword-differ_at : (s t : ℕ → Bool) (i : ℕ) (c : Class) → codeword_at l (λ k. differ (s k) (t k)) i c ≡ differ (codeword_at l s i c) (codeword_at l t i c)
  codeword-differ_at s t i Datum = refl
  codeword-differ_at s t i Horiz = odd-differ s t (prefix l Horiz i)
  codeword-differ_at s t i Right = odd-differ s t (prefix l Right i)
  codeword-differ_at s t i Left = odd-differ s t (prefix l Left i)

  same_nodes : (e : BlockId) (s t : ℕ → Bool) → IsWordOfEnd l known e s → IsWordOfEnd l known e t → (d : BlockId) → HasBlock l d
      → is_in_codeword l (λ k. differ (s k) (t k)) d ≡ false
  same_nodes e s t hs ht d has =
      let q : ℕ → Bool = λ k. differ (s k) (t k) in
      elim (find_greatest (λ k. is_in_codeword l q (block_at l k)) (blocks_count l)) [
        | nothing all ↦ ap (is_in_codeword l q) (sym (block_at-number l d has)) ∙ all (number_of l d) (number_below l d has)
        | greatest c less here most ↦
            (let g = block_at l c in
            let g_has = block_at-inside l c less in
            let g_number = number-block_at l c less in
            let g_end : IsEnd l known g = (
              q,
              record {
                block = g_has;
                misses = λ b b_has is_known.
                    codeword-differ_at s t b.node b.class
                    ∙ ap (λ x. differ x (is_in_codeword l t b)) (hs.misses b b_has is_known) ∙ ht.misses b b_has is_known;
                contains = here;
                greatest = λ b b_has b_in.
                    (let le = most (number_of l b) (number_below l b b_has) (ap (is_in_codeword l q) (block_at-number l b b_has) ∙ b_in) in omega arith);
              },
            ) in
            let split : differ (is_in_codeword l s g) (is_in_codeword l t g) ≡ true = sym (codeword-differ_at s t g.node g.class) ∙ here in
            let is_e : g ≡ e = (elim (differ_one (is_in_codeword l s g) (is_in_codeword l t g) split) [
              | inl a ↦ hs.alone g g_end a
              | inr a ↦ ht.alone g g_end a
            ]) in
            absurd
            (true≢false
            (sym split
            ∙ differ_both (is_in_codeword l s g) (is_in_codeword l t g) (ap (is_in_codeword l s) is_e ∙ hs.contains) (ap (is_in_codeword l t) is_e ∙ ht.contains))))
      ]

  each-nodes_to : (i : ℕ) (P : ℕ → Type 0) → ((k : ℕ) → 1 ≤ k → k ≤ i → P k) → Each P (nodes_to i)
  each-nodes_to zero P h = tt
  each-nodes_to (suc i) P h = Each-append P (nodes_to i) (suc i ∷ []) (each-nodes_to i P (λ k first most. h k first (omega arith))) (h (suc i) (omega arith) (omega arith), tt)

  -- two lists of nodes of the same block, for the same known blocks, are one
  pub word_one : (b : BlockId) (xs ys : List ℕ) → IsWord l known b xs → IsWord l known b ys → xs ≡ ys
  word_one b xs ys hx hy =
      let e = hx.chosen.0 in
      let f = hy.chosen.0 in
      let we = hx.chosen.1 in
      let wf = hy.chosen.1 in
      let one_way = we.least f (has_node ys) wf.word wf.contains in
      let other_way = wf.least e (has_node xs) we.word we.contains in
      let same : e ≡ f = number_equal l e f we.word.is_end.1.block wf.word.is_end.1.block (omega arith) in
      let word_f : IsWordOfEnd l known e (has_node ys) = subst (λ d. IsWordOfEnd l known d (has_node ys)) (sym same) wf.word in
      hx.ordered
      ∙ filter_each (has_node xs) (has_node ys) (nodes_to l.n)
      (each-nodes_to l.n (λ i. has_node xs i ≡ has_node ys i)
      (λ i first most. differ-equal (has_node xs i) (has_node ys i)
      (same_nodes e (has_node xs) (has_node ys) we.word word_f (block_of i Datum) (record { first = first; last = most; used = omega arith }))))
      ∙ sym hy.ordered

-- a block has at most one list of nodes by which it is lost
pub words_one : WordsAreOne
words_one = word_one
