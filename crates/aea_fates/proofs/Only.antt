-- The rules of choice leave one list of equations or of nodes for a block.
use Rattle.std.proofs.Common.{◌≡◌, ◌≢◌, ℕ, ◌<◌, inl, inr, Bool, true, ◌&&◌, List, refl, sym, ◌∙◌, ap, arith}
use Rattle.std.specs.Prelude.{nat_le}
use Rattle.std.proofs.lemmas.Bool.{and_parts, le-leb, leb-true, true≢false}
use Rattle.aea_lattice.specs.declared.blocks.BlockId.{BlockId}
use Rattle.aea_lattice.specs.declared.blocks.EqId.{EqId}
use Rattle.aea_lattice.specs.declared.grid.Lattice.{Lattice}
use Rattle.aea_lattice.specs.Blocks.{class_number, block_of, HasBlock, blocks_count, block_at}
use Rattle.aea_lattice.specs.Equations.{HasEquation, equation_of, equations_of, adds_up_to, is_in_codeword}
use Rattle.aea_lattice.proofs.Codewords.{codeword-even}
use Rattle.aea_lattice.specs.Parity.{differ}
use Rattle.aea_gauss_laws.specs.Sums.{GivesBlock}
use Rattle.aea_lattice.specs.Lists.{is_listed, has_node}
use Rattle.aea_lattice.proofs.Odd.{differ_one, differ-equal, differ_both, filter_each, Each-more}
use Rattle.aea_lattice.proofs.Once.{each-equations_of}
use Rattle.aea_lattice.proofs.Even.{adds-differ}
use Rattle.aea_gauss_laws.proofs.Given.{given-missed}
use Rattle.aea_lattice.proofs.BlockAt.{block_at-number, block_at-inside, number-block_at}
use Rattle.aea_lattice.proofs.GreatestBelow.{greatest, nothing, find_greatest}
use Rattle.aea_lattice.specs.LeastWord.{IsWord}
use Rattle.aea_fates.specs.Sums.{output_number, IsSpare, IsSum}
use Rattle.aea_fates.proofs.Listing.{output_inside, output_below}

module _ (l : Lattice) (known : BlockId → Bool) where
  -- ---- one sum

  abbrev equation_at : ℕ → EqId
  equation_at k = equation_of (block_at l k).node (block_at l k).class

  -- the equation whose output has this number is in the set
  abbrev at_output : (EqId → Bool) → ℕ → Bool
  at_output q k = nat_le 1 (class_number (block_at l k).class) && q (equation_at k)

  output_equation : (k : ℕ) → k < blocks_count l → nat_le 1 (class_number (block_at l k).class) ≡ true → HasEquation l (equation_at k)
  output_equation k less parity =
      let has = block_at-inside l k less in
      record { node = record { first = has.first; last = has.last }; class = record { parity = leb-true 1 (class_number (block_at l k).class) parity; used = has.used } }

  at_equation : (q : EqId → Bool) (e : EqId) → HasEquation l e → at_output q (output_number l e) ≡ q e
  at_equation q e has =
      let is : block_at l (output_number l e) ≡ block_of e.node e.class = block_at-number l (block_of e.node e.class) (output_inside l e has) in
      ap (λ b. nat_le 1 (class_number b.class) && q (equation_of b.node b.class)) is ∙ ap (λ b. b && q e) (le-leb 1 (class_number e.class) has.class.parity)

  both_known : (b : BlockId) (s t : EqId → Bool) → GivesBlock l known b s → GivesBlock l known b t → (d : BlockId) → HasBlock l d
      → adds_up_to l (λ e. differ (s e) (t e)) d ≡ true → known d ≡ true
  both_known b s t hs ht d has added =
      let split : differ (adds_up_to l s d) (adds_up_to l t d) ≡ true = sym (adds-differ l s t d) ∙ added in
      let other : d ≢ b = λ same.
      true≢false (sym split ∙ differ_both (adds_up_to l s d) (adds_up_to l t d) (ap (adds_up_to l s) same ∙ hs.contains) (ap (adds_up_to l t) same ∙ ht.contains)) in
      elim (differ_one (adds_up_to l s d) (adds_up_to l t d) split) [
        | inl a ↦ hs.others d has a other
        | inr a ↦ ht.others d has a other
      ]

  same_sets : (b : BlockId) (xs ys : List EqId) → IsSum l known b xs → IsSum l known b ys → (e : EqId) → HasEquation l e → is_listed xs e ≡ is_listed ys e
  same_sets b xs ys hx hy e has =
      let q : EqId → Bool = λ f. differ (is_listed xs f) (is_listed ys f) in
      elim (find_greatest (at_output q) (blocks_count l)) [
        | nothing all ↦ differ-equal (is_listed xs e) (is_listed ys e) (sym (at_equation q e has) ∙ all (output_number l e) (output_below l e has))
        | greatest c less here most ↦
            (let parts = and_parts (nat_le 1 (class_number (block_at l c).class)) (q (equation_at c)) here in
            let g = equation_at c in
            let g_has : HasEquation l g = output_equation c less parts.0 in
            let g_number : output_number l g ≡ c = number-block_at l c less in
            let spare : IsSpare l known g = (
              q,
              record {
                contains = parts.1;
                greatest = λ f f_has f_in. (let le = most (output_number l f) (output_below l f f_has) (at_equation q f f_has ∙ f_in) in omega arith);
                only_known = both_known b (is_listed xs) (is_listed ys) hx.gives hy.gives;
              },
            ) in
            elim (differ_one (is_listed xs g) (is_listed ys g) parts.1) [
              | inl a ↦ absurd (hx.no_spare g g_has a spare)
              | inr a ↦ absurd (hy.no_spare g g_has a spare)
            ])
      ]

  -- two lists of equations of the same block, for the same known blocks, are one
  pub sum_one : (b : BlockId) (xs ys : List EqId) → IsSum l known b xs → IsSum l known b ys → xs ≡ ys
  sum_one b xs ys hx hy =
      hx.ordered
      ∙ filter_each (is_listed xs) (is_listed ys) (equations_of l)
      (Each-more (HasEquation l) (λ e. is_listed xs e ≡ is_listed ys e) (equations_of l) (same_sets b xs ys hx hy) (each-equations_of l))
      ∙ sym hy.ordered

  -- ---- no block has both

  -- no block of the lattice has both listed equations and listed nodes
  pub not_both_kinds : (b : BlockId) (xs : List EqId) (ns : List ℕ) → HasBlock l b → IsSum l known b xs → IsWord l known b ns → ⊥
  not_both_kinds b xs ns has sum word =
      let w = word.chosen.1 in
      true≢false
      (sym w.contains
      ∙ given-missed l known b has (is_listed xs) (is_in_codeword l (has_node ns)) sum.gives
      (codeword-even l (has_node ns) (is_in_codeword l (has_node ns)) (λ d d_has. refl))
      (λ d d_has is_known. w.word.misses d d_has is_known))
