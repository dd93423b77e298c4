-- How the table gets the tags of the wanted blocks.
use Rattle.std.proofs.Common.{◌≡◌, ◌≢◌, ℕ, ◌+◌, ◌<◌, ◌≤◌, inl, inr, true, false, ◌&&◌, ◌==◌, List, length, get_or, sym, ◌∙◌, ap, arith}
use Rattle.std.specs.Prelude.{nat_lt, slice_set}
use Rattle.std.proofs.Math.ListN.{length-set}
use Rattle.std.proofs.lemmas.Bool.{cases_Bool, cases_eq, cases_lt}
use Rattle.std.proofs.lemmas.Bool.Decides.{nat_tests}
use Rattle.std.proofs.lemmas.List.{get_or-set_same, get_or-set_other}
use Rattle.aea_lattice.specs.declared.blocks.BlockId.{BlockId}
use Rattle.aea_lattice.specs.declared.grid.Lattice.{Lattice}
use Rattle.aea_lattice.specs.Blocks.{HasBlock, number_of, blocks_count, same_block}
use Rattle.aea_lattice.specs.Parity.{differ}
use Rattle.aea_lattice.proofs.Equations.{number_equal, same_block-equal, same_block-refl}
use Rattle.aea_view.specs.Bits.{has_bit}
use Rattle.aea_sums.specs.Places.{is_wanted}
use Rattle.aea_sums.specs.Sums.{wanted_at}
use Rattle.aea_sums.specs.Tags.{HasTags}
use Rattle.aea_sums.proofs.Bits.{none_set}
use Rattle.aea_sums.proofs.Datums.{one_more, none_more}

-- the table has the tags of the wanted blocks below a place
pub record Tagging (l : Lattice) (wanted : List BlockId) (table : List ℕ) (upto : ℕ) : Type 0 where
  pub long : length table ≡ blocks_count l
  pub tags : (b : BlockId) → HasBlock l b → (j : ℕ) → j < 64 → has_bit (get_or table (number_of l b) 0) j ≡ (nat_lt j upto && is_wanted wanted j b)

module _ (l : Lattice) (wanted : List BlockId) where
  pub tagging_begun : (table : List ℕ) → length table ≡ blocks_count l → ((t : ℕ) → get_or table t 0 ≡ 0) → Tagging l wanted table 0
  tagging_begun table long none = record {
    long = long;
    tags = λ b hb j fits.
        ap (λ (x : ℕ). has_bit x j) (none (number_of l b)) ∙ none_set j
        ∙ sym (let e : nat_lt j 0 ≡ false = grind (arith, nat_tests) in ap (λ q. q && is_wanted wanted j b) e);
  }

  module _ (table : List ℕ) (k n value : ℕ) (inside : k < length wanted) (block : HasBlock l (wanted_at wanted k)) (at : n ≡ number_of l (wanted_at wanted k))
      (is : (j : ℕ) → j < 64 → has_bit value j ≡ differ (has_bit (get_or table n 0) j) (j == k)) (below : n < length table) (t : Tagging l wanted table k) where
    abbrev w : BlockId
    w = wanted_at wanted k

    wants : (b : BlockId) → is_wanted wanted k b ≡ same_block w b
    wants b = let e : nat_lt k (length wanted) ≡ true = grind (arith, nat_tests) in ap (λ x. x && same_block w b) e

    own : (b : BlockId) → HasBlock l b → number_of l b ≡ n → (j : ℕ) → j < 64 → has_bit (get_or (slice_set table n value) (number_of l b) 0) j ≡ (nat_lt j (k + 1) && is_wanted wanted j b)
    own b hb same j fits =
        let e : b ≡ w = number_equal l b w hb block (same ∙ at) in
        ap (λ (x : ℕ). has_bit (get_or (slice_set table n value) x 0) j) same ∙ ap (λ (x : ℕ). has_bit x j) (get_or-set_same table n value 0 below) ∙ is j fits
        ∙ ap (λ (x : ℕ). differ (has_bit (get_or table x 0) j) (j == k)) (sym same) ∙ ap (λ x. differ x (j == k)) (t.tags b hb j fits)
        ∙ one_more (λ q. is_wanted wanted q b) k j (wants b ∙ ap (same_block w) e ∙ same_block-refl w)

    other : (b : BlockId) → HasBlock l b → number_of l b ≢ n → (j : ℕ) → j < 64 → has_bit (get_or (slice_set table n value) (number_of l b) 0) j ≡ (nat_lt j (k + 1) && is_wanted wanted j b)
    other b hb apart j fits =
        ap (λ (x : ℕ). has_bit x j) (get_or-set_other table n (number_of l b) value 0 apart) ∙ t.tags b hb j fits
        ∙ none_more (λ q. is_wanted wanted q b) k j (elim (cases_Bool (same_block w b)) [
          | inl same ↦ absurd (apart (ap (number_of l) (sym (same_block-equal w b same)) ∙ sym at))
          | inr off ↦ wants b ∙ off
        ])

    pub tagging_more : Tagging l wanted (slice_set table n value) (k + 1)
    tagging_more = record {
      long = length-set table n value ∙ t.long;
      tags = λ b hb j fits. elim (cases_eq (number_of l b) n) [ inl same ↦ own b hb same j fits | inr apart ↦ other b hb apart j fits ];
    }

  pub tagging_ended : (table : List ℕ) (upto : ℕ) → length wanted ≤ upto → Tagging l wanted table upto → HasTags l wanted table
  tagging_ended table upto all t b hb j fits =
      t.tags b hb j fits
      ∙ elim (cases_lt j upto) [
        | inl less ↦ (let e : nat_lt j upto ≡ true = grind (arith, nat_tests) in ap (λ q. q && is_wanted wanted j b) e)
        | inr past ↦
            (let e : nat_lt j upto ≡ false = grind (arith, nat_tests) in
            let f : nat_lt j (length wanted) ≡ false = grind (arith, nat_tests) in
            ap (λ q. q && is_wanted wanted j b) e ∙ sym (ap (λ q. q && same_block (wanted_at wanted j) b) f))
      ]
