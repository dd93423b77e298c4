-- Flipping bits of packed rows, and the row of an equation as a sum of single bits.
use Rattle.std.proofs.Common.{◌≡◌, ◌≢◌, ℕ, ◌+◌, ◌*◌, ◌/◌, ◌%◌, ◌^◌, ◌<◌, ◌≤◌, inl, inr, Bool, false, ◌&&◌, ◌==◌, List, [], ◌∷◌, ◌++◌, length, get_or, bit_xor, Option, Some, None, MatchOption, refl, sym, ◌∙◌, ap, subst, arith}
use Rattle.std.specs.Prelude.{nat_lt, option_map}
use Rattle.std.specs.List.{list_any}
use Rattle.std.specs.Int.{bit_at}
use Rattle.std.proofs.Math.ListN.{set}
use Rattle.std.proofs.lemmas.Nat.{one_shl}
use Rattle.std.proofs.lemmas.Nat.Bits.{bit_at_xor, bit_at-lt, bit_at-pow_same, bit_at-pow_other}
use Rattle.std.proofs.lemmas.List.{get_or-set_same, get_or-set_other, length-set}
use Rattle.std.proofs.lemmas.Bool.{cases_Bool, cases_lt, cases_eq, eq-eqb, ne_eqb, lt-ltb, le-ltb, cond-true, cond-false}
use Rattle.aea_lattice.specs.declared.blocks.Class.TheVariants.{Datum}
use Rattle.aea_lattice.specs.declared.blocks.BlockId.{BlockId}
use Rattle.aea_lattice.specs.declared.blocks.EqId.{EqId}
use Rattle.aea_lattice.specs.declared.grid.Lattice.{Lattice}
use Rattle.aea_lattice.specs.Blocks.{block_of, same_block, number_of}
use Rattle.aea_lattice.specs.Strands.{previous}
use Rattle.aea_lattice.specs.Equations.{HasEquation, input_blocks, is_in_equation}
use Rattle.aea_lattice.specs.Parity.{differ}
use Rattle.aea_lattice.proofs.Equations.{same_block-equal, same_block-refl, datum_parity, input_output}
use Rattle.aea_lattice.proofs.Odd.{differ-assoc, differ-false_r}
use Rattle.aea_lattice.proofs.Even.{any-odd2, any-odd3, not_both}
use Rattle.aea_lattice.proofs.Bits.{bit_test}
use Rattle.aea_gauss_laws.proofs.Given.{and-no}
use Rattle.aea_gauss_words.specs.Words.{is_bit}
use Rattle.aea_readings.specs.Small.{block_in, small_row, AreListed}
use Rattle.aea_gauss.specs.Fills.{Turns, stands}

place_test : (k c : ℕ) → k / 64 ≡ c / 64 → (k % 64 == c % 64) ≡ (k == c)
place_test k c same =
    elim (cases_eq k c) [
      | inl e ↦ (let low : k % 64 ≡ c % 64 = ap (λ n. n % 64) e in eq-eqb (k % 64) (c % 64) low ∙ sym (eq-eqb k c e))
      | inr n ↦ ne_eqb (k % 64) (c % 64) (λ e. n (omega arith)) ∙ sym (ne_eqb k c n)
    ]

bit_of_pow : (m i : ℕ) → (bit_at (2 ^ m) i == 1) ≡ (i == m)
bit_of_pow m i =
    elim (cases_eq i m) [
      | inl e ↦ ap (λ j. bit_at (2 ^ m) j == 1) e ∙ ap (λ b. b == 1) (bit_at-pow_same m) ∙ sym (eq-eqb i m e)
      | inr n ↦ ap (λ b. b == 1) (bit_at-pow_other m i n) ∙ sym (ne_eqb i m n)
    ]

flipped : (x m i : ℕ) → m < 64 → (bit_at (bit_xor x ((1 * 2 ^ m) % 2 ^ 64)) i == 1) ≡ differ (bit_at x i == 1) (i == m)
flipped x m i less =
    ap (λ p. bit_at (bit_xor x p) i == 1) (one_shl m 64 less)
    ∙ ap (λ b. b == 1) (bit_at_xor x (2 ^ m) i)
    ∙ bit_test (bit_at x i) (bit_at (2 ^ m) i) (bit_at-lt x i) (bit_at-lt (2 ^ m) i)
    ∙ ap (differ (bit_at x i == 1)) (bit_of_pow m i)

-- in a row within the words, the XOR of the word that has column c with the single 1 of that column, set at the
-- word's place, flips the bit of column c alone
pub turns_bit : (words : List ℕ) (begin wide c : ℕ) → begin + wide ≤ length words → c < 64 * wide
    → Turns begin wide (λ k. k == c) words (set words (begin + c / 64) (bit_xor (get_or words (begin + c / 64) 0) ((1 * 2 ^ (c % 64)) % 2 ^ 64)))
turns_bit words begin wide c inside less =
    let v = bit_xor (get_or words (begin + c / 64) 0) ((1 * 2 ^ (c % 64)) % 2 ^ 64) in
    let place : begin + c / 64 < length words = omega arith in
    record {
      long = length-set words (begin + c / 64) v;
      inside = λ k k_less. elim (cases_eq (k / 64) (c / 64)) [
        | inl same ↦
            ap (λ j. bit_at (get_or (set words (begin + c / 64) v) (begin + j) 0) (k % 64) == 1) same
            ∙ ap (λ x. bit_at x (k % 64) == 1) (get_or-set_same words (begin + c / 64) v 0 place)
            ∙ flipped (get_or words (begin + c / 64) 0) (c % 64) (k % 64) (omega arith)
            ∙ ap (differ (bit_at (get_or words (begin + c / 64) 0) (k % 64) == 1)) (place_test k c same)
            ∙ ap (λ j. differ (bit_at (get_or words (begin + j) 0) (k % 64) == 1) (k == c)) (sym same)
        | inr other ↦
            ap (λ x. bit_at x (k % 64) == 1) (get_or-set_other words (begin + c / 64) (begin + k / 64) v 0 (λ e. other (omega arith)))
            ∙ sym (ap (differ (is_bit words begin k)) (ne_eqb k c (λ e. other (ap (λ n. n / 64) e))) ∙ differ-false_r (is_bit words begin k))
      ];
      outside = λ k side. get_or-set_other words (begin + c / 64) k v 0 (λ e. elim side [ inl b ↦ omega arith | inr a ↦ omega arith ]);
    }

-- words that stay as they are have no bit flipped
pub turns_none : (words : List ℕ) (begin wide : ℕ) → Turns begin wide (λ k. false) words words
turns_none words begin wide = record { long = refl; inside = λ k less. sym (differ-false_r (is_bit words begin k)); outside = λ k side. refl }

pub turns_more : (begin wide : ℕ) (s t : ℕ → Bool) (old now new : List ℕ) → Turns begin wide s old now → Turns begin wide t now new
    → Turns begin wide (λ k. differ (s k) (t k)) old new
turns_more begin wide s t old now new before after = record {
  long = after.long ∙ before.long;
  inside = λ k less. after.inside k less ∙ ap (λ b. differ b (t k)) (before.inside k less) ∙ differ-assoc (is_bit old begin k) (s k) (t k);
  outside = λ k side. after.outside k side ∙ before.outside k side;
}

-- where the bits of one test are flipped, those of a test that agrees with it at the row's columns are
pub turns_same : (begin wide : ℕ) (s t : ℕ → Bool) (old new : List ℕ) → ((k : ℕ) → k < 64 * wide → s k ≡ t k) → Turns begin wide s old new → Turns begin wide t old new
turns_same begin wide s t old new same h = record {
  long = h.long;
  inside = λ k less. h.inside k less ∙ ap (differ (is_bit old begin k)) (same k less);
  outside = h.outside;
}

-- ---- the listed blocks of an equation

module _ (l : Lattice) (blocks : List BlockId) (listed : AreListed l blocks) where
  -- no block is in the list twice
  pub once : (a c : ℕ) → a < length blocks → c < length blocks → block_in blocks a ≡ block_in blocks c → a ≡ c
  once a c a_less c_less same = elim (cases_lt a c) [
    | inl before ↦ (let up = listed.rise a c before c_less in let eq = ap (number_of l) same in absurd (omega arith))
    | inr not_before ↦ elim (cases_lt c a) [
      | inl after ↦ (let up = listed.rise c a after a_less in let eq = ap (number_of l) same in absurd (omega arith))
      | inr not_after ↦ omega arith
    ]
  ]

  -- where a list in number order has the block at place c, the test of whether it is there passes at c alone
  pub stands_some : (b : BlockId) (c : ℕ) → c < length blocks → block_in blocks c ≡ b → (k : ℕ) → (k == c) ≡ stands blocks b k
  stands_some b c less is k = elim (cases_eq k c) [
    | inl same ↦
        eq-eqb k c same
        ∙ sym (ap (λ j. nat_lt j (length blocks) && same_block (block_in blocks j) b) same
        ∙ ap (λ x. x && same_block (block_in blocks c) b) (lt-ltb c (length blocks) less)
        ∙ ap (λ d. same_block d b) is ∙ same_block-refl b)
    | inr other ↦ ne_eqb k c other ∙ sym (elim (cases_lt k (length blocks)) [
      | inl inside ↦ elim (cases_Bool (same_block (block_in blocks k) b)) [
        | inl same ↦ absurd (other (once k c inside less (same_block-equal (block_in blocks k) b same ∙ sym is)))
        | inr no' ↦ ap (λ x. nat_lt k (length blocks) && x) no' ∙ and-no (nat_lt k (length blocks))
      ]
      | inr past ↦ ap (λ x. x && same_block (block_in blocks k) b) (le-ltb k (length blocks) past)
    ])
  ]

  -- where no place of the list has the block, the test of whether it is there passes nowhere
  pub stands_none : (b : BlockId) → ((a : ℕ) → a < length blocks → block_in blocks a ≢ b) → (k : ℕ) → false ≡ stands blocks b k
  stands_none b none k = sym (elim (cases_lt k (length blocks)) [
    | inl inside ↦ elim (cases_Bool (same_block (block_in blocks k) b)) [
      | inl same ↦ absurd (none k inside (same_block-equal (block_in blocks k) b same))
      | inr no' ↦ ap (λ x. nat_lt k (length blocks) && x) no' ∙ and-no (nat_lt k (length blocks))
    ]
    | inr past ↦ ap (λ x. x && same_block (block_in blocks k) b) (le-ltb k (length blocks) past)
  ])

-- ---- the row of an equation

module _ (l : Lattice) (blocks : List BlockId) (own : ℕ) (behind : length blocks ≤ own) where
  abbrev blocks_with : Option ℕ → EqId → List BlockId
  blocks_with g e = input_blocks g e.class ++ block_of e.node Datum ∷ block_of e.node e.class ∷ []

  at_block : (b : BlockId) (k : ℕ) → k < length blocks → stands blocks b k ≡ same_block (block_in blocks k) b
  at_block b k less = ap (λ x. x && same_block (block_in blocks k) b) (lt-ltb k (length blocks) less)

  past_block : (b : BlockId) (k : ℕ) → length blocks ≤ k → stands blocks b k ≡ false
  past_block b k past = ap (λ x. x && same_block (block_in blocks k) b) (le-ltb k (length blocks) past)

  row_low : (e : EqId) (k : ℕ) → k < length blocks → small_row l blocks e own k ≡ is_in_equation l e (block_in blocks k)
  row_low e k less = cond-true (nat_lt k (length blocks)) (is_in_equation l e (block_in blocks k)) (k == own) (lt-ltb k (length blocks) less)

  row_high : (e : EqId) (k : ℕ) → length blocks ≤ k → small_row l blocks e own k ≡ (k == own)
  row_high e k past = cond-false (nat_lt k (length blocks)) (is_in_equation l e (block_in blocks k)) (k == own) (le-ltb k (length blocks) past)

  own_apart : (k : ℕ) → k < length blocks → (k == own) ≡ false
  own_apart k less = ne_eqb k own (λ same. omega arith)

  row_two : (e : EqId) (k : ℕ) → HasEquation l e → previous l e.class e.node ≡ None
      → differ (differ (stands blocks (block_of e.node Datum) k) (stands blocks (block_of e.node e.class) k)) (k == own) ≡ small_row l blocks e own k
  row_two e k has was =
      let d = block_of e.node Datum in
      let o = block_of e.node e.class in
      let b = block_in blocks k in
      elim (cases_lt k (length blocks)) [
        | inl low ↦
            ap (differ (differ (stands blocks d k) (stands blocks o k))) (own_apart k low)
            ∙ differ-false_r (differ (stands blocks d k) (stands blocks o k))
            ∙ ap (λ x. differ x (stands blocks o k)) (at_block d k low)
            ∙ ap (differ (same_block b d)) (at_block o k low)
            ∙ sym (row_low e k low
            ∙ ap (λ p. list_any (same_block b) (blocks_with p e)) was
            ∙ any-odd2 (same_block b d) (same_block b o) (not_both b d o (datum_parity l e e.node e.node has)))
        | inr high ↦
            ap (λ x. differ (differ x (stands blocks o k)) (k == own)) (past_block d k high)
            ∙ ap (λ x. differ x (k == own)) (past_block o k high)
            ∙ sym (row_high e k high)
      ]

  row_three : (e : EqId) (g k : ℕ) → HasEquation l e → previous l e.class e.node ≡ Some g
      → differ (differ (differ (stands blocks (block_of g e.class) k) (stands blocks (block_of e.node Datum) k)) (stands blocks (block_of e.node e.class) k)) (k == own)
      ≡ small_row l blocks e own k
  row_three e g k has was =
      let i = block_of g e.class in
      let d = block_of e.node Datum in
      let o = block_of e.node e.class in
      let b = block_in blocks k in
      elim (cases_lt k (length blocks)) [
        | inl low ↦
            ap (differ (differ (differ (stands blocks i k) (stands blocks d k)) (stands blocks o k))) (own_apart k low)
            ∙ differ-false_r (differ (differ (stands blocks i k) (stands blocks d k)) (stands blocks o k))
            ∙ differ-assoc (stands blocks i k) (stands blocks d k) (stands blocks o k)
            ∙ ap (λ x. differ x (differ (stands blocks d k) (stands blocks o k))) (at_block i k low)
            ∙ ap (λ x. differ (same_block b i) (differ x (stands blocks o k))) (at_block d k low)
            ∙ ap (λ x. differ (same_block b i) (differ (same_block b d) x)) (at_block o k low)
            ∙ sym (row_low e k low
            ∙ ap (λ p. list_any (same_block b) (blocks_with p e)) was
            ∙ any-odd3 (same_block b i) (same_block b d) (same_block b o)
            (not_both b i d (λ same. datum_parity l e e.node g has (sym same))) (not_both b i o (input_output l e g was)) (not_both b d o (datum_parity l e e.node e.node has)))
        | inr high ↦
            ap (λ x. differ (differ (differ x (stands blocks d k)) (stands blocks o k)) (k == own)) (past_block i k high)
            ∙ ap (λ x. differ (differ x (stands blocks o k)) (k == own)) (past_block d k high)
            ∙ ap (λ x. differ x (k == own)) (past_block o k high)
            ∙ sym (row_high e k high)
      ]

  abbrev Input : ℕ → ℕ → List ℕ → List ℕ → Option BlockId → Type 0
  Input begin wide old new q = MatchOption q (Turns begin wide (λ k. false) old new) (λ g. Turns begin wide (stands blocks g) old new)

  flipped_by : (e : EqId) (begin wide : ℕ) (w0 w1 w2 w3 w4 : List ℕ) → HasEquation l e
      → (p : Option ℕ) → previous l e.class e.node ≡ p → Input begin wide w0 w1 (option_map (λ g. block_of g e.class) p)
      → Turns begin wide (stands blocks (block_of e.node Datum)) w1 w2 → Turns begin wide (stands blocks (block_of e.node e.class)) w2 w3
      → Turns begin wide (λ k. k == own) w3 w4 → Turns begin wide (small_row l blocks e own) w0 w4
  flipped_by e begin wide w0 w1 w2 w3 w4 has None was input datum output column =
      let d = stands blocks (block_of e.node Datum) in
      let o = stands blocks (block_of e.node e.class) in
      let c : ℕ → Bool = λ k. k == own in
      turns_same begin wide (λ k. differ (differ (d k) (o k)) (c k)) (small_row l blocks e own) w0 w4 (λ k less. row_two e k has was)
      (turns_more begin wide (λ k. differ (d k) (o k)) c w0 w3 w4
      (turns_more begin wide d o w0 w2 w3 (turns_more begin wide (λ k. false) d w0 w1 w2 input datum) output) column)
  flipped_by e begin wide w0 w1 w2 w3 w4 has (Some g) was input datum output column =
      let i = stands blocks (block_of g e.class) in
      let d = stands blocks (block_of e.node Datum) in
      let o = stands blocks (block_of e.node e.class) in
      let c : ℕ → Bool = λ k. k == own in
      turns_same begin wide (λ k. differ (differ (differ (i k) (d k)) (o k)) (c k)) (small_row l blocks e own) w0 w4 (λ k less. row_three e g k has was)
      (turns_more begin wide (λ k. differ (differ (i k) (d k)) (o k)) c w0 w3 w4
      (turns_more begin wide (λ k. differ (i k) (d k)) o w0 w2 w3 (turns_more begin wide i d w0 w1 w2 input datum) output) column)

  -- to flip, one after the other, the bits of the input, if there is one, of the datum, of the output and of a
  -- column after the blocks flips those of the row of an equation of the lattice that has this column
  pub row_flipped : (e : EqId) (begin wide : ℕ) (w0 w1 w2 w3 w4 : List ℕ) → HasEquation l e
      → (q : Option BlockId) (d o : BlockId) → q ≡ option_map (λ g. block_of g e.class) (previous l e.class e.node)
      → d ≡ block_of e.node Datum → o ≡ block_of e.node e.class
      → Input begin wide w0 w1 q → Turns begin wide (stands blocks d) w1 w2 → Turns begin wide (stands blocks o) w2 w3
      → Turns begin wide (λ k. k == own) w3 w4 → Turns begin wide (small_row l blocks e own) w0 w4
  row_flipped e begin wide w0 w1 w2 w3 w4 has q d o eq ed eo input datum output column =
      flipped_by e begin wide w0 w1 w2 w3 w4 has (previous l e.class e.node) refl
      (subst (Input begin wide w0 w1) eq input)
      (subst (λ b. Turns begin wide (stands blocks b) w1 w2) ed datum)
      (subst (λ b. Turns begin wide (stands blocks b) w2 w3) eo output)
      column
