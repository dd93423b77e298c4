-- Rows that are filled one after the other, and lists that are read one item after another.
use Rattle.std.proofs.Common.{◌≡◌, ℕ, zero, suc, ◌+◌, ◌*◌, ◌/◌, ◌%◌, ◌<◌, ◌≤◌, inl, inr, Bool, not, ◌==◌, cond, List, [], ◌∷◌, ◌++◌, filter, length, get_or, refl, sym, ◌∙◌, ap, arith, take, Some}
use Rattle.std.specs.Prelude.{slice_get, unwrap_or}
use Rattle.std.specs.Int.{bit_at}
use Rattle.std.proofs.Math.Nat.{mul-le-mul_right}
use Rattle.std.proofs.lemmas.Bool.{cases_lt}
use Rattle.std.proofs.lemmas.Nat.Bits.{bit_at-zero}
use Rattle.std.proofs.lemmas.List.Elements.{filter_more}
use Rattle.std.proofs.lemmas.Option.{unwrap_or-slice_get}
use Rattle.aea_lattice.specs.declared.blocks.BlockId.{BlockId}
use Rattle.aea_lattice.specs.declared.blocks.EqId.{EqId}
use Rattle.aea_lattice.specs.declared.grid.Lattice.{Lattice}
use Rattle.aea_lattice.specs.Blocks.{blocks_of}
use Rattle.aea_lattice.specs.Equations.{equations_of}
use Rattle.aea_lattice.specs.Parity.{differ}
use Rattle.aea_gauss_words.specs.Words.{bit_matrix}
use Rattle.aea_fates.specs.Live.{is_live, live_equations}
use Rattle.aea_readings.specs.Small.{unknown_blocks}
use Rattle.aea_gauss.specs.Fills.{Turns}

-- ---- rows that are filled one after the other

-- the rows so far are filled, and the words after them are 0
pub record Filled (done wide : ℕ) (row : ℕ → ℕ → Bool) (old new : List ℕ) : Type 0 where
  pub long : length new ≡ length old
  pub rows : (i k : ℕ) → i < done → k < 64 * wide → bit_matrix wide new i k ≡ row i k
  pub rest : (k : ℕ) → done * wide ≤ k → get_or new k 0 ≡ 0

pub filled_none : (wide : ℕ) (row : ℕ → ℕ → Bool) (old : List ℕ) → ((k : ℕ) → get_or old k 0 ≡ 0) → Filled 0 wide row old old
filled_none wide row old zeros = record { long = refl; rows = λ i k less. absurd (omega arith); rest = λ k most. zeros k }

-- after n filled rows, flipping the bits of row n fills one row more
pub filled_more : (n wide : ℕ) (row : ℕ → ℕ → Bool) (t : ℕ → Bool) (old now new : List ℕ) → Filled n wide row old now → Turns (n * wide) wide t now new
    → ((k : ℕ) → t k ≡ row n k) → Filled (n + 1) wide row old new
filled_more n wide row t old now new before turns same = record {
  long = turns.long ∙ before.long;
  rows = λ i k less k_less. elim (cases_lt i n) [
    | inl earlier ↦
        (let m : (i + 1) * wide ≤ n * wide = (let s : i + 1 ≤ n = omega arith in mul-le-mul_right wide s) in
        ap (λ x. bit_at x (k % 64) == 1) (turns.outside (i * wide + k / 64) (inl (omega arith)))
        ∙ before.rows i k earlier k_less)
    | inr here ↦
        (let same_row : i ≡ n = omega arith in
        ap (λ j. bit_matrix wide new j k) same_row
        ∙ turns.inside k k_less
        ∙ ap (λ x. differ (bit_at x (k % 64) == 1) (t k)) (before.rest (n * wide + k / 64) (omega arith))
        ∙ ap (λ x. differ (x == 1) (t k)) (bit_at-zero (k % 64))
        ∙ same k
        ∙ ap (λ j. row j k) (sym same_row))
  ];
  rest = λ k most. turns.outside k (inr (omega arith)) ∙ before.rest k (omega arith);
}

-- a list that reads 0 everywhere still does with one 0 more
pub zeros_push : (xs : List ℕ) → ((k : ℕ) → get_or xs k 0 ≡ 0) → (k : ℕ) → get_or (xs ++ 0 ∷ []) k 0 ≡ 0
zeros_push [] h zero = refl
zeros_push [] h (suc k) = refl
zeros_push (x ∷ xs) h zero = h 0
zeros_push (x ∷ xs) h (suc k) = zeros_push xs (λ j. h (suc j)) k

-- ---- lists that are read one item after another

-- the kept ones of the first k + 1 blocks are those of the first k, and block k where it passes
pub blocks_more : (p : BlockId → Bool) (bs : List BlockId) (k : ℕ) (b : BlockId) → k < length bs → slice_get bs k ≡ Some b
    → filter p (take (k + 1) bs) ≡ filter p (take k bs) ++ cond (p b) (b ∷ []) []
blocks_more p bs k b less here =
    let at : get_or bs k b ≡ b = sym (unwrap_or-slice_get bs k b) ∙ ap (λ o. unwrap_or o b) here in
    filter_more p bs k b less ∙ ap (λ x. filter p (take k bs) ++ cond (p x) (x ∷ []) []) at

-- those of the first i equations that have an unknown block are all such, where the lattice has no more than i
pub live_whole : (l : Lattice) (known : BlockId → Bool) (live es : List EqId) (i : ℕ) → live ≡ filter (is_live l known) (take i es) → length es ≤ i → es ≡ equations_of l
    → live ≡ live_equations l known
live_whole l known live es i h past all = h ∙ ap (filter (is_live l known)) (take_past es i past ∙ all)
  where
    take_past : (es : List EqId) (i : ℕ) → length es ≤ i → take i es ≡ es
    take_past [] zero past = refl
    take_past [] (suc i) past = refl
    take_past (e ∷ es) zero past = absurd (omega arith)
    take_past (e ∷ es) (suc i) past = ap (λ xs. e ∷ xs) (take_past es i (omega arith))

-- the first n items of two joined lists are the first list, where that has n items
pub taken_front : (n : ℕ) (xs ys : List ℕ) → n ≡ length xs → take n (xs ++ ys) ≡ xs
taken_front n xs ys e = ap (λ k. take k (xs ++ ys)) e ∙ front xs ys
  where
    front : (xs ys : List ℕ) → take (length xs) (xs ++ ys) ≡ xs
    front [] [] = refl
    front [] (y ∷ ys) = refl
    front (x ∷ xs) ys = (let e : length (x ∷ xs) ≡ suc (length xs) = omega arith in ap (λ k. take k (x ∷ (xs ++ ys))) e) ∙ ap (λ zs. x ∷ zs) (front xs ys)

-- the unknown ones of the first i blocks are all unknown blocks, where the lattice has no more than i
pub unknown_whole : (l : Lattice) (known : BlockId → Bool) (blocks : List BlockId) (i : ℕ) → blocks ≡ filter (λ b. not (known b)) (take i (blocks_of l)) → length (blocks_of l) ≤ i
    → blocks ≡ unknown_blocks l known
unknown_whole l known blocks i h past = h ∙ ap (filter (λ b. not (known b))) (take_all (blocks_of l) i past)
  where
    take_all : (bs : List BlockId) (i : ℕ) → length bs ≤ i → take i bs ≡ bs
    take_all [] zero past = refl
    take_all [] (suc i) past = refl
    take_all (b ∷ bs) zero past = absurd (omega arith)
    take_all (b ∷ bs) (suc i) past = ap (λ xs. b ∷ xs) (take_all bs i (omega arith))
