-- The beginning and the end of the pass.
use Rattle.std.proofs.Common.{◌≡◌, ℕ, ◌+◌, ◌<◌, ◌≤◌, inl, inr, Bool, true, false, cond, List, [], ◌∷◌, ◌++◌, length, refl, sym, ◌∙◌, ap, subst, arith}
use Rattle.std.specs.Prelude.{◌↔◌}
use Rattle.std.proofs.lemmas.Bool.{cases_eq, cases_lt, eq-eqb, ne_eqb}
use Rattle.std.proofs.lemmas.List.{get_or_append_left, get_or_at, length-append}
use Rattle.aea_lattice.specs.declared.blocks.BlockId.{BlockId}
use Rattle.aea_lattice.specs.declared.blocks.EqId.{EqId}
use Rattle.aea_lattice.specs.declared.grid.Lattice.{Lattice}
use Rattle.aea_lattice.specs.Blocks.{blocks_count}
use Rattle.aea_lattice.proofs.Equations.{number_below}
use Rattle.aea_lattice.proofs.Odd.{same_test}
use Rattle.aea_view.specs.Bits.{has_bit}
use Rattle.aea_sums.specs.declared.row.Row.{Row}
use Rattle.aea_sums.specs.Rows.{row_bit, no_row, row_in, with_at, AllMeet, AreSlots, IsTagged, Fits}
use Rattle.aea_sums.specs.Passes.{PassesEnd, Lacks}
use Rattle.aea_sums.specs.Vectors.{vector_at, parities_count, ArePassed, AreRecords}
use Rattle.aea_sums.proofs.Bits.{none_set, none-bit}
use Rattle.aea_sums.proofs.Algebra.{none-meets, past-none}
use Rattle.aea_sums.proofs.Vectors.{vector-end, vector-tags}

-- the strands that were ended
pub record Ended (first now : List Row) (lost less upto : ℕ) : Type 0 where
  pub long : length now ≡ length first
  pub slots : AreSlots now
  pub lacks : (t : ℕ) → t < upto → Lacks now t
  pub fits : (k : ℕ) (some : Bool) (y : ℕ → Bool) → k < 64 → IsTagged k some y → ((t : ℕ) → t < 192 → y t ≡ false) → Fits first lost k some y ↔ Fits now less k some y

pub ended_more : (first now new : List Row) (lost less next upto : ℕ) → upto < length now → length new ≡ length now → AreSlots new → Lacks new upto
    → ((t : ℕ) → t < 192 → Lacks now t → Lacks new t) → PassesEnd upto less next now new → Ended first now lost less upto → Ended first new lost next (upto + 1)
ended_more first now new lost less next upto inside long slots gone keeps ends e =
    let few = e.slots.few in
    record {
      long = long ∙ e.long;
      slots = slots;
      lacks = λ t low. elim (cases_eq t upto) [
        | inl same ↦ subst (Lacks new) (sym same) gone
        | inr other ↦ keeps t (omega arith) (e.lacks t (omega arith))
      ];
      fits = λ k some y in_k tagged none.
          let same : with_at y upto false ≡ y = same_test (with_at y upto false) y
          (λ t. elim (cases_eq t upto) [
            | inl at ↦ ap (λ b. cond b false (y t)) (eq-eqb t upto at) ∙ sym (ap y at ∙ none upto (omega arith))
            | inr other ↦ ap (λ b. cond b false (y t)) (ne_eqb t upto other)
          ]) in
          let old = e.fits k some y in_k tagged none in
          let step = ends k some y in_k tagged in (
            λ f. step.0 (subst (λ (x : ℕ → Bool). Fits now less k some x) (sym same) (old.0 f)),
            λ f. old.1 (subst (λ (x : ℕ → Bool). Fits now less k some x) same (step.1 f)),
          );
    }

-- when all are ended no row has bits
pub ended_all : (first now : List Row) (lost less upto : ℕ) → length now ≤ upto → Ended first now lost less upto → (k : ℕ) (some : Bool) (y : ℕ → Bool) → k < 64 → IsTagged k some y
    → ((t : ℕ) → t < 192 → y t ≡ false) → Fits first lost k some y ↔ (some ≡ true → has_bit less k ≡ false)
ended_all first now lost less upto all e k some y in_k tagged none =
    let f = e.fits k some y in_k tagged none in
    let bare : AllMeet now y = λ r. none-meets (row_in now r) y (λ t. zero' r t) in (
      λ g. (f.0 g).open',
      λ g. f.1 (record { all = bare; open' = g }),
    )
  where
    zero' : (r t : ℕ) → row_in now r t ≡ false
    zero' r t = elim (cases_lt r (length now)) [
      | inl inside ↦ e.slots.empty r t inside (e.lacks r (omega arith) r)
      | inr past ↦ past-none now r t past
    ]

-- where no row has bits, nothing was passed
pub empty-slots : (rows : List Row) → length rows < 192 → ((r t : ℕ) → row_in rows r t ≡ false) → AreSlots rows
empty-slots rows few none = record {
  few = few;
  alone = λ t r t_in r_in other held. none r t;
  empty = λ t j t_in lacks. none t j;
  narrow = λ r t past fits. none r t;
}

pub none_passed : (l : Lattice) (known : BlockId → Bool) (wanted : List BlockId) (records rows : List Row) → ((r t : ℕ) → row_in rows r t ≡ false) → ArePassed l known wanted 0 records rows 0
none_passed l known wanted records rows none = record {
  fits = λ set k some in_k met. record { all = λ r. none-meets (row_in rows r) (vector_at l set k some 0) (none r); open' = λ yes'. none_set k };
  adds = λ set k in_k met told fits d hd low datum. absurd (omega arith);
  not_spare = λ d hd low parity held spare. absurd (omega arith);
  kind = λ d hd low parity is. absurd (omega arith);
}

pub all_passed : (l : Lattice) (known : BlockId → Bool) (wanted : List BlockId) (records rows : List Row) (lost less : ℕ) → length records ≡ parities_count l
    → ArePassed l known wanted (blocks_count l) records rows lost
    → ((k : ℕ) (some : Bool) (y : ℕ → Bool) → k < 64 → IsTagged k some y → ((t : ℕ) → t < 192 → y t ≡ false) → Fits rows lost k some y ↔ (some ≡ true → has_bit less k ≡ false))
    → AreRecords l known wanted records less
all_passed l known wanted records rows lost less long passed ends = record {
  long = long;
  open' = λ set k in_k met.
      (ends k true (vector_at l set k true (blocks_count l)) in_k (vector-tags l set k true (blocks_count l) (omega arith)) (bare set k)).0
      (passed.fits set k true in_k (λ d hd low. met d hd)) refl;
  adds = λ set k in_k found met told d hd datum.
      passed.adds set k in_k (λ x hx low parity. met x hx parity) (λ x hx low parity is. told x hx parity is)
      ((ends k true (vector_at l set k true (blocks_count l)) in_k (vector-tags l set k true (blocks_count l) (omega arith)) (bare set k)).1 (λ yes'. found))
      d hd (number_below l d hd) datum;
  not_spare = λ d hd parity held. passed.not_spare d hd (number_below l d hd) parity held;
  kind = λ d hd parity is. passed.kind d hd (number_below l d hd) parity is;
}
  where
    bare : (set : EqId → Bool) (k t : ℕ) → t < 192 → vector_at l set k true (blocks_count l) t ≡ false
    bare set k t low = vector-end l set k true t ∙ ne_eqb t (192 + k) (λ e. omega arith)

-- one empty row more
pub more_none : (rows : List Row) (row : Row) → row ≡ no_row → ((r t : ℕ) → row_in rows r t ≡ false) → (r t : ℕ) → row_in (rows ++ row ∷ []) r t ≡ false
more_none rows row is none r t = elim (cases_lt r (length rows)) [
  | inl inside ↦ ap (λ (x : Row). row_bit x t) (get_or_append_left rows (row ∷ []) no_row r inside) ∙ none r t
  | inr past ↦ elim (cases_eq r (length rows)) [
    | inl here ↦ ap (λ (x : Row). row_bit x t) (get_or_at rows row [] no_row r (sym here) ∙ is) ∙ none-bit t
    | inr other ↦ past-none (rows ++ row ∷ []) r t (let e = length-append rows (row ∷ []) in let one : length (row ∷ []) ≡ 1 = refl in omega arith)
  ]
]
