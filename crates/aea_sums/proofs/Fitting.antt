-- What each step of the table keeps.
use Rattle.std.proofs.Common.{◌≡◌, ◌≢◌, ℕ, ◌+◌, ◌-◌, ◌<◌, inl, inr, Bool, true, false, not, ◌&&◌, ◌==◌, List, length, get_or, refl, sym, ◌∙◌, ap, arith, bit_or}
use Rattle.std.specs.Prelude.{cond, slice_set, max}
use Rattle.std.specs.Int.{bit_at}
use Rattle.std.proofs.lemmas.Bool.{cases_lt, eq-eqb, ne_eqb, true≢false}
use Rattle.std.proofs.lemmas.Nat.Bits.{bit_at_or, bit_at-lt}
use Rattle.aea_lattice.specs.Parity.{differ}
use Rattle.aea_lattice.proofs.Odd.{differ-self, differ-false_r}
use Rattle.aea_view.specs.Bits.{has_bit}
use Rattle.aea_gauss_laws.proofs.Columns.{odd_below-one, odd_below-same, and-true, and-false}
use Rattle.aea_sums.specs.declared.row.Row.{Row}
use Rattle.aea_sums.specs.Rows.{row_bit, no_row, row_in, meets, with_at, AllMeet, AddsWhere, IsTagged, Fits}
use Rattle.aea_sums.specs.Passes.{Settles, PassesKnown, PassesTagged, PassesEnd}
use Rattle.aea_sums.proofs.Bits.{none-bit, none_set, bit-tags}
use Rattle.aea_sums.proofs.Algebra.{past-none, none-meets, off-down, off-up, pivot-down, pivot-up, put-down, put-up, taken-down, taken-up, added-down, added-up}

and-comm : (a b : Bool) → (a && b) ≡ (b && a)
and-comm true true = refl
and-comm true false = refl
and-comm false true = refl
and-comm false false = refl

-- a row without places of strands meets a test in the tag alone
pub bare-meets : (row y : ℕ → Bool) (k : ℕ) (some : Bool) → ((t : ℕ) → t < 192 → row t ≡ false) → k < 64 → IsTagged k some y → meets row y ≡ (row (192 + k) && some)
unfolding meets
bare-meets row y k some bare fits tagged =
    odd_below-one (λ t. row t && y t) 256 (192 + k) (omega arith)
    (λ t less other. elim (cases_lt t 192) [
      | inl low ↦ ap (λ b. b && y t) (bare t low)
      | inr high ↦
          (let j : t ≡ 192 + (t - 192) = omega arith in
          ap (λ b. row t && b) (ap y j ∙ tagged.others (t - 192) (omega arith) (ne_eqb (t - 192) k (λ e. other (omega arith)))) ∙ and-false (row t))
    ])
    ∙ ap (λ b. row (192 + k) && b) tagged.own

tag-bit : (row : Row) (k : ℕ) → row_bit row (192 + k) ≡ has_bit row.tags k
tag-bit row k = bit-tags row (192 + k) (omega arith) ∙ ap (has_bit row.tags) (let e : 192 + k - 192 ≡ k = omega arith in e)

not_one : (n : ℕ) → n < 2 → (n == 1) ≡ false → n ≡ 0
not_one n less off = let other : n ≢ 1 = λ e. true≢false (sym (eq-eqb n 1 e) ∙ off) in omega arith

pub or-from : (a b k : ℕ) → has_bit a k ≡ false → has_bit b k ≡ false → has_bit (bit_or a b) k ≡ false
or-from a b k off none =
    let x : bit_at a k ≡ 0 = not_one (bit_at a k) (bit_at-lt a k) off in
    let y : bit_at b k ≡ 0 = not_one (bit_at b k) (bit_at-lt b k) none in
    ap (λ n. n == 1) (bit_at_or a b k ∙ ap (λ n. max n (bit_at b k)) x ∙ ap (max 0) y)

pub or-parts : (a b k : ℕ) → has_bit (bit_or a b) k ≡ false → (has_bit a k ≡ false) × (has_bit b k ≡ false)
or-parts a b k off =
    let la = bit_at-lt a k in
    let lb = bit_at-lt b k in
    let lc : bit_at (bit_or a b) k < 2 = bit_at-lt (bit_or a b) k in
    let zero : max (bit_at a k) (bit_at b k) ≡ 0 = sym (bit_at_or a b k) ∙ not_one (bit_at (bit_or a b) k) lc off in
    let x : bit_at a k ≡ 0 = omega arith in
    let y : bit_at b k ≡ 0 = omega arith in
    (ap (λ n. n == 1) x, ap (λ n. n == 1) y)

-- the row is closed
module _ (rows : List Row) (lost k : ℕ) (some : Bool) (row cleaned : Row) (y : ℕ → Bool) (fits : k < 64) (tagged : IsTagged k some y)
    (bare : (t : ℕ) → t < 192 → row_bit cleaned t ≡ false) (same : AllMeet rows y → meets (row_bit cleaned) y ≡ meets (row_bit row) y) where
  own : meets (row_bit cleaned) y ≡ (has_bit cleaned.tags k && some)
  own = bare-meets (row_bit cleaned) y k some bare fits tagged ∙ ap (λ b. b && some) (tag-bit cleaned k)

  off_or_none : (a b : Bool) → (b ≡ true → a ≡ false) → (a && b) ≡ false
  off_or_none a true h = ap (λ x. x && true) (h refl)
  off_or_none a false h = and-false a

  none_or_off : (a b : Bool) → (a && b) ≡ false → b ≡ true → a ≡ false
  none_or_off a true h yes' = sym (and-true a) ∙ h
  none_or_off a false h yes' = absurd (true≢false (sym yes'))

  pub close-down : Fits rows (bit_or lost cleaned.tags) k some y → Fits rows lost k some y × (meets (row_bit row) y ≡ false)
  close-down f = (
    record { all = f.all; open' = λ yes'. (or-parts lost cleaned.tags k (f.open' yes')).0 },
    sym (same f.all) ∙ own ∙ off_or_none (has_bit cleaned.tags k) some (λ yes'. (or-parts lost cleaned.tags k (f.open' yes')).1),
  )

  pub close-up : Fits rows lost k some y × (meets (row_bit row) y ≡ false) → Fits rows (bit_or lost cleaned.tags) k some y
  close-up f = record {
    all = f.0.all;
    open' = λ yes'. or-from lost cleaned.tags k (f.0.open' yes') (none_or_off (has_bit cleaned.tags k) some (sym own ∙ same f.0.all ∙ f.1) yes');
  }

-- a place that no row has
pub nowhere : (rows : List Row) (place : ℕ) → ((r : ℕ) → r < length rows → row_in rows r place ≡ false) → (r : ℕ) → row_in rows r place ≡ false
nowhere rows place off r = elim (cases_lt r (length rows)) [ inl less ↦ off r less | inr past ↦ past-none rows r place past ]

pub passed_none : (place : ℕ) (none : Row) (rows : List Row) → place < 256 → none ≡ no_row → ((r : ℕ) → row_in rows r place ≡ false) → PassesKnown place none rows rows
passed_none place none rows less is off lost k some z y = (
  λ f. (record { all = off-down place rows less off y z f.all; open' = f.open' }, none-meets (row_bit none) (with_at y place z) (λ t. ap (λ (x : Row). row_bit x t) is ∙ none-bit t)),
  λ f. record { all = off-up place rows less off y z f.0.all; open' = f.0.open' },
)

pub passed_pivot : (place q : ℕ) (p : Row) (old new : List Row) → place < 256 → get_or old q no_row ≡ p → row_bit p place ≡ true → AddsWhere place p old new → PassesKnown place p old new
passed_pivot place q p old new less is has adds lost k some z y = (
  λ f. (let both = pivot-down place q p old new less is has adds y z f.all in (record { all = both.0; open' = f.open' }, both.1)),
  λ f. record { all = pivot-up place q p old new less is has adds y z f.0.all f.1; open' = f.0.open' },
)

pub passed_tag : (place tags : ℕ) (add : Row) (old new : List Row) → place < 192 → ((t : ℕ) → t < 192 → row_bit add t ≡ false)
    → ((k : ℕ) → row_bit add (192 + k) ≡ has_bit tags k) → AddsWhere place add old new → PassesTagged place tags old new
passed_tag place tags add old new less bare is adds lost k some y fits tagged =
    let value : meets (row_bit add) y ≡ (some && has_bit tags k) =
    bare-meets (row_bit add) y k some bare fits tagged ∙ ap (λ b. b && some) (is k) ∙ and-comm (has_bit tags k) some in (
      λ f. record { all = added-up place add old new (omega arith) adds y (λ r. ap (λ b. meets (row_in old r) (with_at y place (differ (y place) b))) value ∙ f.all r); open' = f.open' },
      λ f. record { all = λ r. sym (ap (λ b. meets (row_in old r) (with_at y place (differ (y place) b))) value) ∙ added-down place add old new (omega arith) adds y f.all r; open' = f.open' },
    )

-- where there are no tags nothing has to be added
pub passed_untagged : (place : ℕ) (rows : List Row) → place < 192 → PassesTagged place 0 rows rows
passed_untagged place rows less = passed_tag place 0 no_row rows rows less (λ t low. none-bit t) (λ k. none-bit (192 + k) ∙ sym (none_set k)) adds
  where
    adds : AddsWhere place no_row rows rows
    adds = record {
      long = refl;
      rows_are = λ r t.
          sym (ap (λ b. differ (row_in rows r t) (row_in rows r place && b)) (none-bit t)
          ∙ ap (differ (row_in rows r t)) (and-false (row_in rows r place)) ∙ differ-false_r (row_in rows r t));
    }

-- the row of the place alone
pub unit-meets : (unit y : ℕ → Bool) (place : ℕ) → place < 256 → ((t : ℕ) → t < 256 → unit t ≡ (t == place)) → meets unit y ≡ y place
unfolding meets
unit-meets unit y place less is =
    odd_below-one (λ t. unit t && y t) 256 place less (λ t in_t other. ap (λ b. b && y t) (is t in_t ∙ ne_eqb t place other))
    ∙ ap (λ b. b && y place) (is place less ∙ eq-eqb place place refl)

-- a row without the place meets a test as the row meets the test without it
pub lacking-meets : (row lacks y : ℕ → Bool) (place : ℕ) → ((t : ℕ) → t < 256 → lacks t ≡ (row t && not (t == place))) → meets lacks y ≡ meets row (with_at y place false)
unfolding meets
lacking-meets row lacks y place is =
    odd_below-same (λ t. lacks t && y t) (λ t. row t && with_at y place false t) 256
    (λ t less. ap (λ b. b && y t) (is t less) ∙ move (row t) (t == place) (y t))
  where
    move : (a b c : Bool) → ((a && not b) && c) ≡ (a && cond b false c)
    move true true c = refl
    move true false c = refl
    move false b c = refl

module _ (place lost less : ℕ) (row lacks unit : Row) (old mid new : List Row) (fits_in : place < 192) (inside : place < length old)
    (is_row : row ≡ get_or old place no_row) (is_unit : (t : ℕ) → t < 256 → row_bit unit t ≡ (t == place)) (adds : AddsWhere place unit (slice_set old place no_row) mid)
    (is_lacks : (t : ℕ) → t < 256 → row_bit lacks t ≡ (row_bit row t && not (t == place))) (settles : Settles lacks lost less mid new) where
  changed : (y : ℕ → Bool) → differ (y place) (meets (row_bit unit) y) ≡ false
  changed y = ap (differ (y place)) (unit-meets (row_bit unit) y place (omega arith) is_unit) ∙ differ-self (y place)

  taken-meets : (y : ℕ → Bool) → meets (row_bit lacks) y ≡ meets (row_in old place) (with_at y place false)
  taken-meets y = lacking-meets (row_bit row) (row_bit lacks) y place is_lacks ∙ ap (λ (x : Row). meets (row_bit x) (with_at y place false)) is_row

  pub passed_end : PassesEnd place lost less old new
  passed_end k some y fits tagged = (
    λ f. (settles k some y fits tagged).1 (
      record {
        all = added-up place unit (slice_set old place no_row) mid (omega arith) adds y
            (λ r. ap (λ b. meets (row_in (slice_set old place no_row) r) (with_at y place b)) (changed y) ∙ taken-up place old inside (with_at y place false) f.all r);
        open' = f.open';
      },
      taken-meets y ∙ f.all place,
    ),
    λ f. (let both = (settles k some y fits tagged).0 f in
        record {
          all = taken-down place old inside (with_at y place false)
              (λ r. sym (ap (λ b. meets (row_in (slice_set old place no_row) r) (with_at y place b)) (changed y)) ∙ added-down place unit (slice_set old place no_row) mid (omega arith) adds y both.0.all r)
              (sym (taken-meets y) ∙ both.1);
          open' = both.0.open';
        }),
  )

-- the row is put into a slot
pub put_settles : (place lost : ℕ) (row p : Row) (old mid : List Row) → place < 192 → place < length old → ((t : ℕ) → row_in old place t ≡ false) → AddsWhere place p old mid
    → ((y : ℕ → Bool) → AllMeet old y → meets (row_bit p) y ≡ meets (row_bit row) y) → Settles row lost lost old (slice_set mid place p)
put_settles place lost row p old mid less inside vacant adds same k some y fits tagged = (
  λ f. (let both = put-down place p old mid (omega arith) inside vacant adds y f.all in
      (record { all = both.0; open' = f.open' }, sym (same y both.0) ∙ both.1)),
  λ f. record { all = put-up place p old mid (omega arith) inside vacant adds y f.0.all (same y f.0.all ∙ f.1); open' = f.0.open' },
)
