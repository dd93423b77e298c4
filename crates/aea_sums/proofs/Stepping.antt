-- What the pass holds goes on over a block.
use Rattle.std.proofs.Common.{◌≡◌, ◌⊎◌, ℕ, suc, ◌+◌, ◌-◌, ◌<◌, ◌≤◌, inl, inr, Bool, true, false, not, ◌&&◌, List, length, Option, Some, None, refl, sym, ◌∙◌, ap, subst, arith}
use Rattle.std.specs.Prelude.{slice_set}
use Rattle.std.proofs.lemmas.Bool.{cases_eq, cases_lt, cases_Bool, ne_eqb, true≢false}
use Rattle.std.proofs.lemmas.List.{get_or-set_same, get_or-set_other}
use Rattle.aea_lattice.specs.declared.blocks.Class.TheVariants.{Datum}
use Rattle.aea_lattice.specs.declared.blocks.BlockId.{BlockId}
use Rattle.aea_lattice.specs.declared.blocks.EqId.{EqId}
use Rattle.aea_lattice.specs.declared.grid.Lattice.{Lattice}
use Rattle.aea_lattice.specs.Blocks.{HasBlock, block_of, blocks_count, number_of, class_number}
use Rattle.aea_lattice.specs.Strands.{IsNext}
use Rattle.aea_lattice.specs.Equations.{equation_of, adds_up_to}
use Rattle.aea_lattice.specs.Parity.{differ}
use Rattle.aea_lattice.proofs.Odd.{same_test, differ-self, differ-comm, differ-assoc, differ-false_r, differ-equal}
use Rattle.aea_lattice.proofs.Equations.{number_below, number_equal}
use Rattle.aea_fates.specs.Sums.{IsSpare, IsSpareIn, output_number}
use Rattle.aea_sums.specs.declared.row.Row.{Row}
use Rattle.aea_sums.specs.Rows.{row_bit, no_row, meets, with_at, Fits}
use Rattle.aea_sums.specs.Places.{place_at, odd_classes, is_wanted}
use Rattle.aea_sums.specs.Vectors.{equation_at, vector_at, IsMet, parity_number, parities_count, record_at, onward, PassesOpen, IsTaken, IsPass, ArePassed}
use Rattle.aea_sums.proofs.Algebra.{with-as}
use Rattle.aea_sums.proofs.Adding.{goes_on, adds-parity, adds-datum}
use Rattle.aea_sums.proofs.Places.{number_before, place_few, parity_below, parity_before}
use Rattle.aea_sums.proofs.Datums.{some_class}
use Rattle.aea_sums.proofs.Vectors.{vector-datum, vector-parity, vector-none, vector-tags}
use Rattle.aea_sums.proofs.Passing.{none-right, class_of, node_vector, next_vector}

-- a block and what names it
same_parts : (b : BlockId) → b ≡ block_of b.node b.class
same_parts b = refl

pub as_datum : (b : BlockId) → class_number b.class ≡ 0 → block_of b.node Datum ≡ b
as_datum b zero' = ap (block_of b.node) (sym (class_of b.class zero'))

-- what a set adds up to at a datum, and at a parity
pub at_datum : (l : Lattice) (set : EqId → Bool) (b : BlockId) → HasBlock l b → class_number b.class ≡ 0 → adds_up_to l set b ≡ odd_classes l (λ c. set (equation_of b.node c))
at_datum l set b has datum = ap (adds_up_to l set) (sym (as_datum b datum)) ∙ adds-datum l set b.node (record { first = has.first; last = has.last }) (some_class l)

pub at_parity : (l : Lattice) (set : EqId → Bool) (b : BlockId) → HasBlock l b → 1 ≤ class_number b.class → (answer : Option ℕ) → IsNext l b.class b.node answer → ((j : ℕ) → answer ≡ Some j → b.node < j)
    → adds_up_to l set b ≡ differ (set (equation_at b)) (goes_on set b.class answer)
at_parity l set b has parity answer next later = adds-parity l set b.node b.class parity (record { first = has.first; last = has.last }) has.used answer next later

move : (a b c : Bool) → differ a b ≡ c → a ≡ differ b c
move a b c h = sym (differ-false_r a) ∙ ap (differ a) (sym (differ-self b)) ∙ sym (differ-assoc a b b) ∙ ap (λ x. differ x b) h ∙ differ-comm c b

back : (a b c : Bool) → a ≡ differ b c → differ a b ≡ c
back a b c h = ap (λ x. differ x b) (h ∙ differ-comm b c) ∙ differ-assoc c b b ∙ ap (differ c) (differ-self b) ∙ differ-false_r c

module _ (l : Lattice) (known : BlockId → Bool) (wanted : List BlockId) (b : BlockId) (has : HasBlock l b) (records all rows new : List Row) (row : Row) (lost less : ℕ)
    (own : 1 ≤ class_number b.class → record_at l all b ≡ row)
    (earlier : (d : BlockId) → HasBlock l d → 1 ≤ class_number d.class → number_of l d < number_of l b → record_at l all d ≡ record_at l records d)
    (p : IsPass l known wanted b row rows lost new less) (before : ArePassed l known wanted (number_of l b) records rows lost) where
  abbrev n : ℕ
  n = number_of l b

  in_l : suc n ≤ blocks_count l
  in_l = let h = number_below l b has in omega arith

  or_own : (d : BlockId) → HasBlock l d → number_of l d < suc n → (number_of l d < n) ⊎ (d ≡ b)
  or_own d hd low = elim (cases_lt (number_of l d) n) [ inl h ↦ inl h | inr h ↦ inr (number_equal l d b hd has (omega arith)) ]

  module _ (set : EqId → Bool) (k : ℕ) (some : Bool) (in_k : k < 64) where
    abbrev v : ℕ → Bool
    v = vector_at l set k some n

    abbrev w : ℕ → Bool
    w = vector_at l set k some (suc n)

    -- at a datum the test stays; at a parity the place has the value of its equation
    same_datum : class_number b.class ≡ 0 → v ≡ w
    same_datum datum = same_test v w (vector-datum l set k some b has datum)

    same_parity : 1 ≤ class_number b.class → v ≡ with_at w (place_at l b) (set (equation_at b))
    same_parity parity = same_test v (with_at w (place_at l b) (set (equation_at b))) (vector-parity l set k some b has parity)

    -- what the set adds up to at the datum
    datum_value : class_number b.class ≡ 0 → adds_up_to l set b ≡ odd_classes l (λ c. w (place_at l (block_of b.node c)))
    datum_value datum = at_datum l set b has datum ∙ sym (node_vector l set k some b has datum)

    -- and at a parity that is not known
    open_value : (parity : 1 ≤ class_number b.class) (o : PassesOpen l wanted b rows lost new less) → adds_up_to l set b ≡ (some && is_wanted wanted k b)
        → set (equation_at b) ≡ differ (onward (w (place_at l b)) o.answer) (some && is_wanted wanted k b)
    open_value parity o met =
        move (set (equation_at b)) (onward (w (place_at l b)) o.answer) (some && is_wanted wanted k b)
        (ap (differ (set (equation_at b))) (next_vector l set k some b has parity o.answer o.next o.later)
        ∙ sym (at_parity l set b has parity o.answer o.next o.later) ∙ met)

    forward : IsMet l known wanted k some set b → Fits rows lost k some v → Fits new less k some w
    forward met fits = elim (cases_eq (class_number b.class) 0) [
      | inl datum ↦ elim (cases_Bool (known b)) [
        | inl is ↦ ((p.datum_known datum is) k some w).1 (subst (λ (y : ℕ → Bool). Fits rows lost k some y) (same_datum datum) fits)
        | inr off ↦
            ((p.datum_open datum off) k some w in_k (vector-tags l set k some (suc n) in_l)).1 (
              subst (λ (y : ℕ → Bool). Fits rows lost k some y) (same_datum datum) fits,
              ap (differ (some && is_wanted wanted k b')) (sym (datum_value datum) ∙ met off) ∙ ap (λ (x : BlockId). differ (some && is_wanted wanted k x) (some && is_wanted wanted k b)) (as_datum b datum)
                  ∙ differ-self (some && is_wanted wanted k b),
            )
      ]
      | inr other ↦
          (let parity : 1 ≤ class_number b.class = omega arith in
          elim (cases_Bool (known b)) [
            | inl is ↦
                (((p.parity_known parity is) k some (set (equation_at b)) w).0 (subst (λ (y : ℕ → Bool). Fits rows lost k some y) (same_parity parity) fits)).0
            | inr off ↦
                (let o = p.parity_open parity off in
                (o.fits k some w in_k (vector-tags l set k some (suc n) in_l)).0
                (subst (λ (y : ℕ → Bool). Fits rows lost k some y)
                (same_parity parity ∙ ap (with_at w (place_at l b)) (open_value parity o (met off))) fits))
          ])
    ]
      where
        b' : BlockId
        b' = block_of b.node Datum

    backward : (1 ≤ class_number b.class → IsMet l known wanted k some set b) → (1 ≤ class_number b.class → known b ≡ true → meets (row_bit row) v ≡ false) → Fits new less k some w → Fits rows lost k some v
    backward met told fits = elim (cases_eq (class_number b.class) 0) [
      | inl datum ↦ elim (cases_Bool (known b)) [
        | inl is ↦ subst (λ (y : ℕ → Bool). Fits rows lost k some y) (sym (same_datum datum)) (((p.datum_known datum is) k some w).0 fits)
        | inr off ↦
            subst (λ (y : ℕ → Bool). Fits rows lost k some y) (sym (same_datum datum)) (((p.datum_open datum off) k some w in_k (vector-tags l set k some (suc n) in_l)).0 fits).0
      ]
      | inr other ↦
          (let parity : 1 ≤ class_number b.class = omega arith in
          elim (cases_Bool (known b)) [
            | inl is ↦
                subst (λ (y : ℕ → Bool). Fits rows lost k some y) (sym (same_parity parity))
                (((p.parity_known parity is) k some (set (equation_at b)) w).1 (fits, subst (λ (y : ℕ → Bool). meets (row_bit row) y ≡ false) (same_parity parity) (told parity is)))
            | inr off ↦
                (let o = p.parity_open parity off in
                subst (λ (y : ℕ → Bool). Fits rows lost k some y)
                (sym (same_parity parity ∙ ap (with_at w (place_at l b)) (open_value parity o (met parity off))))
                ((o.fits k some w in_k (vector-tags l set k some (suc n) in_l)).1 fits))
          ])
    ]

    -- the datum adds up as it is to
    datum_met : class_number b.class ≡ 0 → Fits new less k some w → IsMet l known wanted k some set b
    datum_met datum fits off =
        let both = ((p.datum_open datum off) k some w in_k (vector-tags l set k some (suc n) in_l)).0 fits in
        datum_value datum ∙ sym (differ-equal (some && is_wanted wanted k (block_of b.node Datum)) (odd_classes l (λ c. w (place_at l (block_of b.node c)))) both.1)
        ∙ ap (λ (x : BlockId). some && is_wanted wanted k x) (as_datum b datum)

  spare_none : 1 ≤ class_number b.class → known b ≡ true → row_bit row (place_at l b) ≡ true → IsSpare l known (equation_at b) → ⊥
  spare_none parity is held spare =
      let set = spare.0 in
      let s = spare.1 in
      let w = vector_at l set 0 false (suc n) in
      let place = place_at l b in
      let few = place_few l b has parity in
      let met : (d : BlockId) → HasBlock l d → number_of l d < n → IsMet l known wanted 0 false set d =
      λ d hd low off. none_added d hd off set s in
      let fits = before.fits set 0 false (omega arith) met in
      let parts = ((p.parity_known parity is) 0 false true w).0
      (subst (λ (y : ℕ → Bool). Fits rows lost 0 false y) (same_parity set 0 false (omega arith) parity ∙ ap (with_at w place) s.contains) fits) in
      let late : (x : BlockId) → HasBlock l x → 1 ≤ class_number x.class → suc n ≤ number_of l x → set (equation_at x) ≡ false =
      λ x hx px past. later_none x hx px past set s in
      let zero' : (t : ℕ) → t < 256 → w t ≡ false =
      λ t in_t. elim (cases_lt t 192) [
        | inl low ↦ vector-none l set 0 false (suc n) in_l late t low
        | inr high ↦
            (let tags = vector-tags l set 0 false (suc n) in_l in
            let j : t ≡ 192 + (t - 192) = omega arith in
            elim (cases_eq t 192) [
              | inl e ↦ ap w (let g : t ≡ 192 + 0 = omega arith in g) ∙ tags.own
              | inr m ↦ ap w j ∙ tags.others (t - 192) (omega arith) (ne_eqb (t - 192) 0 (λ h. omega arith))
            ])
      ] in
      let even : meets (row_bit row) w ≡ false = none-right (row_bit row) w zero' in
      let here : w place ≡ false = zero' place (omega arith) in
      let odd : meets (row_bit row) (with_at w place true) ≡ true =
      with-as (row_bit row) w place true (omega arith)
      ∙ ap (λ x. differ x (row_bit row place && differ (w place) true)) even
      ∙ ap (λ x. x && differ (w place) true) held
      ∙ ap (λ x. differ x true) here in
      true≢false (sym odd ∙ parts.1)
    where
      none_added : (d : BlockId) → HasBlock l d → known d ≡ false → (set : EqId → Bool) → IsSpareIn l known set (equation_at b) → adds_up_to l set d ≡ (false && is_wanted wanted 0 d)
      none_added d hd off set s = elim (cases_Bool (adds_up_to l set d)) [
        | inl yes' ↦ absurd (true≢false (sym (s.only_known d hd yes') ∙ off))
        | inr no' ↦ no'
      ]

      later_none : (x : BlockId) → HasBlock l x → 1 ≤ class_number x.class → suc n ≤ number_of l x → (set : EqId → Bool) → IsSpareIn l known set (equation_at b) → set (equation_at x) ≡ false
      later_none x hx px past set s = elim (cases_Bool (set (equation_at x))) [
        | inl yes' ↦
            (let most : output_number l (equation_at x) ≤ output_number l (equation_at b) =
            s.greatest (equation_at x) (record { node = record { first = hx.first; last = hx.last }; class = record { parity = px; used = hx.used } }) yes' in
            absurd (omega arith))
        | inr no' ↦ no'
      ]

  spare_open : 1 ≤ class_number b.class → known b ≡ false → IsSpare l known (equation_at b) → ⊥
  spare_open parity off spare =
      let set = spare.0 in
      let s = spare.1 in
      let o = p.parity_open parity off in
      true≢false
      (sym (s.only_known b has (at_parity l set b has parity o.answer o.next o.later ∙ ap (λ x. differ x (goes_on set b.class o.answer)) s.contains ∙ ap not (ends set s o.answer o.next o.later))) ∙ off)
    where
      number_later : (e : BlockId) → HasBlock l e → b.node < e.node → number_of l b < number_of l e
      number_later e he low = number_before l b e has he low

      ends : (set : EqId → Bool) → IsSpareIn l known set (equation_at b) → (answer : Option ℕ) → IsNext l b.class b.node answer → ((j : ℕ) → answer ≡ Some j → b.node < j) → goes_on set b.class answer ≡ false
      ends set s None next later = refl
      ends set s (Some j) next later =
          let found = (next j).0 refl in
          let more = later j refl in
          let first = has.first in
          let e = block_of j b.class in
          let he : HasBlock l e = record { first = omega arith; last = found.0; used = has.used } in
          let high = number_later e he more in
          elim (cases_Bool (set (equation_at e))) [
            | inl yes' ↦
                (let most : output_number l (equation_at e) ≤ output_number l (equation_at b) =
                s.greatest (equation_at e) (record { node = record { first = he.first; last = he.last }; class = record { parity = parity; used = has.used } }) yes' in
                absurd (omega arith))
            | inr no' ↦ no'
          ]

  pub passed_more : ArePassed l known wanted (suc n) all new less
  passed_more = record {
    fits = λ set k some in_k met. forward set k some in_k (met b has (omega arith)) (before.fits set k some in_k (λ d hd low. met d hd (omega arith)));
    adds = λ set k in_k met told fits.
        let old = backward set k true in_k (λ parity. met b has (omega arith) parity)
        (λ parity is. ap (λ (x : Row). meets (row_bit x) (vector_at l set k true n)) (sym (own parity)) ∙ told b has (omega arith) parity is) fits in
        λ d hd low datum. elim (or_own d hd low) [
          | inl less_n ↦
              before.adds set k in_k (λ x hx x_low parity. met x hx (omega arith) parity)
              (λ x hx x_low parity is. ap (λ (y : Row). meets (row_bit y) (vector_at l set k true (number_of l x))) (sym (earlier x hx parity x_low)) ∙ told x hx (omega arith) parity is)
              old d hd less_n datum
          | inr here ↦ subst (λ (x : BlockId). IsMet l known wanted k true set x) (sym here)
              (datum_met set k true in_k (ap (λ (x : BlockId). class_number x.class) (sym here) ∙ datum) fits)
        ];
    not_spare = λ d hd low parity held. elim (or_own d hd low) [
      | inl less_n ↦ before.not_spare d hd less_n parity (λ is. ap (λ (x : Row). row_bit x (place_at l d)) (sym (earlier d hd parity less_n)) ∙ held is)
      | inr here ↦
          (let e : class_number d.class ≡ class_number b.class = ap (λ (x : BlockId). class_number x.class) here in
          subst (λ (x : BlockId). IsSpare l known (equation_at x) → ⊥) (sym here)
          (elim (cases_Bool (known b)) [
            | inl is ↦
                spare_none (omega arith) is
                (ap (λ (x : Row). row_bit x (place_at l b)) (sym (own (omega arith))) ∙ ap (λ (x : BlockId). row_bit (record_at l all x) (place_at l x)) (sym here) ∙ held (ap known here ∙ is))
            | inr off ↦ spare_open (omega arith) off
          ]))
    ];
    kind = λ d hd low parity is. elim (or_own d hd low) [
      | inl less_n ↦ subst (λ (x : Row). IsTaken l d x) (sym (earlier d hd parity less_n)) (before.kind d hd less_n parity is)
      | inr here ↦
          (let e : class_number d.class ≡ class_number b.class = ap (λ (x : BlockId). class_number x.class) here in
          subst (λ (x : BlockId). IsTaken l x (record_at l all x)) (sym here)
          (subst (λ (x : Row). IsTaken l b x) (sym (own (omega arith))) (p.kind (omega arith) (ap known (sym here) ∙ is))))
    ];
  }

-- the row of a parity is put at its place, and the rows of earlier parities stay
pub recorded_own : (l : Lattice) (b : BlockId) → HasBlock l b → (records : List Row) (row : Row) → length records ≡ parities_count l → 1 ≤ class_number b.class
    → record_at l (slice_set records (parity_number l b) row) b ≡ row
recorded_own l b has records row long parity = get_or-set_same records (parity_number l b) row no_row (let h = parity_below l b has parity in omega arith)

pub recorded_earlier : (l : Lattice) (b : BlockId) → HasBlock l b → (records : List Row) (row : Row) → 1 ≤ class_number b.class
    → (d : BlockId) → HasBlock l d → 1 ≤ class_number d.class → number_of l d < number_of l b
    → record_at l (slice_set records (parity_number l b) row) d ≡ record_at l records d
recorded_earlier l b has records row parity d hd pd low =
    get_or-set_other records (parity_number l b) (parity_number l d) row no_row (λ e. (let h = parity_before l d b hd has pd parity low in omega arith))
