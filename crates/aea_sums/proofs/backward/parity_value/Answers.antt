use Rattle.std.proofs.Common.{◌≡◌, inl, inr, ℕ, List, get_or, sym, ◌∙◌, ap, subst, arith}
use Rattle.std.specs.Prelude.{slice_set}
use Rattle.std.proofs.lemmas.Bool.{true≢false}
use Rattle.aea_lattice.specs.declared.blocks.BlockId.{BlockId}
use Rattle.aea_lattice.specs.declared.grid.Lattice.{Lattice}
use Rattle.aea_sums.specs.declared.row.Row.{Row}
use Rattle.aea_sums.specs.Rows.{row_bit, no_row, meets}
use Rattle.aea_sums.specs.Places.{place_at}
use Rattle.aea_sums.specs.Vectors.{parity_number, record_at, IsTaken}
use Rattle.aea_sums.specs.Backs.{column}
use Rattle.aea_sums.proofs.backward.parity_value.Goals as goal

at_record : (l : Lattice) (records : List Row) (b : BlockId) (k : ℕ) → k ≡ parity_number l b → record_at l records b ≡ get_or records k no_row
at_record l records b k is = ap (λ (x : ℕ). get_or records x no_row) (sym is)

pub known_value-requires-clause-narrow : goal.known_value-requires-clause-narrow
known_value-requires-clause-narrow c =
    let l = c.args.lattice.now in
    let at = at_record l c.args.records.now c.args.b c.parity_number-k.result c.parity_number-k.ensures.number in
    let taken = subst (λ (x : Row). IsTaken l c.args.b x) at (c.requires.taken (sym c.get.ensures ∙ c.if-get.true)) in
    λ t past few. taken.narrow t (let e = c.requires.long in omega arith) few

pub known_value-requires-clause-kind : goal.known_value-requires-clause-kind
known_value-requires-clause-kind c =
    let l = c.args.lattice.now in
    let at = at_record l c.args.records.now c.args.b c.parity_number-k.result c.parity_number-k.ensures.number in
    let taken = subst (λ (x : Row). IsTaken l c.args.b x) at (c.requires.taken (sym c.get.ensures ∙ c.if-get.true)) in
    elim taken.has [ inl has ↦ inl (ap (λ (p : ℕ). row_bit (get_or c.args.records.now c.parity_number-k.result no_row) p) c.place.ensures.place ∙ has) | inr none ↦ inr none ]

pub returns-then-get-clause-known : goal.returns-then-get-clause-known
returns-then-get-clause-known c is =
    let l = c.args.lattice.now in
    let value = c.known_value.result in
    let at = at_record l c.args.records.now c.args.b c.parity_number-k.result c.parity_number-k.ensures.number in
    record {
      told = λ k fits.
          ap (λ (x : Row). meets (row_bit x) (column (slice_set c.args.words.now (place_at l c.args.b) value) k)) at
          ∙ ap (λ (p : ℕ). meets (row_bit (get_or c.args.records.now c.parity_number-k.result no_row)) (column (slice_set c.args.words.now p value) k)) (sym c.place.ensures.place)
          ∙ c.known_value.ensures.told k fits;
      has = λ k yes'.
          ap (λ (x : Row). row_bit x (place_at l c.args.b)) at ∙ ap (λ (p : ℕ). row_bit (get_or c.args.records.now c.parity_number-k.result no_row) p) (sym c.place.ensures.place) ∙ c.known_value.ensures.has k yes';
    }

pub returns-then-get-clause-lost : goal.returns-then-get-clause-lost
returns-then-get-clause-lost c off wanted are = absurd (true≢false (sym c.if-get.true ∙ c.get.ensures ∙ off))

pub returns-clause-known : goal.returns-clause-known
returns-clause-known c is = absurd (true≢false (sym is ∙ sym c.get.ensures ∙ c.if-get.false))

pub returns-clause-lost : goal.returns-clause-lost
returns-clause-lost c off wanted are = c.open_value.ensures wanted are
