use Rattle.std.proofs.Common.{◌≡◌, ◌+◌, ◌-◌, ℕ, suc, List, length, get_or, refl, sym, ◌∙◌, ap, subst, arith}
use Rattle.std.specs.Prelude.{slice_set}
use Rattle.std.proofs.Math.ListN.{length-set}
use Rattle.std.proofs.lemmas.List.{get_or-set_other}
use Rattle.aea_lattice.specs.Blocks.{number_of, blocks_count}
use Rattle.aea_view.specs.Bits.{has_bit}
use Rattle.aea_view.specs.Marked.{is_marked}
use Rattle.aea_sums.specs.Backs.{AreBack}
use Rattle.aea_sums.proofs.Opening.{zero-class, some-class}
use Rattle.aea_sums.proofs.Backing.{back_begun, back_datum, back_parity}
use Rattle.aea_sums.proofs.backward.back_all.Goals.{then-not-is_datum, else-not-is_datum}
use Rattle.aea_sums.proofs.backward.back_all.Goals as goal

pub loop-at-init : goal.loop-at-init
loop-at-init c =
    let l = c.args.lattice.now in
    let e : blocks_count l ≡ blocks_count l - 0 = omega arith in
    record {
      long = c.clear_words.ensures.long;
      table_long = refl;
      rest = λ q less. refl;
      back = λ wanted has.
          subst (λ (n : ℕ). AreBack l (is_marked c.args.known.now) wanted c.args.records.now c.args.table.now c.clear_words.new.words n) e
          (back_begun l (is_marked c.args.known.now) wanted c.args.records.now c.args.table.now c.clear_words.new.words
          (c.clear_words.ensures.long ∙ c.requires.long) c.requires.table c.clear_words.ensures.none);
    }

pub loop-at-preserved : goal.loop-at-preserved
loop-at-preserved c =
    let l = c.args.lattice.now in
    let known = is_marked c.args.known.now in
    let records = c.args.records.now in
    let b = c.block-b.result in
    let at = c.loop-at.at in
    let number = c.block-b.ensures.number in
    let count = c.blocks-at-end.ensures.count in
    let count2 = c.blocks-in-loop-at.ensures.count in
    let less = c.loop-at-test.true in
    let was : blocks_count l - at ≡ suc (number_of l b) = omega arith in
    let now' : number_of l b ≡ blocks_count l - (at + 1) = omega arith in
    let inv = c.loop-at.invariant in
    elim c.if-not-is_datum.branch [
      | then-not-is_datum w ↦
          (let off = some-class b (sym c.is_datum.ensures ∙ w.if-not-is_datum.true) in
          let value = w.parity_value-sums.result in
          let here = ap (λ (m : ℕ). get_or c.loop-at.table m 0) (sym number) ∙ inv.rest (number_of l b) (omega arith) in
          record {
            long = ap length w.words-is ∙ length-set c.loop-at.words w.place.result value ∙ inv.long;
            table_long = ap length w.table-is ∙ length-set c.loop-at.table (c.blocks-in-loop-at.result - 1 - at) value ∙ inv.table_long;
            rest = λ q below.
                ap (λ (xs : List ℕ). get_or xs q 0) (w.table-is ∙ ap (λ (m : ℕ). slice_set c.loop-at.table m value) (sym number))
                ∙ get_or-set_other c.loop-at.table (number_of l b) q value 0 (λ e. omega arith) ∙ inv.rest q (omega arith);
            back = λ wanted has.
                let before = subst (λ (n : ℕ). AreBack l known wanted records c.loop-at.table c.loop-at.words n) was (inv.back wanted has) in
                subst (λ (n : ℕ). AreBack l known wanted records c.if-not-is_datum.table c.if-not-is_datum.words n) now'
                (subst (λ (xs : List ℕ). AreBack l known wanted records xs c.if-not-is_datum.words (number_of l b)) (sym (w.table-is ∙ ap (λ (m : ℕ). slice_set c.loop-at.table m value) (sym number)))
                (subst (λ (xs : List ℕ). AreBack l known wanted records (slice_set c.loop-at.table (number_of l b) value) xs (number_of l b)) (sym (w.words-is ∙ ap (λ (m : ℕ). slice_set c.loop-at.words m value) w.place.ensures.place))
                (back_parity l known wanted records c.loop-at.table c.loop-at.words b value c.block-b.ensures.block off w.parity_value-sums.ensures.known
                (λ unknown. w.parity_value-sums.ensures.lost unknown wanted (λ j fits. ap (λ (x : ℕ). has_bit x j) here ∙ has b c.block-b.ensures.block j fits)) before)));
          })
      | else-not-is_datum w ↦
          (let zero' = zero-class b (sym c.is_datum.ensures ∙ w.if-not-is_datum.false) in
          record {
            long = ap length w.words-is ∙ inv.long;
            table_long = ap length w.table-is ∙ inv.table_long;
            rest = λ q below. ap (λ (xs : List ℕ). get_or xs q 0) w.table-is ∙ inv.rest q (omega arith);
            back = λ wanted has.
                let before = subst (λ (n : ℕ). AreBack l known wanted records c.loop-at.table c.loop-at.words n) was (inv.back wanted has) in
                subst (λ (n : ℕ). AreBack l known wanted records c.if-not-is_datum.table c.if-not-is_datum.words n) now'
                (subst (λ (xs : List ℕ). AreBack l known wanted records xs c.if-not-is_datum.words (number_of l b)) (sym w.table-is)
                (subst (λ (xs : List ℕ). AreBack l known wanted records c.loop-at.table xs (number_of l b)) (sym w.words-is)
                (back_datum l known wanted records c.loop-at.table c.loop-at.words b c.block-b.ensures.block zero' before)));
          })
    ]

pub parity_value-sums-requires-clause-taken : goal.parity_value-sums-requires-clause-taken
parity_value-sums-requires-clause-taken c is =
    c.requires.taken c.block-b.result c.block-b.ensures.block (some-class c.block-b.result (sym c.is_datum.ensures ∙ c.if-not-is_datum.true)) is

pub returns-clause-back : goal.returns-clause-back
returns-clause-back c wanted has =
    let l = c.args.lattice.now in
    let end : blocks_count l - c.loop-at.at ≡ 0 = (let h = c.loop-at-test.false in let e = c.blocks-at-end.ensures.count in omega arith) in (
      c.loop-at.words,
      subst (λ (n : ℕ). AreBack l (is_marked c.args.known.now) wanted c.args.records.now c.loop-at.table c.loop-at.words n) end (c.loop-at.invariant.back wanted has),
    )
