use Rattle.std.proofs.Common.{◌≡◌, ◌+◌, ℕ, suc, List, length, get_or, refl, sym, ◌∙◌, ap, subst, arith}
use Rattle.std.specs.Prelude.{slice_set}
use Rattle.std.proofs.Math.ListN.{length-set}
use Rattle.aea_lattice.specs.Blocks.{blocks_count, number_of}
use Rattle.aea_view.specs.Bits.{has_bit}
use Rattle.aea_view.specs.Marked.{is_marked}
use Rattle.aea_sums.specs.declared.row.Row.{Row}
use Rattle.aea_sums.specs.Vectors.{parity_number, ArePassed}
use Rattle.aea_sums.proofs.Places.{few_places}
use Rattle.aea_sums.proofs.Stepping.{passed_more, recorded_own, recorded_earlier}
use Rattle.aea_sums.proofs.Opening.{zero-class, some-class}
use Rattle.aea_sums.proofs.Ending.{none_passed, empty-slots, all_passed}
use Rattle.aea_sums.proofs.forward.pass_all.Goals.{then-not-is_datum, else-not-is_datum}
use Rattle.aea_sums.proofs.forward.pass_all.Goals as goal

pub loop-k-init : goal.loop-k-init
loop-k-init c =
    let l = c.args.lattice.now in
    let few = few_places l in
    let long = c.clear.ensures.long ∙ c.requires.long in
    record {
      long = long;
      slots = empty-slots c.clear.new.rows (omega arith) c.clear.ensures.empty;
      count = c.requires.records;
      passed = λ wanted has. none_passed l (is_marked c.args.known.now) wanted c.args.records.now c.clear.new.rows c.clear.ensures.empty;
    }

pub loop-k-preserved : goal.loop-k-preserved
loop-k-preserved c =
    let l = c.args.lattice.now in
    let known = is_marked c.args.known.now in
    let b = c.block-b.result in
    let k = c.loop-k.k in
    let records = c.loop-k.records in
    let number : number_of l b ≡ k = c.block-b.ensures.number in
    let has = c.block-b.ensures.block in
    let row = c.pass_block-passed.result.row in
    let was = c.loop-k.invariant.count in
    let next : suc (number_of l b) ≡ k + 1 = omega arith in
    elim c.if-not-is_datum.branch [
      | then-not-is_datum w ↦
          (let off = some-class b (sym c.is_datum.ensures ∙ w.if-not-is_datum.true) in
          let put = w.records-is ∙ ap (λ (m : ℕ). slice_set records m row) w.parity_number.ensures.number in
          record {
            long = c.pass_block-passed.ensures.long ∙ c.loop-k.invariant.long;
            slots = c.pass_block-passed.ensures.slots;
            count = ap length put ∙ length-set records (parity_number l b) row ∙ was;
            passed = λ wanted tagged.
                subst (λ (xs : List Row). ArePassed l known wanted (k + 1) xs c.pass_block-passed.new.rows c.pass_block-passed.result.lost) (sym put)
                (subst (λ (m : ℕ). ArePassed l known wanted m (slice_set records (parity_number l b) row) c.pass_block-passed.new.rows c.pass_block-passed.result.lost) next
                (passed_more l known wanted b has records (slice_set records (parity_number l b) row) c.loop-k.rows c.pass_block-passed.new.rows row c.loop-k.lost c.pass_block-passed.result.lost
                (recorded_own l b has records row was) (recorded_earlier l b has records row off)
                (c.pass_block-passed.ensures.passes wanted (λ j fits. ap (λ (x : ℕ). has_bit (get_or c.args.tags.now x 0) j) (sym number) ∙ tagged b has j fits))
                (subst (λ (m : ℕ). ArePassed l known wanted m records c.loop-k.rows c.loop-k.lost) (sym number) (c.loop-k.invariant.passed wanted tagged))));
          })
      | else-not-is_datum w ↦
          (let zero' = zero-class b (sym c.is_datum.ensures ∙ w.if-not-is_datum.false) in
          record {
            long = c.pass_block-passed.ensures.long ∙ c.loop-k.invariant.long;
            slots = c.pass_block-passed.ensures.slots;
            count = ap length w.records-is ∙ was;
            passed = λ wanted tagged.
                subst (λ (xs : List Row). ArePassed l known wanted (k + 1) xs c.pass_block-passed.new.rows c.pass_block-passed.result.lost) (sym w.records-is)
                (subst (λ (m : ℕ). ArePassed l known wanted m records c.pass_block-passed.new.rows c.pass_block-passed.result.lost) next
                (passed_more l known wanted b has records records c.loop-k.rows c.pass_block-passed.new.rows row c.loop-k.lost c.pass_block-passed.result.lost
                (λ parity. absurd (omega arith)) (λ d hd pd low. refl)
                (c.pass_block-passed.ensures.passes wanted (λ j fits. ap (λ (x : ℕ). has_bit (get_or c.args.tags.now x 0) j) (sym number) ∙ tagged b has j fits))
                (subst (λ (m : ℕ). ArePassed l known wanted m records c.loop-k.rows c.loop-k.lost) (sym number) (c.loop-k.invariant.passed wanted tagged))));
          })
    ]

pub returns-clause-records : goal.returns-clause-records
returns-clause-records c wanted has =
    let l = c.args.lattice.now in
    let known = is_marked c.args.known.now in
    let end : c.loop-k.k ≡ blocks_count l = (let h = c.loop-k-test.false in let g = c.loop-k.auto.k-end in let e = c.blocks-k-end.ensures.count in omega arith) in
    all_passed l known wanted c.loop-k.records c.loop-k.rows c.loop-k.lost c.end_all.result c.loop-k.invariant.count
    (subst (λ (m : ℕ). ArePassed l known wanted m c.loop-k.records c.loop-k.rows c.loop-k.lost) end (c.loop-k.invariant.passed wanted has))
    c.end_all.ensures.ends
