use Rattle.std.proofs.Common.{◌≡◌, ◌+◌, ℕ, List, ◌&&◌, sym, ◌∙◌, subst, arith}
use Rattle.std.specs.Prelude.{nat_lt}
use Rattle.aea_sweep.specs.declared.heads.Heads.{Heads}
use Rattle.aea_sweep.specs.Heads.{head_in}
use Rattle.aea_sweep.specs.Tables.{AddsRow}
use Rattle.aea_sweep.proofs.Rows.{adds-more, adds-same, one_more, none_more, head_kept, self_out}
use Rattle.aea_sweep.proofs.table.spread.Goals.{then-has+in_ok-add_row, else-has}
use Rattle.aea_sweep.proofs.table.spread.Goals as goal

pub loop-r-preserved : goal.loop-r-preserved
loop-r-preserved c =
    let spare = c.args.spare in
    let place = c.args.place in
    let r = c.loop-r.r in
    let words = c.args.words.now.items in
    let heads = c.args.heads.now in
    let before = c.loop-r.invariant in
    let kept = head_kept spare r place words c.loop-r.words.items heads c.loop-r.heads c.requires.place before in
    let goal_at : List (List ℕ) → List Heads → Type 0 = λ w h. AddsRow spare (λ q. nat_lt q (r + 1) && head_in heads q place) words w heads h in
    elim c.if-has.branch [
      | then-has+in_ok-add_row w ↦
          let same : w.add_row.new.words.items ≡ c.if-has.words.items = (let e = w.words-is in cc) in
          subst (λ (x : List (List ℕ)). goal_at x c.if-has.heads) same
          (subst (λ (h : List Heads). goal_at w.add_row.new.words.items h) (sym w.heads-is)
          (adds-more spare r (λ q. nat_lt q r && head_in heads q place) (λ q. nat_lt q (r + 1) && head_in heads q place) words c.loop-r.words.items w.add_row.new.words.items
          heads c.loop-r.heads w.add_row.new.heads (self_out (λ q. head_in heads q place) spare r (let h = c.loop-r-test.true in omega arith))
          (one_more (λ q. head_in heads q place) r (sym kept ∙ sym c.has.ensures ∙ w.if-has.true))
          before w.in_ok-add_row.ensures))
      | else-has w ↦
          let same : c.loop-r.words.items ≡ c.if-has.words.items = (let e = w.words-is in cc) in
          subst (λ (x : List (List ℕ)). goal_at x c.if-has.heads) same
          (subst (λ (h : List Heads). goal_at c.loop-r.words.items h) (sym w.heads-is)
          (adds-same spare (λ q. nat_lt q r && head_in heads q place) (λ q. nat_lt q (r + 1) && head_in heads q place) words c.loop-r.words.items heads c.loop-r.heads
          (none_more (λ q. head_in heads q place) r (sym kept ∙ sym c.has.ensures ∙ w.if-has.false))
          before))
    ]

pub returns : goal.returns
returns c =
    let e : c.loop-r.r ≡ c.args.spare = (let h = c.loop-r-test.false in let g = c.loop-r.auto.r-end in omega arith) in
    subst (λ (n : ℕ). AddsRow c.args.spare (λ q. nat_lt q n && head_in c.args.heads.now q c.args.place) c.args.words.now.items c.loop-r.words.items c.args.heads.now c.loop-r.heads) e c.loop-r.invariant
