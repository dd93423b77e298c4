use Rattle.std.proofs.Common.{◌≢◌, ◌<◌, ◌≤◌, ℕ, inl, inr, not, ◌&&◌, ◌==◌, sym, ◌∙◌, ap, arith, length, get_or}
use Rattle.std.specs.Prelude.{slice_set}
use Rattle.std.proofs.Math.ListN.{length-set, get_or-eq_default}
use Rattle.std.proofs.lemmas.Bool.{cases_eq, cases_lt}
use Rattle.std.proofs.lemmas.List.{get_or-set_same, get_or-set_other}
use Rattle.aea_sweep.proofs.Rows.{none_there}
use Rattle.aea_sweep.specs.declared.heads.Heads.{Heads}
use Rattle.aea_sweep.specs.Heads.{has_head, no_heads, head_in}
use Rattle.aea_sweep.proofs.table.forget.Goals as goal

pub loop-r-preserved : goal.loop-r-preserved
loop-r-preserved c =
    let heads = c.loop-r.heads in
    let r = c.loop-r.r in
    let g = c.without.result in
    let inside : r < length heads = (let h = c.loop-r-test.true in let e = c.loop-r.invariant.long in omega arith) in
    record {
      long = length-set heads r g ∙ c.loop-r.invariant.long;
      done = λ q t less fits. elim (cases_eq q r) [
        | inl e ↦
            ap (λ (x : Heads). has_head x t) (ap (λ (k : ℕ). get_or (slice_set heads r g) k no_heads) e ∙ get_or-set_same heads r g no_heads inside)
            ∙ c.without.ensures t fits
            ∙ ap (λ b. b && not (t == c.args.place)) (c.loop-r.invariant.rest r t (omega arith))
            ∙ ap (λ (k : ℕ). head_in c.args.heads.now k t && not (t == c.args.place)) (sym e)
        | inr n ↦ ap (λ (x : Heads). has_head x t) (get_or-set_other heads r q g no_heads n) ∙ c.loop-r.invariant.done q t (omega arith) fits
      ];
      rest = λ q t more.
          let n : q ≢ r = omega arith in
          ap (λ (x : Heads). has_head x t) (get_or-set_other heads r q g no_heads n) ∙ c.loop-r.invariant.rest q t (omega arith);
    }

pub returns : goal.returns
returns c = record {
  long = c.loop-r.invariant.long;
  heads_are = λ q t fits. elim (cases_lt q c.loop-r.r) [
    | inl less ↦ c.loop-r.invariant.done q t less fits
    | inr more ↦
        (let long = c.loop-r.invariant.long in
        let h = c.loop-r-test.false in
        let past : length c.args.heads.now ≤ q = omega arith in
        let past_new : length c.loop-r.heads ≤ q = omega arith in
        ap (λ (x : Heads). has_head x t) (get_or-eq_default c.loop-r.heads no_heads past_new)
        ∙ none_there t (not (t == c.args.place))
        ∙ ap (λ (x : Heads). has_head x t && not (t == c.args.place)) (sym (get_or-eq_default c.args.heads.now no_heads past)))
  ];
}
