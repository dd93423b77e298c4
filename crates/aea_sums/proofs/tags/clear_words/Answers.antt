use Rattle.std.proofs.Common.{◌<◌, ℕ, inl, inr, length, get_or, ◌∙◌, ap, arith}
use Rattle.std.specs.Prelude.{slice_set}
use Rattle.std.proofs.Math.ListN.{length-set, get_or-eq_default}
use Rattle.std.proofs.lemmas.Bool.{cases_eq, cases_lt}
use Rattle.std.proofs.lemmas.List.{get_or-set_same, get_or-set_other}
use Rattle.aea_sums.proofs.tags.clear_words.Goals as goal

pub loop-t-preserved : goal.loop-t-preserved
loop-t-preserved c =
    let words = c.loop-t.words in
    let t = c.loop-t.t in
    let inside : t < length words = (let h = c.loop-t-test.true in let e = c.loop-t.invariant.long in omega arith) in
    record {
      long = length-set words t 0 ∙ c.loop-t.invariant.long;
      none = λ q less. elim (cases_eq q t) [
        | inl e ↦ ap (λ (x : ℕ). get_or (slice_set words t 0) x 0) e ∙ get_or-set_same words t 0 0 inside
        | inr n ↦ get_or-set_other words t q 0 0 n ∙ c.loop-t.invariant.none q (omega arith)
      ];
    }

pub returns-clause-none : goal.returns-clause-none
returns-clause-none c q = elim (cases_lt q c.loop-t.t) [
  | inl less ↦ c.loop-t.invariant.none q less
  | inr past ↦ get_or-eq_default c.loop-t.words 0 (let h = c.loop-t-test.false in let e = c.loop-t.invariant.long in omega arith)
]
