use Rattle.std.proofs.Common.{◌≡◌, ℕ, List, ◌≤◌, ◌⊎◌, length, inl, inr, ◌++◌, ◌+◌, suc, ◌-◌, take, drop, sym, ◌∙◌, ap, subst, arith}
use Rattle.std.proofs.lemmas.List.{take_rest}
use Rattle.aea_sweep.specs.Words.{has_odd, RiseWithin}
use Rattle.aea_sweep.proofs.Merging.{merged-first, merged-second, merged-both, merged-sum, merged-rises}
use Rattle.aea_sweep.proofs.word.add_lists.Goals.{then-merge-test+else-b-second, else-merge-test}
use Rattle.aea_sweep.proofs.word.add_lists.Goals as goal

pub merge-preserved-then-x-y : goal.merge-preserved-then-x-y
merge-preserved-then-x-y c =
    let more : c.merge.a + 1 ≡ suc c.merge.a = omega arith in
    rw (c.in_ok-push.ensures, more) (merged-first c.args.first.now c.args.second.now c.merge.sum c.merge.a c.merge.b c.merge.invariant c.merge-test.true c.if-b-second.true c.if-x-y.true)

pub merge-preserved-then-y-x : goal.merge-preserved-then-y-x
merge-preserved-then-y-x c =
    let more : c.merge.b + 1 ≡ suc c.merge.b = omega arith in
    rw (c.in_ok-push-2.ensures, more) (merged-second c.args.first.now c.args.second.now c.merge.sum c.merge.a c.merge.b c.merge.invariant c.merge-test.true c.if-b-second.true c.if-y-x.true)

pub merge-preserved : goal.merge-preserved
merge-preserved c =
    let more : c.merge.a + 1 ≡ suc c.merge.a = omega arith in
    let further : c.merge.b + 1 ≡ suc c.merge.b = omega arith in
    rw (more, further) (merged-both c.args.first.now c.args.second.now c.merge.sum c.merge.a c.merge.b c.merge.invariant c.merge-test.true c.if-b-second.true (let g = c.if-x-y.false in let h = c.if-y-x.false in omega arith))

-- what the word is in the end
ends_in : (sum first second middle new : List ℕ) (a b : ℕ) → middle ≡ sum ++ take (length first - a) (drop a first)
    → new ≡ middle ++ take (length second - b) (drop b second) → new ≡ (sum ++ drop a first) ++ drop b second
ends_in sum first second middle new a b was is =
    is
    ∙ ap (λ (xs : List ℕ). middle ++ xs) (take_rest second b)
    ∙ ap (λ (xs : List ℕ). xs ++ drop b second) (was ∙ ap (λ (xs : List ℕ). sum ++ xs) (take_rest first a))

pub returns-clause-sum : goal.returns-clause-sum
returns-clause-sum c i =
    let is = ends_in c.merge.sum c.args.first.now c.args.second.now c.push_all.new.self c.push_all-2.new.self c.merge.a c.merge.b c.in_ok-push_all.ensures c.in_ok-push_all-2.ensures in
    ap (λ xs. has_odd xs i) is
    ∙ merged-sum c.args.first.now c.args.second.now c.merge.sum c.merge.a c.merge.b c.merge.invariant i

pub returns-clause-rises : goal.returns-clause-rises
returns-clause-rises c top f s =
    let ended : (length c.args.first.now ≤ c.merge.a) ⊎ (length c.args.second.now ≤ c.merge.b) = elim c.merge-test.branch [
      | then-merge-test+else-b-second w ↦ inr w.if-b-second.false
      | else-merge-test w ↦ inl w.merge-test.false
    ] in
    let is = ends_in c.merge.sum c.args.first.now c.args.second.now c.push_all.new.self c.push_all-2.new.self c.merge.a c.merge.b c.in_ok-push_all.ensures c.in_ok-push_all-2.ensures in
    subst (λ xs. RiseWithin 1 xs top) (sym is)
    (merged-rises c.args.first.now c.args.second.now c.merge.sum c.merge.a c.merge.b c.merge.invariant ended top f s)
