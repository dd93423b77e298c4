use Rattle.std.proofs.Common.{◌≡◌, ◌+◌, ◌-◌, ◌++◌, ℕ, List, sym, ◌∙◌, ap, subst, arith}
use Rattle.std.proofs.lemmas.List.{append-nil}
use Rattle.aea_view.specs.Marked.{is_marked}
use Rattle.aea_sweep.specs.declared.heads.Heads.{Heads}
use Rattle.aea_sweep.specs.States.{AreSwept}
use Rattle.aea_sweep.proofs.Whole.{begin_swept, end_swept}
use Rattle.aea_sweep.proofs.sweep.sweep.Goals as goal

pub loop-k-init : goal.loop-k-init
loop-k-init c =
    let places = c.places-spare.ensures.places in
    let few = c.places-spare.ensures.few in
    let rows = c.in_ok-words.ensures.long in
    let slots = c.in_ok-heads.ensures.long in
    let begun =
    begin_swept c.args.lattice.now (is_marked c.args.known.now) c.in_ok-words.words.items c.in_ok-heads.heads.items (omega arith) (omega arith)
    c.in_ok-words.ensures.empty c.in_ok-heads.ensures.empty in
    let same : c.in_ok-words.words.items ≡ c.in_ok-words.words.items ++ c.in_ok-closed.closed =
    sym (ap (λ (xs : List (List ℕ)). c.in_ok-words.words.items ++ xs) c.in_ok-closed.ensures ∙ append-nil c.in_ok-words.words.items) in
    record {
      sized = record { heads_long = omega arith; words_long = omega arith; few = few };
      swept =
          subst (λ (xs : List (List ℕ)). AreSwept c.args.lattice.now (is_marked c.args.known.now) 0 c.args.lattice.now.alpha xs c.in_ok-heads.heads.items) same begun;
    }

pub go_over-requires-clause-swept : goal.go_over-requires-clause-swept
go_over-requires-clause-swept c =
    let same : c.loop-k.k ≡ c.loop-k.k + 1 - 1 = omega arith in
    subst (λ (k : ℕ). AreSwept c.args.lattice.now (is_marked c.args.known.now) k c.args.lattice.now.alpha (c.loop-k.words.items ++ c.loop-k.closed) c.as_mut_slice.result.now) same
    (subst (λ (h : List Heads). AreSwept c.args.lattice.now (is_marked c.args.known.now) c.loop-k.k c.args.lattice.now.alpha (c.loop-k.words.items ++ c.loop-k.closed) h)
    (sym c.as_mut_slice.ensures.value) c.loop-k.invariant.swept)

pub returns : goal.returns
returns c =
    let end : c.loop-k.k ≡ c.args.lattice.now.n = (let h = c.loop-k-test.false in let g = c.loop-k.auto.k-end in let e = c.n-k-end.ensures in omega arith) in
    let swept =
    subst (λ (k : ℕ). AreSwept c.args.lattice.now (is_marked c.args.known.now) k c.args.lattice.now.alpha (c.loop-k.words.items ++ c.loop-k.closed) c.loop-k.heads.items) end
    c.loop-k.invariant.swept in
    let places = c.places-spare.ensures.places in
    end_swept c.args.lattice.now (is_marked c.args.known.now) c.loop-k.words.items c.loop-k.closed c.loop-k.heads.items
    (let a = c.loop-k.invariant.sized.heads_long in let b = c.loop-k.invariant.sized.words_long in omega arith) swept
