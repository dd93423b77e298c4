use Rattle.std.proofs.Common.{◌≡◌, ◌<◌, Bool, true, false, ◌||◌, All, get_or, subst, refl, sym, ◌∙◌, arith}
use Rattle.std.proofs.lemmas.List.{take_all}
use Rattle.std.proofs.lemmas.List.Elements.{All-more}
use Rattle.aea_lattice.specs.declared.blocks.Class.TheVariants.{Datum}
use Rattle.aea_lattice.specs.declared.blocks.EqId.{EqId}
use Rattle.aea_lattice.specs.Equations.{equation_of}
use Rattle.aea_view.specs.Marked.{Marked, unmarked}
use Rattle.aea_plain.specs.Marks.{IsSpent}
use Rattle.aea_plain.proofs.sweeps.sweep.Goals as goal

both-false : (a b : Bool) → (a || b) ≡ false → (a ≡ false) × (b ≡ false)
both-false false b h = (refl, h)
both-false true b h = absurd (cc)

fewer-step : (a b : Bool) (old mid new : Marked) → (a || b) ≡ true
    → (a ≡ true → unmarked mid < unmarked old) → (a ≡ false → mid ≡ old)
    → (b ≡ true → unmarked new < unmarked mid) → (b ≡ false → new ≡ mid) → unmarked new < unmarked old
fewer-step true true old mid new h fewer same less kept =
    let x = fewer refl in let y = less refl in omega arith
fewer-step true false old mid new h fewer same less kept =
    subst (λ m. unmarked m < unmarked old) (sym (kept refl)) (fewer refl)
fewer-step false true old mid new h fewer same less kept =
    subst (λ m. unmarked new < unmarked m) (same refl) (less refl)
fewer-step false false old mid new h fewer same less kept = absurd (cc)

pub loop-e-preserved : goal.loop-e-preserved
loop-e-preserved c = record {
  kept = c.advance-changed.ensures.same_lattice;
  long = c.advance-changed.ensures.long;
  state = λ known h. c.advance-changed.ensures.state known (c.loop-e.invariant.state known h);
  fewer = λ h.
      fewer-step c.loop-e.changed c.advance-changed.result c.args.marks.now c.loop-e.marks c.advance-changed.new.marks h
      c.loop-e.invariant.fewer c.loop-e.invariant.same c.advance-changed.ensures.fewer c.advance-changed.ensures.same;
  same = λ h.
      let none = both-false c.loop-e.changed c.advance-changed.result h in
      c.advance-changed.ensures.same none.1 ∙ c.loop-e.invariant.same none.0;
  spent = λ h.
      let none = both-false c.loop-e.changed c.advance-changed.result h in
      let here : EqId = get_or c.args.equations.now c.loop-e.e-index (equation_of 0 Datum) in
      All-more (IsSpent c.args.lattice.now c.args.marks.now.marks) c.args.equations.now c.loop-e.e-index (equation_of 0 Datum) c.loop-e-test.true
      (c.loop-e.invariant.spent none.0)
      (subst (λ (m : Marked). IsSpent c.args.lattice.now m.marks here) (c.loop-e.invariant.same none.0) (c.advance-changed.ensures.spent none.1));
}

pub returns-clause-spent : goal.returns-clause-spent
returns-clause-spent c h =
    subst (λ (m : Marked). All (IsSpent c.args.lattice.now m.marks) c.args.equations.now) (sym (c.loop-e.invariant.same h))
    (subst (All (IsSpent c.args.lattice.now c.args.marks.now.marks)) (take_all c.loop-e.e-index c.args.equations.now c.loop-e-test.false)
    (c.loop-e.invariant.spent h))
