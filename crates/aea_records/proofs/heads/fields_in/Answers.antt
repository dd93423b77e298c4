use Rattle.std.proofs.Common.{true, ◌≡◌, ℕ, refl, ap, ◌∙◌, inl, inr}
use Rattle.std.proofs.lemmas.Result.{err_from_is_err_and}
use Rattle.aea_records.specs.Tables.{judge}
use Rattle.aea_records.specs.Known.{Known}
use Rattle.aea_records.specs.Fields.{kind_fields, is_kind}
use Rattle.aea_records.specs.Reads.{known_in}
use Rattle.aea_records.proofs.Fronts.{kinds}
use Rattle.aea_records.proofs.heads.fields_in.Goals as goal

pub returns-in_err-alone_in-clause-judged : goal.returns-in_err-alone_in-clause-judged
returns-in_err-alone_in-clause-judged c =
    let p = err_from_is_err_and c.from_residual.result c.from_residual.ensures.1 in
    rw (p.1, p.2) (λ bytes. ap (λ (k : ℕ). judge (kind_fields c.args.shape.now (known_in c.args.catalog.now.objects c.args.lattice.now.n c.args.lattice.now.fences c.args.raised) bytes k) 6 c.args.window.now) c.if-kind-eq1.true ∙ c.in_err-alone_in.ensures.judged c.args.lattice.now.fences bytes)

pub returns-then-kind-eq1-clause-judged : goal.returns-then-kind-eq1-clause-judged
returns-then-kind-eq1-clause-judged c = λ bytes. ap (λ (k : ℕ). judge (kind_fields c.args.shape.now (known_in c.args.catalog.now.objects c.args.lattice.now.n c.args.lattice.now.fences c.args.raised) bytes k) 6 c.args.window.now) c.if-kind-eq1.true ∙ c.in_ok-alone_in.ensures.judged c.args.lattice.now.fences bytes

pub returns-in_err-fence_in-clause-judged : goal.returns-in_err-fence_in-clause-judged
returns-in_err-fence_in-clause-judged c =
    let p = err_from_is_err_and c.from_residual-in_err-fence_in.result c.from_residual-in_err-fence_in.ensures.1 in
    rw (p.1, p.2) (λ bytes. ap (λ (k : ℕ). judge (kind_fields c.args.shape.now (known_in c.args.catalog.now.objects c.args.lattice.now.n c.args.lattice.now.fences c.args.raised) bytes k) 6 c.args.window.now) c.if-kind-eq2.true ∙ c.in_err-fence_in.ensures.judged c.args.shape.now (known_in c.args.catalog.now.objects c.args.lattice.now.n c.args.lattice.now.fences c.args.raised) bytes refl refl)

pub returns-then-kind-eq2-clause-judged : goal.returns-then-kind-eq2-clause-judged
returns-then-kind-eq2-clause-judged c = λ bytes. ap (λ (k : ℕ). judge (kind_fields c.args.shape.now (known_in c.args.catalog.now.objects c.args.lattice.now.n c.args.lattice.now.fences c.args.raised) bytes k) 6 c.args.window.now) c.if-kind-eq2.true ∙ c.in_ok-fence_in.ensures.judged c.args.shape.now (known_in c.args.catalog.now.objects c.args.lattice.now.n c.args.lattice.now.fences c.args.raised) bytes refl refl

pub returns-in_err-object-clause-judged : goal.returns-in_err-object-clause-judged
returns-in_err-object-clause-judged c =
    let p = err_from_is_err_and c.from_residual-in_err-object.result c.from_residual-in_err-object.ensures.1 in
    rw (p.1, p.2) (λ bytes. ap (λ (k : ℕ). judge (kind_fields c.args.shape.now (known_in c.args.catalog.now.objects c.args.lattice.now.n c.args.lattice.now.fences c.args.raised) bytes k) 6 c.args.window.now) c.if-kind-eq3.true ∙ c.in_err-object.ensures.judged c.args.lattice.now.fences bytes)

pub returns-then-kind-eq3-clause-judged : goal.returns-then-kind-eq3-clause-judged
returns-then-kind-eq3-clause-judged c = λ bytes. ap (λ (k : ℕ). judge (kind_fields c.args.shape.now (known_in c.args.catalog.now.objects c.args.lattice.now.n c.args.lattice.now.fences c.args.raised) bytes k) 6 c.args.window.now) c.if-kind-eq3.true ∙ c.in_ok-object.ensures.judged c.args.lattice.now.fences bytes

-- the kind that is left
fourth : (known : Known) (kind : ℕ) → is_kind known kind ≡ true → (kind ≡ 1 → ⊥) → (kind ≡ 2 → ⊥) → (kind ≡ 3 → ⊥) → kind ≡ 4
fourth known kind is one two three =
    elim (kinds known kind is) [
      | inl a ↦ absurd (one a)
      | inr (inl b) ↦ absurd (two b)
      | inr (inr (inl d)) ↦ absurd (three d.0)
      | inr (inr (inr e)) ↦ e
    ]

pub returns-in_err-raise_in-clause-judged : goal.returns-in_err-raise_in-clause-judged
returns-in_err-raise_in-clause-judged c =
    let p = err_from_is_err_and c.from_residual-in_err-raise_in.result c.from_residual-in_err-raise_in.ensures.1 in
    let is = fourth (known_in c.args.catalog.now.objects c.args.lattice.now.n c.args.lattice.now.fences c.args.raised) c.args.kind c.requires c.if-kind-eq1.false c.if-kind-eq2.false c.if-kind-eq3.false in
    rw (p.1, p.2) (λ bytes. ap (λ (k : ℕ). judge (kind_fields c.args.shape.now (known_in c.args.catalog.now.objects c.args.lattice.now.n c.args.lattice.now.fences c.args.raised) bytes k) 6 c.args.window.now) is ∙ c.in_err-raise_in.ensures.judged c.args.shape.now (known_in c.args.catalog.now.objects c.args.lattice.now.n c.args.lattice.now.fences c.args.raised) bytes refl)

pub returns-clause-judged : goal.returns-clause-judged
returns-clause-judged c = λ bytes.
    let is = fourth (known_in c.args.catalog.now.objects c.args.lattice.now.n c.args.lattice.now.fences c.args.raised) c.args.kind c.requires c.if-kind-eq1.false c.if-kind-eq2.false c.if-kind-eq3.false in
    ap (λ (k : ℕ). judge (kind_fields c.args.shape.now (known_in c.args.catalog.now.objects c.args.lattice.now.n c.args.lattice.now.fences c.args.raised) bytes k) 6 c.args.window.now) is ∙ c.in_ok-raise_in.ensures.judged c.args.shape.now (known_in c.args.catalog.now.objects c.args.lattice.now.n c.args.lattice.now.fences c.args.raised) bytes refl
