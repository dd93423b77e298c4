use Rattle.std.proofs.Common.{◌≡◌, ◌≢◌, ◌<◌, ℕ, cond, ◌==◌, inl, inr, length, get_or, refl, sym, ◌∙◌, ap, subst, arith}
use Rattle.std.specs.Prelude.{slice_set}
use Rattle.std.proofs.lemmas.Bool.{cases_Bool}
use Rattle.aea_lattice.specs.Fences.{is_parted}
use Rattle.aea_lattice.specs.Strands.{strand_of}
use Rattle.aea_lattice.specs.Parity.{differ}
use Rattle.aea_sweep.specs.Labels.{Labels, is_stretch}
use Rattle.aea_sweep.specs.Stretches.{AreStretches}
use Rattle.aea_sweep.proofs.Stretching.{opens_new, opens_parted, ends_at}
use Rattle.aea_sweep.proofs.Taking.{strand_few}
use Rattle.aea_sweep.proofs.marking.pass_node.Goals as goal

pub returns-then-from-eq0-clause-passed : goal.returns-then-from-eq0-clause-passed
returns-then-from-eq0-clause-passed c taken nodes labels below agree s =
    let l = c.args.lattice.now in
    let k = c.args.node in
    let few : strand_of l c.args.class k < length c.args.starts.now = (let a = strand_few l c.args.class k c.requires.class in let b = c.requires.opens.long in omega arith) in
    let is = c.strand-strand.ensures in
    subst (λ (q : ℕ). AreStretches l c.args.class (λ n. differ (taken n) (n == k)) nodes c.args.label labels c.args.first.now (slice_set c.args.starts.now q k)) (sym is)
    (opens_new l c.args.class taken nodes c.args.label k labels c.args.first.now c.args.first.now c.args.starts.now c.requires.node c.requires.class below agree s few
    (ap (λ (q : ℕ). get_or c.args.starts.now q 0) (sym is) ∙ c.if-from-eq0.true) refl)

pub returns-clause-passed : goal.returns-clause-passed
returns-clause-passed c taken nodes labels below agree s =
    let l = c.args.lattice.now in
    let k = c.args.node in
    let mid = c.args.first.now in
    let new = c.label_stretch.new.first in
    let starts = c.args.starts.now in
    let strand = strand_of l c.args.class k in
    let few : strand < length starts = (let a = strand_few l c.args.class k c.requires.class in let b = c.requires.opens.long in omega arith) in
    let is : c.strand-strand.result ≡ strand = c.strand-strand.ensures in
    let was : get_or starts strand 0 ≢ 0 =
    λ h. (let e : get_or starts c.strand-strand.result 0 ≡ 0 = ap (λ (q : ℕ). get_or starts q 0) is ∙ h in let g = c.if-from-eq0.false in omega arith) in
    let are : Labels l (is_stretch l c.args.class (get_or starts strand 0) k) c.args.label mid new =
    subst (λ (q : ℕ). Labels l (is_stretch l c.args.class (get_or starts q 0) k) c.args.label mid new) is c.label_stretch.ensures.labelled in
    let next : c.begins_anew.result ≡ cond (is_parted l.fences (get_or starts strand 0) k) k 0 =
    c.begins_anew.ensures ∙ ap (λ (q : ℕ). cond (is_parted l.fences (get_or starts q 0) k) k 0) is in
    subst (λ (q : ℕ). AreStretches l c.args.class (λ n. differ (taken n) (n == k)) nodes c.args.label labels new (slice_set starts q c.begins_anew.result)) (sym is)
    (elim (cases_Bool (is_parted l.fences (get_or starts strand 0) k)) [
      | inl parted ↦
          subst (λ (v : ℕ). AreStretches l c.args.class (λ n. differ (taken n) (n == k)) nodes c.args.label labels new (slice_set starts strand v)) (sym (next ∙ ap (λ b. cond b k 0) parted))
          (opens_parted l c.args.class taken nodes c.args.label k labels mid new starts c.requires.node c.requires.class below agree s few c.requires.label was are parted)
      | inr joined ↦
          subst (λ (v : ℕ). AreStretches l c.args.class (λ n. differ (taken n) (n == k)) nodes c.args.label labels new (slice_set starts strand v)) (sym (next ∙ ap (λ b. cond b k 0) joined))
          (ends_at l c.args.class taken nodes c.args.label k labels mid new starts c.requires.node c.requires.class below agree s few c.requires.label was are joined)
    ])
