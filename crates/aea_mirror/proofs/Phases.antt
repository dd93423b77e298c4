-- What the lent disk's images have while copies are extended, from the moment at which nothing was pending.
use Rattle.std.proofs.Common.{◌≡◌, ◌≢◌, ⊎_elim, ℕ, ◌<◌, ◌≤◌, List, length, take, sym, ap, ◌∙◌, subst, arith}
use Rattle.std.proofs.lemmas.Bool.{cases_eq, cases_lt}
use Rattle.aea_disk.specs.Files.{Files, ChangesOnly}
use Rattle.aea_disk.specs.Frames.{OnlyReads, OnlyWrites}
use Rattle.aea_disk.specs.State.{State, IsSynced}
use Rattle.aea_disk.proofs.Moments.{passes_both}
use Rattle.aea_disk.proofs.Stays.{earlier_both}
use Rattle.aea_mirror.specs.Extending.{IsShut, Extends, IsGateOf, Phase}

far_from : (first second f g gate : ℕ) → f ≤ 64 → IsGateOf first second g gate → f ≢ g
far_from first second f g gate near is e = ⊎_elim (λ (a : (g ≡ 65) × (gate ≡ first)). omega (arith, near, e, a.0)) (λ (b : (g ≡ 66) × (gate ≡ second)). omega (arith, near, e, b.0)) is

-- calls that only read
pub phase_reads : (reveals fault : Type 0) (first second : ℕ) (s n : State) → reveals → IsSynced s → ((f gate : ℕ) → IsGateOf first second f gate → gate < length (s.files f)) → OnlyReads reveals fault s n → Phase first second s n
phase_reads reveals fault first second s n revealed synced there reads = record {
  reads = λ f gate is. (ap (λ (c : Files). take gate (c f)) (reads.contents revealed), subst (λ (c : Files). gate < length (c f)) (sym (reads.contents revealed)) (there f gate is));
  same = λ t c from to here f near. synced c (reads.crash t c from to here) f;
  fronts = λ t c from to here f gate is.
      let as_read : c f ≡ s.files f = synced c (reads.crash t c from to here) f in
      (ap (take gate) as_read, subst (λ (l : List ℕ). gate < length l) (sym as_read) (there f gate is));
  back = λ t u d from le to here f gate is shut.
      let some = reads.earlier t u d from le to here in (
        some.0,
        some.1,
        (
          f,
          gate,
          is,
          subst (IsShut gate)
              (synced d (reads.crash u d (omega (arith, from, le)) to here) f ∙ sym (synced some.0 (reads.crash t some.0 from (omega (arith, le, to)) some.1) f)) shut,
        ),
      );
  earlier = reads.earlier;
  time = reads.time;
}

-- one copy more that is extended
pub phase_extends : (reveals taken fits fault : Type 0) (first second file gate : ℕ) (s m n : State) → reveals → Phase first second s m → IsSynced m → IsGateOf first second file gate
    → Extends file gate m n → OnlyWrites reveals taken fits fault (ChangesOnly file) m n → Phase first second s n
phase_extends reveals taken fits fault first second file gate s m n revealed early synced is extends writes = record {
  reads = λ f g of.
      let before = early.reads f g of in
      ⊎_elim
      (λ (own : f ≡ file).
      let gates : g ≡ gate = one_gate f g of own in (
        subst (λ (x : ℕ). take g (n.files x) ≡ take g (m.files x)) (sym own) (subst (λ (y : ℕ). take y (n.files file) ≡ take y (m.files file)) (sym gates) extends.reads.0) ∙ before.0,
        subst (λ (x : ℕ). g < length (n.files x)) (sym own) (subst (λ (y : ℕ). y < length (n.files file)) (sym gates) extends.reads.1),
      ))
      (λ (other : f ≢ file).
      let stays : n.files f ≡ m.files f = writes.contents revealed f other in
      (ap (take g) stays ∙ before.0, subst (λ (l : List ℕ). g < length l) (sym stays) before.1))
      (cases_eq f file);
  same = λ t c from to here f near.
      ⊎_elim
      (λ (before : t < m.moment). early.same t c from (omega (arith, before)) ((writes.time.keeps t c (omega (arith, before))).0 here) f near)
      (λ (after : m.moment ≤ t).
      let was = writes.crash t c after to here in
      was.2 f (far_from first second f file gate near is) ∙ early.same m.moment was.0 early.time.later (omega arith) was.1 f near)
      (cases_lt t m.moment);
  fronts = λ t c from to here f g of.
      ⊎_elim
      (λ (before : t < m.moment). early.fronts t c from (omega (arith, before)) ((writes.time.keeps t c (omega (arith, before))).0 here) f g of)
      (λ (after : m.moment ≤ t).
      let was = writes.crash t c after to here in
      let first_fronts = early.fronts m.moment was.0 early.time.later (omega arith) was.1 f g of in
      ⊎_elim
      (λ (here_ : f ≡ file).
      let own = extends.front t c after to here in
      let gates : g ≡ gate = one_gate f g of here_ in
      let as_read : was.0 f ≡ m.files f = synced was.0 was.1 f in (
        subst (λ (x : ℕ). take g (c x) ≡ take g (m.files x)) (sym here_) (subst (λ (y : ℕ). take y (c file) ≡ take y (m.files file)) (sym gates) own.0) ∙ ap (take g) (sym as_read) ∙ first_fronts.0,
        subst (λ (x : ℕ). g < length (c x)) (sym here_) (subst (λ (y : ℕ). y < length (c file)) (sym gates) own.1),
      ))
      (λ (other : f ≢ file).
      let stays : c f ≡ was.0 f = was.2 f other in
      (ap (take g) stays ∙ first_fronts.0, subst (λ (l : List ℕ). g < length l) (sym stays) first_fronts.1))
      (cases_eq f file))
      (cases_lt t m.moment);
  back = λ t u d from le to here f g of shut.
      ⊎_elim
      (λ (before : u < m.moment).
      let found = early.back t u d from le (omega (arith, before)) ((writes.time.keeps u d (omega (arith, before))).0 here) f g of shut in
      (found.0, (writes.time.keeps t found.0 (omega (arith, le, before))).1 found.1, found.2))
      (λ (after : m.moment ≤ u).
      ⊎_elim
      (λ (first_ : t < m.moment).
      let mid = late m.moment u d (omega arith) after to here f g of shut in
      let at_m = (writes.time.keeps m.moment mid.0 (omega arith)).0 mid.1 in
      let found = early.back t m.moment mid.0 from (omega (arith, first_)) (omega arith) at_m mid.2.0 mid.2.1 mid.2.2 mid.2.3 in
      (found.0, (writes.time.keeps t found.0 (omega (arith, first_))).1 found.1, found.2))
      (λ (second_ : m.moment ≤ t). late t u d second_ le to here f g of shut)
      (cases_lt t m.moment))
      (cases_lt u m.moment);
  earlier = earlier_both s m n early.time writes.time early.earlier writes.earlier;
  time = passes_both s m n early.time writes.time;
}
  where
    one_gate : (f g : ℕ) → IsGateOf first second f g → f ≡ file → g ≡ gate
    one_gate f g of here =
        ⊎_elim
        (λ (a : (f ≡ 65) × (g ≡ first)). ⊎_elim (λ (b : (file ≡ 65) × (gate ≡ first)). a.1 ∙ sym b.1) (λ (b : (file ≡ 66) × (gate ≡ second)). absurd (omega (arith, a.0, b.0, here))) is)
        (λ (a : (f ≡ 66) × (g ≡ second)). ⊎_elim (λ (b : (file ≡ 65) × (gate ≡ first)). absurd (omega (arith, a.0, b.0, here))) (λ (b : (file ≡ 66) × (gate ≡ second)). a.1 ∙ sym b.1) is)
        of

    late : (t u : ℕ) (d : Files) → m.moment ≤ t → t ≤ u → u ≤ n.moment → n.image u d → (f g : ℕ) → IsGateOf first second f g → IsShut g (d f)
        → (e : Files) × n.image t e × ((h : ℕ) × (other : ℕ) × IsGateOf first second h other × IsShut other (e h))
    late t u d from le to here f g of shut =
        ⊎_elim
        (λ (own : f ≡ file).
        let found = extends.back t u d from le to here (subst (λ (x : ℕ). IsShut gate (d x)) own (subst (λ (y : ℕ). IsShut y (d f)) (one_gate f g of own) shut)) in
        (found.0, found.1, (file, gate, is, found.2)))
        (λ (other : f ≢ file).
        let some = writes.earlier t u d from le to here in
        let was_d = writes.crash u d (omega (arith, from, le)) to here in
        let was_e = writes.crash t some.0 from (omega (arith, le, to)) some.1 in
        let same : d f ≡ some.0 f = was_d.2 f other ∙ synced was_d.0 was_d.1 f ∙ sym (synced was_e.0 was_e.1 f) ∙ sym (was_e.2 f other) in
        (some.0, some.1, (f, g, of, subst (IsShut g) same shut)))
        (cases_eq f file)
