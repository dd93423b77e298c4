-- Equations that are not spare.
use Rattle.std.proofs.Common.{◌≡◌, ◌≢◌, ℕ, ◌+◌, ◌-◌, ◌*◌, ◌<◌, ◌≤◌, inl, inr, Bool, true, false, not, ◌&&◌, ◌==◌, List, [], ◌∷◌, refl, sym, ◌∙◌, ap, subst, arith}
use Rattle.std.proofs.Math.Nat.{mul-le-mul_right}
use Rattle.std.proofs.lemmas.Bool.{cases_Bool, and_parts, and_from, eq-eqb, true≢false, false≢true}
use Rattle.aea_lattice.specs.declared.blocks.Class.TheVariants.{Datum}
use Rattle.aea_lattice.specs.declared.blocks.BlockId.{BlockId}
use Rattle.aea_lattice.specs.declared.blocks.EqId.{EqId}
use Rattle.aea_lattice.specs.declared.grid.Lattice.{Lattice}
use Rattle.aea_lattice.specs.Blocks.{HasBlock, block_of, class_number, number_of}
use Rattle.aea_lattice.specs.Equations.{HasEquation, is_odd_count, is_in_equation, equations_of, adds_up_to, is_in_codeword}
use Rattle.aea_lattice.specs.Parity.{differ}
use Rattle.aea_lattice.specs.Lists.{same_equation}
use Rattle.aea_lattice.proofs.Equations.{datum, output, input, member, output_in, input_before, number_equal}
use Rattle.aea_lattice.proofs.Codewords.{codeword-even}
use Rattle.aea_lattice.proofs.Odd.{Each, Each-more, odd-cons, odd-same}
use Rattle.aea_lattice.proofs.Once.{each-equations_of, same_equation-equal, odd-at_equation}
use Rattle.aea_gauss_laws.specs.Sums.{GivesBlock}
use Rattle.aea_gauss_laws.proofs.Given.{given-missed}
use Rattle.aea_fates.specs.Sums.{output_number, IsSpareIn}
use Rattle.aea_fates.proofs.Listing.{output_inside}
use Rattle.aea_sweep.specs.Sweep.{NotSpare}

-- where an odd number of items passes, one does
some_of : (P : EqId → Type 0) (p : EqId → Bool) (es : List EqId) → Each P es → is_odd_count p es ≡ true → (e : EqId) × P e × (p e ≡ true)
some_of P p [] each h = absurd (false≢true h)
some_of P p (e ∷ es) each h =
    elim (cases_Bool (p e)) [
      | inl yes' ↦ (e, each.0, yes')
      | inr no' ↦ some_of P p es each.1 (sym (odd-cons p e es ∙ ap (λ b. differ b (is_odd_count p es)) no') ∙ h)
    ]

-- no block of an equation has a greater number than its output
low : (l : Lattice) (e : EqId) (d : BlockId) → is_in_equation l e d ≡ true → number_of l d ≤ output_number l e
low l e d h =
    elim (member l e d h) [
      | datum same ↦ (let n : number_of l d ≡ number_of l (block_of e.node Datum) = ap (number_of l) same in omega arith)
      | output same ↦ (let n : number_of l d ≡ number_of l (block_of e.node e.class) = ap (number_of l) same in omega arith)
      | input g was same ↦
          (let n : number_of l d ≡ number_of l (block_of g e.class) = ap (number_of l) same in
          let before = input_before l e g was in
          let less : g - 1 ≤ e.node - 1 = omega arith in
          let rows : (g - 1) * (1 + l.alpha) ≤ (e.node - 1) * (1 + l.alpha) = mul-le-mul_right (1 + l.alpha) less in
          omega arith)
    ]

module _ (l : Lattice) (known : BlockId → Bool) (e : EqId) (has : HasEquation l e) (set : EqId → Bool) (s : IsSpareIn l known set e) where
  abbrev out : BlockId
  out = block_of e.node e.class

  -- among the equations of the set the greatest alone has its output
  one : (f : EqId) → HasEquation l f → (set f && is_in_equation l f out) ≡ (same_equation e f && true)
  one f f_has =
      elim (cases_Bool (same_equation e f)) [
        | inl yes' ↦
            (let same : e ≡ f = same_equation-equal e f yes' in
            let here : (set e && is_in_equation l e out) ≡ true = and_from (set e) (is_in_equation l e out) s.contains (output_in l e) in
            subst (λ g. (set g && is_in_equation l g out) ≡ true) same here ∙ sym (ap (λ b. b && true) yes'))
        | inr no' ↦
            elim (cases_Bool (set f && is_in_equation l f out)) [
              | inr off ↦ off ∙ sym (ap (λ b. b && true) no')
              | inl on ↦
                  (let both = and_parts (set f) (is_in_equation l f out) on in
                  absurd
                  (elim (member l f out both.1) [
                    | datum same ↦
                        (let class : class_number e.class ≡ class_number Datum = ap (λ b. class_number b.class) same in
                        let parity = has.class.parity in omega arith)
                    | output same ↦
                        (let node : e.node ≡ f.node = ap (λ b. b.node) same in
                        let class : class_number e.class ≡ class_number f.class = ap (λ b. class_number b.class) same in
                        true≢false
                        (sym (and_from (e.node == f.node) (class_number e.class == class_number f.class) (eq-eqb e.node f.node node) (eq-eqb (class_number e.class) (class_number f.class) class))
                        ∙ no'))
                    | input g was same ↦
                        (let node : e.node ≡ g = ap (λ b. b.node) same in
                        let class : class_number e.class ≡ class_number f.class = ap (λ b. class_number b.class) same in
                        let before = input_before l f g was in
                        let most = s.greatest f f_has both.0 in
                        let first = has.node.first in
                        let less : (e.node - 1) + 1 ≤ f.node - 1 = omega arith in
                        let rows : ((e.node - 1) + 1) * (1 + l.alpha) ≤ (f.node - 1) * (1 + l.alpha) = mul-le-mul_right (1 + l.alpha) less in
                        omega arith)
                  ]))
            ]
      ]

  has_output : adds_up_to l set out ≡ true
  has_output =
      odd-same (λ f. set f && is_in_equation l f out) (λ f. same_equation e f && true) (equations_of l)
      (Each-more (HasEquation l) (λ f. (set f && is_in_equation l f out) ≡ (same_equation e f && true)) (equations_of l) one (each-equations_of l))
      ∙ odd-at_equation l e (λ f. true) has

  lower : (d : BlockId) → adds_up_to l set d ≡ true → number_of l d ≤ output_number l e
  lower d added =
      let some = some_of (HasEquation l) (λ f. set f && is_in_equation l f d) (equations_of l) (each-equations_of l) added in
      let both = and_parts (set some.0) (is_in_equation l some.0 d) some.2 in
      let own = low l some.0 d both.1 in
      let most = s.greatest some.0 some.1 both.0 in
      omega arith

  no_word : (nodes : ℕ → Bool) → is_in_codeword l nodes out ≡ true
      → ((d : BlockId) → HasBlock l d → known d ≡ true → number_of l d < output_number l e → is_in_codeword l nodes d ≡ false) → ⊥
  no_word nodes here early =
      let quiet : BlockId → Bool = λ x. not (is_in_codeword l nodes x) in
      let gives : GivesBlock l quiet out set = (record {
        contains = has_output;
        others = λ x x_has x_added x_other.
            (let at_most = lower x x_added in
            let apart : number_of l x ≢ output_number l e = λ same. x_other (number_equal l x out x_has (output_inside l e has) same) in
            ap not (early x x_has (s.only_known x x_has x_added) (omega arith)));
      }) in
      true≢false
      (sym here
      ∙ given-missed l quiet out (output_inside l e has) set (is_in_codeword l nodes) gives
      (codeword-even l nodes (is_in_codeword l nodes) (λ x x_has. refl))
      (λ x x_has is_quiet. not_yes (is_in_codeword l nodes x) is_quiet))
    where
      not_yes : (x : Bool) → not x ≡ true → x ≡ false
      not_yes true h = absurd (false≢true h)
      not_yes false h = refl

pub not_spare : NotSpare
not_spare l known e has = record {
  unknown = λ off spare. true≢false (sym (spare.1.only_known (block_of e.node e.class) (output_inside l e has) (has_output l known e has spare.0 spare.1)) ∙ off);
  word = λ nodes here early spare. no_word l known e has spare.0 spare.1 nodes here early;
}
