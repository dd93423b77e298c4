use Rattle.std.proofs.Common.{◌≡◌, ℕ, get_or, Some, None, ◌∙◌, ap, arith}
use Rattle.aea_lattice.specs.Parity.{differ}
use Rattle.aea_view.specs.Bits.{has_bit}
use Rattle.aea_sums.specs.Places.{place_at}
use Rattle.aea_sums.proofs.Bits.{xor-bits}
use Rattle.aea_sums.proofs.backward.open_value.Goals as goal

pub returns-in-Some : goal.returns-in-Some
returns-in-Some c wanted are = record {
  answer = Some c.in-Some.field-0;
  next = c.in-Some.ensures.next;
  later = λ i found. (let e : c.in-Some.field-0 ≡ i = cc in let h = c.in-Some.ensures.later.0 in omega arith);
  is = λ k fits.
      xor-bits (get_or c.args.words.now c.place-at.result 0) c.args.tags k
      ∙ ap (λ (p : ℕ). differ (has_bit (get_or c.args.words.now p 0) k) (has_bit c.args.tags k)) c.place-at.ensures.place
      ∙ ap (differ (has_bit (get_or c.args.words.now (place_at c.args.lattice.now c.args.b) 0) k)) (are k fits);
}

pub returns-in-None : goal.returns-in-None
returns-in-None c wanted are = record {
  answer = None;
  next = c.in-None.ensures.next;
  later = λ j found. absurd (cc);
  is = λ k fits. are k fits;
}
