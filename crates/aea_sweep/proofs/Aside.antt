-- Sums where ends are marked too.
use Rattle.std.proofs.Common.{◌≡◌, inl, inr, Bool, true, false, not, refl, sym, ◌∙◌, ap}
use Rattle.std.proofs.lemmas.Bool.{cases_Bool, true≢false}
use Rattle.aea_lattice.specs.declared.blocks.BlockId.{BlockId}
use Rattle.aea_lattice.specs.Equations.{is_in_codeword}
use Rattle.aea_lattice.specs.Lists.{is_listed}
use Rattle.aea_lattice.proofs.Codewords.{codeword-even}
use Rattle.aea_gauss_laws.specs.Sums.{GivesBlock}
use Rattle.aea_gauss_laws.proofs.Given.{given-missed}
use Rattle.aea_sweep.specs.Sweep.{EndsStandAside}

not_yes : (x : Bool) → not x ≡ true → x ≡ false
not_yes true h = absurd (true≢false (sym h))
not_yes false h = refl

pub ends_stand_aside : EndsStandAside
ends_stand_aside l known more b equations b_has within each sum = record {
  gives = record {
    contains = sum.gives.contains;
    others = λ d has added other. (elim (each d has (sum.gives.others d has added other)) [
      | inl is_known ↦ is_known
      | inr open_word ↦
          (let nodes = open_word.0 in
          let w = open_word.1 in
          let quiet : BlockId → Bool = λ x. not (is_in_codeword l nodes x) in
          let gives : GivesBlock l quiet d (is_listed equations) = (record {
            contains = added;
            others = λ x x_has x_added x_other. (elim (cases_Bool (is_in_codeword l nodes x)) [
              | inl here ↦ absurd (x_other (w.alone x x_has (sum.gives.others x x_has x_added (λ same. true≢false (sym here ∙ ap (is_in_codeword l nodes) same ∙ w.lacks))) here))
              | inr lacks ↦ ap not lacks
            ]);
          }) in
          absurd
          (true≢false
          (sym w.contains
          ∙ given-missed l quiet d has (is_listed equations) (is_in_codeword l nodes) gives
          (codeword-even l nodes (is_in_codeword l nodes) (λ x x_has. refl))
          (λ x x_has is_quiet. not_yes (is_in_codeword l nodes x) is_quiet))))
    ]);
  };
  no_spare = λ e has listed spare.
      sum.no_spare e has listed (spare.0, record { contains = spare.1.contains; greatest = spare.1.greatest; only_known = λ x x_has x_added. within x x_has (spare.1.only_known x x_has x_added) });
  ordered = sum.ordered;
}
