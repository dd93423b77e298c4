use Rattle.std.proofs.Common.{◌≡◌, ◌+◌, ◌∷◌, ℕ, List, [], suc, length, sym, subst, arith}
use Rattle.aea_lattice.specs.Equations.{is_in_codeword}
use Rattle.aea_sweep.specs.Words.{has_odd, RiseWithin, word_in}
use Rattle.aea_sweep.specs.Labels.{Labels}
use Rattle.aea_sweep.specs.Firsts.{AreFirst}
use Rattle.aea_sweep.proofs.Taking.{first_none, first_more}
use Rattle.aea_sweep.proofs.marking.label_words.Goals as goal

pub loop-r-init : goal.loop-r-init
loop-r-init c = record {
  labels = c.requires.labels;
  opens = c.requires.opens;
  empty = c.requires.empty;
  first = first_none c.args.lattice.now 1 (word_in ([] ∷ c.args.words.now)) c.args.first.now c.requires.none;
}

pub label_word-requires-clause-nodes : goal.label_word-requires-clause-nodes
label_word-requires-clause-nodes c =
    subst (λ (xs : List ℕ). RiseWithin 1 xs (c.args.lattice.now.n + 1)) (sym c.get.ensures) (c.requires.rising c.loop-r.r)

pub loop-r-preserved : goal.loop-r-preserved
loop-r-preserved c =
    let l = c.args.lattice.now in
    let r = c.loop-r.r in
    let words = c.args.words.now in
    let next : suc r ≡ r + 1 = omega arith in
    let further : suc (r + 1) ≡ r + 1 + 1 = omega arith in
    record {
      labels = c.label_word.ensures.labels;
      opens = c.label_word.ensures.opens;
      empty = c.label_word.ensures.empty;
      first =
          subst (λ (m : ℕ). AreFirst l 1 m (word_in ([] ∷ words)) c.label_word.new.first) further
          (first_more l 1 (r + 1) (word_in ([] ∷ words)) c.loop-r.first c.label_word.new.first (omega arith) (omega arith)
          (subst (λ (m : ℕ). Labels l (is_in_codeword l (word_in ([] ∷ words) m)) (r + 1) c.loop-r.first c.label_word.new.first) next
          (subst (λ (xs : List ℕ). Labels l (is_in_codeword l (has_odd xs)) (r + 1) c.loop-r.first c.label_word.new.first) c.get.ensures c.label_word.ensures.labelled))
          c.loop-r.invariant.first);
    }

pub returns : goal.returns
returns c =
    let end : c.loop-r.r ≡ length c.args.words.now = (let h = c.loop-r-test.false in let g = c.loop-r.auto.r-end in let e = c.len-r-end.ensures in omega arith) in
    subst (λ (m : ℕ). AreFirst c.args.lattice.now 1 (m + 1) (word_in ([] ∷ c.args.words.now)) c.loop-r.first) end c.loop-r.invariant.first
