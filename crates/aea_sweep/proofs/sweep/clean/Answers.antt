use Rattle.std.proofs.Common.{◌≡◌, ◌<◌, ◌++◌, ℕ, length, ◌∙◌, subst, arith}
use Rattle.aea_sweep.specs.States.{IsCleanTo}
use Rattle.aea_sweep.specs.Tables.{AddsRow}
use Rattle.aea_sweep.proofs.Behind.{adds-behind, hits_out}
use Rattle.aea_sweep.proofs.Cleaning.{hits, clean_more, adds-places}
use Rattle.aea_sweep.proofs.sweep.clean.Goals as goal

pub loop-t-preserved : goal.loop-t-preserved
loop-t-preserved c =
    let t = c.loop-t.t in
    let adds = c.in_ok-clean_one.ensures in
    record {
      size = record {
        words_long = adds.size.words_long ∙ c.loop-t.invariant.size.words_long;
        heads_long = adds.size.heads_long ∙ c.loop-t.invariant.size.heads_long;
      };
      places = λ had. adds-places c.args.spare t (hits c.args.spare t c.loop-t.heads) c.loop-t.words.items c.clean_one.new.words.items c.loop-t.heads c.clean_one.new.heads
          (let h = c.loop-t-test.true in omega arith) adds (c.loop-t.invariant.places had);
      clean = λ l known closed i q e same s.
          (let rows = c.requires.rows in
          let heads = c.requires.spare in
          let long = c.loop-t.invariant.size.words_long in
          let less = c.loop-t-test.true in
          let in_words : c.args.spare < length c.loop-t.words.items = omega arith in
          clean_more l known i q e t (c.loop-t.words.items ++ closed) (c.clean_one.new.words.items ++ closed) c.loop-t.heads c.clean_one.new.heads (omega arith)
          (subst (λ (n : ℕ). AddsRow t (hits n t c.loop-t.heads) (c.loop-t.words.items ++ closed) (c.clean_one.new.words.items ++ closed) c.loop-t.heads c.clean_one.new.heads) same
          (adds-behind t (hits c.args.spare t c.loop-t.heads) c.loop-t.words.items c.clean_one.new.words.items closed c.loop-t.heads c.clean_one.new.heads (omega arith)
          (hits_out c.args.spare t c.loop-t.heads (length c.loop-t.words.items) in_words) adds))
          (c.loop-t.invariant.clean l known closed i q e same s));
    }

pub returns-clause-clean : goal.returns-clause-clean
returns-clause-clean c l known closed i q e same s =
    let end : c.loop-t.t ≡ c.args.spare = (let h = c.loop-t-test.false in let g = c.loop-t.auto.t-end in omega arith) in
    subst (λ (n : ℕ). IsCleanTo l known i q e n (c.loop-t.words.items ++ closed) c.loop-t.heads) end (c.loop-t.invariant.clean l known closed i q e same s)
