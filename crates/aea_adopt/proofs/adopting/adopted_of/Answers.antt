use Rattle.std.proofs.Common.{arith, ℕ, List, [], ◌∷◌, ap}
use Rattle.std.proofs.lemmas.Bool.{ltb-true, lt-ltb}
use Rattle.aea_copy_writer.proofs.Filling.{text_some}
use Rattle.aea_adopt.proofs.adopting.adopted_of.Goals as goal

pub returns-clause-revealed : goal.returns-clause-revealed
returns-clause-revealed c files pieces known = record {
  on = lt-ltb 0 c.args.kept.now.standing.text (let some = text_some pieces known.good.valid known.good.some in omega (arith, some, known.text));
  end = known.text;
  gates = ap (λ (n : ℕ). n ∷ n ∷ []) known.place;
  links = ap (λ (l : List ℕ). l ∷ l ∷ []) known.link;
}

pub returns-clause-near : goal.returns-clause-near
returns-clause-near c = record {
  end = c.requires.close.0;
  first = c.requires.close.1;
  second = c.requires.close.1;
  text = λ on. ltb-true 0 c.args.kept.now.standing.text on;
}
