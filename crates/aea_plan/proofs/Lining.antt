-- The lines of verdicts are those of the printed report.
use Rattle.std.proofs.Common.{◌≡◌, ℕ, List, [], ◌∷◌, map, get_or, Bool, true, false, not, inl, inr, None, Some, Option, refl, sym, ◌∙◌, ap, subst}
use Rattle.std.specs.Prelude.{filter, All}
use Rattle.std.proofs.lemmas.Bool.{cases_Bool, false≢true}
use Rattle.std.proofs.lemmas.List.Elements.{All-nil, All-cons, All-head, All-tail, All-filter}
use Rattle.aea_lattice.specs.declared.blocks.BlockId.{BlockId}
use Rattle.aea_lattice.specs.declared.grid.Lattice.{Lattice}
use Rattle.aea_lattice.specs.Blocks.{HasBlock, blocks_of, number_of}
use Rattle.aea_lattice.specs.Closure.{IsReached}
use Rattle.aea_lattice.specs.Facts.{BlocksAreInside, ReachedAreDetermined}
use Rattle.aea_lattice.proofs.Derivations.{reached-known}
use Rattle.aea_view.specs.Marked.{is_marked}
use Rattle.aea_fates.specs.Laws.{WordsAreOpen, WordsStay, DeterminedStay, AddsDetermined}
use Rattle.aea_sweep.specs.Losses.{IsLoss}
use Rattle.aea_report.specs.Format.{block_in}
use Rattle.aea_report.specs.Printed.{IsLineOf, IsPrinted}
use Rattle.aea_plan.specs.declared.plan.Plan.{Plan}
use Rattle.aea_plan.specs.declared.verdicts.Verdicts.{Verdicts}
use Rattle.aea_plan.specs.Verdicts.{nodes_at, line_with, line_where, line_of, lines_by, AreVerdicts}
use Rattle.aea_plan.specs.Plans.{AreLossesOf, IsPlanOf, AreCounts, head_by}
use Rattle.aea_plan.proofs.Lists.{same-filter}

-- the line of a block names it
block_with : (b : BlockId) (nodes : Option (List ℕ)) → block_in (line_with b nodes) ≡ b
block_with b None = refl
block_with b (Some nodes) = refl

block_where : (r : Bool) (b : BlockId) (nodes : Option (List ℕ)) → block_in (line_where r b nodes) ≡ b
block_where true b nodes = refl
block_where false b nodes = block_with b nodes

-- so the lines name their blocks
blocks_named : (v : Verdicts) (xs : List BlockId) → map block_in (map (line_of v) xs) ≡ xs
blocks_named v [] = refl
blocks_named v (x ∷ xs) =
    ap (λ b. b ∷ map block_in (map (line_of v) xs)) (block_where (is_marked v.reached x) x (nodes_at v.losses (number_of v.damaged.lattice x)))
    ∙ ap (λ bs. x ∷ bs) (blocks_named v xs)

lines_are : (l : Lattice) (known : BlockId → Bool) (v : Verdicts) (xs : List BlockId) → All (HasBlock l) xs → ((b : BlockId) → HasBlock l b → IsLineOf l known (line_of v b))
    → All (IsLineOf l known) (map (line_of v) xs)
lines_are l known v [] inside each = All-nil (IsLineOf l known)
lines_are l known v (x ∷ xs) inside each =
    All-cons (IsLineOf l known) (line_of v x) (map (line_of v) xs) (each x (All-head (HasBlock l) x xs inside))
    (lines_are l known v xs (All-tail (HasBlock l) x xs inside) each)

-- The facts of the definitions that the report of a plan rests on.
pub record Facts : Type 0 where
  pub inside : BlocksAreInside
  pub determined : ReachedAreDetermined
  pub open_still : WordsAreOpen
  pub words : WordsStay
  pub stay : DeterminedStay

-- the line of a block that is not reached, where all that is reached is known too
loss_line : Facts → (l : Lattice) (known reached : BlockId → Bool) → AddsDetermined l known reached → ((b : BlockId) → HasBlock l b → IsReached l known b → reached b ≡ true)
    → (b : BlockId) → HasBlock l b → reached b ≡ false → (nodes : Option (List ℕ)) → IsLoss l reached b nodes → IsLineOf l known (line_with b nodes)
loss_line facts l known reached adds all b has out None determined = (
  (facts.stay l known reached adds b).1 determined,
  λ by. false≢true (sym out ∙ all b has by),
)
loss_line facts l known reached adds all b has out (Some nodes) word = (
  λ determined. facts.open_still l reached b nodes has word ((facts.stay l known reached adds b).0 determined),
  (facts.words l known reached adds b nodes).1 word,
)

-- what is reached adds only what is determined
adds_reached : ReachedAreDetermined → (l : Lattice) (known reached : BlockId → Bool) → ((b : BlockId) → HasBlock l b → reached b ≡ true → IsReached l known b)
    → ((b : BlockId) → HasBlock l b → IsReached l known b → reached b ≡ true) → AddsDetermined l known reached
adds_reached determined l known reached to all = record {
  within = λ d has t. all d has (reached-known l known d t);
  determined = λ d has t. determined l known d has (to d has t);
}

-- the line of each block
line_is : Facts → (l : Lattice) (known reached : BlockId → Bool) (losses : Option (List (Option (List ℕ)))) → ((b : BlockId) → HasBlock l b → reached b ≡ true → IsReached l known b)
    → ((b : BlockId) → HasBlock l b → IsReached l known b → reached b ≡ true) → AreLossesOf l reached losses
    → (b : BlockId) → HasBlock l b → IsLineOf l known (line_where (reached b) b (nodes_at losses (number_of l b)))
line_is facts l known reached losses to all of b has = elim (cases_Bool (reached b)) [
  | inl e ↦ subst (λ r. IsLineOf l known (line_where r b (nodes_at losses (number_of l b)))) (sym e) (to b has e)
  | inr e ↦
      subst (λ r. IsLineOf l known (line_where r b (nodes_at losses (number_of l b)))) (sym e)
      (loss_line facts l known reached (adds_reached facts.determined l known reached to all) all b has e (nodes_at losses (number_of l b)) (of b has e))
]

-- the report of a plan is the printed one of each set of known blocks whose plan it is
pub printed-by : Facts → (known : BlockId → Bool) (seal : Option (List ℕ)) (plan : Plan) → AreVerdicts plan.verdicts → AreCounts plan.counts (lines_by plan.verdicts) → IsPlanOf known plan
    → IsPrinted plan.verdicts.damaged.lattice known seal (head_by seal plan) (lines_by plan.verdicts)
printed-by facts known seal plan verdicts counts of =
    let l = plan.verdicts.damaged.lattice in
    let damaged = is_marked plan.verdicts.damaged in
    let reached = is_marked plan.verdicts.reached in
    let reach : (b : BlockId) → HasBlock l b → (reached b ≡ true → IsReached l known b) × (IsReached l known b → reached b ≡ true) = λ b has.
    subst (λ (m : Lattice). HasBlock m b → (reached b ≡ true → IsReached m known b) × (IsReached m known b → reached b ≡ true)) verdicts.same (λ h. of.reached b h) has in
    let all : (b : BlockId) → HasBlock l b → IsReached l known b → reached b ≡ true = λ b has. (reach b has).1 in
    let to : (b : BlockId) → HasBlock l b → reached b ≡ true → IsReached l known b = λ b has. (reach b has).0 in
    let blocks = filter damaged (blocks_of l) in
    record {
      alpha = refl;
      s = refl;
      p = refl;
      n = refl;
      seal_is = refl;
      blocks = blocks_named plan.verdicts blocks ∙ same-filter damaged (λ b. not (known b)) (blocks_of l) (λ k d lt. of.damaged (get_or (blocks_of l) k d) (facts.inside l k d lt));
      each = lines_are l known plan.verdicts blocks (All-filter damaged (HasBlock l) (blocks_of l) (facts.inside l)) (line_is facts l known reached plan.verdicts.losses to all of.losses);
      counted = record { damaged = refl; peeled = counts.peeled; solved = counts.solved; lost = counts.lost };
    }
