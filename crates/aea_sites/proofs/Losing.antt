-- The loss of a lattice: by what the list says of each block, and where more is known that the known blocks determine.
use Rattle.std.proofs.Common.{◌≡◌, ℕ, List, [], ◌∷◌, get_or, Bool, true, false, Option, None, Some, IsTrue, refl, sym, subst}
use Rattle.std.specs.Prelude.{filter, All}
use Rattle.std.specs.Option.{is_some}
use Rattle.std.proofs.lemmas.Bool.{false≢true}
use Rattle.std.proofs.lemmas.List.Elements.{All-head, All-filter}
use Rattle.aea_lattice.specs.declared.blocks.BlockId.{BlockId}
use Rattle.aea_lattice.specs.declared.grid.Lattice.{Lattice}
use Rattle.aea_lattice.specs.Blocks.{HasBlock, blocks_of, number_of}
use Rattle.aea_lattice.specs.Closure.{IsReached}
use Rattle.aea_lattice.specs.Data.{Determines}
use Rattle.aea_lattice.specs.Facts.{BlocksAreInside, ReachedAreDetermined}
use Rattle.aea_lattice.proofs.Derivations.{reached-known}
use Rattle.aea_view.specs.Marked.{Marked, is_marked}
use Rattle.aea_peel.specs.Plans.{AreReached}
use Rattle.aea_fates.specs.Laws.{WordsAreOpen, WordsStay, DeterminedStay, AddsDetermined}
use Rattle.aea_sweep.specs.Losses.{IsLoss, AreLosses}
use Rattle.aea_sites.specs.declared.lost.FirstLost.{FirstLost}
use Rattle.aea_sites.specs.declared.lost.SiteLoss.{SiteLoss}
use Rattle.aea_sites.specs.Losses.{IsFirst, IsLossOf}
use Rattle.aea_sites.specs.Counts.{has_nodes, IsFirstBy, IsCountOf}
use Rattle.aea_sites.proofs.Lists.{none-pass}

-- ---- where all blocks are known

-- nothing is lost
pub none_lost : ReachedAreDetermined → (l : Lattice) (known : BlockId → Bool) (loss : SiteLoss) → ((b : BlockId) → HasBlock l b → known b ≡ true) → loss.lost ≡ 0 → loss.first ≡ None
    → IsLossOf l known loss
none_lost determined l known loss all count first = record {
  blocks = [];
  are = record {
    test = λ b. false;
    reveals = λ b has. (λ t. absurd (false≢true t), λ open'. absurd (open' (determined l known b has (reached-known l known b (all b has)))));
    are = sym (none-pass (blocks_of l));
  };
  count = count;
  first = first;
}

-- ---- by the list

-- a block that has nodes is not determined
some_open : WordsAreOpen → (l : Lattice) (known : BlockId → Bool) (b : BlockId) → HasBlock l b → (nodes : Option (List ℕ)) → IsLoss l known b nodes → is_some nodes ≡ true → Determines l known b → ⊥
some_open open_still l known b has None is t determined = false≢true t
some_open open_still l known b has (Some nodes) is t determined = open_still l known b nodes has is determined

-- and one that is not determined has some
open_some : (l : Lattice) (known : BlockId → Bool) (b : BlockId) (nodes : Option (List ℕ)) → IsLoss l known b nodes → (Determines l known b → ⊥) → is_some nodes ≡ true
open_some l known b None is open' = absurd (open' is)
open_some l known b (Some nodes) is open' = refl

-- the first block with nodes is lost by these
first_lost : (l : Lattice) (known : BlockId → Bool) (losses : List (Option (List ℕ))) → AreLosses l known losses → (blocks : List BlockId) (first : Option FirstLost) → All (HasBlock l) blocks
    → IsFirstBy l losses blocks first → IsFirst l known blocks first
first_lost l known losses are [] first inside is = is
first_lost l known losses are (b ∷ blocks) first inside is = (
  is.0,
  is.1,
  subst (IsLoss l known b) is.2 (are.each b (All-head (HasBlock l) b blocks inside)),
)

-- what is counted by the list is the loss
pub counted_lost : BlocksAreInside → WordsAreOpen → (l : Lattice) (known : BlockId → Bool) (losses : List (Option (List ℕ))) (loss : SiteLoss) → AreLosses l known losses
    → IsCountOf l losses (filter (has_nodes l losses) (blocks_of l)) loss → IsLossOf l known loss
counted_lost inside open_still l known losses loss are counted =
    let test = has_nodes l losses in
    record {
      blocks = filter test (blocks_of l);
      are = record {
        test = test;
        reveals = λ b has. (
          some_open open_still l known b has (get_or losses (number_of l b) None) (are.each b has),
          open_some l known b (get_or losses (number_of l b) None) (are.each b has),
        );
        are = refl;
      };
      count = counted.count;
      first = first_lost l known losses are (filter test (blocks_of l)) loss.first (All-filter test (HasBlock l) (blocks_of l) (inside l)) counted.first;
    }

-- ---- where more is known, of what is determined

-- what is reached adds only what is determined
adds_reached : ReachedAreDetermined → (l : Lattice) (known reached : BlockId → Bool) → ((b : BlockId) → HasBlock l b → IsTrue (reached b) → IsReached l known b)
    → ((b : BlockId) → HasBlock l b → IsReached l known b → IsTrue (reached b)) → AddsDetermined l known reached
adds_reached determined l known reached to all = record {
  within = λ d has t. all d has (reached-known l known d t);
  determined = λ d has t. determined l known d has (to d has t);
}

first_stays : WordsStay → (l : Lattice) (known more : BlockId → Bool) → AddsDetermined l known more → (blocks : List BlockId) (first : Option FirstLost) → IsFirst l more blocks first → IsFirst l known blocks first
first_stays words l known more adds [] first is = is
first_stays words l known more adds (b ∷ blocks) first is = (is.0, is.1, (words l known more adds b is.0).1 is.2)

-- the loss stays
loss_stays : WordsStay → DeterminedStay → (l : Lattice) (known more : BlockId → Bool) (loss : SiteLoss) → AddsDetermined l known more → IsLossOf l more loss → IsLossOf l known loss
loss_stays words stay l known more loss adds of = record {
  blocks = of.blocks;
  are = record {
    test = of.are.test;
    reveals = λ b has. (
      λ t determined. (of.are.reveals b has).0 t ((stay l known more adds b).0 determined),
      λ open'. (of.are.reveals b has).1 (λ determined. open' ((stay l known more adds b).1 determined)),
    );
    are = of.are.are;
  };
  count = of.count;
  first = first_stays words l known more adds of.blocks loss.first of.first;
}

-- The loss where all is known that is reached is that of the known blocks.
pub loss_of_reached : ReachedAreDetermined → WordsStay → DeterminedStay → (l : Lattice) (marks : Marked) (known : BlockId → Bool) (loss : SiteLoss) → marks.lattice ≡ l → AreReached marks known
    → IsLossOf marks.lattice (is_marked marks) loss → IsLossOf l known loss
loss_of_reached determined words stay l marks known loss same reached of =
    let m = marks.lattice in
    subst (λ (x : Lattice). IsLossOf x known loss) same
    (loss_stays words stay m known (is_marked marks) loss
    (adds_reached determined m known (is_marked marks) (λ b has. (reached b has).0) (λ b has. (reached b has).1)) of)
