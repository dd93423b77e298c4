-- Loops over blocks in order, whatever is good and whatever a payload is. For their invariants: `HasSeen` of a loop that
-- looks for the first block that is not good, and `HasReached` of one that prints a payload of each.
use Rattle.std.proofs.Common.{◌≡◌, ℕ, ◌+◌, ◌-◌, ◌*◌, List, [], ◌∷◌, ◌++◌, length, refl, sym, ◌∙◌, ap, subst, arith, append_assoc, length-append}
use Rattle.std.specs.Prelude.{All}
use Rattle.std.proofs.lemmas.List.{append-nil}
use Rattle.std.proofs.lemmas.List.Elements.{All-nil, All-cons, All-append}
use Rattle.aea_io.specs.Streams.{SinkState}
use Rattle.aea_lattice.specs.declared.blocks.BlockId.{BlockId}
use Rattle.aea_archive.specs.Objects.{IsOneOf, IsFirstWithout}
use Rattle.aea_fetch.specs.Copies.{HasCopied, HasCut}
use Rattle.aea_fetch.proofs.Copies.{copied_none, copied_then, cut_front, cut_then}

-- all blocks are those that were seen and those that are left
one_more : (all front left : List BlockId) (b : BlockId) → all ≡ front ++ b ∷ left → all ≡ (front ++ b ∷ []) ++ left
one_more all front left b are = are ∙ sym (append_assoc front (b ∷ []) left)

-- ---- the first block that is not good

-- Of all these blocks some are left, and the ones before them are good.
pub record HasSeen (reveals : Type 0) (good : BlockId → Type 0) (all left : List BlockId) : Type 0 where
  pub front : List BlockId
  pub are : all ≡ front ++ left
  pub seen : reveals → All good front

module _ (reveals : Type 0) (good : BlockId → Type 0) where
  pub seen_none : (all : List BlockId) → HasSeen reveals good all all
  seen_none all = record { front = []; are = refl; seen = λ revealed. All-nil good }

  -- the next one is good
  pub seen_more : (all left : List BlockId) (b : BlockId) → HasSeen reveals good all (b ∷ left) → (reveals → good b) → HasSeen reveals good all left
  seen_more all left b has is = record {
    front = has.front ++ b ∷ [];
    are = one_more all has.front left b has.are;
    seen = λ revealed. All-append good has.front (b ∷ []) (has.seen revealed) (All-cons good b [] (is revealed) (All-nil good));
  }

  -- it is not
  pub seen_one : (all left : List BlockId) (b : BlockId) → HasSeen reveals good all (b ∷ left) → IsOneOf all b
  seen_one all left b has = record { before = has.front; after = left; are = has.are }

  pub seen_first : (all left : List BlockId) (b : BlockId) → HasSeen reveals good all (b ∷ left) → reveals → (good b → ⊥) → IsFirstWithout good all b
  seen_first all left b has revealed bad = record { before = has.front; after = left; are = has.are; good_before = has.seen revealed; bad = bad }

  -- none is left
  pub seen_all : (all : List BlockId) → HasSeen reveals good all [] → reveals → All good all
  seen_all all has revealed = subst (All good) (sym (has.are ∙ append-nil has.front)) (has.seen revealed)

-- ---- payloads that are printed

-- Of all these blocks some are left, and payloads of the ones before them were printed; of the bytes that are wanted so many
-- are left, where a payload has so many.
pub record HasReached (has : BlockId → List ℕ → Type 0) (size : ℕ) (all left : List BlockId) (most rest : ℕ) (old : SinkState) (before : List ℕ) (new : SinkState) (after : List ℕ) : Type 0 where
  pub front : List BlockId
  pub are : all ≡ front ++ left
  pub rest_is : rest ≡ most - length front * size
  pub copied : HasCopied has front most old before new after

module _ (has : BlockId → List ℕ → Type 0) (size : ℕ) (wide : (b : BlockId) (p : List ℕ) → has b p → length p ≡ size) where
  pub reached_none : (all : List BlockId) (most : ℕ) (s : SinkState) (gathered : List ℕ) → HasReached has size all all most most s gathered s gathered
  reached_none all most s gathered = record { front = []; are = refl; rest_is = omega arith; copied = copied_none has most s gathered }

  -- that of the next one was printed
  pub reached_more : (all left : List BlockId) (b : BlockId) (most rest later : ℕ) (old mid new : SinkState) (p q r : List ℕ) → HasReached has size all (b ∷ left) most rest old p mid q → HasCopied has (b ∷ []) rest mid q new r → later ≡ rest - size
      → HasReached has size all left most later old p new r
  reached_more all left b most rest later old mid new p q r reached one is =
      let n = length reached.front in
      let many : length (reached.front ++ b ∷ []) * size ≡ (n + 1) * size = ap (λ (m : ℕ). m * size) (length-append reached.front (b ∷ [])) in
      let more : (n + 1) * size ≡ n * size + size = omega arith in
      let so_far = reached.rest_is in
      record {
        front = reached.front ++ b ∷ [];
        are = one_more all reached.front left b reached.are;
        rest_is = omega (arith, is, so_far, many, more);
        copied = copied_then has size wide reached.front (b ∷ []) most rest old mid new p q r reached.rest_is reached.copied one;
      }

  -- it was cut short there
  pub reached_cut : (all left : List BlockId) (b : BlockId) (most rest : ℕ) (old mid new : SinkState) (p q : List ℕ) (output : Type 0) → HasReached has size all (b ∷ left) most rest old p mid q → HasCut has (b ∷ []) rest mid q new output → HasCut has all most old p new output
  reached_cut all left b most rest old mid new p q output reached cut =
      subst (λ (bs : List BlockId). HasCut has bs most old p new output) (sym reached.are)
      (cut_then has size wide reached.front (b ∷ left) most rest old mid new p q output reached.rest_is reached.copied (cut_front has (b ∷ []) left rest mid new q output cut))

  -- none is left
  pub reached_all : (all : List BlockId) (most rest : ℕ) (old new : SinkState) (p q : List ℕ) → HasReached has size all [] most rest old p new q → HasCopied has all most old p new q
  reached_all all most rest old new p q reached = subst (λ (bs : List BlockId). HasCopied has bs most old p new q) (sym (reached.are ∙ append-nil reached.front)) reached.copied

  -- the next one is one of all
  pub reached_one : (all left : List BlockId) (b : BlockId) (most rest : ℕ) (old new : SinkState) (p q : List ℕ) → HasReached has size all (b ∷ left) most rest old p new q → IsOneOf all b
  reached_one all left b most rest old new p q reached = record { before = reached.front; after = left; are = reached.are }
