-- One of some blocks, and the first one that is not good, whatever good is. For those who go over blocks in order.
use Rattle.std.proofs.Common.{◌≡◌, List, [], ◌∷◌, ◌++◌, sym, ◌∙◌, ap, subst, append_assoc}
use Rattle.std.specs.Prelude.{All}
use Rattle.std.proofs.lemmas.List.Elements.{All-head, All-tail}
use Rattle.aea_lattice.specs.declared.blocks.BlockId.{BlockId}
use Rattle.aea_archive.specs.Objects.{IsOneOf, IsFirstWithout}

-- one of some blocks is one of more
pub among_left : (xs ys : List BlockId) (b : BlockId) → IsOneOf xs b → IsOneOf (xs ++ ys) b
among_left xs ys b has = record { before = has.before; after = has.after ++ ys; are = ap (λ (l : List BlockId). l ++ ys) has.are ∙ append_assoc has.before (b ∷ has.after) ys }

pub among_right : (xs ys : List BlockId) (b : BlockId) → IsOneOf ys b → IsOneOf (xs ++ ys) b
among_right xs ys b has = record { before = xs ++ has.before; after = has.after; are = ap (λ (l : List BlockId). xs ++ l) has.are ∙ sym (append_assoc xs has.before (b ∷ has.after)) }

module _ (good : BlockId → Type 0) where
  -- what all have, one of them has
  pub all_at : (before after : List BlockId) (b : BlockId) → All good (before ++ b ∷ after) → good b
  all_at [] after b all = All-head good b after all
  all_at (x ∷ before) after b all = all_at before after b (All-tail good x (before ++ b ∷ after) all)

  -- no block is the first that is not good, where all are
  pub none_first : (bs : List BlockId) (b : BlockId) → All good bs → IsFirstWithout good bs b → ⊥
  none_first bs b all first = first.bad (all_at first.before first.after b (subst (All good) first.are all))

  -- nor is one of them not good
  pub none_of : (bs : List BlockId) (b : BlockId) → All good bs → IsOneOf bs b → (good b → ⊥) → ⊥
  none_of bs b all among bad = bad (all_at among.before among.after b (subst (All good) among.are all))

  one_at_front : (xs ys : List BlockId) (a b : BlockId) (us vs : List BlockId) → xs ++ a ∷ us ≡ ys ++ b ∷ vs → All good xs → (good a → ⊥) → All good ys → (good b → ⊥) → a ≡ b
  one_at_front [] [] a b us vs same one bad two worse = cc
  one_at_front [] (y ∷ ys) a b us vs same one bad two worse = let e : y ≡ a = cc in absurd (bad (subst good e (All-head good y ys two)))
  one_at_front (x ∷ xs) [] a b us vs same one bad two worse = let e : x ≡ b = cc in absurd (worse (subst good e (All-head good x xs one)))
  one_at_front (x ∷ xs) (y ∷ ys) a b us vs same one bad two worse =
      let e : xs ++ a ∷ us ≡ ys ++ b ∷ vs = cc in
      one_at_front xs ys a b us vs e (All-tail good x xs one) bad (All-tail good y ys two) worse

  -- there is one at most
  pub one_first : (bs : List BlockId) (a b : BlockId) → IsFirstWithout good bs a → IsFirstWithout good bs b → a ≡ b
  one_first bs a b one two = one_at_front one.before two.before a b one.after two.after (sym one.are ∙ two.are) one.good_before one.bad two.good_before two.bad
