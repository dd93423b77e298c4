-- Blocks that were looked at stay so while a search goes on.
use Rattle.std.proofs.Common.{◌≡◌, true, false, Bool, List, [], ◌∷◌, ◌++◌, sym, ap, subst}
use Rattle.std.specs.Prelude.{All, not}
use Rattle.std.proofs.lemmas.List.Elements.{All-nil, All-cons, All-head, All-tail}
use Rattle.aea_lattice.specs.declared.blocks.BlockId.{BlockId}
use Rattle.aea_lattice.specs.declared.grid.Lattice.{Lattice}
use Rattle.aea_lattice.specs.Blocks.{HasBlock}
use Rattle.aea_view.specs.Marked.{is_marked}
use Rattle.aea_fetch.proofs.Loops.{HasSeen}
use Rattle.aea_search.specs.Searches.{Searched, IsRightBy}

pub front_all : {X : Type 0} (P : X → Type 0) (xs ys : List X) → All P (xs ++ ys) → All P xs
front_all P [] ys all = All-nil P
front_all P (x ∷ xs) ys all = All-cons P x xs (All-head P x (xs ++ ys) all) (front_all P xs ys (All-tail P x (xs ++ ys) all))

-- what follows of two things holds where both do
pub all_both : {X : Type 0} (P Q R : X → Type 0) → ((x : X) → P x → Q x → R x) → (xs : List X) → All P xs → All Q xs → All R xs
all_both P Q R both [] p q = All-nil R
all_both P Q R both (x ∷ xs) p q = All-cons R x xs (both x (All-head P x xs p) (All-head Q x xs q)) (all_both P Q R both xs (All-tail P x xs p) (All-tail Q x xs q))

-- what was seen of the blocks before is seen of them later
pub seen_later : (reveals : Type 0) (has good later : BlockId → Type 0) → ((b : BlockId) → has b → good b → later b) → (all left : List BlockId) → All has all → HasSeen reveals good all left → HasSeen reveals later all left
seen_later reveals has good later both all left inside seen = record {
  front = seen.front;
  are = seen.are;
  seen = λ revealed. all_both has good later both seen.front (front_all has seen.front left (subst (All has) seen.are inside)) (seen.seen revealed);
}

-- of blocks that were read a right test says which are unknown
pub read_marked : (l : Lattice) (known : BlockId → Bool) (s : Searched) → IsRightBy l known s → (blocks : List BlockId) → All (HasBlock l) blocks → All (λ b. is_marked s.read b ≡ true) blocks
    → All (λ b. known b ≡ not (is_marked s.unknown b)) blocks
read_marked l known s right blocks inside read =
    all_both (HasBlock l) (λ b. is_marked s.read b ≡ true) (λ b. known b ≡ not (is_marked s.unknown b)) (λ b has is. known_by (known b) (is_marked s.unknown b) (right b has is)) blocks inside read
  where
    known_by : (x y : Bool) → y ≡ not x → x ≡ not y
    known_by true y is = sym (ap not is)
    known_by false y is = sym (ap not is)
