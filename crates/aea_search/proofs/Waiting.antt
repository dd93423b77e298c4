-- The blocks that wait: what is left of those that were found, behind those that were gone around.
use Rattle.std.proofs.Common.{◌≡◌, ℕ, suc, ◌+◌, ◌<◌, ◌≤◌, Option, Some, None, MatchOption, List, [], ◌∷◌, ◌++◌, length, get_or, drop, slice_get, inl, inr, ◌⊎◌, refl, sym, ◌∙◌, ap, subst, arith, length-drop, drop-cons}
use Rattle.std.specs.Prelude.{Contains}
use Rattle.std.proofs.Math.ListN.{drop_of_length-le}
use Rattle.std.proofs.lemmas.Bool.{cases_lt}
use Rattle.std.proofs.lemmas.Option.{slice_get_within, slice_get-get_or}
use Rattle.std.proofs.lemmas.List.Elements.{Contains-append_cases, Contains-push_cases}
use Rattle.aea_lattice.specs.declared.blocks.BlockId.{BlockId}
use Rattle.aea_lattice.specs.declared.blocks.Class.TheVariants.{Datum}
use Rattle.aea_lattice.specs.declared.grid.Lattice.{Lattice}
use Rattle.aea_lattice.specs.Blocks.{HasBlock, block_of}
use Rattle.aea_search.specs.Searches.{Searched, IsSearch, IsFirst}

-- the first item of a list is in it
pub head_in : {X : Type 0} (x : X) (xs : List X) → Contains (x ∷ xs) x
head_in x xs = (0, omega arith, refl)

-- what is in a list is its first item, or in the others
pub head_or_rest : {X : Type 0} (x : X) (xs : List X) (y : X) → Contains (x ∷ xs) y → (x ≡ y) ⊎ Contains xs y
head_or_rest x xs y c =
    elim (Contains-append_cases (x ∷ []) xs y c) [
      | inl one ↦ elim (Contains-push_cases [] x y one) [ inl none ↦ absurd (omega (arith, none.1)) | inr is ↦ inl is ]
      | inr other ↦ inr other
    ]

-- where an item is at a place, it is the first one from there
pub from_there : {X : Type 0} (xs : List X) (k : ℕ) (x : X) → k < length xs → drop k xs ≡ get_or xs k x ∷ drop (k + 1) xs
from_there xs k x below =
    let next : suc k ≡ k + 1 = omega arith in
    drop-cons xs k x below ∙ ap (λ i. get_or xs k x ∷ drop i xs) next

item_there : {X : Type 0} (xs : List X) (k : ℕ) (x : X) → slice_get xs k ≡ Some x → get_or xs k x ≡ x
item_there xs k x here =
    let below = slice_get_within xs k x here in
    let one : Some (get_or xs k x) ≡ Some x = sym (slice_get-get_or xs k x below) ∙ here in cc

-- and where none is there, none is left
none_left : {X : Type 0} (xs : List X) (k : ℕ) → slice_get xs k ≡ None → drop k xs ≡ []
none_left xs k none = elim (cases_lt k (length xs)) [
  | inl below ↦
      elim xs as (λ ys. slice_get ys k ≡ None → k < length ys → drop k ys ≡ []) [
        | [] ↦ λ _ inside. absurd (omega (arith, inside))
        | y ∷ ys ↦ λ missing inside. let some = slice_get-get_or (y ∷ ys) k y inside in absurd (let e : None ≡ Some (get_or (y ∷ ys) k y) = sym missing ∙ some in cc)
      ] none below
  | inr past ↦ drop_of_length-le xs past
]

-- the first block that waits
pub first_of : (s : Searched) (found : List BlockId) (gone : ℕ) → IsSearch s → drop gone found ≡ s.waiting → (r : Option BlockId) → r ≡ slice_get found gone
    → MatchOption r (s.waiting ≡ []) (IsFirst s)
first_of s found gone holds waiting None is = sym waiting ∙ none_left found gone (sym is)
first_of s found gone holds waiting (Some b) is =
    let here : slice_get found gone ≡ Some b = sym is in
    let waits : s.waiting ≡ b ∷ drop (gone + 1) found =
    sym waiting ∙ from_there found gone b (slice_get_within found gone b here) ∙ ap (λ x. x ∷ drop (gone + 1) found) (item_there found gone b here) in
    record {
      others = drop (gone + 1) found;
      waits = waits;
      block = holds.inside b (subst (λ xs. Contains xs b) (sym waits) (head_in b (drop (gone + 1) found)));
    }

-- where some wait, one of those that were found is the first of them
pub record HasFirst (s : Searched) (found : List BlockId) (gone : ℕ) : Type 0 where
  pub below : gone + 1 ≤ length found
  pub block : BlockId
  pub first : IsFirst s block
  pub waits : s.waiting ≡ block ∷ drop (gone + 1) found

pub some_first : (s : Searched) (found : List BlockId) (gone : ℕ) → IsSearch s → drop gone found ≡ s.waiting → 0 < length s.waiting → HasFirst s found gone
some_first s found gone is waiting some =
    let below : gone < length found = omega (arith, some, ap length waiting, length-drop gone found) in
    let b = get_or found gone (block_of 0 Datum) in
    let others = drop (gone + 1) found in
    let waits : s.waiting ≡ b ∷ others = sym waiting ∙ from_there found gone (block_of 0 Datum) below in
    record {
      below = omega (arith, below);
      block = b;
      first = record { others = others; waits = waits; block = is.inside b (subst (λ xs. Contains xs b) (sym waits) (head_in b others)) };
      waits = waits;
    }

-- there is one first
pub first_is : (s : Searched) (a b : BlockId) (xs : List BlockId) → s.waiting ≡ a ∷ xs → IsFirst s b → s.waiting ≡ b ∷ xs
first_is s a b xs waits first =
    let both : a ∷ xs ≡ b ∷ first.others = sym waits ∙ first.waits in
    let one : a ≡ b = cc in waits ∙ ap (λ x. x ∷ xs) one

-- where more wait behind them, the first one stays
pub first_still : (s t : Searched) (more : List BlockId) (b : BlockId) → t.waiting ≡ s.waiting ++ more → t.read.lattice ≡ s.read.lattice → IsFirst s b → IsFirst t b
first_still s t more b waits same first = record {
  others = first.others ++ more;
  waits = waits ∙ ap (λ xs. xs ++ more) first.waits;
  block = subst (λ (l : Lattice). HasBlock l b) (sym same) first.block;
}

pub one_first : (s : Searched) (a b : BlockId) → IsFirst s a → IsFirst s b → a ≡ b
one_first s a b one other =
    let both : a ∷ one.others ≡ b ∷ other.others = sym one.waits ∙ other.waits in cc
