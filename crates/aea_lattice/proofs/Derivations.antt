-- Derivations: how they are joined and made longer, and what they stay within.
use Rattle.std.proofs.Common.{◌≡◌, ◌≢◌, Bool, true, ◌||◌, List, [], ◌∷◌, ◌++◌, filter, IsTrue, ◌⊎◌, inl, inr, sym, ◌∙◌, ap, subst}
use Rattle.std.proofs.lemmas.Bool.{or_cases, or_left, or_right, cases_Bool, cond-true, cond-false, false≢true}
use Rattle.std.proofs.lemmas.List.Folds.{list_any-append}
use Rattle.aea_lattice.specs.declared.blocks.BlockId.{BlockId}
use Rattle.aea_lattice.specs.declared.blocks.EqId.{EqId}
use Rattle.aea_lattice.specs.declared.grid.Lattice.{Lattice}
use Rattle.aea_lattice.specs.Blocks.{same_block}
use Rattle.aea_lattice.specs.Equations.{is_in_equation, equation_blocks}
use Rattle.aea_lattice.specs.Closure.{IsForcedBy, IsDerivation, IsReached, is_among}
use Rattle.aea_lattice.proofs.Equations.{same_block-equal, same_block-refl}

-- ---- blocks in lists

pub among-append_left : (xs ys : List BlockId) (d : BlockId) → is_among xs d ≡ true → is_among (xs ++ ys) d ≡ true
among-append_left xs ys d h = list_any-append (same_block d) xs ys ∙ or_left (is_among xs d) (is_among ys d) h

pub among-append_right : (xs ys : List BlockId) (d : BlockId) → is_among ys d ≡ true → is_among (xs ++ ys) d ≡ true
among-append_right xs ys d h = list_any-append (same_block d) xs ys ∙ or_right (is_among xs d) (is_among ys d) h

-- a block is in each list that begins with it
pub among-first : (xs : List BlockId) (d : BlockId) → is_among (d ∷ xs) d ≡ true
among-first xs d = or_left (same_block d d) (is_among xs d) (same_block-refl d)

-- what is in a list of blocks is in it too with one more block in front
pub among-rest : (x : BlockId) (xs : List BlockId) (d : BlockId) → is_among xs d ≡ true → is_among (x ∷ xs) d ≡ true
among-rest x xs d h = or_right (same_block d x) (is_among xs d) h

-- a block of a list is its first, or one of the rest
pub among_cases : (x : BlockId) (xs : List BlockId) (d : BlockId) → is_among (x ∷ xs) d ≡ true → (d ≡ x) ⊎ (is_among xs d ≡ true)
among_cases x xs d h =
    elim (or_cases (same_block d x) (is_among xs d) h) [
      | inl same ↦ inl (same_block-equal d x same)
      | inr rest ↦ inr rest
    ]

-- a block that is in a list and in a set is among those of the list that are in the set
pub among-filter : (known : BlockId → Bool) (xs : List BlockId) (d : BlockId) → is_among xs d ≡ true → known d ≡ true
    → is_among (filter known xs) d ≡ true
among-filter known [] d h k = absurd (false≢true h)
among-filter known (x ∷ xs) d h k =
    elim (among_cases x xs d h) [
      | inl same ↦
          subst (λ list. is_among list d ≡ true) (sym (cond-true (known x) (x ∷ filter known xs) (filter known xs) (ap known (sym same) ∙ k)))
          (or_left (same_block d x) (is_among (filter known xs) d) (ap (same_block d) (sym same) ∙ same_block-refl d))
      | inr rest ↦
          let below : is_among (filter known xs) d ≡ true = among-filter known xs d rest k in
          elim (cases_Bool (known x)) [
            | inl in_set ↦
                subst (λ list. is_among list d ≡ true) (sym (cond-true (known x) (x ∷ filter known xs) (filter known xs) in_set))
                (among-rest x (filter known xs) d below)
            | inr outside ↦
                subst (λ list. is_among list d ≡ true) (sym (cond-false (known x) (x ∷ filter known xs) (filter known xs) outside)) below
          ]
    ]

-- ---- derivations

-- what is forced by some blocks of an equation is forced by more
pub forced-more : (l : Lattice) (known more : BlockId → Bool) (b : BlockId) (e : EqId)
    → ((d : BlockId) → IsTrue (is_in_equation l e d) → known d ≡ true → more d ≡ true)
    → IsForcedBy l known b e → IsForcedBy l more b e
forced-more l known more b e larger forced = record {
  equation = forced.equation;
  contains = forced.contains;
  others = λ d member other. larger d member (forced.others d member other);
}

-- two derivations, one after the other
pub derivation-append : (l : Lattice) (known : BlockId → Bool) (xs ys : List BlockId)
    → IsDerivation l known xs → IsDerivation l known ys → IsDerivation l known (xs ++ ys)
derivation-append l known [] ys h k = k
derivation-append l known (x ∷ xs) ys h k = (
  derivation-append l known xs ys h.0 k,
  elim h.1 [
    | inl in_set ↦ inl in_set
    | inr given ↦
        inr (given.0, forced-more l (is_among xs) (is_among (xs ++ ys)) x given.0 (λ d member. among-append_left xs ys d) given.1)
  ],
)

-- the blocks of a list that are in the set
pub derivation-filter : (l : Lattice) (known : BlockId → Bool) (xs : List BlockId) → IsDerivation l known (filter known xs)
derivation-filter l known [] = tt
derivation-filter l known (x ∷ xs) =
    elim (cases_Bool (known x)) [
      | inl in_set ↦
          subst (IsDerivation l known) (sym (cond-true (known x) (x ∷ filter known xs) (filter known xs) in_set))
          (derivation-filter l known xs, inl in_set)
      | inr outside ↦
          subst (IsDerivation l known) (sym (cond-false (known x) (x ∷ filter known xs) (filter known xs) outside))
          (derivation-filter l known xs)
    ]

-- a derivation goes on with the blocks of a list that are in the set
pub derivation-known : (l : Lattice) (known : BlockId → Bool) (xs list : List BlockId) → IsDerivation l known list
    → IsDerivation l known (filter known xs ++ list)
derivation-known l known xs list h = derivation-append l known (filter known xs) list (derivation-filter l known xs) h

-- a derivation goes on with a block that its blocks force
pub derivation-forced : (l : Lattice) (known : BlockId → Bool) (list : List BlockId) (b : BlockId) (e : EqId)
    → IsForcedBy l (is_among list) b e → IsDerivation l known list → IsDerivation l known (b ∷ list)
derivation-forced l known list b e forced h = (h, inr (e, forced))

-- A derivation of all of `given`, made longer by a block that the set and `given` force.
pub derivation-push : (l : Lattice) (known given : BlockId → Bool) (list : List BlockId) (b : BlockId) (e : EqId)
    → IsForcedBy l (λ d. known d || given d) b e
    → IsDerivation l known list
    → ((d : BlockId) → given d ≡ true → is_among list d ≡ true)
    → (new : List BlockId) × IsDerivation l known new × (is_among new b ≡ true) × ((d : BlockId) → is_among list d ≡ true → is_among new d ≡ true)
derivation-push l known given list b e forced h all =
    let in_set : List BlockId = filter known (equation_blocks l e) in
    let before : List BlockId = in_set ++ list in
    let larger : (d : BlockId) → IsTrue (is_in_equation l e d) → (known d || given d) ≡ true → is_among before d ≡ true =
    λ d member k. elim (or_cases (known d) (given d) k) [
      | inl known_one ↦ among-append_left in_set list d (among-filter known (equation_blocks l e) d member known_one)
      | inr given_one ↦ among-append_right in_set list d (all d given_one)
    ] in (
      b ∷ before,
      derivation-forced l known before b e (forced-more l (λ d. known d || given d) (is_among before) b e larger forced)
          (derivation-known l known (equation_blocks l e) list h),
      among-first before b,
      λ d in_list. among-rest b before d (among-append_right in_set list d in_list),
    )

-- ---- the closure

-- each block of a derivation is reached
pub reached-among : (l : Lattice) (known : BlockId → Bool) (list : List BlockId) (b : BlockId)
    → IsDerivation l known list → is_among list b ≡ true → IsReached l known b
reached-among l known [] b h k = absurd (false≢true k)
reached-among l known (x ∷ xs) b h k =
    elim (among_cases x xs b k) [
      | inl same ↦ subst (IsReached l known) (sym same) (xs, h)
      | inr rest ↦ reached-among l known xs b h.0 rest
    ]

-- a block of a set is in the closure of the set
pub reached-known : (l : Lattice) (known : BlockId → Bool) (b : BlockId) → known b ≡ true → IsReached l known b
reached-known l known b k = ([], (tt, inl k))

-- a derivation with all reached blocks of a list but one
gathered : (l : Lattice) (known : BlockId → Bool) (b : BlockId) (xs : List BlockId)
    → ((d : BlockId) → is_among xs d ≡ true → d ≢ b → IsReached l known d)
    → (list : List BlockId) × IsDerivation l known list × ((d : BlockId) → is_among xs d ≡ true → d ≢ b → is_among list d ≡ true)
gathered l known b [] all = ([], tt, λ d h other. absurd (false≢true h))
gathered l known b (x ∷ xs) all =
    let rest = gathered l known b xs (λ d h other. all d (among-rest x xs d h) other) in
    elim (cases_Bool (same_block x b)) [
      | inl same ↦ (
        rest.0,
        rest.1,
        λ d h other. elim (among_cases x xs d h) [
          | inl first ↦ absurd (other (first ∙ same_block-equal x b same))
          | inr later ↦ rest.2 d later other
        ],
      )
      | inr differs ↦
          let reached : IsReached l known x = all x (among-first xs x) (λ is. false≢true (sym differs ∙ ap (λ y. same_block y b) is ∙ same_block-refl b)) in (
            (x ∷ reached.0) ++ rest.0,
            derivation-append l known (x ∷ reached.0) rest.0 reached.1 rest.1,
            λ d h other. elim (among_cases x xs d h) [
              | inl first ↦
                  among-append_left (x ∷ reached.0) rest.0 d (or_left (same_block d x) (is_among reached.0 d) (ap (same_block d) (sym first) ∙ same_block-refl d))
              | inr later ↦ among-append_right (x ∷ reached.0) rest.0 d (rest.2 d later other)
            ],
          )
    ]

-- what reached blocks force is reached
pub reached-forced : (l : Lattice) (known within : BlockId → Bool) (b : BlockId) (e : EqId)
    → ((d : BlockId) → within d ≡ true → IsReached l known d)
    → IsForcedBy l within b e → IsReached l known b
reached-forced l known within b e all forced =
    let others = gathered l known b (equation_blocks l e) (λ d member other. all d (forced.others d member other)) in (
      others.0,
      derivation-forced l known others.0 b e
          (record { equation = forced.equation; contains = forced.contains; others = λ d member other. others.2 d member other })
          others.1,
    )

-- A set that has what is known, and each block that it forces, has each block of a derivation.
pub derivation-within : (l : Lattice) (known within : BlockId → Bool)
    → ((d : BlockId) → known d ≡ true → within d ≡ true)
    → ((e : EqId) (b : BlockId) → IsForcedBy l within b e → within b ≡ true)
    → (list : List BlockId) → IsDerivation l known list → (d : BlockId) → is_among list d ≡ true → within d ≡ true
derivation-within l known within has closed [] h d k = absurd (false≢true k)
derivation-within l known within has closed (x ∷ xs) h d k =
    elim (among_cases x xs d k) [
      | inl same ↦
          subst (λ b. within b ≡ true) (sym same)
          (elim h.1 [
            | inl in_set ↦ has x in_set
            | inr given ↦
                closed given.0 x
                (forced-more l (is_among xs) within x given.0 (λ c member. derivation-within l known within has closed xs h.0 c) given.1)
          ])
      | inr rest ↦ derivation-within l known within has closed xs h.0 d rest
    ]

-- A set that has what is known, and each block that it forces, has the closure.
pub reached-within : (l : Lattice) (known within : BlockId → Bool)
    → ((d : BlockId) → known d ≡ true → within d ≡ true)
    → ((e : EqId) (b : BlockId) → IsForcedBy l within b e → within b ≡ true)
    → (b : BlockId) → IsReached l known b → within b ≡ true
reached-within l known within has closed b reached =
    derivation-within l known within has closed (b ∷ reached.0) reached.1 b (among-first reached.0 b)
