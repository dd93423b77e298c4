-- How names compare with one that is looked for, in the order that is kept in pieces.
use Rattle.std.proofs.Common.{◌≡◌, ℕ, ◌+◌, ◌<◌, ◌≤◌, List, [], length, get_or, sym, ap, ◌∙◌, subst, arith}
use Rattle.std.specs.declared.cmp.Ordering.TheVariants.{Less, Equal, Greater}
use Rattle.std.proofs.lemmas.List.{length-map}
use Rattle.std.proofs.lemmas.List.Folds.{length-flat_map-take}
use Rattle.aea_catalog.specs.Pieces.{joined, before_piece}
use Rattle.aea_catalog.specs.Kept.{Pair, name_cmp, no_pair, pair_at, name_at, listed, IsKept, IsAt, HasName, HasGap}
use Rattle.aea_catalog.proofs.Places.{rising-at}
use Rattle.aea_catalog.proofs.Pieces.{get_or-joined}
use Rattle.aea_catalog.proofs.Catalogues.{rising, lesser_before, greater_after, at_tie}

module _ (pairs : List Pair) (pieces : List (List ℕ)) (kept : IsKept pairs (joined pieces)) (name : List ℕ) where
  -- the name at a place of a piece was compared with the one that is looked for
  module _ (m at : ℕ) (piece : List ℕ) (within : m < length pieces) (is : piece ≡ get_or pieces m []) (at_in : at < length piece) where
    at_there : at < length (get_or pieces m [])
    at_there = subst (λ (l : List ℕ). at < length l) is at_in

    there : before_piece pieces m + at < length (joined pieces)
    there = omega (arith, at_there, length-flat_map-take (λ p. p) pieces m [] within)

    index_is : get_or piece at 0 ≡ get_or (joined pieces) (before_piece pieces m + at) 0
    index_is = ap (λ l. get_or l at 0) is ∙ sym (get_or-joined pieces m at 0 within at_there)

    -- it is the name of an entry
    pub in_entries : get_or piece at 0 < length pairs
    in_entries = subst (λ (i : ℕ). i < length pairs) (sym index_is) (kept.in_range (before_piece pieces m + at) 0 there)

    -- where it is lesser, so are those before it
    pub lesser_through : Less ≡ name_cmp (name_at pairs (get_or piece at 0)) name → (k : ℕ) → k < before_piece pieces m + (at + 1) → name_cmp (name_at (listed pairs (joined pieces)) k) name ≡ Less
    lesser_through lesser k lt = lesser_before pairs (joined pieces) kept name (before_piece pieces m + at) there (lesser ∙ ap (λ i. name_cmp (name_at pairs i) name) index_is) k (omega arith)

    -- where it is greater, so are those after it
    pub greater_from : Greater ≡ name_cmp (name_at pairs (get_or piece at 0)) name → (k : ℕ) → before_piece pieces m + at ≤ k → k < length (joined pieces) → name_cmp name (name_at (listed pairs (joined pieces)) k) ≡ Less
    greater_from greater k le lt =
        greater_after pairs (joined pieces) kept name (before_piece pieces m + at) there (greater ∙ ap (λ i. name_cmp (name_at pairs i) name) index_is) k le
        (omega (arith, length-map (joined pieces) (pair_at pairs)))

    -- where they tie, that is the place of the name
    tied_there : Equal ≡ name_cmp (name_at pairs (get_or piece at 0)) name → IsAt (listed pairs (joined pieces)) name (before_piece pieces m + at)
    tied_there tied = at_tie pairs (joined pieces) kept name (before_piece pieces m + at) there (tied ∙ ap (λ i. name_cmp (name_at pairs i) name) index_is)

    pub found_there : Equal ≡ name_cmp (name_at pairs (get_or piece at 0)) name → HasName pairs pieces name (record { piece = m; at = at })
    found_there tied = record { is_in = record { piece_in = within; at_in = at_there }; is_at = tied_there tied }

    -- and those before it are lesser
    pub lesser_before_tie : Equal ≡ name_cmp (name_at pairs (get_or piece at 0)) name → (k : ℕ) → k < before_piece pieces m + at → name_cmp (name_at (listed pairs (joined pieces)) k) name ≡ Less
    lesser_before_tie tied k lt =
        subst (λ (x : List ℕ). name_cmp (name_at (listed pairs (joined pieces)) k) x ≡ Less) (tied_there tied).has_name
        (rising-at name_cmp (listed pairs (joined pieces)) no_pair k (before_piece pieces m + at) (rising pairs (joined pieces) kept) lt (tied_there tied).in_range)

  -- the gap for the name, in a piece
  pub gap_there : (m at : ℕ) (piece : List ℕ) → m < length pieces → piece ≡ get_or pieces m [] → at ≤ length piece
      → ((k : ℕ) → k < before_piece pieces m + at → name_cmp (name_at (listed pairs (joined pieces)) k) name ≡ Less)
      → ((k : ℕ) → before_piece pieces m + at ≤ k → k < length (joined pieces) → name_cmp name (name_at (listed pairs (joined pieces)) k) ≡ Less)
      → HasGap pairs pieces name (record { piece = m; at = at })
  gap_there m at piece within is at_in before after =
      let at_there : at ≤ length (get_or pieces m []) = subst (λ (l : List ℕ). at ≤ length l) is at_in in
      let as_many = length-map (joined pieces) (pair_at pairs) in
      record {
        is_within = record { piece_in = omega arith; at_in = at_there };
        is_gap = record {
          in_range = omega (arith, length-flat_map-take (λ p. p) pieces m [] within);
          before = before;
          after = λ k le lt. after k le (omega arith);
        };
      }
