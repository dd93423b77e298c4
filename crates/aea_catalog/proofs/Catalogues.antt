-- What the vectors of a catalogue contain.
use Rattle.std.proofs.Common.{◌≡◌, ℕ, ◌+◌, ◌<◌, ◌≤◌, Bool, true, false, T, List, [], ◌∷◌, ◌++◌, length, get_or, Some, None, sym, refl, inl, inr, ap, subst, ◌∙◌, arith, length-append, slice_get, IsTrue}
use Rattle.std.specs.declared.cmp.Ordering.TheVariants.{Less, Equal, Greater}
use Rattle.std.specs.Ordering.{is_eq, ordering_reverse}
use Rattle.std.proofs.lemmas.Bool.{cases_lt}
use Rattle.std.specs.Cmp.Lexicographic.{nat_list_cmp_total}
use Rattle.std.specs.List.{insert}
use Rattle.std.specs.Option.{option_map}
use Rattle.std.specs.FinMap.{FinMap, from_sorted, entries, entries-from_sorted, entries-insert, get-from_sorted, same_entries_map, slice_cmp-IsAntisymmetric, nat_cmp-IsAntisymmetric}
use Rattle.std.specs.FinMap as finite
use Rattle.std.specs.FinMap.Entries.{put, is_sorted, is_sorted-put}
use Rattle.std.proofs.lemmas.Cmp.{tied_itself}
use Rattle.std.proofs.lemmas.List.{length-map, get_or-map, get_or_default}
use Rattle.std.proofs.lemmas.Option.{slice_get-get_or, slice_get_within, slice_get-map, get_or_from_slice_get}
use Rattle.std.proofs.lemmas.List.Edits.{length-insert}
use Rattle.std.proofs.lemmas.List.Elements.{All-push, All-weaker}
use Rattle.aea_catalog.specs.Catalogs.{Placed}
use Rattle.aea_catalog.specs.Names.{IsName}
use Rattle.aea_catalog.specs.Kept.{Pair, name_cmp, no_pair, pair_at, name_at, listed, IsKept, IsAt, IsGapFor}
use Rattle.aea_catalog.proofs.Places.{flipped, find-at, find-absent, put-at, before-lesser, after-greater}
use Rattle.aea_catalog.proofs.Orders.{picked-insert, All-insert}

-- between the two forms of a test that holds
pub T-from_true : (b : Bool) → IsTrue b → T b
T-from_true b h = subst T (sym h) tt

-- and back
true-from_T : (b : Bool) → T b → IsTrue b
true-from_T true h = refl
true-from_T false h = absurd h

-- the map of the entries in order
abbrev pub objects_of : List Pair → List ℕ → FinMap name_cmp Placed
objects_of pairs order = from_sorted (listed pairs order)

-- with no entry it is empty
pub objects_of-nil : objects_of [] [] ≡ finite.empty
objects_of-nil = finite.empty_of_len (objects_of [] []) (finite.len-entries (objects_of [] []) ∙ ap length (entries-from_sorted name_cmp [] tt))

module _ (pairs : List Pair) (order : List ℕ) (kept : IsKept pairs order) where
  -- the names rise, in the form that the lemmas on maps take
  pub rising : T (is_sorted name_cmp (listed pairs order))
  rising = T-from_true _ kept.rising

  -- its entries are those, in this order
  pub entries_of : entries (objects_of pairs order) ≡ listed pairs order
  entries_of = entries-from_sorted name_cmp (listed pairs order) rising

  -- as many as there are indices
  pub count_of : finite.len (objects_of pairs order) ≡ length order
  count_of = finite.len-entries (objects_of pairs order) ∙ ap length entries_of ∙ length-map order (pair_at pairs)

  -- what is at a name's place is found under the name
  pub found : (name : List ℕ) (i : ℕ) → IsAt (listed pairs order) name i → finite.get (objects_of pairs order) name ≡ Some (pair_at (listed pairs order) i).1
  found name i at =
      get-from_sorted name_cmp (listed pairs order) name rising
      ∙ find-at name_cmp nat_list_cmp_total name (listed pairs order) no_pair i rising at.in_range at.has_name (tied_itself nat_list_cmp_total name)

  -- a name that has a gap is not found
  pub missing : (name : List ℕ) (i : ℕ) → IsGapFor (listed pairs order) name i → finite.get (objects_of pairs order) name ≡ None
  missing name i gap =
      get-from_sorted name_cmp (listed pairs order) name rising
      ∙ find-absent name_cmp name (listed pairs order) no_pair (λ k within. elim (cases_lt k i) [
        | inl lt ↦ ap is_eq (flipped nat_list_cmp_total _ name (gap.before k lt))
        | inr ge ↦ ap is_eq (gap.after k ge within)
      ])

  -- the entry is put in the gap for its name
  put_in_gap : (pair : Pair) (i : ℕ) → IsGapFor (listed pairs order) pair.0 i → put name_cmp pair.0 pair.1 (listed pairs order) ≡ insert (listed pairs order) i pair
  put_in_gap pair i gap = put-at name_cmp nat_list_cmp_total pair.0 pair.1 (listed pairs order) no_pair i gap.in_range gap.before gap.after

  -- the entry comes last, and its index in the gap
  listed_after : (pair : Pair) (i : ℕ) → IsGapFor (listed pairs order) pair.0 i → listed (pairs ++ pair ∷ []) (insert order i (length pairs)) ≡ put name_cmp pair.0 pair.1 (listed pairs order)
  listed_after pair i gap = picked-insert no_pair pairs pair order i kept.in_range ∙ sym (put_in_gap pair i gap)

  -- the order then still rises, and the rest holds
  pub kept_after : (pair : Pair) (i : ℕ) → IsName pair.0 → IsGapFor (listed pairs order) pair.0 i → IsKept (pairs ++ pair ∷ []) (insert order i (length pairs))
  kept_after pair i name gap =
      let longer = length-append pairs (pair ∷ []) in
      let within : i ≤ length order = omega (arith, gap.in_range, length-map order (pair_at pairs)) in
      record {
        as_many = omega (arith, length-insert order i (length pairs) within, kept.as_many);
        in_range = All-insert (λ k. k < length (pairs ++ pair ∷ [])) order i (length pairs) (All-weaker (λ k. k < length pairs) (λ k. k < length (pairs ++ pair ∷ [])) (λ k lt. omega arith) order kept.in_range) (omega arith);
        rising = true-from_T _ (subst (λ es. T (is_sorted name_cmp es)) (sym (listed_after pair i gap)) (is_sorted-put name_cmp nat_list_cmp_total pair.0 pair.1 (listed pairs order) rising));
        named = All-push (λ pair. IsName pair.0) pairs pair kept.named name;
      }

-- and the map has one more object
pub objects_after : (pairs : List Pair) (order : List ℕ) (kept : IsKept pairs order) (pair : Pair) (i : ℕ) → IsName pair.0 → IsGapFor (listed pairs order) pair.0 i
    → objects_of (pairs ++ pair ∷ []) (insert order i (length pairs)) ≡ finite.insert (objects_of pairs order) pair.0 pair.1
objects_after pairs order kept pair i name gap =
    same_entries_map _ _ (entries_of _ _ (kept_after pairs order kept pair i name gap) ∙ listed_after pairs order kept pair i gap
    ∙ ap (put name_cmp pair.0 pair.1) (sym (entries_of pairs order kept)) ∙ sym (entries-insert nat_list_cmp_total (objects_of pairs order) pair.0 pair.1))

module _ (pairs : List Pair) (order : List ℕ) (kept : IsKept pairs order) where
  -- the name at a place is that of the entry whose index is there
  pub name-listed : (k : ℕ) → k < length order → name_at (listed pairs order) k ≡ name_at pairs (get_or order k 0)
  name-listed k within = ap (λ (pair : Pair). pair.0) (get_or-map (pair_at pairs) order k 0 no_pair within)

  -- where a name is lesser, so are those before it
  pub lesser_before : (name : List ℕ) (place : ℕ) → place < length order → Less ≡ name_cmp (name_at pairs (get_or order place 0)) name
      → (k : ℕ) → k < place + 1 → name_cmp (name_at (listed pairs order) k) name ≡ Less
  lesser_before name place within lesser k lt =
      before-lesser name_cmp nat_list_cmp_total name (listed pairs order) no_pair k place (rising pairs order kept) (omega arith) (omega (arith, length-map order (pair_at pairs)))
      (ap (λ x. name_cmp x name) (name-listed place within) ∙ sym lesser)

  -- where a name is greater, so are those after it
  pub greater_after : (name : List ℕ) (place : ℕ) → place < length order → Greater ≡ name_cmp (name_at pairs (get_or order place 0)) name
      → (k : ℕ) → place ≤ k → k < length (listed pairs order) → name_cmp name (name_at (listed pairs order) k) ≡ Less
  greater_after name place within greater k le lt =
      after-greater name_cmp nat_list_cmp_total name (listed pairs order) no_pair place k (rising pairs order kept) le lt
      (nat_list_cmp_total.antisymm name _ ∙ ap ordering_reverse (ap (λ x. name_cmp x name) (name-listed place within) ∙ sym greater))

  -- where names tie, that is the place of the name
  pub at_tie : (name : List ℕ) (place : ℕ) → place < length order → Equal ≡ name_cmp (name_at pairs (get_or order place 0)) name → IsAt (listed pairs order) name place
  at_tie name place within tied = record {
    in_range = omega (arith, length-map order (pair_at pairs));
    has_name = slice_cmp-IsAntisymmetric nat_cmp-IsAntisymmetric _ name (ap (λ x. name_cmp x name) (name-listed place within) ∙ sym tied);
  }

  -- what is at a place in the order of names, as it is read
  pair_listed : (place k : ℕ) (pair : Pair) → place < length order → k ≡ get_or order place k → pair ≡ get_or pairs k pair → pair_at (listed pairs order) place ≡ pair
  pair_listed place k pair within index read =
      let here : get_or order place 0 ≡ k = get_or_default order place 0 k within ∙ sym index in
      let stands : k < length pairs = subst (λ x. x < length pairs) here (kept.in_range place 0 within) in
      get_or-map (pair_at pairs) order place 0 no_pair within ∙ ap (pair_at pairs) here ∙ get_or_default pairs k no_pair pair stands ∙ sym read

  -- so the object at a name's place is the one under the name
  pub object_at : (name : List ℕ) (place k : ℕ) (pair : Pair) → IsAt (listed pairs order) name place → k ≡ get_or order place k → pair ≡ get_or pairs k pair
      → finite.get (objects_of pairs order) name ≡ Some pair.1
  object_at name place k pair at index read =
      found pairs order kept name place at
      ∙ ap (λ (x : Pair). Some x.1) (pair_listed place k pair (omega (arith, at.in_range, length-map order (pair_at pairs))) index read)

  -- and the map has the entry at that place
  entry_at : (place k : ℕ) (pair : Pair) → place < length order → k ≡ get_or order place k → pair ≡ get_or pairs k pair → slice_get (entries (objects_of pairs order)) place ≡ Some pair
  entry_at place k pair within index read =
      ap (λ es. slice_get es place) (entries_of pairs order kept)
      ∙ slice_get-get_or (listed pairs order) place no_pair (omega (arith, length-map order (pair_at pairs)))
      ∙ ap Some (pair_listed place k pair within index read)

  -- by what is read of the indices, there or not
  pub entry_read : (place k : ℕ) (pair : Pair) → Some k ≡ slice_get order place → pair ≡ get_or pairs k pair → slice_get (entries (objects_of pairs order)) place ≡ Some pair
  entry_read place k pair index read = entry_at place k pair (slice_get_within order place k (sym index)) (sym (get_or_from_slice_get order place k k (sym index))) read

  pub entry_none : (place : ℕ) → None ≡ slice_get order place → slice_get (entries (objects_of pairs order)) place ≡ None
  entry_none place none = ap (λ es. slice_get es place) (entries_of pairs order kept) ∙ slice_get-map (pair_at pairs) order place ∙ ap (option_map (pair_at pairs)) (sym none)

  -- an index that is read is that of an entry
  pub index_within : (place k : ℕ) → Some k ≡ slice_get order place → k < length pairs
  index_within place k index = subst (λ (x : ℕ). x < length pairs) (get_or_from_slice_get order place k 0 (sym index)) (kept.in_range place 0 (slice_get_within order place k (sym index)))

  -- one entry more in the vectors
  module _ (pair : Pair) (i n : ℕ) (name : IsName pair.0) (gap : IsGapFor (listed pairs order) pair.0 i) (last : n ≡ length pairs)
      (more : List Pair) (wider : List ℕ) (pushed : more ≡ pairs ++ pair ∷ []) (inserted : wider ≡ insert order i n) where
    wider_is : wider ≡ insert order i (length pairs)
    wider_is = inserted ∙ ap (insert order i) last

    -- with the entry put last, and its index in the gap for its name, there is still one index for each entry, and
    -- the names rise in this order, and are names
    pub more_kept : IsKept more wider
    more_kept = rw (pushed, wider_is) (kept_after pairs order kept pair i name gap)

    -- and their map is the one from before with what the entry has put under its name
    pub more_objects : objects_of more wider ≡ finite.insert (objects_of pairs order) pair.0 pair.1
    more_objects = rw (pushed, wider_is) (objects_after pairs order kept pair i name gap)
