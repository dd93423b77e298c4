-- Lists that are joined end to end, where one of them changes.
use Rattle.std.proofs.Common.{◌≡◌, ℕ, zero, suc, ◌+◌, ◌-◌, ◌<◌, ◌≤◌, List, [], ◌∷◌, ◌++◌, length, get_or, take, drop, set, slice_get, Some, sym, refl, ap, ◌∙◌, arith, append_assoc, append-nil, add-one}
use Rattle.std.specs.List.{insert}
use Rattle.std.proofs.lemmas.List.{set_split, set-get_or, take_more_set, take_rest, drop_more, drop-set-lt, take-append-drop, length-take-le, length-drop}
use Rattle.std.proofs.lemmas.Option.{slice_get-get_or}
use Rattle.std.proofs.lemmas.List.Concat.{flat_map-append, get_or-flat_map}
use Rattle.std.proofs.lemmas.List.Edits.{insert-append_left, insert-append_right, length-insert}
use Rattle.aea_catalog.specs.Pieces.{joined, before_piece, IsFilled, piece_size, half_size}

-- the pieces before one with another in its place, and those after it
joined-set : (ps : List (List ℕ)) (k : ℕ) (q : List ℕ) → k < length ps → joined (set ps k q) ≡ joined (take k ps) ++ (q ++ joined (drop (suc k) ps))
joined-set ps k q within = ap joined (set_split ps k q within) ∙ flat_map-append (λ p. p) (take k ps) (q ∷ drop (suc k) ps)

-- the pieces before one, it, and those after it
joined_around : (ps : List (List ℕ)) (k : ℕ) → k < length ps → joined ps ≡ joined (take k ps) ++ (get_or ps k [] ++ joined (drop (suc k) ps))
joined_around ps k within = sym (ap joined (set-get_or ps k [])) ∙ joined-set ps k (get_or ps k []) within

less_again : (n k : ℕ) → n + k - n ≡ k
less_again n k = omega arith

-- an index that is inserted in the middle of three lists
insert_amid : (before middle after : List ℕ) (at x : ℕ) → at ≤ length middle → insert (before ++ (middle ++ after)) (length before + at) x ≡ before ++ (insert middle at x ++ after)
insert_amid before middle after at x within =
    insert-append_right before (middle ++ after) (length before) (length before + at) x refl (omega arith)
    ∙ ap (λ i. before ++ insert (middle ++ after) i x) (less_again (length before) at)
    ∙ ap (λ l. before ++ l) (insert-append_left middle after at x within)

-- an index that is inserted into a piece is so among all
joined_insert : (ps : List (List ℕ)) (k at x : ℕ) → k < length ps → at ≤ length (get_or ps k []) → insert (joined ps) (before_piece ps k + at) x ≡ joined (take k ps) ++ (insert (get_or ps k []) at x ++ joined (drop (suc k) ps))
joined_insert ps k at x within at_in =
    ap (λ l. insert l (before_piece ps k + at) x) (joined_around ps k within) ∙ insert_amid (joined (take k ps)) (get_or ps k []) (joined (drop (suc k) ps)) at x at_in

pub joined-insert_into : (ps : List (List ℕ)) (k at x : ℕ) (q : List ℕ) → k < length ps → at ≤ length (get_or ps k []) → q ≡ insert (get_or ps k []) at x
    → joined (set ps k q) ≡ insert (joined ps) (before_piece ps k + at) x
joined-insert_into ps k at x q within at_in same =
    joined-set ps k q within ∙ ap (λ l. joined (take k ps) ++ (l ++ joined (drop (suc k) ps))) same ∙ sym (joined_insert ps k at x within at_in)

-- a piece that is put after another
joined_two : (ps : List (List ℕ)) (k : ℕ) (l u : List ℕ) → k < length ps → joined (insert (set ps k l) (k + 1) u) ≡ joined (take k ps) ++ ((l ++ u) ++ joined (drop (suc k) ps))
joined_two ps k l u within =
    let before : take (k + 1) (set ps k l) ≡ take k ps ++ l ∷ [] = take_more_set ps k l within in
    let after : drop (k + 1) (set ps k l) ≡ drop (suc k) ps = drop-set-lt (k + 1) ps k l (omega arith) ∙ ap (λ n. drop n ps) (add-one k) in
    flat_map-append (λ p. p) (take (k + 1) (set ps k l)) (u ∷ drop (k + 1) (set ps k l))
    ∙ (λ j. joined (before j) ++ (u ++ joined (after j)))
    ∙ ap (λ b. b ++ (u ++ joined (drop (suc k) ps))) (flat_map-append (λ p. p) (take k ps) (l ∷ []))
    ∙ simp (append_assoc, append-nil)

-- where a piece is replaced by two that contain it and one index more
pub joined-cut : (ps : List (List ℕ)) (k at x : ℕ) (l u : List ℕ) → k < length ps → at ≤ length (get_or ps k []) → l ++ u ≡ insert (get_or ps k []) at x
    → joined (insert (set ps k l) (k + 1) u) ≡ insert (joined ps) (before_piece ps k + at) x
joined-cut ps k at x l u within at_in same =
    joined_two ps k l u within ∙ ap (λ m. joined (take k ps) ++ (m ++ joined (drop (suc k) ps))) same ∙ sym (joined_insert ps k at x within at_in)

-- the index at a place of a piece, among all
pub get_or-joined : (ps : List (List ℕ)) (k at d : ℕ) → k < length ps → at < length (get_or ps k []) → get_or (joined ps) (before_piece ps k + at) d ≡ get_or (get_or ps k []) at d
get_or-joined ps k at d within at_in = get_or-flat_map (λ p. p) ps k at [] d within at_in

-- an element at a place of two lists: of the first, or of the second
pub slice_get-left : (xs ys : List ℕ) (i : ℕ) → i < length xs → slice_get (xs ++ ys) i ≡ slice_get xs i
slice_get-left [] ys i lt = absurd (omega arith)
slice_get-left (x ∷ xs) ys zero lt = refl
slice_get-left (x ∷ xs) ys (suc i) lt = slice_get-left xs ys i (omega arith)

none_more : (n : ℕ) → 0 + n ≡ n
none_more n = omega arith

one_more : (n k : ℕ) → suc n + k ≡ suc (n + k)
one_more n k = omega arith

pub slice_get-right : (xs ys : List ℕ) (i : ℕ) → slice_get (xs ++ ys) (length xs + i) ≡ slice_get ys i
slice_get-right [] ys i = ap (slice_get ys) (none_more i)
slice_get-right (x ∷ xs) ys i = ap (slice_get (x ∷ (xs ++ ys))) (one_more (length xs) i) ∙ slice_get-right xs ys i

-- the halves of a full piece, with an index in the lower or in the upper
module _ (xs : List ℕ) (at x : ℕ) (at_in : at ≤ length xs) (full : length xs ≡ piece_size) where
  halves : take half_size xs ++ drop half_size xs ≡ xs
  halves = take-append-drop half_size xs

  pub length_lower : length (take half_size xs) ≡ half_size
  length_lower = length-take-le half_size xs (omega arith)

  pub length_upper : length (drop half_size xs) ≡ half_size
  length_upper = omega (arith, length-drop half_size xs)

  pub insert_lower : at ≤ half_size → insert (take half_size xs) at x ++ drop half_size xs ≡ insert xs at x
  insert_lower low =
      sym (insert-append_left (take half_size xs) (drop half_size xs) at x (omega (arith, length_lower))) ∙ ap (λ l. insert l at x) halves

  pub insert_upper : half_size ≤ at → take half_size xs ++ insert (drop half_size xs) (at - half_size) x ≡ insert xs at x
  insert_upper high =
      sym (insert-append_right (take half_size xs) (drop half_size xs) half_size at x length_lower high) ∙ ap (λ l. insert l at x) halves

  -- each of both then is a piece
  pub filled_lower : at ≤ half_size → IsFilled (insert (take half_size xs) at x)
  filled_lower low = record { some = omega (arith, length_lower, length-insert (take half_size xs) at x (omega (arith, length_lower))); few = omega (arith, length_lower, length-insert (take half_size xs) at x (omega (arith, length_lower))) }

  pub filled_upper : half_size ≤ at → IsFilled (insert (drop half_size xs) (at - half_size) x)
  filled_upper high =
      let longer = length-insert (drop half_size xs) (at - half_size) x (omega (arith, length_upper)) in
      record { some = omega (arith, length_upper); few = omega (arith, length_upper) }

  -- as is each half alone
  pub filled_half_lower : IsFilled (take half_size xs)
  filled_half_lower = record { some = omega (arith, length_lower); few = omega (arith, length_lower) }

  pub filled_half_upper : IsFilled (drop half_size xs)
  filled_half_upper = record { some = omega (arith, length_upper); few = omega (arith, length_upper) }

-- what is moved out of a full piece into an empty one
pub moved_upper : (before after other whole : List ℕ) (n : ℕ) → after ≡ before ++ take (length other - n) (drop n other) → before ≡ [] → other ≡ whole → after ≡ drop n whole
moved_upper before after other whole n moved none same = moved ∙ ap (λ l. l ++ take (length other - n) (drop n other)) none ∙ take_rest other n ∙ ap (drop n) same

-- an index among the pieces from one on: it is in that piece, or past it
module _ (ps : List (List ℕ)) (k : ℕ) (p : List ℕ) (within : k < length ps) (read : p ≡ get_or ps k p) where
  from_here : joined (drop k ps) ≡ p ++ joined (drop (k + 1) ps)
  from_here = ap joined (drop_more ps k p within) ∙ ap (λ q. q ++ joined (drop (k + 1) ps)) (sym read)

  pub get_in_piece : (i : ℕ) → i < length p → slice_get (joined (drop k ps)) i ≡ Some (get_or p i 0)
  get_in_piece i lt = ap (λ l. slice_get l i) from_here ∙ slice_get-left p (joined (drop (k + 1) ps)) i lt ∙ slice_get-get_or p i 0 lt

  pub get_past_piece : (i : ℕ) → length p ≤ i → slice_get (joined (drop (k + 1) ps)) (i - length p) ≡ slice_get (joined (drop k ps)) i
  get_past_piece i ge =
      let whole : length p + (i - length p) ≡ i = omega arith in
      sym (slice_get-right p (joined (drop (k + 1) ps)) (i - length p)) ∙ ap (slice_get (p ++ joined (drop (k + 1) ps))) whole ∙ ap (λ l. slice_get l i) (sym from_here)
