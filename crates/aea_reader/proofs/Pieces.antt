-- Lines that are read piece by piece.
use Rattle.std.proofs.Common.{◌≡◌, ◌≢◌, ℕ, zero, suc, ◌+◌, ◌-◌, ◌<◌, ◌≤◌, List, [], ◌∷◌, ◌++◌, length, get_or, take, drop, arith, refl, sym, ◌∙◌, ap, subst, Bool, true, false, cond, Some, None, Option, append_assoc, length-append}
use Rattle.std.specs.Prelude.{◌==◌, position, nat_lt, slice_range}
use Rattle.std.specs.List.{position_or_len}
use Rattle.std.specs.Io.KnownBytes.{Consumes}
use Rattle.std.proofs.KnownBytes.{Consumes-nil, Consumes-trans}
use Rattle.std.proofs.lemmas.List.{get_or-take, take-append-drop, drop_more, drop-drop, length-take, append-nil}
use Rattle.std.proofs.lemmas.List.Elements.{All-from_get_or, All-append}
use Rattle.std.proofs.lemmas.List.Quantifiers.{position-Some}
use Rattle.std.proofs.lemmas.Bool.Decides.{nat_tests}
use Rattle.std.proofs.lemmas.Slice.{between_is}
use Rattle.aea_io.specs.Taken.{TakesAtMost}
use Rattle.aea_reader.specs.Words.{IsFree}
use Rattle.aea_reader.specs.Pieces.{Gathers}

is_ten : (x : ℕ) → (x == 10) ≡ true → x ≡ 10
is_ten x e = grind (arith, nat_tests)

not_ten : (x : ℕ) → (x == 10) ≡ false → x ≢ 10
not_ten x e = grind (arith, nat_tests)

-- what comes before the first newline has none
pub plain_front : (xs : List ℕ) (end : ℕ) → position (λ x. x == 10) xs ≡ Some end → IsFree 10 (take end xs)
plain_front xs end found =
    let at = position-Some (λ x. x == 10) xs end 0 found in
    All-from_get_or (λ x. x ≢ 10) (take end xs) 0
    (λ i lt.
    let below : i < end = omega (arith, length-take end xs) in
    subst (λ x. x ≢ 10) (sym (get_or-take end xs i 0 below)) (not_ten (get_or xs i 0) (at.2 i below)))

-- a text with a newline, taken apart there
pub split_found : (xs : List ℕ) (end : ℕ) → position (λ x. x == 10) xs ≡ Some end → xs ≡ take end xs ++ 10 ∷ drop (end + 1) xs
split_found xs end found =
    let at = position-Some (λ x. x == 10) xs end 0 found in
    sym (take-append-drop end xs)
    ∙ ap (λ ys. take end xs ++ ys) (drop_more xs end 0 at.0 ∙ ap (λ x. x ∷ drop (end + 1) xs) (is_ten (get_or xs end 0) at.1))

none_step : (p : ℕ → Bool) (x : ℕ) (xs : List ℕ) (b : Bool) → p x ≡ b → ((nat_lt (position_or_len p xs) (length xs) ≡ false) → (k : ℕ) → k < length xs → p (get_or xs k 0) ≡ false)
    → nat_lt (position_or_len p (x ∷ xs)) (length (x ∷ xs)) ≡ false → (k : ℕ) → k < length (x ∷ xs) → p (get_or (x ∷ xs) k 0) ≡ false
none_step p x xs true e rest h k below = let none : nat_lt 0 (suc (length xs)) ≡ false = rw e at h in absurd (grind (arith, nat_tests))
none_step p x xs false e rest h zero below = e
none_step p x xs false e rest h (suc k) below =
    let none : nat_lt (1 + position_or_len p xs) (suc (length xs)) ≡ false = rw e at h in
    rest (grind (arith, nat_tests)) k (omega arith)

none_passes : (p : ℕ → Bool) (xs : List ℕ) → nat_lt (position_or_len p xs) (length xs) ≡ false → (k : ℕ) → k < length xs → p (get_or xs k 0) ≡ false
none_passes p [] h k below = absurd (omega arith)
none_passes p (x ∷ xs) h k below = none_step p x xs (p x) refl (none_passes p xs) h k below

none_found : (b : Bool) (n : ℕ) → cond b (Some n) None ≡ None → b ≡ false
none_found true n e = let h : Some n ≡ None = e in cc
none_found false n e = refl

-- a text without a newline
pub plain_whole : (xs : List ℕ) → position (λ x. x == 10) xs ≡ None → IsFree 10 xs
plain_whole xs none =
    All-from_get_or (λ x. x ≢ 10) xs 0
    (λ i lt. not_ten (get_or xs i 0) (none_passes (λ x. x == 10) xs (none_found (nat_lt (position_or_len (λ x. x == 10) xs) (length xs)) (position_or_len (λ x. x == 10) xs) none) i lt))

-- ---- parts of a page

-- a part that begins later
pub range_more : (page : List ℕ) (s k e : ℕ) → slice_range page (s + k) e ≡ drop k (slice_range page s e)
range_more page s k e = between_is page (s + k) e ∙ sym (drop-drop k s (take e page)) ∙ ap (drop k) (sym (between_is page s e))

-- a part that ends where it begins
pub range_none : (page : List ℕ) (e : ℕ) → slice_range page e e ≡ []
range_none page e = let none : e - e ≡ 0 = omega arith in ap (λ n. take n (drop e page)) none

-- ---- a line that grows piece by piece

-- a newline was met
pub moved_found : (line ahead grown after : List ℕ) (end : ℕ) → position (λ x. x == 10) ahead ≡ Some end → grown ≡ line ++ take end ahead → after ≡ drop (end + 1) ahead
    → line ++ ahead ≡ grown ++ 10 ∷ after
moved_found line ahead grown after end found grows goes =
    ap (λ xs. line ++ xs) (split_found ahead end found)
    ∙ sym (append_assoc line (take end ahead) (10 ∷ drop (end + 1) ahead))
    ∙ ap (λ xs. xs ++ 10 ∷ drop (end + 1) ahead) (sym grows)
    ∙ ap (λ xs. grown ++ 10 ∷ xs) (sym goes)

pub plain_found : (line ahead grown : List ℕ) (end : ℕ) → position (λ x. x == 10) ahead ≡ Some end → grown ≡ line ++ take end ahead → IsFree 10 line → IsFree 10 grown
plain_found line ahead grown end found grows plain =
    subst (IsFree 10) (sym grows) (All-append (λ x. x ≢ 10) line (take end ahead) plain (plain_front ahead end found))

-- none was met
pub moved_whole : (line ahead grown after : List ℕ) → grown ≡ line ++ ahead → after ≡ [] → line ++ ahead ≡ grown ++ after
moved_whole line ahead grown after grows none = sym grows ∙ sym (append-nil grown) ∙ ap (λ xs. grown ++ xs) (sym none)

pub plain_more : (line ahead grown : List ℕ) → position (λ x. x == 10) ahead ≡ None → grown ≡ line ++ ahead → IsFree 10 line → IsFree 10 grown
plain_more line ahead grown none grows plain = subst (IsFree 10) (sym grows) (All-append (λ x. x ≢ 10) line ahead plain (plain_whole ahead none))

-- ---- what the source gave

-- nothing was taken
pub gathers_none : (ahead : List ℕ) (left : Option (List ℕ)) (bytes : List ℕ) → bytes ≡ ahead → Gathers ahead left left bytes
gathers_none ahead left bytes e = record { taken = []; consumed = Consumes-nil left; are = append-nil ahead ∙ sym e }

-- the same bytes
pub gathers_as : (ahead : List ℕ) (old new : Option (List ℕ)) (bytes others : List ℕ) → bytes ≡ others → Gathers ahead old new bytes → Gathers ahead old new others
gathers_as ahead old new bytes others e g = record { taken = g.taken; consumed = g.consumed; are = g.are ∙ e }

-- more was taken
pub gathers_more : (ahead : List ℕ) (old mid new : Option (List ℕ)) (bytes more : List ℕ) → Gathers ahead old mid bytes → Consumes mid new more → Gathers ahead old new (bytes ++ more)
gathers_more ahead old mid new bytes more g took = record {
  taken = g.taken ++ more;
  consumed = Consumes-trans old mid new g.taken more g.consumed took;
  are = sym (append_assoc ahead g.taken more) ∙ ap (λ xs. xs ++ more) g.are;
}

-- how many bytes were taken at most
pub gathers_most : (ahead : List ℕ) (old new : Option (List ℕ)) (bytes : List ℕ) (most : ℕ) → length bytes ≤ most → Gathers ahead old new bytes → TakesAtMost old new (most - length ahead)
gathers_most ahead old new bytes most few g =
    let long : length ahead + length g.taken ≡ length bytes = sym (length-append ahead g.taken) ∙ ap length g.are in
    (g.taken, g.consumed, omega arith)
