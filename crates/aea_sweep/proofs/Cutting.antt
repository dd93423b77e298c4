-- Lists in one list: one more, and the one at a place.
use Rattle.std.proofs.Common.{◌≡◌, ℕ, zero, suc, ◌-◌, ◌<◌, ◌≤◌, List, [], ◌∷◌, ◌++◌, take, drop, length, get_or, refl, sym, ◌∙◌, ap, arith}
use Rattle.std.proofs.lemmas.List.{length-drop, drop-append-le, take-append-le}
use Rattle.std.proofs.Math.Seq.{drop-append_seam, take-append_seam}
use Rattle.aea_sweep.specs.Cuts.{lists_of, AreCuts}

-- as many lists as starts
pub lists-length : (starts items : List ℕ) → length (lists_of starts items) ≡ length starts
lists-length [] items = refl
lists-length (a ∷ []) items = refl
lists-length (a ∷ b ∷ starts) items = ap suc (lists-length (b ∷ starts) items)

pub cuts-top : (low : ℕ) (starts : List ℕ) (top : ℕ) → AreCuts low starts top → low ≤ top
cuts-top low [] top c = c
cuts-top low (a ∷ starts) top c = let h = c.0 in let g = cuts-top a starts top c.1 in omega arith

-- a start more, where all ends
pub cuts-more : (low : ℕ) (starts : List ℕ) (top : ℕ) → AreCuts low starts top → AreCuts low (starts ++ top ∷ []) top
cuts-more low [] top c = (c, omega arith)
cuts-more low (a ∷ starts) top c = (c.0, cuts-more a starts top c.1)

-- items more
pub cuts-longer : (low : ℕ) (starts : List ℕ) (top more : ℕ) → top ≤ more → AreCuts low starts top → AreCuts low starts more
cuts-longer low [] top more up c = omega arith
cuts-longer low (a ∷ starts) top more up c = (c.0, cuts-longer a starts top more up c.1)

drop_more : (a : ℕ) (items xs : List ℕ) → a ≤ length items → drop a (items ++ xs) ≡ drop a items ++ xs
drop_more a items xs less = drop-append-le a items xs less

take_all : (a : ℕ) (items xs : List ℕ) → a ≤ length items → take (length items - a) (drop a (items ++ xs)) ≡ drop a items
take_all a items xs less =
    ap (take (length items - a)) (drop_more a items xs less)
    ∙ ap (λ (n : ℕ). take n (drop a items ++ xs)) (sym (length-drop a items))
    ∙ take-append_seam (drop a items) xs

-- one list more
pub lists-more : (low : ℕ) (starts items xs : List ℕ) → AreCuts low starts (length items)
    → lists_of (starts ++ length items ∷ []) (items ++ xs) ≡ lists_of starts items ++ xs ∷ []
lists-more low [] items xs c = ap (λ (ys : List ℕ). ys ∷ []) (drop-append_seam items xs)
lists-more low (a ∷ []) items xs c =
    ap (λ (ys : List ℕ). ys ∷ drop (length items) (items ++ xs) ∷ []) (take_all a items xs c.1)
    ∙ ap (λ (ys : List ℕ). drop a items ∷ ys ∷ []) (drop-append_seam items xs)
lists-more low (a ∷ b ∷ starts) items xs c =
    let high : b ≤ length items = cuts-top b starts (length items) c.1.1 in
    let less : a ≤ length items = (let h = c.1.0 in omega arith) in
    let long : length (drop a items) ≡ length items - a = length-drop a items in
    let fits : b - a ≤ length (drop a items) = omega arith in
    let same : take (b - a) (drop a (items ++ xs)) ≡ take (b - a) (drop a items) =
    ap (take (b - a)) (drop_more a items xs less) ∙ take-append-le (b - a) (drop a items) xs fits in
    ap (λ (ys : List ℕ). ys ∷ lists_of (b ∷ starts ++ length items ∷ []) (items ++ xs)) same
    ∙ ap (λ (yss : List (List ℕ)). take (b - a) (drop a items) ∷ yss) (lists-more a (b ∷ starts) items xs c.1)

-- the list at a place starts within
pub cut-within : (low : ℕ) (starts : List ℕ) (top r : ℕ) → AreCuts low starts top → r < length starts → get_or starts r 0 ≤ top
cut-within low [] top r c less = absurd (omega arith)
cut-within low (a ∷ starts) top zero c less = cuts-top a starts top c.1
cut-within low (a ∷ starts) top (suc r) c less = cut-within a starts top r c.1 (omega arith)

-- and not after the next one
pub cuts-rise : (low : ℕ) (starts : List ℕ) (top r : ℕ) → AreCuts low starts top → suc r < length starts → get_or starts r 0 ≤ get_or starts (suc r) 0
cuts-rise low [] top r c less = absurd (omega arith)
cuts-rise low (a ∷ []) top r c less = absurd (omega arith)
cuts-rise low (a ∷ b ∷ starts) top zero c less = c.1.0
cuts-rise low (a ∷ b ∷ starts) top (suc r) c less = cuts-rise a (b ∷ starts) top r c.1 (omega arith)

-- a list that is not the last one
pub list-middle : (starts items : List ℕ) (r : ℕ) → suc r < length starts
    → get_or (lists_of starts items) r [] ≡ take (get_or starts (suc r) 0 - get_or starts r 0) (drop (get_or starts r 0) items)
list-middle [] items r less = absurd (omega arith)
list-middle (a ∷ []) items r less = absurd (omega arith)
list-middle (a ∷ b ∷ starts) items zero less = refl
list-middle (a ∷ b ∷ starts) items (suc r) less = list-middle (b ∷ starts) items r (omega arith)

-- the last one
pub list-last : (starts items : List ℕ) (r : ℕ) → suc r ≡ length starts → get_or (lists_of starts items) r [] ≡ drop (get_or starts r 0) items
list-last [] items r last = absurd (omega arith)
list-last (a ∷ []) items zero last = refl
list-last (a ∷ []) items (suc r) last = absurd (omega arith)
list-last (a ∷ b ∷ starts) items zero last = absurd (omega arith)
list-last (a ∷ b ∷ starts) items (suc r) last = list-last (b ∷ starts) items r (omega arith)
