-- Lists joined of parts whose lengths are known.
use Rattle.std.proofs.Common.{◌≡◌, ℕ, ◌+◌, List, ◌++◌, length, take, drop, sym, ap, ◌∙◌, arith, length-append, append_assoc, ◌-◌}
use Rattle.std.proofs.lemmas.List.{take-append-drop}
use Rattle.std.proofs.Math.Seq.{take-append_seam, drop-append_seam}

-- two parts of which the first are as long are the same
pub same_two : (a b c d : List ℕ) → length a ≡ length c → a ++ b ≡ c ++ d → (a ≡ c) × (b ≡ d)
same_two a b c d long same = (
  sym (take-append_seam a b) ∙ ap (λ n. take n (a ++ b)) long ∙ ap (take (length c)) same ∙ take-append_seam c d,
  sym (drop-append_seam a b) ∙ ap (λ n. drop n (a ++ b)) long ∙ ap (drop (length c)) same ∙ drop-append_seam c d,
)

-- three parts of which the first and the last are as long are the same
pub record AreSame (a b c x y z : List ℕ) : Type 0 where
  pub first : a ≡ x
  pub middle : b ≡ y
  pub last : c ≡ z

-- if two lists of three parts are the same, and the first and the last parts are as long, each part is the same
pub same_three : (a b c x y z : List ℕ) → length a ≡ length x → length c ≡ length z → a ++ b ++ c ≡ x ++ y ++ z → AreSame a b c x y z
same_three a b c x y z front back same =
    let long : length (a ++ b) ≡ length (x ++ y) =
    omega (arith, length-append (a ++ b) c, length-append (x ++ y) z, ap length same) in
    let outer : (a ++ b ≡ x ++ y) × (c ≡ z) = same_two (a ++ b) c (x ++ y) z long same in
    let inner : (a ≡ x) × (b ≡ y) = same_two a b x y front outer.0 in
    record { first = inner.0; middle = inner.1; last = outer.1 }

-- a list cut before its last k and after its first j items
pub three_cut : (j k : ℕ) (whole front back : List ℕ) (first middle : List ℕ) → front ≡ take (length whole - k) whole
    → back ≡ drop (length whole - k) whole → first ≡ take j front → middle ≡ drop j front → whole ≡ first ++ middle ++ back
three_cut j k whole front back first middle f b x y =
    rw (x, y, take-append-drop j front, f, b) (sym (take-append-drop (length whole - k) whole))

-- the middle one of three parts
pub middle_of_three : (whole a b c : List ℕ) → whole ≡ a ++ b ++ c
    → b ≡ take (length whole - (length a + length c)) (drop (length a) whole)
middle_of_three whole a b c same =
    let long : length whole - (length a + length c) ≡ length b =
    omega (arith, ap length same, length-append (a ++ b) c, length-append a b) in
    let rest : drop (length a) whole ≡ b ++ c =
    ap (drop (length a)) (same ∙ append_assoc a b c) ∙ drop-append_seam a (b ++ c) in
    rw (long, rest, take-append_seam b c)
