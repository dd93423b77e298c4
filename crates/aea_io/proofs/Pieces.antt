-- Pieces that are put one after another.
use Rattle.std.proofs.Common.{◌≡◌, ℕ, ◌+◌, ◌-◌, ◌≤◌, List, ◌++◌, Option, Some, None, length, take, drop, ap, sym, ◌∙◌, subst, arith}
use Rattle.std.proofs.Math.Seq.{take-add, take-append-add}
use Rattle.std.proofs.lemmas.List.{take_all, take-append-le, length-drop, length-take-le}
use borrow.Rule.Slice.PartMut.{put_mid, post_of}
use Rattle.std.specs.Io.KnownBytes.{Appends}
use Rattle.std.proofs.KnownBytes.{Appends-trans}
use Rattle.aea_io.specs.Written.{HasNotFallen}

-- what is there after the first bytes of a piece and some more of it
pub Appends-more : (a b c : Option (List ℕ)) (bytes : List ℕ) (done k : ℕ) → Appends a b (take done bytes) → Appends b c (take k (take (length bytes - done) (drop done bytes))) → Appends a c (take (done + k) bytes)
Appends-more a b c bytes done k first more =
    let rest : take (length bytes - done) (drop done bytes) ≡ drop done bytes = take_all (length bytes - done) (drop done bytes) (omega (arith, length-drop done bytes)) in
    let both : take done bytes ++ take k (take (length bytes - done) (drop done bytes)) ≡ take (done + k) bytes = ap (λ xs. take done bytes ++ take k xs) rest ∙ sym (take-add done k bytes) in
    subst (Appends a c) both (Appends-trans a b c _ _ first more)

-- a number that has not fallen over two calls
pub HasNotFallen-trans : (a b c : Option ℕ) → HasNotFallen a b → HasNotFallen b c → HasNotFallen a c
HasNotFallen-trans None b c first then = tt
HasNotFallen-trans (Some x) None c first then = absurd first
HasNotFallen-trans (Some x) (Some y) None first then = then
HasNotFallen-trans (Some x) (Some y) (Some z) first then = omega arith

-- the first bytes of a buffer whose middle was written, up to within what was written
pub filled-more : (xs ys : List ℕ) (done m k : ℕ) → done ≤ length xs → k ≤ length ys → take (done + k) (put_mid done m xs ys) ≡ take done xs ++ take k ys
filled-more xs ys done m k within few =
    let front = length-take-le done xs within in
    ap (λ n. take (n + k) (put_mid done m xs ys)) (sym front) ∙ take-append-add (take done xs) (ys ++ post_of done m xs) k ∙ ap (λ l. take done xs ++ l) (take-append-le k ys (post_of done m xs) few)
