-- What a buffer has after a part of it was filled.
use Rattle.std.proofs.Common.{◌≡◌, ℕ, ◌+◌, ◌-◌, ◌<◌, ◌≤◌, List, [], ◌∷◌, ◌++◌, length, take, drop, sym, ap, ◌∙◌, arith}
use Rattle.std.proofs.lemmas.List.{append_assoc, take_all, length-append, length-take, length-drop}
use Rattle.std.proofs.lemmas.Slice.{take-put_mid, between-put_mid}
use Rattle.std.proofs.Math.ListN.{set, length-set}
use Rattle.std.proofs.lemmas.Grind.{take-set_at}
use borrow.Rule.Slice.PartMut.{put_mid, same_len_mid}

-- how much was filled
pub part_long : (head : ℕ) (buf part : List ℕ) → length part ≡ length (take (length buf - head) (drop head buf)) → length part ≡ length buf - head
part_long head buf part long = omega (arith, long, length-take (length buf - head) (drop head buf), length-drop head buf)

-- all of it but the first bytes
pub part_put : (head : ℕ) (buf part : List ℕ) → head ≤ length buf → length part ≡ length (take (length buf - head) (drop head buf)) → put_mid head (length buf - head) buf part ≡ take head buf ++ part
part_put head buf part within long =
    let size = part_long head buf part long in
    let same : length (put_mid head (length buf - head) buf part) ≡ length buf = same_len_mid head (length buf - head) buf part long in
    sym (take_all (length buf) (put_mid head (length buf - head) buf part) (omega (arith, same))) ∙ take-put_mid head (length buf - head) buf part (length buf) (omega (arith, size, within)) within

pub put_long : (head : ℕ) (buf part : List ℕ) → length part ≡ length (take (length buf - head) (drop head buf)) → length (put_mid head (length buf - head) buf part) ≡ length buf
put_long head buf part long = same_len_mid head (length buf - head) buf part long

-- a part in the middle, before the last 33 bytes, and what was put after it
pub middle_long : (head : ℕ) (buf part : List ℕ) → length part ≡ length (take (length buf - 33 - head) (drop head buf)) → length part ≡ length buf - head - 33
middle_long head buf part long = omega (arith, long, length-take (length buf - 33 - head) (drop head buf), length-drop head buf)

pub middle_put : (head : ℕ) (buf part last new : List ℕ) → head + 33 ≤ length buf → length part ≡ length (take (length buf - 33 - head) (drop head buf))
    → new ≡ take (length (put_mid head (length buf - 33 - head) buf part) - 33) (put_mid head (length buf - 33 - head) buf part) ++ last → new ≡ (take head buf ++ part) ++ last
middle_put head buf part last new within long is =
    let k = length buf - 33 - head in
    let size = middle_long head buf part long in
    let same : length (put_mid head k buf part) ≡ length buf = same_len_mid head k buf part long in
    is ∙ ap (λ (l : List ℕ). l ++ last) (take-put_mid head k buf part (length (put_mid head k buf part) - 33) (omega (arith, same, size, within)) (omega (arith, within)))

pub middle_new : (head : ℕ) (buf part last new : List ℕ) → head + 33 ≤ length buf → length part ≡ length (take (length buf - 33 - head) (drop head buf)) → length last ≡ 33
    → new ≡ take (length (put_mid head (length buf - 33 - head) buf part) - 33) (put_mid head (length buf - 33 - head) buf part) ++ last → length new ≡ length buf
middle_new head buf part last new within long tail is =
    let all = middle_put head buf part last new within long is in
    omega (arith, ap length all, length-append (take head buf ++ part) last, length-append (take head buf) part, length-take head buf, middle_long head buf part long, tail, within)

-- and what of it was put into a hash
pub middle_taken : (head : ℕ) (buf part : List ℕ) → head + 33 ≤ length buf → length part ≡ length (take (length buf - 33 - head) (drop head buf)) → take (length buf - 33 - head) (drop head (put_mid head (length buf - 33 - head) buf part)) ≡ part
middle_taken head buf part within long = between-put_mid head (length buf - 33 - head) buf part (length buf - 33) (omega (arith, within)) (omega (arith, long, middle_long head buf part long))

-- a link and a gate at the end
pub end_put : (buf link : List ℕ) (k gate : ℕ) → 33 ≤ length buf → length link ≡ 32 → length link ≡ length (take k (drop (length buf - 33) buf))
    → set (put_mid (length buf - 33) k buf link) (length buf - 33 + 32) gate ≡ take (length buf - 33) buf ++ (link ++ gate ∷ [])
end_put buf link k gate within size long =
    let n = length buf - 33 in
    let all = put_mid n k buf link in
    let same : length all ≡ length buf = same_len_mid n k buf link long in
    let there : n + 32 < length all = omega (arith, same, within) in
    sym (take_all (n + 33) (set all (n + 32) gate) (omega (arith, length-set all (n + 32) gate, same, within)))
    ∙ take-set_at all (n + 32) (n + 33) gate (omega arith) there
    ∙ ap (λ (l : List ℕ). l ++ gate ∷ []) (take-put_mid n k buf link (n + 32) (omega (arith, size)) (omega (arith, within)))
    ∙ append_assoc (take n buf) link (gate ∷ [])
