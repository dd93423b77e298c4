-- Where two lists part.
use Rattle.std.proofs.Common.{◌≡◌, ⊎_elim, ℕ, ◌+◌, ◌-◌, ◌<◌, ◌≤◌, List, [], ◌∷◌, ◌++◌, length, take, drop, get_or, refl, sym, ap, subst, ◌∙◌, arith}
use Rattle.std.specs.Prelude.{Option, Some, None, IfSome, Result, Ok, Err, IfOk}
use Rattle.std.proofs.lemmas.Bool.{cases_lt}
use Rattle.std.proofs.lemmas.List.{length-take, take-take, drop-take, drop-drop, take_all, take_at, take-append-drop, drop_more, get_or-take}
use Rattle.aea_copy_reader.specs.Taking.{PartsAt}

-- one list ends where they part
pub parts_short : (a b : List ℕ) (at : ℕ) → take at a ≡ take at b → length a ≡ at → at < length b → PartsAt at a b
parts_short a b at same end more = record {
  same = same;
  other = λ whole. omega (arith, ap length whole, length-take (at + 1) a, length-take (at + 1) b, end, more);
}

pub parts_shorter : (a b : List ℕ) (at : ℕ) → take at a ≡ take at b → length b ≡ at → at < length a → PartsAt at a b
parts_shorter a b at same end more = record {
  same = same;
  other = λ whole. omega (arith, ap length whole, length-take (at + 1) a, length-take (at + 1) b, end, more);
}

-- they have other bytes there
pub parts_here : (a b : List ℕ) (at : ℕ) → take at a ≡ take at b → (get_or a at 0 ≡ get_or b at 0 → ⊥) → PartsAt at a b
parts_here a b at same other = record {
  same = same;
  other = λ whole. other (sym (get_or-take (at + 1) a at 0 (omega arith)) ∙ ap (λ (l : List ℕ). get_or l at 0) whole ∙ get_or-take (at + 1) b at 0 (omega arith));
}

-- a range of a front
pub front_part : (rest : List ℕ) (size at n : ℕ) → at + n ≤ size → take n (drop at (take size rest)) ≡ take n (drop at rest)
front_part rest size at n within =
    let sum : at + (size - at) ≡ size = omega (arith, within) in
    ap (λ (k : ℕ). take n (drop at (take k rest))) (sym sum) ∙ ap (take n) (drop-take at (size - at) rest) ∙ take-take n (size - at) (drop at rest) (omega (arith, within))

-- a front is two ranges
pub take_sum : (n m : ℕ) (l : List ℕ) → take (n + m) l ≡ take n l ++ take m (drop n l)
take_sum n m l =
    sym (take-append-drop n (take (n + m) l))
    ∙ ap (λ (r : List ℕ). r ++ drop n (take (n + m) l)) (take-take n (n + m) l (omega arith))
    ∙ ap (λ (r : List ℕ). take n l ++ r) (drop-take n m l)

-- so far the same, and a whole range more
pub same_range : (a b : List ℕ) (done size : ℕ) → take done a ≡ take done b → take size (drop done a) ≡ take size (drop done b) → take (done + size) a ≡ take (done + size) b
same_range a b done size same more =
    take_sum done size a ∙ ap (λ (l : List ℕ). l ++ take size (drop done a)) same ∙ ap (λ (l : List ℕ). take done b ++ l) more ∙ sym (take_sum done size b)

-- so far the same, and one more
pub same_more : (a b : List ℕ) (at : ℕ) → take at a ≡ take at b → at < length a → at < length b → get_or a at 0 ≡ get_or b at 0 → take (at + 1) a ≡ take (at + 1) b
same_more a b at same more others here = same_range a b at 1 same (one a more ∙ ap (λ (n : ℕ). n ∷ []) here ∙ sym (one b others))
  where
    one : (l : List ℕ) → at < length l → take 1 (drop at l) ≡ get_or l at 0 ∷ []
    one l less = ap (take 1) (drop_more l at 0 less) ∙ take_at (get_or l at 0 ∷ []) (drop (at + 1) l) 1 refl

-- so far the same, and then they part within a range
pub parts_later : (a b : List ℕ) (done size count k : ℕ) → done + size ≤ count → take done a ≡ take done b → PartsAt k (take size (drop done a)) (take size (drop done b)) → PartsAt (done + k) (take count a) (take count b)
parts_later a b done size count k within same parts =
    ⊎_elim
    (λ (less : k < size).
    let cut : (l : List ℕ) → take k (take size l) ≡ take k l = λ l. take-take k size l (omega (arith, less)) in
    let more : (l : List ℕ) → take (k + 1) (take size l) ≡ take (k + 1) l = λ l. take-take (k + 1) size l (omega (arith, less)) in
    let all : take (done + k) a ≡ take (done + k) b =
    same_range a b done k same (sym (cut (drop done a)) ∙ parts.same ∙ cut (drop done b)) in
    record {
      same = take-take (done + k) count a (omega (arith, less, within)) ∙ all ∙ sym (take-take (done + k) count b (omega (arith, less, within)));
      other = λ whole.
          let there : take (done + k + 1) a ≡ take (done + k + 1) b =
          sym (take-take (done + k + 1) count a (omega (arith, less, within))) ∙ whole ∙ take-take (done + k + 1) count b (omega (arith, less, within)) in
          let sum : done + k + 1 ≡ done + (k + 1) = omega arith in
          let here : take (done + (k + 1)) a ≡ take (done + (k + 1)) b = subst (λ (j : ℕ). take j a ≡ take j b) sum there in
          parts.other (more (drop done a) ∙ sym (drop-take done (k + 1) a) ∙ ap (drop done) here ∙ drop-take done (k + 1) b ∙ sym (more (drop done b)));
    })
    (λ (past : size ≤ k).
    let all : (l : List ℕ) → take k (take size l) ≡ take size l = λ l. take_all k (take size l) (omega (arith, length-take size l, past)) in
    absurd (parts.other (ap (take (k + 1)) (sym (all (drop done a)) ∙ parts.same ∙ all (drop done b)))))
    (cases_lt k size)

-- the next range is at hand
pub parts_next : (a b c d : List ℕ) (at from done size n count k : ℕ) → c ≡ a → d ≡ b → n ≡ size → done + size ≤ count → take done (drop at a) ≡ take done (drop from b)
    → PartsAt k (take n (drop (at + done) c)) (take n (drop (from + done) d)) → PartsAt (done + k) (take count (drop at a)) (take count (drop from b))
parts_next a b c d at from done size n count k one two long within same parts =
    let first : take n (drop (at + done) c) ≡ take size (drop done (drop at a)) =
    ap (λ (l : List ℕ). take n (drop (at + done) l)) one ∙ ap (λ (j : ℕ). take j (drop (at + done) a)) long ∙ ap (take size) (sym (drop-drop done at a)) in
    let second : take n (drop (from + done) d) ≡ take size (drop done (drop from b)) =
    ap (λ (l : List ℕ). take n (drop (from + done) l)) two ∙ ap (λ (j : ℕ). take j (drop (from + done) b)) long ∙ ap (take size) (sym (drop-drop done from b)) in
    parts_later (drop at a) (drop from b) done size count k within same
    (subst (λ (l : List ℕ). PartsAt k (take size (drop done (drop at a))) l) second (subst (λ (l : List ℕ). PartsAt k l (take n (drop (from + done) d))) first parts))

pub same_next : (a b c d : List ℕ) (at from done size n : ℕ) → c ≡ a → d ≡ b → n ≡ size → take done (drop at a) ≡ take done (drop from b)
    → take n (drop (at + done) c) ≡ take n (drop (from + done) d) → take (done + size) (drop at a) ≡ take (done + size) (drop from b)
same_next a b c d at from done size n one two long same more =
    let first : take n (drop (at + done) c) ≡ take size (drop done (drop at a)) =
    ap (λ (l : List ℕ). take n (drop (at + done) l)) one ∙ ap (λ (j : ℕ). take j (drop (at + done) a)) long ∙ ap (take size) (sym (drop-drop done at a)) in
    let second : take n (drop (from + done) d) ≡ take size (drop done (drop from b)) =
    ap (λ (l : List ℕ). take n (drop (from + done) l)) two ∙ ap (λ (j : ℕ). take j (drop (from + done) b)) long ∙ ap (take size) (sym (drop-drop done from b)) in
    same_range (drop at a) (drop from b) done size same (sym first ∙ more ∙ second)

-- where two lists part is known of others that are the same
pub parts_of : (a b c d : List ℕ) (k : ℕ) → a ≡ c → b ≡ d → PartsAt k a b → PartsAt k c d
parts_of a b c d k one two parts = subst (λ (l : List ℕ). PartsAt k c l) two (subst (λ (l : List ℕ). PartsAt k l b) one parts)

pub some_from : {T : Type 0} {P Q : T → Type 0} (r : Option T) → ((x : T) → P x → Q x) → IfSome r P → IfSome r Q
some_from None f p = tt
some_from (Some x) f p = f x p

pub ok_from : {T E : Type 0} {P Q : T → Type 0} (r : Result T E) → ((x : T) → P x → Q x) → IfOk r P → IfOk r Q
ok_from (Ok x) f p = f x p
ok_from (Err e) f p = tt

-- two facts of what was returned give a third
pub ok_with : {T E : Type 0} {P Q R : T → Type 0} (r : Result T E) → ((x : T) → P x → Q x → R x) → IfOk r P → IfOk r Q → IfOk r R
ok_with (Ok x) f p q = f x p q
ok_with (Err e) f p q = tt
