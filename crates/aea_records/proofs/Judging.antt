-- What is spelled is judged so, and what is judged to be valid is spelled.
use Rattle.std.proofs.Common.{◌≡◌, ℕ, ◌+◌, ◌^◌, ◌<◌, ◌≤◌, Bool, true, false, ◌&&◌, List, [], ◌++◌, length, drop, Result, Ok, Err, refl, sym, ap, subst, ◌∙◌, append_assoc, arith}
use Rattle.std.specs.Prelude.{if◌then◌else◌}
use Rattle.std.proofs.lemmas.Bool.{and_parts, and_from, leb-true, le-leb}
use Rattle.std.proofs.lemmas.List.{length-append, take_all}
use Rattle.std.proofs.lemmas.List.Elements.{All-nil, All-append}
use Rattle.aea_records.specs.Tables.{Part, Late, End, judge, has, bytes_at}
use Rattle.aea_records.specs.TableLaws.{AreBytes, SpelledIsJudged, JudgedIsSpelled}
use Rattle.aea_records.proofs.Stretches.{part_stands, part_splits, length-bytes_at, part-AreBytes}

-- a choice that was made
chosen : {X : Type 0} (b : Bool) (x y : X) → b ≡ true → (if b then x else y) ≡ x
chosen true x y e = refl
chosen false x y e = cc

-- what a table spells is judged so wherever it is in bytes, whatever follows it
pub spelled_is_judged : SpelledIsJudged
spelled_is_judged A (Part n test next) text rest bytes at v spells within stands =
    let part = spells.0 in
    let more = spells.1 in
    let is : drop at bytes ≡ part ++ (more ++ rest) = stands ∙ ap (λ (l : List ℕ). l ++ rest) spells.2 ∙ append_assoc part more rest in
    let wide : length part ≡ n = spells.3 in
    let p = part_stands bytes part (more ++ rest) at n (at + n) (record { within = within; same = is }) wide refl in
    let there : (has bytes (at + n) && test (bytes_at n at bytes)) ≡ true =
    and_from (has bytes (at + n)) (test (bytes_at n at bytes)) (le-leb (at + n) (length bytes) p.1.within) (ap test p.0 ∙ spells.4) in
    let size : at + n + length more ≡ at + length text = omega (arith, ap length spells.2, length-append part more, wide) in
    chosen (has bytes (at + n) && test (bytes_at n at bytes)) (judge (next (bytes_at n at bytes)) (at + n) bytes) (Err at) there
    ∙ ap (λ (l : List ℕ). judge (next l) (at + n) bytes) p.0
    ∙ spelled_is_judged A (next part) more rest bytes (at + n) v spells.5 p.1.within p.1.same
    ∙ ap (λ (k : ℕ). Ok (v, k)) size
spelled_is_judged A (Late place good next) text rest bytes at v spells within stands =
    chosen good (judge next at bytes) (Err place) spells.0 ∙ spelled_is_judged A next text rest bytes at v spells.1 within stands
spelled_is_judged A (End a) text rest bytes at v spells within stands =
    let size : at ≡ at + length text = omega (arith, ap length spells.0) in
    λ i. Ok (sym spells.1 i, size i)

-- a choice of a success
made : {X Y : Type 0} (b : Bool) (x : Result X Y) (e : Y) (v : X) → (if b then x else Err e) ≡ Ok v → (b ≡ true) × (x ≡ Ok v)
made true x e v is = (refl, is)
made false x e v is = absurd (let h : Err e ≡ Ok v = is in cc)

-- what is in successes that are equal
pub both : {X Y Z : Type 0} (p q : X × Y) (e : Z) → (let r : Result (X × Y) Z = Ok p in r) ≡ Ok q → p ≡ q
both {X = X} {Y = Y} {Z = Z} p q e same = ap (λ (r : Result (X × Y) Z). held r) same
  where
    held : Result (X × Y) Z → X × Y
    held (Ok a) = a
    held (Err z) = p

whole-AreBytes : (bytes : List ℕ) (at n : ℕ) → at + n ≤ length bytes → AreBytes bytes → AreBytes (bytes_at n at bytes)
whole-AreBytes bytes at n within are = part-AreBytes bytes at n (length bytes) within (subst AreBytes (sym (take_all (length bytes) bytes (omega arith))) are)

-- where a table judges bytes to be valid, a text of it is there that says what was judged
pub judged_is_spelled : JudgedIsSpelled
judged_is_spelled A (Part n test next) bytes at end v are within judged =
    let part : List ℕ = bytes_at n at bytes in
    let go = made (has bytes (at + n) && test (bytes_at n at bytes)) (judge (next (bytes_at n at bytes)) (at + n) bytes) at (v, end) judged in
    let tests = and_parts (has bytes (at + n)) (test (bytes_at n at bytes)) go.0 in
    let there : at + n ≤ length bytes = leb-true (at + n) (length bytes) tests.0 in
    let wide : length (bytes_at n at bytes) ≡ n = length-bytes_at bytes at n there in
    let more = judged_is_spelled A (next (bytes_at n at bytes)) bytes (at + n) end v are there go.1 in
    record {
      text = bytes_at n at bytes ++ more.text;
      are = All-append (λ b. b < 2 ^ 8) (bytes_at n at bytes) more.text (whole-AreBytes bytes at n there are) more.are;
      spells = (bytes_at n at bytes, more.text, refl, wide, tests.1, more.spells);
      spelling = part_splits bytes at n (at + n) refl ∙ ap (λ (l : List ℕ). bytes_at n at bytes ++ l) more.spelling
          ∙ sym (append_assoc (bytes_at n at bytes) more.text (drop end bytes));
      place = omega (arith, more.place, wide, length-append (bytes_at n at bytes) more.text);
      within = more.within;
    }
judged_is_spelled A (Late place good next) bytes at end v are within judged =
    let go = made good (judge next at bytes) place (v, end) judged in
    let more = judged_is_spelled A next bytes at end v are within go.1 in
    record { text = more.text; are = more.are; spells = (go.0, more.spells); spelling = more.spelling; place = more.place; within = more.within }
judged_is_spelled A (End a) bytes at end v are within judged =
    let same : (a, at) ≡ (v, end) = both (a, at) (v, end) 0 judged in
    let value : a ≡ v = ap (λ (q : A × ℕ). q.0) same in
    let place : at ≡ end = ap (λ (q : A × ℕ). q.1) same in
    record {
      text = [];
      are = All-nil (λ b. b < 2 ^ 8);
      spells = (refl, sym value);
      spelling = ap (λ (k : ℕ). drop k bytes) place;
      place = omega (arith, place);
      within = omega (arith, place);
    }
