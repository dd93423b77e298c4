-- Fronts of the bytes, tables one after the other, and one text.
use Rattle.std.proofs.Common.{◌≡◌, ℕ, ◌+◌, ◌≤◌, Bool, true, false, ◌&&◌, List, ◌++◌, length, take, Result, Err, refl, sym, ap, ◌∙◌, arith, inl, inr}
use Rattle.std.specs.Prelude.{if◌then◌else◌}
use Rattle.std.proofs.lemmas.Bool.{cases_lt, and_parts, le-leb}
use Rattle.std.proofs.lemmas.List.{length-take, take_all, take_at}
use Rattle.aea_records.specs.Tables.{Part, Late, End, judge, judge_then, has, bytes_at}
use Rattle.aea_records.specs.TableLaws.{FrontsAreJudgedAlike, JudgedInTurn, EachHasOneText}
use Rattle.aea_records.proofs.Stretches.{front-bytes_at}
use Rattle.aea_records.proofs.Judging.{spelled_is_judged, both}

pub has-take : (bytes : List ℕ) (window k : ℕ) → k ≤ window → has (take window bytes) k ≡ has bytes k
has-take bytes window k h =
    elim (cases_lt (length bytes) window) [
      | inl lt ↦ ap (λ (l : List ℕ). has l k) (take_all window bytes (omega arith))
      | inr le ↦ le-leb k (length (take window bytes)) (omega (arith, length-take window bytes)) ∙ sym (le-leb k (length bytes) (omega arith))
    ]

-- choices of the same where the tests are, and where they hold
same_choice : {X : Type 0} (b c : Bool) (x y z : X) → b ≡ c → (c ≡ true → x ≡ y) → (if b then x else z) ≡ (if c then y else z)
same_choice b true x y z e h = ap (λ (d : Bool). if d then x else z) e ∙ h refl
same_choice b false x y z e h = ap (λ (d : Bool). if d then x else z) e

-- fields that end within a front of the bytes are judged in it as in all of them
pub fronts_are_judged_alike : FrontsAreJudgedAlike
fronts_are_judged_alike A (Part n test next) bytes at size within =
    let same : bytes_at n at (take size bytes) ≡ bytes_at n at bytes = front-bytes_at bytes at n size within.0 in
    same_choice (has (take size bytes) (at + n) && test (bytes_at n at (take size bytes))) (has bytes (at + n) && test (bytes_at n at bytes))
    (judge (next (bytes_at n at (take size bytes))) (at + n) (take size bytes)) (judge (next (bytes_at n at bytes)) (at + n) bytes) (Err at)
    (λ i. has-take bytes size (at + n) within.0 i && test (same i))
    (λ passes.
    ap (λ (l : List ℕ). judge (next l) (at + n) (take size bytes)) same
    ∙ fronts_are_judged_alike A (next (bytes_at n at bytes)) bytes (at + n) size
    (within.1 (bytes_at n at bytes) (and_parts (has bytes (at + n)) (test (bytes_at n at bytes)) passes).1))
fronts_are_judged_alike A (Late place good next) bytes at size within =
    same_choice good good (judge next at (take size bytes)) (judge next at bytes) (Err place) refl
    (λ passes. fronts_are_judged_alike A next bytes at size within)
fronts_are_judged_alike A (End a) bytes at size within = refl

-- a choice, and what is judged then
judge_chosen : {A B : Type 0} (b : Bool) (x : Result (A × ℕ) ℕ) (e : ℕ) (more : A → ℕ → Result (B × ℕ) ℕ)
    → judge_then (if b then x else Err e) more ≡ (if b then judge_then x more else Err e)
judge_chosen true x e more = refl
judge_chosen false x e more = refl

-- two tables in a row are judged one after the other
pub judged_in_turn : JudgedInTurn
judged_in_turn A B (Part n test next) more bytes at =
    let go : Bool = has bytes (at + n) && test (bytes_at n at bytes) in
    ap (λ (r : Result (B × ℕ) ℕ). if has bytes (at + n) && test (bytes_at n at bytes) then r else Err at)
    (judged_in_turn A B (next (bytes_at n at bytes)) more bytes (at + n))
    ∙ sym (judge_chosen (has bytes (at + n) && test (bytes_at n at bytes)) (judge (next (bytes_at n at bytes)) (at + n) bytes) at (λ v end. judge (more v) end bytes))
judged_in_turn A B (Late place good next) more bytes at =
    ap (λ (r : Result (B × ℕ) ℕ). if good then r else Err place) (judged_in_turn A B next more bytes at)
    ∙ sym (judge_chosen good (judge next at bytes) place (λ v end. judge (more v) end bytes))
judged_in_turn A B (End a) more bytes at = refl

-- no text of a table begins another one, and none says two things
pub each_has_one_text : EachHasOneText
each_has_one_text A table text other x y v w mine theirs same =
    let first = spelled_is_judged A table text x (text ++ x) 0 v mine (omega arith) refl in
    let second = spelled_is_judged A table other y (text ++ x) 0 w theirs (omega arith) same in
    let pair : (v, 0 + length text) ≡ (w, 0 + length other) = both (v, 0 + length text) (w, 0 + length other) 0 (sym first ∙ second) in
    let sizes : 0 + length text ≡ 0 + length other = ap (λ (p : A × ℕ). p.1) pair in
    let long : length text ≡ length other = omega (arith, sizes) in (
      ap (λ (p : A × ℕ). p.0) pair,
      sym (take_at text x (length text) refl) ∙ ap (take (length text)) same ∙ take_at other y (length text) (sym long),
    )
