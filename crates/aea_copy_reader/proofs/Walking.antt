-- Two copies that are walked side by side, one gate further.
use Rattle.std.proofs.Common.{◌≡◌, ◌↔◌, ℕ, ◌+◌, ◌-◌, Bool, true, false, List, [], ◌∷◌, ◌++◌, take, drop, refl, sym, ◌∙◌, subst, arith}
use Rattle.aea_copy_reader.specs.Judging.{HasRead, Apart, IsTurn, IsSame, IsOn}
use Rattle.aea_copy_reader.specs.Walking.{GoTogether, HaveCommon}
use Rattle.aea_copy_reader.specs.declared.known.Standing.{Standing}
use Rattle.aea_copy_reader.specs.declared.known.Judged.{Judged}
use Rattle.aea_copy_reader.specs.declared.known.Turn.{Turn}
use Rattle.aea_copy_reader.specs.declared.known.Turn.TheVariants.{Ends, BadHere, GoesOn}
use Rattle.aea_copy_reader.proofs.Comparing.{read_too, are_apart, first_ends}
use Rattle.aea_copy_reader.proofs.Seeing.{ranges_both}

-- what was compared first, and what was compared after it
pub same_both : (bytes others : List ℕ) (at n m k size : ℕ) (had mid same : Bool) → size ≡ n + m → k ≡ at + n → (mid ≡ true ↔ ((had ≡ true) × (take n (drop at others) ≡ take n (drop at bytes))))
    → (same ≡ true ↔ ((mid ≡ true) × (take m (drop k others) ≡ take m (drop k bytes)))) → (same ≡ true ↔ ((had ≡ true) × (take size (drop at others) ≡ take size (drop at bytes))))
same_both bytes others at n m k size had mid same sum place one two =
    let parts = ranges_both others bytes at at n m in
    let later : take m (drop k others) ≡ take m (drop k bytes) → take m (drop (at + n) others) ≡ take m (drop (at + n) bytes) = subst (λ (j : ℕ). take m (drop j others) ≡ take m (drop j bytes)) place in
    let sooner : take m (drop (at + n) others) ≡ take m (drop (at + n) bytes) → take m (drop k others) ≡ take m (drop k bytes) = subst (λ (j : ℕ). take m (drop j others) ≡ take m (drop j bytes)) (sym place) in
    let whole : take (n + m) (drop at others) ≡ take (n + m) (drop at bytes) → take size (drop at others) ≡ take size (drop at bytes) = subst (λ (j : ℕ). take j (drop at others) ≡ take j (drop at bytes)) (sym sum) in
    let split : take size (drop at others) ≡ take size (drop at bytes) → take (n + m) (drop at others) ≡ take (n + m) (drop at bytes) = subst (λ (j : ℕ). take j (drop at others) ≡ take j (drop at bytes)) sum in (
      λ is. let late = two.0 is in let early = one.0 late.0 in (early.0, whole (parts.1 (early.1, later late.1))),
      λ both. let ranges = parts.0 (split both.1) in two.1 (one.1 (both.0, ranges.0), sooner ranges.1),
    )

-- the gate and the length, and the rest of an entry
pub same_turn : (bytes others head : List ℕ) (at n : ℕ) (s : Standing) (had before : Bool) (turn : Turn) → s.place ≡ at → n ≡ 5 → head ≡ take 5 (drop at bytes) → (before ≡ true ↔ ((had ≡ true) × (take n (drop at others) ≡ head)))
    → IsOn s turn → IsSame bytes others (at + 5) before turn → IsSame bytes others at had turn
same_turn bytes others head at n s had before Ends here five front first on rest = tt
same_turn bytes others head at n s had before BadHere here five front first on rest = tt
same_turn bytes others head at n s had before (GoesOn t same) here five front first on rest =
    same_both bytes others at 5 (t.place - (at + 5)) (at + 5) (t.place - at) had before same (omega (arith, here, on.0, on.1)) refl
    (subst (λ (l : List ℕ). before ≡ true ↔ ((had ≡ true) × (take 5 (drop at others) ≡ l))) front (subst (λ (k : ℕ). before ≡ true ↔ ((had ≡ true) × (take k (drop at others) ≡ head))) five first))
    rest

-- before the first entry
pub together_first : (ledger bytes others : List ℕ) (pieces : List (List ℕ)) (s : Standing) (same : Bool) → same ≡ true → HasRead ledger bytes pieces s → HasRead ledger others pieces s → GoTogether ledger bytes others s s same
together_first ledger bytes others pieces s same is one two = record {
  pieces = pieces;
  one = one;
  two = two;
  here = λ _. refl;
  parted = λ not. absurd (differ (sym is ∙ not));
}
  where
    differ : true ≡ false → ⊥
    differ e = cc

-- where the first copy ends, or is bad
pub together_ends : (ledger bytes others : List ℕ) (s common : Standing) (same : Bool) (judged : Judged) (turn : Turn) → GoTogether ledger bytes others s common same → ((pieces : List (List ℕ)) → HasRead ledger bytes pieces s → IsTurn ledger bytes pieces s turn)
    → ((t : Standing) (still : Bool) → turn ≡ GoesOn t still → ⊥) → HaveCommon ledger bytes others (record { judged = judged; common = common; same = same })
together_ends ledger bytes others s common same judged turn go found none = record {
  pieces = go.pieces;
  one = go.one;
  two = go.two;
  parted = go.parted;
  whole = λ is.
      let one = subst (λ (c : Standing). HasRead ledger bytes go.pieces c) (go.here is) go.one in
      let two = subst (λ (c : Standing). HasRead ledger others go.pieces c) (go.here is) go.two in
      first_ends ledger bytes others go.pieces s turn one two (found go.pieces one) none;
}

-- where it goes on
pub together_on : (ledger bytes others : List ℕ) (s common t next : Standing) (same still : Bool) → GoTogether ledger bytes others s common same
    → ((pieces : List (List ℕ)) → HasRead ledger bytes pieces s → HasRead ledger bytes (pieces ++ take (t.text - s.text) (drop (s.place + 5) bytes) ∷ []) t)
    → (still ≡ true ↔ ((same ≡ true) × (take (t.place - s.place) (drop s.place others) ≡ take (t.place - s.place) (drop s.place bytes))))
    → (still ≡ true → next ≡ t) → (still ≡ false → next ≡ common) → GoTogether ledger bytes others t next still
together_on ledger bytes others s common t next same still go found kept on stays = by still refl same refl
  where
    piece : List ℕ
    piece = take (t.text - s.text) (drop (s.place + 5) bytes)

    differ : true ≡ false → ⊥
    differ e = cc

    at : same ≡ true → HasRead ledger bytes go.pieces s
    at is = subst (λ (c : Standing). HasRead ledger bytes go.pieces c) (go.here is) go.one

    too : same ≡ true → HasRead ledger others go.pieces s
    too is = subst (λ (c : Standing). HasRead ledger others go.pieces c) (go.here is) go.two

    by : (b : Bool) → still ≡ b → (d : Bool) → same ≡ d → GoTogether ledger bytes others t next still
    by true yes_ d is =
        let both = kept.0 yes_ in
        let one : HasRead ledger bytes (go.pieces ++ piece ∷ []) t = found go.pieces (at both.0) in
        let two : HasRead ledger others (go.pieces ++ piece ∷ []) t = read_too ledger bytes others go.pieces piece s t (at both.0) (too both.0) one (sym both.1) in
        record {
          pieces = go.pieces ++ piece ∷ [];
          one = subst (λ (c : Standing). HasRead ledger bytes (go.pieces ++ piece ∷ []) c) (sym (on yes_)) one;
          two = subst (λ (c : Standing). HasRead ledger others (go.pieces ++ piece ∷ []) c) (sym (on yes_)) two;
          here = λ _. on yes_;
          parted = λ not. absurd (differ (sym yes_ ∙ not));
        }
    by false not true is =
        let apart = are_apart ledger bytes others go.pieces piece s t (at is) (too is) (found go.pieces (at is)) (λ whole. absurd (differ (sym (kept.1 (is, sym whole)) ∙ not))) in
        record {
          pieces = go.pieces;
          one = subst (λ (c : Standing). HasRead ledger bytes go.pieces c) (sym (stays not)) go.one;
          two = subst (λ (c : Standing). HasRead ledger others go.pieces c) (sym (stays not)) go.two;
          here = λ yes_. absurd (differ (sym yes_ ∙ not));
          parted = λ _. subst (λ (c : Standing). Apart ledger bytes others go.pieces c) (sym (go.here is) ∙ sym (stays not)) apart;
        }
    by false not false is = record {
      pieces = go.pieces;
      one = subst (λ (c : Standing). HasRead ledger bytes go.pieces c) (sym (stays not)) go.one;
      two = subst (λ (c : Standing). HasRead ledger others go.pieces c) (sym (stays not)) go.two;
      here = λ yes_. absurd (differ (sym yes_ ∙ not));
      parted = λ _. subst (λ (c : Standing). Apart ledger bytes others go.pieces c) (sym (stays not)) (go.parted is);
    }

-- an end is no further entry, and a bad gate is none
pub ends_here : (t : Standing) (still : Bool) → Ends ≡ GoesOn t still → ⊥
ends_here t still e = cc

pub bad_here : (t : Standing) (still : Bool) → BadHere ≡ GoesOn t still → ⊥
bad_here t still e = cc
