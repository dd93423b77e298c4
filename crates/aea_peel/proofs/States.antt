-- The steps taken so far, and the marks of what they gave.
use Rattle.std.proofs.Common.{◌≡◌, ◌≢◌, ℕ, zero, suc, ◌<◌, inl, inr, ◌⊎◌, Bool, true, false, ◌||◌, List, [], ◌∷◌, ◌++◌, take, length, set, slice_get, None, Some, refl, sym, ◌∙◌, ap, subst, arith}
use Rattle.std.specs.List.{IsDistinct}
use Rattle.std.specs.Cmp.{IsEquivalence}
use Rattle.std.proofs.lemmas.Bool.{or_cases, or_left, or_right, or_parts, cases_Bool, false≢true, false_from_ne_true}
use Rattle.std.proofs.lemmas.List.{map-append, get_or-set_same, get_or-set_other, take-append-le}
use Rattle.std.proofs.lemmas.List.Folds.{list_any-append}
use Rattle.std.proofs.lemmas.Map.Keys.{IsDistinct-push}
use Rattle.std.proofs.lemmas.Option.{slice_get_past}
use Rattle.std.proofs.Math.Seq.{take-append_seam}
use Rattle.aea_lattice.specs.declared.blocks.BlockId.{BlockId}
use Rattle.aea_lattice.specs.declared.blocks.EqId.{EqId}
use Rattle.aea_lattice.specs.declared.grid.Lattice.{Lattice}
use Rattle.aea_lattice.specs.Blocks.{HasBlock, number_of, blocks_count, same_block}
use Rattle.aea_lattice.specs.Equations.{HasEquation}
use Rattle.aea_lattice.specs.Closure.{IsForcedBy, IsReached, is_among}
use Rattle.aea_lattice.proofs.Equations.{same_block-equal, same_block-refl, number_below, number_equal, member_inside}
use Rattle.aea_lattice.proofs.Derivations.{reached-known, reached-forced, reached-within, forced-more}
use Rattle.aea_view.specs.Marked.{Marked}
use Rattle.aea_peel.specs.declared.plan.Step.{Step}
use Rattle.aea_peel.specs.Plans.{blocks_given, is_had, IsPlan, AreReached}
use Rattle.aea_peel.specs.Queue.{is_marked, IsState, IsSpent}

-- ---- blocks in lists of steps

same_block-flipped : (x y : BlockId) → same_block x y ≡ same_block y x
same_block-flipped x y =
    elim (cases_Bool (same_block x y)) [
      | inl same ↦ same ∙ sym (subst (λ b. same_block y b ≡ true) (sym (same_block-equal x y same)) (same_block-refl y))
      | inr differs ↦
          differs
          ∙ sym (false_from_ne_true (same_block y x) (λ same. false≢true (sym differs ∙ subst (λ b. same_block x b ≡ true) (sym (same_block-equal y x same)) (same_block-refl x))))
    ]

same_block-equivalence : IsEquivalence same_block
same_block-equivalence = record {
  refl = same_block-refl;
  symm = same_block-flipped;
  congr = λ x y z same. ap (λ b. same_block b z) (same_block-equal x y same);
}

or_nothing : (a : Bool) → (a || false) ≡ a
or_nothing true = refl
or_nothing false = refl

or_assoc : (a b c : Bool) → (a || (b || c)) ≡ ((a || b) || c)
or_assoc true b c = refl
or_assoc false b c = refl

blocks_given-push : (steps : List Step) (s : Step) → blocks_given (steps ++ s ∷ []) ≡ blocks_given steps ++ s.block ∷ []
blocks_given-push steps s = map-append (λ (x : Step). x.block) steps (s ∷ [])

among-push : (steps : List Step) (s : Step) (d : BlockId) → is_among (blocks_given (steps ++ s ∷ [])) d ≡ (is_among (blocks_given steps) d || same_block d s.block)
among-push steps s d =
    ap (λ blocks. is_among blocks d) (blocks_given-push steps s)
    ∙ list_any-append (same_block d) (blocks_given steps) (s.block ∷ [])
    ∙ ap (λ a. is_among (blocks_given steps) d || a) (or_nothing (same_block d s.block))

pub is_had-push : (known : BlockId → Bool) (steps : List Step) (s : Step) (d : BlockId) → is_had known (steps ++ s ∷ []) d ≡ (is_had known steps d || same_block d s.block)
is_had-push known steps s d =
    ap (λ a. known d || a) (among-push steps s d) ∙ or_assoc (known d) (is_among (blocks_given steps) d) (same_block d s.block)

-- an item of a list with one more item is in the list, or is the one more
pub get_push : {X : Type 0} → (xs : List X) (y x : X) (k : ℕ) → slice_get (xs ++ y ∷ []) k ≡ Some x → ((k < length xs) × (slice_get xs k ≡ Some x)) ⊎ ((k ≡ length xs) × (x ≡ y))
get_push [] y x zero h = inr (refl, cc)
get_push [] y x (suc k) h = absurd (cc)
get_push (z ∷ zs) y x zero h = inl (omega arith, h)
get_push (z ∷ zs) y x (suc k) h =
    elim (get_push zs y x k h) [ inl p ↦ inl (omega (arith, p.0), p.1) | inr p ↦ inr (omega (arith, p.0), p.1) ]

-- ---- the first state, one more step, and the end

-- where exactly the known blocks of the lattice are marked, the marks are a state without steps
pub IsState-start : (l : Lattice) (known : BlockId → Bool) (marks : List Bool) → ((b : BlockId) → HasBlock l b → is_marked l marks b ≡ known b) → IsState l known [] marks
unfolding IsDistinct
IsState-start l known marks same = record {
  marked = λ b inside. same b inside ∙ sym (or_nothing (known b));
  distinct = tt;
  given = λ b h. absurd (false≢true h);
  forced = λ k s h. let none : slice_get [] k ≡ None = slice_get_past {X = Step} [] k (omega arith) in absurd (cc);
}

-- what the marked blocks of an equation give, known blocks and earlier steps give
pub forced-had : (l : Lattice) (known : BlockId → Bool) (steps : List Step) (marks : List Bool) (b : BlockId) (e : EqId)
    → ((d : BlockId) → HasBlock l d → is_marked l marks d ≡ is_had known steps d)
    → IsForcedBy l (is_marked l marks) b e → IsForcedBy l (is_had known steps) b e
forced-had l known steps marks b e same forced =
    forced-more l (is_marked l marks) (is_had known steps) b e
    (λ d member marked. sym (same d (member_inside l e d forced.equation member)) ∙ marked) forced

-- a mark leaves the marks of the other blocks as they were
pub mark_elsewhere : (l : Lattice) (marks : List Bool) (b d : BlockId) → HasBlock l b → HasBlock l d → d ≢ b
    → is_marked l (set marks (number_of l b) true) d ≡ is_marked l marks d
mark_elsewhere l marks b d hb hd other =
    get_or-set_other marks (number_of l b) (number_of l d) true false (λ same. other (number_equal l d b hd hb same))

pub mark_here : (l : Lattice) (marks : List Bool) (b : BlockId) → HasBlock l b → length marks ≡ blocks_count l
    → is_marked l (set marks (number_of l b) true) b ≡ true
mark_here l marks b hb long =
    get_or-set_same marks (number_of l b) true false (let below : number_of l b < blocks_count l = number_below l b hb in omega arith)

marked-push : (l : Lattice) (known : BlockId → Bool) (steps : List Step) (marks : List Bool) (s : Step)
    → length marks ≡ blocks_count l → HasBlock l s.block
    → ((d : BlockId) → HasBlock l d → is_marked l marks d ≡ is_had known steps d)
    → (d : BlockId) → HasBlock l d → is_marked l (set marks (number_of l s.block) true) d ≡ is_had known (steps ++ s ∷ []) d
marked-push l known steps marks s long inside same d hd =
    elim (cases_Bool (same_block d s.block)) [
      | inl is ↦
          subst (λ b. is_marked l (set marks (number_of l s.block) true) b ≡ true) (sym (same_block-equal d s.block is)) (mark_here l marks s.block inside long)
          ∙ sym (is_had-push known steps s d ∙ or_right (is_had known steps d) (same_block d s.block) is)
      | inr differs ↦
          mark_elsewhere l marks s.block d inside hd (λ is. false≢true (sym differs ∙ subst (λ b. same_block d b ≡ true) is (same_block-refl d)))
          ∙ same d hd
          ∙ sym (is_had-push known steps s d ∙ ap (λ a. is_had known steps d || a) differs ∙ or_nothing (is_had known steps d))
    ]

-- a block that is had is reached
had-reached : (l : Lattice) (known : BlockId → Bool) (steps : List Step)
    → ((b : BlockId) → is_among (blocks_given steps) b ≡ true → IsReached l known b)
    → (d : BlockId) → is_had known steps d ≡ true → IsReached l known d
had-reached l known steps given d had =
    elim (or_cases (known d) (is_among (blocks_given steps) d) had) [
      | inl k ↦ reached-known l known d k
      | inr g ↦ given d g
    ]

given-push : (l : Lattice) (known : BlockId → Bool) (steps : List Step) (s : Step)
    → HasBlock l s.block → is_had known steps s.block ≡ false → IsForcedBy l (is_had known steps) s.block s.by
    → ((b : BlockId) → is_among (blocks_given steps) b ≡ true → HasBlock l b × (known b ≡ false) × IsReached l known b)
    → (b : BlockId) → is_among (blocks_given (steps ++ s ∷ [])) b ≡ true → HasBlock l b × (known b ≡ false) × IsReached l known b
given-push l known steps s inside new forced given b h =
    elim (or_cases (is_among (blocks_given steps) b) (same_block b s.block) (sym (among-push steps s b) ∙ h)) [
      | inl earlier ↦ given b earlier
      | inr is ↦
          subst (λ d. HasBlock l d × (known d ≡ false) × IsReached l known d) (sym (same_block-equal b s.block is)) (
            inside,
            (or_parts (known s.block) (is_among (blocks_given steps) s.block) new).0,
            reached-forced l known (is_had known steps) s.block s.by (had-reached l known steps (λ d g. (given d g).2)) forced,
          )
    ]

forced-push : (l : Lattice) (known : BlockId → Bool) (steps : List Step) (s : Step)
    → IsForcedBy l (is_had known steps) s.block s.by
    → ((k : ℕ) (t : Step) → slice_get steps k ≡ Some t → IsForcedBy l (is_had known (take k steps)) t.block t.by)
    → (k : ℕ) (t : Step) → slice_get (steps ++ s ∷ []) k ≡ Some t → IsForcedBy l (is_had known (take k (steps ++ s ∷ []))) t.block t.by
forced-push l known steps s now earlier k t h =
    elim (get_push steps s t k h) [
      | inl p ↦ subst (λ xs. IsForcedBy l (is_had known xs) t.block t.by) (sym (take-append-le k steps (s ∷ []) (omega (arith, p.0)))) (earlier k t p.1)
      | inr p ↦
          subst (λ (u : Step). IsForcedBy l (is_had known (take k (steps ++ s ∷ []))) u.block u.by) (sym p.1)
          (subst (λ xs. IsForcedBy l (is_had known xs) s.block s.by)
          (sym (ap (λ n. take n (steps ++ s ∷ [])) p.0 ∙ take-append_seam steps (s ∷ []))) now)
    ]

-- with one more step and its mark a state remains one, where there is a mark for each block of the lattice, and
-- the step's equation forces its block, one of the lattice that is not marked yet, from marked ones
pub IsState-push : (l : Lattice) (known : BlockId → Bool) (steps : List Step) (marks : List Bool) (s : Step)
    → length marks ≡ blocks_count l → HasBlock l s.block
    → IsForcedBy l (is_marked l marks) s.block s.by → is_marked l marks s.block ≡ false
    → IsState l known steps marks → IsState l known (steps ++ s ∷ []) (set marks (number_of l s.block) true)
IsState-push l known steps marks s long inside forced new state =
    let had_forced : IsForcedBy l (is_had known steps) s.block s.by = forced-had l known steps marks s.block s.by state.marked forced in
    let not_had : is_had known steps s.block ≡ false = sym (state.marked s.block inside) ∙ new in
    record {
      marked = marked-push l known steps marks s long inside state.marked;
      distinct = subst (IsDistinct same_block) (sym (blocks_given-push steps s))
          (IsDistinct-push same_block-equivalence (blocks_given steps) s.block state.distinct
          (or_parts (known s.block) (is_among (blocks_given steps) s.block) not_had).1);
      given = given-push l known steps s inside not_had had_forced state.given;
      forced = forced-push l known steps s had_forced state.forced;
    }

-- what is had is closed, where each equation is spent
had-closed : (l : Lattice) (known : BlockId → Bool) (steps : List Step) (marks : List Bool)
    → ((e : EqId) → HasEquation l e → IsSpent l marks e) → IsState l known steps marks
    → (e : EqId) (b : BlockId) → IsForcedBy l (is_had known steps) b e → is_had known steps b ≡ true
had-closed l known steps marks spent state e b forced =
    sym (state.marked b (member_inside l e b forced.equation forced.contains))
    ∙ spent e forced.equation b
    (forced-more l (is_had known steps) (is_marked l marks) b e
    (λ d member had. state.marked d (member_inside l e d forced.equation member) ∙ had) forced)

given-whole : (l : Lattice) (known : BlockId → Bool) (steps : List Step) (marks : List Bool)
    → ((e : EqId) → HasEquation l e → IsSpent l marks e) → IsState l known steps marks
    → (b : BlockId) → known b ≡ false → IsReached l known b → is_among (blocks_given steps) b ≡ true
given-whole l known steps marks spent state b new reached =
    let had : is_had known steps b ≡ true =
    reached-within l known (is_had known steps) (λ d k. or_left (known d) (is_among (blocks_given steps) d) k)
    (had-closed l known steps marks spent state) b reached in
    elim (or_cases (known b) (is_among (blocks_given steps) b) had) [
      | inl k ↦ absurd (false≢true (sym new ∙ k))
      | inr given ↦ given
    ]

-- where each equation is spent, the steps are a plan
pub IsPlan-end : (l : Lattice) (known : BlockId → Bool) (steps : List Step) (marks : List Bool)
    → ((e : EqId) → HasEquation l e → IsSpent l marks e) → IsState l known steps marks → IsPlan l known steps
IsPlan-end l known steps marks spent state = record {
  distinct = state.distinct;
  whole = λ b. (state.given b, λ h. given-whole l known steps marks spent state b h.1 h.2);
  forced = state.forced;
}

-- and what is marked is the closure
pub AreReached-end : (l : Lattice) (known : BlockId → Bool) (steps : List Step) (marks : List Bool)
    → ((e : EqId) → HasEquation l e → IsSpent l marks e) → IsState l known steps marks
    → AreReached (record { lattice = l; marks = marks }) known
AreReached-end l known steps marks spent state b inside = (
  λ marked. had-reached l known steps (λ d given. (state.given d given).2) b (sym (state.marked b inside) ∙ marked),
  λ reached.
      state.marked b inside
      ∙ reached-within l known (is_had known steps) (λ d k. or_left (known d) (is_among (blocks_given steps) d) k)
      (had-closed l known steps marks spent state) b reached,
)

-- marks of a lattice are those of their list in it
pub marks-of : (m : Marked) (l : Lattice) → m.lattice ≡ l → m ≡ record { lattice = l; marks = m.marks }
marks-of m l same = ap (λ (x : Lattice). let y : Marked = record { lattice = x; marks = m.marks } in y) same
