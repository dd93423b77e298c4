-- A copy has one reading, or is bad at one place.
use Rattle.std.proofs.Common.{◌≡◌, ◌≢◌, ⊎_elim, ℕ, ◌+◌, ◌≤◌, Bool, true, false, List, [], ◌∷◌, ◌++◌, length, take, drop, get_or, refl, sym, ap, ◌∙◌, subst, arith}
use Rattle.std.proofs.lemmas.List.{length-append, append_assoc, append-nil, get_or_append_left}
use Rattle.aea_records.specs.Format.{open_gate}
use Rattle.aea_disk.specs.Ends.{greatest_place}
use Rattle.aea_copies.specs.Format.{first_link, link_after, last_link, copy_entry, copy_mark, chain, copied, text_of}
use Rattle.aea_copies.specs.Grammar.{is_first, IsKind, IsPiece, ArePieces, IsBegun, HasMark, IsBadGate, IsBadEntryAt}
use Rattle.aea_copies.specs.Laws.{HasOnePieces, CopiesAreNotBad, IsBadAtOnePlace, TextsEndOnce}
use Rattle.aea_copies.proofs.Entries.{length-entry}
use Rattle.aea_copies.proofs.Chains.{copied_push}
use Rattle.aea_copies.proofs.Agreeing.{Follows, copied_agree, no_more, AreKinds, kinds_of, Continues, texts_agree}

without_nil : (ps more : List (List ℕ)) → more ≡ [] → ps ++ more ≡ ps
without_nil ps more none = ap (λ (l : List (List ℕ)). ps ++ l) none ∙ append-nil ps

pub has_one_pieces : HasOnePieces
has_one_pieces bytes ps qs d e one two =
    let same = sym one.spelling ∙ two.spelling in
    let pieces : ps ≡ qs =
    ⊎_elim
    (λ (on : Follows first_link ps qs (one.gate ∷ one.after) (two.gate ∷ two.after)).
    sym (on.pieces ∙ without_nil ps on.more (no_more (last_link first_link ps) on.more one.gate one.after (two.gate ∷ two.after) one.closed on.rest)))
    (λ (on : Follows first_link qs ps (two.gate ∷ two.after) (one.gate ∷ one.after)).
    on.pieces ∙ without_nil qs on.more (no_more (last_link first_link qs) on.more two.gate two.after (one.gate ∷ one.after) two.closed on.rest))
    (copied_agree ps qs (one.gate ∷ one.after) (two.gate ∷ two.after) one.valid two.valid same) in
    (pieces, one.place ∙ ap (λ (l : List (List ℕ)). length (copied l)) pieces ∙ sym two.place)

-- the piece after others is of its kind
kind_there : (ps ms : List (List ℕ)) (m : List ℕ) → ArePieces true (ps ++ m ∷ ms) → IsPiece (is_first ps) m
kind_there [] ms m are = are.0
kind_there (p ∷ ps) ms m are = later ps are.1
  where
    later : (qs : List (List ℕ)) → ArePieces false (qs ++ m ∷ ms) → IsPiece false m
    later [] are = are.0
    later (q ∷ qs) are = later qs are.1

-- pieces with more after them are spelled at greater length
longer : (ps ms : List (List ℕ)) (m : List ℕ) → length (copied ps) + (37 + length m) ≤ length (copied (ps ++ m ∷ ms))
longer ps ms m =
    let split : copied ((ps ++ m ∷ []) ++ ms) ≡ copied (ps ++ m ∷ ms) = ap copied (append_assoc ps (m ∷ []) ms) in
    let short : length (copied (ps ++ m ∷ [])) ≤ length (copied ((ps ++ m ∷ []) ++ ms)) = grows (ps ++ m ∷ []) ms in
    omega (arith, ap length split, short, ap length (copied_push ps m), length-append (copied ps) (copy_entry (last_link first_link ps) m), length-entry (last_link first_link ps) m)
  where
    chain_grows : (link : List ℕ) (qs more : List (List ℕ)) → length (chain link qs) ≤ length (chain link (qs ++ more))
    chain_grows link [] more = omega arith
    chain_grows link (q ∷ qs) more =
        omega (arith, chain_grows (link_after link q) qs more, length-append (copy_entry link q) (chain (link_after link q) qs), length-append (copy_entry link q) (chain (link_after link q) (qs ++ more)))

    grows : (qs more : List (List ℕ)) → length (copied qs) ≤ length (copied (qs ++ more))
    grows qs more = omega (arith, chain_grows first_link qs more, length-append copy_mark (chain first_link qs), length-append copy_mark (chain first_link (qs ++ more)))

-- where an entry is, what is there is not bad
entry_stands : (ps ms : List (List ℕ)) (m rest y : List ℕ) → ArePieces true (ps ++ m ∷ ms) → length (copied (ps ++ m ∷ ms)) ≤ greatest_place → rest ≡ chain (last_link first_link ps) (m ∷ ms) ++ y
    → IsBadGate ps (length (copied ps)) rest → ⊥
entry_stands ps ms m rest y are short spelling bad =
    let link = last_link first_link ps in
    let others = chain (link_after link m) ms ++ y in
    let whole : rest ≡ copy_entry link m ++ others = spelling ∙ append_assoc (copy_entry link m) (chain (link_after link m) ms) y in
    ⊎_elim
    (λ closed. closed.0 refl)
    (λ open_. open_.1 m others (record { valid = kind_there ps ms m are; spelling = refl; within = omega (arith, longer ps ms m, short) }))
    (subst (IsBadGate ps (length (copied ps))) whole bad)

-- where the entries end, what is there is not bad
end_stands : (ps : List (List ℕ)) (gate : ℕ) (after rest : List ℕ) (at : ℕ) → is_first ps ≡ false → gate ≢ open_gate → rest ≡ gate ∷ after → IsBadGate ps at rest → ⊥
end_stands ps gate after rest at some closed is bad =
    ⊎_elim (λ none. differ (sym some ∙ none.1)) (λ open_. closed open_.0) (subst (IsBadGate ps at) is bad)
  where
    differ : false ≡ true → ⊥
    differ e = cc

pub copy_begins : (bytes : List ℕ) (ps : List (List ℕ)) (x : List ℕ) → 1 ≤ length x → bytes ≡ copied ps ++ x → IsBegun bytes × HasMark bytes
copy_begins bytes ps x some spelling = (
  record {
    long = omega (arith, ap length spelling, length-append (copied ps) x, length-append copy_mark (chain first_link ps), some);
    gate = ap (λ (l : List ℕ). get_or l 0 0) spelling;
  },
  ap (λ (l : List ℕ). take 8 (drop 1 l)) spelling,
)

pub copies_are_not_bad : CopiesAreNotBad
copies_are_not_bad bytes ps end at copy bad =
    let begins = copy_begins bytes ps (copy.gate ∷ copy.after) (omega arith) copy.spelling in
    ⊎_elim
    (λ none. none.1 begins.0)
    (λ others. ⊎_elim
    (λ unmarked. unmarked.2 begins.1)
    (λ entry. wrong entry.2)
    others)
    bad
  where
    wrong : IsBadEntryAt bytes at → ⊥
    wrong b =
        ⊎_elim
        (λ (on : Follows first_link b.pieces ps b.rest (copy.gate ∷ copy.after)). by_more on.more on.pieces on.rest)
        (λ (on : Follows first_link ps b.pieces (copy.gate ∷ copy.after) b.rest).
        let none = no_more (last_link first_link ps) on.more copy.gate copy.after b.rest copy.closed on.rest in
        let same : b.pieces ≡ ps = on.pieces ∙ without_nil ps on.more none in
        let rest : copy.gate ∷ copy.after ≡ b.rest = on.rest ∙ ap (λ (l : List (List ℕ)). chain (last_link first_link ps) l ++ b.rest) none in
        end_stands b.pieces copy.gate copy.after b.rest at (ap is_first same ∙ copy.some) copy.closed (sym rest) b.bad)
        (copied_agree b.pieces ps b.rest (copy.gate ∷ copy.after) b.valid copy.valid (sym b.spelling ∙ copy.spelling))
      where
        by_more : (more : List (List ℕ)) → ps ≡ b.pieces ++ more → b.rest ≡ chain (last_link first_link b.pieces) more ++ (copy.gate ∷ copy.after) → ⊥
        by_more [] pieces rest =
            end_stands b.pieces copy.gate copy.after b.rest at (ap is_first (sym (pieces ∙ append-nil b.pieces)) ∙ copy.some) copy.closed rest b.bad
        by_more (m ∷ ms) pieces rest =
            entry_stands b.pieces ms m b.rest (copy.gate ∷ copy.after) (subst (ArePieces true) pieces copy.valid)
            (omega (arith, ap (λ (l : List (List ℕ)). length (copied l)) pieces, copy.place, copy.within)) rest (subst (λ (k : ℕ). IsBadGate b.pieces k b.rest) b.place b.bad)

pub is_bad_at_one_place : IsBadAtOnePlace
is_bad_at_one_place bytes at other one two =
    ⊎_elim
    (λ none. ⊎_elim (λ again. none.0 ∙ sym again.0) (λ others. ⊎_elim (λ unmarked. absurd (none.1 unmarked.1)) (λ entry. absurd (none.1 entry.1)) others) two)
    (λ first. ⊎_elim
    (λ unmarked. ⊎_elim (λ none. absurd (none.1 unmarked.1)) (λ others. ⊎_elim (λ again. unmarked.0 ∙ sym again.0) (λ entry. absurd (unmarked.2 (marked entry.2 entry.1))) others) two)
    (λ entry. ⊎_elim (λ none. absurd (none.1 entry.1)) (λ others. ⊎_elim (λ unmarked. absurd (unmarked.2 (marked entry.2 entry.1))) (λ again. both at other entry.2 again.2) others) two)
    first)
    one
  where
    marked : {k : ℕ} → IsBadEntryAt bytes k → IsBegun bytes → HasMark bytes
    marked b begun = ap (λ (l : List ℕ). take 8 (drop 1 l)) b.spelling

    both : (k n : ℕ) → IsBadEntryAt bytes k → IsBadEntryAt bytes n → k ≡ n
    both k n a b =
        ⊎_elim
        (λ (on : Follows first_link a.pieces b.pieces a.rest b.rest). step k n a b on.more on.pieces on.rest)
        (λ (on : Follows first_link b.pieces a.pieces b.rest a.rest). sym (step n k b a on.more on.pieces on.rest))
        (copied_agree a.pieces b.pieces a.rest b.rest a.valid b.valid (sym a.spelling ∙ b.spelling))
      where
        step : (k n : ℕ) (a : IsBadEntryAt bytes k) (b : IsBadEntryAt bytes n) (more : List (List ℕ)) → b.pieces ≡ a.pieces ++ more → a.rest ≡ chain (last_link first_link a.pieces) more ++ b.rest → k ≡ n
        step k n a b [] pieces rest = a.place ∙ ap (λ (l : List (List ℕ)). length (copied l)) (sym (pieces ∙ append-nil a.pieces)) ∙ sym b.place
        step k n a b (m ∷ ms) pieces rest =
            absurd
            (entry_stands a.pieces ms m a.rest b.rest (subst (ArePieces true) pieces b.valid)
            (omega (arith, ap (λ (l : List (List ℕ)). length (copied l)) pieces, b.place, b.within)) rest (subst (λ (k : ℕ). IsBadGate a.pieces k a.rest) a.place a.bad))

-- a piece begins with an open gate
piece_gate : (first : Bool) (p x : List ℕ) → IsKind first p → get_or (p ++ x) 0 0 ≡ open_gate
piece_gate true p x is = get_or_append_left p x 0 0 (omega (arith, is.long)) ∙ is.gate
piece_gate false p x is = get_or_append_left p x 0 0 (omega (arith, is.long)) ∙ is.gate

-- after a gate that is not open no text goes on
no_text : (first : Bool) (more : List (List ℕ)) (gate : ℕ) (after y : List ℕ) → AreKinds first more → gate ≢ open_gate → gate ∷ after ≡ text_of more ++ y → more ≡ []
no_text first [] gate after y are closed same = refl
no_text first (m ∷ more) gate after y are closed same =
    absurd (closed (ap (λ (l : List ℕ). get_or l 0 0) (same ∙ append_assoc m (text_of more) y) ∙ piece_gate first m (text_of more ++ y) are.0))

-- the pieces after others
pieces_behind : (first : Bool) (ps more : List (List ℕ)) → AreKinds first (ps ++ more) → (b : Bool) × AreKinds b more
pieces_behind first [] more are = (first, are)
pieces_behind first (p ∷ ps) more are = pieces_behind false ps more are.1

pub kinds_end_once : (ps qs : List (List ℕ)) (gate last : ℕ) (after behind : List ℕ) → AreKinds true ps → AreKinds true qs → gate ≢ open_gate → last ≢ open_gate → text_of ps ++ gate ∷ after ≡ text_of qs ++ last ∷ behind → ps ≡ qs
kinds_end_once ps qs gate last after behind are others closed shut same =
    ⊎_elim
    (λ (on : Continues ps qs (gate ∷ after) (last ∷ behind)).
    let kind = pieces_behind true ps on.more (subst (AreKinds true) on.pieces others) in
    sym (on.pieces ∙ without_nil ps on.more (no_text kind.0 on.more gate after (last ∷ behind) kind.1 closed on.rest)))
    (λ (on : Continues qs ps (last ∷ behind) (gate ∷ after)).
    let kind = pieces_behind true qs on.more (subst (AreKinds true) on.pieces are) in
    on.pieces ∙ without_nil qs on.more (no_text kind.0 on.more last behind (gate ∷ after) kind.1 shut on.rest))
    (texts_agree true ps qs (gate ∷ after) (last ∷ behind) are others same)

pub texts_end_once : TextsEndOnce
texts_end_once ps qs gate last after behind are others closed shut same = kinds_end_once ps qs gate last after behind (kinds_of true ps are) (kinds_of true qs others) closed shut same
