use Rattle.std.proofs.Common.{rules, ◌≡◌, ◌↔◌, ◌+◌, ◌-◌, ℕ, List, length, take, drop, refl, sym, ap, ◌∙◌, subst, arith, true}
use Rattle.aea_disk.proofs.Frames.{reads_none, reads_both, reads_as}
use Rattle.aea_copies.proofs.Entries.{length-link}
use Rattle.aea_copy_reader.specs.Taking.{HasPieceAt}
use Rattle.aea_copy_reader.proofs.Seeing.{seen_over}
use Rattle.aea_copy_reader.proofs.Walking.{same_both}
use Rattle.aea_copy_reader.proofs.Turns.{bad_far, bad_end, bad_link, read_on}
use Rattle.aea_copy_reader.proofs.entries.entry_at.Goals as goal

pub is_linked-requires-clause-seen : goal.is_linked-requires-clause-seen
is_linked-requires-clause-seen g c = λ reveals.
    seen_over (g.D.Disk.state c.args.disk.now).files (g.D.Disk.state c.link_at.new.disk).files c.args.pair.file _ (c.in_ok-link.ensures.reads.contents reveals) (c.in_ok-link.ensures.seen reveals).own

pub keeps-requires-clause-seen : goal.keeps-requires-clause-seen
keeps-requires-clause-seen g c = λ reveals.
    seen_over (g.D.Disk.state c.args.disk.now).files (g.D.Disk.state c.is_linked.new.disk).files c.args.pair.other _ (c.in_ok-is_linked.ensures.reads.contents reveals ∙ c.in_ok-link.ensures.reads.contents reveals) (c.in_ok-link.ensures.seen reveals).twin

pub returns-then-far-clause-reads : goal.returns-then-far-clause-reads
returns-then-far-clause-reads g c = reads_none g.D.Disk.reveals _ (g.D.Disk.state c.args.disk.now) (λ is. cc)

pub returns-then-far-clause-turn : goal.returns-then-far-clause-turn
returns-then-far-clause-turn g c = λ reveals pieces stands.
    bad_far ((g.D.Disk.state c.args.disk.now).files 0) ((g.D.Disk.state c.args.disk.now).files c.args.pair.file) pieces c.args.stands.now c.args.len stands c.requires.place (c.requires.head reveals) (omega (arith, c.if-far.true))

pub returns-in_default-clause-turn : goal.returns-in_default-clause-turn
returns-in_default-clause-turn g c = λ reveals pieces stands.
    let none = rw c.in_default.is at c.in_ok-link.ensures.none in
    bad_end ((g.D.Disk.state c.args.disk.now).files 0) ((g.D.Disk.state c.args.disk.now).files c.args.pair.file) pieces c.args.stands.now c.args.len stands c.requires.place (c.requires.head reveals) (none reveals)

pub returns-in_err-is_linked-clause-reads : goal.returns-in_err-is_linked-clause-reads
returns-in_err-is_linked-clause-reads g c =
    reads_both g.D.Disk.reveals ⊥ _ (g.D.Disk.state c.args.disk.now) (g.D.Disk.state c.link_at.new.disk) (g.D.Disk.state c.is_linked.new.disk) (λ none. none)
    (reads_as g.D.Disk.reveals _ ⊥ (g.D.Disk.state c.args.disk.now) (g.D.Disk.state c.link_at.new.disk) (λ none. absurd none) (λ none. absurd (cc)) c.in_ok-link.ensures.reads)
    (reads_as g.D.Disk.reveals _ _ _ _ (λ e. search rules) (λ e. search rules) c.in_err-is_linked.ensures.reads)

pub returns-then-not-branch-clause-reads : goal.returns-then-not-branch-clause-reads
returns-then-not-branch-clause-reads g c =
    reads_both g.D.Disk.reveals ⊥ _ (g.D.Disk.state c.args.disk.now) (g.D.Disk.state c.link_at.new.disk) (g.D.Disk.state c.is_linked.new.disk) (λ none. none)
    (reads_as g.D.Disk.reveals _ ⊥ (g.D.Disk.state c.args.disk.now) (g.D.Disk.state c.link_at.new.disk) (λ none. absurd none) (λ none. absurd (cc)) c.in_ok-link.ensures.reads)
    (reads_as g.D.Disk.reveals _ _ _ _ (λ e. absurd (cc)) (λ e. absurd (cc)) c.in_ok-is_linked.ensures.reads)

pub returns-in_err-same-clause-reads : goal.returns-in_err-same-clause-reads
returns-in_err-same-clause-reads g c =
    reads_both g.D.Disk.reveals ⊥ _ (g.D.Disk.state c.args.disk.now) (g.D.Disk.state c.link_at.new.disk) (g.D.Disk.state c.keeps.new.disk) (λ none. none)
    (reads_as g.D.Disk.reveals _ ⊥ (g.D.Disk.state c.args.disk.now) (g.D.Disk.state c.link_at.new.disk) (λ none. absurd none) (λ none. absurd (cc)) c.in_ok-link.ensures.reads)
    (reads_both g.D.Disk.reveals ⊥ _ (g.D.Disk.state c.link_at.new.disk) (g.D.Disk.state c.is_linked.new.disk) (g.D.Disk.state c.keeps.new.disk) (λ none. none)
    (reads_as g.D.Disk.reveals _ ⊥ _ _ (λ none. absurd none) (λ none. absurd (cc)) c.in_ok-is_linked.ensures.reads)
    (reads_as g.D.Disk.reveals _ _ _ _ (λ e. search rules) (λ e. search rules) c.in_err-same.ensures.reads))

pub returns-clause-reads : goal.returns-clause-reads
returns-clause-reads g c =
    reads_both g.D.Disk.reveals ⊥ _ (g.D.Disk.state c.args.disk.now) (g.D.Disk.state c.link_at.new.disk) (g.D.Disk.state c.keeps.new.disk) (λ none. none)
    (reads_as g.D.Disk.reveals _ ⊥ (g.D.Disk.state c.args.disk.now) (g.D.Disk.state c.link_at.new.disk) (λ none. absurd none) (λ none. absurd (cc)) c.in_ok-link.ensures.reads)
    (reads_both g.D.Disk.reveals ⊥ _ (g.D.Disk.state c.link_at.new.disk) (g.D.Disk.state c.is_linked.new.disk) (g.D.Disk.state c.keeps.new.disk) (λ none. none)
    (reads_as g.D.Disk.reveals _ ⊥ _ _ (λ none. absurd none) (λ none. absurd (cc)) c.in_ok-is_linked.ensures.reads)
    (reads_as g.D.Disk.reveals _ _ _ _ (λ e. absurd (cc)) (λ e. absurd (cc)) c.in_ok-same.ensures.reads))

pub returns-then-not-branch-clause-seen : goal.returns-then-not-branch-clause-seen
returns-then-not-branch-clause-seen g c = λ reveals.
    let old = (g.D.Disk.state c.args.disk.now).files in
    let seen = c.in_ok-link.ensures.seen reveals in
    record {
      own = seen_over (g.D.Disk.state c.link_at.new.disk).files old c.args.pair.file _ (sym (c.in_ok-link.ensures.reads.contents reveals)) (c.in_ok-is_linked.ensures.seen reveals);
      twin = seen.twin;
      ledger = seen.ledger;
    }

pub returns-clause-seen : goal.returns-clause-seen
returns-clause-seen g c = λ reveals.
    let old = (g.D.Disk.state c.args.disk.now).files in
    let one = c.in_ok-link.ensures.reads.contents reveals in
    let two = c.in_ok-is_linked.ensures.reads.contents reveals ∙ one in
    record {
      own = seen_over (g.D.Disk.state c.link_at.new.disk).files old c.args.pair.file _ (sym one) (c.in_ok-is_linked.ensures.seen reveals);
      twin = seen_over (g.D.Disk.state c.is_linked.new.disk).files old c.args.pair.other _ (sym two) (c.in_ok-same.ensures.seen reveals);
      ledger = (c.in_ok-link.ensures.seen reveals).ledger;
    }

pub returns-then-not-branch-clause-turn : goal.returns-then-not-branch-clause-turn
returns-then-not-branch-clause-turn g c = λ reveals pieces stands.
    let file = (g.D.Disk.state c.args.disk.now).files c.args.pair.file in
    let end = c.args.stands.now.place + 37 + c.args.len in
    let has : HasPieceAt file (c.args.stands.now.place + 5) c.args.len c.args.stands.now.link c.in-Some.link = (rw c.in-Some.is at c.in_ok-link.ensures.link) reveals in
    let same : (g.D.Disk.state c.link_at.new.disk).files c.args.pair.file ≡ file = ap (λ (f : ℕ → List ℕ). f c.args.pair.file) (c.in_ok-link.ensures.reads.contents reveals) in
    bad_link ((g.D.Disk.state c.args.disk.now).files 0) file pieces c.args.stands.now c.args.len end c.in-Some.link stands c.requires.place (c.requires.head reveals) refl has
    (λ is.
    let there = ap (λ (l : List ℕ). take 32 (drop (end - 32) l)) same ∙ is in
    let yes_ : c.in_ok-is_linked.field-0 ≡ true = (c.in_ok-is_linked.ensures.linked reveals).1 there in
    cc)

pub returns-clause-turn : goal.returns-clause-turn
returns-clause-turn g c = λ reveals pieces stands.
    let ledger = (g.D.Disk.state c.args.disk.now).files 0 in
    let file = (g.D.Disk.state c.args.disk.now).files c.args.pair.file in
    let end = c.args.stands.now.place + 37 + c.args.len in
    let has : HasPieceAt file (c.args.stands.now.place + 5) c.args.len c.args.stands.now.link c.in-Some.link = (rw c.in-Some.is at c.in_ok-link.ensures.link) reveals in
    let same : (g.D.Disk.state c.link_at.new.disk).files c.args.pair.file ≡ file = ap (λ (f : ℕ → List ℕ). f c.args.pair.file) (c.in_ok-link.ensures.reads.contents reveals) in
    let linked = (c.in_ok-is_linked.ensures.linked reveals).0 c.if-not-branch.false in
    let along = (rw c.in-Some.is at c.in_ok-link.ensures.along) reveals in
    read_on ledger file pieces c.args.stands.now _ c.args.len stands c.requires.some.1 (c.requires.head reveals) (c.requires.bytes reveals) has
    (ap (λ (l : List ℕ). take 32 (drop (end - 32) l)) (sym same) ∙ linked) refl refl refl along.in_ledger

pub returns-clause-same : goal.returns-clause-same
returns-clause-same g c = λ reveals.
    let old = (g.D.Disk.state c.args.disk.now).files in
    let file = old c.args.pair.file in
    let other = old c.args.pair.other in
    let at = c.args.stands.now.place + 5 in
    let end = c.args.stands.now.place + 37 + c.args.len in
    let one = c.in_ok-link.ensures.reads.contents reveals in
    let two : (g.D.Disk.state c.is_linked.new.disk).files ≡ old = c.in_ok-is_linked.ensures.reads.contents reveals ∙ one in
    let has : HasPieceAt file at c.args.len c.args.stands.now.link c.in-Some.link = (rw c.in-Some.is at c.in_ok-link.ensures.link) reveals in
    let along = (rw c.in-Some.is at c.in_ok-link.ensures.along) reveals in
    let linked = (c.in_ok-is_linked.ensures.linked reveals).0 c.if-not-branch.false in
    let there : take 32 (drop (end - 32) file) ≡ c.in-Some.link = ap (λ (f : ℕ → List ℕ). take 32 (drop (end - 32) (f c.args.pair.file))) (sym one) ∙ linked in
    let long : length c.in-Some.link ≡ 32 = ap length has.linked ∙ length-link c.args.stands.now.link (take c.args.len (drop at file)) in
    let kept : c.in_ok-same.same ≡ true ↔ ((c.link_at.new.along.same ≡ true) × (take (length c.in-Some.link) (drop (end - 32) other) ≡ c.in-Some.link)) =
    subst (λ (f : ℕ → List ℕ). c.in_ok-same.same ≡ true ↔ ((c.link_at.new.along.same ≡ true) × (take (length c.in-Some.link) (drop (end - 32) (f c.args.pair.other)) ≡ c.in-Some.link))) two (c.in_ok-same.ensures.is reveals) in
    let last : c.in_ok-same.same ≡ true ↔ ((c.link_at.new.along.same ≡ true) × (take 32 (drop (end - 32) other) ≡ take 32 (drop (end - 32) file))) =
    subst (λ (l : List ℕ). c.in_ok-same.same ≡ true ↔ ((c.link_at.new.along.same ≡ true) × (take 32 (drop (end - 32) other) ≡ l))) (sym there)
    (subst (λ (k : ℕ). c.in_ok-same.same ≡ true ↔ ((c.link_at.new.along.same ≡ true) × (take k (drop (end - 32) other) ≡ c.in-Some.link))) long kept) in
    same_both file other at c.args.len 32 (end - 32) (end - at) c.args.had c.link_at.new.along.same c.in_ok-same.same (omega arith) (omega arith) along.same last
