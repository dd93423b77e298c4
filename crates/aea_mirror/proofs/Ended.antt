-- How a sync of a Mirror ends.
use Rattle.std.proofs.Common.{◌≡◌, ◌≢◌, ⊎_elim, inl, inr, ℕ, ◌+◌, Bool, true, false, List, get_or, refl, sym, ap, ◌∙◌, subst}
use Rattle.std.proofs.Props.{props}
use Rattle.std.proofs.Math.Logic.{∥∥₁_elim}
use Rattle.std.specs.Prelude.{Err}
use Rattle.aea_disk.specs.Ends.{copied_end}
use Rattle.aea_disk.specs.State.{State, IsSynced, IsReady, IsSure, KeepsTaking}
use Rattle.aea_mirror.specs.declared.tail.Tail.{Tail}
use Rattle.aea_mirror.specs.declared.further.Further.TheVariants.{Nothing, Until, Broken}
use Rattle.aea_mirror.specs.Guarding.{Guards}
use Rattle.aea_mirror.specs.Extending.{FitsBoth}
use Rattle.aea_mirror.specs.Looking.{IsFurther}
use Rattle.aea_mirror.specs.Mirrored.{Kept, HoldsText, mirror_state}
use Rattle.aea_mirror.proofs.Guards.{good_begun}
use Rattle.aea_mirror.proofs.Syncing.{sync_durable}
use Rattle.aea_mirror.proofs.Leading.{TakesAll, takes_all, not_broken, holds_on, kept_holds, further_fits}

pub on_here : (b : Bool) → (b ≡ false → ⊥) → b ≡ true
on_here true not = refl
on_here false not = absurd (not refl)

pub off_here : (b : Bool) → (b ≡ true → ⊥) → b ≡ false
off_here true not = absurd (not refl)
off_here false not = refl

-- with copies off no copy is good, so the files are shown as they are
pub off_durable : (reveals : Type 0) (s : State) (on : Bool) (end : ℕ) (first second : Tail) (l : Kept) → on ≡ false → (reveals → IsSynced s) → (reveals → ∥ Guards s on end first second ∥₁) → IsSynced (mirror_state reveals s l)
off_durable reveals s on end first second l off synced guards =
    sync_durable reveals s l synced (λ revealed f pieces is good. ∥∥₁_elim (guards revealed) (Prim.hlevel props) (λ was. absurd ((was.off off).none f is (good_begun pieces (s.files f) good))))

-- an answer that never comes of what is taken
pub never_sure : {T E : Type 0} (taken fits : Type 0) (old new : State) (e : E) → (taken → ⊥) → IsSure {T = T} taken fits old new (Err e)
never_sure taken fits old new e not = record { sure = λ is. absurd (not is); beneath = λ is. absurd (not is); goes = tt }

-- what is taken is a list of whole records
pub broken_never : (reveals : Type 0) (r s : State) (k : Kept) (first second : Tail) → k.on ≡ true → (reveals → s.files 0 ≡ r.files 0) → (reveals → ∥ Guards s true k.end first second ∥₁)
    → (reveals → (before : ℕ) → first.gate ≡ copied_end (before + 1) k.end → IsFurther (s.files 0) before k.end Broken) → reveals × IsReady (mirror_state reveals r k) → ⊥
broken_never reveals r s k first second on same guards broken is =
    not_broken s k.end first second (guards is.0) (subst (TakesAll k.end) (sym (same is.0)) (takes_all reveals r k on is.1)) (broken is.0)

-- and can be written
pub none_never : (reveals : Type 0) (r s : State) (k : Kept) (last : ℕ) (first second : Tail) → (reveals → ∥ Guards s true k.end first second ∥₁)
    → (reveals → (before : ℕ) → first.gate ≡ copied_end (before + 1) k.end → IsFurther (s.files 0) before k.end (Until last))
    → (reveals → (more : List (List ℕ)) → FitsBoth first second more k.end last (s.files 0) → ⊥) → reveals × IsReady (mirror_state reveals r k) → ⊥
none_never reveals r s k last first second guards further none is =
    ∥∥₁_elim (guards is.0) (λ a b. absurd a) (λ was.
    let are = was.are refl in
    let here = kept_holds s k.end first second are in
    let more = further is.0 here.0.records here.1 in
    let pieces = further_fits s k.end last first second are here.0.records more.0 here.1 more.1 in
    none is.0 pieces.0 pieces.1)

-- what is taken stays taken, with all of the ledger as the kept text
pub takes_on : (reveals : Type 0) (r s n : State) (k l : Kept) (first second : Tail) → k.on ≡ true → l.on ≡ k.on → l.dead ≡ false → (reveals → s.files 0 ≡ r.files 0) → (reveals → n.files 0 ≡ r.files 0) → (reveals → ∥ Guards s true k.end first second ∥₁)
    → (reveals → (before : ℕ) → first.gate ≡ copied_end (before + 1) k.end → IsFurther (s.files 0) before k.end (Until l.end)) → KeepsTaking (mirror_state reveals r k) (mirror_state reveals n l)
takes_on reveals r s n k l first second on stays alive before after guards further file b at has = record {
  revealed = has.revealed;
  sound = record {
    alive = alive;
    text = λ is.
        let text = subst (HoldsText k.end) (sym (before has.revealed)) (has.sound.text on) in
        subst (HoldsText l.end) (before has.revealed ∙ sym (after has.revealed)) (holds_on s k.end l.end first second (guards has.revealed) text (further has.revealed));
  };
  near = has.near;
  allowed = ⊎_elim (λ (off : k.on ≡ false). inl (stays ∙ off)) (λ rest. inr rest) has.allowed;
}

-- the gate at the end of the kept text is closed, where nothing more was found
pub shut_at_end : (b s : State) (end : ℕ) (first second : Tail) → s.files 0 ≡ b.files 0 → ∥ Guards s true end first second ∥₁
    → ((before : ℕ) → first.gate ≡ copied_end (before + 1) end → IsFurther (b.files 0) before end Nothing) → get_or (s.files 0) end 0 ≢ 1
shut_at_end b s end first second same guards found opened =
    ∥∥₁_elim guards (λ x y. absurd x) (λ was.
    let here = kept_holds s end first second (was.are refl) in
    (found here.0.records here.1).shut (ap (λ (l : List ℕ). get_or l end 0) (sym same) ∙ opened))

-- and that at the end of the further records
pub shut_at_last : (s : State) (end last : ℕ) (first second : Tail) → ∥ Guards s true end first second ∥₁
    → ((before : ℕ) → first.gate ≡ copied_end (before + 1) end → IsFurther (s.files 0) before end (Until last)) → get_or (s.files 0) last 0 ≡ 1 → ⊥
shut_at_last s end last first second guards found opened =
    ∥∥₁_elim guards (λ x y. absurd x) (λ was.
    let here = kept_holds s end first second (was.are refl) in
    (found here.0.records here.1).1.shut opened)
