-- The refusals of a close that a session finds.
use Rattle.std.proofs.Common.{◌≡◌, ◌≢◌, ℕ, ◌<◌, ◌≤◌, [], ◌++◌, length, Option, None, Some, Result, Ok, Err, refl, sym, ◌∙◌, ap, subst, arith}
use Rattle.std.specs.Prelude.{slice_index_or}
use Rattle.std.specs.FinMap.{len}
use Rattle.aea_records.specs.Format.{greatest_objects, raised_limit}
use Rattle.aea_messages.specs.declared.message.Message.TheVariants.{Close}
use Rattle.aea_machine.specs.Refusals.{refused_by}
use Rattle.aea_machine.specs.Machine.{Machine, Step, Full, stays, step, in_slot, slots_count, last_block}
use Rattle.aea_machine.specs.declared.refusal.Refusal.{Refusal}
use Rattle.aea_uploads.specs.declared.slot.Slot.{Slot}
use Rattle.aea_uploads.specs.Laws.{FilledAreCounted}
use Rattle.aea_session.specs.declared.work.Work.{Work}
use Rattle.aea_session.specs.Stands.{IsKept, KeepsMachine, StandsFor}
use Rattle.aea_session.specs.Steps.{MakesStep, closed_by}
use Rattle.aea_session.proofs.CloseSteps.{step-full}
use Rattle.aea_session.proofs.CloseWoven.{there_is, rest_one, heads_now}

-- where the heads are at the limit a close with a rest is refused, with as many nodes as there are
pub full_is : FilledAreCounted → (v : Work) (m : Machine) (slot : ℕ) (s : Slot) → KeepsMachine v m → slot < slots_count → slice_index_or v.slots slot None ≡ Some s → len v.ledger.objects ≢ greatest_objects
    → 1 ≤ s.have → raised_limit ≤ v.heads.lattice.n → step v.ledger.shape m (Close slot) ≡ stays m (Full v.heads.lattice.n)
full_is counted v m slot s kept below there few some full =
    let has = there_is v.ledger.shape (m.datas ++ m.woven) s (in_slot m slot) (subst (λ (o : Option Slot). IsKept v.ledger.shape (m.datas ++ m.woven) o (in_slot m slot)) there (kept.slots slot)) in
    let now = heads_now v m kept in
    let keeps = has.2 in
    let count : length (last_block v.ledger.shape has.0) ≡ 1 = (counted v.ledger.shape (m.datas ++ m.woven) s has.0 [] kept.wide keeps).1 ∙ rest_one v.ledger.shape s.have keeps.less some in
    step-full v.ledger.shape m slot has.0 below has.1 (λ e. few (ap len (sym kept.objects) ∙ e)) (omega (arith, full, now, count))
    ∙ ap (λ (n : ℕ). stays m (Full n)) (sym now)

-- the refusal of a result, or another one
abbrev refusal_in : {T : Type 0} → Refusal → Result T Refusal → Refusal
refusal_in other (Ok x) = other
refusal_in other (Err refusal) = refusal

-- refusals of equal results are equal
pub refusal_is : {T : Type 0} (x y : Refusal) → ◌≡◌ {A = Result T Refusal} (Err x) (Err y) → x ≡ y
refusal_is x y e = ap (refusal_in x) e

-- a refusal is the step of the machine, and leaves what is kept
pub refused_step : (v : Work) (slot : ℕ) (refusal : Refusal) → ((m : Machine) → KeepsMachine v m → step v.ledger.shape m (Close slot) ≡ stays m (refused_by refusal)) → MakesStep closed_by v v (Close slot) (Err refusal)
refused_step v slot refusal is m kept =
    let same = is m kept in
    record {
      answer = ap (λ (s : Step). s.answer) same;
      keeps = subst (λ (s : Step). KeepsMachine v s.state) (sym same) kept;
      stands = λ stands. subst (λ (s : Step). StandsFor v s.state) (sym same) stands;
      shape = refl;
    }
