-- The longest runs of nodes.
use Rattle.std.proofs.Common.{◌≡◌, ℕ, suc, ◌+◌, List, [], ◌∷◌, ◌++◌, sym, ◌∙◌, ap, refl, arith}
use Rattle.std.specs.Prelude.{◌==◌, sum_by}
use Rattle.std.specs.List.{range_with_len}
use Rattle.std.proofs.lemmas.Bool.{eq-eqb, eqb-true}
use Rattle.std.proofs.lemmas.List.Sums.{sum_by-cons}
use Rattle.aea_catalog.specs.declared.objects.Extent.{Extent}
use Rattle.aea_machine.specs.Machine.{onto_run, runs_of}
use Rattle.aea_machine.specs.Runs.{nodes_in, EndsBefore, AreApart, RunsAreLongest}
use Rattle.aea_machine.proofs.Holding.{choose_list}
use Rattle.aea_machine.proofs.Names.{yes_no}

-- how many nodes runs have
counts : List Extent → ℕ
counts runs = sum_by (λ (e : Extent). e.count) runs

onto_nodes : (i : ℕ) (runs : List Extent) → nodes_in (onto_run i runs) ≡ i ∷ nodes_in runs
onto_nodes i [] = refl
onto_nodes i (e ∷ runs) =
    choose_list (λ r. nodes_in r ≡ i ∷ nodes_in (e ∷ runs)) (suc i == e.first) (record { first = i; count = suc e.count } ∷ runs) (record { first = i; count = 1 } ∷ e ∷ runs)
    (λ yes. ap (λ (k : ℕ). i ∷ (range_with_len k e.count ++ nodes_in runs)) (let h : i + 1 ≡ e.first = omega (arith, eqb-true (suc i) e.first yes) in h))
    (λ no. refl)

onto_counts : (i : ℕ) (runs : List Extent) → counts (onto_run i runs) ≡ suc (counts runs)
unfolding counts
onto_counts i [] = refl
onto_counts i (e ∷ runs) =
    let count : Extent → ℕ = λ f. f.count in
    choose_list (λ r. sum_by count r ≡ suc (sum_by count (e ∷ runs))) (suc i == e.first) (record { first = i; count = suc e.count } ∷ runs) (record { first = i; count = 1 } ∷ e ∷ runs)
    (λ yes. omega (arith, sum_by-cons count (record { first = i; count = suc e.count }) runs, sum_by-cons count e runs))
    (λ no. omega (arith, sum_by-cons count (record { first = i; count = 1 }) (e ∷ runs)))

-- a run that begins one node before still ends before the next
ends_same : (i : ℕ) (e : Extent) (runs : List Extent) → i + 1 ≡ e.first → EndsBefore e runs → EndsBefore (record { first = i; count = suc e.count }) runs
ends_same i e [] is apart = tt
ends_same i e (f ∷ runs) is apart = λ same. apart (let h : e.first + e.count ≡ f.first = omega (arith, is, same) in h)

onto_apart : (i : ℕ) (runs : List Extent) → AreApart runs → AreApart (onto_run i runs)
onto_apart i [] are = (omega arith, tt, tt)
onto_apart i (e ∷ runs) are =
    choose_list (λ r. AreApart r) (suc i == e.first) (record { first = i; count = suc e.count } ∷ runs) (record { first = i; count = 1 } ∷ e ∷ runs)
    (λ yes. (omega arith, ends_same i e runs (let h : i + 1 ≡ e.first = omega (arith, eqb-true (suc i) e.first yes) in h) are.1, are.2))
    (λ no. (omega arith, (λ same. yes_no (sym (eq-eqb (suc i) e.first (let h : suc i ≡ e.first = omega (arith, same) in h)) ∙ no)), are))

pub runs-longest : RunsAreLongest
unfolding counts
runs-longest [] = record { are = refl; many = refl; apart = tt }
runs-longest (i ∷ nodes) =
    let r = runs-longest nodes in
    record {
      are = onto_nodes i (runs_of nodes) ∙ ap (λ (l : List ℕ). i ∷ l) r.are;
      many = onto_counts i (runs_of nodes) ∙ ap (λ (n : ℕ). suc n) r.many;
      apart = onto_apart i (runs_of nodes) r.apart;
    }
