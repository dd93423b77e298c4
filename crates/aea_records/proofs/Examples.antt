-- Fences and raises that are good, and some that are bad.
use Rattle.std.proofs.Common.{◌≡◌, Bool, true, false, [], ◌∷◌, None, Some, refl}
use Rattle.aea_lattice.specs.declared.shape.Shape.{Shape}
use Rattle.aea_records.specs.Known.{Known}
use Rattle.aea_records.specs.Faults.{gate_fault}

-- one object of one node, and no fence
abbrev one : Known
one = record { taken = λ name. false; objects = 1; nodes = 1; fences = []; raised = false }

abbrev empty : Known
empty = record { taken = λ name. false; objects = 0; nodes = 0; fences = []; raised = false }

abbrev full : Bool → Known
full raised = record { taken = λ name. false; objects = 65536; nodes = 1; fences = []; raised = raised }

fence : (shape : Shape) → gate_fault shape one (1 ∷ 2 ∷ 0 ∷ 0 ∷ 0 ∷ 4 ∷ 0 ∷ 0 ∷ 0 ∷ 1 ∷ 0 ∷ []) ≡ None
fence shape = refl

fence_elsewhere : (shape : Shape) → gate_fault shape one (1 ∷ 2 ∷ 0 ∷ 0 ∷ 0 ∷ 4 ∷ 0 ∷ 0 ∷ 0 ∷ 2 ∷ 0 ∷ []) ≡ Some 6
fence_elsewhere shape = refl

kind_3_early : (shape : Shape) → gate_fault shape one (1 ∷ 3 ∷ 0 ∷ 0 ∷ 0 ∷ 4 ∷ 0 ∷ 0 ∷ 0 ∷ 1 ∷ 0 ∷ []) ≡ Some 1
kind_3_early shape = refl

other_length : (shape : Shape) → gate_fault shape one (1 ∷ 2 ∷ 0 ∷ 0 ∷ 0 ∷ 5 ∷ 0 ∷ 0 ∷ 0 ∷ 1 ∷ 0 ∷ []) ≡ Some 2
other_length shape = refl

-- where both are bad the length is judged last
both_bad : (shape : Shape) → gate_fault shape one (1 ∷ 2 ∷ 0 ∷ 0 ∷ 0 ∷ 5 ∷ 0 ∷ 0 ∷ 0 ∷ 2 ∷ 0 ∷ []) ≡ Some 6
both_bad shape = refl

cut_in_length : (shape : Shape) → gate_fault shape one (1 ∷ 2 ∷ 0 ∷ 0 ∷ []) ≡ Some 2
cut_in_length shape = refl

raise : (shape : Shape) → gate_fault shape empty (1 ∷ 4 ∷ 0 ∷ 0 ∷ 0 ∷ 4 ∷ 0 ∷ 16 ∷ 0 ∷ 0 ∷ 0 ∷ []) ≡ None
raise shape = refl

raise_elsewhere : (shape : Shape) → gate_fault shape empty (1 ∷ 4 ∷ 0 ∷ 0 ∷ 0 ∷ 4 ∷ 0 ∷ 32 ∷ 0 ∷ 0 ∷ 0 ∷ []) ≡ Some 6
raise_elsewhere shape = refl

fence_of_nothing : (shape : Shape) → gate_fault shape empty (1 ∷ 2 ∷ 0 ∷ 0 ∷ 0 ∷ 4 ∷ 0 ∷ 0 ∷ 0 ∷ 0 ∷ 0 ∷ []) ≡ Some 6
fence_of_nothing shape = refl

-- after the most objects
full_object : (shape : Shape) (raised : Bool) → gate_fault shape (full raised) (1 ∷ 1 ∷ []) ≡ Some 0
full_object shape raised = refl

full_joined : (shape : Shape) → gate_fault shape (full true) (1 ∷ 3 ∷ []) ≡ Some 0
full_joined shape = refl

full_joined_early : (shape : Shape) → gate_fault shape (full false) (1 ∷ 3 ∷ []) ≡ Some 1
full_joined_early shape = refl

full_fence : (shape : Shape) → gate_fault shape (full false) (1 ∷ 2 ∷ 0 ∷ 0 ∷ 0 ∷ 4 ∷ 0 ∷ 0 ∷ 0 ∷ 1 ∷ []) ≡ None
full_fence shape = refl

full_alone : (shape : Shape) → gate_fault shape (full false) (1 ∷ []) ≡ Some 1
full_alone shape = refl
