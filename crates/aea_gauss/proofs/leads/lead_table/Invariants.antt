use Rattle.std.proofs.Common.{◌≡◌, ◌*◌, ℕ, List, Option, length}
use Rattle.aea_gauss_words.specs.Words.{bit_matrix}
use Rattle.aea_gauss.specs.Revealed.{AreLeads}
use Rattle.aea_gauss.proofs.leads.lead_table.Given as goal

-- the first rows are noted
pub record Noted (row cols count : ℕ) (words : List ℕ) (wide : ℕ) (table : List (Option ℕ)) : Type 0 where
  pub long : length table ≡ count
  pub leads : AreLeads row cols (bit_matrix wide words) table

abbrev pub invariant-loop-row : goal.invariant-loop-row
invariant-loop-row l = Noted l.row (64 * l.wide) l.count l.words l.wide l.leads.items
