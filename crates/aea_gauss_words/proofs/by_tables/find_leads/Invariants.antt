use Rattle.aea_gauss_words.specs.Tables.{AreGroupLeads}
use Rattle.aea_gauss_words.proofs.by_tables.find_leads.Given as goal

abbrev pub invariant-loop-s : goal.invariant-loop-s
invariant-loop-s l = AreGroupLeads l.wide l.words l.lo l.s l.leads
